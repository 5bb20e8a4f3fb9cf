-- Owners at places that may be changed.
use Rattle.std.proofs.Common.{◌≡◌, ℕ, Bool, false, List, None, sym, subst}
use Rattle.life_types.specs.Types.{Types}
use Rattle.life_core.specs.Function.{Function}
use Rattle.life_core.specs.Operands.{Operand}
use Rattle.life_typed.specs.TypedForm.{Form}
use Rattle.life_writer.specs.Around.{Around}
use Rattle.life_writer.specs.ExpressionForms.{uses}
use Rattle.life_writer.specs.Using.{operand}
use Rattle.life_writer.specs.Writing.{Gives, State}
use Rattle.life_elab_laws.proofs.ExpressionForms.{Standing}
use Rattle.life_elab_laws.proofs.Gifts.{a_place}
use Rattle.life_elab_laws.proofs.ObjectForms.{IsObject, IsOwner}
use Rattle.life_elab_laws.proofs.Parts.{Makes}
use Rattle.life_elab_laws.proofs.PointerForms.{placed_operand}
use Rattle.life_elab_laws.proofs.Setting.{Setting}

module _ (a : Around) (visible : List ℕ) (types : Types) (texts : ℕ) (fs : List Function) (f : Function) (setting : Setting a types fs f) where
  -- one in a temporary too
  pub owner_part : (base : Form) (is : IsOwner a visible types texts fs f setting base) → is.constant ≡ false → (s : State) → Standing a visible types texts fs f setting s
      → Makes types texts fs f None s (operand (uses a base) s) (a_place types texts fs f is.ty false)
  owner_part base is free s stands = subst (λ (b : Bool). Makes types texts fs f None s (operand (uses a base) s) (a_place types texts fs f is.ty b)) free (is.names s stands)

  module _ (base : Form) (is : IsObject a visible types texts fs f setting base) (free : is.constant ≡ false) where
    -- the owner itself
    pub object_part : (s : State) → Standing a visible types texts fs f setting s → Makes types texts fs f None s (operand (uses a base) s) (a_place types texts fs f is.ty false)
    object_part s stands =
        subst (λ (w : Gives Operand). Makes types texts fs f None s w (a_place types texts fs f is.ty false)) (sym (placed_operand a visible types texts fs f setting base is.id is.constant s is.place))
        (subst (λ (b : Bool). Makes types texts fs f None s ((uses a base).at s) (a_place types texts fs f is.ty b)) free (is.names s stands))
