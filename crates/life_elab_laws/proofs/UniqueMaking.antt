-- What `std::make_unique` makes a unique_ptr own: a number, or what stands there at first.
use Rattle.std.proofs.Common.{◌≡◌, ℕ, true, List, None, refl, sym, subst}
use Rattle.life_writer.specs.Around.{Around, type_of}
use Rattle.life_typed.specs.TypedForm.{Form, nothing, typed}
use Rattle.life_core.specs.Function.{Function}
use Rattle.life_elab_laws.proofs.Parts.{Makes, leaf_part, seen_part}
use Rattle.life_types.specs.declared.place.Place.{Place}
use Rattle.life_elab_laws.proofs.Setting.{Setting}
use Rattle.life_elab_laws.proofs.ExpressionForms.{IsWhole, Standing}
use Rattle.life_types.specs.declared.ty.Ty.{Ty}
use Rattle.life_types.specs.declared.ty.TyId.{TyId}
use Rattle.life_core.specs.declared.instr.Made.TheVariants as made
use Rattle.life_types.specs.Types.{Types}
use Rattle.life_writer.specs.Uses.{Uses}
use Rattle.life_elab_laws.proofs.UniqueSteps.{a_made, number_fits, zero_fits}
use Rattle.life_elab_laws.proofs.Gifts.{a_number, nothing as no_gift}
use Rattle.life_writer.specs.Giving.{given_over}
use Rattle.life_well_typed.specs.Given.{is_number}
use Rattle.life_types.specs.TypeTests.{is_value}
use Rattle.life_writer.specs.Writing.{Gives, State, mapped}
use Rattle.life_writer.specs.OwnerForms.{owned_operand}
use Rattle.life_elab_laws.proofs.Values.{by_values}
use Rattle.life_types.specs.Pointees.{ty_of}
use Rattle.life_typed.specs.BaseTypes.{type_at}
use Rattle.life_typed.specs.declared.typed_expr.Category.{Category}
use Rattle.life_typed.specs.declared.typed_expr.ExprType.{ExprType}
use Rattle.life_writer.specs.ExpressionForms.{uses, uses_if}
use Rattle.life_writer.specs.Using.{value}

module _ (a : Around) (visible : List ℕ) (types : Types) (texts : ℕ) (fs : List Function) (f : Function) (setting : Setting a types fs f) where
  -- what one to this type is made to own
  pub record IsOwnedBy (target id : TyId) (argument : Form) (closing : Place) : Type 0 where
    pub makes : (s : State) → Standing a visible types texts fs f setting s → Makes types texts fs f None s (owned_operand (type_of a id) (uses_if a argument) closing s) (a_made types texts fs f target)

  -- a number that is given over stays where it is
  over : (e : Uses) (closing : Place) (t : Ty) → is_value t ≡ true → ◌≡◌ {A = State → Gives ℕ} (given_over e t closing) (value e closing t None)
  over e closing = by_values (λ t. ◌≡◌ {A = State → Gives ℕ} (given_over e t closing) (value e closing t None)) refl refl refl refl refl

  -- what stands there at first
  pub zero_owned : (target id : TyId) (closing : Place) → IsOwnedBy target id nothing closing
  zero_owned target id closing = record {
    makes = λ s stands. leaf_part types texts fs f made.Zero s (a_made types texts fs f target) (λ b. zero_fits types texts fs f target) (λ b k alive. tt);
  }

  -- a number
  pub number_owned : (target id : TyId) (closing place : Place) (t : ExprType) (c : Category) (form : Form) → ty_of types target ≡ type_at a.program.types id → is_value (type_at a.program.types id) ≡ true → is_number t ≡ true
      → IsWhole a visible types texts fs f setting (typed place t c form) → IsOwnedBy target id (typed place t c form) closing
  number_owned target id closing place t c form later v number is =
      let u = uses a (typed place t c form) in
      let w = type_at a.program.types id in
      record {
        makes = λ s stands.
            subst (λ (g : State → Gives ℕ). Makes types texts fs f None s (mapped made.Of (g s)) (a_made types texts fs f target)) (sym (over u closing w v))
            (seen_part types texts fs f (no_gift types texts fs f) tt None s (value u closing w None s) (a_number types texts fs f w) made.Of (a_made types texts fs f target)
            (is.valued number closing w v None s tt stands)
            (λ b number. number_fits types texts fs f target w (value u closing w None s).given later v number) (λ n k q. (q, tt)));
      }
