-- A call hands over no slot where none is taken.
use Rattle.std.proofs.Common.{◌≡◌, ℕ, true, false, List, sym, ◌∙◌}
use Rattle.std.proofs.lemmas.Bool.{and_parts, false≢true}
use Rattle.life_types.specs.Types.{Types, is_slot_at}
use Rattle.life_types.specs.declared.ty.TyId.{TyId}
use Rattle.life_core.specs.Function.{Function}
use Rattle.life_core.specs.Operands.{Location, Slot}
use Rattle.life_proper.specs.WellFormed.{is_argument_for}

-- what is no slot is handed none
pub slot_handed : (types : Types) (texts : ℕ) (fs : List Function) (f : Function) (id : TyId) (l : Location) → is_slot_at types id ≡ false → is_argument_for types texts fs f id (Slot l) ≡ true → ⊥
slot_handed types texts fs f id l slotless e = false≢true (sym slotless ∙ (and_parts (is_slot_at types id) _ e).0)
