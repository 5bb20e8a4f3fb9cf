-- What is known of a frame that waited for a call where what it is given comes back.
use Rattle.std.specs.Prelude.{◌≡◌, ◌^◌, ◌+◌, ◌≤◌, ℕ, true, false, List, [], ◌∷◌, Option, Some, slice_get}
use Rattle.life_types.specs.Trees.{IsOrdered}
use Rattle.life_types.specs.Types.{HasEachOnce, Types, is_slot_at}
use Rattle.life_types.specs.declared.ty.TyId.{TyId}
use Rattle.life_core.specs.declared.program.Local.{Local}
use Rattle.life_core.specs.Function.{Function}
use Rattle.life_core.specs.Operands.{Argument, Location, Slot}
use Rattle.life_proper.specs.WellFormed.{are_arguments_for}
use Rattle.life_store.specs.Calls.{slots_returned, target_given}
use Rattle.life_store.specs.Content.{Content}
use Rattle.life_store.specs.Effects.{Effect, Next, Setting, on_next}
use Rattle.life_store.specs.Parts.{width_at}
use Rattle.life_store.specs.References.{Rows}
use Rattle.life_store.specs.State.{Cell, Empty, Named, State, ready_of}
use Rattle.life_forest.specs.Frames.{named_in}
use Rattle.life_forest.specs.Owned.{times}
use Rattle.life_forest.specs.Settled.{KindsFit}
use Rattle.life_forest.proofs.GivenSlots.{slot_types}
use Rattle.life_forest.proofs.HandedOver.{AreHandedTo}
use Rattle.life_forest.proofs.HeldPoints.{IsSound}
use Rattle.life_forest.proofs.Shaped.{IsShaped}
use Rattle.life_forest.proofs.SlotsGo.{AreSlotsThere}
use Rattle.life_cells.specs.Typed.{HoldsPointer}
use Rattle.life_cells.specs.declared.cell.Cell as machine
use Rattle.life_slots.specs.Slots.{CanGiveBack}

-- the slots have their values back, and then the target the result
abbrev pub back_given : Setting → Types → Function → List Argument → List Cell → Option Location → List Cell → State → Effect
back_given s types f xs vs target first st = on_next (slots_returned types f xs vs st) (target_given s types f target first)

-- ---- slots

-- an argument that is a slot can have the value back
abbrev pub CanReturn : Types → Function → Argument → Option machine.Cell → Content → Rows → List machine.Cell → Type 0
CanReturn types f (Slot l) (Some v) c rows cells = CanGiveBack types f l v c rows cells
CanReturn types f x v c rows cells = Unit {0}

-- the frame of a function is sound, with these values for its slots in the hand
pub record Returning (types : Types) (f : Function) (xs : List Argument) (vs : List Cell) (st : State) : Type 0 where
  pub texts : ℕ
  pub fs : List Function
  pub ordered : IsOrdered types
  pub once : HasEachOnce types
  pub narrow : (ty : TyId) → width_at types ty ≤ 2 ^ 32
  pub shaped : IsShaped types f
  pub kinds : KindsFit types f
  pub rest : ℕ → ℕ
  pub ids : List TyId
  pub formed : are_arguments_for types texts fs f ids xs ≡ true
  pub suit : AreHandedTo types st.world.content (slot_types types ids) vs
  pub sound : IsSound types f (λ k. times (named_in vs) k + rest k) st
  pub there : AreSlotsThere (ready_of st) xs

-- ---- the target

-- a member is one of a pointer, and an object goes to a local that is no slot
pub record TakesResult (types : Types) (f : Function) (target : Option Location) (first : List Cell) (st : State) : Type 0 where
  pub holds : (l : Location) → target ≡ Some l → HoldsPointer types f l st
  pub free : (l : Location) (lo : Local) (n : ℕ) → target ≡ Some l → l.members ≡ [] → slice_get f.locals l.local ≡ Some lo → first ≡ Named n ∷ [] → is_slot_at types lo.ty ≡ false
  pub some : (first ≡ Empty ∷ []) → ⊥

-- .. where the slots have their values
abbrev pub TakesBack : Types → Function → List Argument → List Cell → Option Location → List Cell → State → Type 0
TakesBack types f xs vs target first st = (st' : State) → slots_returned types f xs vs st ≡ Next st' → TakesResult types f target first st'
