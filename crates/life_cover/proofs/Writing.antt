-- An owner that a frame changes where nothing is diagnosed lies in a local, or behind a mutating input.
use Rattle.std.proofs.Common.{◌≡◌, ℕ, List, Option, Some, true, false, refl}
use Rattle.std.specs.Prelude.{slice_get}
use Rattle.life_types.specs.Types.{Types}
use Rattle.life_types.specs.declared.place.Place.{Place}
use Rattle.life_types.specs.declared.ty.TyId.{TyId}
use Rattle.life_core.specs.Function.{Function}
use Rattle.life_core.specs.Operands.{Operand}
use Rattle.life_core.specs.Step.{Change, Changes}
use Rattle.life_pset.specs.declared.element.Fact.{Fact}
use Rattle.life_pset.specs.declared.element.Root.{Root}
use Rattle.life_contract.specs.Signatures.{Signature}
use Rattle.life_proper.specs.Placed.{is_const_place}
use Rattle.life_store.specs.State.{State}
use Rattle.life_cover.specs.Inputs.{StandsAt, may_change, owning}
use Rattle.life_cover.specs.Regions.{Region, owned_in_type}
use Rattle.life_cover.proofs.InputPlaces.{owner_holds}
use Rattle.life_cover.proofs.KnownFrames.{IsKnownFrame, IsRight}
use Rattle.life_cover.proofs.Reaching.{IsReached}
use Rattle.life_cover.proofs.Unkept.{reached_owning}

module _ (types : Types) (f : Function) (rest : ℕ → ℕ) (inputs : Root → Option Region) (S : Fact → Type 0) (st : State) (k : IsKnownFrame types f rest inputs S st) (sigs : List Signature) (n : ℕ) (place : Place) (S' : Fact → Type 0) (o : Operand) (free : is_const_place types f o ≡ false) where
  pub change_owning : {c : Change} {item : TyId} → IsRight sigs types n f place (Changes o c) S S' → (r : IsReached types f st (StandsAt inputs) (may_change types f) S o) → owned_in_type types (slice_get types.types r.region.ty.0) ≡ Some item → owning types f r.place.root ≡ true
  change_owning {c = c} {item = item} right r type = reached_owning sigs types n f place (Changes o c) S right.clean o (λ x. refl) k.ordered inputs st k.given.each r (r.change free) (owner_holds types k.ordered r.region.ty item type)
