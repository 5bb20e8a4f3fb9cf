-- What may be without its buffer in a frame isn't handed over at a call where nothing is diagnosed: no argument points there, and it isn't given over, so
-- the callee doesn't come to it.
use Rattle.std.proofs.Common.{◌≡◌, ◌≢◌, inl, inr, ℕ, ◌+◌, ◌<◌, true, List, Option, Some, sym, ap, subst, ◌∙◌, arith}
use Rattle.std.specs.Prelude.{Contains, flat_map, slice_get}
use Rattle.life_types.specs.Types.{Types}
use Rattle.life_types.specs.declared.place.Place.{Place}
use Rattle.life_core.specs.declared.program.FnId.{FnId}
use Rattle.life_core.specs.Function.{Function}
use Rattle.life_core.specs.Operands.{Argument, Location}
use Rattle.life_core.specs.Step.{Call}
use Rattle.life_pset.specs.Elements.{local_place}
use Rattle.life_pset.specs.Shapes.{is_variable_place}
use Rattle.life_pset.specs.declared.element.AbsPlace.{AbsPlace}
use Rattle.life_pset.specs.declared.element.Element.TheVariants as element
use Rattle.life_pset.specs.declared.element.Fact.{Fact}
use Rattle.life_pset.specs.declared.element.Root.{Root}
use Rattle.life_contract.specs.Signatures.{Signature, signature_of}
use Rattle.life_proper.specs.GivenOver.{given_argument}
use Rattle.life_rules.specs.Matching.{fact_at}
use Rattle.life_store.specs.Calls.{lent}
use Rattle.life_store.specs.Effects.{cell}
use Rattle.life_store.specs.State.{Cell, Named, State}
use Rattle.life_store.proofs.MapLemmas.{one_or_apart}
use Rattle.life_forest.specs.Frames.{named_in}
use Rattle.life_forest.specs.Kinds.{kinds_of}
use Rattle.life_forest.specs.Owned.{times}
use Rattle.life_forest.proofs.HandedOver.{HandEach}
use Rattle.life_forest.proofs.Shaped.{IsShaped}
use Rattle.life_forest.proofs.Steps.{alive_le}
use Rattle.life_cover.specs.Inputs.{StandsAt, entry_inputs}
use Rattle.life_cover.specs.Kills.{IsUnnamed}
use Rattle.life_cover.specs.Lacking.{IsLoose, IsMovedFrom, MayLack}
use Rattle.life_cover.specs.Regions.{Region}
use Rattle.life_cover.proofs.Arguments.{AreAimedBy, AreSlotless, IsAimedBy}
use Rattle.life_cover.proofs.CallKinds.{given_named}
use Rattle.life_cover.proofs.CalledRight.{not_moved}
use Rattle.life_cover.proofs.GivenInputs.{is_entered, stood}
use Rattle.life_cover.proofs.KnownFrames.{IsKnownFrame, IsRight, object_named}
use Rattle.life_cover.proofs.Lacking.{place_held, place_moved, variable_here}
use Rattle.life_cover.proofs.Locals.{named_unowned, two_named}
use Rattle.life_cover.proofs.Making.{IsItsPath, fact_path}
use Rattle.life_contract.specs.Located.{located}
use Rattle.life_cover.proofs.PointerInputs.{in_signature}

module _ (types : Types) (f : Function) (rest : ℕ → ℕ) (inputs : Root → Option Region) (S : Fact → Type 0) (st : State) (k : IsKnownFrame types f rest inputs S st) (sigs : List Signature) (number : ℕ) (place : Place) (S' : Fact → Type 0) (target : Option Location) (g : FnId) (xs : List Argument)
    (right : IsRight sigs types number f place (Call target g xs) S S') (values : List Cell) (gf : Function) (at_g : slice_get sigs g.0 ≡ Some (signature_of gf)) (shaped : IsShaped types gf) (aims : AreAimedBy types f inputs S st xs gf values)
    (over : (n : ℕ) → 0 < times (named_in values) n → (x : ℕ) × (cell st x ≡ Some (Named n)) × IsUnnamed S x) (slotless : AreSlotless xs) (each : HandEach types f st xs values)
    (hand : (j : ℕ) → times (named_in (lent types f xs st).cells) j + times (named_in values) j ≡ times (named_in st.cells) j) (n : ℕ) where
  -- where an input of the callee stands an argument points
  module _ (r : Root) (a : Region) (stands : StandsAt (entry_inputs types gf st.world.content values) r a) where
    abbrev aim : IsAimedBy types f inputs S st xs gf (is_entered types gf st.world.content values r a stands).input (is_entered types gf st.world.content values r a stands).target
    aim = aims (is_entered types gf st.world.content values r a stands).input (is_entered types gf st.world.content values r a stands).target (is_entered types gf st.world.content values r a stands).among (is_entered types gf st.world.content values r a stands).handed

    -- which is to nothing that nobody comes to
    loose_elsewhere : IsLoose types inputs (named_in st.cells) st.world.content n → a.object ≢ n
    loose_elsewhere loose same =
        place_held types f rest inputs S st k aim.place a (stood types f rest inputs S st k sigs number place S' target g xs right values gf at_g shaped aims over r a stands)
        (subst (IsLoose types inputs (named_in st.cells) st.world.content) (sym same) loose)

    -- nor to what was moved from
    moved_elsewhere : IsMovedFrom types f S st.cells n → a.object ≢ n
    moved_elsewhere moved same =
        not_moved sigs types number f place S target g xs (signature_of gf) at_g right.clean_of_two (is_entered types gf st.world.content values r a stands).input (in_signature types k.ordered gf (is_entered types gf st.world.content values r a stands).input (is_entered types gf st.world.content values r a stands).among) (located aim.from) aim.place aim.argument aim.fact
        (subst (λ (p : AbsPlace). is_variable_place types f p ≡ true) (sym there) (variable_here types f rest inputs S st k moved.local n moved.names moved.owner)) moved.cause
        (subst (λ (p : AbsPlace). S (fact_at p (element.Moved moved.cause))) (sym there) moved.holds)
      where
        here : IsMovedFrom types f S st.cells a.object
        here = record { local = moved.local; names = moved.names ∙ ap (λ i. Some (Named i)) (sym same); owner = moved.owner; cause = moved.cause; holds = moved.holds }

        its : IsItsPath aim.place
        its = fact_path types k.ordered f k.shaped k.short st.world.content st.cells (object_named types f rest inputs S st k) inputs k.given.each (located aim.from) aim.place (right.closed.of (fact_at (located aim.from) (element.At aim.place)) aim.fact)

        there : aim.place ≡ local_place moved.local
        there = place_moved types f rest inputs S st k aim.place a (stood types f rest inputs S st k sigs number place S' target g xs right values gf at_g shaped aims over r a stands) its here

  -- a local that was moved from isn't given over
  not_given : (moved : IsMovedFrom types f S st.cells n) → (x : ℕ) × Contains (flat_map given_argument xs) x × (cell st x ≡ Some (Named n)) → ⊥
  not_given moved o = one_or_apart o.0 moved.local
      (λ same. right.unmoved moved.local moved.owner (subst (Contains (flat_map given_argument xs)) same o.1) moved.cause moved.holds)
      (λ ne.
      let two = two_named st.cells o.0 moved.local n ne o.2 moved.names in
      let held = k.stands.store.forest.held n in
      let alive = alive_le (kinds_of types) st.world.content n in
      omega (arith, two, held, alive))

  pub handed_loose : MayLack types f inputs S st n → IsLoose types (entry_inputs types gf st.world.content values) (named_in values) st.world.content n
  handed_loose (inl moved) =
      let v = k.stands.frame.objects moved.local n moved.names in record {
        born = k.stands.store.forest.births n v.object v.there;
        unnamed = one_or_apart (times (named_in values) n) 0 (λ z. z) (λ nz. absurd (not_given moved (given_named types f st xs values slotless each n (omega (arith, nz)))));
        spared = λ r a stands. moved_elsewhere r a stands moved;
        unowned = λ j own. named_unowned types f rest st k.stands.store k.stands.frame moved.local n j moved.names own;
      }
  handed_loose (inr loose) = record {
    born = loose.born;
    unnamed = (let h = hand n in let z = loose.unnamed in omega (arith, h, z));
    spared = λ r a stands. loose_elsewhere r a stands loose;
    unowned = loose.unowned;
  }
