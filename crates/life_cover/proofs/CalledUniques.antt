-- The unique_ptrs of a frame have what they had behind a call, but for what is given over: no input of the callee is one.
use Rattle.std.proofs.Common.{◌≡◌, ℕ, ◌+◌, true, List, Option, Some, refl, sym, subst, ◌∙◌, arith}
use Rattle.std.specs.Prelude.{Contains}
use Rattle.std.specs.List.{list_any}
use Rattle.std.proofs.lemmas.Bool.{false≢true}
use Rattle.life_types.specs.TypeTests.{is_unique}
use Rattle.life_types.specs.Types.{Types}
use Rattle.life_core.specs.Function.{Function}
use Rattle.life_core.specs.Operands.{Argument, Location}
use Rattle.life_pset.specs.declared.element.Fact.{Fact}
use Rattle.life_pset.specs.declared.element.Root.{Root}
use Rattle.life_proper.specs.Placed.{type_in}
use Rattle.life_store.specs.Calls.{lent}
use Rattle.life_store.specs.Content.{Content}
use Rattle.life_store.specs.Effects.{cell}
use Rattle.life_store.specs.State.{Cell, Named, State, is_there}
use Rattle.life_forest.specs.Forest.{Touches}
use Rattle.life_forest.specs.Frames.{named_in}
use Rattle.life_forest.specs.Kinds.{kinds_of}
use Rattle.life_forest.specs.Owned.{times}
use Rattle.life_forest.proofs.Below.{positive_is}
use Rattle.life_forest.proofs.Following.{in_hand}
use Rattle.life_forest.proofs.Steps.{alive_le}
use Rattle.life_cover.specs.Inputs.{entry_inputs, foot_with, mutated}
use Rattle.life_cover.specs.Regions.{IsPart, Region, is_in_region}
use Rattle.life_cover.specs.Uniques.{had_at, word_in}
use Rattle.life_cover.proofs.Arguments.{AreAimedBy}
use Rattle.life_cover.proofs.GivenInputs.{is_entered}
use Rattle.life_cover.proofs.KnownFrames.{IsKnownFrame, store_of}
use Rattle.life_cover.proofs.Mutated.{mutated_from, which_passes}
use Rattle.life_cover.proofs.Opening.{place_part}
use Rattle.life_cover.proofs.OtherTypes.{IsOther, pointed_other}
use Rattle.life_cover.proofs.UniquesStay.{had_on, not_in, not_true}

module _ (types : Types) (f : Function) (rest : ℕ → ℕ) (inputs : Root → Option Region) (S : Fact → Type 0) (st : State) (k : IsKnownFrame types f rest inputs S st) (gf : Function) (xs : List Argument) (values : List Cell)
    (aims : AreAimedBy types f inputs S st xs gf values) where
  -- what the callee may change behind its inputs
  mutated_other : (a : Region) → Contains (mutated types gf (entry_inputs types gf st.world.content values)) a → IsPart types st.world.content a × IsOther types a.ty
  mutated_other a among =
      let m = mutated_from types gf (entry_inputs types gf st.world.content values) a among in
      let e = is_entered types gf st.world.content values m.0 a m.1 in
      let aim = aims e.input e.target e.among e.handed in
      let same : aim.points.region ≡ a = sym (aim.object e.object e.there) ∙ e.is in (
        subst (IsPart types st.world.content) same (place_part types f rest inputs S st k aim.place aim.points.region aim.points.lies),
        subst (λ (r : Region). IsOther types r.ty) same (pointed_other types f rest inputs S st k aim.from aim.points.region.ty aim.points.type),
      )

  pub had_called : ((y : ℕ) (v : Cell) → is_there v ≡ true → cell (lent types f xs st) y ≡ Some v → cell st y ≡ Some v) → ((j : ℕ) → times (named_in (lent types f xs st).cells) j + times (named_in values) j ≡ times (named_in st.cells) j)
      → (d : Content) → Touches (kinds_of types) (foot_with types (mutated types gf (entry_inputs types gf st.world.content values)) (named_in values)) st.world.content d
      → (l : Location) (n : ℕ) → cell (lent types f xs st) l.local ≡ Some (Named n) → is_unique (type_in types f l) ≡ true → had_at d n (word_in types f l) ≡ had_at st.world.content n (word_in types f l)
  had_called less hand d touch l n e unique =
      had_on types f rest inputs S st k l n named unique (foot_with types (mutated types gf (entry_inputs types gf st.world.content values)) (named_in values)) d touch not_handed
      (not_true (list_any (λ a. is_in_region types a n (word_in types f l)) (mutated types gf (entry_inputs types gf st.world.content values))) not_mutated)
    where
      named : cell st l.local ≡ Some (Named n)
      named = less l.local (Named n) refl e

      not_handed : (foot_with types (mutated types gf (entry_inputs types gf st.world.content values)) (named_in values)).whole n ≡ true → ⊥
      not_handed h =
          let over = positive_is (times (named_in values) n) h in
          let left = in_hand (lent types f xs st).cells l.local n e in
          let all = hand n in
          let held = (store_of types f rest inputs S st k).forest.held n in
          let one = alive_le (kinds_of types) st.world.content n in
          omega (arith, over, left, all, held, one)

      not_mutated : list_any (λ a. is_in_region types a n (word_in types f l)) (mutated types gf (entry_inputs types gf st.world.content values)) ≡ true → ⊥
      not_mutated h =
          let a = which_passes (λ b. is_in_region types b n (word_in types f l)) (mutated types gf (entry_inputs types gf st.world.content values)) h in
          let other = mutated_other a.0 a.1 in
          false≢true (sym (not_in types f rest inputs S st k l n named unique a.0 other.0 other.1) ∙ a.2)
