-- What a change of an owner that a frame reaches touches lies beneath what the frame's locals name.
use Rattle.std.proofs.Common.{◌≡◌, ◌⊎◌, inl, inr, ℕ, ◌<◌, true, [], ◌∷◌, Some, sym, subst, ◌∙◌, arith, Option}
use Rattle.std.specs.Prelude.{slice_get}
use Rattle.std.proofs.lemmas.Bool.{false≢true}
use Rattle.life_types.specs.Types.{Types}
use Rattle.life_types.specs.declared.ty.TyId.{TyId}
use Rattle.life_core.specs.Function.{Function}
use Rattle.life_core.specs.Operands.{Operand}
use Rattle.life_pset.specs.Places.{path}
use Rattle.life_pset.specs.declared.element.AbsPlace.{AbsPlace}
use Rattle.life_pset.specs.declared.element.Fact.{Fact}
use Rattle.life_pset.specs.declared.element.Root.{Root}
use Rattle.life_pset.specs.declared.element.Root.TheVariants as root
use Rattle.life_store.specs.Content.{Content}
use Rattle.life_store.specs.State.{Named, State}
use Rattle.life_store.proofs.MapLemmas.{one_or_apart}
use Rattle.life_forest.specs.Forest.{Beneath, Foot, Touches, Within, whole}
use Rattle.life_forest.specs.Frames.{named_in}
use Rattle.life_forest.specs.Kinds.{kinds_of}
use Rattle.life_forest.specs.Owned.{times}
use Rattle.life_forest.proofs.Below.{is_positive, positive_is}
use Rattle.life_forest.proofs.Counting.{one_there}
use Rattle.life_forest.proofs.Feet.{and_all}
use Rattle.life_forest.proofs.Steps.{touches_more}
use Rattle.life_cover.proofs.Inputs as known
use Rattle.life_cover.proofs.Mutated.{in_mutated}
use Rattle.life_cover.specs.Frames.{RootStands}
use Rattle.life_cover.specs.Inputs.{frame_foot, may_change, owning, StandsAt}
use Rattle.life_cover.specs.Regions.{IsAt, Region, foot_of}
use Rattle.life_cover.proofs.Inside.{AmongWords, Inside, in_region, lies_inside, region_within}
use Rattle.life_cover.proofs.KnownFrames.{IsKnownFrame, hand_of, rooted_of, store_of}
use Rattle.life_cover.proofs.Reaching.{IsReached}
use Rattle.life_cover.proofs.Unkilled.{no_foot}

module _ (types : Types) (f : Function) (rest : ℕ → ℕ) (inputs : Root → Option Region) (S : Fact → Type 0) (st : State) (k : IsKnownFrame types f rest inputs S st) where
  pub local_low : (x n : ℕ) → slice_get st.cells x ≡ Some (Named n) → Beneath (kinds_of types) st.world.content (frame_foot types f inputs st.cells) n
  local_low = known.local_low types f rest inputs st k.stands.store k.stands.frame

  -- what touches nothing that is owned
  pub nothing_spares : (d : Content) → Touches (kinds_of types) no_foot st.world.content d → Touches (kinds_of types) (frame_foot types f inputs st.cells) st.world.content d
  nothing_spares d touch =
      touches_more (kinds_of types) (hand_of rest st) st.world.content (store_of types f rest inputs S st k).forest no_foot (frame_foot types f inputs st.cells) d touch
      (record { whole = λ n lt e. absurd (false≢true e); part = λ m lt. inr (λ w e. absurd (false≢true e)) })

  -- .. and what touches objects that the frame names
  pub named_spares : (t : Foot) (d : Content) → ((n : ℕ) → t.whole n ≡ true → 0 < times (named_in st.cells) n) → ((m w : ℕ) → t.part m w ≡ true → ⊥) → Touches (kinds_of types) t st.world.content d → Touches (kinds_of types) (frame_foot types f inputs st.cells) st.world.content d
  named_spares t d names none touch =
      touches_more (kinds_of types) (hand_of rest st) st.world.content (store_of types f rest inputs S st k).forest t (frame_foot types f inputs st.cells) d touch
      (record { whole = λ n lt e. whole n (is_positive (times (named_in st.cells) n) (names n e)); part = λ m lt. inr (λ w e. absurd (none m w e)) })

  -- .. or what a whole local has
  pub local_spares : (x n : ℕ) → slice_get st.cells x ≡ Some (Named n) → (id : TyId) (d : Content) → Touches (kinds_of types) (foot_of types (record { object = n; word = 0; ty = id })) st.world.content d → Touches (kinds_of types) (frame_foot types f inputs st.cells) st.world.content d
  local_spares x n named id d touch =
      touches_more (kinds_of types) (hand_of rest st) st.world.content (store_of types f rest inputs S st k).forest (foot_of types (record { object = n; word = 0; ty = id })) (frame_foot types f inputs st.cells) d touch
      (record {
        whole = λ j lt e. absurd (false≢true e);
        part = λ j lt. one_or_apart j n
            (λ same. inl (subst (Beneath (kinds_of types) st.world.content (frame_foot types f inputs st.cells)) (sym same) (local_low x n named)))
            (λ ne. inr (λ w e. absurd (ne (region_within types (record { object = n; word = 0; ty = id }) j w e).object)));
      })

  -- what lies at a place whose root is the frame's to change
  module _ (place : AbsPlace) (r : Region) (at_r : IsAt types st.world.content (RootStands types f (StandsAt inputs) st.cells) place r) (own : owning types f place.root ≡ true) where
    inside : Inside types k.ordered (hand_of rest st) st.world.content (store_of types f rest inputs S st k) at_r.start r
    inside = lies_inside types k.ordered (hand_of rest st) st.world.content (store_of types f rest inputs S st k) (path place) at_r.start r ((rooted_of types f rest inputs S st k).fits place.root at_r.start at_r.stands) at_r.lies

    -- it lies beneath what may be touched, or an input itself is touched
    start_within : (m : ℕ) → m < st.world.content.births → Beneath (kinds_of types) st.world.content (foot_of types at_r.start) m → Beneath (kinds_of types) st.world.content (frame_foot types f inputs st.cells) m
    start_within m lt low = go place.root own at_r.stands
      where
        go : (ro : Root) → owning types f ro ≡ true → RootStands types f (StandsAt inputs) st.cells ro at_r.start → Beneath (kinds_of types) st.world.content (frame_foot types f inputs st.cells) m
        go (root.Local x) may stands = known.start_low types f rest inputs st k.stands.store k.stands.frame x at_r.start m stands.0 low
        go (root.Input q member) may stands = known.mutated_low types f rest inputs st k.stands.store k.stands.frame k.given (root.Input q member) at_r.start m stands may lt low

    part_low : (m : ℕ) → m < st.world.content.births → Beneath (kinds_of types) st.world.content (frame_foot types f inputs st.cells) m ⊎ ((w : ℕ) → (foot_of types r).part m w ≡ true → (frame_foot types f inputs st.cells).part m w ≡ true)
    part_low m lt = one_or_apart m r.object (λ same. go inside same) (λ ne. inr (λ w e. absurd (ne (region_within types r m w e).object)))
      where
        of_root : (ro : Root) → owning types f ro ≡ true → RootStands types f (StandsAt inputs) st.cells ro at_r.start → AmongWords types k.ordered (hand_of rest st) st.world.content (store_of types f rest inputs S st k) at_r.start r → m ≡ r.object
            → Beneath (kinds_of types) st.world.content (frame_foot types f inputs st.cells) m ⊎ ((w : ℕ) → (foot_of types r).part m w ≡ true → (frame_foot types f inputs st.cells).part m w ≡ true)
        of_root (root.Local x) may stands s same = inl (subst (Beneath (kinds_of types) st.world.content (frame_foot types f inputs st.cells)) (sym (same ∙ s.object)) (local_low x at_r.start.object stands.0))
        of_root (root.Input q member) may stands s same =
            inr (λ w e. in_mutated types f inputs (root.Input q member) at_r.start (k.given.each (root.Input q member) at_r.start stands) stands may m w
            (let x = region_within types r m w e in
            let le = x.first in
            let lt = x.last in
            let from = s.first in
            let upto = s.last in
            in_region types at_r.start m w (record { object = x.object ∙ s.object; first = omega (arith, le, from); last = omega (arith, lt, upto) })))

        go : Inside types k.ordered (hand_of rest st) st.world.content (store_of types f rest inputs S st k) at_r.start r → m ≡ r.object
            → Beneath (kinds_of types) st.world.content (frame_foot types f inputs st.cells) m ⊎ ((w : ℕ) → (foot_of types r).part m w ≡ true → (frame_foot types f inputs st.cells).part m w ≡ true)
        go (inl s) same = of_root place.root own at_r.stands s same
        go (inr low) same = inl (start_within m lt (subst (Beneath (kinds_of types) st.world.content (foot_of types at_r.start)) (sym same) low))

    pub place_within : Within (kinds_of types) st.world.content (foot_of types r) (frame_foot types f inputs st.cells)
    place_within = record { whole = λ n lt e. absurd (false≢true e); part = part_low }

  module _ (o : Operand) (r : IsReached types f st (StandsAt inputs) (may_change types f) S o) where
    region_low : owning types f r.place.root ≡ true → Within (kinds_of types) st.world.content (foot_of types r.region) (frame_foot types f inputs st.cells)
    region_low own = place_within r.place r.region r.lies own

    -- what gives its value over besides, is named itself
    pub pushed_spares : (own : owning types f r.place.root ≡ true) (m : ℕ) → 0 < times (named_in st.cells) m → (d : Content) → Touches (kinds_of types) (and_all (foot_of types r.region) (m ∷ [])) st.world.content d → Touches (kinds_of types) (frame_foot types f inputs st.cells) st.world.content d
    pushed_spares own m named d touch =
        touches_more (kinds_of types) (hand_of rest st) st.world.content (store_of types f rest inputs S st k).forest (and_all (foot_of types r.region) (m ∷ [])) (frame_foot types f inputs st.cells) d touch
        (record { whole = λ n lt e. whole n (is_positive (times (named_in st.cells) n) (subst (λ j. 0 < times (named_in st.cells) j) (one_there m n (let p = positive_is (times (m ∷ []) n) e in omega (arith, p))) named)); part = (region_low own).part })

    pub change_spares : (own : owning types f r.place.root ≡ true) (d : Content) → Touches (kinds_of types) (foot_of types r.region) st.world.content d → Touches (kinds_of types) (frame_foot types f inputs st.cells) st.world.content d
    change_spares own d touch = touches_more (kinds_of types) (hand_of rest st) st.world.content (store_of types f rest inputs S st k).forest (foot_of types r.region) (frame_foot types f inputs st.cells) d touch (region_low own)
