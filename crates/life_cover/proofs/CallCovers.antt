-- Behind a call the facts cover all pointers of the frame that it doesn't write: what the callee touched was given over, or lies under what a mutating
-- argument points to; and it lies beneath what the frame may touch.
use Rattle.std.proofs.Common.{◌≡◌, ◌⊎◌, ⊎_elim, ℕ, ◌<◌, Bool, true, false, List, [], ◌∷◌, Option, Some, refl, sym, ap, subst, ◌∙◌, arith}
use Rattle.std.specs.Prelude.{Contains, cond, not, slice_get, ◌&&◌}
use Rattle.std.specs.List.{list_any}
use Rattle.life_types.specs.Types.{Types}
use Rattle.life_types.specs.declared.place.Place.{Place}
use Rattle.life_core.specs.declared.program.FnId.{FnId}
use Rattle.life_core.specs.Function.{Function}
use Rattle.life_core.specs.Operands.{Argument, Location}
use Rattle.life_core.specs.Step.{Call}
use Rattle.life_pset.specs.Elements.{called}
use Rattle.life_pset.specs.Places.{under}
use Rattle.life_pset.specs.declared.element.AbsPlace.{AbsPlace}
use Rattle.life_pset.specs.declared.element.Cause.{Cause}
use Rattle.life_pset.specs.declared.element.Element.{Element}
use Rattle.life_pset.specs.declared.element.Element.TheVariants as element
use Rattle.life_pset.specs.declared.element.Fact.{Fact}
use Rattle.life_pset.specs.declared.element.Root.{Root}
use Rattle.life_pset.specs.declared.element.Root.TheVariants as root
use Rattle.life_contract.specs.Arguments.{is_mutating_argument}
use Rattle.life_contract.specs.Signatures.{Signature, signature_of}
use Rattle.life_rules.specs.Calling.{called_two, is_in_target, killed_by_call}
use Rattle.life_rules.specs.Carrying.{writes}
use Rattle.life_rules.specs.Matching.{fact_at, given_if}
use Rattle.life_rules.proofs.Giving.{at_head, cons_cases, in_tail, none_in_empty}
use Rattle.life_store.specs.Content.{Content}
use Rattle.life_store.specs.Effects.{cell}
use Rattle.life_store.specs.State.{Cell, Named, Pointer, Points, State}
use Rattle.life_store.proofs.MapLemmas.{one_or_apart}
use Rattle.life_forest.specs.Forest.{Foot, Touches, Within, whole}
use Rattle.life_forest.specs.Frames.{named_in}
use Rattle.life_forest.specs.Kinds.{kinds_of}
use Rattle.life_forest.specs.Owned.{times}
use Rattle.life_forest.proofs.Below.{is_positive}
use Rattle.life_forest.proofs.Counting.{one_same}
use Rattle.life_forest.proofs.Shaped.{IsShaped}
use Rattle.life_forest.proofs.Steps.{touches_more}
use Rattle.life_cover.specs.Covers.{IsCovered}
use Rattle.life_cover.specs.Frames.{FrameCovered, RootStands, look_in}
use Rattle.life_cover.specs.Inputs.{StandsAt, entry_inputs, foot_with, frame_foot, may_change, mutated, owning}
use Rattle.life_cover.specs.Kills.{Guards, IsUnnamed, LeftBy, Names, is_hit}
use Rattle.life_cover.specs.Regions.{IsAt, Region}
use Rattle.life_cover.proofs.Arguments.{AreAimedBy}
use Rattle.life_cover.proofs.CalledRight.{mutating_argument}
use Rattle.life_cover.proofs.FootParts.{IsBelow, below_region, below_whole, foot_within, is_below}
use Rattle.life_cover.proofs.GivenInputs.{caller_owns, input, is_entered, mutating, not_given_over, stood}
use Rattle.life_cover.proofs.Guarding.{under_place}
use Rattle.life_cover.proofs.Killing.{cover_on}
use Rattle.life_cover.proofs.KnownFrames.{IsKnownFrame, IsRight, hand_of, rooted_of, store_of}
use Rattle.life_cover.proofs.Left.{caused_of}
use Rattle.life_cover.proofs.Mutated.{mutated_from, some_passes, which_passes}
use Rattle.life_cover.proofs.PointerInputs.{in_signature}
use Rattle.life_cover.proofs.PushKinds.{other_free}
use Rattle.life_cover.proofs.Sparing.{local_low, place_within}
use Rattle.life_cover.proofs.Takes.{left_all}
use Rattle.life_types.specs.TypeTests.{is_pointer}
use Rattle.life_contract.specs.Located.{located}
use Rattle.life_proper.specs.Placed.{type_in}
use Rattle.life_store.specs.Places.{location_cell}

never_hit : (e : Element) → is_hit (λ a. false) e ≡ false
never_hit element.Null = refl
never_hit (element.Invalid c) = refl
never_hit (element.Moved c) = refl
never_hit element.Own = refl
never_hit element.Static = refl
never_hit (element.At a) = refl

module _ (types : Types) (f : Function) (rest : ℕ → ℕ) (inputs : Root → Option Region) (S : Fact → Type 0) (st : State) (k : IsKnownFrame types f rest inputs S st) (sigs : List Signature) (number : ℕ) (place : Place) (S' : Fact → Type 0) (target : Option Location) (g : FnId) (xs : List Argument)
    (right : IsRight sigs types number f place (Call target g xs) S S') (values : List Cell) (gf : Function) (at_g : slice_get sigs g.0 ≡ Some (signature_of gf)) (shaped : IsShaped types gf) (aims : AreAimedBy types f inputs S st xs gf values)
    (over : (n : ℕ) → 0 < times (named_in values) n → (x : ℕ) × (cell st x ≡ Some (Named n)) × IsUnnamed S x) where
  -- where the callee may touch owners
  abbrev regions : List Region
  regions = mutated types gf (entry_inputs types gf st.world.content values)

  -- ---- what is killed

  -- a mutating argument points there
  record IsTarget (b : Region) : Type 0 where
    pub at : AbsPlace
    pub stands : IsAt types st.world.content (RootStands types f (StandsAt inputs) st.cells) at b
    pub from : Location
    pub fact : S (fact_at (located from) (element.At at))
    pub argument : is_mutating_argument types (signature_of gf) xs (located from) ≡ true
    pub own : owning types f at.root ≡ true

  target_at : (b : Region) → Contains (mutated types gf (entry_inputs types gf st.world.content values)) b → IsTarget b
  target_at b among = of (mutated_from types gf (entry_inputs types gf st.world.content values) b among)
    where
      of : (r : Root) × (StandsAt (entry_inputs types gf st.world.content values) r b) × (owning types gf r ≡ true) → IsTarget b
      of m =
          let e = is_entered types gf st.world.content values m.0 b m.1 in
          let aim = aims e.input e.target e.among e.handed in record {
            at = aim.place;
            stands = stood types f rest inputs S st k sigs number place S' target g xs right values gf at_g shaped aims over m.0 b m.1;
            from = aim.from;
            fact = aim.fact;
            argument = mutating_argument sigs types number f place S target g xs (signature_of gf) at_g right.clean (input types f rest inputs S st k sigs number place S' target g xs right values gf at_g shaped aims over m.0 b m.1) (in_signature types k.ordered gf e.input e.among) (located aim.from) aim.argument
                (mutating types f rest inputs S st k sigs number place S' target g xs right values gf at_g shaped aims over m.0 b m.1 m.2);
            own = caller_owns types f rest inputs S st k sigs number place S' target g xs right values gf at_g shaped aims over m.0 b m.1 m.2;
          }

  abbrev places_of : (bs : List Region) → ((b : Region) → Contains bs b → IsTarget b) → List AbsPlace
  places_of [] h = []
  places_of (b ∷ bs) h = (h b (at_head b bs)).at ∷ places_of bs (λ z m. h z (in_tail b bs z m))

  target_listed : (bs : List Region) (h : (b : Region) → Contains bs b → IsTarget b) (b : Region) → Contains bs b → (t : IsTarget b) × Contains (places_of bs h) t.at
  target_listed [] h b among = absurd (none_in_empty b among)
  target_listed (z ∷ bs) h b among = ⊎_elim
      (λ same. subst (λ (y : Region). (t : IsTarget y) × Contains (places_of (z ∷ bs) h) t.at) same (h z (at_head z bs), at_head (h z (at_head z bs)).at (places_of bs (λ y m. h y (in_tail z bs y m)))))
      (λ more. let r = target_listed bs (λ y m. h y (in_tail z bs y m)) b more in (r.0, in_tail (h z (at_head z bs)).at (places_of bs (λ y m. h y (in_tail z bs y m))) r.0.at r.1))
      (cons_cases z bs b among)

  listed_target : (bs : List Region) (h : (b : Region) → Contains bs b → IsTarget b) (a : AbsPlace) → Contains (places_of bs h) a → (b : Region) × (t : IsTarget b) × (t.at ≡ a)
  listed_target [] h a among = absurd (none_in_empty a among)
  listed_target (z ∷ bs) h a among = ⊎_elim
      (λ same. (z, h z (at_head z bs), same))
      (λ more. listed_target bs (λ y m. h y (in_tail z bs y m)) a more)
      (cons_cases (h z (at_head z bs)).at (places_of bs (λ y m. h y (in_tail z bs y m))) a among)

  abbrev killed_places : List AbsPlace
  killed_places = places_of (mutated types gf (entry_inputs types gf st.world.content values)) target_at

  -- it is owned by what a mutating argument points to
  pub killed : AbsPlace → Bool
  killed p = list_any (λ a. under a p) (places_of (mutated types gf (entry_inputs types gf st.world.content values)) target_at)

  -- ---- the facts that are left

  hit : (l p : AbsPlace) → S (fact_at l (element.At p)) → writes (Call target g xs) l ≡ false → killed p ≡ true → (cause : Cause) × S' (fact_at l (element.Invalid cause))
  unfolding killed
  hit l p s free is = of (which_passes (λ a. under a p) killed_places is)
    where
      of : (a : AbsPlace) × Contains killed_places a × (under a p ≡ true) → (cause : Cause) × S' (fact_at l (element.Invalid cause))
      of w =
          let t = listed_target (mutated types gf (entry_inputs types gf st.world.content values)) target_at w.0 w.1 in
          let x : Fact = fact_at l (element.Invalid (called place g.0)) in
          let below : under t.1.at p ≡ true = ap (λ (a : AbsPlace). under a p) t.2 ∙ w.2 in (
            called place g.0,
            right.closed.two (fact_at (located t.1.from) (element.At t.1.at)) (fact_at l (element.At p)) x t.1.fact s
                (caused_of types f l (element.At p) (element.Invalid (called place g.0)) (right.closed.of (fact_at l (element.At p)) s) (right.closed.causes (element.Invalid (called place g.0)) (at_head (element.Invalid (called place g.0)) [])))
                (subst (λ (o : Option Signature). Contains (called_two types place g.0 o xs target (fact_at (located t.1.from) (element.At t.1.at)) (fact_at l (element.At p))) x) (sym at_g)
                (subst (λ b. Contains (cond b (killed_by_call place g.0 target (element.At t.1.at) (fact_at l (element.At p))) []) x) (sym t.1.argument)
                (subst (λ b. Contains (given_if (b && not (is_in_target target l)) x) x) (sym below)
                (subst (λ b. Contains (given_if (not b) x) x) (sym free) (at_head x []))))),
          )

  left : LeftBy (RootStands types f (StandsAt inputs) st.cells) killed (writes (Call target g xs)) S S'
  left = record {
    kept = λ l e s free not_hit. (left_all sigs types f place (Call target g xs) S S' right.closed (RootStands types f (StandsAt inputs) st.cells) (λ u. refl)).kept l e s free (never_hit e);
    hit = λ l p r s stands free is. hit l p s free is;
  }

  -- ---- what is touched

  -- what the callee may touch
  abbrev callee_foot : Foot
  callee_foot = foot_with types (mutated types gf (entry_inputs types gf st.world.content values)) (named_in values)

  guards : Guards types st.world.content (RootStands types f (StandsAt inputs) st.cells) S killed callee_foot
  unfolding killed
  guards p r names at_r low = of (is_below types st.world.content (mutated types gf (entry_inputs types gf st.world.content values)) (named_in values) r.object low)
    where
      of : IsBelow types st.world.content (mutated types gf (entry_inputs types gf st.world.content values)) (named_in values) r.object → killed p ≡ true
      of (below_whole n lt under_n) = absurd (not_given_over types f rest inputs S st k sigs number place S' target g xs right values gf at_g shaped aims over p r names at_r n lt under_n)
      of (below_region b among under_b) =
          let t = target_listed (mutated types gf (entry_inputs types gf st.world.content values)) target_at b among in
          some_passes (λ a. under a p) killed_places t.0.at t.1
          (under_place types k.ordered (hand_of rest st) st.world.content (store_of types f rest inputs S st k) (RootStands types f (StandsAt inputs) st.cells) (owning types f) (rooted_of types f rest inputs S st k) t.0.at p b r t.0.own t.0.stands at_r under_b)

  -- .. lies beneath what the frame may touch
  pub call_within : Within (kinds_of types) st.world.content (foot_with types (mutated types gf (entry_inputs types gf st.world.content values)) (named_in values)) (frame_foot types f inputs st.cells)
  call_within =
      foot_within types st.world.content (frame_foot types f inputs st.cells) (mutated types gf (entry_inputs types gf st.world.content values)) (named_in values) (λ n less lt. let h = over n lt in local_low types f rest inputs S st k h.0 n h.1)
      (λ b among. let t = target_at b among in place_within types f rest inputs S st k t.at b t.stands t.own)

  pub call_spares : (d : Content) → Touches (kinds_of types) (foot_with types (mutated types gf (entry_inputs types gf st.world.content values)) (named_in values)) st.world.content d → Touches (kinds_of types) (frame_foot types f inputs st.cells) st.world.content d
  call_spares d touch = touches_more (kinds_of types) (hand_of rest st) st.world.content (store_of types f rest inputs S st k).forest callee_foot (frame_foot types f inputs st.cells) d touch call_within

  -- ---- behind it

  -- what isn't given over is named still
  abbrev pub StaysNamed : State → Type 0
  StaysNamed after = (y m : ℕ) → cell st y ≡ Some (Named m) → times (named_in values) m ≡ 0 → cell after y ≡ Some (Named m)

  -- a root of which a fact names a place stands where it did
  pub roots_stay : (after : State) → ((y m : ℕ) → cell st y ≡ Some (Named m) → times (named_in values) m ≡ 0 → cell after y ≡ Some (Named m)) → (a : AbsPlace) (r : Region) → Names S a → RootStands types f (StandsAt inputs) st.cells a.root r → RootStands types f (StandsAt inputs) after.cells a.root r
  roots_stay after stay a r names stands = go a.root refl stands
    where
      go : (ro : Root) → a.root ≡ ro → RootStands types f (StandsAt inputs) st.cells ro r → RootStands types f (StandsAt inputs) after.cells ro r
      go (root.Input q member) e h = h
      go (root.Local y) e h = one_or_apart (times (named_in values) r.object) 0 (λ z. (stay y r.object h.0 z, h.1, h.2)) (λ nz. absurd (clash (over r.object (omega (arith, nz)))))
        where
          clash : (x : ℕ) × (cell st x ≡ Some (Named r.object)) × IsUnnamed S x → ⊥
          clash o = one_or_apart o.0 y
              (λ same. o.2 a names (e ∙ ap (λ z. root.Local z) (sym same)))
              (λ ne. other_free types f rest inputs S st k o.0 r.object o.1 o.2 y r.object ne h.0 (whole r.object (is_positive (times (r.object ∷ []) r.object) (let s = one_same r.object r.object refl in omega (arith, s)))))

  -- one pointer
  pub pointer_covered : (after : State) → Touches (kinds_of types) (foot_with types (mutated types gf (entry_inputs types gf st.world.content values)) (named_in values)) st.world.content after.world.content
      → ((y m : ℕ) → cell st y ≡ Some (Named m) → times (named_in values) m ≡ 0 → cell after y ≡ Some (Named m)) → (l : Location) (p : Pointer) → is_pointer (type_in types f l) ≡ true → location_cell types f l st ≡ Some (Points p) → is_in_target target (located l) ≡ false
      → IsCovered types after.world.content (RootStands types f (StandsAt inputs) after.cells) (may_change types f) S' (located l) (look_in types f l) p
  pointer_covered after touch stay l p pointer was free =
      cover_on types k.ordered (hand_of rest st) st.world.content after.world.content (store_of types f rest inputs S st k) callee_foot touch (RootStands types f (StandsAt inputs) st.cells) (RootStands types f (StandsAt inputs) after.cells) (may_change types f)
      (rooted_of types f rest inputs S st k).fits killed (writes (Call target g xs)) S S' left guards (λ a r names free stands. roots_stay after stay a r names stands) (located l) (look_in types f l) p free (k.covered l p pointer was)

  -- .. and all
  pub call_covered : (after : State) → Touches (kinds_of types) (foot_with types (mutated types gf (entry_inputs types gf st.world.content values)) (named_in values)) st.world.content after.world.content
      → ((y m : ℕ) → cell st y ≡ Some (Named m) → times (named_in values) m ≡ 0 → cell after y ≡ Some (Named m))
      → ((l : Location) (p : Pointer) → is_pointer (type_in types f l) ≡ true → location_cell types f l after ≡ Some (Points p) → ((location_cell types f l st ≡ Some (Points p)) × (is_in_target target (located l) ≡ false)) ⊎ IsCovered types after.world.content (RootStands types f (StandsAt inputs) after.cells) (may_change types f) S' (located l) (look_in types f l) p)
      → FrameCovered types f inputs S' after
  call_covered after touch stay points l p pointer e = ⊎_elim (λ was. pointer_covered after touch stay l p pointer was.0 was.1) (λ new. new) (points l p pointer e)
