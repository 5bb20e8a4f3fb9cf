-- What the facts say behind a move of a whole local to another, to a member of one, or to a place behind a pointer: those on pointers into what either had are invalid, and
-- what is touched lies beneath what the frame names.
use Rattle.std.proofs.Common.{◌≡◌, ◌≢◌, inl, inr, ⊎_elim, ◌⊎◌, ℕ, Bool, true, false, List, [], ◌∷◌, ◌++◌, Option, Some, None, refl, sym, ap, subst, ◌∙◌, arith}
use Rattle.std.specs.Prelude.{◌||◌, ◌&&◌, Contains, cond, if◌then◌else◌, not}
use Rattle.std.proofs.lemmas.Bool.{false≢true}
use Rattle.std.proofs.lemmas.List.Elements.{Contains-append_left, Contains-append_right}
use Rattle.life_types.specs.TypeTests.{is_pointer}
use Rattle.life_types.specs.Types.{Types}
use Rattle.life_types.specs.declared.place.Place.{Place}
use Rattle.life_types.specs.declared.ty.TyId.{TyId}
use Rattle.life_core.specs.Function.{Function}
use Rattle.life_core.specs.Operands.{Location, Operand, whole}
use Rattle.life_core.specs.Operands as named
use Rattle.life_core.specs.Step.{Move, Step}
use Rattle.life_pset.specs.Elements.{changed, local_place, moved, owner_changed}
use Rattle.life_pset.specs.Places.{members_place, under}
use Rattle.life_pset.specs.declared.element.AbsPlace.{AbsPlace}
use Rattle.life_pset.specs.declared.element.Cause.{Cause}
use Rattle.life_pset.specs.declared.element.Element.{Element}
use Rattle.life_pset.specs.declared.element.Element.TheVariants as element
use Rattle.life_pset.specs.declared.element.Fact.{Fact}
use Rattle.life_pset.specs.declared.element.Root.{Root}
use Rattle.life_pset.proofs.Numbers.{place_laws}
use Rattle.life_contract.specs.Located.{is_location, located}
use Rattle.life_contract.specs.Signatures.{Signature}
use Rattle.life_proper.specs.Placed.{type_in}
use Rattle.life_rules.specs.Carrying.{drops, is_gone, killed_facts, killed_fact, killed_through, kills, makes, writes}
use Rattle.life_rules.specs.Matching.{fact_at, given_if, points_under, unless}
use Rattle.life_rules.specs.declared.kill.Kill.{Kill}
use Rattle.life_rules.proofs.Giving.{at_head, in_tail}
use Rattle.life_store.specs.Cells.{at}
use Rattle.life_store.specs.Content.{Content, Object}
use Rattle.life_store.specs.Effects.{cell, put_content}
use Rattle.life_store.specs.Parts.{local_type, width_at}
use Rattle.life_store.specs.Places.{location_cell}
use Rattle.life_store.specs.State.{Named, Pointer, Points, State}
use Rattle.life_store.proofs.CellLemmas.{none_some, some_same}
use Rattle.life_store.proofs.MapLemmas.{one_or_apart}
use Rattle.life_forest.specs.Forest.{Beneath, Touches, part, under as further, whole as one}
use Rattle.life_forest.specs.FrameTypes.{IsVariable}
use Rattle.life_forest.specs.Kinds.{kinds_of}
use Rattle.life_forest.proofs.Sparing.{owns_le}
use Rattle.life_forest.proofs.Steps.{alive_le, touches_more}
use Rattle.life_cover.specs.Frames.{FrameCovered, RootStands, look_in}
use Rattle.life_cover.proofs.MemberWords.{Spares}
use Rattle.life_cover.proofs.SparedPointers.{HasNoPointer, content_held, named_other, spares_both, spares_local, spares_region}
use Rattle.life_cover.specs.Inputs.{StandsAt, frame_foot, may_change, owning}
use Rattle.life_cover.specs.Kills.{Closed, Guards, LeftBy, is_hit}
use Rattle.life_cover.specs.Regions.{IsAt, Region, foot_of, is_in_region}
use Rattle.life_cover.proofs.Changes.{place_guards}
use Rattle.life_cover.proofs.Guarding.{same_region}
use Rattle.life_cover.proofs.Inside.{region_within}
use Rattle.life_cover.proofs.Killing.{cover_on}
use Rattle.life_cover.proofs.KnownFrames.{IsKnownFrame, IsRight, hand_of, rooted_of, store_of}
use Rattle.life_cover.proofs.Left.{caused_of, kept_by}
use Rattle.life_cover.proofs.Locals.{named_free, two_named}
use Rattle.life_cover.proofs.Moved.{both_feet}
use Rattle.life_cover.proofs.ObjectParts.{part_within}
use Rattle.life_cover.proofs.Opening.{place_part}
use Rattle.life_cover.proofs.Putting.{member_other, other_local}
use Rattle.life_cover.proofs.Reaching.{IsReached}
use Rattle.life_cover.proofs.Sparing.{local_low, place_within}

pub both_false : (a b : Bool) → a ≡ false → b ≡ false → (a || b) ≡ false
both_false true b e f = e
both_false false b e f = f

pub either_true : (a b : Bool) → (a || b) ≡ true → (a ≡ true) ⊎ (b ≡ true)
either_true true b e = inl refl
either_true false b e = inr e

pub or_before : (a b : Bool) → a ≡ true → (a || b) ≡ true
or_before true b e = refl
or_before false b e = absurd (false≢true e)

pub or_behind : (a b : Bool) → b ≡ true → (a || b) ≡ true
or_behind true b e = refl
or_behind false b e = e

hit_either : (a b : AbsPlace) (e : Element) → is_hit (λ c. under a c || under b c) e ≡ (points_under a e || points_under b e)
hit_either a b element.Null = refl
hit_either a b (element.Invalid c) = refl
hit_either a b (element.Moved c) = refl
hit_either a b element.Own = refl
hit_either a b element.Static = refl
hit_either a b (element.At p) = refl

given : (b : Bool) (z : Fact) → b ≡ true → Contains (given_if b z) z
given b z e = subst (λ t. Contains (given_if t z) z) (sym e) (at_head z [])

both_true : (a b : Bool) → a ≡ true → b ≡ false → (a && not b) ≡ true
both_true true b e g = ap not g
both_true false b e g = e

-- ---- what the rules leave

module _ (sigs : List Signature) (types : Types) (f : Function) (place : Place) (t : Location) (y : ℕ) (S S' : Fact → Type 0) (closed : Closed sigs types f place (Move (named.Name t) y) S S') (Stands : Root → Region → Type 0) where
  pub left_by_move : LeftBy Stands (λ a. under (local_place y) a || under (located t) a) (writes (Move (named.Name t) y)) S S'
  left_by_move = record {
    kept = λ l e s free not_hit. kept_by sigs types f place (Move (named.Name t) y) S S' closed Stands l e s
        (both_false (is_gone types f place (Move (named.Name t) y) e) (writes (Move (named.Name t) y) l) (sym (hit_either (local_place y) (located t) e) ∙ not_hit) free);
    hit = λ l a r s stands free hit. ⊎_elim (λ h. by_source l a s free h) (λ h. by_target l a s free h) (either_true (under (local_place y) a) (under (located t) a) hit);
  }
    where
      first : Kill
      first = record { owner = local_place y; cause = moved place y }

      second : Kill
      second = record { owner = located t; cause = changed place t.local }

      made : (l a : AbsPlace) (cause : Cause) → S (fact_at l (element.At a)) → Contains (element.Invalid (moved place y) ∷ element.Moved (moved place y) ∷ element.Invalid (changed place t.local) ∷ []) (element.Invalid cause)
          → Contains (killed_facts (kills types f place (Move (named.Name t) y)) (Move (named.Name t) y) (fact_at l (element.At a))) (fact_at l (element.Invalid cause)) → S' (fact_at l (element.Invalid cause))
      made l a cause s caused has =
          closed.one (fact_at l (element.At a)) (fact_at l (element.Invalid cause)) s
          (caused_of types f l (element.At a) (element.Invalid cause) (closed.of (fact_at l (element.At a)) s) (closed.causes (element.Invalid cause) caused))
          (Contains-append_right (unless (drops types f place (Move (named.Name t) y) (fact_at l (element.At a))) (fact_at l (element.At a)))
          (killed_facts (kills types f place (Move (named.Name t) y)) (Move (named.Name t) y) (fact_at l (element.At a)) ++ makes sigs types f place (Move (named.Name t) y) (fact_at l (element.At a))) (fact_at l (element.Invalid cause))
          (Contains-append_left (killed_facts (kills types f place (Move (named.Name t) y)) (Move (named.Name t) y) (fact_at l (element.At a))) (makes sigs types f place (Move (named.Name t) y) (fact_at l (element.At a)))
          (fact_at l (element.Invalid cause)) has))

      by_source : (l a : AbsPlace) → S (fact_at l (element.At a)) → writes (Move (named.Name t) y) l ≡ false → under (local_place y) a ≡ true → (cause : Cause) × S' (fact_at l (element.Invalid cause))
      by_source l a s free hit = (
        moved place y,
        made l a (moved place y) s (at_head (element.Invalid (moved place y)) (element.Moved (moved place y) ∷ element.Invalid (changed place t.local) ∷ []))
            (Contains-append_left (killed_fact (Some first) (Move (named.Name t) y) (fact_at l (element.At a))) (killed_fact (Some second) (Move (named.Name t) y) (fact_at l (element.At a))) (fact_at l (element.Invalid (moved place y)))
            (given (under (local_place y) a && not (writes (Move (named.Name t) y) l)) (fact_at l (element.Invalid (moved place y))) (both_true (under (local_place y) a) (writes (Move (named.Name t) y) l) hit free))),
      )

      by_target : (l a : AbsPlace) → S (fact_at l (element.At a)) → writes (Move (named.Name t) y) l ≡ false → under (located t) a ≡ true → (cause : Cause) × S' (fact_at l (element.Invalid cause))
      by_target l a s free hit = (
        changed place t.local,
        made l a (changed place t.local) s
            (in_tail (element.Invalid (moved place y)) (element.Moved (moved place y) ∷ element.Invalid (changed place t.local) ∷ []) (element.Invalid (changed place t.local))
            (in_tail (element.Moved (moved place y)) (element.Invalid (changed place t.local) ∷ []) (element.Invalid (changed place t.local)) (at_head (element.Invalid (changed place t.local)) [])))
            (Contains-append_right (killed_fact (Some first) (Move (named.Name t) y) (fact_at l (element.At a))) (killed_fact (Some second) (Move (named.Name t) y) (fact_at l (element.At a))) (fact_at l (element.Invalid (changed place t.local)))
            (given (under (located t) a && not (writes (Move (named.Name t) y) l)) (fact_at l (element.Invalid (changed place t.local))) (both_true (under (located t) a) (writes (Move (named.Name t) y) l) hit free))),
      )

-- .. and behind a pointer that may point to a place
module _ (sigs : List Signature) (types : Types) (f : Function) (place : Place) (p : Location) (members : List ℕ) (y : ℕ) (a0 : AbsPlace) (S S' : Fact → Type 0) (closed : Closed sigs types f place (Move (named.Through p members) y) S S')
    (target : S (fact_at (located p) (element.At a0))) (Stands : Root → Region → Type 0) where
  abbrev i : Step
  i = Move (named.Through p members) y

  none_second : (a b : Bool) → (a || b) ≡ false → (a || false) ≡ false
  none_second true b e = e
  none_second false b e = refl

  abbrev source : Kill
  source = record { owner = local_place y; cause = moved place y }

  -- what points under the local
  by_local : (l a : AbsPlace) → S (fact_at l (element.At a)) → writes i l ≡ false → under (local_place y) a ≡ true → (cause : Cause) × S' (fact_at l (element.Invalid cause))
  by_local l a s free hit = (
    moved place y,
    closed.one (fact_at l (element.At a)) (fact_at l (element.Invalid (moved place y))) s
        (caused_of types f l (element.At a) (element.Invalid (moved place y)) (closed.of (fact_at l (element.At a)) s)
        (closed.causes (element.Invalid (moved place y)) (at_head (element.Invalid (moved place y)) (element.Moved (moved place y) ∷ element.Invalid (owner_changed place) ∷ []))))
        (Contains-append_right (unless (drops types f place i (fact_at l (element.At a))) (fact_at l (element.At a)))
        (killed_facts (kills types f place i) i (fact_at l (element.At a)) ++ makes sigs types f place i (fact_at l (element.At a))) (fact_at l (element.Invalid (moved place y)))
        (Contains-append_left (killed_facts (kills types f place i) i (fact_at l (element.At a))) (makes sigs types f place i (fact_at l (element.At a))) (fact_at l (element.Invalid (moved place y)))
        (Contains-append_left (killed_fact (Some source) i (fact_at l (element.At a))) [] (fact_at l (element.Invalid (moved place y)))
        (given (under (local_place y) a && not (writes i l)) (fact_at l (element.Invalid (moved place y))) (both_true (under (local_place y) a) (writes i l) hit free))))),
  )

  -- .. and under what the pointer may point to
  by_pointer : (l a : AbsPlace) → S (fact_at l (element.At a)) → writes i l ≡ false → under (local_place y) a ≡ false → under (members_place a0 members) a ≡ true → (cause : Cause) × S' (fact_at l (element.Invalid cause))
  by_pointer l a s free other hit = (
    owner_changed place,
    closed.two (fact_at (located p) (element.At a0)) (fact_at l (element.At a)) (fact_at l (element.Invalid (owner_changed place))) target s
        (caused_of types f l (element.At a) (element.Invalid (owner_changed place)) (closed.of (fact_at l (element.At a)) s)
        (closed.causes (element.Invalid (owner_changed place))
        (in_tail (element.Invalid (moved place y)) (element.Moved (moved place y) ∷ element.Invalid (owner_changed place) ∷ []) (element.Invalid (owner_changed place))
        (in_tail (element.Moved (moved place y)) (element.Invalid (owner_changed place) ∷ []) (element.Invalid (owner_changed place)) (at_head (element.Invalid (owner_changed place)) [])))))
        (subst (λ b. Contains (if b then [] else killed_through place i (named.Through p members) (fact_at (located p) (element.At a0)) (fact_at l (element.At a))) (fact_at l (element.Invalid (owner_changed place)))) (sym other)
        (subst (λ t. Contains (cond t (given_if (under (members_place a0 members) a && not (writes i l)) (fact_at l (element.Invalid (owner_changed place)))) []) (fact_at l (element.Invalid (owner_changed place)))) (sym (place_laws.refl (located p)))
        (given (under (members_place a0 members) a && not (writes i l)) (fact_at l (element.Invalid (owner_changed place))) (both_true (under (members_place a0 members) a) (writes i l) hit free)))),
  )

  by_either : (l a : AbsPlace) → S (fact_at l (element.At a)) → writes i l ≡ false → (here : Bool) → under (local_place y) a ≡ here → (here || under (members_place a0 members) a) ≡ true → (cause : Cause) × S' (fact_at l (element.Invalid cause))
  by_either l a s free true e hit = by_local l a s free e
  by_either l a s free false e hit = by_pointer l a s free e hit

  pub left_by_placed : LeftBy Stands (λ a. under (local_place y) a || under (members_place a0 members) a) (writes (Move (named.Through p members) y)) S S'
  left_by_placed = record {
    kept = λ l e s free not_hit. kept_by sigs types f place i S S' closed Stands l e s
        (both_false (is_gone types f place i e) (writes i l) (none_second (points_under (local_place y) e) (points_under (members_place a0 members) e) (sym (hit_either (local_place y) (members_place a0 members) e) ∙ not_hit)) free);
    hit = λ l a r s stands free hit. by_either l a s free (under (local_place y) a) refl hit;
  }

-- ---- a place that isn't a whole local

module _ (sigs : List Signature) (types : Types) (f : Function) (place : Place) (y : ℕ) (S S' : Fact → Type 0) (inputs : Root → Option Region) (st : State) where
  -- what a move of the local to it leaves, which writes no other local
  pub record IsBeside (o : Operand) : Type 0 where
    pub left : (r : IsReached types f st (StandsAt inputs) (may_change types f) S o) → LeftBy (RootStands types f (StandsAt inputs) st.cells) (λ b. under (local_place y) b || under r.place b) (writes (Move o y)) S S'
    pub free : (x : ℕ) → y ≢ x → writes (Move o y) (local_place x) ≡ false

  -- a member of a local
  pub member_beside : (l : Location) (m : ℕ) (ms : List ℕ) → l.members ≡ m ∷ ms → Closed sigs types f place (Move (named.Name l) y) S S' → IsBeside (named.Name l)
  member_beside l m ms e closed = record {
    left = λ r. subst (λ (a : AbsPlace). LeftBy (RootStands types f (StandsAt inputs) st.cells) (λ b. under (local_place y) b || under a b) (writes (Move (named.Name l) y)) S S') (sym r.by)
        (left_by_move sigs types f place l y S S' closed (RootStands types f (StandsAt inputs) st.cells));
    free = λ x ne. both_false (is_location (whole y) (local_place x)) (is_location l (local_place x)) (other_local y x ne) (member_other l m ms e x);
  }

  -- what is behind a pointer
  pub through_beside : (p : Location) (members : List ℕ) → Closed sigs types f place (Move (named.Through p members) y) S S' → IsBeside (named.Through p members)
  through_beside p members closed = record {
    left = λ r. subst (λ (a : AbsPlace). LeftBy (RootStands types f (StandsAt inputs) st.cells) (λ b. under (local_place y) b || under a b) (writes (Move (named.Through p members) y)) S S') (sym r.by.2)
        (left_by_placed sigs types f place p members y r.by.0 S S' closed r.by.1 (RootStands types f (StandsAt inputs) st.cells));
    free = λ x ne. both_false (is_location (whole y) (local_place x)) false (other_local y x ne) refl;
  }

-- what is beneath the owners of two regions, which are one where they lie in one object, is beneath those of one
pub split : (types : Types) (c : Content) (a b : Region) → (a.object ≡ b.object → a ≡ b) → (n : ℕ) → Beneath (kinds_of types) c (both_feet types a b) n → Beneath (kinds_of types) c (foot_of types a) n ⊎ Beneath (kinds_of types) c (foot_of types b) n
split types c a b alike n (one _ e) = absurd (false≢true e)
split types c a b alike n (part m _ own) = one_or_apart m a.object
    (λ same. inl (part m n (let le = owns_le (kinds_of types) ((both_feet types a b).part m) ((foot_of types a).part m) (at c.objects m) n (in_a same) in omega (arith, own, le))))
    (λ other. inr (part m n (let le = owns_le (kinds_of types) ((both_feet types a b).part m) ((foot_of types b).part m) (at c.objects m) n (in_b other) in omega (arith, own, le))))
  where
    in_a : m ≡ a.object → (w : ℕ) → (is_in_region types a m w || is_in_region types b m w) ≡ true → is_in_region types a m w ≡ true
    in_a same w e = ⊎_elim (λ h. h) (λ h. subst (λ (r : Region). is_in_region types r m w ≡ true) (sym (alike (sym same ∙ (region_within types b m w h).object))) h) (either_true (is_in_region types a m w) (is_in_region types b m w) e)

    in_b : m ≢ a.object → (w : ℕ) → (is_in_region types a m w || is_in_region types b m w) ≡ true → is_in_region types b m w ≡ true
    in_b other w e = ⊎_elim (λ h. absurd (other (region_within types a m w h).object)) (λ h. h) (either_true (is_in_region types a m w) (is_in_region types b m w) e)
split types c a b alike n (further m _ low own) = ⊎_elim (λ l. inl (further m n l own)) (λ l. inr (further m n l own)) (split types c a b alike m low)

-- ---- a place, and a whole local of its type

module _ (types : Types) (f : Function) (rest : ℕ → ℕ) (inputs : Root → Option Region) (S : Fact → Type 0) (st : State) (k : IsKnownFrame types f rest inputs S st) (to : AbsPlace) (into : Region) (own : owning types f to.root ≡ true)
    (at_to : IsAt types st.world.content (RootStands types f (StandsAt inputs) st.cells) to into) (y m : ℕ) (named_y : cell st y ≡ Some (Named m)) (typed_y : local_type types f y ≡ Some into.ty) where
  abbrev pub from : Region
  from = record { object = m; word = 0; ty = into.ty }

  at_y : IsAt types st.world.content (RootStands types f (StandsAt inputs) st.cells) (local_place y) from
  at_y = record { start = from; stands = (named_y, refl, typed_y); lies = refl }

  -- where they lie in one object, they are one
  alike : into.object ≡ m → into ≡ from
  alike same = same_region into from same word refl
    where
      v : IsVariable st.world.content (local_type types f y) m
      v = k.stands.frame.objects y m named_y

      -- a value of its own type stands at its begin
      word : into.word ≡ 0
      word =
          let fits = (part_within types k.ordered v.object.ty into.word into.ty (place_part types f rest inputs S st k to into at_to v.object (ap (at st.world.content.objects) same ∙ v.there))).fits in
          let e = ap (width_at types) (some_same (sym v.type ∙ typed_y)) in
          omega (arith, fits, e)

  guards : Guards types st.world.content (RootStands types f (StandsAt inputs) st.cells) S (λ a. under (local_place y) a || under to a) (both_feet types into from)
  guards a r names at_r low = ⊎_elim
      (λ h. or_behind (under (local_place y) a) (under to a) (place_guards types k.ordered (hand_of rest st) st.world.content st.world.content (store_of types f rest inputs S st k) (RootStands types f (StandsAt inputs) st.cells) (may_change types f) (owning types f) (rooted_of types f rest inputs S st k) S to into own at_to a r names at_r h))
      (λ h. or_before (under (local_place y) a) (under to a) (place_guards types k.ordered (hand_of rest st) st.world.content st.world.content (store_of types f rest inputs S st k) (RootStands types f (StandsAt inputs) st.cells) (may_change types f) (owning types f) (rooted_of types f rest inputs S st k) S (local_place y) from refl at_y a r names at_r h))
      (split types st.world.content into from alike r.object low)

  -- the facts that the rules leave cover all pointers
  pub placed_covered : (written : AbsPlace → Bool) (S' : Fact → Type 0) → LeftBy (RootStands types f (StandsAt inputs) st.cells) (λ a. under (local_place y) a || under to a) written S S' → HasNoPointer types into.ty → ((l : Location) (v : Pointer) → is_pointer (type_in types f l) ≡ true → location_cell types f l st ≡ Some (Points v) → written (located l) ≡ false)
      → (d : Content) → Touches (kinds_of types) (both_feet types into (record { object = m; word = 0; ty = into.ty })) st.world.content d → FrameCovered types f inputs S' (put_content d st)
  placed_covered written S' left owner free d touch l v pointer e =
      let before = content_held types f rest inputs S st k (both_feet types into from) (spares_both types f rest inputs S st k into from spares_into (spares_local types f rest inputs S st k y m named_y into.ty typed_y owner)) d touch l v pointer e in
      cover_on types k.ordered (hand_of rest st) st.world.content d (store_of types f rest inputs S st k) (both_feet types into from) touch (RootStands types f (StandsAt inputs) st.cells) (RootStands types f (StandsAt inputs) st.cells) (may_change types f) (rooted_of types f rest inputs S st k).fits
      (λ a. under (local_place y) a || under to a) written S S' left guards (λ a r names spared stands. stands) (located l) (look_in types f l) v (free l v pointer before) (k.covered l v pointer before)
    where
      -- what lies there lives, or nothing there is touched
      spares_into : Spares types f st (foot_of types into)
      spares_into = go (at st.world.content.objects into.object) refl
        where
          not_there : (b : Bool) → (b ≡ true → ⊥) → b ≡ false
          not_there true h = absurd (h refl)
          not_there false h = refl

          go : (x : Option Object) → at st.world.content.objects into.object ≡ x → Spares types f st (foot_of types into)
          go (Some o) there = spares_region types f rest inputs S st k into o there (part_within types k.ordered o.ty into.word into.ty (place_part types f rest inputs S st k to into at_to o there)) owner
          go None gone = record {
            apart = λ x j named low. named_free types f rest st k.stands.store k.stands.frame x j into named low;
            words = λ x j id named typed u i pointing. not_there (is_in_region types into j u)
                (λ inside. let w = k.stands.frame.objects x j named in none_some (sym gone ∙ ap (at st.world.content.objects) (sym (region_within types into j u inside).object) ∙ w.there));
          }

  -- what both had lies beneath what is named, or behind a mutating input
  pub placed_spares : (d : Content) → Touches (kinds_of types) (both_feet types into (record { object = m; word = 0; ty = into.ty })) st.world.content d → Touches (kinds_of types) (frame_foot types f inputs st.cells) st.world.content d
  placed_spares d touch =
      touches_more (kinds_of types) (hand_of rest st) st.world.content (store_of types f rest inputs S st k).forest (both_feet types into from) (frame_foot types f inputs st.cells) d touch
      (record {
        whole = λ j born e. absurd (false≢true e);
        part = λ j born. one_or_apart j m
            (λ is. inl (subst (Beneath (kinds_of types) st.world.content (frame_foot types f inputs st.cells)) (sym is) (local_low types f rest inputs S st k y m named_y)))
            (λ not_m. ⊎_elim (λ low. inl low)
            (λ in_foot. inr (λ v e. ⊎_elim (λ h. in_foot v h) (λ h. absurd (not_m (region_within types from j v h).object)) (either_true (is_in_region types into j v) (is_in_region types from j v) e)))
            ((place_within types f rest inputs S st k to into at_to own).part j born));
      })

-- ---- two locals of one type

module _ (types : Types) (f : Function) (rest : ℕ → ℕ) (inputs : Root → Option Region) (S : Fact → Type 0) (st : State) (k : IsKnownFrame types f rest inputs S st) (sigs : List Signature) (number : ℕ) (place : Place) (S' : Fact → Type 0) (x y : ℕ)
    (right : IsRight sigs types number f place (Move (named.Name (whole x)) y) S S') (other : x ≢ y) (id : TyId) (typed_x : local_type types f x ≡ Some id) (typed_y : local_type types f y ≡ Some id)
    (n m : ℕ) (named_x : cell st x ≡ Some (Named n)) (named_y : cell st y ≡ Some (Named m)) where
  abbrev into_x : Region
  into_x = record { object = n; word = 0; ty = id }

  at_x : IsAt types st.world.content (RootStands types f (StandsAt inputs) st.cells) (local_place x) into_x
  at_x = record { start = into_x; stands = (named_x, refl, typed_x); lies = refl }

  pub locals_apart : m ≢ n
  locals_apart same =
      let two = two_named st.cells x y n other named_x (named_y ∙ ap (λ (j : ℕ). Some (Named j)) same) in
      let held = (store_of types f rest inputs S st k).forest.held n in
      let alive = alive_le (kinds_of types) st.world.content n in
      omega (arith, two, held, alive)

  pub moved_covered : HasNoPointer types id → (d : Content) → Touches (kinds_of types) (both_feet types (record { object = n; word = 0; ty = id }) (record { object = m; word = 0; ty = id })) st.world.content d → FrameCovered types f inputs S' (put_content d st)
  moved_covered owner =
      placed_covered types f rest inputs S st k (local_place x) into_x refl at_x y m named_y typed_y (writes (Move (named.Name (whole x)) y)) S' (left_by_move sigs types f place (whole x) y S S' right.closed (RootStands types f (StandsAt inputs) st.cells)) owner
      (λ l v pointer e. both_false (is_location (whole y) (located l)) (is_location (whole x) (located l)) (named_other types f rest inputs S st k y m named_y l v e) (named_other types f rest inputs S st k x n named_x l v e))

  pub moved_spares : (d : Content) → Touches (kinds_of types) (both_feet types (record { object = n; word = 0; ty = id }) (record { object = m; word = 0; ty = id })) st.world.content d → Touches (kinds_of types) (frame_foot types f inputs st.cells) st.world.content d
  moved_spares = placed_spares types f rest inputs S st k (local_place x) into_x refl at_x y m named_y typed_y
