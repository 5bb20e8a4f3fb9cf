-- Locals end: there is no fault, and the facts behind it cover all pointers that are left in the frame.
use Rattle.std.proofs.Common.{◌≡◌, ◌≢◌, ⊎_elim, inl, inr, ℕ, ◌+◌, ◌<◌, Bool, true, false, List, [], ◌∷◌, length, map, Option, Some, None, refl, sym, ap, subst, ◌∙◌, arith}
use Rattle.std.specs.Prelude.{◌||◌, Contains, cond, nat_eq, slice_get, slice_set}
use Rattle.std.specs.List.{list_any}
use Rattle.std.proofs.lemmas.Bool.{eqb-true, false≢true, ne_eqb}
use Rattle.std.proofs.lemmas.Bool.Decides.{nat_tests}
use Rattle.life_types.specs.Trees.{IsOrdered}
use Rattle.life_types.specs.Types.{Types}
use Rattle.life_types.specs.declared.place.Place.{Place}
use Rattle.life_core.specs.declared.program.Local.{Local}
use Rattle.life_core.specs.declared.program.LocalKind.{LocalKind}
use Rattle.life_core.specs.declared.program.LocalKind.TheVariants as local
use Rattle.life_core.specs.Function.{Function}
use Rattle.life_core.specs.Kinds.{has_kind, is_object}
use Rattle.life_core.specs.Step.{End}
use Rattle.life_pset.specs.Elements.{causes_of_end, end_causes, end_elements, end_if, ended_local, local_place}
use Rattle.life_pset.specs.Places.{path}
use Rattle.life_pset.specs.declared.element.AbsPlace.{AbsPlace}
use Rattle.life_pset.specs.declared.element.Cause.{Cause}
use Rattle.life_pset.specs.declared.element.Element.{Element}
use Rattle.life_pset.specs.declared.element.Element.TheVariants as element
use Rattle.life_pset.specs.declared.element.Fact.{Fact}
use Rattle.life_pset.specs.declared.element.Root.{Root}
use Rattle.life_pset.specs.declared.element.Root.TheVariants as root
use Rattle.life_contract.specs.Located.{is_root, located}
use Rattle.life_contract.specs.Signatures.{Signature}
use Rattle.life_proper.specs.Placed.{object_at, type_in}
use Rattle.life_rules.specs.Carrying.{ended_root, invalid_facts, writes}
use Rattle.life_rules.specs.Matching.{fact_at, is_rooted_among, points_among}
use Rattle.life_rules.proofs.Giving.{at_head, flat_map_into, in_tail}
use Rattle.life_store.specs.Content.{Object, Content, without}
use Rattle.life_store.specs.Births.{end_cell, end_locals, end_object}
use Rattle.life_store.specs.Doing.{does}
use Rattle.life_store.specs.Effects.{Effect, Next, Traps, Faults, Strays, Setting, cell, on_next, put_cell, put_content}
use Rattle.life_store.specs.Held.{slots_if, words_if}
use Rattle.life_store.specs.Owners.{ended, ended_object}
use Rattle.life_store.specs.Parts.{local_parts, local_type, parts_at, parts_if, width_at}
use Rattle.life_store.specs.State.{Pointer, Cell, Empty, Named, Number, Points, State}
use Rattle.life_store.proofs.CellLemmas.{cell_cases, none_some}
use Rattle.life_store.proofs.MapLemmas.{one_or_apart}
use Rattle.life_forest.specs.Forest.{Beneath, Foot, IsForest, Touches, all_of, part, under, whole}
use Rattle.life_forest.specs.FrameTypes.{IsVariable, Stands}
use Rattle.life_forest.specs.Frames.{OnNext, named_in}
use Rattle.life_forest.specs.Kinds.{kinds_of}
use Rattle.life_forest.specs.Owned.{every, owns_at, times}
use Rattle.life_forest.specs.Values.{AllWide, IsOf as IsOfParts, Known}
use Rattle.life_forest.proofs.Apart.{Apart, apart}
use Rattle.life_forest.proofs.Below.{is_positive, owned_at_held, positive_is}
use Rattle.life_forest.proofs.Counting.{one_same, one_there}
use Rattle.life_forest.proofs.Following.{in_hand}
use Rattle.life_forest.proofs.Frames.{less_in_hand, named_put}
use Rattle.life_forest.proofs.FromTypes.{object_is_known}
use Rattle.life_forest.proofs.Objects.{object_ended_touches}
use Rattle.life_forest.proofs.StandingLives.{end_stands}
use Rattle.life_forest.proofs.Steps.{alive_le, beneath_more, own_all, touches_self, touches_then}
use Rattle.life_cover.proofs.Sparing.{local_low}
use Rattle.life_cover.specs.Frames.{FrameCovered, RootStands, look_in}
use Rattle.life_cover.specs.Inputs.{frame_foot, may_change, StandsAt}
use Rattle.life_cover.specs.Kills.{Closed, Guards, LeftBy, is_hit}
use Rattle.life_cover.specs.Regions.{Region, foot_of}
use Rattle.life_cover.proofs.Inside.{Inside, lies_inside, region_owner}
use Rattle.life_cover.proofs.Killing.{cover_on}
use Rattle.life_cover.proofs.KnownFrames.{IsKnownFrame, IsRight, hand_of, object_named, rooted_of}
use Rattle.life_cover.proofs.Left.{caused_of, kept_by}
use Rattle.life_cover.proofs.Locals.{two_named}
use Rattle.life_cover.proofs.Pointers.{OnRight}
use Rattle.life_cover.proofs.Putting.{set_other}
use Rattle.life_cover.proofs.Takes.{made_of}
use Rattle.life_types.specs.TypeTests.{is_pointer}
use Rattle.life_core.specs.Operands.{Location}
use Rattle.life_store.specs.Places.{location_cell, member_cell}
use Rattle.life_cover.proofs.MemberWords.{held_before}
use Rattle.life_cover.proofs.Unkept.{members_root}

-- ---- lists of locals

among : (xs : List ℕ) (x : ℕ) → list_any (λ y. nat_eq y x) xs ≡ true → Contains xs x
among [] x e = absurd (false≢true e)
among (y ∷ ys) x e = go (λ h. among ys x h) (nat_eq y x) refl e
  where
    go : (list_any (λ z. nat_eq z x) ys ≡ true → Contains ys x) → (b : Bool) → nat_eq y x ≡ b → (b || list_any (λ z. nat_eq z x) ys) ≡ true → Contains (y ∷ ys) x
    go rest true h e = subst (λ n. Contains (y ∷ ys) n) (eqb-true y x h) (at_head y ys)
    go rest false h e = in_tail y ys x (rest e)

left_false : (a b : Bool) → (a || b) ≡ false → a ≡ false
left_false true b e = e
left_false false b e = refl

right_false : (a b : Bool) → (a || b) ≡ false → b ≡ false
right_false true b e = absurd (false≢true (sym e))
right_false false b e = e

left_true : (a b : Bool) → a ≡ true → (a || b) ≡ true
left_true true b e = refl
left_true false b e = absurd (false≢true e)

right_true : (a b : Bool) → b ≡ true → (a || b) ≡ true
right_true true b e = refl
right_true false b e = e

both_false : (a b : Bool) → a ≡ false → b ≡ false → (a || b) ≡ false
both_false true b e f = e
both_false false b e f = f

eq_same : (x : ℕ) → nat_eq x x ≡ true
eq_same x = grind (arith, nat_tests)

apart_of : (x y : ℕ) → nat_eq x y ≡ false → x ≢ y
apart_of x y e h = false≢true (sym e ∙ subst (λ z. nat_eq x z ≡ true) h (eq_same x))

-- ---- what the rules leave

module _ (sigs : List Signature) (types : Types) (f : Function) (place : Place) (xs : List ℕ) (S S' : Fact → Type 0) (closed : Closed sigs types f place (End xs) S S') (Stands : Root → Region → Type 0) (objects : (x : ℕ) (r : Region) → Stands (root.Local x) r → object_at types f x ≡ true) where
  hit_among : (e : Element) → is_hit (is_rooted_among xs) e ≡ points_among xs e
  hit_among element.Null = refl
  hit_among (element.Invalid c) = refl
  hit_among (element.Moved c) = refl
  hit_among element.Own = refl
  hit_among element.Static = refl
  hit_among (element.At a) = refl

  -- what ended has a cause
  cause_of : (x : ℕ) → object_at types f x ≡ true → (c : Cause) × (causes_of_end f place x ≡ c ∷ [])
  cause_of x object = go (slice_get f.locals x) refl object
    where
      kind : (l : Local) (k : LocalKind) → is_object k ≡ true → end_if k (ended_local place x l) ≡ ended_local place x l ∷ []
      kind l local.Object e = refl
      kind l local.Register e = absurd (false≢true e)
      kind l local.Range e = absurd (false≢true e)

      go : (o : Option Local) → slice_get f.locals x ≡ o → has_kind is_object o ≡ true → (c : Cause) × (causes_of_end f place x ≡ c ∷ [])
      go None e h = absurd (false≢true h)
      go (Some l) e h = (ended_local place x l, ap (end_causes place x) e ∙ kind l l.kind h)

  hit_by_end : (l a : AbsPlace) (x : ℕ) → a.root ≡ root.Local x → object_at types f x ≡ true → S (fact_at l (element.At a)) → is_rooted_among xs l ≡ false → is_rooted_among xs a ≡ true → (cause : Cause) × S' (fact_at l (element.Invalid cause))
  hit_by_end l a x at_x object s free gone =
      let c = cause_of x object in
      let here : list_any (λ y. nat_eq y x) xs ≡ true = ap (λ (ro : Root). list_any (λ y. is_root y ro) xs) (sym at_x) ∙ gone in
      let caused : Contains (end_elements f place x) (element.Invalid c.0) = subst (λ (cs : List Cause). Contains (map element.Invalid cs) (element.Invalid c.0)) (sym c.1) (at_head (element.Invalid c.0) []) in (
        c.0,
        made_of sigs types f place (End xs) S S' closed (fact_at l (element.At a)) (fact_at l (element.Invalid c.0)) s
            (caused_of types f l (element.At a) (element.Invalid c.0) (closed.of (fact_at l (element.At a)) s) (closed.causes (element.Invalid c.0) (flat_map_into (end_elements f place) xs x (element.Invalid c.0) (among xs x here) caused)))
            (subst (λ b. Contains (cond b [] (ended_root f place xs l a.root)) (fact_at l (element.Invalid c.0))) (sym free)
            (subst (λ (ro : Root). Contains (ended_root f place xs l ro) (fact_at l (element.Invalid c.0))) (sym at_x)
            (subst (λ b. Contains (cond b (invalid_facts l (causes_of_end f place x)) []) (fact_at l (element.Invalid c.0))) (sym here)
            (subst (λ (cs : List Cause). Contains (invalid_facts l cs) (fact_at l (element.Invalid c.0))) (sym c.1) (at_head (fact_at l (element.Invalid c.0)) []))))),
      )

  -- no input ends
  never : (ys : List ℕ) → list_any (λ (y : ℕ). false) ys ≡ false
  never [] = refl
  never (y ∷ ys) = never ys

  pub left_by_end : LeftBy Stands (is_rooted_among xs) (writes (End xs)) S S'
  left_by_end = record {
    kept = λ l e s free not_hit. kept_by sigs types f place (End xs) S S' closed Stands l e s (both_false (points_among xs e) (is_rooted_among xs l) (sym (hit_among e) ∙ not_hit) free);
    hit = λ l a r s stands free gone. by_root a.root l a refl r s stands free gone;
  }
    where
      by_root : (ro : Root) (l a : AbsPlace) → a.root ≡ ro → (r : Region) → S (fact_at l (element.At a)) → Stands a.root r → is_rooted_among xs l ≡ false → is_rooted_among xs a ≡ true → (cause : Cause) × S' (fact_at l (element.Invalid cause))
      by_root (root.Local x) l a e r s stands free gone = hit_by_end l a x e (objects x r (subst (λ (z : Root). Stands z r) e stands)) s free gone
      by_root (root.Input q m) l a e r s stands free gone = absurd (false≢true (sym (ap (λ (ro : Root). list_any (λ y. is_root y ro) xs) e ∙ never xs) ∙ gone))

-- ---- what ends

abbrev pub cell_names : Option Cell → ℕ → Bool
cell_names (Some (Named m)) n = nat_eq m n
cell_names _ n = false

-- the objects that these locals name
abbrev pub foot_among : List Cell → List ℕ → Foot
foot_among cells xs = record { whole = λ n. list_any (λ x. cell_names (slice_get cells x) n) xs; part = λ m w. false }

-- one of these locals names it
pub among_named : (cells : List Cell) (zs : List ℕ) (m : ℕ) → list_any (λ z. cell_names (slice_get cells z) m) zs ≡ true → (z : ℕ) × (list_any (λ w. nat_eq w z) zs ≡ true) × (slice_get cells z ≡ Some (Named m))
among_named cells [] m e = absurd (false≢true e)
among_named cells (z ∷ zs) m e = go (cell_names (slice_get cells z) m) refl e (among_named cells zs m)
  where
    names : (v : Option Cell) → slice_get cells z ≡ v → cell_names v m ≡ true → slice_get cells z ≡ Some (Named m)
    names (Some (Named j)) h t = h ∙ ap (λ i. Some (Named i)) (eqb-true j m t)
    names (Some Empty) h t = absurd (false≢true t)
    names (Some (Number i)) h t = absurd (false≢true t)
    names (Some (Points p)) h t = absurd (false≢true t)
    names None h t = absurd (false≢true t)

    go : (b : Bool) → cell_names (slice_get cells z) m ≡ b → (b || list_any (λ w. cell_names (slice_get cells w) m) zs) ≡ true
        → (list_any (λ w. cell_names (slice_get cells w) m) zs ≡ true → (y : ℕ) × (list_any (λ w. nat_eq w y) zs ≡ true) × (slice_get cells y ≡ Some (Named m))) → (y : ℕ) × (list_any (λ w. nat_eq w y) (z ∷ zs) ≡ true) × (slice_get cells y ≡ Some (Named m))
    go true h t rest = (z, left_true (nat_eq z z) (list_any (λ w. nat_eq w z) zs) (eq_same z), names (slice_get cells z) refl h)
    go false h t rest = let r = rest t in (r.0, right_true (nat_eq z r.0) (list_any (λ w. nat_eq w r.0) zs) r.1, r.2)

module _ (types : Types) where
  -- behind the end of these locals, one after the other
  pub record AreEnded (xs : List ℕ) (st st' : State) : Type 0 where
    pub was : (y : ℕ) (v : Cell) → slice_get st'.cells y ≡ Some v → (v ≡ Empty → ⊥) → (slice_get st.cells y ≡ Some v) × (list_any (λ z. nat_eq z y) xs ≡ false)
    pub stays : (y m : ℕ) → slice_get st.cells y ≡ Some (Named m) → list_any (λ z. nat_eq z y) xs ≡ false → slice_get st'.cells y ≡ Some (Named m)
    pub touch : Touches (kinds_of types) (foot_among st.cells xs) st.world.content st'.world.content

  -- one cell is emptied
  emptied : (x : ℕ) (st : State) (d : Content) → Touches (kinds_of types) (foot_among st.cells (x ∷ [])) st.world.content d → AreEnded (x ∷ []) st (put_cell x Empty (put_content d st))
  emptied x st d touch = record {
    was = λ y v e some. ⊎_elim (λ h. absurd (some (sym h.1))) (λ h. (h.1, both_false (nat_eq x y) false (ne_eqb x y h.0) refl)) (cell_cases st.cells x y Empty v e);
    stays = λ y m e free. set_other st.cells x y Empty (apart_of x y (left_false (nat_eq x y) false free)) ∙ e;
    touch = touch;
  }

  ended_then : (hand : ℕ → ℕ) (x : ℕ) (xs : List ℕ) (st st1 st' : State) → IsForest (kinds_of types) hand st.world.content → AreEnded (x ∷ []) st st1 → AreEnded xs st1 st' → AreEnded (x ∷ xs) st st'
  ended_then hand x xs st st1 st' forest one more = record {
    was = λ y v e some. let h = more.was y v e some in let k = one.was y v h.0 some in (k.0, both_false (nat_eq x y) (list_any (λ z. nat_eq z y) xs) (left_false (nat_eq x y) false k.1) h.1);
    stays = λ y m e free. more.stays y m (one.stays y m e (both_false (nat_eq x y) false (left_false (nat_eq x y) (list_any (λ z. nat_eq z y) xs) free) refl)) (right_false (nat_eq x y) (list_any (λ z. nat_eq z y) xs) free);
    touch =
        touches_then (kinds_of types) hand st.world.content forest (foot_among st.cells (x ∷ [])) (foot_among st1.cells xs) (foot_among st.cells (x ∷ xs)) st1.world.content st'.world.content one.touch more.touch
        (record { whole = λ n born e. whole n (left_true (cell_names (slice_get st.cells x) n) (list_any (λ z. cell_names (slice_get st.cells z) n) xs) (only (cell_names (slice_get st.cells x) n) e)); part = λ m born. inr (λ w e. absurd (false≢true e)) })
        (record { whole = λ n born e. whole n (right_true (cell_names (slice_get st.cells x) n) (list_any (λ z. cell_names (slice_get st.cells z) n) xs) (named_before xs n e)); part = λ m born. inr (λ w e. absurd (false≢true e)) });
  }
    where
      only : (b : Bool) → (b || false) ≡ true → b ≡ true
      only true e = refl
      only false e = e

      unlike : (m : ℕ) → Named m ≡ Empty → ⊥
      unlike m e = cc

      same_cell : (z n : ℕ) (v : Option Cell) → slice_get st1.cells z ≡ v → cell_names v n ≡ true → cell_names (slice_get st.cells z) n ≡ true
      same_cell z n (Some (Named m)) e h = ap (λ (o : Option Cell). cell_names o n) (one.was z (Named m) e (unlike m)).0 ∙ h
      same_cell z n (Some Empty) e h = absurd (false≢true h)
      same_cell z n (Some (Number i)) e h = absurd (false≢true h)
      same_cell z n (Some (Points p)) e h = absurd (false≢true h)
      same_cell z n None e h = absurd (false≢true h)

      named_before : (zs : List ℕ) (n : ℕ) → list_any (λ z. cell_names (slice_get st1.cells z) n) zs ≡ true → list_any (λ z. cell_names (slice_get st.cells z) n) zs ≡ true
      named_before [] n e = e
      named_before (z ∷ zs) n e = go (cell_names (slice_get st1.cells z) n) refl e (named_before zs n)
        where
          go : (b : Bool) → cell_names (slice_get st1.cells z) n ≡ b → (b || list_any (λ y. cell_names (slice_get st1.cells y) n) zs) ≡ true
              → (list_any (λ y. cell_names (slice_get st1.cells y) n) zs ≡ true → list_any (λ y. cell_names (slice_get st.cells y) n) zs ≡ true) → list_any (λ y. cell_names (slice_get st.cells y) n) (z ∷ zs) ≡ true
          go true h k rest = left_true (cell_names (slice_get st.cells z) n) (list_any (λ y. cell_names (slice_get st.cells y) n) zs) (same_cell z n (slice_get st1.cells z) refl h)
          go false h k rest = right_true (cell_names (slice_get st.cells z) n) (list_any (λ y. cell_names (slice_get st.cells y) n) zs) (rest k)

  none_ended : (st : State) → AreEnded [] st st
  none_ended st = record { was = λ y v e some. (e, refl); stays = λ y m e free. e; touch = touches_self (kinds_of types) (foot_among st.cells []) st.world.content }

  module _ (ordered : IsOrdered types) (f : Function) (rest : ℕ → ℕ) where
    one_ends : (x : ℕ) (st : State) → Stands types f rest st → (v : Option Cell) → cell st x ≡ v → OnRight (end_cell (local_parts types f x) v x st) (AreEnded (x ∷ []) st)
    one_ends x st stands None e = tt
    one_ends x st stands (Some Empty) e = tt
    one_ends x st stands (Some (Number z)) e = tt
    one_ends x st stands (Some (Points p)) e = emptied x st st.world.content (touches_self (kinds_of types) (foot_among st.cells (x ∷ [])) st.world.content)
    one_ends x st stands (Some (Named n)) e = variable (stands.frame.objects x n e)
      where
        variable : IsVariable st.world.content (local_type types f x) n → OnRight (end_cell (local_parts types f x) (Some (Named n)) x st) (AreEnded (x ∷ []) st)
        variable v =
            subst (λ (o : Option Object). OnRight (end_object (local_parts types f x) o n x st) (AreEnded (x ∷ []) st)) (sym v.there)
            (emptied x st (without n (ended (local_parts types f x) (words_if (slice_get v.object.slots 0)) st.world.content))
            (subst (Touches (kinds_of types) (foot_among st.cells (x ∷ [])) st.world.content) same
            (object_ended_touches (kinds_of types) (parts_at types v.object.ty) n st.world.content (λ k. times (named_in (slice_set st.cells x Empty)) k + rest k) v.object v.slot v.there v.one known wide loose (foot_among st.cells (x ∷ []))
            (whole n (left_true (cell_names (slice_get st.cells x) n) false (ap (λ (o : Option Cell). cell_names o n) e ∙ eq_same n))))))
          where
            known : IsOfParts (kinds_of types) (parts_at types v.object.ty) v.object (Known (kinds_of types) st.world.content (parts_at types v.object.ty))
            known = object_is_known types ordered (hand_of rest st) st.world.content stands.store n v.object v.there

            wide : length v.slot.words ≡ width_at types v.object.ty
            wide = (subst (AllWide (width_at types v.object.ty)) v.one known.wide).0

            loose : IsForest (kinds_of types) (λ k. times (n ∷ []) k + (times (named_in (slice_set st.cells x Empty)) k + rest k)) st.world.content
            loose =
                (less_in_hand types (hand_of rest st) (λ k. times (n ∷ []) k + (times (named_in (slice_set st.cells x Empty)) k + rest k)) st.world.content
                (λ k. let put = named_put st.cells x (Named n) Empty k e in omega (arith, put)) stands.store).forest

            same : ended_object (parts_at types v.object.ty) n st.world.content ≡ without n (ended (local_parts types f x) (words_if (slice_get v.object.slots 0)) st.world.content)
            same =
                ap (λ p. ended_object p n st.world.content) (sym (ap (parts_if types) v.type))
                ∙ ap (λ (y : Option Object). without n (ended (local_parts types f x) (words_if (slice_get (slots_if y) 0)) st.world.content)) v.there

    pub all_end : (xs : List ℕ) (st : State) → Stands types f rest st → OnRight (end_locals types f xs st) (AreEnded xs st)
    all_end [] st stands = none_ended st
    all_end (x ∷ xs) st stands = go (end_cell (local_parts types f x) (cell st x) x st) (one_ends x st stands (cell st x) refl) (end_stands types ordered f rest st stands x) (λ after h. all_end xs after h)
      where
        more : (st1 : State) (e : Effect) → AreEnded (x ∷ []) st st1 → OnRight e (AreEnded xs st1) → OnRight e (AreEnded (x ∷ xs) st)
        more st1 (Next st') one h = ended_then (hand_of rest st) x xs st st1 st' stands.store.forest one h
        more st1 (Traps kind) one h = tt
        more st1 (Faults kind) one h = h
        more st1 Strays one h = tt

        go : (e : Effect) → OnRight e (AreEnded (x ∷ []) st) → OnNext e (Stands types f rest) → ((after : State) → Stands types f rest after → OnRight (end_locals types f xs after) (AreEnded xs after)) → OnRight (on_next e (end_locals types f xs)) (AreEnded (x ∷ xs) st)
        go (Next st1) one stood each = more st1 (end_locals types f xs st1) one (each st1 stood)
        go (Traps kind) one stood each = tt
        go (Faults kind) one stood each = one
        go Strays one stood each = tt

-- ---- the kind

module _ (types : Types) (f : Function) (rest : ℕ → ℕ) (inputs : Root → Option Region) (S : Fact → Type 0) (st : State) (k : IsKnownFrame types f rest inputs S st) (sigs : List Signature) (n : ℕ) (place : Place) (S' : Fact → Type 0) (xs : List ℕ) where
  abbrev c : Content
  c = st.world.content

  abbrev hand : ℕ → ℕ
  hand m = times (named_in st.cells) m + rest m

  -- what a local names isn't owned
  unowned : (y m j : ℕ) → slice_get st.cells y ≡ Some (Named m) → 0 < owns_at (kinds_of types) st.world.content every j m → ⊥
  unowned y m j e own =
      let a = in_hand st.cells y m e in
      let h = k.stands.store.forest.held m in
      let least = owned_at_held (kinds_of types) st.world.content j m in
      let one = alive_le (kinds_of types) st.world.content m in
      omega (arith, a, h, least, one, own)

  -- an input isn't among what ends, nor beneath it
  input_feet : (ro : Root) (a : Region) → StandsAt inputs ro a → Apart (kinds_of types) st.world.content (foot_among st.cells xs) (all_of (a.object ∷ []))
  input_feet ro a stands = record { wholes = λ j t low. one j t low; others = λ j t low. other j t low; parts = λ j w t u. false≢true t; holder = λ j w t low. false≢true t; other_holder = λ j w t low. false≢true t }
    where
      ended_low : (j : ℕ) → list_any (λ z. cell_names (slice_get st.cells z) j) xs ≡ true → Beneath (kinds_of types) st.world.content (frame_foot types f inputs st.cells) j
      ended_low j t = let z = among_named st.cells xs j t in local_low types f rest inputs S st k z.0 j z.2

      one : (j : ℕ) → list_any (λ z. cell_names (slice_get st.cells z) j) xs ≡ true → Beneath (kinds_of types) st.world.content (all_of (a.object ∷ [])) j → ⊥
      one j t (whole _ w) = k.given.free ro a stands (subst (Beneath (kinds_of types) st.world.content (frame_foot types f inputs st.cells)) (sym (one_there a.object j (let p = positive_is (times (a.object ∷ []) j) w in omega (arith, p)))) (ended_low j t))
      one j t (part i _ own) = let z = among_named st.cells xs j t in unowned z.0 j i z.2 (own_all (kinds_of types) st.world.content (λ u. false) i j own)
      one j t (under i _ low own) = let z = among_named st.cells xs j t in unowned z.0 j i z.2 own

      other : (j : ℕ) → (all_of (a.object ∷ [])).whole j ≡ true → Beneath (kinds_of types) st.world.content (foot_among st.cells xs) j → ⊥
      other j w low =
          k.given.free ro a stands (beneath_more (kinds_of types) hand st.world.content k.stands.store.forest (foot_among st.cells xs) (frame_foot types f inputs st.cells) a.object
          (record { whole = λ n lt e. ended_low n e; part = λ n lt. inr (λ u e. absurd (false≢true e)) }) (k.given.born ro a stands)
          (subst (Beneath (kinds_of types) st.world.content (foot_among st.cells xs)) (sym (one_there a.object j (let p = positive_is (times (a.object ∷ []) j) w in omega (arith, p)))) low))

  apart_feet : (y m : ℕ) → slice_get st.cells y ≡ Some (Named m) → list_any (λ z. nat_eq z y) xs ≡ false → Apart (kinds_of types) st.world.content (foot_among st.cells xs) (all_of (m ∷ []))
  apart_feet y m e free = record { wholes = λ j t low. one j t low; others = λ j t low. other j t low; parts = λ j w t u. false≢true t; holder = λ j w t low. false≢true t; other_holder = λ j w t low. false≢true t }
    where
      clash : (z : ℕ) → list_any (λ w. nat_eq w z) xs ≡ true → slice_get st.cells z ≡ Some (Named m) → ⊥
      clash z here named = one_or_apart y z (λ same. false≢true (sym free ∙ subst (λ w. list_any (λ v. nat_eq v w) xs ≡ true) (sym same) here))
          (λ ne. let two = two_named st.cells y z m ne e named in
          let h = k.stands.store.forest.held m in
          let alive = alive_le (kinds_of types) st.world.content m in
          omega (arith, two, h, alive))

      one : (j : ℕ) → list_any (λ z. cell_names (slice_get st.cells z) j) xs ≡ true → Beneath (kinds_of types) st.world.content (all_of (m ∷ [])) j → ⊥
      one j t (whole _ w) = let z = among_named st.cells xs j t in clash z.0 z.1 (subst (λ i. slice_get st.cells z.0 ≡ Some (Named i)) (sym (one_there m j (let p = positive_is (times (m ∷ []) j) w in omega (arith, p)))) z.2)
      one j t (part i _ own) = let z = among_named st.cells xs j t in unowned z.0 j i z.2 (own_all (kinds_of types) st.world.content (λ u. false) i j own)
      one j t (under i _ low own) = let z = among_named st.cells xs j t in unowned z.0 j i z.2 own

      other : (j : ℕ) → (all_of (m ∷ [])).whole j ≡ true → Beneath (kinds_of types) st.world.content (foot_among st.cells xs) j → ⊥
      other j w low = at_m j (one_there m j (let p = positive_is (times (m ∷ []) j) w in omega (arith, p))) low
        where
          at_m : (i : ℕ) → m ≡ i → Beneath (kinds_of types) st.world.content (foot_among st.cells xs) i → ⊥
          at_m i same (whole _ t) = let z = among_named st.cells xs i t in clash z.0 z.1 (subst (λ h. slice_get st.cells z.0 ≡ Some (Named h)) (sym same) z.2)
          at_m i same (part h _ own) = unowned y m h e (subst (λ q. 0 < owns_at (kinds_of types) st.world.content every h q) (sym same) (own_all (kinds_of types) st.world.content (λ u. false) h i own))
          at_m i same (under h _ low own) = unowned y m h e (subst (λ q. 0 < owns_at (kinds_of types) st.world.content every h q) (sym same) own)

  -- what lies inside of a local's object is it, or is beneath it
  beneath_all : (a : Region) (m : ℕ) → Beneath (kinds_of types) st.world.content (foot_of types a) m → Beneath (kinds_of types) st.world.content (all_of (a.object ∷ [])) m
  beneath_all a m (whole _ e) = absurd (false≢true e)
  beneath_all a m (part j _ own) =
      under j m (whole j (is_positive (times (a.object ∷ []) j) (let s = one_same a.object j (sym (region_owner types st.world.content a j m own)) in omega (arith, s)))) (own_all (kinds_of types) st.world.content ((foot_of types a).part j) j m own)
  beneath_all a m (under j _ low own) = under j m (beneath_all a j low) own

  inside_all : (a b : Region) → Inside types k.ordered hand st.world.content k.stands.store a b → Beneath (kinds_of types) st.world.content (all_of (a.object ∷ [])) b.object
  inside_all a b (inl s) = whole b.object (is_positive (times (a.object ∷ []) b.object) (let e = one_same a.object b.object (sym s.object) in omega (arith, e)))
  inside_all a b (inr low) = beneath_all a b.object low

  end_guards : Guards types st.world.content (RootStands types f (StandsAt inputs) st.cells) S (is_rooted_among xs) (foot_among st.cells xs)
  end_guards a r names at_r low = go (is_rooted_among xs a) refl
    where
      by_root : (ro : Root) → a.root ≡ ro → RootStands types f (StandsAt inputs) st.cells ro at_r.start → is_rooted_among xs a ≡ false → is_rooted_among xs a ≡ true
      by_root (root.Input q member) e stands free =
          absurd (apart (kinds_of types) hand st.world.content k.stands.store.forest (foot_among st.cells xs) (all_of (at_r.start.object ∷ [])) (input_feet (root.Input q member) at_r.start stands) r.object low
          (inside_all at_r.start r (lies_inside types k.ordered hand st.world.content k.stands.store (path a) at_r.start r ((rooted_of types f rest inputs S st k).fits a.root at_r.start at_r.stands) at_r.lies)))
      by_root (root.Local y) e stands free =
          let out : list_any (λ z. nat_eq z y) xs ≡ false = ap (λ (ro : Root). list_any (λ z. is_root z ro) xs) (sym e) ∙ free in
          absurd (apart (kinds_of types) hand st.world.content k.stands.store.forest (foot_among st.cells xs) (all_of (at_r.start.object ∷ [])) (apart_feet y at_r.start.object stands.0 out) r.object low
          (inside_all at_r.start r (lies_inside types k.ordered hand st.world.content k.stands.store (path a) at_r.start r ((rooted_of types f rest inputs S st k).fits a.root at_r.start at_r.stands) at_r.lies)))

      go : (b : Bool) → is_rooted_among xs a ≡ b → is_rooted_among xs a ≡ true
      go true e = e
      go false e = by_root a.root refl at_r.stands e

  pub end_kind : (s : Setting) → IsRight sigs types n f place (End xs) S S' → OnRight (does s types f (End xs) st) (FrameCovered types f inputs S')
  end_kind s right = covered (end_locals types f xs st) (all_end types k.ordered f rest xs st k.stands)
    where
      objects : (x : ℕ) (r : Region) → RootStands types f (StandsAt inputs) st.cells (root.Local x) r → object_at types f x ≡ true
      objects x r stands = object_named types f rest inputs S st k x r.object stands.0

      unlike : (v : Pointer) → Points v ≡ Empty → ⊥
      unlike v e = cc

      -- what a local holds that didn't end, and what its members do
      held : (st' : State) → AreEnded types xs st st' → (l : Location) (v : Pointer) → is_pointer (type_in types f l) ≡ true → location_cell types f l st' ≡ Some (Points v) → (location_cell types f l st ≡ Some (Points v)) × (list_any (λ z. nat_eq z l.local) xs ≡ false)
      held st' over l v pointer e = go l.members refl (slice_get st'.cells l.local) refl e
        where
          nameless : (m : ℕ) → Named m ≡ Empty → ⊥
          nameless m h = cc

          go : (ms : List ℕ) → l.members ≡ ms → (x : Option Cell) → slice_get st'.cells l.local ≡ x → member_cell types f l.local ms x st'.world.content ≡ Some (Points v) → (location_cell types f l st ≡ Some (Points v)) × (list_any (λ z. nat_eq z l.local) xs ≡ false)
          go [] none x here h =
              let old = over.was l.local (Points v) (here ∙ h) (unlike v) in
              (ap (λ (ms : List ℕ). member_cell types f l.local ms (slice_get st.cells l.local) st.world.content) none ∙ old.0, old.1)
          go (m ∷ ms) some (Some (Named j)) here h =
              let old = over.was l.local (Named j) here (nameless j) in (
                held_before types k.ordered k.once f k.shaped st (λ y i named. k.stands.frame.objects y i named) l pointer hand k.stands.store (foot_among st.cells xs)
                    (record {
                      apart = λ i named low. apart (kinds_of types) hand st.world.content k.stands.store.forest (foot_among st.cells xs) (all_of (i ∷ [])) (apart_feet l.local i named old.1) i low (whole i (is_positive (times (i ∷ []) i) (let one = one_same i i refl in omega (arith, one))));
                      words = λ i u named lt. refl;
                    }) st'.world.content over.touch v (ap (λ (y : Option Cell). member_cell types f l.local l.members y st'.world.content) (old.0 ∙ sym here) ∙ e),
                old.1,
              )
          go (m ∷ ms) some None here h = absurd (none_some h)
          go (m ∷ ms) some (Some Empty) here h = absurd (none_some h)
          go (m ∷ ms) some (Some (Number z)) here h = absurd (none_some h)
          go (m ∷ ms) some (Some (Points q)) here h = absurd (none_some h)

      behind : (st' : State) → AreEnded types xs st st' → FrameCovered types f inputs S' st'
      behind st' over l v pointer e =
          let was = held st' over l v pointer e in
          cover_on types k.ordered hand st.world.content st'.world.content k.stands.store (foot_among st.cells xs) over.touch (RootStands types f (StandsAt inputs) st.cells) (RootStands types f (StandsAt inputs) st'.cells) (may_change types f) (rooted_of types f rest inputs S st k).fits
          (is_rooted_among xs) (writes (End xs)) S S' (left_by_end sigs types f place xs S S' right.closed (RootStands types f (StandsAt inputs) st.cells) objects) end_guards (λ a r names free stands. stay a.root r free stands)
          (located l) (look_in types f l) v (ap (λ (ro : Root). list_any (λ z. is_root z ro) xs) (members_root l.members (local_place l.local)) ∙ was.1) (k.covered l v pointer was.0)
        where
          stay : (ro : Root) (r : Region) → list_any (λ z. is_root z ro) xs ≡ false → RootStands types f (StandsAt inputs) st.cells ro r → RootStands types f (StandsAt inputs) st'.cells ro r
          stay (root.Local y) r free stands = (over.stays y r.object stands.0 free, stands.1, stands.2)
          stay (root.Input q member) r free stands = stands

      covered : (e : Effect) → OnRight e (AreEnded types xs st) → OnRight e (FrameCovered types f inputs S')
      covered (Next st') h = behind st' h
      covered (Traps kind) h = tt
      covered (Faults kind) h = h
      covered Strays h = tt
