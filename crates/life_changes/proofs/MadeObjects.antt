-- Behind the birth of an object that a unique_ptr is to own: the store is one still, the owner's place stands, and what was counted is few.
use Rattle.std.proofs.Common.{◌≡◌, ◌≢◌, ℕ, suc, ◌+◌, ◌-◌, ◌≤◌, ◌<◌, ◌^◌, [], ◌∷◌, length, Some, refl, sym, ap, subst, ◌∙◌, arith, mul-le-mul_left}
use Rattle.std.proofs.lemmas.Option.{same_Some}
use Rattle.life_types.specs.Types.{Types}
use Rattle.life_types.specs.declared.ty.TyId.{TyId}
use Rattle.life_core.specs.declared.instr.Form.TheVariants as form
use Rattle.life_store.specs.Cells.{at}
use Rattle.life_store.specs.Content.{Object, Content}
use Rattle.life_store.specs.Doing.{replaced}
use Rattle.life_store.specs.Effects.{Setting, Attempt, Got}
use Rattle.life_store.specs.Held.{owner_word}
use Rattle.life_store.specs.Owners.{Words, fresh, object_with}
use Rattle.life_store.specs.Parts.{Parts, Single, Unique, parts_at, width, width_at}
use Rattle.life_store.specs.References.{Rows}
use Rattle.life_store.specs.declared.object.ObjRef.{ObjRef}
use Rattle.life_store.proofs.MapLemmas.{one_or_apart}
use Rattle.life_forest.specs.Forest.{IsForest}
use Rattle.life_forest.specs.Kinds.{kinds_of as forest_kinds, rank_of}
use Rattle.life_forest.specs.Owned.{every, owns as owned_by, times}
use Rattle.life_forest.specs.Typed.{AreFit, IsStore}
use Rattle.life_forest.proofs.Above.{above_apart, above_unowned}
use Rattle.life_forest.proofs.Coming.{Came, CameWords, IfGot, came_none, fresh_came}
use Rattle.life_forest.proofs.Counting.{one_apart, one_same}
use Rattle.life_forest.proofs.FittingBirths.{FitWords, fresh_fit, got_both, value_owner}
use Rattle.life_forest.proofs.Given.{given_over_stands, given_over_store, Stands as IsBesideNew}
use Rattle.life_forest.proofs.Laying.{laid_at, named_at}
use Rattle.life_forest.proofs.Objects.{object_came, object_fit}
use Rattle.life_forest.proofs.Frames.{less_in_hand}
use Rattle.life_forest.proofs.Stores.{if_such}
use Rattle.life_seen.specs.Housed.{IsRef, Later, Shows}
use Rattle.life_seen.specs.Kinds.{kinds_of}
use Rattle.life_seen.specs.Rowed.{AreRowed}
use Rattle.life_seen.proofs.References.{ref_later}
use Rattle.life_pointers.specs.Owned.{spot_seen}
use Rattle.life_pointers.specs.declared.owned.Spot.{Spot}
use Rattle.life_cells.specs.Fits.{meant}
use Rattle.life_changes.specs.Bounded.{IsBounded, IsEarly}
use Rattle.life_changes.specs.NewObjects.{fresh_value, number_value, taken_value, IsTemporary}
use Rattle.life_changes.specs.Owners.{StandsAt}
use Rattle.life_changes.proofs.Bounds.{cost_within}
use Rattle.life_changes.proofs.Counted.{Counted, counted_consumed, counted_more}
use Rattle.life_changes.proofs.CountedObjects.{fresh_counted, object_counted}
use Rattle.life_changes.proofs.Frames.{behind, IsBehind}
use Rattle.life_changes.proofs.Made.{replaced_counts}
use Rattle.life_changes.proofs.Owned.{below_object, ref_placed, unique_parts}

-- the store with the object in the hand, where another one is as it was
pub record IsMade (types : Types) (limit : ℕ) (left : ℕ → ℕ) (n : ℕ) (o : Object) (c : Content) (b : ℕ × Content) : Type 0 where
  pub store : IsStore types (λ k. times (b.0 ∷ []) k + left k) b.1
  pub other : at b.1.objects n ≡ Some o
  pub counts : Counted limit c n o.capacity (2 ^ 32) 1 b.1

-- what is in the hand beside the temporary
abbrev pub beside : (ℕ → ℕ) → ℕ → ℕ → ℕ
beside hand n k = hand k - times (n ∷ []) k

pub hand_apart : (types : Types) (hand : ℕ → ℕ) (n : ℕ) (c : Content) → 0 < hand n → IsStore types hand c → IsStore types (λ k. times (n ∷ []) k + beside hand n k) c
hand_apart types hand n c held store = less_in_hand types hand (λ k. times (n ∷ []) k + beside hand n k) c each store
  where
    each : (k : ℕ) → times (n ∷ []) k + beside hand n k ≤ hand k
    each k =
        one_or_apart n k
        (λ same. let one = one_same n k same in let h = subst (λ j. 0 < hand j) same held in omega (arith, one, h))
        (λ ne. let none = one_apart n k ne in omega (arith, none))

module _ (types : Types) (limit depth : ℕ) (hand : ℕ → ℕ) (ty : TyId) (spot : Spot) (c : Content) (rows : Rows) (here : StandsAt types limit depth hand ty spot c rows) (s : Setting) (given : s.given.cells ≡ limit) (id : TyId) where
  abbrev m : Content
  m = meant types c rows

  abbrev n : ℕ
  n = spot.object.birth

  abbrev p : Parts
  p = parts_at types id

  old : n < (meant types c rows).births
  old = here.store.forest.births n here.object here.place.there

  few : (more : ℕ) (d : Content) → more ≤ width p → 2 + width p ≤ limit → Counted limit (meant types c rows) spot.object.birth here.object.capacity (1 + more) 1 d → Counted limit (meant types c rows) spot.object.birth here.object.capacity (2 ^ 32) 1 d
  few more d less small h = counted_more limit m n here.object.capacity (1 + more) 1 (2 ^ 32) 1 d (let f = here.served.few in omega (arith, less, small, f)) (omega arith) h

  -- with a value that comes to life, or a number
  value_made : (value : Content → Attempt Words) (more : ℕ) → more ≤ width p
      → ((h : ℕ → ℕ) (d : Content) → IsForest (forest_kinds types) h d → IfGot (value d) (CameWords (forest_kinds types) (rank_of types id) h (parts_at types id) d))
      → ((h : ℕ → ℕ) (d : Content) → IsForest (forest_kinds types) h d → AreFit (forest_kinds types) d → IfGot (value d) (FitWords (forest_kinds types) (parts_at types id)))
      → ((k t : ℕ) (d : Content) → Counted limit (meant types c rows) spot.object.birth here.object.capacity k t d → IfGot (value d) (λ v. Counted limit (meant types c rows) spot.object.birth here.object.capacity (k + more) t v.1))
      → IfGot (object_with s id (parts_at types id) value (meant types c rows)) (IsMade types limit hand spot.object.birth here.object (meant types c rows))
  value_made value more less came fits counts =
      let x = object_with s id p value m in
      if_such x
      (λ b. Came (forest_kinds types) (suc (rank_of types id)) hand (b.0 ∷ []) m b.1 × (AreFit (forest_kinds types) b.1 × (Counted limit m n here.object.capacity (1 + more) 1 b.1 × (2 + width p ≤ limit))))
      (IsMade types limit hand n here.object m)
      (got_both x (λ b. Came (forest_kinds types) (suc (rank_of types id)) hand (b.0 ∷ []) m b.1) (λ b. AreFit (forest_kinds types) b.1 × (Counted limit m n here.object.capacity (1 + more) 1 b.1 × (2 + width p ≤ limit)))
      (object_came (forest_kinds types) id p (λ u. refl) s (suc (rank_of types id)) value (omega arith) came hand m here.store.forest)
      (got_both x (λ b. AreFit (forest_kinds types) b.1) (λ b. Counted limit m n here.object.capacity (1 + more) 1 b.1 × (2 + width p ≤ limit))
      (object_fit (forest_kinds types) id p (λ u. refl) s (suc (rank_of types id)) value (omega arith) (refl, λ u. refl)
      (λ h d f g. got_both (value d) (CameWords (forest_kinds types) (rank_of types id) h p d) (FitWords (forest_kinds types) p) (came h d f) (fits h d f g)) hand m here.store.forest here.store.fit)
      (object_counted limit m n here.object here.place.there here.bounded old s given id p value more counts)))
      (λ b h. record {
        store = record { forest = h.0.forest; fit = h.1.0 };
        other = h.0.same n old ∙ here.place.there;
        counts = few more b.1 less h.1.1.1 h.1.1.0;
      })

  pub fresh_made : IfGot (object_with s id (parts_at types id) (fresh_value s (parts_at types id)) (meant types c rows)) (IsMade types limit hand spot.object.birth here.object (meant types c rows))
  fresh_made =
      let ordered = here.served.ordered in
      value_made (fresh s form.Zero p) (width p) (omega arith)
      (λ h d f. fresh_came (forest_kinds types) s form.Zero p (rank_of types id) (laid_at types ordered id) h d f)
      (λ h d f g. fresh_fit (forest_kinds types) s form.Zero p (rank_of types id) (laid_at types ordered id) (named_at types ordered id) h d f g)
      (λ k t d h. fresh_counted limit m n here.object.capacity s given form.Zero p k t d h)

  pub number_made : (word : ℕ) → parts_at types id ≡ Single → IfGot (object_with s id (parts_at types id) (number_value word (parts_at types id)) (meant types c rows)) (IsMade types limit hand spot.object.birth here.object (meant types c rows))
  number_made word single =
      value_made (λ d. Got (word ∷ [], d)) 0 (omega arith)
      (λ h d f. subst (λ (r : Parts). CameWords (forest_kinds types) (rank_of types id) h r d (word ∷ [], d)) (sym single) (came_none (forest_kinds types) (rank_of types id) h d f, refl))
      (λ h d f g. subst (λ (r : Parts). FitWords (forest_kinds types) r (word ∷ [], d)) (sym single) (g, λ u k q e a there. absurd (value_owner e)))
      (λ k t d h. counted_more limit m n here.object.capacity k t (k + 0) t d (omega arith) (omega arith) h)

  -- .. or with that of a temporary, which is no more
  pub taken_made : (r : ObjRef) (t : IsTemporary types hand id r c rows) → r.birth ≢ spot.object.birth → owned_by (forest_kinds types) every t.object spot.object.birth ≡ 0
      → IfGot (object_with s id (parts_at types id) (taken_value r.birth (parts_at types id)) (meant types c rows)) (IsMade types limit (beside hand r.birth) spot.object.birth here.object (meant types c rows))
  taken_made r t apart unowned =
      let x = object_with s id p (taken_value r.birth p) m in
      let left = beside hand r.birth in
      let before = hand_apart types hand r.birth m t.held here.store in
      if_such x
      (λ b. IsStore types (λ k. times (b.0 ∷ []) k + left k) b.1 × (IsBesideNew id n here.object b × (Counted limit m n here.object.capacity (1 + width p) 1 b.1 × (2 + width p ≤ limit))))
      (IsMade types limit left n here.object m)
      (got_both x (λ b. IsStore types (λ k. times (b.0 ∷ []) k + left k) b.1) (λ b. IsBesideNew id n here.object b × (Counted limit m n here.object.capacity (1 + width p) 1 b.1 × (2 + width p ≤ limit)))
      (given_over_store types here.served.ordered left m s id r.birth t.object t.slot before t.there t.one t.type)
      (got_both x (IsBesideNew id n here.object) (λ b. Counted limit m n here.object.capacity (1 + width p) 1 b.1 × (2 + width p ≤ limit))
      (given_over_stands types here.served.ordered left m s id r.birth t.object t.slot n here.object before t.there t.one t.type here.place.there apart unowned)
      (object_counted limit m n here.object here.place.there here.bounded old s given id p (taken_value r.birth p) (width p) (λ k u d h. counted_consumed limit m n here.object.capacity p r.birth k u d h))))
      (λ b h. record { store = h.0; other = h.1.0.other; counts = few (width p) b.1 (omega arith) h.1.1.1 h.1.1.0 })

-- ---- in the store behind it

module _ (types : Types) (limit depth : ℕ) (hand : ℕ → ℕ) (ty : TyId) (spot : Spot) (c : Content) (rows : Rows) (here : StandsAt types limit depth hand ty spot c rows) (early : IsEarly c) (left : ℕ → ℕ) (b : ℕ × Content)
    (made : IsMade types limit left spot.object.birth here.object (meant types c rows) b) where
  pub stands_made : (d : Content) (new : Rows) → Shows (kinds_of types) d new b.1 → AreRowed (kinds_of types) d new → Later c d rows new → StandsAt types limit depth (λ k. times (b.0 ∷ []) k + left k) ty spot d new
  stands_made d new shows rowed later =
      let there = ap (λ (x : Content). at x.objects spot.object.birth) shows.is ∙ made.other in
      let births = ap (λ (x : Content). x.births) shows.is in
      let clock = ap (λ (x : Content). x.clock) shows.is in
      let referred : IsRef c rows spot.object = record { born = here.store.forest.births spot.object.birth here.object here.place.there; row = λ k e. same_Some k spot.object.row (sym e ∙ here.placed) } in
      record {
        served = here.served;
        housed = shows.housed;
        rowed = rowed;
        bounded = subst (IsBounded limit) (sym shows.is) made.counts.bounded;
        early = record {
          births = let x = made.counts.births in let e = early.births in omega (arith, births, x, e);
          clock = let x = made.counts.clock in let e = early.clock in omega (arith, clock, x, e);
        };
        store = subst (IsStore types (λ k. times (b.0 ∷ []) k + left k)) (sym shows.is) made.store;
        placed = ref_placed types d new shows.housed spot.object (ref_later c d rows new spot.object later referred) here.object there;
        small = here.small;
        object = here.object;
        place = record { there = there; slot = here.place.slot; within = here.place.within };
      }

  pub remade_behind : (p : Parts) → IsBehind limit (meant types c rows) (replaced p (spot_seen spot) (owner_word (Some b.0) ∷ [], b.1))
  remade_behind p =
      behind types limit depth hand ty spot c rows here spot.object.birth here.object.capacity (2 ^ 32) 1 (replaced p (spot_seen spot) (owner_word (Some b.0) ∷ [], b.1)) (omega arith) (omega arith)
      (replaced_counts types limit depth hand ty spot c rows here (2 ^ 32) 1 b.1 p (owner_word (Some b.0) ∷ []) made.counts)

-- ---- a temporary

module _ (types : Types) (limit depth : ℕ) (hand : ℕ → ℕ) (ty : TyId) (spot : Spot) (c : Content) (rows : Rows) (here : StandsAt types limit depth hand ty spot c rows) (id : TyId) where
  -- its words live, so they are few
  pub temporary_small : (r : ObjRef) → IsTemporary types hand id r c rows → width_at types id ≤ limit
  temporary_small r t =
      let all = here.bounded.within in
      let cost = cost_within (meant types c rows) r.birth t.object t.there in
      let room = here.bounded.roomy r.birth t.object t.there in
      let one = ap length t.one in
      let wide = (here.store.fit r.birth t.object t.there).width ∙ ap (width_at types) t.type in
      let many = mul-le-mul_left {m = 1} {n = t.object.capacity} t.object.width (omega (arith, room, one)) in
      omega (arith, all, cost, wide, many)

  -- it stands below what the owner stands in
  pub taken_whole : parts_at types ty ≡ Unique id (parts_at types id) → (s : Setting) → s.given.cells ≡ limit → (r : ObjRef) (t : IsTemporary types hand id r c rows)
      → IfGot (object_with s id (parts_at types id) (taken_value r.birth (parts_at types id)) (meant types c rows)) (IsMade types limit (beside hand r.birth) spot.object.birth here.object (meant types c rows))
  taken_whole unique s given r t =
      let ordered = here.served.ordered in
      let m = meant types c rows in
      let owns = unique_parts types ordered ty id (parts_at types id) unique in
      let below = subst (λ k. rank_of types k < rank_of types here.object.ty) (sym t.type) (below_object types limit depth hand ty spot c rows here id (parts_at types id) owns) in
      taken_made types limit depth hand ty spot c rows here s given id r t
      (λ same. above_apart types ordered hand m here.store spot.object.birth spot.word ty here.object here.place.there here.place.within r.birth t.object t.there below (sym same))
      (above_unowned types ordered hand m here.store spot.object.birth spot.word ty here.object here.place.there here.place.within r.birth t.object t.there below)
