-- One object is changed, born, or no more: the forest then, and what is touched.
use Rattle.std.proofs.Common.{◌≡◌, ◌≢◌, ℕ, ◌+◌, ◌≤◌, ◌<◌, Bool, List, [], ◌∷◌, Option, Some, None, refl, sym, ap, subst, ◌∙◌, arith, ⊎_elim, inl, inr, ◌⊎◌}
use Rattle.std.specs.Prelude.{option_map}
use Rattle.life_store.specs.Cells.{Cells, at, set, unset, at-set_same, at-set_other, at-unset_same, at-unset_other}
use Rattle.life_store.specs.Content.{Slot, Object, Content, without, with_object}
use Rattle.life_store.proofs.MapLemmas.{one_or_apart, sum-set, sum-set_fresh}
use Rattle.life_forest.specs.Kinds.{Kinds}
use Rattle.life_forest.specs.Changes.{with_born, ticked}
use Rattle.life_forest.specs.Owned.{one, every, alive, alive_if, owns, owns_if, owns_at, holders, spared}
use Rattle.life_forest.specs.Forest.{AllSince, IsForest, Foot, Beneath, Touches}
use Rattle.life_store.proofs.CellLemmas.{some_same}
use Rattle.life_forest.proofs.Counting.{one_same, one_apart}
use Rattle.life_forest.proofs.Sparing.{owns_le}
use Rattle.life_forest.proofs.Steps.{alive_le, holders_without, owned_held, was_there}

module _ (kind : Kinds) where
  -- ---- one object

  -- what may stand in an object
  pub record Fits (c : Content) (o : Object) : Type 0 where
    pub lower : (m : ℕ) (q : Object) → 0 < owns kind every o m → at c.objects m ≡ Some q → kind.rank q.ty < kind.rank o.ty
    pub slots : AllSince c.clock o.slots
    pub end : o.end ≤ c.clock

  pub fits_there : (hand : ℕ → ℕ) (c : Content) (n : ℕ) (o : Object) → IsForest kind hand c → at c.objects n ≡ Some o → Fits c o
  fits_there hand c n o forest there = record {
    lower = λ m q own below. forest.lower n m o q there own below;
    slots = forest.slots n o there;
    end = forest.ends n o there;
  }

  -- a forest is one where each object fits
  pub is_forest : (hand : ℕ → ℕ) (c : Content) → ((k : ℕ) → hand k + holders kind c k ≤ alive c k) → ((n : ℕ) (o : Object) → at c.objects n ≡ Some o → Fits c o × (n < c.births)) → IsForest kind hand c
  is_forest hand c held fits = record {
    held = held;
    lower = λ n m o q there own below. (fits n o there).0.lower m q own below;
    slots = λ n o there. (fits n o there).0.slots;
    ends = λ n o there. (fits n o there).0.end;
    births = λ n o there. (fits n o there).1;
  }

  set_at : (m : Cells Object) (n k : ℕ) (v o : Object) → n ≡ k → at (set m n v) k ≡ Some o → v ≡ o
  set_at m n k v o e there = some_same (sym (at-set_same m n k v e) ∙ there)

  set_away : (m : Cells Object) (n k : ℕ) (v o : Object) → n ≢ k → at (set m n v) k ≡ Some o → at m k ≡ Some o
  set_away m n k v o ne there = sym (at-set_other m n k v ne) ∙ there

  -- another object of the type in its place: what it owns more comes from the hand, and what it owns less goes there
  pub forest_with : (hand new : ℕ → ℕ) (c : Content) (n : ℕ) (o q : Object) → IsForest kind hand c → at c.objects n ≡ Some o → q.ty ≡ o.ty → Fits c q
      → ((k : ℕ) → new k + owns kind every q k ≤ hand k + owns kind every o k) → IsForest kind new (with_object n q c)
  forest_with hand new c n o q forest there same fits less = is_forest new (with_object n q c) held each
    where
      held : (k : ℕ) → new k + holders kind (with_object n q c) k ≤ alive (with_object n q c) k
      held k =
          let s = sum-set (λ x. owns kind every x k) c.objects n o q there in
          let h = forest.held k in
          let l = less k in
          one_or_apart n k
          (λ e. let a : alive (with_object n q c) k ≡ 1 = ap alive_if (at-set_same c.objects n k q e) in let b = alive_le kind c k in omega arith)
          (λ ne. let a : alive (with_object n q c) k ≡ alive c k = ap alive_if (at-set_other c.objects n k q ne) in omega arith)

      lower : (x : Object) → Fits c x → (m : ℕ) (y : Object) → 0 < owns kind every x m → at (set c.objects n q) m ≡ Some y → kind.rank y.ty < kind.rank x.ty
      lower x f m y own below = one_or_apart n m
          (λ e. let i = ap (λ (z : Object). kind.rank z.ty) (set_at c.objects n m q y e below) in let s = ap kind.rank same in let l = f.lower m o own (subst (λ j. at c.objects j ≡ Some o) e there) in omega arith)
          (λ ne. f.lower m y own (set_away c.objects n m q y ne below))

      again : (x : Object) → Fits c x → Fits (with_object n q c) x
      again x f = record { lower = lower x f; slots = f.slots; end = f.end }

      each : (m : ℕ) (x : Object) → at (set c.objects n q) m ≡ Some x → Fits (with_object n q c) x × (m < c.births)
      each m x is = one_or_apart n m
          (λ e. (again x (subst (Fits c) (set_at c.objects n m q x e is) fits), subst (λ j. j < c.births) e (forest.births n o there)))
          (λ ne. let was = set_away c.objects n m q x ne is in (again x (fits_there hand c m x forest was), forest.births m x was))

  -- one that is in the hand goes: what it owns is in the hand then
  pub forest_without : (hand new : ℕ → ℕ) (c : Content) (n : ℕ) → IsForest kind hand c → ((k : ℕ) → new k + one n k ≤ hand k + owns_at kind c every n k) → IsForest kind new (without n c)
  forest_without hand new c n forest less = is_forest new (without n c) held each
    where
      held : (k : ℕ) → new k + holders kind (without n c) k ≤ alive (without n c) k
      held k =
          let s = holders_without kind c n k in
          let h = forest.held k in
          let l = less k in
          one_or_apart n k
          (λ e. let a : alive (without n c) k ≡ 0 = ap alive_if (at-unset_same c.objects n k e) in let b = alive_le kind c k in let i = one_same n k e in omega arith)
          (λ ne. let a : alive (without n c) k ≡ alive c k = ap alive_if (at-unset_other c.objects n k ne) in omega arith)

      each : (m : ℕ) (x : Object) → at (unset c.objects n) m ≡ Some x → Fits (without n c) x × (m < c.births)
      each m x is =
          let was = was_there kind (n ∷ []) c m x is in
          let f = fits_there hand c m x forest was in
          (record { lower = λ j y own below. f.lower j y own (was_there kind (n ∷ []) c j y below); slots = f.slots; end = f.end }, forest.births m x was)

  pub unborn : (hand : ℕ → ℕ) (c : Content) → IsForest kind hand c → at c.objects c.births ≡ None
  unborn hand c forest = go (at c.objects c.births) refl
    where
      go : (o : Option Object) → at c.objects c.births ≡ o → at c.objects c.births ≡ None
      go None e = e
      go (Some o) e = let h = forest.births c.births o e in absurd (omega arith)

  -- an object is born into the hand, and takes what it owns from there
  pub forest_birth : (hand new : ℕ → ℕ) (c : Content) (q : Object) → IsForest kind hand c → Fits c q → ((k : ℕ) → owns kind every q k ≤ hand k)
      → ((k : ℕ) → new k + owns kind every q k ≤ hand k + one c.births k) → IsForest kind new (with_born q c)
  forest_birth hand new c q forest fits taken less = is_forest new (with_born q c) held each
    where
      none : at c.objects c.births ≡ None
      none = unborn hand c forest

      zero_there : alive c c.births ≡ 0
      zero_there = ap alive_if none

      held : (k : ℕ) → new k + holders kind (with_born q c) k ≤ alive (with_born q c) k
      held k =
          let s = sum-set_fresh (λ x. owns kind every x k) c.objects c.births q none in
          let h = forest.held k in
          let l = less k in
          one_or_apart c.births k
          (λ e. let a : alive (with_born q c) k ≡ 1 = ap alive_if (at-set_same c.objects c.births k q e) in
          let b : alive c k ≡ 0 = subst (λ j. alive c j ≡ 0) e zero_there in
          let i = one_same c.births k e in
          omega arith)
          (λ ne. let a : alive (with_born q c) k ≡ alive c k = ap alive_if (at-set_other c.objects c.births k q ne) in
          let i = one_apart c.births k ne in
          omega arith)

      -- none owned it before
      unowned : (m : ℕ) (x : Object) → at c.objects m ≡ Some x → owns kind every x c.births ≡ 0
      unowned m x is = let a = owned_held kind c m c.births x is in let h = forest.held c.births in let z = zero_there in omega arith

      again : (x : Object) → Fits c x → owns kind every x c.births ≡ 0 → Fits (with_born q c) x
      again x f z = record {
        lower = λ m y own below. one_or_apart c.births m
            (λ e. let w : owns kind every x m ≡ 0 = subst (λ j. owns kind every x j ≡ 0) e z in absurd (omega arith))
            (λ ne. f.lower m y own (set_away c.objects c.births m q y ne below));
        slots = f.slots;
        end = f.end;
      }

      own_none : owns kind every q c.births ≡ 0
      own_none = let h = forest.held c.births in let z = zero_there in let l = taken c.births in omega arith

      each : (m : ℕ) (x : Object) → at (set c.objects c.births q) m ≡ Some x → Fits (with_born q c) x × (m < (c.births + 1))
      each m x is = one_or_apart c.births m
          (λ e. (again x (subst (Fits c) (set_at c.objects c.births m q x e is) fits) (subst (λ y. owns kind every y c.births ≡ 0) (set_at c.objects c.births m q x e is) own_none), omega arith))
          (λ ne. let was = set_away c.objects c.births m q x ne is in let h = forest.births m x was in (again x (fits_there hand c m x forest was) (unowned m x was), omega arith))

  stamps_later : (t : ℕ) (ss : List Slot) → AllSince t ss → AllSince (t + 1) ss
  stamps_later t [] h = tt
  stamps_later t (s ∷ ss) h = let l = h.0 in (omega arith, stamps_later t ss h.1)

  pub forest_ticked : (hand : ℕ → ℕ) (c : Content) → IsForest kind hand c → IsForest kind hand (ticked c)
  forest_ticked hand c forest = record {
    held = forest.held;
    lower = forest.lower;
    slots = λ n o there. stamps_later c.clock o.slots (forest.slots n o there);
    ends = λ n o there. let h = forest.ends n o there in omega arith;
    births = forest.births;
  }

  -- ---- what is touched at one object

  pub touches_with : (t : Foot) (c : Content) (n : ℕ) (o q : Object) → at c.objects n ≡ Some o → (Beneath kind c t n ⊎ (spared kind (t.part n) q ≡ spared kind (t.part n) o))
      → ((g : ℕ → Bool) (k : ℕ) → k < c.births → 0 < owns kind g q k → Beneath kind c t k ⊎ (0 < owns kind g o k)) → Touches kind t c (with_object n q c)
  touches_with t c n o q there alike back = record {
    births = omega arith;
    clock = omega arith;
    kept = λ k lt apart. one_or_apart n k
        (λ e. ⊎_elim
        (λ b. absurd (apart (subst (Beneath kind c t) e b)))
        (λ s. ap (option_map (spared kind (t.part k))) (at-set_same c.objects n k q e)
        ∙ ap Some (subst (λ j. spared kind (t.part j) q ≡ spared kind (t.part j) o) e s)
        ∙ ap (option_map (spared kind (t.part k))) (sym (subst (λ j. at c.objects j ≡ Some o) e there)))
        alike)
        (λ ne. ap (option_map (spared kind (t.part k))) (at-set_other c.objects n k q ne));
    back = λ g m k lt own. one_or_apart n m
        (λ e. ⊎_elim
        (λ b. inl b)
        (λ h. inr (subst (λ (x : Option Object). 0 < owns_if kind g x k) (sym (subst (λ j. at c.objects j ≡ Some o) e there)) h))
        (back g k lt (subst (λ (x : Option Object). 0 < owns_if kind g x k) (at-set_same c.objects n m q e) own)))
        (λ ne. inr (subst (λ (x : Option Object). 0 < owns_if kind g x k) (at-set_other c.objects n m q ne) own));
  }

  pub touches_birth : (t : Foot) (c : Content) (q : Object) → ((k : ℕ) → k < c.births → 0 < owns kind every q k → Beneath kind c t k) → Touches kind t c (with_born q c)
  touches_birth t c q low = record {
    births = omega arith;
    clock = omega arith;
    kept = λ k lt apart. ap (option_map (spared kind (t.part k))) (at-set_other c.objects c.births k q (λ e. absurd (omega arith)));
    back = λ g m k lt own. one_or_apart c.births m
        (λ e. let was : 0 < owns kind g q k = subst (λ (x : Option Object). 0 < owns_if kind g x k) (at-set_same c.objects c.births m q e) own in
        let le = owns_le kind g every (Some q) k (λ u h. refl) in
        inl (low k lt (omega arith)))
        (λ ne. inr (subst (λ (x : Option Object). 0 < owns_if kind g x k) (at-set_other c.objects c.births m q ne) own));
  }

  pub touches_ticked : (t : Foot) (c : Content) → Touches kind t c (ticked c)
  touches_ticked t c = record { births = omega arith; clock = omega arith; kept = λ n lt apart. refl; back = λ g m k lt own. inr own }
