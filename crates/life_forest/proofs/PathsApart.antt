-- Two members of one object that have no members themselves, and aren't the same one, lie at different words.
use Rattle.std.proofs.Common.{◌≡◌, ⊎_elim, ◌⊎◌, inl, inr, ℕ, zero, suc, ◌+◌, ◌≤◌, ◌<◌, List, [], ◌∷◌, Option, Some, None, refl, sym, ap, subst, ◌∙◌, arith}
use Rattle.std.proofs.lemmas.List.Sums.{sum_by-cons}
use Rattle.std.specs.Prelude.{slice_get, sum_by, take}
use Rattle.life_types.specs.Trees.{IsOrdered}
use Rattle.life_types.specs.Types.{Types}
use Rattle.life_types.specs.declared.ty.TyId.{TyId}
use Rattle.life_store.specs.Parts.{members_of, type_within, width_at, word_within}
use Rattle.life_store.proofs.CellLemmas.{none_some, some_same}
use Rattle.life_forest.proofs.Members.{path_within}

-- what stands before a later member reaches as far as an earlier one does
sums_apart : (w : TyId → ℕ) (xs : List TyId) (m n : ℕ) (x : TyId) → m < n → slice_get xs m ≡ Some x → sum_by w (take m xs) + w x ≤ sum_by w (take n xs)
sums_apart w [] m n x lt e = absurd (none_some e)
sums_apart w (y ∷ ys) m zero x lt e = absurd (omega (arith, lt))
sums_apart w (y ∷ ys) zero (suc n) x lt e =
    let same = ap w (some_same e) in
    let all : sum_by w (take (suc n) (y ∷ ys)) ≡ w y + sum_by w (take n ys) = sum_by-cons w y (take n ys) in
    let none : sum_by w (take zero (y ∷ ys)) ≡ 0 = refl in
    omega (arith, same, all, none)
sums_apart w (y ∷ ys) (suc m) (suc n) x lt e =
    let more = sums_apart w ys m n x (omega (arith, lt)) e in
    let first : sum_by w (take (suc m) (y ∷ ys)) ≡ w y + sum_by w (take m ys) = sum_by-cons w y (take m ys) in
    let second : sum_by w (take (suc n) (y ∷ ys)) ≡ w y + sum_by w (take n ys) = sum_by-cons w y (take n ys) in
    omega (arith, more, first, second)

-- which of two numbers is less, if one is
trichotomy : (m n : ℕ) → (m ≡ n) ⊎ ((m < n) ⊎ (n < m))
trichotomy zero zero = inl refl
trichotomy zero (suc n) = inr (inl (omega arith))
trichotomy (suc m) zero = inr (inr (omega arith))
trichotomy (suc m) (suc n) = ⊎_elim (λ e. inl (ap suc e)) (λ h. inr (⊎_elim (λ lt. inl (omega (arith, lt))) (λ lt. inr (omega (arith, lt))) h)) (trichotomy m n)

module _ (types : Types) (ordered : IsOrdered types) where
  pub no_path : (ns : List ℕ) (a : TyId) → type_within types None ns ≡ Some a → ⊥
  no_path [] a k = none_some k
  no_path (n ∷ ns) a k = none_some k

  -- what has no members has no path into it
  no_way : (id b : TyId) (n : ℕ) (ns : List ℕ) → members_of types id ≡ [] → type_within types (Some id) (n ∷ ns) ≡ Some b → ⊥
  no_way id b n ns none e = no_path ns b (subst (λ (xs : List TyId). type_within types (slice_get xs n) ns ≡ Some b) none e)

  -- an earlier member lies before a later one
  pub lies_before : (id a : TyId) (m : ℕ) (ms : List ℕ) (n : ℕ) (ns : List ℕ) → m < n → type_within types (Some id) (m ∷ ms) ≡ Some a → word_within types (Some id) (m ∷ ms) + width_at types a ≤ word_within types (Some id) (n ∷ ns)
  lies_before id a m ms n ns lt e = go (slice_get (members_of types id) m) refl e
    where
      go : (x : Option TyId) → slice_get (members_of types id) m ≡ x → type_within types x ms ≡ Some a
          → (sum_by (width_at types) (take m (members_of types id)) + word_within types x ms) + width_at types a ≤ sum_by (width_at types) (take n (members_of types id)) + word_within types (slice_get (members_of types id) n) ns
      go None there h = absurd (no_path ms a h)
      go (Some x) there h =
          let fits = (path_within types ordered x a ms h).fits in
          let sums = sums_apart (width_at types) (members_of types id) m n x lt there in
          omega (arith, fits, sums)

  pub words_apart : (ms ns : List ℕ) (id a b : TyId) → type_within types (Some id) ms ≡ Some a → type_within types (Some id) ns ≡ Some b → members_of types a ≡ [] → members_of types b ≡ [] → 1 ≤ width_at types a → 1 ≤ width_at types b
      → (ms ≡ ns → ⊥) → word_within types (Some id) ms ≡ word_within types (Some id) ns → ⊥
  words_apart [] [] id a b at_a at_b leaf_a leaf_b wide_a wide_b other same = other refl
  words_apart [] (n ∷ ns) id a b at_a at_b leaf_a leaf_b wide_a wide_b other same = no_way id b n ns (ap (members_of types) (some_same at_a) ∙ leaf_a) at_b
  words_apart (m ∷ ms) [] id a b at_a at_b leaf_a leaf_b wide_a wide_b other same = no_way id a m ms (ap (members_of types) (some_same at_b) ∙ leaf_b) at_a
  words_apart (m ∷ ms) (n ∷ ns) id a b at_a at_b leaf_a leaf_b wide_a wide_b other same =
      ⊎_elim (equal (λ x h k different alike. words_apart ms ns x a b h k leaf_a leaf_b wide_a wide_b different alike))
      (λ h. ⊎_elim (λ lt. let l = lies_before id a m ms n ns lt at_a in omega (arith, l, wide_a, same)) (λ lt. let l = lies_before id b n ns m ms lt at_b in omega (arith, l, wide_b, same)) h)
      (trichotomy m n)
    where
      equal : ((x : TyId) → type_within types (Some x) ms ≡ Some a → type_within types (Some x) ns ≡ Some b → (ms ≡ ns → ⊥) → word_within types (Some x) ms ≡ word_within types (Some x) ns → ⊥) → m ≡ n → ⊥
      equal more e = go (slice_get (members_of types id) m) refl at_a
        where
          there : slice_get (members_of types id) n ≡ slice_get (members_of types id) m
          there = ap (slice_get (members_of types id)) (sym e)

          go : (x : Option TyId) → slice_get (members_of types id) m ≡ x → type_within types x ms ≡ Some a → ⊥
          go None is h = no_path ms a h
          go (Some x) is h =
              let one = ap (λ (y : Option TyId). word_within types y ms) is in
              let two = ap (λ (y : Option TyId). word_within types y ns) (there ∙ is) in
              let sums = ap (λ j. sum_by (width_at types) (take j (members_of types id))) e in
              more x h (subst (λ (y : Option TyId). type_within types y ns ≡ Some b) (there ∙ is) at_b) (λ k. other (ap (λ j. j ∷ ms) e ∙ ap (λ (js : List ℕ). n ∷ js) k)) (omega (arith, one, two, sums, same))
