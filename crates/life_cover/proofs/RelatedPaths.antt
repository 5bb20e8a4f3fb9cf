-- Of two paths into one object one goes on from the other, or what they lead to lies beside each other.
use Rattle.std.proofs.Common.{◌≡◌, ⊎_elim, ◌⊎◌, inl, inr, ℕ, ◌+◌, ◌≤◌, List, [], ◌∷◌, ◌++◌, Option, Some, None, refl, sym, ap, subst, ◌∙◌, arith}
use Rattle.std.specs.Prelude.{slice_get, sum_by, take}
use Rattle.life_types.specs.Trees.{IsOrdered}
use Rattle.life_types.specs.Types.{Types}
use Rattle.life_types.specs.declared.ty.TyId.{TyId}
use Rattle.life_store.specs.Parts.{members_of, type_within, width_at, word_within}
use Rattle.life_store.proofs.CellLemmas.{some_same}
use Rattle.life_forest.proofs.Coming.{below_or}
use Rattle.life_forest.proofs.PathsApart.{lies_before, no_path}

module _ (types : Types) (ordered : IsOrdered types) where
  -- one of them goes on from the other, or the words of what they lead to follow each other
  abbrev pub AreRelated : TyId → (a b : TyId) → (ms ns : List ℕ) → Type 0
  AreRelated id a b ms ns =
      ((ks : List ℕ) × (ns ≡ ms ++ ks))
      ⊎ (((ks : List ℕ) × (ms ≡ ns ++ ks)) ⊎ ((word_within types (Some id) ms + width_at types a ≤ word_within types (Some id) ns) ⊎ (word_within types (Some id) ns + width_at types b ≤ word_within types (Some id) ms)))

  pub paths_related : (ms ns : List ℕ) (id a b : TyId) → type_within types (Some id) ms ≡ Some a → type_within types (Some id) ns ≡ Some b → AreRelated id a b ms ns
  paths_related [] ns id a b at_a at_b = inl (ns, refl)
  paths_related (m ∷ ms) [] id a b at_a at_b = inr (inl (m ∷ ms, refl))
  paths_related (m ∷ ms) (n ∷ ns) id a b at_a at_b =
      below_or m n (λ lt. inr (inr (inl (lies_before types ordered id a m ms n ns lt at_a))))
      (λ le. below_or n m (λ lt. inr (inr (inr (lies_before types ordered id b n ns m ms lt at_b)))) (λ ge. equal (omega (arith, le, ge)) (λ x h k. paths_related ms ns x a b h k)))
    where
      equal : m ≡ n → ((x : TyId) → type_within types (Some x) ms ≡ Some a → type_within types (Some x) ns ≡ Some b → AreRelated x a b ms ns) → AreRelated id a b (m ∷ ms) (n ∷ ns)
      equal e more = go (slice_get (members_of types id) m) refl at_a
        where
          there : slice_get (members_of types id) n ≡ slice_get (members_of types id) m
          there = ap (slice_get (members_of types id)) (sym e)

          go : (x : Option TyId) → slice_get (members_of types id) m ≡ x → type_within types x ms ≡ Some a → AreRelated id a b (m ∷ ms) (n ∷ ns)
          go None is h = absurd (no_path types ordered ms a h)
          go (Some x) is h =
              let one : word_within types (slice_get (members_of types id) m) ms ≡ word_within types (Some x) ms = ap (λ (y : Option TyId). word_within types y ms) is in
              let two : word_within types (slice_get (members_of types id) n) ns ≡ word_within types (Some x) ns = ap (λ (y : Option TyId). word_within types y ns) (there ∙ is) in
              let sums : sum_by (width_at types) (take m (members_of types id)) ≡ sum_by (width_at types) (take n (members_of types id)) = ap (λ j. sum_by (width_at types) (take j (members_of types id))) e in
              ⊎_elim
              (λ on. inl (on.0, ap (λ (js : List ℕ). n ∷ js) on.1 ∙ ap (λ j. j ∷ (ms ++ on.0)) (sym e)))
              (λ other. ⊎_elim
              (λ on. inr (inl (on.0, ap (λ (js : List ℕ). m ∷ js) on.1 ∙ ap (λ j. j ∷ (ns ++ on.0)) e)))
              (λ beside. ⊎_elim (λ le. inr (inr (inl (omega (arith, le, one, two, sums))))) (λ le. inr (inr (inr (omega (arith, le, one, two, sums))))) beside)
              other)
              (more x h (subst (λ (y : Option TyId). type_within types y ns ≡ Some b) (there ∙ is) at_b))

  -- a word further inside
  pub word_along : (ms ks : List ℕ) (id a : TyId) → type_within types (Some id) ms ≡ Some a → word_within types (Some id) (ms ++ ks) ≡ word_within types (Some id) ms + word_within types (Some a) ks
  word_along [] ks id a e = ap (λ (x : TyId). word_within types (Some x) ks) (some_same e) ∙ begun (word_within types (Some a) ks)
    where
      begun : (n : ℕ) → n ≡ 0 + n
      begun n = omega arith
  word_along (m ∷ ms) ks id a e = go (slice_get (members_of types id) m) refl e (λ x h. word_along ms ks x a h)
    where
      go : (x : Option TyId) → slice_get (members_of types id) m ≡ x → type_within types x ms ≡ Some a → ((y : TyId) → type_within types (Some y) ms ≡ Some a → word_within types (Some y) (ms ++ ks) ≡ word_within types (Some y) ms + word_within types (Some a) ks)
          → sum_by (width_at types) (take m (members_of types id)) + word_within types (slice_get (members_of types id) m) (ms ++ ks) ≡ (sum_by (width_at types) (take m (members_of types id)) + word_within types (slice_get (members_of types id) m) ms) + word_within types (Some a) ks
      go None there h more = absurd (no_path types ordered ms a h)
      go (Some x) there h more =
          let one : word_within types (slice_get (members_of types id) m) (ms ++ ks) ≡ word_within types (Some x) (ms ++ ks) = ap (λ (y : Option TyId). word_within types y (ms ++ ks)) there in
          let two : word_within types (slice_get (members_of types id) m) ms ≡ word_within types (Some x) ms = ap (λ (y : Option TyId). word_within types y ms) there in
          let rest = more x h in
          omega (arith, one, two, rest)
