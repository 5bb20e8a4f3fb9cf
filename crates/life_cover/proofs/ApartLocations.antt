-- Two pointers that are locals, or members of their objects, are one location, or their words lie beside each other.
use Rattle.std.proofs.Common.{◌≡◌, ◌≢◌, ◌⊎◌, inl, inr, ℕ, ◌+◌, ◌≤◌, ◌<◌, List, [], ◌∷◌, Option, Some, None, refl, sym, ◌∙◌, arith}
use Rattle.std.specs.Prelude.{slice_get}
use Rattle.life_types.specs.Trees.{IsOrdered}
use Rattle.life_types.specs.Trees as trees
use Rattle.life_types.specs.Types.{Types}
use Rattle.life_types.specs.declared.ty.Ty.{Ty}
use Rattle.life_types.specs.declared.ty.Ty.TheVariants as ty
use Rattle.life_types.specs.declared.ty.TyId.{TyId}
use Rattle.life_store.specs.Kinds.{Pointing}
use Rattle.life_store.specs.Parts.{Parts, members_if, members_of, parts_at, parts_of, parts_within, struct_of, type_within, word_within}
use Rattle.life_forest.proofs.Coming.{below_or}
use Rattle.life_forest.proofs.PathsApart.{words_apart}
use Rattle.life_forest.proofs.StandingPointers.{IsPointer, pointer_width}
use Rattle.life_forest.proofs.WrittenPointers.{gap}
use Rattle.life_cover.proofs.MemberWords.{path_words}

-- a pointer has no members
pub pointer_leaf : (types : Types) (id : TyId) → IsPointer (parts_at types id) → members_of types id ≡ []
pointer_leaf types id points = go (slice_get types.types id.0) points
  where
    no_struct : (part : TyId → Parts) (ids : List TyId) → IsPointer (struct_of part ids) → ⊥
    no_struct part [] h = h
    no_struct part (x ∷ xs) h = h

    go : (o : Option Ty) → IsPointer (parts_of types (parts_within id.0 types) o) → members_if types o ≡ []
    go (Some (ty.Struct number)) h = absurd (no_struct (parts_within id.0 types) (trees.members_at types number) h)
    go None h = refl
    go (Some _) h = refl

module _ (types : Types) (ordered : IsOrdered types) where
  pointing_same : (i j : ℕ) → Pointing i ≡ Pointing j → i ≡ j
  pointing_same i j e = cc

  -- two paths to pointers lead to words that lie beside each other
  pub paths_beside : (id a b : TyId) (ms ns : List ℕ) → type_within types (Some id) ms ≡ Some a → type_within types (Some id) ns ≡ Some b → IsPointer (parts_at types a) → IsPointer (parts_at types b) → ms ≢ ns
      → (word_within types (Some id) ms + 5 ≤ word_within types (Some id) ns) ⊎ (word_within types (Some id) ns + 5 ≤ word_within types (Some id) ms)
  paths_beside id a b ms ns at_a at_b points_a points_b ne =
      below_or (word_within types (Some id) ns) (word_within types (Some id) ms + 5)
      (λ lt. below_or (word_within types (Some id) ms) (word_within types (Some id) ns + 5) (λ less. absurd (clash lt less)) (λ le. inr le))
      (λ le. inl le)
    where
      other : word_within types (Some id) ms ≡ word_within types (Some id) ns → ⊥
      other same =
          let wide_a = pointer_width (parts_at types a) points_a in
          let wide_b = pointer_width (parts_at types b) points_b in
          words_apart types ordered ms ns id a b at_a at_b (pointer_leaf types a points_a) (pointer_leaf types b points_b) (omega (arith, wide_a)) (omega (arith, wide_b)) ne same

      nothing : (w : ℕ) → w ≡ w + 0
      nothing w = omega arith

      first : word_within types (Some id) ms ≤ word_within types (Some id) ns → word_within types (Some id) ns < word_within types (Some id) ms + 5 → ⊥
      first le lt =
          let g = gap (word_within types (Some id) ms) (word_within types (Some id) ns) le in
          let d = g.1 in
          let is = pointing_same g.0 0 (sym (path_words types ordered id a ms at_a points_a g.0 (word_within types (Some id) ns) (omega (arith, d, lt)) d) ∙ path_words types ordered id b ns at_b points_b 0 (word_within types (Some id) ns) (omega arith) (nothing (word_within types (Some id) ns))) in
          other (omega (arith, is, d))

      second : word_within types (Some id) ns ≤ word_within types (Some id) ms → word_within types (Some id) ms < word_within types (Some id) ns + 5 → ⊥
      second le lt =
          let g = gap (word_within types (Some id) ns) (word_within types (Some id) ms) le in
          let d = g.1 in
          let is = pointing_same g.0 0 (sym (path_words types ordered id b ns at_b points_b g.0 (word_within types (Some id) ms) (omega (arith, d, lt)) d) ∙ path_words types ordered id a ms at_a points_a 0 (word_within types (Some id) ms) (omega arith) (nothing (word_within types (Some id) ms))) in
          other (omega (arith, is, d))

      clash : word_within types (Some id) ns < word_within types (Some id) ms + 5 → word_within types (Some id) ms < word_within types (Some id) ns + 5 → ⊥
      clash lt less = below_or (word_within types (Some id) ms) (word_within types (Some id) ns) (λ h. first (omega (arith, h)) lt) (λ h. second h less)
