-- A place is a part of another one just where a place on the way to it has that one's outline.
use Rattle.std.proofs.Common.{All, ◌≡◌, ◌⊎◌, ◌↔◌, inl, inr, refl, sym, ap, subst, ◌∙◌, ℕ, ◌+◌, ◌≤◌, arith, true, List, ◌++◌, length, take, drop, replicate, length-append, length-take-le, take-append-drop, take_all, take_at, rules}
use Rattle.std.specs.Prelude.{Contains, IsTrue, ◌||◌}
use Rattle.std.proofs.lemmas.Bool.{and_from, and_parts, or_cases, or_left, or_right}
use Rattle.std.proofs.lemmas.Bool.Decides.{Decides-eqb}
use Rattle.std.proofs.lemmas.List.Elements.{All-contains}
use Rattle.std.proofs.lemmas.Slice.Eq.{starts_is}
use Rattle.std.specs.Cmp.{IsEquivalence}
use Rattle.indexmap.specs.IndexSet.{insert_key}
use Rattle.life_pset.specs.Places.{begins, is_within, overlap, path}
use Rattle.life_pset.specs.contracts.element.AbsPlacePartialEq.TheImpl.{ghosts as place}
use Rattle.life_pset.specs.contracts.element.RootPartialEq.TheImpl.{ghosts as root}
use Rattle.life_pset.specs.declared.element.AbsPlace.{AbsPlace}
use Rattle.life_pset.specs.declared.element.Root.{Root}
use Rattle.life_contract.specs.Targets.{HasOuter, HasPart, IsOutlined, Overlap, outer, outline}
use Rattle.life_contract.proofs.LookUps.{inserted}

-- ---- roots and paths

exact_root : (r s : Root) → root.eq r s ≡ true → r ≡ s
exact_root r s h = search rules

root_laws : IsEquivalence root.eq
root_laws = search rules

-- the second path begins with the first just where its first steps are these
begins_with : (xs ys : List ℕ) → begins xs ys ≡ true → ys ≡ xs ++ drop (length xs) ys
begins_with xs ys t = (starts_is Decides-eqb ys xs (begins xs ys) refl).0 t

begins_from : (xs ys rest : List ℕ) → ys ≡ xs ++ rest → begins xs ys ≡ true
begins_from xs ys rest e = (starts_is Decides-eqb ys xs (begins xs ys) refl).1 rest e

-- ---- outer places

outer_steps : (a : AbsPlace) (n : ℕ) → n ≤ length (path a) → take n (outer a n).steps ≡ take n (path a)
outer_steps a n within = take_at (take n (path a)) (drop n (replicate 8 0)) n (length-take-le n (path a) within)

-- equal outer places go equally far along equal steps
record IsSameWay (a b : AbsPlace) (m n : ℕ) : Type 0 where
  roots : a.root ≡ b.root
  steps : take m (path a) ≡ take n (path b)

same_way : (a b : AbsPlace) (m n : ℕ) → m ≤ length (path a) → n ≤ length (path b) → outer a m ≡ outer b n → IsSameWay a b m n
same_way a b m n in_a in_b e =
    let counts : m ≡ n = ap (λ (p : AbsPlace). p.length) e in
    record {
      roots = ap (λ (p : AbsPlace). p.root) e;
      steps = sym (outer_steps a m in_a) ∙ (λ i. take (counts i) (e i).steps) ∙ outer_steps b n in_b;
    }

same_outer : (a b : AbsPlace) (n : ℕ) → a.root ≡ b.root → take n (path a) ≡ take n (path b) → outer a n ≡ outer b n
same_outer a b n roots steps i = record { root = roots i; length = n; steps = steps i ++ drop n (replicate 8 0) }

-- ---- parts

-- a place on the way to the first one has the second one's outline
record Passes (a b : AbsPlace) : Type 0 where
  count : ℕ
  short : count ≤ length (path a)
  meets : outer a count ≡ outline b

passes : (a b : AbsPlace) → IsTrue (is_within b a) → Passes a b
passes a b is =
    let both = and_parts (root.eq b.root a.root) (begins (path b) (path a)) is in
    let goes : path a ≡ path b ++ drop (length (path b)) (path a) = begins_with (path b) (path a) both.1 in
    let longer : length (path a) ≡ length (path b) + length (drop (length (path b)) (path a)) = ap length goes ∙ length-append (path b) (drop (length (path b)) (path a)) in
    let front : take (length (path b)) (path a) ≡ path b = ap (take (length (path b))) goes ∙ take_at (path b) (drop (length (path b)) (path a)) (length (path b)) refl in
    record {
      count = length (path b);
      short = omega (arith, longer);
      meets = same_outer a b (length (path b)) (sym (exact_root b.root a.root both.0)) (front ∙ sym (take_all (length (path b)) (path b) (omega arith)));
    }

within : (a b : AbsPlace) → Passes a b → IsTrue (is_within b a)
within a b h =
    let way = same_way a b h.count (length (path b)) h.short (omega arith) h.meets in
    let front : take h.count (path a) ≡ path b = way.steps ∙ take_all (length (path b)) (path b) (omega arith) in
    and_from (root.eq b.root a.root) (begins (path b) (path a)) (ap (root.eq b.root) way.roots ∙ root_laws.refl b.root)
    (begins_from (path b) (path a) (drop h.count (path a)) (sym (take-append-drop h.count (path a)) ∙ ap (λ (l : List ℕ). l ++ drop h.count (path a)) front))

-- ---- places and their outlines

module _ (places outlines : List AbsPlace) (outlined : IsOutlined places outlines) where
  -- a place and its outline are inserted together
  pub outlined_more : (p : AbsPlace) → IsOutlined (insert_key place.eq places p) (insert_key place.eq outlines (outline p))
  outlined_more p = record {
    covers = λ x h.
        elim ((inserted places p x).0 h) [
          | inl there ↦ (inserted outlines (outline p) (outline x)).1 (inl (outlined.covers x there))
          | inr is ↦ (inserted outlines (outline p) (outline x)).1 (inr (ap outline is))
        ];
    made = λ o h.
        elim ((inserted outlines (outline p) o).0 h) [
          | inl there ↦ let of = outlined.made o there in (of.0, ((inserted places p of.0).1 (inl of.1.0), of.1.1))
          | inr is ↦ (p, ((inserted places p p).1 (inr refl), is))
        ];
  }

  -- what a look-up of the places on the way tells
  pub has_outer_of : (a : AbsPlace) → HasOuter a outlines ↔ ((b : AbsPlace) × (Contains places b × IsTrue (is_within b a)))
  has_outer_of a = (
    λ h. let of = outlined.made (outer a h.0) h.1.1 in (of.0, (of.1.0, within a of.0 (record { count = h.0; short = h.1.0; meets = of.1.1 }))),
    λ h. let way = passes a h.0 h.1.1 in (way.count, (way.short, subst (Contains outlines) (sym way.meets) (outlined.covers h.0 h.1.0))),
  )

-- what the places on the way to each of some places tell
module _ (these those outlines : List AbsPlace) (outlined : IsOutlined those outlines) where
  pub part_found : (a : AbsPlace) → Contains these a → HasOuter a outlines → HasPart these those
  part_found a there h = let part = (has_outer_of those outlines outlined a).0 h in (a, (part.0, (there, part.1)))

  pub no_part : All (λ a. HasOuter a outlines → ⊥) these → HasPart these those → ⊥
  no_part none h = All-contains (λ a. HasOuter a outlines → ⊥) these h.0 none h.1.1.0 ((has_outer_of those outlines outlined h.0).1 (h.1.0, h.1.1.1))

-- ---- overlapping

-- either is a part of the other
parts_overlap : (a b : AbsPlace) → IsTrue (is_within b a) → IsTrue (overlap a b) × IsTrue (overlap b a)
parts_overlap a b is =
    let both = and_parts (root.eq b.root a.root) (begins (path b) (path a)) is in
    let same : root.eq a.root b.root ≡ true = ap (root.eq a.root) (exact_root b.root a.root both.0) ∙ root_laws.refl a.root in (
      and_from (root.eq a.root b.root) (begins (path a) (path b) || begins (path b) (path a)) same (or_right (begins (path a) (path b)) (begins (path b) (path a)) both.1),
      and_from (root.eq b.root a.root) (begins (path b) (path a) || begins (path a) (path b)) both.0 (or_left (begins (path b) (path a)) (begins (path a) (path b)) both.1),
    )

overlap_parts : (a b : AbsPlace) → IsTrue (overlap a b) → IsTrue (is_within b a) ⊎ IsTrue (is_within a b)
overlap_parts a b is =
    let both = and_parts (root.eq a.root b.root) (begins (path a) (path b) || begins (path b) (path a)) is in
    let same : root.eq b.root a.root ≡ true = ap (root.eq b.root) (exact_root a.root b.root both.0) ∙ root_laws.refl b.root in
    elim (or_cases (begins (path a) (path b)) (begins (path b) (path a)) both.1) [
      | inl t ↦ inr (and_from (root.eq a.root b.root) (begins (path a) (path b)) both.0 t)
      | inr t ↦ inl (and_from (root.eq b.root a.root) (begins (path b) (path a)) same t)
    ]

pub part_overlaps : (these those : List AbsPlace) → HasPart these those → Overlap these those × Overlap those these
part_overlaps these those h =
    let at = h.1.1 in
    let both = parts_overlap h.0 h.1.0 at.1.1 in
    ((h.0, (h.1.0, (at.0, (at.1.0, both.0)))), (h.1.0, (h.0, (at.1.0, (at.0, both.1)))))

pub overlap_has_part : (these those : List AbsPlace) → Overlap these those → HasPart these those ⊎ HasPart those these
overlap_has_part these those h =
    let at = h.1.1 in
    elim (overlap_parts h.0 h.1.0 at.1.1) [
      | inl is ↦ inl (h.0, (h.1.0, (at.0, (at.1.0, is))))
      | inr is ↦ inr (h.1.0, (h.0, (at.1.0, (at.0, is))))
    ]
