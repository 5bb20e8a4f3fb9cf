-- Candidates, sorted and each line once, are a listing.
use Rattle.std.proofs.Common.{◌≡◌, ℕ, refl, ap, sym, ◌∙◌, inl, inr, true, false, subst, List, [], ◌∷◌, map, Contains}
use Rattle.std.specs.Cmp.{IsTotalOrder, unsigned_tied}
use Rattle.std.specs.Cmp.Lexicographic.{slice_cmp, bytes_decides, lists_ties}
use Rattle.std.specs.List.{AllByRecursion, dedup}
use Rattle.std.specs.List.Sorted.{IsSorted, IsStrictlySortedBy}
use Rattle.std.specs.Ordering.{is_eq, is_gt, is_le, is_lt, nat_cmp, ordering_then}
use Rattle.std.specs.declared.cmp.Ordering.{Ordering}
use Rattle.std.specs.declared.cmp.Ordering.TheVariants.{Less, Equal, Greater}
use Rattle.std.proofs.lemmas.Bool.{eqb-true}
use Rattle.std.proofs.lemmas.Cmp.{eq_by_cmp_equiv, on_total, tied_itself, then_total}
use Rattle.std.proofs.lemmas.List.Elements.{All-contains_itself, All-weaker}
use Rattle.std.proofs.lemmas.List.Kept.{Contains-from_dedup, IsStrictlySortedBy-dedup}
use Rattle.std.proofs.lemmas.List.Sorted.{Contains-permutation, IsPermutation-sym}
use Rattle.life_pset.proofs.Members.{cons_cases, in_head, in_tail, none_in_empty}
use Rattle.life_rules.proofs.Unique.{lines_total}
use Rattle.life_rules.specs.Lines.{Line, line_cmp, line_seen}
use Rattle.life_rules.specs.Listing.{HaveLines, IsListing, listed_diag}
use Rattle.life_rules.specs.contracts.diag.DiagOrd.TheImpl.{ghosts as diag}
use Rattle.life_rules.specs.contracts.diag.DiagOrd.TheImpl.Laws.{lawful}
use Rattle.life_rules.specs.declared.diag.Diag.{Diag}
use Rattle.life_rules.specs.declared.diag.ListedDiag.{ListedDiag}
use Rattle.life_fix.specs.Candidates.{Lined, candidate_seen, diag_part, is_same_line, line_part, lined, lined_cmp, KeepsLines, Sorts}
use Rattle.life_fix.proofs.FirstKept.{kept_for_each}

lined_total : IsTotalOrder lined_cmp
lined_total = then_total (on_total (λ (x : Lined). x.line) lines_total) (on_total (λ (x : Lined). x.diag) lawful.total)

-- the order by lines alone
abbrev by_line : Lined → Lined → Ordering
by_line x y = line_cmp x.line y.line

by_line_total : IsTotalOrder by_line
by_line_total = on_total (λ (x : Lined). x.line) lines_total

-- ---- orders by several fields

then_lt : (a b : Ordering) → is_lt (ordering_then a b) ≡ false → is_lt a ≡ false
then_lt Less b h = h
then_lt Equal b h = refl
then_lt Greater b h = refl

then_eq : (a b : Ordering) → is_eq (ordering_then a b) ≡ true → (is_eq a ≡ true) × (is_eq b ≡ true)
then_eq Less b h = cc
then_eq Equal b h = (refl, h)
then_eq Greater b h = cc

not_gt : (a b : Ordering) → a ≡ Equal → is_gt (ordering_then a b) ≡ false → is_le b ≡ true
not_gt Less b tied h = cc
not_gt Equal Less tied h = refl
not_gt Equal Equal tied h = refl
not_gt Equal Greater tied h = cc
not_gt Greater b tied h = cc

number_exact : (a b : ℕ) → is_eq (nat_cmp a b) ≡ true → a ≡ b
number_exact a b h = eqb-true a b (sym (unsigned_tied a b) ∙ h)

text_exact : (xs ys : List ℕ) → is_eq (slice_cmp nat_cmp xs ys) ≡ true → xs ≡ ys
text_exact xs ys h = (bytes_decides xs ys).0 (lists_ties nat_cmp (λ a b. sym (unsigned_tied a b)) xs ys ∙ h)

-- lines of which neither is below the other are one
line_exact : (x y : Line) → is_eq (line_cmp x y) ≡ true → x ≡ y
line_exact x y h =
    let a = then_eq (nat_cmp x.line y.line) _ h in
    let b = then_eq (nat_cmp x.column y.column) _ a.1 in
    let c = then_eq (nat_cmp x.kind y.kind) _ b.1 in
    let d = then_eq (slice_cmp nat_cmp x.name y.name) (slice_cmp nat_cmp x.why y.why) c.1 in
    λ i. record {
      line = number_exact x.line y.line a.0 i;
      column = number_exact x.column y.column b.0 i;
      kind = number_exact x.kind y.kind c.0 i;
      name = text_exact x.name y.name d.0 i;
      why = text_exact x.why y.why d.1 i;
    }

-- ---- members of a list that is seen through a function

into_map : {A B : Type 0} (f : A → B) (xs : List A) (x : A) → Contains xs x → Contains (map f xs) (f x)
into_map f [] x h = absurd (none_in_empty x h)
into_map f (y ∷ ys) x h =
    elim (cons_cases y ys x h) [
      | inl is ↦ subst (λ z. Contains (f y ∷ map f ys) z) (ap f is) (in_head (f y) (map f ys))
      | inr later ↦ in_tail (f y) (map f ys) (f x) (into_map f ys x later)
    ]

from_map : {A B : Type 0} (f : A → B) (xs : List A) (z : B) → Contains (map f xs) z → (x : A) × (Contains xs x × (f x ≡ z))
from_map f [] z h = absurd (none_in_empty z h)
from_map f (y ∷ ys) z h =
    elim (cons_cases (f y) (map f ys) z h) [
      | inl is ↦ (y, (in_head y ys, is))
      | inr later ↦ let x = from_map f ys z later in (x.0, (in_tail y ys x.0 x.1.0, x.1.1))
    ]

below_map : {A B : Type 0} (P : B → Type 0) (f : A → B) (xs : List A) → AllByRecursion (λ x. P (f x)) xs → AllByRecursion P (map f xs)
below_map P f [] h = tt
below_map P f (x ∷ xs) h = (h.0, below_map P f xs h.1)

-- what is in strict order of a key has its keys in strict order
strict_map : {A B : Type 0} (R : B → B → Ordering) (f : A → B) (xs : List A) → IsStrictlySortedBy (λ x y. R (f x) (f y)) xs → IsStrictlySortedBy R (map f xs)
unfolding IsStrictlySortedBy
strict_map R f [] h = tt
strict_map R f (x ∷ xs) h = (below_map (λ z. R (f x) z ≡ Less) f xs h.0, strict_map R f xs h.1)

-- ---- the listing

-- what is sorted and then stripped of what prints a line again
pub kept : (before sorted : List Lined) → Sorts before sorted → KeepsLines before (dedup is_same_line sorted)
kept before sorted sorts =
    let once = dedup is_same_line sorted in
    let by_lines : IsSorted by_line sorted = λ k d low high. then_lt _ _ (sorts.sorted k d low high) in
    record {
      sorted = strict_map line_cmp line_part once (IsStrictlySortedBy-dedup by_line_total (λ x y. refl) sorted by_lines);
      only = λ x h. Contains-permutation sorted before x (IsPermutation-sym before sorted sorts.moved) (Contains-from_dedup is_same_line sorted x h);
      each = λ x h.
          let y = kept_for_each lined_total (eq_by_cmp_equiv by_line_total) sorted sorts.sorted x (Contains-permutation before sorted x sorts.moved h) in
          let same : x.line ≡ y.0.line = line_exact x.line y.0.line y.1.same in
          let tied : line_cmp y.0.line x.line ≡ Equal = ap (line_cmp y.0.line) same ∙ tied_itself lines_total y.0.line in (
            y.0,
            (
              y.1.member,
              record {
                same_line = sym same;
                first = not_gt (line_cmp y.0.line x.line) (diag.cmp y.0.diag x.diag) tied y.1.first;
              },
            ),
          );
    }

-- each has the line of its diagnostic
abbrev AreLined : (Diag → Line) → List Lined → Type 0
AreLined line xs = (x : Lined) → Contains xs x → x.line ≡ line x.diag

own_lines : (line : Diag → Line) (xs : List Lined) → AreLined line xs → map line_part xs ≡ map line (map diag_part xs)
own_lines line [] have = refl
own_lines line (x ∷ xs) have = λ i. have x (in_head x xs) i ∷ own_lines line xs (λ z h. have z (in_tail x xs z h)) i

-- .. as those that were kept
origin : (line : Diag → Line) (ds : List Diag) (xs : List Lined) → KeepsLines (map (lined line) ds) xs → (x : Lined) → Contains xs x → (d : Diag) × (Contains ds d × (lined line d ≡ x))
origin line ds xs keeps x h = from_map (lined line) ds x (keeps.only x h)

lined_kept : (line : Diag → Line) (ds : List Diag) (xs : List Lined) → KeepsLines (map (lined line) ds) xs → AreLined line xs
lined_kept line ds xs keeps x h =
    let d = origin line ds xs keeps x h in
    ap line_part (sym d.1.1) ∙ ap (λ (z : Lined). line z.diag) d.1.1

-- the diagnostics whose lines were kept
listed : (line : Diag → Line) (ds : List Diag) (xs : List Lined) → KeepsLines (map (lined line) ds) xs → IsListing (Contains ds) line (map diag_part xs)
listed line ds xs keeps =
    let have = lined_kept line ds xs keeps in
    record {
      sorted = subst (λ (ls : List Line). IsStrictlySortedBy line_cmp ls) (own_lines line xs have) keeps.sorted;
      only = λ d h.
          let x = from_map diag_part xs d h in
          let from = origin line ds xs keeps x.0 x.1.0 in
          subst (λ (z : Diag). Contains ds z) (ap diag_part from.1.1 ∙ x.1.1) from.1.0;
      each = λ d h.
          let y = keeps.each (lined line d) (into_map (lined line) ds d h) in (
            y.0.diag,
            (
              into_map diag_part xs y.0 y.1.0,
              record {
                same_line = sym (have y.0 y.1.0) ∙ y.1.1.same_line;
                first = y.1.1.first;
              },
            ),
          );
    }

-- ---- .. of candidates

diags_seen : (xs : List ListedDiag) → map diag_part (map candidate_seen xs) ≡ map listed_diag xs
diags_seen [] = refl
diags_seen (x ∷ xs) = ap (λ (ds : List Diag). x.diag ∷ ds) (diags_seen xs)

module _ (line : Diag → Line) (ds : List Diag) (before after : List ListedDiag) (found : map candidate_seen before ≡ map (lined line) ds) (keeps : KeepsLines (map candidate_seen before) (map candidate_seen after)) where
  keeps_found : KeepsLines (map (lined line) ds) (map candidate_seen after)
  keeps_found = subst (λ (old : List Lined). KeepsLines old (map candidate_seen after)) found keeps

  pub listed_kept : IsListing (Contains ds) line (map listed_diag after)
  listed_kept = subst (λ (es : List Diag). IsListing (Contains ds) line es) (diags_seen after) (listed line ds (map candidate_seen after) keeps_found)

  pub kept_lines : HaveLines line after
  kept_lines =
      All-weaker (Contains after) (λ (x : ListedDiag). line_seen x.line ≡ line x.diag)
      (λ x h. lined_kept line ds (map candidate_seen after) keeps_found (candidate_seen x) (into_map candidate_seen after x h)) after (All-contains_itself after)
