-- Candidates and what is seen of them: their order, and which print one line.
use Rattle.std.proofs.Common.{◌≡◌, ℕ, ◌+◌, ◌<◌, refl, ap, sym, ◌∙◌, Bool, true, false, arith, subst, List, [], ◌∷◌, length, get_or, map, cond}
use Rattle.std.specs.List.{dedup, dedup_from}
use Rattle.std.specs.List.Sorted.{IsSorted}
use Rattle.std.specs.Ordering.{is_eq, is_lt, ordering_then}
use Rattle.std.specs.declared.cmp.Ordering.{Ordering}
use Rattle.std.proofs.lemmas.List.{length-map, get_or-map}
use Rattle.life_rules.proofs.PrintedLines.{printed_cmp}
use Rattle.life_rules.specs.contracts.diag.DiagOrd.TheImpl.{ghosts as diag}
use Rattle.life_rules.specs.contracts.diag.ListedDiagOrd.TheImpl.{ghosts as candidate}
use Rattle.life_rules.specs.contracts.diag.PrintedLineOrd.TheImpl.Laws.{lawful}
use Rattle.life_rules.specs.contracts.diag.PrintedLinePartialEq.TheImpl.{ghosts as printed_eq}
use Rattle.life_rules.specs.declared.diag.ListedDiag.{ListedDiag}
use Rattle.life_fix.specs.Candidates.{candidate_seen, is_same_line, lined_cmp}

candidate_cmp : (x y : ListedDiag) → candidate.cmp x y ≡ lined_cmp (candidate_seen x) (candidate_seen y)
candidate_cmp x y = ap (λ (o : Ordering). ordering_then o (diag.cmp x.diag y.diag)) (printed_cmp x.line y.line)

-- `==` of two lines tells whether they print alike
pub same_printed : (x y : ListedDiag) → printed_eq.eq x.line y.line ≡ is_same_line (candidate_seen x) (candidate_seen y)
same_printed x y = lawful.matches_eq x.line y.line ∙ ap is_eq (printed_cmp x.line y.line)

-- ---- lists seen through a function

-- what is sorted by an order is, as it is seen, sorted by the order of what is seen
sorted_map : {A B : Type 0} (S : A → A → Ordering) (R : B → B → Ordering) (f : A → B) → ((x y : A) → S x y ≡ R (f x) (f y)) → (xs : List A) → IsSorted S xs → IsSorted R (map f xs)
sorted_map S R f same [] sorted = λ k d low high. absurd (omega (arith, high))
sorted_map S R f same (x ∷ xs) sorted = λ k d low high.
    let within : k + 1 < length (x ∷ xs) = subst (λ (n : ℕ). k + 1 < n) (length-map (x ∷ xs) f) high in
    (λ i. is_lt (R (get_or-map f (x ∷ xs) (k + 1) x d within i) (get_or-map f (x ∷ xs) k x d (omega (arith, within)) i)))
    ∙ ap is_lt (sym (same (get_or (x ∷ xs) (k + 1) x) (get_or (x ∷ xs) k x)))
    ∙ sorted k x low within

map_cond : {A B : Type 0} (f : A → B) (b : Bool) (xs ys : List A) → map f (cond b xs ys) ≡ cond b (map f xs) (map f ys)
map_cond f true xs ys = refl
map_cond f false xs ys = refl

map_dedup_from : {A B : Type 0} (f : A → B) (E : A → A → Bool) (F : B → B → Bool) → ((x y : A) → E x y ≡ F (f x) (f y)) → (k : A) (xs : List A) → map f (dedup_from E k xs) ≡ dedup_from F (f k) (map f xs)
map_dedup_from f E F same k [] = refl
map_dedup_from f E F same k (x ∷ xs) =
    map_cond f (E x k) (dedup_from E k xs) (k ∷ dedup_from E x xs)
    ∙ (λ i. cond (same x k i) (map_dedup_from f E F same k xs i) (f k ∷ map_dedup_from f E F same x xs i))

-- what `dedup` leaves, as it is seen
pub map_dedup : {A B : Type 0} (f : A → B) (E : A → A → Bool) (F : B → B → Bool) → ((x y : A) → E x y ≡ F (f x) (f y)) → (xs : List A) → map f (dedup E xs) ≡ dedup F (map f xs)
map_dedup f E F same [] = refl
map_dedup f E F same (x ∷ xs) = map_dedup_from f E F same x xs

pub sorted_seen : (cs : List ListedDiag) → IsSorted candidate.cmp cs → IsSorted lined_cmp (map candidate_seen cs)
sorted_seen cs sorted = sorted_map candidate.cmp lined_cmp candidate_seen candidate_cmp cs sorted
