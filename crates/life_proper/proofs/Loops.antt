-- One turn of a loop over the locals.
use Rattle.std.proofs.Common.{◌≡◌, ◌+◌, ◌-◌, ◌<◌, ◌≤◌, ◌&&◌, ℕ, zero, suc, Bool, true, false, List, [], ◌∷◌, ◌++◌, length, take, drop, map, option_map, slice_get, slice_set, refl, sym, ◌∙◌, ap, arith, add-one, append_assoc, drop_of_length-le}
use Rattle.std.proofs.lemmas.Bool.{and_right}
use Rattle.life_core.specs.declared.program.Local.{Local}
use Rattle.life_core.specs.declared.program.CoreFn.{CoreFn}
use Rattle.life_core.specs.Function.{function_of}
use Rattle.life_core.specs.Ready.{given_ready}
use Rattle.life_proper.specs.declared.known.Known.{Known}
use Rattle.life_proper.specs.Knowing.{agreed, agreed_all, are_implied, forgotten, is_implied, known_as, known_at}
use Rattle.life_proper.specs.Turns.{given_first, kept_by}

-- ---- what two ways agree on, from this local on

abbrev pub agreed_from : ℕ → List Known → List Known → List Known
agreed_from zero k j = agreed_all k j
agreed_from (suc i) (a ∷ k) (b ∷ j) = a ∷ agreed_from i k j
agreed_from (suc i) k j = k

agreed_next : (i : ℕ) (k j : List Known) → i < length k → i < length j
    → agreed_from (suc i) (slice_set k i (agreed (known_at k i) (known_at j i))) j ≡ agreed_from i k j
agreed_next i [] j lt le = absurd (omega (arith, lt))
agreed_next i (a ∷ k) [] lt le = absurd (omega (arith, le))
agreed_next zero (a ∷ k) (b ∷ j) lt le = refl
agreed_next (suc i) (a ∷ k) (b ∷ j) lt le = ap (λ (xs : List Known). a ∷ xs) (agreed_next i k j (omega (arith, lt)) (omega (arith, le)))

pub agreed_step : (i : ℕ) (k j : List Known) → i < length k → i < length j
    → agreed_from (i + 1) (slice_set k i (agreed (known_at k i) (known_at j i))) j ≡ agreed_from i k j
agreed_step i k j lt le = rw (add-one i) (agreed_next i k j lt le)

pub agreed_done : (i : ℕ) (k j : List Known) → length k ≤ length j → length k ≤ i → agreed_from i k j ≡ k
agreed_done zero [] j le lt = refl
agreed_done zero (a ∷ k) j le lt = absurd (omega (arith, lt))
agreed_done (suc i) [] j le lt = refl
agreed_done (suc i) (a ∷ k) [] le lt = absurd (omega (arith, le))
agreed_done (suc i) (a ∷ k) (b ∷ j) le lt = ap (λ (xs : List Known). a ∷ xs) (agreed_done i k j (omega (arith, le)) (omega (arith, lt)))

pub agreed_begin : (k j : List Known) → agreed_all (take (length j) k) j ≡ agreed_all k j
agreed_begin [] [] = refl
agreed_begin [] (b ∷ j) = refl
agreed_begin (a ∷ k) [] = refl
agreed_begin (a ∷ k) (b ∷ j) = ap (λ (xs : List Known). agreed a b ∷ xs) (agreed_begin k j)

-- ---- what is known at a head and on the way back

implied_next : (k j : List Known) (i : ℕ) → i < length k → i < length j
    → are_implied (drop i k) (drop i j) ≡ (is_implied (known_at k i) (known_at j i) && are_implied (drop (suc i) k) (drop (suc i) j))
implied_next [] j i lt le = absurd (omega (arith, lt))
implied_next (a ∷ k) [] i lt le = absurd (omega (arith, le))
implied_next (a ∷ k) (b ∷ j) zero lt le = refl
implied_next (a ∷ k) (b ∷ j) (suc i) lt le = implied_next k j i (omega (arith, lt)) (omega (arith, le))

pub implied_step : (k j : List Known) (i : ℕ) → i < length k → i < length j
    → are_implied (drop i k) (drop i j) ≡ (is_implied (known_at k i) (known_at j i) && are_implied (drop (i + 1) k) (drop (i + 1) j))
implied_step k j i lt le = rw (add-one i) (implied_next k j i lt le)

pub implied_done : (k j : List Known) (i : ℕ) → length k ≤ i → are_implied (drop i k) (drop i j) ≡ true
implied_done k j i le = ap (λ (xs : List Known). are_implied xs (drop i j)) (drop_of_length-le k {i = i} le)

pub implied_short : (k j : List Known) → length j < length k → are_implied k j ≡ false
implied_short [] j lt = absurd (omega (arith, lt))
implied_short (a ∷ k) [] lt = refl
implied_short (a ∷ k) (b ∷ j) lt = and_right (is_implied a b) (are_implied k j) (implied_short k j (omega (arith, lt)))

-- ---- what is kept at a head

drop_known : (ks : List Known) (i : ℕ) → i < length ks → drop i ks ≡ known_at ks i ∷ drop (suc i) ks
drop_known [] i lt = absurd (omega (arith, lt))
drop_known (k ∷ ks) zero lt = refl
drop_known (k ∷ ks) (suc i) lt = drop_known ks i (omega (arith, lt))

forgotten_next : (ls : List Local) (ks : List Known) (i : ℕ) → i < length ks
    → forgotten (drop i ls) (drop i ks) ≡ kept_by (slice_get ls i) (known_at ks i) ∷ forgotten (drop (suc i) ls) (drop (suc i) ks)
forgotten_next ls [] i lt = absurd (omega (arith, lt))
forgotten_next [] (k ∷ ks) zero lt = refl
forgotten_next (l ∷ ls) (k ∷ ks) zero lt = refl
forgotten_next [] (k ∷ ks) (suc i) lt = drop_known ks i (omega (arith, lt))
forgotten_next (l ∷ ls) (k ∷ ks) (suc i) lt = forgotten_next ls ks i (omega (arith, lt))

pub forgotten_step : (ls : List Local) (ks : List Known) (i : ℕ) → i < length ks
    → forgotten (drop i ls) (drop i ks) ≡ kept_by (slice_get ls i) (known_at ks i) ∷ forgotten (drop (i + 1) ls) (drop (i + 1) ks)
forgotten_step ls ks i lt = rw (add-one i) (forgotten_next ls ks i lt)

forgotten_none : (ls : List Local) → forgotten ls [] ≡ []
forgotten_none [] = refl
forgotten_none (l ∷ ls) = refl

pub forgotten_done : (ls : List Local) (ks : List Known) (i : ℕ) → length ks ≤ i → forgotten (drop i ls) (drop i ks) ≡ []
forgotten_done ls ks i le = ap (forgotten (drop i ls)) (drop_of_length-le ks {i = i} le) ∙ forgotten_none (drop i ls)

-- ---- what is known at the entry

pub given_step : (n : ℕ) (l : Local) (ls : List Local) → given_ready n (l ∷ ls) ≡ given_first n ∷ given_ready (n - 1) ls
given_step zero l ls = refl
given_step (suc n) l ls = let e : n ≡ suc n - 1 = omega arith in ap (λ (m : ℕ). true ∷ given_ready m ls) e

given_next : (n : ℕ) (ls : List Local) (i : ℕ) → i < length ls → given_ready n (drop i ls) ≡ given_first n ∷ given_ready (n - 1) (drop (suc i) ls)
given_next n [] i lt = absurd (omega (arith, lt))
given_next n (l ∷ ls) zero lt = given_step n l ls
given_next n (l ∷ ls) (suc i) lt = given_next n ls i (omega (arith, lt))

-- one turn: a local more is made, and one less is left
pub given_turn : (made : List Known) (n : ℕ) (ls : List Local) (i : ℕ) → i < length ls
    → (made ++ known_as (given_first n) ∷ []) ++ map known_as (given_ready (n - 1) (drop (i + 1) ls)) ≡ made ++ map known_as (given_ready n (drop i ls))
given_turn made n ls i lt =
    rw (add-one i)
    (append_assoc made (known_as (given_first n) ∷ []) (map known_as (given_ready (n - 1) (drop (suc i) ls)))
    ∙ ap (λ (bits : List Bool). made ++ map known_as bits) (sym (given_next n ls i lt)))

-- ---- a function that is called

pub function_at : (fs : List CoreFn) (n : ℕ) → slice_get (map function_of fs) n ≡ option_map function_of (slice_get fs n)
function_at [] n = refl
function_at (f ∷ fs) zero = refl
function_at (f ∷ fs) (suc n) = function_at fs n
