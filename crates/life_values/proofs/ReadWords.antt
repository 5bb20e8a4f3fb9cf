-- The words of a slot as they are read one after the other, and written back.
use Rattle.std.proofs.Common.{◌≡◌, ℕ, zero, suc, ◌+◌, ◌≤◌, List, [], ◌∷◌, length, take, drop, refl, sym, ap, ◌∙◌, arith}
use Rattle.std.specs.Prelude.{slice_get, slice_index, slice_set}
use Rattle.life_store.specs.Content.{Slot, Object, with_word, word_in, word_at}
use Rattle.life_store.specs.Held.{with_words, words_if}
use Rattle.life_forest.proofs.Puts.{put_in}
use Rattle.life_values.proofs.Owners.{with_word_is}
use Rattle.life_values.proofs.Zeros.{words_other}

-- so many words, from one on
abbrev pub read : (slot word count : ℕ) → Object → List ℕ
read i w zero o = []
read i w (suc k) o = word_at o i w ∷ read i (w + 1) k o

pub read_length : (i w k : ℕ) (o : Object) → length (read i w k o) ≡ k
read_length i w zero o = refl
read_length i w (suc k) o = let e = read_length i (w + 1) k o in omega (arith, e)

pub read_front : (i w k j : ℕ) (o : Object) → take k (read i w (k + j) o) ≡ read i w k o
read_front i w zero j o = none (read i w (0 + j) o)
  where
    none : (xs : List ℕ) → take 0 xs ≡ []
    none [] = refl
    none (x ∷ xs) = refl
read_front i w (suc k) j o =
    let z : suc k + j ≡ suc (k + j) = omega arith in
    ap (λ n. take (suc k) (read i w n o)) z ∙ ap (λ xs. word_at o i w ∷ xs) (read_front i (w + 1) k j o)

pub read_back : (i w k j : ℕ) (o : Object) → drop k (read i w (k + j) o) ≡ read i (w + k) j o
read_back i w zero j o = (λ h. read i (first h) (second h) o)
  where
    first : w ≡ w + 0
    first = omega arith

    second : 0 + j ≡ j
    second = omega arith
read_back i w (suc k) j o =
    let z : suc k + j ≡ suc (k + j) = omega arith in
    let y : w + 1 + k ≡ w + suc k = omega arith in
    ap (λ n. drop (suc k) (read i w n o)) z ∙ read_back i (w + 1) k j o ∙ ap (λ n. read i n j o) y

-- words that are written before them
pub read_behind : (i w : ℕ) (vs : List ℕ) (o : Object) (u k : ℕ) → w + length vs ≤ u → read i u k (with_words i w vs o) ≡ read i u k o
read_behind i w vs o u zero le = refl
read_behind i w vs o u (suc k) le = (λ j. words_other i w vs o u le j ∷ read_behind i w vs o (u + 1) k (omega (arith, le)) j)

-- ---- a word is written as it is

set_same : (xs : List ℕ) (w : ℕ) → slice_set xs w (slice_index xs w) ≡ xs
set_same [] w = refl
set_same (x ∷ xs) zero = refl
set_same (x ∷ xs) (suc w) = ap (λ ys. x ∷ ys) (set_same xs w)

put_same : (ss : List Slot) (i w : ℕ) → put_in i w (word_in (slice_get ss i) w) ss ≡ ss
put_same [] i w = refl
put_same (s ∷ ss) zero w = ap (λ ws. record { words = ws; stamp = s.stamp } ∷ ss) (set_same s.words w)
put_same (s ∷ ss) (suc i) w = ap (λ (rest : List Slot). s ∷ rest) (put_same ss i w)

pub with_same : (i w : ℕ) (o : Object) → with_word i w (word_at o i w) o ≡ o
with_same i w o = with_word_is i w (word_at o i w) o ∙ ap (λ (ss : List Slot). record o { slots = ss }) (put_same o.slots i w)

pub read_same : (i w k : ℕ) (o : Object) → with_words i w (read i w k o) o ≡ o
read_same i w zero o = refl
read_same i w (suc k) o = ap (with_words i (w + 1) (read i (w + 1) k o)) (with_same i w o) ∙ read_same i (w + 1) k o

-- ---- the last of two is what stands there

set_twice : (xs : List ℕ) (w a b : ℕ) → slice_set (slice_set xs w a) w b ≡ slice_set xs w b
set_twice [] w a b = refl
set_twice (x ∷ xs) zero a b = refl
set_twice (x ∷ xs) (suc w) a b = ap (λ ys. x ∷ ys) (set_twice xs w a b)

put_twice : (ss : List Slot) (i w a b : ℕ) → put_in i w b (put_in i w a ss) ≡ put_in i w b ss
put_twice [] i w a b = refl
put_twice (s ∷ ss) zero w a b = ap (λ ws. record { words = ws; stamp = s.stamp } ∷ ss) (set_twice s.words w a b)
put_twice (s ∷ ss) (suc i) w a b = ap (λ (rest : List Slot). s ∷ rest) (put_twice ss i w a b)

pub with_twice : (i w a b : ℕ) (o : Object) → with_word i w b (with_word i w a o) ≡ with_word i w b o
with_twice i w a b o =
    ap (with_word i w b) (with_word_is i w a o)
    ∙ with_word_is i w b (record o { slots = put_in i w a o.slots })
    ∙ ap (λ (ss : List Slot). record o { slots = ss }) (put_twice o.slots i w a b)
    ∙ sym (with_word_is i w b o)

-- ---- as the meaning reads them

pub cut : (xs : List ℕ) (w k : ℕ) → w + suc k ≤ length xs → take (suc k) (drop w xs) ≡ slice_index xs w ∷ take k (drop (w + 1) xs)
cut [] w k le = absurd (omega (arith, le))
cut (x ∷ xs) zero k le = refl
cut (x ∷ xs) (suc w) k le = let z : suc w + 1 ≡ suc (w + 1) = omega arith in cut xs w k (omega (arith, le)) ∙ ap (λ n. slice_index xs w ∷ take k (drop n (x ∷ xs))) (sym z)

pub in_slot : (ss : List Slot) (i w : ℕ) → word_in (slice_get ss i) w ≡ slice_index (words_if (slice_get ss i)) w
in_slot [] i zero = refl
in_slot [] i (suc w) = refl
in_slot (s ∷ ss) zero w = refl
in_slot (s ∷ ss) (suc i) w = in_slot ss i w

pub read_is : (i w k : ℕ) (o : Object) → w + k ≤ length (words_if (slice_get o.slots i)) → read i w k o ≡ take k (drop w (words_if (slice_get o.slots i)))
read_is i w zero o le = sym (none (drop w (words_if (slice_get o.slots i))))
  where
    none : (xs : List ℕ) → take 0 xs ≡ []
    none [] = refl
    none (x ∷ xs) = refl
read_is i w (suc k) o le =
    (λ j. in_slot o.slots i w j ∷ read_is i (w + 1) k o (omega (arith, le)) j)
    ∙ sym (cut (words_if (slice_get o.slots i)) w k le)
