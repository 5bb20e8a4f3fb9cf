-- Words that are 0, and are written as 0 or left alone.
use Rattle.std.proofs.Common.{◌≡◌, ℕ, zero, suc, ◌+◌, ◌≤◌, ◌<◌, List, [], ◌∷◌, ◌++◌, length, Option, refl, sym, ap, ◌∙◌, arith}
use Rattle.std.specs.Prelude.{replicate, slice_get, slice_index, slice_set}
use Rattle.life_store.specs.Cells.{Cells, at-set_same}
use Rattle.life_store.specs.Content.{Slot, Object, Content, with_object, with_word, word_in, word_at}
use Rattle.life_store.specs.Held.{with_words, wrote, wrote_if}
use Rattle.life_store.proofs.MapLemmas.{set-set}
use Rattle.life_forest.proofs.Puts.{put_in}
use Rattle.life_values.proofs.HeldWords.{word_other}
use Rattle.life_values.proofs.Owners.{with_word_is}

-- so many words of a slot, from one on, are 0
abbrev pub AreZero : (slot word count : ℕ) → Object → Type 0
AreZero i w n o = (u : ℕ) → w ≤ u → u < w + n → word_at o i u ≡ 0

set_zero : (xs : List ℕ) (w : ℕ) → slice_index xs w ≡ 0 → slice_set xs w 0 ≡ xs
set_zero [] w e = refl
set_zero (x ∷ xs) zero e = ap (λ y. y ∷ xs) (sym e)
set_zero (x ∷ xs) (suc w) e = ap (λ ys. x ∷ ys) (set_zero xs w e)

put_zero : (ss : List Slot) (i w : ℕ) → word_in (slice_get ss i) w ≡ 0 → put_in i w 0 ss ≡ ss
put_zero [] i w e = refl
put_zero (s ∷ ss) zero w e = ap (λ ws. record { words = ws; stamp = s.stamp } ∷ ss) (set_zero s.words w e)
put_zero (s ∷ ss) (suc i) w e = ap (λ (rest : List Slot). s ∷ rest) (put_zero ss i w e)

pub with_zero : (i w : ℕ) (o : Object) → word_at o i w ≡ 0 → with_word i w 0 o ≡ o
with_zero i w o e = with_word_is i w 0 o ∙ ap (λ (ss : List Slot). record o { slots = ss }) (put_zero o.slots i w e)

pub with_zeros : (i w n : ℕ) (o : Object) → AreZero i w n o → with_words i w (replicate n 0) o ≡ o
with_zeros i w zero o z = refl
with_zeros i w (suc n) o z =
    ap (with_words i (w + 1) (replicate n 0)) (with_zero i w o (z w (omega arith) (omega arith)))
    ∙ with_zeros i (w + 1) n o (λ u le lt. z u (omega (arith, le)) (omega (arith, lt)))

-- a word before those
pub zero_behind : (i w v n : ℕ) (o : Object) → AreZero i w (suc n) o → AreZero i (w + 1) n (with_word i w v o)
zero_behind i w v n o z u le lt = word_other o i w v u (omega (arith, le)) ∙ z u (omega (arith, le)) (omega (arith, lt))

-- ---- words one behind the other

pub words-append : (i w : ℕ) (xs ys : List ℕ) (o : Object) → with_words i w (xs ++ ys) o ≡ with_words i (w + length xs) ys (with_words i w xs o)
words-append i w [] ys o = let z : w ≡ w + 0 = omega arith in ap (λ k. with_words i k ys o) z
words-append i w (x ∷ xs) ys o =
    let z : w + 1 + length xs ≡ w + suc (length xs) = omega arith in
    words-append i (w + 1) xs ys (with_word i w x o)
    ∙ ap (λ k. with_words i k ys (with_words i (w + 1) xs (with_word i w x o))) z

pub words_other : (i w : ℕ) (xs : List ℕ) (o : Object) (u : ℕ) → w + length xs ≤ u → word_at (with_words i w xs o) i u ≡ word_at o i u
words_other i w [] o u le = refl
words_other i w (x ∷ xs) o u le = words_other i (w + 1) xs (with_word i w x o) u (omega (arith, le)) ∙ word_other o i w x u (omega (arith, le))

-- into an object that is written itself
pub wrote_with : (n i w : ℕ) (vs : List ℕ) (o : Object) (d : Content) → wrote n i w vs (with_object n o d) ≡ with_object n (with_words i w vs o) d
wrote_with n i w vs o d =
    ap (λ (x : Option Object). wrote_if x n i w vs (with_object n o d)) (at-set_same d.objects n n o refl)
    ∙ ap (λ (m : Cells Object). record { objects = m; births = d.births; clock = d.clock }) (set-set d.objects n o (with_words i w vs o))
