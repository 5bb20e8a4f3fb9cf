-- A slot behind others: it is read, written and made to own nothing by itself.
use Rattle.std.proofs.Common.{◌≡◌, ℕ, zero, suc, ◌+◌, List, [], ◌∷◌, ◌++◌, length, Some, refl, sym, ap, ◌∙◌, arith, length-append, append_assoc}
use Rattle.std.specs.Prelude.{drop, slice_get, slice_set, take}
use Rattle.life_store.specs.Content.{Slot, Object, written}
use Rattle.life_store.specs.Held.{with_words, words_if}
use Rattle.life_forest.proofs.Puts.{put_in}
use Rattle.life_values.specs.Zeroed.{zeroed}
use Rattle.life_values.proofs.Owners.{with_word_is}

pub slot_here : (pre : List Slot) (s : Slot) (ss : List Slot) → slice_get (pre ++ s ∷ ss) (length pre) ≡ Some s
slot_here [] s ss = refl
slot_here (p ∷ pre) s ss = slot_here pre s ss

pub put_here : (pre : List Slot) (s : Slot) (ss : List Slot) (w v : ℕ) → put_in (length pre) w v (pre ++ s ∷ ss) ≡ pre ++ written w v s ∷ ss
put_here [] s ss w v = refl
put_here (p ∷ pre) s ss w v = ap (λ (rest : List Slot). p ∷ rest) (put_here pre s ss w v)

pub one_more : (pre : List Slot) (s : Slot) → length (pre ++ s ∷ []) ≡ length pre + 1
one_more pre s = length-append pre (s ∷ [])

pub regrouped : (pre : List Slot) (s : Slot) (ss : List Slot) → pre ++ s ∷ ss ≡ (pre ++ s ∷ []) ++ ss
regrouped [] s ss = refl
regrouped (p ∷ pre) s ss = ap (λ (rest : List Slot). p ∷ rest) (regrouped pre s ss)

take_long : (ws : List ℕ) (k : ℕ) → length ws ≡ k → take k ws ≡ ws
take_long [] zero e = refl
take_long [] (suc k) e = refl
take_long (w ∷ ws) zero e = absurd (omega (arith, e))
take_long (w ∷ ws) (suc k) e = ap (λ xs. w ∷ xs) (take_long ws k (omega (arith, e)))

pub words_here : (pre : List Slot) (s : Slot) (ss : List Slot) (k : ℕ) → length s.words ≡ k → take k (drop 0 (words_if (slice_get (pre ++ s ∷ ss) (length pre)))) ≡ s.words
words_here pre s ss k e = ap (λ x. take k (drop 0 (words_if x))) (slot_here pre s ss) ∙ ap (take k) (none_less s.words) ∙ take_long s.words k e
  where
    none_less : (xs : List ℕ) → drop 0 xs ≡ xs
    none_less [] = refl
    none_less (x ∷ xs) = refl

-- ---- all words of it are written

set_next : (done : List ℕ) (w : ℕ) (rest : List ℕ) (v : ℕ) → slice_set (done ++ w ∷ rest) (length done) v ≡ (done ++ v ∷ []) ++ rest
set_next [] w rest v = refl
set_next (d ∷ done) w rest v = ap (λ xs. d ∷ xs) (set_next done w rest v)

abbrev pub with_slots : Object → List Slot → Object
with_slots o ss = record o { slots = ss }

abbrev slot_with : Slot → List ℕ → Slot
slot_with s ws = record { words = ws; stamp = s.stamp }

words_written : (o : Object) (pre : List Slot) (s : Slot) (ss : List Slot) (done rest vs : List ℕ) → length vs ≡ length rest
    → with_words (length pre) (length done) vs (with_slots o (pre ++ slot_with s (done ++ rest) ∷ ss)) ≡ with_slots o (pre ++ slot_with s (done ++ vs) ∷ ss)
words_written o pre s ss done [] [] e = refl
words_written o pre s ss done [] (v ∷ vs) e = absurd (omega (arith, e))
words_written o pre s ss done (w ∷ rest) [] e = absurd (omega (arith, e))
words_written o pre s ss done (w ∷ rest) (v ∷ vs) e =
    let n : length done + 1 ≡ length (done ++ v ∷ []) = sym (length-append done (v ∷ [])) in
    ap (with_words (length pre) (length done + 1) vs)
    (with_word_is (length pre) (length done) v (with_slots o (pre ++ slot_with s (done ++ w ∷ rest) ∷ ss))
    ∙ ap (with_slots o) (put_here pre (slot_with s (done ++ w ∷ rest)) ss (length done) v)
    ∙ ap (λ ws. with_slots o (pre ++ slot_with s ws ∷ ss)) (set_next done w rest v))
    ∙ ap (λ k. with_words (length pre) k vs (with_slots o (pre ++ slot_with s ((done ++ v ∷ []) ++ rest) ∷ ss))) n
    ∙ words_written o pre s ss (done ++ v ∷ []) rest vs (omega (arith, e))
    ∙ ap (λ ws. with_slots o (pre ++ slot_with s ws ∷ ss)) (append_assoc done (v ∷ []) vs)

pub whole_written : (o : Object) (pre : List Slot) (s : Slot) (ss : List Slot) (vs : List ℕ) → length vs ≡ length s.words
    → with_words (length pre) 0 vs (with_slots o (pre ++ s ∷ ss)) ≡ with_slots o (pre ++ record { words = vs; stamp = s.stamp } ∷ ss)
whole_written o pre s ss vs e = words_written o pre s ss [] s.words vs e

-- ---- it owns nothing any more

abbrev pub nothing_owned : (word : ℕ) → List ℕ → List ℕ → List ℕ
nothing_owned w [] ws = ws
nothing_owned w (u ∷ us) ws = nothing_owned w us (slice_set ws (w + u) 0)

pub zeroed_here : (o : Object) (pre : List Slot) (s : Slot) (ss : List Slot) (w : ℕ) (us : List ℕ)
    → zeroed (length pre) w us (with_slots o (pre ++ s ∷ ss)) ≡ with_slots o (pre ++ record { words = nothing_owned w us s.words; stamp = s.stamp } ∷ ss)
zeroed_here o pre s ss w [] = refl
zeroed_here o pre s ss w (u ∷ us) =
    ap (zeroed (length pre) w us)
    (with_word_is (length pre) (w + u) 0 (with_slots o (pre ++ s ∷ ss)) ∙ ap (with_slots o) (put_here pre s ss (w + u) 0))
    ∙ zeroed_here o pre (written (w + u) 0 s) ss w us
