-- Slots whose words lie in one list: how they are read, written, cut and filled up.
use Rattle.std.proofs.Common.{◌≡◌, ℕ, zero, suc, ◌+◌, ◌-◌, ◌*◌, ◌≤◌, ◌<◌, List, [], ◌∷◌, ◌++◌, length, map, take, drop, replicate, get_or, Option, Some, None, refl, sym, ap, ◌∙◌, arith, suc-mul}
use Rattle.std.proofs.lemmas.List.{length-take, length-drop, get_or-take, get_or-drop, take-take, take-append-le, drop-append-le, drop-take, take-set-le, drop-set-lt, drop-set-add, take-replicate, drop-replicate, nil_from_length, take_all}
use Rattle.std.proofs.Math.Seq.{take-set-lt}
use Rattle.std.specs.Prelude.{slice_get, slice_index, slice_set, option_map}
use Rattle.life_store.specs.Content.{Slot, word_in, written, set_slot, stamped, blank_slot, resized_slots}
use Rattle.life_store.specs.Layout.{slots_of}

pub slots_length : (w : ℕ) (ws ss : List ℕ) → length (slots_of w ws ss) ≡ length ss
slots_length w ws [] = refl
slots_length w ws (s ∷ ss) = ap suc (slots_length w (drop w ws) ss)

-- the stamp of a slot, where it is there
pub slot_stamp : (w : ℕ) (ws ss : List ℕ) (i : ℕ) → option_map (λ (s : Slot). s.stamp) (slice_get (slots_of w ws ss) i) ≡ slice_get ss i
slot_stamp w ws [] i = refl
slot_stamp w ws (s ∷ ss) zero = refl
slot_stamp w ws (s ∷ ss) (suc i) = slot_stamp w (drop w ws) ss i

further : (w i j : ℕ) → w + (i * w + j) ≡ suc i * w + j
further w i j = omega (arith, suc-mul i w)

-- a word of a slot is a word of the list
pub word_is : (w : ℕ) (ws ss : List ℕ) (i j : ℕ) → i < length ss → j < w → word_in (slice_get (slots_of w ws ss) i) j ≡ slice_index ws (i * w + j)
word_is w ws [] i j lt lw = absurd (omega (arith, lt))
word_is w ws (s ∷ ss) zero j lt lw = let e : j ≡ 0 * w + j = omega arith in get_or-take w ws j 0 lw ∙ ap (λ k. get_or ws k 0) e
word_is w ws (s ∷ ss) (suc i) j lt lw =
    word_is w (drop w ws) ss i j (omega (arith, lt)) lw ∙ get_or-drop w ws (i * w + j) 0 ∙ ap (λ k. get_or ws k 0) (further w i j)

behind_first : (s : Slot) (rest : List Slot) (i : ℕ) (o : Option Slot) → s ∷ set_slot rest i o ≡ set_slot (s ∷ rest) (suc i) o
behind_first s rest i None = refl
behind_first s rest i (Some t) = refl

-- .. and is written there
pub word_written : (w : ℕ) (ws ss : List ℕ) (i j v : ℕ) → i < length ss → j < w → slots_of w (slice_set ws (i * w + j) v) ss ≡ set_slot (slots_of w ws ss) i (option_map (written j v) (slice_get (slots_of w ws ss) i))
word_written w ws [] i j v lt lw = absurd (omega (arith, lt))
word_written w ws (s ∷ ss) zero j v lt lw =
    let e : 0 * w + j ≡ j = omega arith in
    ap (λ k. slots_of w (slice_set ws k v) (s ∷ ss)) e
    ∙ ap (λ (front : List ℕ). record { words = front; stamp = s } ∷ slots_of w (drop w (slice_set ws j v)) ss) (take-set-lt w ws j v lw)
    ∙ ap (λ back. record { words = slice_set (take w ws) j v; stamp = s } ∷ slots_of w back ss) (drop-set-lt w ws j v lw)
word_written w ws (s ∷ ss) (suc i) j v lt lw =
    ap (λ k. slots_of w (slice_set ws k v) (s ∷ ss)) (sym (further w i j))
    ∙ ap (λ (front : List ℕ). record { words = front; stamp = s } ∷ slots_of w (drop w (slice_set ws (w + (i * w + j)) v)) ss) (take-set-le w ws (w + (i * w + j)) v (omega arith))
    ∙ ap (λ back. record { words = take w ws; stamp = s } ∷ slots_of w back ss) (drop-set-add w ws (i * w + j) v)
    ∙ ap (λ rest. record { words = take w ws; stamp = s } ∷ rest) (word_written w (drop w ws) ss i j v (omega (arith, lt)) lw)
    ∙ behind_first (record { words = take w ws; stamp = s }) (slots_of w (drop w ws) ss) i _

-- ---- cut and filled up

-- a list of words, cut and filled up with 0
abbrev filled : ℕ → List ℕ → List ℕ
filled n ws = take n ws ++ replicate (n - length ws) 0

filled_front : (w k : ℕ) (ws : List ℕ) → w ≤ length ws → take w (filled (w + k) ws) ≡ take w ws
filled_front w k ws le =
    take-append-le w (take (w + k) ws) (replicate (w + k - length ws) 0) (omega (arith, length-take (w + k) ws))
    ∙ take-take w (w + k) ws (omega arith)

filled_back : (w k : ℕ) (ws : List ℕ) → w ≤ length ws → drop w (filled (w + k) ws) ≡ filled k (drop w ws)
filled_back w k ws le =
    let e : w + k - length ws ≡ k - length (drop w ws) = omega (arith, length-drop w ws) in
    drop-append-le w (take (w + k) ws) (replicate (w + k - length ws) 0) (omega (arith, length-take (w + k) ws))
    ∙ ap (λ front. front ++ replicate (w + k - length ws) 0) (drop-take w k ws)
    ∙ ap (λ n. take k (drop w ws) ++ replicate n 0) e

-- a slot more
filled_slot : (w n : ℕ) (ws : List ℕ) (stamp : ℕ) (ss : List ℕ) → w ≤ length ws → slots_of w (filled (suc n * w) ws) (stamp ∷ ss) ≡ record { words = take w ws; stamp = stamp } ∷ slots_of w (filled (n * w) (drop w ws)) ss
filled_slot w n ws stamp ss le =
    let e : suc n * w ≡ w + n * w = omega (arith, suc-mul n w) in
    ap (λ k. slots_of w (filled k ws) (stamp ∷ ss)) e
    ∙ ap (λ (front : List ℕ). record { words = front; stamp = stamp } ∷ slots_of w (drop w (filled (w + n * w) ws)) ss) (filled_front w (n * w) ws le)
    ∙ ap (λ back. record { words = take w ws; stamp = stamp } ∷ slots_of w back ss) (filled_back w (n * w) ws le)

blank_slots : (w n moment : ℕ) → slots_of w (replicate (n * w) 0) (replicate n moment) ≡ replicate n (blank_slot w moment)
blank_slots w zero moment = refl
blank_slots w (suc n) moment =
    let e : suc n * w ≡ w + n * w = omega (arith, suc-mul n w) in
    let left : w + n * w - w ≡ n * w = omega arith in
    ap (λ k. slots_of w (replicate k 0) (moment ∷ replicate n moment)) e
    ∙ ap (λ (front : List ℕ). record { words = front; stamp = moment } ∷ slots_of w (drop w (replicate (w + n * w) 0)) (replicate n moment)) (take-replicate w (w + n * w) 0 (omega arith))
    ∙ ap (λ back. blank_slot w moment ∷ slots_of w back (replicate n moment)) (drop-replicate w (w + n * w) 0)
    ∙ ap (λ k. blank_slot w moment ∷ slots_of w (replicate k 0) (replicate n moment)) left
    ∙ ap (λ rest. blank_slot w moment ∷ rest) (blank_slots w n moment)

stamped_blanks : (w n moment : ℕ) → map (stamped moment) (take n (replicate n (blank_slot w moment))) ≡ replicate n (blank_slot w moment)
stamped_blanks w zero moment = refl
stamped_blanks w (suc n) moment = ap (λ rest. blank_slot w moment ∷ rest) (stamped_blanks w n moment)

take_none : {A : Type 0} (n : ℕ) → take n (let none : List A = [] in none) ≡ []
take_none zero = refl
take_none (suc n) = refl

-- no position keeps its stamp
all_stamped : (w n moment : ℕ) (ws ss : List ℕ) → length ws ≡ length ss * w
    → slots_of w (filled (n * w) ws) (replicate n moment) ≡ map (stamped moment) (take n (slots_of w ws ss ++ replicate (n - length ss) (blank_slot w moment)))
all_stamped w zero moment ws ss e = refl
all_stamped w (suc n) moment ws [] e =
    let none : length ws ≡ 0 = omega (arith, e) in
    let k : suc n * w - 0 ≡ suc n * w = omega arith in
    let m : suc n ≡ suc n - 0 = omega arith in
    ap (λ us. slots_of w (filled (suc n * w) us) (replicate (suc n) moment)) (nil_from_length ws none)
    ∙ ap (λ front. slots_of w (front ++ replicate (suc n * w - 0) 0) (replicate (suc n) moment)) (take_none (suc n * w))
    ∙ ap (λ j. slots_of w (replicate j 0) (replicate (suc n) moment)) k
    ∙ blank_slots w (suc n) moment
    ∙ sym (stamped_blanks w (suc n) moment)
    ∙ ap (λ j. map (stamped moment) (take (suc n) (replicate j (blank_slot w moment)))) m
all_stamped w (suc n) moment ws (s ∷ ss) e =
    let more = suc-mul (length ss) w in
    let d : length (drop w ws) ≡ length ss * w = omega (arith, length-drop w ws, more, e) in
    let k : n - length ss ≡ suc n - suc (length ss) = omega arith in
    filled_slot w n ws moment (replicate n moment) (omega (arith, more, e))
    ∙ ap (λ rest. record { words = take w ws; stamp = moment } ∷ rest) (all_stamped w n moment (drop w ws) ss d)
    ∙ ap (λ j. record { words = take w ws; stamp = moment } ∷ map (stamped moment) (take n (slots_of w (drop w ws) ss ++ replicate j (blank_slot w moment)))) k

resized_from : (w moment n since : ℕ) (ws ss : List ℕ) → length ws ≡ length ss * w → since ≤ n → since ≤ length ss
    → slots_of w (filled (n * w) ws) (take since ss ++ replicate (n - since) moment)
    ≡ take since (slots_of w ws ss) ++ map (stamped moment) (take (n - since) (drop since (slots_of w ws ss) ++ replicate (n - length ss) (blank_slot w moment)))
resized_from w moment n zero ws ss e to from =
    let k : n - 0 ≡ n = omega arith in
    ap (λ j. slots_of w (filled (n * w) ws) (replicate j moment)) k
    ∙ all_stamped w n moment ws ss e
    ∙ ap (λ j. map (stamped moment) (take j (slots_of w ws ss ++ replicate (n - length ss) (blank_slot w moment)))) (sym k)
resized_from w moment n (suc since) ws [] e to from = absurd (omega (arith, from))
resized_from w moment zero (suc since) ws (s ∷ ss) e to from = absurd (omega (arith, to))
resized_from w moment (suc n) (suc since) ws (s ∷ ss) e to from =
    let more = suc-mul (length ss) w in
    let d : length (drop w ws) ≡ length ss * w = omega (arith, length-drop w ws, more, e) in
    let k : n - since ≡ suc n - suc since = omega arith in
    let m : n - length ss ≡ suc n - suc (length ss) = omega arith in
    filled_slot w n ws s (take since ss ++ replicate (suc n - suc since) moment) (omega (arith, more, e))
    ∙ ap (λ j. record { words = take w ws; stamp = s } ∷ slots_of w (filled (n * w) (drop w ws)) (take since ss ++ replicate j moment)) (sym k)
    ∙ ap (λ rest. record { words = take w ws; stamp = s } ∷ rest) (resized_from w moment n since (drop w ws) ss d (omega (arith, to)) (omega (arith, from)))
    ∙ ap (λ j. record { words = take w ws; stamp = s } ∷ (take since (slots_of w (drop w ws) ss) ++ map (stamped moment) (take j (drop since (slots_of w (drop w ws) ss) ++ replicate (n - length ss) (blank_slot w moment))))) k
    ∙ ap (λ j. record { words = take w ws; stamp = s } ∷ (take since (slots_of w (drop w ws) ss) ++ map (stamped moment) (take (suc n - suc since) (drop since (slots_of w (drop w ws) ss) ++ replicate j (blank_slot w moment))))) m

stamps_cut : (n since : ℕ) (moment : ℕ) (ss : List ℕ) → since ≤ n → since ≤ length ss → take n (take since ss) ++ replicate (n - length (take since ss)) moment ≡ take since ss ++ replicate (n - since) moment
stamps_cut n since moment ss to from =
    let e : length (take since ss) ≡ since = omega (arith, length-take since ss) in
    ap (λ front. front ++ replicate (n - length (take since ss)) moment) (take_all n (take since ss) (omega (arith, e, to)))
    ∙ ap (λ k. take since ss ++ replicate (n - k) moment) e

-- words and stamps that are cut and filled up are the slots resized
pub slots_resized : (w moment n since : ℕ) (ws ss : List ℕ) → length ws ≡ length ss * w → since ≤ n → since ≤ length ss
    → slots_of w (take (n * w) ws ++ replicate (n * w - length ws) 0) (take n (take since ss) ++ replicate (n - length (take since ss)) moment) ≡ resized_slots w moment n since (slots_of w ws ss)
slots_resized w moment n since ws ss e to from =
    ap (slots_of w (filled (n * w) ws)) (stamps_cut n since moment ss to from)
    ∙ resized_from w moment n since ws ss e to from
    ∙ ap (λ k. take since (slots_of w ws ss) ++ map (stamped moment) (take (n - since) (drop since (slots_of w ws ss) ++ replicate (n - k) (blank_slot w moment)))) (sym (slots_length w ws ss))
