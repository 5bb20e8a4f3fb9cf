-- Slots of one width: as they are cut, filled up, stamped and written, and the words that they have.
use Rattle.std.proofs.Common.{◌≡◌, ℕ, zero, suc, ◌+◌, ◌-◌, ◌≤◌, ◌<◌, List, [], ◌∷◌, ◌++◌, length, map, replicate, take, drop, refl, ◌∙◌, ap, arith, length-append}
use Rattle.std.proofs.lemmas.List.{length-drop, length-map, length-set, length-take}
use Rattle.life_store.specs.Content.{Slot, blank_slot, resized_slots, stamped}
use Rattle.life_store.specs.Held.{filled_slots}
use Rattle.life_forest.specs.Values.{AllWide}
use Rattle.life_forest.proofs.Puts.{IsWord, AreWords, put_in, puts_in}
use Rattle.life_store.specs.Edits.{words_in}

length-replicate : {A : Type 0} (n : ℕ) (a : A) → length (replicate n a) ≡ n
length-replicate zero a = refl
length-replicate (suc n) a = ap suc (length-replicate n a)

pub wide-append : (w : ℕ) (ss rr : List Slot) → AllWide w ss → AllWide w rr → AllWide w (ss ++ rr)
wide-append w [] rr h k = k
wide-append w (s ∷ ss) rr h k = (h.0, wide-append w ss rr h.1 k)

pub wide-take : (w n : ℕ) (ss : List Slot) → AllWide w ss → AllWide w (take n ss)
wide-take w zero ss h = tt
wide-take w (suc n) [] h = tt
wide-take w (suc n) (s ∷ ss) h = (h.0, wide-take w n ss h.1)

pub wide-drop : (w n : ℕ) (ss : List Slot) → AllWide w ss → AllWide w (drop n ss)
wide-drop w zero ss h = h
wide-drop w (suc n) [] h = tt
wide-drop w (suc n) (s ∷ ss) h = wide-drop w n ss h.1

wide-stamped : (w t : ℕ) (ss : List Slot) → AllWide w ss → AllWide w (map (stamped t) ss)
wide-stamped w t [] h = tt
wide-stamped w t (s ∷ ss) h = (h.0, wide-stamped w t ss h.1)

wide-blank : (w t n : ℕ) → AllWide w (replicate n (blank_slot w t))
wide-blank w t zero = tt
wide-blank w t (suc n) = (length-replicate w 0, wide-blank w t n)

pub wide-resized : (w t size since : ℕ) (ss : List Slot) → AllWide w ss → AllWide w (resized_slots w t size since ss)
wide-resized w t size since ss h =
    let blanks = replicate (size - length ss) (blank_slot w t) in
    wide-append w (take since ss) (map (stamped t) (take (size - since) (drop since ss ++ blanks))) (wide-take w since ss h)
    (wide-stamped w t (take (size - since) (drop since ss ++ blanks)) (wide-take w (size - since) (drop since ss ++ blanks) (wide-append w (drop since ss) blanks (wide-drop w since ss h) (wide-blank w t (size - length ss)))))

pub count-blank : (w t size : ℕ) → length (resized_slots w t size 0 []) ≡ size
count-blank w t size =
    let a = length-map (take (size - 0) (replicate (size - 0) (blank_slot w t))) (stamped t) in
    let b = length-take (size - 0) (replicate (size - 0) (blank_slot w t)) in
    let c = length-replicate (size - 0) (blank_slot w t) in
    omega arith

pub count-resized : (w t size since : ℕ) (ss : List Slot) → since ≤ size → since ≤ length ss → length (resized_slots w t size since ss) ≡ size
count-resized w t size since ss to from =
    let blanks = replicate (size - length ss) (blank_slot w t) in
    let a = length-append (take since ss) (map (stamped t) (take (size - since) (drop since ss ++ replicate (size - length ss) (blank_slot w t)))) in
    let b = length-map (take (size - since) (drop since ss ++ replicate (size - length ss) (blank_slot w t))) (stamped t) in
    let c = length-take (size - since) (drop since ss ++ replicate (size - length ss) (blank_slot w t)) in
    let d = length-append (drop since ss) (replicate (size - length ss) (blank_slot w t)) in
    let e = length-drop since ss in
    let f = length-replicate (size - length ss) (blank_slot w t) in
    let g = length-take since ss in
    omega arith

-- ---- the words that are there

is_word : (w i u : ℕ) (ss : List Slot) → AllWide w ss → i < length ss → u < w → IsWord i u ss
is_word w i u [] h lt small = absurd (omega arith)
is_word w zero u (s ∷ ss) h lt small = let e = h.0 in omega arith
is_word w (suc i) u (s ∷ ss) h lt small = is_word w i u ss h.1 (omega arith) small

pub words_from : (w i u n : ℕ) (ss : List Slot) → AllWide w ss → i < length ss → u + n ≤ w → AreWords i u n ss
words_from w i u zero ss h lt le = tt
words_from w i u (suc n) ss h lt le = (is_word w i u ss h lt (omega arith), words_from w i (u + 1) n ss h lt (omega arith))

pub are_words : (w i : ℕ) (ss : List Slot) → AllWide w ss → i < length ss → AreWords i 0 w ss
are_words w i ss h lt = words_from w i 0 w ss h lt (omega arith)

-- .. in a slot behind those that are filled
is_word-filled : (ss : List Slot) (vs : List (List ℕ)) (i u : ℕ) → length vs ≤ i → IsWord i u ss → IsWord i u (filled_slots ss vs)
is_word-filled [] vs i u le has = has
is_word-filled (s ∷ ss) [] i u le has = has
is_word-filled (s ∷ ss) (v ∷ vs) zero u le has = absurd (omega arith)
is_word-filled (s ∷ ss) (v ∷ vs) (suc i) u le has = is_word-filled ss vs i u (omega arith) has

pub are_words-filled : (ss : List Slot) (vs : List (List ℕ)) (i u n : ℕ) → length vs ≤ i → AreWords i u n ss → AreWords i u n (filled_slots ss vs)
are_words-filled ss vs i u zero le has = tt
are_words-filled ss vs i u (suc n) le has = (is_word-filled ss vs i u le has.0, are_words-filled ss vs i (u + 1) n le has.1)

-- ---- words that are written

wide-put : (w : ℕ) (ss : List Slot) (i u v : ℕ) → AllWide w ss → AllWide w (put_in i u v ss)
wide-put w [] i u v h = h
wide-put w (s ∷ ss) zero u v h = (length-set s.words u v ∙ h.0, h.1)
wide-put w (s ∷ ss) (suc i) u v h = (h.0, wide-put w ss i u v h.1)

pub wide-puts : (w : ℕ) (vs : List ℕ) (ss : List Slot) (i u : ℕ) → AllWide w ss → AllWide w (puts_in i u vs ss)
wide-puts w [] ss i u h = h
wide-puts w (v ∷ vs) ss i u h = wide-puts w vs (put_in i u v ss) i (u + 1) (wide-put w ss i u v h)

-- each row has so many words
abbrev pub AllLong : ℕ → List (List ℕ) → Type 0
AllLong w [] = Unit {0}
AllLong w (v ∷ vs) = (length v ≡ w) × AllLong w vs

pub wide-filled : (w : ℕ) (ss : List Slot) (vs : List (List ℕ)) → AllWide w ss → AllLong w vs → AllWide w (filled_slots ss vs)
wide-filled w [] vs h k = tt
wide-filled w (s ∷ ss) [] h k = h
wide-filled w (s ∷ ss) (v ∷ vs) h k = (k.0, wide-filled w ss vs h.1 k.1)

pub long-append : (w : ℕ) (us vs : List (List ℕ)) → AllLong w us → AllLong w vs → AllLong w (us ++ vs)
long-append w [] vs h k = k
long-append w (u ∷ us) vs h k = (h.0, long-append w us vs h.1 k)

pub slots_long : (w : ℕ) (ss : List Slot) → AllWide w ss → AllLong w (map words_in ss)
slots_long w [] h = tt
slots_long w (s ∷ ss) h = (h.0, slots_long w ss h.1)
