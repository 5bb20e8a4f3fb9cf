-- Words of a slot that are written one after the other: how often they own, and what else of the slots stays.
use Rattle.std.proofs.Common.{◌≡◌, ℕ, zero, suc, ◌+◌, ◌≤◌, ◌<◌, Bool, true, false, cond, List, [], ◌∷◌, ◌++◌, length, Option, Some, None, refl, sym, ap, ◌∙◌, arith}
use Rattle.std.specs.Prelude.{slice_get, slice_set, slice_index, option_map}
use Rattle.std.proofs.lemmas.List.{length-set}
use Rattle.life_store.specs.Cells.{at}
use Rattle.life_store.specs.Content.{Slot, Object, Content, set_slot, with_object, with_word, written}
use Rattle.life_store.specs.Held.{with_words, wrote, wrote_if}
use Rattle.life_forest.specs.Owned.{hit, in_words, in_slots, blanked_slots}
use Rattle.life_forest.specs.Forest.{AllSince}
use Rattle.life_forest.proofs.Sparing.{blanked-set}

-- ---- one word

abbrev pub put_in : (index word value : ℕ) → List Slot → List Slot
put_in i w v [] = []
put_in zero w v (s ∷ ss) = written w v s ∷ ss
put_in (suc i) w v (s ∷ ss) = s ∷ put_in i w v ss

abbrev pub word_of : (index word : ℕ) → List Slot → ℕ
word_of i w [] = 0
word_of zero w (s ∷ ss) = slice_index s.words w
word_of (suc i) w (s ∷ ss) = word_of i w ss

-- the slot is there, and has the word
abbrev pub IsWord : (index word : ℕ) → List Slot → Type 0
IsWord i w [] = ⊥
IsWord zero w (s ∷ ss) = w < length s.words
IsWord (suc i) w (s ∷ ss) = IsWord i w ss

behind_first : (s : Slot) (rest : List Slot) (i : ℕ) (o : Option Slot) → s ∷ set_slot rest i o ≡ set_slot (s ∷ rest) (suc i) o
behind_first s rest i None = refl
behind_first s rest i (Some t) = refl

set_slot_is : (ss : List Slot) (i w v : ℕ) → set_slot ss i (option_map (written w v) (slice_get ss i)) ≡ put_in i w v ss
set_slot_is [] i w v = refl
set_slot_is (s ∷ ss) zero w v = refl
set_slot_is (s ∷ ss) (suc i) w v = sym (behind_first s ss i (option_map (written w v) (slice_get ss i))) ∙ ap (λ (rest : List Slot). s ∷ rest) (set_slot_is ss i w v)

with_word_is : (i w v : ℕ) (o : Object) → with_word i w v o ≡ record o { slots = put_in i w v o.slots }
with_word_is i w v o = ap (λ (ss : List Slot). record o { slots = ss }) (set_slot_is o.slots i w v)

-- what counts in one word
abbrev pub counts : Bool → ℕ → ℕ → ℕ
counts b v k = cond b (hit v k) 0

in_words-set : (f : ℕ → Bool) (xs : List ℕ) (w v k : ℕ) → w < length xs → in_words f (slice_set xs w v) k + counts (f w) (slice_index xs w) k ≡ in_words f xs k + counts (f w) v k
in_words-set f [] w v k lt = absurd (omega arith)
in_words-set f (x ∷ xs) zero v k lt = omega arith
in_words-set f (x ∷ xs) (suc w) v k lt = let h = in_words-set (λ u. f (suc u)) xs w v k (omega arith) in omega arith

in_slots-put : (f : ℕ → Bool) (ss : List Slot) (i w v k : ℕ) → IsWord i w ss → in_slots f (put_in i w v ss) k + counts (f w) (word_of i w ss) k ≡ in_slots f ss k + counts (f w) v k
in_slots-put f [] i w v k has = absurd has
in_slots-put f (s ∷ ss) zero w v k has = let h = in_words-set f s.words w v k has in omega arith
in_slots-put f (s ∷ ss) (suc i) w v k has = let h = in_slots-put f ss i w v k has in omega arith

blanked-put : (b : ℕ → Bool) (ss : List Slot) (i w v : ℕ) → b w ≡ true → blanked_slots b (put_in i w v ss) ≡ blanked_slots b ss
blanked-put b [] i w v h = refl
blanked-put b (s ∷ ss) zero w v h = ap (λ ws. record { words = ws; stamp = s.stamp } ∷ blanked_slots b ss) (blanked-set b s.words w v h)
blanked-put b (s ∷ ss) (suc i) w v h = ap (λ (rest : List Slot). blanked_slots b (s ∷ []) ++ rest) (blanked-put b ss i w v h)

since-put : (t : ℕ) (ss : List Slot) (i w v : ℕ) → AllSince t ss → AllSince t (put_in i w v ss)
since-put t [] i w v h = h
since-put t (s ∷ ss) zero w v h = h
since-put t (s ∷ ss) (suc i) w v h = (h.0, since-put t ss i w v h.1)

is_word-put : (ss : List Slot) (i w v j u : ℕ) → IsWord j u ss → IsWord j u (put_in i w v ss)
is_word-put [] i w v j u has = has
is_word-put (s ∷ ss) zero w v zero u has = let e = length-set s.words w v in omega arith
is_word-put (s ∷ ss) zero w v (suc j) u has = has
is_word-put (s ∷ ss) (suc i) w v zero u has = has
is_word-put (s ∷ ss) (suc i) w v (suc j) u has = is_word-put ss i w v j u has

index_other : (xs : List ℕ) (w v u : ℕ) → w < u → slice_index (slice_set xs w v) u ≡ slice_index xs u
index_other [] w v u lt = refl
index_other (x ∷ xs) zero v zero lt = absurd (omega arith)
index_other (x ∷ xs) zero v (suc u) lt = refl
index_other (x ∷ xs) (suc w) v zero lt = absurd (omega arith)
index_other (x ∷ xs) (suc w) v (suc u) lt = index_other xs w v u (omega arith)

word_other : (ss : List Slot) (i w v u : ℕ) → w < u → word_of i u (put_in i w v ss) ≡ word_of i u ss
word_other [] i w v u lt = refl
word_other (s ∷ ss) zero w v u lt = index_other s.words w v u lt
word_other (s ∷ ss) (suc i) w v u lt = word_other ss i w v u lt

-- ---- words one behind the other

abbrev pub puts_in : (index word : ℕ) → List ℕ → List Slot → List Slot
puts_in i w [] ss = ss
puts_in i w (v ∷ vs) ss = puts_in i (w + 1) vs (put_in i w v ss)

abbrev pub words_of : (index word count : ℕ) → List Slot → List ℕ
words_of i w zero ss = []
words_of i w (suc n) ss = word_of i w ss ∷ words_of i (w + 1) n ss

abbrev pub AreWords : (index word count : ℕ) → List Slot → Type 0
AreWords i w zero ss = Unit {0}
AreWords i w (suc n) ss = IsWord i w ss × AreWords i (w + 1) n ss

-- how often they own, from a word on
abbrev pub counted : (ℕ → Bool) → ℕ → List ℕ → ℕ → ℕ
counted f w [] k = 0
counted f w (v ∷ vs) k = counts (f w) v k + counted f (w + 1) vs k

with_words_is : (i w : ℕ) (vs : List ℕ) (o : Object) → with_words i w vs o ≡ record o { slots = puts_in i w vs o.slots }
with_words_is i w [] o = refl
with_words_is i w (v ∷ vs) o = ap (with_words i (w + 1) vs) (with_word_is i w v o) ∙ with_words_is i (w + 1) vs (record o { slots = put_in i w v o.slots })

pub wrote_is : (c : Content) (n i w : ℕ) (vs : List ℕ) (o : Object) → at c.objects n ≡ Some o → wrote n i w vs c ≡ with_object n (record o { slots = puts_in i w vs o.slots }) c
wrote_is c n i w vs o e = ap (λ (x : Option Object). wrote_if x n i w vs c) e ∙ ap (λ (q : Object). with_object n q c) (with_words_is i w vs o)

are_words-put : (ss : List Slot) (i w v u n : ℕ) → AreWords i u n ss → AreWords i u n (put_in i w v ss)
are_words-put ss i w v u zero has = tt
are_words-put ss i w v u (suc n) has = (is_word-put ss i w v i u has.0, are_words-put ss i w v (u + 1) n has.1)

words_other : (ss : List Slot) (i w v u n : ℕ) → w < u → words_of i u n (put_in i w v ss) ≡ words_of i u n ss
words_other ss i w v u zero lt = refl
words_other ss i w v u (suc n) lt =
    ap (λ (x : ℕ). x ∷ words_of i (u + 1) n (put_in i w v ss)) (word_other ss i w v u lt)
    ∙ ap (λ (xs : List ℕ). word_of i u ss ∷ xs) (words_other ss i w v (u + 1) n (omega arith))

pub in_slots-puts : (f : ℕ → Bool) (vs : List ℕ) (ss : List Slot) (i w k : ℕ) → AreWords i w (length vs) ss
    → in_slots f (puts_in i w vs ss) k + counted f w (words_of i w (length vs) ss) k ≡ in_slots f ss k + counted f w vs k
in_slots-puts f [] ss i w k has = refl
in_slots-puts f (v ∷ vs) ss i w k has =
    let one = in_slots-put f ss i w v k has.0 in
    let more = in_slots-puts f vs (put_in i w v ss) i (w + 1) k (are_words-put ss i w v (w + 1) (length vs) has.1) in
    let e = ap (λ (xs : List ℕ). counted f (w + 1) xs k) (words_other ss i w v (w + 1) (length vs) (omega arith)) in
    omega arith

pub blanked-puts : (b : ℕ → Bool) (vs : List ℕ) (ss : List Slot) (i w : ℕ) → ((u : ℕ) → w ≤ u → u < w + length vs → b u ≡ true) → blanked_slots b (puts_in i w vs ss) ≡ blanked_slots b ss
blanked-puts b [] ss i w h = refl
blanked-puts b (v ∷ vs) ss i w h = blanked-puts b vs (put_in i w v ss) i (w + 1) (λ u le lt. h u (omega arith) (omega arith)) ∙ blanked-put b ss i w v (h w (omega arith) (omega arith))

pub since-puts : (t : ℕ) (vs : List ℕ) (ss : List Slot) (i w : ℕ) → AllSince t ss → AllSince t (puts_in i w vs ss)
since-puts t [] ss i w h = h
since-puts t (v ∷ vs) ss i w h = since-puts t vs (put_in i w v ss) i (w + 1) (since-put t ss i w v h)

pub counted_le : (f g : ℕ → Bool) (vs : List ℕ) (w k : ℕ) → ((u : ℕ) → f u ≡ true → g u ≡ true) → counted f w vs k ≤ counted g w vs k
counted_le f g [] w k h = omega arith
counted_le f g (v ∷ vs) w k h = go (f w) (g w) (h w) (counted_le f g vs (w + 1) k h)
  where
    go : (a b : Bool) → (a ≡ true → b ≡ true) → counted f (w + 1) vs k ≤ counted g (w + 1) vs k → counts a v k + counted f (w + 1) vs k ≤ counts b v k + counted g (w + 1) vs k
    go true true e le = omega arith
    go true false e le = absurd (clash (e refl))
      where
        clash : false ≡ true → ⊥
        clash x = cc
    go false true e le = omega arith
    go false false e le = omega arith
