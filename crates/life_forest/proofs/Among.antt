-- Which numbers stand at a word of some slot: of slots that are put together, cut, filled up, stamped and written.
use Rattle.std.proofs.Common.{◌≡◌, ℕ, zero, suc, ◌+◌, ◌-◌, ◌<◌, Bool, true, cond, List, [], ◌∷◌, ◌++◌, length, map, replicate, take, drop, refl, ap, ◌∙◌, arith, inl, inr, ◌⊎◌, ⊎_elim}
use Rattle.std.specs.Prelude.{◌&&◌, slice_get, slice_index, slice_set}
use Rattle.life_store.specs.Content.{Slot, blank_slot, resized_slots, stamped, word_in}
use Rattle.life_store.specs.Held.{filled_slots}
use Rattle.life_store.specs.Edits.{words_in}
use Rattle.life_store.specs.Parts.{Parts}
use Rattle.life_store.specs.Kinds.{Owner, is_owner, kind_in}
use Rattle.life_forest.specs.Owned.{hit, in_words, in_slots, times}
use Rattle.life_forest.specs.Values.{owned_of, owned_rows}
use Rattle.life_forest.proofs.ByParts.{owned_words}
use Rattle.life_forest.proofs.Counting.{one_same, times-append, times-words_list}
use Rattle.life_forest.proofs.Puts.{put_in, puts_in}

-- the word owns m in one of the slots
abbrev pub Among : List Slot → ℕ → ℕ → Type 0
Among [] u m = ⊥
Among (s ∷ ss) u m = (slice_index s.words u ≡ suc m) ⊎ Among ss u m

-- .. in one of the rows
abbrev pub InRows : List (List ℕ) → ℕ → ℕ → Type 0
InRows [] u m = ⊥
InRows (v ∷ vs) u m = (slice_index v u ≡ suc m) ⊎ InRows vs u m

-- .. or it is one of those written from a word on
abbrev pub Comes : ℕ → List ℕ → ℕ → ℕ → Type 0
Comes w [] u m = ⊥
Comes w (v ∷ vs) u m = ((u ≡ w) × (v ≡ suc m)) ⊎ Comes (w + 1) vs u m

pub to_among : (ss : List Slot) (i u m : ℕ) → word_in (slice_get ss i) u ≡ suc m → Among ss u m
to_among [] i u m e = absurd (omega (arith, e))
to_among (s ∷ ss) zero u m e = inl e
to_among (s ∷ ss) (suc i) u m e = inr (to_among ss i u m e)

pub from_among : (ss : List Slot) (u m : ℕ) → Among ss u m → (i : ℕ) × (word_in (slice_get ss i) u ≡ suc m)
from_among [] u m h = absurd h
from_among (s ∷ ss) u m (inl e) = (0, e)
from_among (s ∷ ss) u m (inr h) = let r = from_among ss u m h in (suc r.0, r.1)

among-append : (ss rr : List Slot) (u m : ℕ) → Among (ss ++ rr) u m → Among ss u m ⊎ Among rr u m
among-append [] rr u m h = inr h
among-append (s ∷ ss) rr u m (inl e) = inl (inl e)
among-append (s ∷ ss) rr u m (inr h) = ⊎_elim (λ a. inl (inr a)) (λ b. inr b) (among-append ss rr u m h)

pub among-take : (n : ℕ) (ss : List Slot) (u m : ℕ) → Among (take n ss) u m → Among ss u m
among-take zero ss u m h = absurd h
among-take (suc n) [] u m h = absurd h
among-take (suc n) (s ∷ ss) u m (inl e) = inl e
among-take (suc n) (s ∷ ss) u m (inr h) = inr (among-take n ss u m h)

pub among-drop : (n : ℕ) (ss : List Slot) (u m : ℕ) → Among (drop n ss) u m → Among ss u m
among-drop zero ss u m h = h
among-drop (suc n) [] u m h = absurd h
among-drop (suc n) (s ∷ ss) u m h = inr (among-drop n ss u m h)

among-stamped : (t : ℕ) (ss : List Slot) (u m : ℕ) → Among (map (stamped t) ss) u m → Among ss u m
among-stamped t [] u m h = absurd h
among-stamped t (s ∷ ss) u m (inl e) = inl e
among-stamped t (s ∷ ss) u m (inr h) = inr (among-stamped t ss u m h)

blank_word : (n u : ℕ) → slice_index (replicate n 0) u ≡ 0
blank_word zero u = refl
blank_word (suc n) zero = refl
blank_word (suc n) (suc u) = blank_word n u

among-blank : (w t n u m : ℕ) → Among (replicate n (blank_slot w t)) u m → ⊥
among-blank w t zero u m h = h
among-blank w t (suc n) u m (inl e) = let z = blank_word w u in omega (arith, e, z)
among-blank w t (suc n) u m (inr h) = among-blank w t n u m h

pub among-resized : (w t size since : ℕ) (ss : List Slot) (u m : ℕ) → Among (resized_slots w t size since ss) u m → Among ss u m
among-resized w t size since ss u m h =
    ⊎_elim
    (λ a. among-take since ss u m a)
    (λ b. ⊎_elim
    (λ d. among-drop since ss u m d)
    (λ e. absurd (among-blank w t (size - length ss) u m e))
    (among-append (drop since ss) (replicate (size - length ss) (blank_slot w t)) u m
    (among-take (size - since) (drop since ss ++ replicate (size - length ss) (blank_slot w t)) u m
    (among-stamped t (take (size - since) (drop since ss ++ replicate (size - length ss) (blank_slot w t))) u m b))))
    (among-append (take since ss) (map (stamped t) (take (size - since) (drop since ss ++ replicate (size - length ss) (blank_slot w t)))) u m h)

-- ---- words that are written

index_set : (xs : List ℕ) (w v u m : ℕ) → slice_index (slice_set xs w v) u ≡ suc m → (slice_index xs u ≡ suc m) ⊎ ((u ≡ w) × (v ≡ suc m))
index_set [] w v u m e = inl e
index_set (x ∷ xs) zero v zero m e = inr (refl, e)
index_set (x ∷ xs) zero v (suc u) m e = inl e
index_set (x ∷ xs) (suc w) v zero m e = inl e
index_set (x ∷ xs) (suc w) v (suc u) m e = ⊎_elim (λ h. inl h) (λ h. inr (ap suc h.0, h.1)) (index_set xs w v u m e)

among-put : (ss : List Slot) (i w v u m : ℕ) → Among (put_in i w v ss) u m → Among ss u m ⊎ ((u ≡ w) × (v ≡ suc m))
among-put [] i w v u m h = absurd h
among-put (s ∷ ss) zero w v u m (inl e) = ⊎_elim (λ a. inl (inl a)) (λ b. inr b) (index_set s.words w v u m e)
among-put (s ∷ ss) zero w v u m (inr h) = inl (inr h)
among-put (s ∷ ss) (suc i) w v u m (inl e) = inl (inl e)
among-put (s ∷ ss) (suc i) w v u m (inr h) = ⊎_elim (λ a. inl (inr a)) (λ b. inr b) (among-put ss i w v u m h)

pub among-puts : (vs : List ℕ) (ss : List Slot) (i w u m : ℕ) → Among (puts_in i w vs ss) u m → Among ss u m ⊎ Comes w vs u m
among-puts [] ss i w u m h = inl h
among-puts (v ∷ vs) ss i w u m h =
    ⊎_elim
    (λ a. ⊎_elim (λ x. inl x) (λ y. inr (inl y)) (among-put ss i w v u m a))
    (λ b. inr (inr b))
    (among-puts vs (put_in i w v ss) i (w + 1) u m h)

-- what comes stands at a word of the value
pub comes_from : (vs : List ℕ) (w u m : ℕ) → Comes w vs u m → (v : ℕ) × (u ≡ w + v) × (slice_index vs v ≡ suc m) × (v < length vs)
comes_from [] w u m h = absurd h
comes_from (x ∷ xs) w u m (inl h) = let a = h.0 in (0, omega arith, h.1, omega arith)
comes_from (x ∷ xs) w u m (inr h) = let r = comes_from xs (w + 1) u m h in let a = r.1 in let b = r.3 in (suc r.0, omega arith, r.2, omega arith)

pub among-filled : (ss : List Slot) (vs : List (List ℕ)) (u m : ℕ) → Among (filled_slots ss vs) u m → Among ss u m ⊎ InRows vs u m
among-filled [] vs u m h = absurd h
among-filled (s ∷ ss) [] u m h = inl h
among-filled (s ∷ ss) (v ∷ vs) u m (inl e) = inr (inl e)
among-filled (s ∷ ss) (v ∷ vs) u m (inr h) = ⊎_elim (λ a. inl (inr a)) (λ b. inr (inr b)) (among-filled ss vs u m h)

pub rows-append : (us vs : List (List ℕ)) (u m : ℕ) → InRows (us ++ vs) u m → InRows us u m ⊎ InRows vs u m
rows-append [] vs u m h = inr h
rows-append (x ∷ us) vs u m (inl e) = inl (inl e)
rows-append (x ∷ us) vs u m (inr h) = ⊎_elim (λ a. inl (inr a)) (λ b. inr b) (rows-append us vs u m h)

pub rows-slots : (ss : List Slot) (u m : ℕ) → InRows (map words_in ss) u m → Among ss u m
rows-slots [] u m h = absurd h
rows-slots (s ∷ ss) u m (inl e) = inl e
rows-slots (s ∷ ss) u m (inr h) = inr (rows-slots ss u m h)

-- ---- what stands there is counted

pub word_counted : (f : ℕ → Bool) (xs : List ℕ) (u m : ℕ) → slice_index xs u ≡ suc m → f u ≡ true → 0 < in_words f xs m
word_counted f [] u m e t = absurd (omega (arith, e))
word_counted f (x ∷ xs) zero m e t =
    let a = ap (λ (b : Bool). cond b (hit x m) 0) t in
    let h : hit x m ≡ 1 = ap (λ (y : ℕ). hit y m) e ∙ one_same m m refl in
    omega arith
word_counted f (x ∷ xs) (suc u) m e t = let h = word_counted (λ v. f (suc v)) xs u m e t in omega arith

pub slots_counted : (f : ℕ → Bool) (ss : List Slot) (u m : ℕ) → Among ss u m → f u ≡ true → 0 < in_slots f ss m
slots_counted f [] u m h t = absurd h
slots_counted f (s ∷ ss) u m (inl e) t = let a = word_counted f s.words u m e t in omega arith
slots_counted f (s ∷ ss) u m (inr h) t = let a = slots_counted f ss u m h t in omega arith

pub rows_counted : (p : Parts) (vs : List (List ℕ)) (u m : ℕ) → kind_in p u ≡ Owner → InRows vs u m → 0 < times (owned_rows p vs) m
rows_counted p [] u m k h = absurd h
rows_counted p (v ∷ vs) u m k (inl e) =
    let a = word_counted (λ x. is_owner (kind_in p x) && true) v u m e (ap (λ x. is_owner x && true) k) in
    let b = times-words_list (λ x. is_owner (kind_in p x) && true) v m in
    let c = ap (λ (xs : List ℕ). times xs m) (owned_words p v) in
    let d = times-append (owned_of p v) (owned_rows p vs) m in
    omega arith
rows_counted p (v ∷ vs) u m k (inr h) = let a = rows_counted p vs u m k h in let d = times-append (owned_of p v) (owned_rows p vs) m in omega arith
