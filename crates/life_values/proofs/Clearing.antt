-- Words that are 0 own nothing, and stay 0 where another is taken out.
use Rattle.std.proofs.Common.{◌≡◌, ℕ, zero, suc, ◌<◌, Bool, true, false, cond, List, [], ◌∷◌, length, refl, ap, ◌∙◌, arith}
use Rattle.std.specs.Prelude.{slice_get, slice_index, slice_set, ◌&&◌}
use Rattle.life_store.specs.Content.{Slot, Object, word_in, word_at, with_word}
use Rattle.life_forest.specs.Kinds.{Kinds}
use Rattle.life_store.specs.Kinds.{is_owner}
use Rattle.life_forest.specs.Owned.{every, hit, in_words, in_slots, owns}
use Rattle.life_forest.proofs.Puts.{put_in}
use Rattle.life_values.proofs.Owners.{with_word_is}

-- ---- no word owns

no_hit : (b : Bool) (x k : ℕ) → (b ≡ true → x ≡ 0) → cond b (hit x k) 0 ≡ 0
no_hit true x k z = ap (λ y. hit y k) (z refl)
no_hit false x k z = refl

words_own_none : (g : ℕ → Bool) (ws : List ℕ) (k : ℕ) → ((u : ℕ) → g u ≡ true → slice_index ws u ≡ 0) → in_words g ws k ≡ 0
words_own_none g [] k z = refl
words_own_none g (x ∷ xs) k z =
    let a = no_hit (g 0) x k (z 0) in
    let b = words_own_none (λ u. g (suc u)) xs k (λ u. z (suc u)) in
    omega (arith, a, b)

slots_own_none : (g : ℕ → Bool) (ss : List Slot) (k : ℕ) → ((i u : ℕ) → g u ≡ true → word_in (slice_get ss i) u ≡ 0) → in_slots g ss k ≡ 0
slots_own_none g [] k z = refl
slots_own_none g (s ∷ ss) k z =
    let a = words_own_none g s.words k (z 0) in
    let b = slots_own_none g ss k (λ i. z (suc i)) in
    omega (arith, a, b)

and_true : (b : Bool) → (b && true) ≡ true → b ≡ true
and_true true e = refl
and_true false e = e

pub owns_none : (kind : Kinds) (o : Object) → ((i u : ℕ) → is_owner (kind.word o.ty u) ≡ true → word_at o i u ≡ 0) → (k : ℕ) → owns kind every o k ≡ 0
owns_none kind o z k = slots_own_none (λ u. is_owner (kind.word o.ty u) && every u) o.slots k (λ i u e. z i u (and_true (is_owner (kind.word o.ty u)) e))

-- ---- a word is taken out

index_zero : (ws : List ℕ) (w u : ℕ) → slice_index ws u ≡ 0 → slice_index (slice_set ws w 0) u ≡ 0
index_zero [] w u z = z
index_zero (x ∷ xs) zero zero z = refl
index_zero (x ∷ xs) zero (suc u) z = z
index_zero (x ∷ xs) (suc w) zero z = z
index_zero (x ∷ xs) (suc w) (suc u) z = index_zero xs w u z

index_here : (ws : List ℕ) (w : ℕ) → slice_index (slice_set ws w 0) w ≡ 0
index_here [] w = refl
index_here (x ∷ xs) zero = refl
index_here (x ∷ xs) (suc w) = index_here xs w

slot_zero : (ss : List Slot) (i w j u : ℕ) → word_in (slice_get ss j) u ≡ 0 → word_in (slice_get (put_in i w 0 ss) j) u ≡ 0
slot_zero [] i w j u z = z
slot_zero (s ∷ ss) zero w zero u z = index_zero s.words w u z
slot_zero (s ∷ ss) zero w (suc j) u z = z
slot_zero (s ∷ ss) (suc i) w zero u z = z
slot_zero (s ∷ ss) (suc i) w (suc j) u z = slot_zero ss i w j u z

slot_here : (ss : List Slot) (i w : ℕ) → word_in (slice_get (put_in i w 0 ss) i) w ≡ 0
slot_here [] i w = refl
slot_here (s ∷ ss) zero w = index_here s.words w
slot_here (s ∷ ss) (suc i) w = slot_here ss i w

pub stays_zero : (o : Object) (i w j u : ℕ) → word_at o j u ≡ 0 → word_at (with_word i w 0 o) j u ≡ 0
stays_zero o i w j u z = ap (λ (x : Object). word_at x j u) (with_word_is i w 0 o) ∙ slot_zero o.slots i w j u z

pub zero_here : (o : Object) (i w : ℕ) → word_at (with_word i w 0 o) i w ≡ 0
zero_here o i w = ap (λ (x : Object). word_at x i w) (with_word_is i w 0 o) ∙ slot_here o.slots i w

-- a slot that isn't there has no words
pub past_slots : (ss : List Slot) (i u : ℕ) → length ss < suc i → word_in (slice_get ss i) u ≡ 0
past_slots [] i u lt = refl
past_slots (s ∷ ss) zero u lt = absurd (omega arith)
past_slots (s ∷ ss) (suc i) u lt = past_slots ss i u (omega arith)
