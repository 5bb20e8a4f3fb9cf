-- An object holds what it should behind a pointer that is written to one of its members.
use Rattle.std.proofs.Common.{◌≡◌, ℕ, zero, suc, ◌+◌, ◌≤◌, List, [], ◌∷◌, length, Option, Some, None, refl, sym, ap, ◌∙◌, arith}
use Rattle.std.proofs.lemmas.List.{length-set}
use Rattle.std.specs.Prelude.{drop, slice_get, slice_set, take}
use Rattle.life_store.specs.Cells.{at, at-set_same}
use Rattle.life_store.specs.Content.{Slot, Object, Content}
use Rattle.life_store.specs.Held.{pointer_in, pointer_words, slots_if, words_at, words_if, wrote}
use Rattle.life_store.specs.State.{Pointer, Null, Wild, To, Static}
use Rattle.life_forest.proofs.Puts.{puts_in, wrote_is}

-- ---- what is written is read back

text_back : (text : Option ℕ) (index count : ℕ) → pointer_in (pointer_words (Static (record { text = text; index = index; count = count }))) ≡ Static (record { text = text; index = index; count = count })
text_back None index count = refl
text_back (Some n) index count = refl

pub pointer_back : (p : Pointer) → pointer_in (pointer_words p) ≡ p
pointer_back Null = refl
pointer_back Wild = refl
pointer_back (To t) = refl
pointer_back (Static c) = text_back c.text c.index c.count

pub five_words : (p : Pointer) → length (pointer_words p) ≡ 5
five_words Null = refl
five_words Wild = refl
five_words (To t) = refl
five_words (Static c) = refl

abbrev pub sets : ℕ → List ℕ → List ℕ → List ℕ
sets w [] xs = xs
sets w (v ∷ vs) xs = sets (w + 1) vs (slice_set xs w v)

sets_behind : (w : ℕ) (vs : List ℕ) (x : ℕ) (xs : List ℕ) → sets (suc w) vs (x ∷ xs) ≡ x ∷ sets w vs xs
sets_behind w [] x xs = refl
sets_behind w (v ∷ vs) x xs = let s : suc w + 1 ≡ suc (w + 1) = omega arith in ap (λ u. sets u vs (x ∷ slice_set xs w v)) s ∙ sets_behind (w + 1) vs x (slice_set xs w v)

sets_back : (w : ℕ) (vs xs : List ℕ) → w + length vs ≤ length xs → take (length vs) (drop w (sets w vs xs)) ≡ vs
sets_back zero [] [] le = refl
sets_back zero [] (x ∷ xs) le = refl
sets_back zero (v ∷ vs) [] le = absurd (omega (arith, le))
sets_back zero (v ∷ vs) (x ∷ xs) le =
    let s : 0 + 1 ≡ suc 0 = omega arith in
    ap (λ (ys : List ℕ). take (suc (length vs)) ys) (ap (λ u. sets u vs (v ∷ xs)) s ∙ sets_behind 0 vs v xs)
    ∙ ap (λ (ys : List ℕ). v ∷ ys) (sets_back zero vs xs (omega (arith, le)))
sets_back (suc w) vs [] le = absurd (omega (arith, le))
sets_back (suc w) vs (x ∷ xs) le = ap (λ (ys : List ℕ). take (length vs) (drop (suc w) ys)) (sets_behind w vs x xs) ∙ sets_back w vs xs (omega (arith, le))

pub first_puts : (w : ℕ) (vs : List ℕ) (s : Slot) (ss : List Slot) → words_if (slice_get (puts_in 0 w vs (s ∷ ss)) 0) ≡ sets w vs s.words
first_puts w [] s ss = refl
first_puts w (v ∷ vs) s ss = first_puts (w + 1) vs (record { words = slice_set s.words w v; stamp = s.stamp }) ss

-- what is written to words of a slot stands there
pub written_back : (c : Content) (n w : ℕ) (vs : List ℕ) (o : Object) (s : Slot) → at c.objects n ≡ Some o → o.slots ≡ s ∷ [] → w + length vs ≤ length s.words → words_at (wrote n 0 w vs c) n 0 w (length vs) ≡ vs
written_back c n w vs o s there one le =
    ap (λ (d : Content). words_at d n 0 w (length vs)) (wrote_is c n 0 w vs o there)
    ∙ ap (λ (y : Option Object). take (length vs) (drop w (words_if (slice_get (slots_if y) 0)))) (at-set_same c.objects n n (record o { slots = puts_in 0 w vs o.slots }) refl)
    ∙ ap (λ (ss : List Slot). take (length vs) (drop w (words_if (slice_get (puts_in 0 w vs ss) 0)))) one
    ∙ ap (λ (ws : List ℕ). take (length vs) (drop w ws)) (first_puts w vs s [])
    ∙ sets_back w vs s.words le

-- ---- .. and a part of it

pub inside : (k u n : ℕ) (zs : List ℕ) → u + k ≤ n → take k (drop u (take n zs)) ≡ take k (drop u zs)
inside zero u n zs le = none (drop u (take n zs)) ∙ sym (none (drop u zs))
  where
    none : (xs : List ℕ) → take 0 xs ≡ []
    none [] = refl
    none (x ∷ xs) = refl
inside (suc k) u zero zs le = absurd (omega (arith, le))
inside (suc k) zero (suc n) [] le = refl
inside (suc k) zero (suc n) (z ∷ zs) le = ap (λ (ys : List ℕ). z ∷ ys) (inside k zero n zs (omega (arith, le)))
inside (suc k) (suc u) (suc n) [] le = refl
inside (suc k) (suc u) (suc n) (z ∷ zs) le = inside (suc k) u n zs (omega (arith, le))

pub drop_further : (w u : ℕ) (xs : List ℕ) → drop u (drop w xs) ≡ drop (w + u) xs
drop_further zero u xs = let s : 0 + u ≡ u = omega arith in sym (ap (λ v. drop v xs) s)
drop_further (suc w) u [] = let s : suc w + u ≡ suc (w + u) = omega arith in nothing u ∙ sym (ap (λ v. drop {A = ℕ} v []) s)
  where
    nothing : (k : ℕ) → drop {A = ℕ} k [] ≡ []
    nothing zero = refl
    nothing (suc k) = refl
drop_further (suc w) u (x ∷ xs) = let s : suc w + u ≡ suc (w + u) = omega arith in drop_further w u xs ∙ sym (ap (λ v. drop v (x ∷ xs)) s)

pub part_back : (w : ℕ) (vs xs : List ℕ) → w + length vs ≤ length xs → (u k : ℕ) → u + k ≤ length vs → take k (drop (w + u) (sets w vs xs)) ≡ take k (drop u vs)
part_back w vs xs fits u k le =
    ap (λ (ys : List ℕ). take k ys) (sym (drop_further w u (sets w vs xs)))
    ∙ sym (inside k u (length vs) (drop w (sets w vs xs)) le)
    ∙ ap (λ (ys : List ℕ). take k (drop u ys)) (sets_back w vs xs fits)

pub sets_length : (w : ℕ) (vs xs : List ℕ) → length (sets w vs xs) ≡ length xs
sets_length w [] xs = refl
sets_length w (v ∷ vs) xs = sets_length (w + 1) vs (slice_set xs w v) ∙ length-set xs w v

-- a pointer that is read where it begins
pub pointer_read : (p : Pointer) → pointer_in (take 5 (drop 0 (pointer_words p))) ≡ p
pointer_read Null = refl
pointer_read Wild = refl
pointer_read (To t) = refl
pointer_read (Static c) = text_back c.text c.index c.count
