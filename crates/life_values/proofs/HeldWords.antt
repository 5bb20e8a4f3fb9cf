-- What the words of a value own, one word after the other, is what its parts own.
use Rattle.std.proofs.Common.{◌≡◌, ℕ, zero, suc, ◌+◌, ◌≤◌, ◌<◌, List, [], ◌∷◌, ◌++◌, take, drop, Option, Some, None, refl, sym, ap, subst, ◌∙◌, arith, append_assoc}
use Rattle.std.proofs.lemmas.List.{append-nil, drop-drop, drop-take, take-take}
use Rattle.std.specs.Prelude.{slice_get, slice_index, slice_set}
use Rattle.life_store.specs.Content.{Slot, Object, with_word, word_in, word_at}
use Rattle.life_store.specs.Held.{owned_in, words_if}
use Rattle.life_store.specs.Parts.{Parts, Single, Raw, Iterates, Views, Text, Vector, Unique, Member, NoMember, width}
use Rattle.life_forest.specs.Values.{listed, owned_of}
use Rattle.life_forest.proofs.Puts.{put_in}
use Rattle.life_values.specs.Layouts.{flat, owner_words}
use Rattle.life_values.specs.Zeroed.{held}
use Rattle.life_values.proofs.Flat.{owner_words-append}
use Rattle.life_values.proofs.Owners.{with_word_is}

-- ---- the words rise, so none is looked at twice

abbrev Rises : ℕ → List ℕ → ℕ → Type 0
Rises a [] b = a ≤ b
Rises a (u ∷ us) b = (a ≤ u) × Rises (suc u) us b

rises_from : (a b c : ℕ) (us : List ℕ) → a ≤ b → Rises b us c → Rises a us c
rises_from a b c [] le r = omega (arith, le, r)
rises_from a b c (u ∷ us) le r = (let l = r.0 in omega (arith, le, l), r.1)

rises_on : (a b c : ℕ) (us vs : List ℕ) → Rises a us b → Rises b vs c → Rises a (us ++ vs) c
rises_on a b c [] vs r s = rises_from a b c vs r s
rises_on a b c (u ∷ us) vs r s = (r.0, rises_on (suc u) b c us vs r.1 s)

owners_rise : (p : Parts) (v b : ℕ) → b ≡ v + width p → Rises v (owner_words (flat v p)) b
owners_rise Single v b e = omega (arith, e)
owners_rise Raw v b e = omega (arith, e)
owners_rise Iterates v b e = omega (arith, e)
owners_rise Views v b e = omega (arith, e)
owners_rise (Text ty) v b e = (omega arith, omega (arith, e))
owners_rise (Vector ty element) v b e = (omega arith, omega (arith, e))
owners_rise (Unique ty target) v b e = (omega arith, omega (arith, e))
owners_rise (Member first others) v b e =
    subst (λ us. Rises v us b) (sym (owner_words-append (flat v first) (flat (v + width first) others)))
    (rises_on v (v + width first) b (owner_words (flat v first)) (owner_words (flat (v + width first) others)) (owners_rise first v (v + width first) refl) (owners_rise others (v + width first) b (omega (arith, e))))
owners_rise NoMember v b e = omega (arith, e)

-- ---- a word that is written leaves those behind it

index_other : (xs : List ℕ) (w v u : ℕ) → w < u → slice_index (slice_set xs w v) u ≡ slice_index xs u
index_other [] w v u lt = refl
index_other (x ∷ xs) zero v zero lt = absurd (omega arith)
index_other (x ∷ xs) zero v (suc u) lt = refl
index_other (x ∷ xs) (suc w) v zero lt = absurd (omega arith)
index_other (x ∷ xs) (suc w) v (suc u) lt = index_other xs w v u (omega arith)

slot_other : (ss : List Slot) (i w v u : ℕ) → w < u → word_in (slice_get (put_in i w v ss) i) u ≡ word_in (slice_get ss i) u
slot_other [] i w v u lt = refl
slot_other (s ∷ ss) zero w v u lt = index_other s.words w v u lt
slot_other (s ∷ ss) (suc i) w v u lt = slot_other ss i w v u lt

pub word_other : (o : Object) (i w v u : ℕ) → w < u → word_at (with_word i w v o) i u ≡ word_at o i u
word_other o i w v u lt = ap (λ (x : Object). word_at x i u) (with_word_is i w v o) ∙ slot_other o.slots i w v u lt

-- ---- what words own, where none is taken out

abbrev owned_by : (ℕ → ℕ) → List ℕ → List ℕ
owned_by f [] = []
owned_by f (u ∷ us) = listed (owned_in (f u)) ++ owned_by f us

by_alike : (f g : ℕ → ℕ) (a b : ℕ) (us : List ℕ) → Rises a us b → ((u : ℕ) → a ≤ u → f u ≡ g u) → owned_by f us ≡ owned_by g us
by_alike f g a b [] r same = refl
by_alike f g a b (u ∷ us) r same =
    (λ i. listed (owned_in (same u r.0 i)) ++ by_alike f g (suc u) b us r.1 (λ v le. same v (let l = r.0 in omega (arith, l, le))) i)

held_by : (i w a b : ℕ) (us : List ℕ) (o : Object) → Rises a us b → held i w us o ≡ owned_by (λ u. word_at o i (w + u)) us
held_by i w a b [] o r = refl
held_by i w a b (u ∷ us) o r =
    ap (λ xs. listed (owned_in (word_at o i (w + u))) ++ xs)
    (held_by i w (suc u) b us (with_word i (w + u) 0 o) r.1
    ∙ by_alike (λ v. word_at (with_word i (w + u) 0 o) i (w + v)) (λ v. word_at o i (w + v)) (suc u) b us r.1 (λ v le. word_other o i (w + u) 0 (w + v) (omega (arith, le))))

by-append : (f : ℕ → ℕ) (us vs : List ℕ) → owned_by f (us ++ vs) ≡ owned_by f us ++ owned_by f vs
by-append f [] vs = refl
by-append f (u ∷ us) vs = ap (λ xs. listed (owned_in (f u)) ++ xs) (by-append f us vs) ∙ sym (append_assoc (listed (owned_in (f u))) (owned_by f us) (owned_by f vs))

-- ---- .. by the parts

index_cut : (xs : List ℕ) (a : ℕ) → slice_index xs a ≡ slice_index (take 1 (drop a xs)) 0
index_cut [] zero = refl
index_cut [] (suc a) = refl
index_cut (x ∷ xs) zero = refl
index_cut (x ∷ xs) (suc a) = index_cut xs a

one_owner : (xs : List ℕ) (a : ℕ) → listed (owned_in (slice_index xs a)) ++ [] ≡ listed (owned_in (slice_index (take 1 (drop a xs)) 0))
one_owner xs a = append-nil (listed (owned_in (slice_index xs a))) ∙ ap (λ x. listed (owned_in x)) (index_cut xs a)

by_parts : (p : Parts) (xs : List ℕ) (w v : ℕ) → owned_by (λ u. slice_index xs (w + u)) (owner_words (flat v p)) ≡ owned_of p (take (width p) (drop (w + v) xs))
by_parts Single xs w v = refl
by_parts Raw xs w v = refl
by_parts Iterates xs w v = refl
by_parts Views xs w v = refl
by_parts (Text ty) xs w v = one_owner xs (w + v)
by_parts (Vector ty element) xs w v = one_owner xs (w + v)
by_parts (Unique ty target) xs w v = one_owner xs (w + v)
by_parts (Member first others) xs w v =
    let f : ℕ → ℕ = λ u. slice_index xs (w + u) in
    let z : w + (v + width first) ≡ w + v + width first = omega arith in
    ap (owned_by f) (owner_words-append (flat v first) (flat (v + width first) others))
    ∙ by-append f (owner_words (flat v first)) (owner_words (flat (v + width first) others))
    ∙ (λ i. (by_parts first xs w v ∙ ap (owned_of first) (sym (take-take (width first) (width first + width others) (drop (w + v) xs) (omega arith)))) i
    ++ (by_parts others xs w (v + width first) ∙ ap (owned_of others) (ap (λ k. take (width others) (drop k xs)) z ∙ ap (take (width others)) (sym (drop-drop (width first) (w + v) xs))
    ∙ sym (drop-take (width first) (width others) (drop (w + v) xs)))) i)
by_parts NoMember xs w v = refl

-- the words of a slot
slot_word : (s : Option Slot) (u : ℕ) → word_in s u ≡ slice_index (words_if s) u
slot_word None zero = refl
slot_word None (suc u) = refl
slot_word (Some s) u = refl

pub held_is : (p : Parts) (i w : ℕ) (o : Object) → held i w (owner_words (flat 0 p)) o ≡ owned_of p (take (width p) (drop w (words_if (slice_get o.slots i))))
held_is p i w o =
    let xs : List ℕ = words_if (slice_get o.slots i) in
    let z : w + 0 ≡ w = omega arith in
    held_by i w 0 (width p) (owner_words (flat 0 p)) o (owners_rise p 0 (width p) (omega arith))
    ∙ by_alike (λ u. word_at o i (w + u)) (λ u. slice_index (words_if (slice_get o.slots i)) (w + u)) 0 (width p) (owner_words (flat 0 p)) (owners_rise p 0 (width p) (omega arith)) (λ u le. slot_word (slice_get o.slots i) (w + u))
    ∙ by_parts p xs w 0
    ∙ ap (λ k. owned_of p (take (width p) (drop k xs))) z
