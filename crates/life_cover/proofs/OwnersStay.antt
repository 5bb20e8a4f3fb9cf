-- An owner has what it had where nothing of it is touched, and what was written to it.
use Rattle.std.proofs.Common.{◌≡◌, ℕ, zero, suc, ◌<◌, false, List, [], ◌∷◌, length, Option, Some, None, refl, sym, ap, ◌∙◌, arith}
use Rattle.std.specs.Prelude.{drop, option_map, slice_get, slice_index, slice_set, take}
use Rattle.life_store.specs.Cells.{at, at-set_same}
use Rattle.life_store.specs.Content.{Slot, Object, Content, set_slot, with_word, word_at, word_in, written}
use Rattle.life_store.specs.Edits.{owned_at}
use Rattle.life_store.specs.Held.{owned_in, owner_word, slots_if, words_if, wrote, wrote_if}
use Rattle.life_store.specs.Kinds.{is_value}
use Rattle.life_store.specs.Places.{wrote_spot}
use Rattle.life_store.proofs.CellLemmas.{none_some}
use Rattle.life_forest.specs.Forest.{Beneath, Foot, Touches}
use Rattle.life_forest.specs.Kinds.{Kinds}
use Rattle.life_cover.specs.Uniques.{had_at}
use Rattle.life_cover.proofs.Beside.{kept_object}
use Rattle.life_cover.proofs.OwnerElements.{first_of, word_there}

pub owned_is : (c : Content) (n i w : ℕ) (o : Object) → at c.objects n ≡ Some o → owned_at c (record { object = n; index = i; word = w }) ≡ owned_in (word_at o i w)
owned_is c n i w o there =
    ap (λ (x : Option Object). owned_in (slice_index (take 1 (drop w (words_if (slice_get (slots_if x) i)))) 0)) there
    ∙ ap owned_in (first_of (words_if (slice_get o.slots i)) w ∙ word_there o.slots i w)

-- an owner that isn't beneath the foot, and not in it
pub owner_kept : (kind : Kinds) (t : Foot) (c d : Content) (n i w : ℕ) (o : Object) → Touches kind t c d → n < c.births → (Beneath kind c t n → ⊥) → at c.objects n ≡ Some o → is_value (kind.word o.ty w) ≡ false → t.part n w ≡ false
    → owned_at d (record { object = n; index = i; word = w }) ≡ owned_at c (record { object = n; index = i; word = w })
owner_kept kind t c d n i w o touch born apart there owner free =
    let k = kept_object kind t c d n o touch born apart there in
    owned_is d n i w k.object k.there ∙ ap owned_in (k.words i w owner free) ∙ sym (owned_is c n i w o there)

-- ---- what was written

pub read_word : (ws : List ℕ) (w v : ℕ) → w < length ws → slice_index (slice_set ws w v) w ≡ v
read_word [] w v lt = absurd (omega (arith, lt))
read_word (x ∷ xs) zero v lt = refl
read_word (x ∷ xs) (suc w) v lt = read_word xs w v (omega (arith, lt))

read_slot : (ss : List Slot) (i w v : ℕ) (s : Slot) → slice_get ss i ≡ Some s → w < length s.words → word_in (slice_get (set_slot ss i (option_map (written w v) (Some s))) i) w ≡ v
read_slot [] i w v s e lt = absurd (none_some e)
read_slot (x ∷ xs) zero w v s e lt = read_word s.words w v lt
read_slot (x ∷ xs) (suc i) w v s e lt = read_slot xs i w v s e lt

-- the owner has what it was given
pub word_written : (c : Content) (n i w v : ℕ) (o : Object) (s : Slot) → at c.objects n ≡ Some o → slice_get o.slots i ≡ Some s → w < length s.words
    → owned_at (wrote_spot (record { object = n; index = i; word = w }) (v ∷ []) c) (record { object = n; index = i; word = w }) ≡ owned_in v
word_written c n i w v o s there has lt =
    ap (λ (x : Option Object). owned_at (wrote_if x n i w (v ∷ []) c) (record { object = n; index = i; word = w })) there
    ∙ owned_is (wrote_if (Some o) n i w (v ∷ []) c) n i w (with_word i w v o) (at-set_same c.objects n n (with_word i w v o) refl)
    ∙ ap (λ (x : Option Slot). owned_in (word_in (slice_get (set_slot o.slots i (option_map (written w v) x)) i) w)) has
    ∙ ap owned_in (read_slot o.slots i w v s has lt)

pub owner_written : (c : Content) (n i w m : ℕ) (o : Object) (s : Slot) → at c.objects n ≡ Some o → slice_get o.slots i ≡ Some s → w < length s.words
    → owned_at (wrote_spot (record { object = n; index = i; word = w }) (owner_word (Some m) ∷ []) c) (record { object = n; index = i; word = w }) ≡ Some m
owner_written c n i w m o s there has lt = word_written c n i w (suc m) o s there has lt

-- ---- nothing that is written owns nothing

zero_set : (ws : List ℕ) (w : ℕ) → slice_index (slice_set ws w 0) w ≡ 0
zero_set [] zero = refl
zero_set [] (suc w) = refl
zero_set (x ∷ xs) zero = refl
zero_set (x ∷ xs) (suc w) = zero_set xs w

zero_slot : (ss : List Slot) (w : ℕ) → word_in (slice_get (set_slot ss 0 (option_map (written w 0) (slice_get ss 0))) 0) w ≡ 0
zero_slot [] w = refl
zero_slot (s ∷ ss) w = zero_set s.words w

pub null_written : (n w : ℕ) (c : Content) → had_at (wrote n 0 w (owner_word None ∷ []) c) n w ≡ None
null_written n w c = go (at c.objects n) refl
  where
    nothing : (u : ℕ) → owned_in (slice_index (take 1 (drop u [])) 0) ≡ None
    nothing zero = refl
    nothing (suc u) = refl

    go : (o : Option Object) → at c.objects n ≡ o → had_at (wrote_if o n 0 w (owner_word None ∷ []) c) n w ≡ None
    go None e = ap (λ (x : Option Object). owned_in (slice_index (take 1 (drop w (words_if (slice_get (slots_if x) 0)))) 0)) e ∙ nothing w
    go (Some o) e = owned_is (wrote_if (Some o) n 0 w (owner_word None ∷ []) c) n 0 w (with_word 0 w 0 o) (at-set_same c.objects n n (with_word 0 w 0 o) refl) ∙ ap owned_in (zero_slot o.slots w)
