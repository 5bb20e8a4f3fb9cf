-- What is in the hand nothing owns, and how often an object owns when a word is taken out.
use Rattle.std.proofs.Common.{◌≡◌, ℕ, zero, suc, ◌<◌, Bool, true, false, cond, List, [], ◌∷◌, length, Option, Some, None, refl, ap, subst, ◌∙◌, arith}
use Rattle.std.proofs.lemmas.List.{length-set}
use Rattle.std.specs.Prelude.{slice_get, option_map, ◌&&◌}
use Rattle.life_store.specs.Cells.{at}
use Rattle.life_store.specs.Content.{Slot, Object, Content, set_slot, with_word, word_in, written}
use Rattle.life_store.specs.Held.{owned_in}
use Rattle.life_forest.specs.Kinds.{Kinds}
use Rattle.life_store.specs.Kinds.{Kind, Plain, Owner, Pointing, is_owner}
use Rattle.life_forest.specs.Owned.{every, one, hit, in_words, in_slots, owns_if, times}
use Rattle.life_forest.specs.Forest.{IsForest}
use Rattle.life_forest.specs.Values.{listed, AllWide}
use Rattle.life_forest.proofs.Below.{owned_at_held}
use Rattle.life_forest.proofs.Counting.{one_same}
use Rattle.life_forest.proofs.Puts.{IsWord, put_in, word_of}
use Rattle.life_forest.proofs.Steps.{alive_le}
use Rattle.life_seen.specs.Kinds.{Kinds as Seen}
use Rattle.life_seen.specs.Owned.{owner_of, owner_at, owner_in, owner_if, IsUnowned}
use Rattle.life_values.specs.Ended.{AreAlike}

-- ---- what is owned is counted

pub hit_times : (v k : ℕ) → hit v k ≡ times (listed (owned_in v)) k
hit_times zero k = refl
hit_times (suc n) k = omega arith

hit_same : (k : Kind) (x n : ℕ) (b : Bool) → is_owner k ≡ b → owner_of k x ≡ suc n → 0 < cond b (hit x n) 0
hit_same Plain x n b e own = absurd (omega (arith, own))
hit_same (Pointing i) x n b e own = absurd (omega (arith, own))
hit_same Owner zero n b e own = absurd (omega (arith, own))
hit_same Owner (suc m) n b e own =
    let same : m ≡ n = omega (arith, own) in
    let s = one_same m n same in
    subst (λ t. 0 < cond t (one m n) 0) e (omega (arith, s))

and_every : (b : Bool) → b ≡ (b && true)
and_every true = refl
and_every false = refl

words_counted : (f : ℕ → Kind) (g : ℕ → Bool) → ((u : ℕ) → is_owner (f u) ≡ g u) → (ws : List ℕ) (u n : ℕ) → owner_at f ws u ≡ suc n → 0 < in_words g ws n
words_counted f g same [] u n own = absurd (omega (arith, own))
words_counted f g same (x ∷ xs) zero n own = let h = hit_same (f 0) x n (g 0) (same 0) own in omega (arith, h)
words_counted f g same (x ∷ xs) (suc u) n own = let h = words_counted (λ v. f (suc v)) (λ v. g (suc v)) (λ v. same (suc v)) xs u n own in omega (arith, h)

slots_counted : (f : ℕ → Kind) (g : ℕ → Bool) → ((u : ℕ) → is_owner (f u) ≡ g u) → (ss : List Slot) (i u n : ℕ) → owner_in f ss i u ≡ suc n → 0 < in_slots g ss n
slots_counted f g same [] i u n own = absurd (omega (arith, own))
slots_counted f g same (s ∷ ss) zero u n own = let h = words_counted f g same s.words u n own in omega (arith, h)
slots_counted f g same (s ∷ ss) (suc i) u n own = let h = slots_counted f g same ss i u n own in omega (arith, h)

module _ (kinds : Seen) (kind : Kinds) (alike : AreAlike kinds kind) where
  owner_counted : (o : Option Object) (i u n : ℕ) → owner_if kinds o i u ≡ suc n → 0 < owns_if kind every o n
  owner_counted None i u n own = absurd (omega (arith, own))
  owner_counted (Some o) i u n own =
      slots_counted (kinds o.ty) (λ v. is_owner (kind.word o.ty v) && every v) (λ v. alike o.ty v ∙ and_every (is_owner (kind.word o.ty v))) o.slots i u n own

  -- nothing owns what is in the hand
  pub unowned_in_hand : (hand : ℕ → ℕ) (c : Content) (n : ℕ) → IsForest kind hand c → 0 < hand n → IsUnowned kinds n c
  unowned_in_hand hand c n forest lt m i u own =
      let a = owner_counted (at c.objects m) i u n own in
      let b = owned_at_held kind c m n in
      let d = forest.held n in
      let e = alive_le kind c n in
      absurd (omega (arith, a, b, d, e, lt))

-- ---- a word is written

behind_first : (s : Slot) (rest : List Slot) (i : ℕ) (o : Option Slot) → set_slot (s ∷ rest) (suc i) o ≡ s ∷ set_slot rest i o
behind_first s rest i None = refl
behind_first s rest i (Some t) = refl

put_is : (ss : List Slot) (i w v : ℕ) → set_slot ss i (option_map (written w v) (slice_get ss i)) ≡ put_in i w v ss
put_is [] i w v = refl
put_is (s ∷ ss) zero w v = refl
put_is (s ∷ ss) (suc i) w v = behind_first s ss i (option_map (written w v) (slice_get ss i)) ∙ ap (λ (rest : List Slot). s ∷ rest) (put_is ss i w v)

pub with_word_is : (i w v : ℕ) (o : Object) → with_word i w v o ≡ record o { slots = put_in i w v o.slots }
with_word_is i w v o = ap (λ (ss : List Slot). record o { slots = ss }) (put_is o.slots i w v)

pub count_put : (ss : List Slot) (i w v : ℕ) → length (put_in i w v ss) ≡ length ss
count_put [] i w v = refl
count_put (s ∷ ss) zero w v = refl
count_put (s ∷ ss) (suc i) w v = ap suc (count_put ss i w v)

pub wide_put : (n : ℕ) (ss : List Slot) (i w v : ℕ) → AllWide n ss → AllWide n (put_in i w v ss)
wide_put n [] i w v h = h
wide_put n (s ∷ ss) zero w v h = (length-set s.words w v ∙ h.0, h.1)
wide_put n (s ∷ ss) (suc i) w v h = (h.0, wide_put n ss i w v h.1)

pub wide_word : (n : ℕ) (ss : List Slot) (i w : ℕ) → AllWide n ss → i < length ss → w < n → IsWord i w ss
wide_word n [] i w h lt lw = absurd (omega arith)
wide_word n (s ∷ ss) zero w h lt lw = let e = h.0 in omega (arith, e, lw)
wide_word n (s ∷ ss) (suc i) w h lt lw = wide_word n ss i w h.1 (omega arith) lw

-- the word as it is read
pub word_of_is : (ss : List Slot) (i w : ℕ) → word_of i w ss ≡ word_in (slice_get ss i) w
word_of_is [] i w = refl
word_of_is (s ∷ ss) zero w = refl
word_of_is (s ∷ ss) (suc i) w = word_of_is ss i w
