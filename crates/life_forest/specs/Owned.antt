-- What is owned, counted: how many words hold an owner of an object.
use Rattle.std.specs.Prelude.{ℕ, zero, suc, ◌+◌, Bool, true, cond, ◌&&◌, ◌||◌, nat_eq, List, [], ◌∷◌, ◌++◌, Option, Some, None}
use Rattle.life_store.specs.Cells.{at, sum_over}
use Rattle.life_store.specs.Content.{Slot, Object, Content}
use Rattle.life_forest.specs.Kinds.{Kinds}
use Rattle.life_store.specs.Kinds.{is_owner, is_value}

-- 1 at the number, and else 0
abbrev pub one : ℕ → ℕ → ℕ
one n k = cond (nat_eq n k) 1 0

-- how often the word owns
abbrev pub hit : ℕ → ℕ → ℕ
hit zero k = 0
hit (suc n) k = one n k

-- .. and the words that pass the test
abbrev pub in_words : (ℕ → Bool) → List ℕ → ℕ → ℕ
in_words f [] k = 0
in_words f (x ∷ xs) k = cond (f 0) (hit x k) 0 + in_words (λ u. f (suc u)) xs k

abbrev pub in_slots : (ℕ → Bool) → List Slot → ℕ → ℕ
in_slots f [] k = 0
in_slots f (s ∷ ss) k = in_words f s.words k + in_slots f ss k

abbrev pub every : ℕ → Bool
every u = true

-- ---- what is spared: all words but values and those that pass the test

abbrev pub blanked : (ℕ → Bool) → List ℕ → List ℕ
blanked f [] = []
blanked f (x ∷ xs) = cond (f 0) 0 x ∷ blanked (λ u. f (suc u)) xs

abbrev pub blanked_slots : (ℕ → Bool) → List Slot → List Slot
blanked_slots f [] = []
blanked_slots f (s ∷ ss) = record { words = blanked f s.words; stamp = s.stamp } ∷ blanked_slots f ss

-- ---- the same as lists

abbrev pub one_list : Bool → ℕ → List ℕ
one_list true (suc n) = n ∷ []
one_list _ _ = []

abbrev pub words_list : (ℕ → Bool) → List ℕ → List ℕ
words_list f [] = []
words_list f (x ∷ xs) = one_list (f 0) x ++ words_list (λ u. f (suc u)) xs

abbrev pub slots_list : (ℕ → Bool) → List Slot → List ℕ
slots_list f [] = []
slots_list f (s ∷ ss) = words_list f s.words ++ slots_list f ss

-- how often a number stands in a list
abbrev pub times : List ℕ → ℕ → ℕ
times [] k = 0
times (n ∷ ns) k = one n k + times ns k

abbrev pub alive_if : Option Object → ℕ
alive_if None = 0
alive_if (Some o) = 1

abbrev pub alive : Content → ℕ → ℕ
alive c k = alive_if (at c.objects k)

module _ (kind : Kinds) where
  -- how many owner words of an object that pass the test own k
  abbrev pub owns : (ℕ → Bool) → Object → ℕ → ℕ
  owns g o k = in_slots (λ u. is_owner (kind.word o.ty u) && g u) o.slots k

  abbrev pub owns_if : (ℕ → Bool) → Option Object → ℕ → ℕ
  owns_if g None k = 0
  owns_if g (Some o) k = owns g o k

  abbrev pub owns_at : Content → (ℕ → Bool) → ℕ → ℕ → ℕ
  owns_at c g n k = owns_if g (at c.objects n) k

  -- .. and of all objects
  abbrev pub holders : Content → ℕ → ℕ
  holders c k = sum_over (λ o. owns every o k) c.objects

  abbrev pub spared : (ℕ → Bool) → Object → Object
  spared g o = record o { slots = blanked_slots (λ u. is_value (kind.word o.ty u) || g u) o.slots }

  abbrev pub owned_list : Option Object → List ℕ
  owned_list None = []
  owned_list (Some o) = slots_list (λ u. is_owner (kind.word o.ty u) && every u) o.slots

  -- what objects own, each with its own words
  abbrev pub nexts : Content → List ℕ → List ℕ
  nexts c [] = []
  nexts c (n ∷ ns) = owned_list (at c.objects n) ++ nexts c ns

  -- objects and all beneath them, level by level, so many levels
  abbrev pub beneath : ℕ → Content → List ℕ → List ℕ
  beneath zero c ns = []
  beneath (suc f) c ns = ns ++ beneath f c (nexts c ns)
