-- Counts of owner words.
use Rattle.std.proofs.Common.{◌≡◌, ◌≢◌, ℕ, zero, suc, ◌+◌, ◌≤◌, ◌<◌, Bool, true, false, cond, List, [], ◌∷◌, ◌++◌, refl, sym, ap, arith, ⊎_elim}
use Rattle.std.proofs.lemmas.Bool.Decides.{eqb_tells}
use Rattle.life_store.specs.Content.{Slot}
use Rattle.life_store.proofs.MapLemmas.{one_or_apart}
use Rattle.life_forest.specs.Owned.{one, hit, in_words, in_slots, blanked, blanked_slots, one_list, words_list, slots_list, times}

pub true_false : true ≡ false → ⊥
true_false e = cc

pub one_same : (n k : ℕ) → n ≡ k → one n k ≡ 1
one_same n k e = ⊎_elim (λ h. ap (λ b. cond b 1 0) h.0) (λ h. absurd (h.1 e)) (eqb_tells n k)

pub one_apart : (n k : ℕ) → n ≢ k → one n k ≡ 0
one_apart n k ne = ⊎_elim (λ h. absurd (ne h.1)) (λ h. ap (λ b. cond b 1 0) h.0) (eqb_tells n k)

pub one_there : (n k : ℕ) → 0 < one n k → n ≡ k
one_there n k lt = one_or_apart n k (λ e. e) (λ ne. let z = one_apart n k ne in absurd (omega arith))

-- ---- filters

-- words that pass a stricter test are fewer
pub in_words_le : (f g : ℕ → Bool) (xs : List ℕ) (k : ℕ) → ((u : ℕ) → f u ≡ true → g u ≡ true) → in_words f xs k ≤ in_words g xs k
in_words_le f g [] k h = omega arith
in_words_le f g (x ∷ xs) k h = go (f 0) (g 0) (h 0) (in_words_le (λ u. f (suc u)) (λ u. g (suc u)) xs k (λ u. h (suc u)))
  where
    go : (a b : Bool) → (a ≡ true → b ≡ true) → in_words (λ u. f (suc u)) xs k ≤ in_words (λ u. g (suc u)) xs k
        → cond a (hit x k) 0 + in_words (λ u. f (suc u)) xs k ≤ cond b (hit x k) 0 + in_words (λ u. g (suc u)) xs k
    go true true e le = omega arith
    go true false e le = absurd (true_false (sym (e refl)))
    go false true e le = omega arith
    go false false e le = omega arith

pub in_slots_le : (f g : ℕ → Bool) (ss : List Slot) (k : ℕ) → ((u : ℕ) → f u ≡ true → g u ≡ true) → in_slots f ss k ≤ in_slots g ss k
in_slots_le f g [] k h = omega arith
in_slots_le f g (s ∷ ss) k h = let a = in_words_le f g s.words k h in let b = in_slots_le f g ss k h in omega arith

-- what is blanked out isn't counted
pub in_words-blanked : (f b : ℕ → Bool) (xs : List ℕ) (k : ℕ) → ((u : ℕ) → f u ≡ true → b u ≡ false) → in_words f (blanked b xs) k ≡ in_words f xs k
in_words-blanked f b [] k h = refl
in_words-blanked f b (x ∷ xs) k h = go (f 0) (b 0) (h 0) (in_words-blanked (λ u. f (suc u)) (λ u. b (suc u)) xs k (λ u. h (suc u)))
  where
    go : (p q : Bool) → (p ≡ true → q ≡ false) → in_words (λ u. f (suc u)) (blanked (λ u. b (suc u)) xs) k ≡ in_words (λ u. f (suc u)) xs k
        → cond p (hit (cond q 0 x) k) 0 + in_words (λ u. f (suc u)) (blanked (λ u. b (suc u)) xs) k ≡ cond p (hit x k) 0 + in_words (λ u. f (suc u)) xs k
    go true true e same = absurd (true_false (e refl))
    go true false e same = ap (◌+◌ (hit x k)) same
    go false q e same = ap (◌+◌ 0) same

pub in_slots-blanked : (f b : ℕ → Bool) (ss : List Slot) (k : ℕ) → ((u : ℕ) → f u ≡ true → b u ≡ false) → in_slots f (blanked_slots b ss) k ≡ in_slots f ss k
in_slots-blanked f b [] k h = refl
in_slots-blanked f b (s ∷ ss) k h = let p = in_words-blanked f b s.words k h in let q = in_slots-blanked f b ss k h in omega arith

-- ---- lists

pub times-append : (xs ys : List ℕ) (k : ℕ) → times (xs ++ ys) k ≡ times xs k + times ys k
times-append [] ys k = omega arith
times-append (x ∷ xs) ys k = let h = times-append xs ys k in omega arith

times-one_list : (b : Bool) (x k : ℕ) → times (one_list b x) k ≡ cond b (hit x k) 0
times-one_list true zero k = refl
times-one_list true (suc n) k = omega arith
times-one_list false zero k = refl
times-one_list false (suc n) k = refl

pub times-words_list : (f : ℕ → Bool) (xs : List ℕ) (k : ℕ) → times (words_list f xs) k ≡ in_words f xs k
times-words_list f [] k = refl
times-words_list f (x ∷ xs) k =
    let a = times-append (one_list (f 0) x) (words_list (λ u. f (suc u)) xs) k in
    let b = times-one_list (f 0) x k in
    let h = times-words_list (λ u. f (suc u)) xs k in
    omega arith

pub times-slots_list : (f : ℕ → Bool) (ss : List Slot) (k : ℕ) → times (slots_list f ss) k ≡ in_slots f ss k
times-slots_list f [] k = refl
times-slots_list f (s ∷ ss) k =
    let a = times-append (words_list f s.words) (slots_list f ss) k in
    let b = times-words_list f s.words k in
    let h = times-slots_list f ss k in
    omega arith

-- ---- where no word passes the test

in_words_none : (f : ℕ → Bool) (xs : List ℕ) (k : ℕ) → ((u : ℕ) → f u ≡ false) → in_words f xs k ≡ 0
in_words_none f [] k none = refl
in_words_none f (x ∷ xs) k none =
    let h = in_words_none (λ u. f (suc u)) xs k (λ u. none (suc u)) in
    let e : cond (f 0) (hit x k) 0 ≡ 0 = ap (λ (b : Bool). cond b (hit x k) 0) (none 0) in
    omega arith

pub in_slots_none : (f : ℕ → Bool) (ss : List Slot) (k : ℕ) → ((u : ℕ) → f u ≡ false) → in_slots f ss k ≡ 0
in_slots_none f [] k none = refl
in_slots_none f (s ∷ ss) k none = let a = in_words_none f s.words k none in let b = in_slots_none f ss k none in omega arith
