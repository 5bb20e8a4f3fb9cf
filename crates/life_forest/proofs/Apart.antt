-- Feet that don't overlap have nothing in common, and what one touches leaves the other as it was.
use Rattle.std.proofs.Common.{◌≡◌, ℕ, suc, ◌+◌, ◌≤◌, ◌<◌, Bool, true, false, cond, List, [], ◌∷◌, Option, Some, None, refl, sym, ap, subst, ◌∙◌, arith}
use Rattle.std.specs.Prelude.{◌&&◌}
use Rattle.life_store.specs.Cells.{at, at-unset_other}
use Rattle.life_store.specs.Content.{Slot, Object, Content, is_valid_in, without}
use Rattle.life_store.proofs.MapLemmas.{one_or_apart}
use Rattle.life_forest.specs.Kinds.{Kinds}
use Rattle.life_store.specs.Kinds.{is_owner}
use Rattle.life_forest.specs.Owned.{hit, in_words, in_slots, every, owns_if, owns_at, holders}
use Rattle.life_forest.specs.Forest.{IsForest, Foot, Beneath, whole, part, under, Touches}
use Rattle.life_forest.proofs.Counting.{true_false}
use Rattle.life_forest.proofs.Sparing.{owns-spared}
use Rattle.life_forest.proofs.Steps.{stands_on, holders_without, owner_born, alive_le, own_all}
use Rattle.life_forest.proofs.Below.{owned_at_held, lives}

-- a word that is counted passes the test
some_word : (f : ℕ → Bool) (xs : List ℕ) (k : ℕ) → 0 < in_words f xs k → (w : ℕ) × (f w ≡ true)
some_word f [] k lt = absurd (omega arith)
some_word f (x ∷ xs) k lt = go (f 0) refl lt (some_word (λ u. f (suc u)) xs k)
  where
    go : (b : Bool) → f 0 ≡ b → 0 < cond b (hit x k) 0 + in_words (λ u. f (suc u)) xs k → (0 < in_words (λ u. f (suc u)) xs k → (w : ℕ) × (f (suc w) ≡ true)) → (w : ℕ) × (f w ≡ true)
    go true e h rest = (0, e)
    go false e h rest = let r = rest (omega arith) in (suc r.0, r.1)

some_slot : (f : ℕ → Bool) (ss : List Slot) (k : ℕ) → 0 < in_slots f ss k → (w : ℕ) × (f w ≡ true)
some_slot f [] k lt = absurd (omega arith)
some_slot f (s ∷ ss) k lt = one_or_apart (in_words f s.words k) 0 (λ z. some_slot f ss k (omega arith)) (λ nz. some_word f s.words k (omega arith))

-- tests that never word passes both
words_apart : (f g h : ℕ → Bool) (xs : List ℕ) (k : ℕ) → ((u : ℕ) → f u ≡ true → g u ≡ true → ⊥) → ((u : ℕ) → f u ≡ true → h u ≡ true) → ((u : ℕ) → g u ≡ true → h u ≡ true)
    → in_words f xs k + in_words g xs k ≤ in_words h xs k
words_apart f g h [] k never a b = omega arith
words_apart f g h (x ∷ xs) k never a b =
    go (f 0) (g 0) (h 0) (never 0) (a 0) (b 0) (words_apart (λ u. f (suc u)) (λ u. g (suc u)) (λ u. h (suc u)) xs k (λ u. never (suc u)) (λ u. a (suc u)) (λ u. b (suc u)))
  where
    go : (p q r : Bool) → (p ≡ true → q ≡ true → ⊥) → (p ≡ true → r ≡ true) → (q ≡ true → r ≡ true)
        → in_words (λ u. f (suc u)) xs k + in_words (λ u. g (suc u)) xs k ≤ in_words (λ u. h (suc u)) xs k
        → (cond p (hit x k) 0 + in_words (λ u. f (suc u)) xs k) + (cond q (hit x k) 0 + in_words (λ u. g (suc u)) xs k) ≤ cond r (hit x k) 0 + in_words (λ u. h (suc u)) xs k
    go true true r never a b le = absurd (never refl refl)
    go true false true never a b le = omega arith
    go true false false never a b le = absurd (true_false (sym (a refl)))
    go false true true never a b le = omega arith
    go false true false never a b le = absurd (true_false (sym (b refl)))
    go false false true never a b le = omega arith
    go false false false never a b le = omega arith

slots_apart : (f g h : ℕ → Bool) (ss : List Slot) (k : ℕ) → ((u : ℕ) → f u ≡ true → g u ≡ true → ⊥) → ((u : ℕ) → f u ≡ true → h u ≡ true) → ((u : ℕ) → g u ≡ true → h u ≡ true)
    → in_slots f ss k + in_slots g ss k ≤ in_slots h ss k
slots_apart f g h [] k never a b = omega arith
slots_apart f g h (s ∷ ss) k never a b = let p = words_apart f g h s.words k never a b in let q = slots_apart f g h ss k never a b in omega arith

and_right : (a b : Bool) → (a && b) ≡ true → b ≡ true
and_right true b e = e
and_right false b e = absurd (true_false (sym e))

and_left : (a b : Bool) → (a && b) ≡ true → (a && true) ≡ true
and_left true b e = refl
and_left false b e = e

module _ (kind : Kinds) where
  some_owner : (g : ℕ → Bool) (o : Option Object) (k : ℕ) → 0 < owns_if kind g o k → (w : ℕ) × (g w ≡ true)
  some_owner g None k lt = absurd (omega arith)
  some_owner g (Some o) k lt = let r = some_slot (λ u. is_owner (kind.word o.ty u) && g u) o.slots k lt in (r.0, and_right (is_owner (kind.word o.ty r.0)) (g r.0) r.1)

  owners_apart : (f g : ℕ → Bool) (o : Option Object) (k : ℕ) → ((u : ℕ) → f u ≡ true → g u ≡ true → ⊥) → owns_if kind f o k + owns_if kind g o k ≤ owns_if kind every o k
  owners_apart f g None k never = omega arith
  owners_apart f g (Some o) k never =
      slots_apart (λ u. is_owner (kind.word o.ty u) && f u) (λ u. is_owner (kind.word o.ty u) && g u) (λ u. is_owner (kind.word o.ty u) && every u) o.slots k
      (λ u a b. never u (and_right (is_owner (kind.word o.ty u)) (f u) a) (and_right (is_owner (kind.word o.ty u)) (g u) b))
      (λ u a. and_left (is_owner (kind.word o.ty u)) (f u) a)
      (λ u b. and_left (is_owner (kind.word o.ty u)) (g u) b)

  -- two objects that own one are one
  pub one_owner : (hand : ℕ → ℕ) (c : Content) (m n k : ℕ) → IsForest kind hand c → 0 < owns_at kind c every m k → 0 < owns_at kind c every n k → m ≡ n
  one_owner hand c m n k forest a b = one_or_apart m n
      (λ e. e)
      (λ ne. let s = holders_without kind c m k in
      let l = owned_at_held kind (without m c) n k in
      let e : owns_at kind (without m c) every n k ≡ owns_at kind c every n k = ap (λ (o : Option Object). owns_if kind every o k) (at-unset_other c.objects m n ne) in
      let h = forest.held k in
      let one = alive_le kind c k in
      absurd (omega arith))

  -- neither holds of what the other touches
  pub record Apart (c : Content) (t u : Foot) : Type 0 where
    pub wholes : (n : ℕ) → t.whole n ≡ true → Beneath kind c u n → ⊥
    pub others : (n : ℕ) → u.whole n ≡ true → Beneath kind c t n → ⊥
    pub parts : (m w : ℕ) → t.part m w ≡ true → u.part m w ≡ true → ⊥
    pub holder : (m w : ℕ) → t.part m w ≡ true → Beneath kind c u m → ⊥
    pub other_holder : (m w : ℕ) → u.part m w ≡ true → Beneath kind c t m → ⊥

  module _ (hand : ℕ → ℕ) (c : Content) (forest : IsForest kind hand c) (t u : Foot) (ap_art : Apart c t u) where
    every_own : (g : ℕ → Bool) (m k : ℕ) → 0 < owns_at kind c g m k → 0 < owns_at kind c every m k
    every_own g m k own = own_all kind c g m k own

    pub apart : (k : ℕ) → Beneath kind c t k → Beneath kind c u k → ⊥
    apart k (whole _ e) b = ap_art.wholes k e b
    apart k (part m _ own) (whole _ e) = ap_art.others k e (part m k own)
    apart k (part m _ own) (part n _ other) =
        let s = one_owner hand c m n k forest (every_own (t.part m) m k own) (every_own (u.part n) n k other) in
        let same : 0 < owns_at kind c (u.part m) m k = subst (λ j. 0 < owns_at kind c (u.part j) j k) (sym s) other in
        let l = owners_apart (t.part m) (u.part m) (at c.objects m) k (ap_art.parts m) in
        let h = forest.held k in
        let o = owned_at_held kind c m k in
        let one = alive_le kind c k in
        absurd (omega arith)
    apart k (part m _ own) (under n _ b other) =
        let s = one_owner hand c m n k forest (every_own (t.part m) m k own) other in
        let w = some_owner (t.part m) (at c.objects m) k own in
        ap_art.holder m w.0 w.1 (subst (Beneath kind c u) (sym s) b)
    apart k (under m _ a own) (whole _ e) = ap_art.others k e (under m k a own)
    apart k (under m _ a own) (part n _ other) =
        let s = one_owner hand c m n k forest own (every_own (u.part n) n k other) in
        let w = some_owner (u.part n) (at c.objects n) k other in
        ap_art.other_holder n w.0 w.1 (subst (Beneath kind c t) s a)
    apart k (under m _ a own) (under n _ b other) =
        let s = one_owner hand c m n k forest own other in
        apart m a (subst (Beneath kind c u) (sym s) b)

    -- what is touched leaves what is beneath the other foot
    module _ (c' : Content) (touch : Touches kind t c c') (born : (n : ℕ) → u.whole n ≡ true → n < c.births) where
      not_true : (b : Bool) → (b ≡ true → ⊥) → b ≡ false
      not_true true h = absurd (h refl)
      not_true false h = refl

      part_same : (m k : ℕ) → m < c.births → (w : ℕ) → u.part m w ≡ true → owns_at kind c' (u.part m) m k ≡ owns_at kind c (u.part m) m k
      part_same m k lt w in_u =
          let never : (v : ℕ) → u.part m v ≡ true → t.part m v ≡ false = λ v e. not_true (t.part m v) (λ h. ap_art.parts m v h e) in
          sym (owns-spared kind (u.part m) (t.part m) (at c'.objects m) k never)
          ∙ ap (λ (o : Option Object). owns_if kind (u.part m) o k) (touch.kept m lt (λ b. ap_art.other_holder m w in_u b))
          ∙ owns-spared kind (u.part m) (t.part m) (at c.objects m) k never

      under_same : (m k : ℕ) → m < c.births → Beneath kind c u m → owns_at kind c' every m k ≡ owns_at kind c every m k
      under_same m k lt b =
          let never : (v : ℕ) → every v ≡ true → t.part m v ≡ false = λ v e. not_true (t.part m v) (λ h. ap_art.holder m v h b) in
          sym (owns-spared kind every (t.part m) (at c'.objects m) k never)
          ∙ ap (λ (o : Option Object). owns_if kind every o k) (touch.kept m lt (λ a. apart m a b))
          ∙ owns-spared kind every (t.part m) (at c.objects m) k never

      pub beneath_stays : (k : ℕ) → Beneath kind c u k → Beneath kind c' u k
      beneath_stays k (whole _ e) = whole k e
      beneath_stays k (part m _ own) =
          let w = some_owner (u.part m) (at c.objects m) k own in
          let e = part_same m k (owner_born kind hand c (u.part m) m k forest own) w.0 w.1 in
          part m k (omega arith)
      beneath_stays k (under m _ b own) =
          let e = under_same m k (owner_born kind hand c every m k forest own) b in
          under m k (beneath_stays m b) (omega arith)

      -- .. and brings nothing there
      pub beneath_was : (holders : (m w : ℕ) → u.part m w ≡ true → m < c.births) (k : ℕ) → Beneath kind c' u k → Beneath kind c u k × (k < c.births)
      beneath_was holders k (whole _ e) = (whole k e, born k e)
      beneath_was holders k (part m _ own) =
          let w = some_owner (u.part m) (at c'.objects m) k own in
          let e = part_same m k (holders m w.0 w.1) w.0 w.1 in
          let was : 0 < owns_at kind c (u.part m) m k = omega arith in
          (part m k was, owned_born (u.part m) m k was)
        where
          owned_born : (g : ℕ → Bool) (m k : ℕ) → 0 < owns_at kind c g m k → k < c.births
          owned_born g m k own =
              let all = every_own g m k own in
              let l = owned_at_held kind c m k in
              let h = forest.held k in
              let q = lives kind c k (omega arith) in
              forest.births k q.0 q.1
      beneath_was holders k (under m _ b own) =
          let r = beneath_was holders m b in
          let e = under_same m k r.1 r.0 in
          let was : 0 < owns_at kind c every m k = omega arith in
          let l = owned_at_held kind c m k in
          let h = forest.held k in
          let q = lives kind c k (omega arith) in
          (under m k r.0 was, forest.births k q.0 q.1)

      -- a pointer to what is beneath the other foot stays valid, and what it points to stays there
      pub valid_apart : (n i count moment : ℕ) → Beneath kind c u n → is_valid_in i count moment (at c.objects n) ≡ true → (is_valid_in i count moment (at c'.objects n) ≡ true) × Beneath kind c' u n
      valid_apart n i count moment b valid =
          (stands_on kind t c c' n i count moment touch (valid_born (at c.objects n) refl valid) (λ a. apart n a b) ∙ valid, beneath_stays n b)
        where
          valid_born : (o : Option Object) → at c.objects n ≡ o → is_valid_in i count moment o ≡ true → n < c.births
          valid_born None e h = absurd (true_false (sym h))
          valid_born (Some o) e h = forest.births n o e
