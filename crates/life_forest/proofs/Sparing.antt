-- What is spared: nothing of it is lost by blanking out the rest.
use Rattle.std.proofs.Common.{◌≡◌, ℕ, zero, suc, ◌+◌, ◌≤◌, Bool, true, false, cond, List, [], ◌∷◌, length, Option, Some, None, refl, sym, ap, ◌∙◌, arith}
use Rattle.std.specs.Prelude.{◌&&◌, ◌||◌, nat_eq, nat_le, slice_get, slice_set, option_map}
use Rattle.life_store.specs.Content.{Slot, Object, is_since, is_settled, are_settled, is_valid_in}
use Rattle.life_store.specs.Held.{slots_if}
use Rattle.life_forest.specs.Kinds.{Kinds}
use Rattle.life_store.specs.Kinds.{Kind, Plain, Owner, Pointing, is_owner, is_value}
use Rattle.life_forest.specs.Owned.{blanked, blanked_slots, owns_if, spared}
use Rattle.life_forest.proofs.Counting.{true_false, in_slots-blanked, in_slots_le}

-- ---- blanked slots

pub length-blanked : (b : ℕ → Bool) (ss : List Slot) → length (blanked_slots b ss) ≡ length ss
length-blanked b [] = refl
length-blanked b (s ∷ ss) = ap suc (length-blanked b ss)

pub since-blanked : (b : ℕ → Bool) (ss : List Slot) (i moment : ℕ) → is_since moment (slice_get (blanked_slots b ss) i) ≡ is_since moment (slice_get ss i)
since-blanked b [] i moment = refl
since-blanked b (s ∷ ss) zero moment = refl
since-blanked b (s ∷ ss) (suc i) moment = since-blanked b ss i moment

-- more is blanked out over less
pub blanked_more : (a b : ℕ → Bool) (xs : List ℕ) → ((u : ℕ) → a u ≡ true → b u ≡ true) → blanked b (blanked a xs) ≡ blanked b xs
blanked_more a b [] h = refl
blanked_more a b (x ∷ xs) h = go (a 0) (b 0) (h 0) (blanked_more (λ u. a (suc u)) (λ u. b (suc u)) xs (λ u. h (suc u)))
  where
    go : (p q : Bool) → (p ≡ true → q ≡ true) → blanked (λ u. b (suc u)) (blanked (λ u. a (suc u)) xs) ≡ blanked (λ u. b (suc u)) xs
        → ◌≡◌ {A = List ℕ} (cond q 0 (cond p 0 x) ∷ blanked (λ u. b (suc u)) (blanked (λ u. a (suc u)) xs)) (cond q 0 x ∷ blanked (λ u. b (suc u)) xs)
    go true true e same = ap (◌∷◌ 0) same
    go true false e same = absurd (true_false (sym (e refl)))
    go false true e same = ap (◌∷◌ 0) same
    go false false e same = ap (◌∷◌ x) same

pub blanked_slots_more : (a b : ℕ → Bool) (ss : List Slot) → ((u : ℕ) → a u ≡ true → b u ≡ true) → blanked_slots b (blanked_slots a ss) ≡ blanked_slots b ss
blanked_slots_more a b [] h = refl
blanked_slots_more a b (s ∷ ss) h =
    let e = blanked_more a b s.words h in
    ap (λ ws. record { words = ws; stamp = s.stamp } ∷ blanked_slots b (blanked_slots a ss)) e
    ∙ ap (◌∷◌ (record { words = blanked b s.words; stamp = s.stamp })) (blanked_slots_more a b ss h)

-- a word that is blanked out may be set
pub blanked-set : (b : ℕ → Bool) (xs : List ℕ) (w v : ℕ) → b w ≡ true → blanked b (slice_set xs w v) ≡ blanked b xs
blanked-set b [] w v h = refl
blanked-set b (x ∷ xs) zero v h = ap (λ (p : Bool). cond p 0 v ∷ blanked (λ u. b (suc u)) xs) h ∙ sym (ap (λ (p : Bool). cond p 0 x ∷ blanked (λ u. b (suc u)) xs) h)
blanked-set b (x ∷ xs) (suc w) v h = ap (◌∷◌ (cond (b 0) 0 x)) (blanked-set (λ u. b (suc u)) xs w v h)

-- ---- tests

pub or_true : (a b c d : Bool) → (b ≡ true → d ≡ true) → a ≡ c → (a || b) ≡ true → (c || d) ≡ true
or_true true b true d h e k = refl
or_true true b false d h e k = absurd (true_false e)
or_true false b true d h e k = refl
or_true false b false d h e k = h k

pub and_true : (a b d : Bool) → (b ≡ true → d ≡ true) → (a && b) ≡ true → (a && d) ≡ true
and_true true b d h e = h e
and_true false b d h e = e

-- an owner that passes a test isn't blanked out where the blank has nothing that passes it
pub seen : (k : Kind) (g b : Bool) → (g ≡ true → b ≡ false) → (is_owner k && g) ≡ true → (is_value k || b) ≡ false
seen Owner true b h e = h refl
seen Owner false b h e = absurd (true_false (sym e))
seen Plain g b h e = absurd (true_false (sym e))
seen (Pointing i) g b h e = absurd (true_false (sym e))

module _ (kind : Kinds) where
  pub settled-spared : (g : ℕ → Bool) (o : Object) (i moment : ℕ) → is_settled (spared kind g o) i moment ≡ is_settled o i moment
  settled-spared g o i moment =
      let b = λ (u : ℕ). is_value (kind.word o.ty u) || g u in
      ap (λ n. cond (nat_eq i n) (nat_le o.end moment) (is_since moment (slice_get (blanked_slots b o.slots) i))) (length-blanked b o.slots)
      ∙ ap (cond (nat_eq i (length o.slots)) (nat_le o.end moment)) (since-blanked b o.slots i moment)

  pub settled_all-spared : (g : ℕ → Bool) (o : Object) (i count moment : ℕ) → are_settled (spared kind g o) i count moment ≡ are_settled o i count moment
  settled_all-spared g o i zero moment = refl
  settled_all-spared g o i (suc n) moment =
      ap (λ (b : Bool). b && are_settled (spared kind g o) (i + 1) n moment) (settled-spared g o i moment)
      ∙ ap (λ (b : Bool). is_settled o i moment && b) (settled_all-spared g o (i + 1) n moment)

  -- positions stand as they stood
  pub valid-spared : (g : ℕ → Bool) (o : Option Object) (i count moment : ℕ) → is_valid_in i count moment (option_map (spared kind g) o) ≡ is_valid_in i count moment o
  valid-spared g None i count moment = refl
  valid-spared g (Some o) i count moment = settled_all-spared g o i count moment

  -- .. and are as many
  pub size-spared : (g : ℕ → Bool) (o : Option Object) → length (slots_if (option_map (spared kind g) o)) ≡ length (slots_if o)
  size-spared g None = refl
  size-spared g (Some o) = length-blanked (λ u. is_value (kind.word o.ty u) || g u) o.slots

  pub spared_more : (g h : ℕ → Bool) (o : Object) → ((u : ℕ) → g u ≡ true → h u ≡ true) → spared kind h (spared kind g o) ≡ spared kind h o
  spared_more g h o le =
      ap (λ (ss : List Slot). record o { slots = ss })
      (blanked_slots_more (λ u. is_value (kind.word o.ty u) || g u) (λ u. is_value (kind.word o.ty u) || h u) o.slots (λ u. or_true (is_value (kind.word o.ty u)) (g u) (is_value (kind.word o.ty u)) (h u) (le u) refl))

  pub spared_if_more : (g h : ℕ → Bool) (o : Option Object) → ((u : ℕ) → g u ≡ true → h u ≡ true) → option_map (spared kind h) (option_map (spared kind g) o) ≡ option_map (spared kind h) o
  spared_if_more g h None le = refl
  spared_if_more g h (Some o) le = ap Some (spared_more g h o le)

  -- two that are alike but for less are alike but for more
  pub alike_more : (g h : ℕ → Bool) (o q : Option Object) → ((u : ℕ) → g u ≡ true → h u ≡ true) → option_map (spared kind g) o ≡ option_map (spared kind g) q → option_map (spared kind h) o ≡ option_map (spared kind h) q
  alike_more g h o q le e = sym (spared_if_more g h o le) ∙ ap (option_map (spared kind h)) e ∙ spared_if_more g h q le

  pub owns-spared : (g b : ℕ → Bool) (o : Option Object) (k : ℕ) → ((u : ℕ) → g u ≡ true → b u ≡ false) → owns_if kind g (option_map (spared kind b) o) k ≡ owns_if kind g o k
  owns-spared g b None k h = refl
  owns-spared g b (Some o) k h =
      in_slots-blanked (λ u. is_owner (kind.word o.ty u) && g u) (λ u. is_value (kind.word o.ty u) || b u) o.slots k (λ u. seen (kind.word o.ty u) (g u) (b u) (h u))

  -- owners that pass a stricter test are fewer
  pub owns_le : (g h : ℕ → Bool) (o : Option Object) (k : ℕ) → ((u : ℕ) → g u ≡ true → h u ≡ true) → owns_if kind g o k ≤ owns_if kind h o k
  owns_le g h None k le = omega arith
  owns_le g h (Some o) k le =
      in_slots_le (λ u. is_owner (kind.word o.ty u) && g u) (λ u. is_owner (kind.word o.ty u) && h u) o.slots k (λ u. and_true (is_owner (kind.word o.ty u)) (g u) (h u) (le u))
