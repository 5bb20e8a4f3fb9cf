-- What lies beneath a foot of objects and regions lies beneath one of them; and a foot lies in another where each of its parts does.
use Rattle.std.proofs.Common.{◌≡◌, ◌⊎◌, ⊎_elim, inl, inr, ℕ, zero, suc, ◌+◌, ◌<◌, Bool, true, false, List, [], ◌∷◌, Option, Some, None, refl, ap, ◌∙◌, arith}
use Rattle.std.specs.Prelude.{Contains, cond, slice_index, ◌&&◌, ◌||◌}
use Rattle.std.specs.List.{list_any}
use Rattle.std.proofs.lemmas.Bool.{and_parts, false≢true}
use Rattle.life_types.specs.Types.{Types}
use Rattle.life_store.specs.Cells.{at}
use Rattle.life_store.specs.Content.{Content, Object, Slot}
use Rattle.life_store.proofs.MapLemmas.{one_or_apart}
use Rattle.life_forest.specs.Forest.{Beneath, Foot, Within, all_of, part, under, whole}
use Rattle.life_store.specs.Kinds.{is_owner}
use Rattle.life_forest.specs.Kinds.{Kinds, kinds_of}
use Rattle.life_forest.specs.Owned.{hit, in_slots, in_words, owns_at, owns_if, times}
use Rattle.life_forest.proofs.Among.{Among, slots_counted}
use Rattle.life_forest.proofs.Below.{is_positive, positive_is}
use Rattle.life_forest.proofs.Counting.{one_same, one_there}
use Rattle.life_rules.proofs.Giving.{at_head, in_tail}
use Rattle.life_cover.specs.Inputs.{foot_with}
use Rattle.life_cover.specs.Regions.{Region, foot_of, is_in_region}
use Rattle.life_cover.proofs.Mutated.{which_passes}

-- ---- an owner that is counted stands at a word

hit_is : (x k : ℕ) → 0 < hit x k → x ≡ suc k
hit_is zero k lt = absurd (omega (arith, lt))
hit_is (suc n) k lt = ap suc (one_there n k lt)

word_found : (h : ℕ → Bool) (ws : List ℕ) (k : ℕ) → 0 < in_words h ws k → (u : ℕ) × (h u ≡ true) × (slice_index ws u ≡ suc k)
word_found h [] k lt = absurd (omega (arith, lt))
word_found h (x ∷ xs) k lt = go (λ le. let r = word_found (λ v. h (suc v)) xs k le in (suc r.0, r.1, r.2)) (h 0) refl lt
  where
    go : (0 < in_words (λ v. h (suc v)) xs k → (u : ℕ) × (h u ≡ true) × (slice_index (x ∷ xs) u ≡ suc k)) → (b : Bool) → h 0 ≡ b → 0 < cond b (hit x k) 0 + in_words (λ v. h (suc v)) xs k → (u : ℕ) × (h u ≡ true) × (slice_index (x ∷ xs) u ≡ suc k)
    go more false e le = more (omega (arith, le))
    go more true e le = one_or_apart (hit x k) 0 (λ z. more (omega (arith, le, z))) (λ nz. (zero, e, hit_is x k (omega (arith, nz))))

slots_found : (h : ℕ → Bool) (ss : List Slot) (k : ℕ) → 0 < in_slots h ss k → (u : ℕ) × (h u ≡ true) × Among ss u k
slots_found h [] k lt = absurd (omega (arith, lt))
slots_found h (s ∷ ss) k lt = one_or_apart (in_words h s.words k) 0
    (λ z. let r = slots_found h ss k (omega (arith, lt, z)) in (r.0, r.1, inr r.2))
    (λ nz. let r = word_found h s.words k (omega (arith, nz)) in (r.0, r.1, inl r.2))

-- .. which each test counts that it passes
owned_where : (kind : Kinds) (c : Content) (t : ℕ → Bool) (m j : ℕ) → 0 < owns_at kind c t m j → (u : ℕ) × (t u ≡ true) × ((g : ℕ → Bool) → g u ≡ true → 0 < owns_at kind c g m j)
owned_where kind c t m j = go (at c.objects m)
  where
    go : (o : Option Object) → 0 < owns_if kind t o j → (u : ℕ) × (t u ≡ true) × ((g : ℕ → Bool) → g u ≡ true → 0 < owns_if kind g o j)
    go None lt = absurd (omega (arith, lt))
    go (Some o) lt =
        let r = slots_found (λ u. is_owner (kind.word o.ty u) && t u) o.slots j lt in
        let both = and_parts (is_owner (kind.word o.ty r.0)) (t r.0) r.1 in
        (r.0, both.1, λ g passes. slots_counted (λ u. is_owner (kind.word o.ty u) && g u) o.slots r.0 j r.2 (ap (λ b. b && g r.0) both.0 ∙ passes))

-- ---- beneath one of them

-- something whole, or an owner in one of the regions
pub data IsBelow (types : Types) (c : Content) (regions : List Region) (ns : List ℕ) (j : ℕ) : Type 0 where
  below_whole : (m : ℕ) → 0 < times ns m → Beneath (kinds_of types) c (all_of (m ∷ [])) j → IsBelow types c regions ns j
  below_region : (a : Region) → Contains regions a → Beneath (kinds_of types) c (foot_of types a) j → IsBelow types c regions ns j

module _ (types : Types) (c : Content) (regions : List Region) (ns : List ℕ) where
  itself : (i : ℕ) → Beneath (kinds_of types) c (all_of (i ∷ [])) i
  itself i = whole i (is_positive (times (i ∷ []) i) (let s = one_same i i refl in omega (arith, s)))

  pub is_below : (j : ℕ) → Beneath (kinds_of types) c (foot_with types regions ns) j → IsBelow types c regions ns j
  is_below j (whole _ e) = below_whole j (positive_is (times ns j) e) (itself j)
  is_below j (part m _ own) =
      let w = owned_where (kinds_of types) c (λ u. list_any (λ b. is_in_region types b m u) regions) m j own in
      let b = which_passes (λ b. is_in_region types b m w.0) regions w.1 in
      below_region b.0 b.1 (part m j (w.2 (λ u. is_in_region types b.0 m u) b.2))
  is_below j (under m _ low own) = on (is_below m low)
    where
      on : IsBelow types c regions ns m → IsBelow types c regions ns j
      on (below_whole n lt h) = below_whole n lt (under m j h own)
      on (below_region a among h) = below_region a among (under m j h own)

-- ---- in another foot

either_passes : (a b d : Bool) → (a ≡ true → d ≡ true) → (b ≡ true → d ≡ true) → (a || b) ≡ true → d ≡ true
either_passes true b d one other e = one refl
either_passes false b d one other e = other e

module _ (types : Types) (c : Content) (t : Foot) where
  parts_within : (regions : List Region) → ((a : Region) → Contains regions a → Within (kinds_of types) c (foot_of types a) t) → (m : ℕ) → m < c.births → Beneath (kinds_of types) c t m ⊎ ((u : ℕ) → list_any (λ b. is_in_region types b m u) regions ≡ true → t.part m u ≡ true)
  parts_within [] each m lt = inr (λ u e. absurd (false≢true e))
  parts_within (a ∷ regions) each m lt = ⊎_elim
      (λ low. inl low)
      (λ first. ⊎_elim (λ low. inl low) (λ rest. inr (λ u e. either_passes (is_in_region types a m u) (list_any (λ b. is_in_region types b m u) regions) (t.part m u) (first u) (rest u) e)) (parts_within regions (λ b h. each b (in_tail a regions b h)) m lt))
      ((each a (at_head a regions)).part m lt)

  pub foot_within : (regions : List Region) (ns : List ℕ) → ((n : ℕ) → n < c.births → 0 < times ns n → Beneath (kinds_of types) c t n) → ((a : Region) → Contains regions a → Within (kinds_of types) c (foot_of types a) t) → Within (kinds_of types) c (foot_with types regions ns) t
  foot_within regions ns wholes each = record { whole = λ n lt e. wholes n lt (positive_is (times ns n) e); part = parts_within regions each }
