-- The bits of one word, and of two.
use Rattle.std.proofs.Common.{◌≡◌, ◌≢◌, ℕ, zero, suc, ◌+◌, ◌-◌, ◌/◌, ◌%◌, ◌^◌, ◌<◌, max, min, refl, ap, sym, ◌∙◌, inl, inr, Bool, true, false, not, ◌&&◌, ◌||◌, arith, subst, eq-eqb, nat_eq, bit_or, bit_and}
use Rattle.std.specs.Int.{bit_at, bit_not, w64}
use Rattle.std.proofs.lemmas.Bool.{ne_eqb, cases_eq}
use Rattle.std.proofs.lemmas.Nat.{shr-shr}
use Rattle.std.proofs.lemmas.Nat.Bits.{bit_at_or, bit_at_and, bit_at_not, bit_at-lt, bit_at-pow_same, bit_at-pow_other, bit_at-zero, bit_at-suc, bit_at_lowest}
use Rattle.life_sets.specs.BitSets.{has_bit}

bits_or : (x y : ℕ) → x < 2 → y < 2 → nat_eq (max x y) 1 ≡ (nat_eq x 1 || nat_eq y 1)
bits_or zero zero p q = refl
bits_or zero (suc zero) p q = refl
bits_or (suc zero) zero p q = refl
bits_or (suc zero) (suc zero) p q = refl
bits_or (suc (suc x)) y p q = absurd (omega (arith, p))
bits_or zero (suc (suc y)) p q = absurd (omega (arith, q))
bits_or (suc zero) (suc (suc y)) p q = absurd (omega (arith, q))

-- a bit of the bits of two words
pub has_or : (a b i : ℕ) → has_bit (bit_or a b) i ≡ (has_bit a i || has_bit b i)
has_or a b i = ap (λ (x : ℕ). nat_eq x 1) (bit_at_or a b i) ∙ bits_or (bit_at a i) (bit_at b i) (bit_at-lt a i) (bit_at-lt b i)

bits_and : (x y : ℕ) → x < 2 → y < 2 → nat_eq (min x y) 1 ≡ (nat_eq x 1 && nat_eq y 1)
bits_and zero zero p q = refl
bits_and zero (suc zero) p q = refl
bits_and (suc zero) zero p q = refl
bits_and (suc zero) (suc zero) p q = refl
bits_and (suc (suc x)) y p q = absurd (omega (arith, p))
bits_and zero (suc (suc y)) p q = absurd (omega (arith, q))
bits_and (suc zero) (suc (suc y)) p q = absurd (omega (arith, q))

-- a bit of what two words have in common
pub has_and : (a b i : ℕ) → has_bit (bit_and a b) i ≡ (has_bit a i && has_bit b i)
has_and a b i = ap (λ (x : ℕ). nat_eq x 1) (bit_at_and a b i) ∙ bits_and (bit_at a i) (bit_at b i) (bit_at-lt a i) (bit_at-lt b i)

other_bit : (x : ℕ) → x < 2 → nat_eq (1 - x) 1 ≡ not (nat_eq x 1)
other_bit zero p = refl
other_bit (suc zero) p = refl
other_bit (suc (suc x)) p = absurd (omega (arith, p))

-- a bit of a word that another's bits were taken from
pub has_cut : (a b i : ℕ) → b < 2 ^ 64 → i < 64 → has_bit (bit_and a (bit_not w64 b)) i ≡ (has_bit a i && not (has_bit b i))
has_cut a b i hb hi =
    has_and a (bit_not w64 b) i
    ∙ ap (λ (t : Bool). has_bit a i && t) (ap (λ (x : ℕ). nat_eq x 1) (bit_at_not w64 b i hb hi) ∙ other_bit (bit_at b i) (bit_at-lt b i))

-- a bit of a shifted word
pub has_shifted : (word place i : ℕ) → has_bit (word / 2 ^ place) i ≡ has_bit word (place + i)
has_shifted word place i = ap (λ (x : ℕ). nat_eq (x % 2) 1) (shr-shr word place i)

-- a power of two has one bit
pub has_pow : (k i : ℕ) → has_bit (2 ^ k) i ≡ nat_eq i k
has_pow k i =
    elim (cases_eq i k) [
      | inl e ↦ subst (λ (x : ℕ). has_bit (2 ^ k) x ≡ nat_eq x k) (sym e) (ap (λ (x : ℕ). nat_eq x 1) (bit_at-pow_same k) ∙ sym (eq-eqb k k refl))
      | inr ne ↦ ap (λ (x : ℕ). nat_eq x 1) (bit_at-pow_other k i ne) ∙ sym (ne_eqb i k ne)
    ]

-- 0 has none
pub has_none : (i : ℕ) → has_bit 0 i ≡ false
has_none i = ap (λ (x : ℕ). nat_eq x 1) (bit_at-zero i)

-- two words that differ have a bit where they differ
pub differing : (w a b : ℕ) → a < 2 ^ w → b < 2 ^ w → a ≢ b → (i : ℕ) × ((i < w) × (bit_at a i ≢ bit_at b i))
differing zero a b p q ne = absurd (ne (omega (arith, p, q)))
differing (suc w) a b p q ne =
    elim (cases_eq (a % 2) (b % 2)) [
      | inl same ↦
          let rest = differing w (a / 2) (b / 2) (half a p) (half b q) (λ (h : a / 2 ≡ b / 2). ne (omega (arith, h, same))) in
          (suc rest.0, (omega (arith, rest.1.0), λ (h : bit_at a (suc rest.0) ≡ bit_at b (suc rest.0)). rest.1.1 (sym (bit_at-suc a rest.0) ∙ h ∙ bit_at-suc b rest.0)))
      | inr other ↦ (0, (omega arith, λ (h : bit_at a 0 ≡ bit_at b 0). other (sym (bit_at_lowest a) ∙ h ∙ bit_at_lowest b)))
    ]
  where
    half : (c : ℕ) → c < 2 ^ suc w → c / 2 < 2 ^ w
    half c h = omega (arith, h)

-- the greater of two bits is another than the second: it is set, and the second isn't
pub new_bit : (f o n : ℕ) → f < 2 → o < 2 → n ≡ max f o → n ≢ o → (nat_eq o 1 ≡ false) × (nat_eq n 1 ≡ true)
new_bit zero o n p q is ne = absurd (ne (is ∙ omega arith))
new_bit (suc zero) zero n p q is ne = (refl, ap (λ (z : ℕ). nat_eq z 1) is)
new_bit (suc zero) (suc zero) n p q is ne = absurd (ne is)
new_bit (suc (suc f)) o n p q is ne = absurd (omega (arith, p))
new_bit (suc zero) (suc (suc o)) n p q is ne = absurd (omega (arith, q))
