-- What is known of each local, after one of them is written, and where two ways meet.
use Rattle.std.proofs.Common.{◌≡◌, ◌<◌, inl, inr, ℕ, zero, suc, List, [], ◌∷◌, length, slice_set, refl, sym, ap, ◌∙◌, subst, arith}
use Rattle.std.proofs.lemmas.Bool.{cases_eq}
use Rattle.life_proper.specs.declared.known.Known.{Known}
use Rattle.life_proper.specs.declared.known.Known.TheVariants as known
use Rattle.life_proper.specs.Knowing.{agreed, agreed_all, known_at}

-- ---- one local is written

pub set_length : (k : List Known) (x : ℕ) (a : Known) → length (slice_set k x a) ≡ length k
set_length [] x a = refl
set_length (b ∷ k) zero a = refl
set_length (b ∷ k) (suc x) a = ap suc (set_length k x a)

pub at_set : (k : List Known) (x : ℕ) (a : Known) → x < length k → known_at (slice_set k x a) x ≡ a
at_set [] x a h = absurd (omega arith)
at_set (b ∷ k) zero a h = refl
at_set (b ∷ k) (suc x) a h = at_set k x a (omega arith)

pub beside_set : (k : List Known) (x y : ℕ) (a : Known) → (x ≡ y → ⊥) → known_at (slice_set k x a) y ≡ known_at k y
beside_set [] x y a ne = refl
beside_set (b ∷ k) zero zero a ne = absurd (ne refl)
beside_set (b ∷ k) zero (suc y) a ne = refl
beside_set (b ∷ k) (suc x) zero a ne = refl
beside_set (b ∷ k) (suc x) (suc y) a ne = beside_set k x y a (λ e. ne (ap suc e))

-- .. to what was known
pub set_same : (k : List Known) (x : ℕ) (a : Known) (y : ℕ) → known_at k x ≡ a → known_at (slice_set k x a) y ≡ known_at k y
set_same [] x a y e = refl
set_same (b ∷ k) zero a zero e = sym e
set_same (b ∷ k) zero a (suc y) e = refl
set_same (b ∷ k) (suc x) a zero e = refl
set_same (b ∷ k) (suc x) a (suc y) e = set_same k x a y e

-- what is there stays so where another one comes
pub ready_set : (k : List Known) (x y : ℕ) → x < length k → known_at k y ≡ known.Ready → known_at (slice_set k x known.Ready) y ≡ known.Ready
ready_set k x y lt e = elim (cases_eq x y) [
  | inl same ↦ subst (λ (z : ℕ). known_at (slice_set k x known.Ready) z ≡ known.Ready) same (at_set k x known.Ready lt)
  | inr other ↦ beside_set k x y known.Ready other ∙ e
]

-- ---- two ways meet

agreed_itself : (a : Known) → agreed a a ≡ a
agreed_itself known.Unknown = refl
agreed_itself known.Blank = refl
agreed_itself known.Ready = refl

agreed_same : (a b : Known) → a ≡ b → agreed a b ≡ a
agreed_same a b e = subst (λ (c : Known). agreed a c ≡ a) e (agreed_itself a)

pub at_agreed : (k j : List Known) (y : ℕ) → length k ≡ length j → known_at k y ≡ known_at j y → known_at (agreed_all k j) y ≡ known_at k y
at_agreed [] j y size e = refl
at_agreed (a ∷ k) [] y size e = absurd (omega (arith, size))
at_agreed (a ∷ k) (b ∷ j) zero size e = agreed_same a b e
at_agreed (a ∷ k) (b ∷ j) (suc y) size e = at_agreed k j y (omega (arith, size)) e

pub agreed_length : (k j : List Known) → length k ≡ length j → length (agreed_all k j) ≡ length k
agreed_length [] j size = refl
agreed_length (a ∷ k) [] size = absurd (omega (arith, size))
agreed_length (a ∷ k) (b ∷ j) size = ap suc (agreed_length k j (omega (arith, size)))
