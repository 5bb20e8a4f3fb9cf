-- What is known to be there is ready.
use Rattle.std.proofs.Common.{◌≡◌, ℕ, true, List, [], ◌∷◌, ap, ◌∙◌}
use Rattle.life_core.specs.Operands.{Operand}
use Rattle.life_core.specs.Touched.{place_uses}
use Rattle.life_proper.specs.Knowing.{known_at, same}
use Rattle.life_proper.specs.ReadyKnown.{are_known, is_known}
use Rattle.life_proper.specs.declared.known.Known.{Known}
use Rattle.life_proper.specs.declared.known.Known.TheVariants as known
use Rattle.life_proper.proofs.ReadyTests.{both_known, one_known}
use Rattle.life_elab_laws.proofs.Making.{IsPlace}

pub ready_there : (k : List Known) (x : ℕ) → known_at k x ≡ known.Ready → is_known known.Ready k x ≡ true
ready_there k x e = ap (λ (a : Known). same a known.Ready) e

pub blank_there : (k : List Known) (x : ℕ) → known_at k x ≡ known.Blank → is_known known.Blank k x ≡ true
blank_there k x e = ap (λ (a : Known). same a known.Blank) e

-- ---- lists of them

pub one_there : (k : List Known) (x : ℕ) → known_at k x ≡ known.Ready → are_known known.Ready k (x ∷ []) ≡ true
one_there k x e = one_known known.Ready k x (ready_there k x e)

pub two_there : (k : List Known) (x y : ℕ) → known_at k x ≡ known.Ready → known_at k y ≡ known.Ready → are_known known.Ready k (x ∷ y ∷ []) ≡ true
two_there k x y e h = both_known known.Ready k (x ∷ []) (y ∷ []) (one_there k x e) (one_there k y h)

-- a place: what it names is there
pub place_there : (o : Operand) (n : ℕ) (k : List Known) → IsPlace o n k → are_known known.Ready k (place_uses o) ≡ true
place_there o n k h = ap (are_known known.Ready k) h.uses ∙ one_there k h.local h.held
