-- A simple statement that begins with no step: its target, and what stands behind that.
use Rattle.std.proofs.Common.{◌≡◌, ℕ, false, ◌∷◌, [], Ok, refl}
use Rattle.life_expr.specs.Heads.{quoted_kind}
use Rattle.life_expr.specs.Read.{starts}
use Rattle.life_expr.specs.Readers.{Readers, target_with, simple_with}
use Rattle.life_stmt.specs.Simples.{behind_target, ending_with}
use Rattle.life_tree.specs.Tree.{Tree, Tokens}
use Rattle.life_tree.specs.declared.fixed.TheConstants as fixed

pub simple_behind : (n : ℕ) (inside : Readers) (ts : Tokens) (target : Tree) (rest : Tokens)
    → starts (quoted_kind fixed.PLUS_PLUS ∷ []) ts ≡ false → starts (quoted_kind fixed.MINUS_MINUS ∷ []) ts ≡ false → target_with n inside ts ≡ Ok (target, rest)
    → simple_with n inside ts ≡ behind_target target (ending_with n inside target rest)
unfolding simple_with
simple_behind n inside ts target rest f g e = rw (f, g, e) refl
