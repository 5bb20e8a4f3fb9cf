-- The readers one construct further in.
use Rattle.std.proofs.Common.{◌≡◌, ℕ, zero, suc, ◌<◌, ◌-◌, refl, arith}
use Rattle.life_tree.specs.Tree.{Tokens}
use Rattle.life_expr.specs.Readers.{below, read_rule}
use Rattle.life_tree.specs.Rules.{Rule}

pub below_rule : (n : ℕ) (r : Rule) (ts : Tokens) → 0 < n → read_rule (n - 1) r ts ≡ below n r ts
unfolding below
below_rule zero r ts h = absurd (omega arith)
below_rule (suc n) r ts h = let e : suc n - 1 ≡ n = omega arith in rw e refl
