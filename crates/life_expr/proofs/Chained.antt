-- An expression is its first operand, and the parts of each level behind it.
use Rattle.std.proofs.Common.{◌≡◌, ℕ, Bool, true, false, ◌||◌, Ok, refl, sym, ap, ◌∙◌}
use Rattle.life_expr.specs.Exprs.{and_form, additive_form, alone, chained_with, equality_form, multiplicative_form, or_form, relational_form, starts_operator}
use Rattle.life_expr.specs.Heads.{heads}
use Rattle.life_expr.specs.Read.{as_many, starts}
use Rattle.life_expr.specs.Readers.{Readers, both_with, equal_with, expr_with, order_with, sum_with, term_with, unary_with}
use Rattle.life_tree.specs.Tree.{Tree, Tokens}

neither : (a b : Bool) → a || b ≡ false → (a ≡ false) × (b ≡ false)
neither false b h = (refl, h)
neither true b h = cc

expr_is_chained : (n : ℕ) (inside : Readers) (ts : Tokens) → expr_with n inside ts ≡ chained_with n inside (unary_with n inside ts)
unfolding expr_with both_with equal_with order_with sum_with term_with
expr_is_chained n inside ts = refl

-- Behind an operand without an operator nothing is read.
reads_alone : (n : ℕ) (inside : Readers) (t : Tree) (ts : Tokens) → starts_operator ts ≡ false → chained_with n inside (Ok (t, ts)) ≡ Ok (alone t, ts)
unfolding as_many
reads_alone n inside t ts h =
    let terms = neither (starts (heads multiplicative_form) ts) _ h in
    let sums = neither (starts (heads additive_form) ts) _ terms.1 in
    let orders = neither (starts (heads relational_form) ts) _ sums.1 in
    let equals = neither (starts (heads equality_form) ts) _ orders.1 in
    let boths = neither (starts (heads and_form) ts) (starts (heads or_form) ts) equals.1 in
    rw (terms.0, sums.0, orders.0, equals.0, boths.0, boths.1) refl

-- An operand without an operator behind it is the whole expression.
pub expr_alone : (n : ℕ) (inside : Readers) (t whole : Tree) (ts rest : Tokens) → unary_with n inside ts ≡ Ok (t, rest) → starts_operator rest ≡ false
    → whole ≡ alone t → expr_with n inside ts ≡ Ok (whole, rest)
expr_alone n inside t whole ts rest first ends made =
    expr_is_chained n inside ts ∙ ap (chained_with n inside) first ∙ reads_alone n inside t rest ends ∙ ap (λ (u : Tree). Ok (u, rest)) (sym made)
