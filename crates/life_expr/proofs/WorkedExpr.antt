-- Expressions read out by hand.
use Rattle.std.proofs.Common.{◌≡◌, ℕ, [], ◌∷◌, Ok, Err, refl}
use Rattle.life_expr.specs.Read.{deep, as_many}
use Rattle.life_expr.specs.Readers.{args_with, list_with, primary_with, part_with, postfix_with, unary_with, term_with, sum_with, order_with, equal_with, both_with, expr_with, rule_with, below, read_rule}
use Rattle.life_tree.specs.Rules as rules
use Rattle.life_tree.specs.Tree.{Tree, nothing, token, ◌⨾◌, construct, node, Tokens}
use Rattle.life_tree.specs.Views.{at}
use Rattle.life_tree.specs.declared.fixed.TheConstants as fixed
use Rattle.life_tree.specs.declared.key.TokenKey.TheVariants as keys
use Rattle.life_tree.specs.declared.token.TreeToken.{TreeToken}
use Rattle.life_types.specs.declared.place.Place.{Place}

-- in the first line
abbrev column : ℕ → Place
column n = record { line = 1; column = n }

abbrev fixed_at : ℕ → ℕ → TreeToken
fixed_at m n = record { key = keys.Fixed m; place = column n }

abbrev number_at : ℕ → ℕ → TreeToken
number_at m n = record { key = keys.Number m; place = column n }

-- 1 - (2)
abbrev line : Tokens
line = number_at 1 1 ∷ fixed_at fixed.MINUS 3 ∷ fixed_at fixed.LEFT_PAREN 5 ∷ number_at 2 6 ∷ fixed_at fixed.RIGHT_PAREN 7 ∷ fixed_at fixed.SEMICOLON 8 ∷ []

-- an operand without operators
abbrev operand : Tree → Tree
operand t = node rules.term (node rules.unary (node rules.postfix (node rules.primary t ⨾ nothing)) ⨾ nothing)

-- a sum as an expression
abbrev whole : Tree → Tree
whole t = node rules.expr (node rules.both (node rules.equal (node rules.order (node rules.sum t ⨾ nothing) ⨾ nothing) ⨾ nothing) ⨾ nothing)

abbrev inner : Tree
inner = whole (operand (token (keys.Number 2) (column 6)) ⨾ nothing)

-- one may be open in it
difference : read_rule 1 rules.expr line
    ≡ Ok (
      whole (operand (token (keys.Number 1) (column 1)) ⨾ (at fixed.MINUS (column 3) ⨾ operand (construct fixed.LEFT_PAREN (column 5) (inner ⨾ at fixed.RIGHT_PAREN (column 7)))) ⨾ nothing),
      fixed_at fixed.SEMICOLON 8 ∷ [],
    )
unfolding as_many args_with list_with primary_with part_with postfix_with unary_with term_with sum_with order_with equal_with both_with expr_with rule_with below
difference = refl

-- none may, and so it goes too deep at its parenthesis
too_deep : read_rule 0 rules.expr line ≡ Err (deep (fixed_at fixed.LEFT_PAREN 5 ∷ number_at 2 6 ∷ fixed_at fixed.RIGHT_PAREN 7 ∷ fixed_at fixed.SEMICOLON 8 ∷ []))
unfolding as_many args_with list_with primary_with part_with postfix_with unary_with term_with sum_with order_with equal_with both_with expr_with rule_with below
too_deep = refl
