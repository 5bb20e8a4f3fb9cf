use Rattle.std.proofs.Common.{◌≡◌, map, ◌+◌, ◌*◌, length}
use Rattle.life_expr.specs.Exprs as spec
use Rattle.life_expr.specs.Readers.{below}
use Rattle.life_expr.proofs.Loop.{with_front}
use Rattle.life_tree.specs.Views.{additive_part_tree, and_part_tree, equality_part_tree, expr_tree, later_trees, multiplicative_part_tree, or_part_tree, postfix_part_tree, relational_part_tree}
use Rattle.life_expr.proofs.+expr.Given as goal

abbrev pub decreases-chains::expr : goal.decreases-chains::expr
decreases-chains::expr l = 64 * l.left + 36

abbrev pub decreases-chains::chained : goal.decreases-chains::chained
decreases-chains::chained l = 64 * l.left + 35

abbrev pub decreases-chains::or_parts : goal.decreases-chains::or_parts
decreases-chains::or_parts l = 64 * l.left + 34

abbrev pub decreases-chains::or_part : goal.decreases-chains::or_part
decreases-chains::or_part l = 64 * l.left + 33

abbrev pub decreases-chains::logical_and : goal.decreases-chains::logical_and
decreases-chains::logical_and l = 64 * l.left + 32

abbrev pub decreases-chains::and_parts : goal.decreases-chains::and_parts
decreases-chains::and_parts l = 64 * l.left + 31

abbrev pub decreases-chains::and_part : goal.decreases-chains::and_part
decreases-chains::and_part l = 64 * l.left + 30

abbrev pub decreases-chains::equality : goal.decreases-chains::equality
decreases-chains::equality l = 64 * l.left + 29

abbrev pub decreases-chains::equality_parts : goal.decreases-chains::equality_parts
decreases-chains::equality_parts l = 64 * l.left + 28

abbrev pub decreases-chains::equality_part : goal.decreases-chains::equality_part
decreases-chains::equality_part l = 64 * l.left + 27

abbrev pub decreases-chains::relational : goal.decreases-chains::relational
decreases-chains::relational l = 64 * l.left + 26

abbrev pub decreases-chains::relational_parts : goal.decreases-chains::relational_parts
decreases-chains::relational_parts l = 64 * l.left + 25

abbrev pub decreases-chains::relational_part : goal.decreases-chains::relational_part
decreases-chains::relational_part l = 64 * l.left + 24

abbrev pub decreases-chains::additive : goal.decreases-chains::additive
decreases-chains::additive l = 64 * l.left + 23

abbrev pub decreases-chains::additive_parts : goal.decreases-chains::additive_parts
decreases-chains::additive_parts l = 64 * l.left + 22

abbrev pub decreases-chains::additive_part : goal.decreases-chains::additive_part
decreases-chains::additive_part l = 64 * l.left + 21

abbrev pub decreases-chains::multiplicative : goal.decreases-chains::multiplicative
decreases-chains::multiplicative l = 64 * l.left + 20

abbrev pub decreases-chains::multiplicative_parts : goal.decreases-chains::multiplicative_parts
decreases-chains::multiplicative_parts l = 64 * l.left + 19

abbrev pub decreases-chains::multiplicative_part : goal.decreases-chains::multiplicative_part
decreases-chains::multiplicative_part l = 64 * l.left + 18

abbrev pub decreases-operands::unary : goal.decreases-operands::unary
decreases-operands::unary l = 64 * l.left + 17

abbrev pub decreases-operands::prefix : goal.decreases-operands::prefix
decreases-operands::prefix l = 64 * l.left + 16

abbrev pub decreases-operands::postfix : goal.decreases-operands::postfix
decreases-operands::postfix l = 64 * l.left + 15

abbrev pub decreases-operands::primary : goal.decreases-operands::primary
decreases-operands::primary l = 64 * l.left + 14

abbrev pub decreases-operands::parts : goal.decreases-operands::parts
decreases-operands::parts l = 64 * l.left + 13

abbrev pub decreases-operands::part : goal.decreases-operands::part
decreases-operands::part l = 64 * l.left + 12

abbrev pub decreases-operands::optional_arguments : goal.decreases-operands::optional_arguments
decreases-operands::optional_arguments l = 64 * l.left + 11

abbrev pub decreases-operands::named : goal.decreases-operands::named
decreases-operands::named l = 64 * l.left + 10

abbrev pub decreases-operands::parenthesized : goal.decreases-operands::parenthesized
decreases-operands::parenthesized l = 64 * l.left + 9

abbrev pub decreases-operands::primary_of_std : goal.decreases-operands::primary_of_std
decreases-operands::primary_of_std l = 64 * l.left + 8

abbrev pub decreases-lists::arguments : goal.decreases-lists::arguments
decreases-lists::arguments l = 64 * l.left + 7

abbrev pub decreases-lists::init_list : goal.decreases-lists::init_list
decreases-lists::init_list l = 64 * l.left + 6

abbrev pub decreases-lists::expressions : goal.decreases-lists::expressions
decreases-lists::expressions l = 64 * l.left + 5

abbrev pub decreases-lists::later_expressions : goal.decreases-lists::later_expressions
decreases-lists::later_expressions l = 64 * l.left + 4

abbrev pub decreases-lists::later_expression : goal.decreases-lists::later_expression
decreases-lists::later_expression l = 64 * l.left + 3

abbrev pub decreases-lists::expr_below : goal.decreases-lists::expr_below
decreases-lists::expr_below l = 64 * l.left + 2

abbrev pub decreases-operands::unary_below : goal.decreases-operands::unary_below
decreases-operands::unary_below l = 64 * l.left + 1

abbrev pub invariant-chains::or_parts-list : goal.invariant-chains::or_parts-list
invariant-chains::or_parts-list l = with_front (map or_part_tree l.list.items) (spec.or_parts_with l.left (below l.left) l.rest) ≡ spec.or_parts_with l.left (below l.left) l.tokens

abbrev pub decreases-chains::or_parts-list : goal.decreases-chains::or_parts-list
decreases-chains::or_parts-list l = length l.rest

abbrev pub invariant-chains::and_parts-list : goal.invariant-chains::and_parts-list
invariant-chains::and_parts-list l = with_front (map and_part_tree l.list.items) (spec.and_parts_with l.left (below l.left) l.rest) ≡ spec.and_parts_with l.left (below l.left) l.tokens

abbrev pub decreases-chains::and_parts-list : goal.decreases-chains::and_parts-list
decreases-chains::and_parts-list l = length l.rest

abbrev pub invariant-chains::equality_parts-list : goal.invariant-chains::equality_parts-list
invariant-chains::equality_parts-list l = with_front (map equality_part_tree l.list.items) (spec.equality_parts_with l.left (below l.left) l.rest) ≡ spec.equality_parts_with l.left (below l.left) l.tokens

abbrev pub decreases-chains::equality_parts-list : goal.decreases-chains::equality_parts-list
decreases-chains::equality_parts-list l = length l.rest

abbrev pub invariant-chains::relational_parts-list : goal.invariant-chains::relational_parts-list
invariant-chains::relational_parts-list l = with_front (map relational_part_tree l.list.items) (spec.relational_parts_with l.left (below l.left) l.rest) ≡ spec.relational_parts_with l.left (below l.left) l.tokens

abbrev pub decreases-chains::relational_parts-list : goal.decreases-chains::relational_parts-list
decreases-chains::relational_parts-list l = length l.rest

abbrev pub invariant-chains::additive_parts-list : goal.invariant-chains::additive_parts-list
invariant-chains::additive_parts-list l = with_front (map additive_part_tree l.list.items) (spec.additive_parts_with l.left (below l.left) l.rest) ≡ spec.additive_parts_with l.left (below l.left) l.tokens

abbrev pub decreases-chains::additive_parts-list : goal.decreases-chains::additive_parts-list
decreases-chains::additive_parts-list l = length l.rest

abbrev pub invariant-chains::multiplicative_parts-list : goal.invariant-chains::multiplicative_parts-list
invariant-chains::multiplicative_parts-list l = with_front (map multiplicative_part_tree l.list.items) (spec.multiplicative_parts_with l.left (below l.left) l.rest) ≡ spec.multiplicative_parts_with l.left (below l.left) l.tokens

abbrev pub decreases-chains::multiplicative_parts-list : goal.decreases-chains::multiplicative_parts-list
decreases-chains::multiplicative_parts-list l = length l.rest

abbrev pub invariant-operands::parts-list : goal.invariant-operands::parts-list
invariant-operands::parts-list l = with_front (map postfix_part_tree l.list.items) (spec.parts_with l.left (below l.left) l.rest) ≡ spec.parts_with l.left (below l.left) l.tokens

abbrev pub decreases-operands::parts-list : goal.decreases-operands::parts-list
decreases-operands::parts-list l = length l.rest

abbrev pub invariant-lists::later_expressions-list : goal.invariant-lists::later_expressions-list
invariant-lists::later_expressions-list l = record {
  even : length l.commas.items ≡ length l.list.items;
  reads : with_front (later_trees l.commas.items (map expr_tree l.list.items)) (spec.later_expressions_with (below l.left) l.rest) ≡ spec.later_expressions_with (below l.left) l.tokens;
}

abbrev pub decreases-lists::later_expressions-list : goal.decreases-lists::later_expressions-list
decreases-lists::later_expressions-list l = length l.rest
