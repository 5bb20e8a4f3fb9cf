-- Operators from the numbers of their tokens.
use Rattle.std.proofs.Common.{◌≡◌, ℕ, refl}
use Rattle.std.specs.Prelude.{◌==◌, if◌then◌else◌}
use Rattle.life_tree.specs.Views.{equality_number, relational_number, additive_number, multiplicative_number, prefix_number, compound_number, step_number}
use Rattle.life_tree.specs.declared.fixed.TheConstants as fixed
use Rattle.life_tree.specs.declared.operator.EqualityOperator.{EqualityOperator}
use Rattle.life_tree.specs.declared.operator.EqualityOperator.TheVariants as equality_operator
use Rattle.life_tree.specs.declared.operator.RelationalOperator.{RelationalOperator}
use Rattle.life_tree.specs.declared.operator.RelationalOperator.TheVariants as relational_operator
use Rattle.life_tree.specs.declared.operator.AdditiveOperator.{AdditiveOperator}
use Rattle.life_tree.specs.declared.operator.AdditiveOperator.TheVariants as additive_operator
use Rattle.life_tree.specs.declared.operator.MultiplicativeOperator.{MultiplicativeOperator}
use Rattle.life_tree.specs.declared.operator.MultiplicativeOperator.TheVariants as multiplicative_operator
use Rattle.life_tree.specs.declared.operator.PrefixOperator.{PrefixOperator}
use Rattle.life_tree.specs.declared.operator.PrefixOperator.TheVariants as prefix_operator
use Rattle.life_tree.specs.declared.operator.CompoundOperator.{CompoundOperator}
use Rattle.life_tree.specs.declared.operator.CompoundOperator.TheVariants as compound_operator
use Rattle.life_tree.specs.declared.operator.StepOperator.{StepOperator}
use Rattle.life_tree.specs.declared.operator.StepOperator.TheVariants as step_operator

abbrev pub equality_of : ℕ → EqualityOperator
equality_of n = if n == fixed.EQUAL then equality_operator.Equal else (equality_operator.NotEqual)

pub equality_is : (o : EqualityOperator) → equality_of (equality_number o) ≡ o
equality_is equality_operator.Equal = refl
equality_is equality_operator.NotEqual = refl

abbrev pub relational_of : ℕ → RelationalOperator
relational_of n = if n == fixed.LESS then relational_operator.Less else (if n == fixed.LESS_EQUAL then relational_operator.LessEqual else (if n == fixed.GREATER then relational_operator.Greater else (relational_operator.GreaterEqual)))

pub relational_is : (o : RelationalOperator) → relational_of (relational_number o) ≡ o
relational_is relational_operator.Less = refl
relational_is relational_operator.LessEqual = refl
relational_is relational_operator.Greater = refl
relational_is relational_operator.GreaterEqual = refl

abbrev pub additive_of : ℕ → AdditiveOperator
additive_of n = if n == fixed.PLUS then additive_operator.Add else (additive_operator.Subtract)

pub additive_is : (o : AdditiveOperator) → additive_of (additive_number o) ≡ o
additive_is additive_operator.Add = refl
additive_is additive_operator.Subtract = refl

abbrev pub multiplicative_of : ℕ → MultiplicativeOperator
multiplicative_of n = if n == fixed.STAR then multiplicative_operator.Multiply else (if n == fixed.SLASH then multiplicative_operator.Divide else (multiplicative_operator.Remainder))

pub multiplicative_is : (o : MultiplicativeOperator) → multiplicative_of (multiplicative_number o) ≡ o
multiplicative_is multiplicative_operator.Multiply = refl
multiplicative_is multiplicative_operator.Divide = refl
multiplicative_is multiplicative_operator.Remainder = refl

abbrev pub prefix_of : ℕ → PrefixOperator
prefix_of n = if n == fixed.NOT then prefix_operator.Not else (if n == fixed.MINUS then prefix_operator.Negate else (if n == fixed.STAR then prefix_operator.Dereference else (prefix_operator.AddressOf)))

pub prefix_is : (o : PrefixOperator) → prefix_of (prefix_number o) ≡ o
prefix_is prefix_operator.Not = refl
prefix_is prefix_operator.Negate = refl
prefix_is prefix_operator.Dereference = refl
prefix_is prefix_operator.AddressOf = refl

abbrev pub compound_of : ℕ → CompoundOperator
compound_of n = if n == fixed.PLUS_ASSIGN then compound_operator.Add else (if n == fixed.MINUS_ASSIGN then compound_operator.Subtract else (if n == fixed.STAR_ASSIGN then compound_operator.Multiply else (if n == fixed.SLASH_ASSIGN then compound_operator.Divide else (compound_operator.Remainder))))

pub compound_is : (o : CompoundOperator) → compound_of (compound_number o) ≡ o
compound_is compound_operator.Add = refl
compound_is compound_operator.Subtract = refl
compound_is compound_operator.Multiply = refl
compound_is compound_operator.Divide = refl
compound_is compound_operator.Remainder = refl

abbrev pub step_of : ℕ → StepOperator
step_of n = if n == fixed.PLUS_PLUS then step_operator.Increment else (step_operator.Decrement)

pub step_is : (o : StepOperator) → step_of (step_number o) ≡ o
step_is step_operator.Increment = refl
step_is step_operator.Decrement = refl
