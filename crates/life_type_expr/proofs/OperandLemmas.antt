-- An operand with the operator before it, step by step.
use Rattle.std.proofs.Common.{◌≡◌, Bool, Result, Ok}
use Rattle.life_types.specs.Types.{Types}
use Rattle.life_types.specs.declared.place.Place.{Place}
use Rattle.life_typed.specs.Operators.{takes_literals}
use Rattle.life_typed.specs.TypedForm.{Typed}
use Rattle.life_typed.specs.declared.typed_expr.BinaryOperator.{BinaryOperator}
use Rattle.life_names.specs.Checked.{Checked, ◌>>=◌, Fails, Gives}
use Rattle.life_names.specs.Environment.{Scope}
use Rattle.life_type_expr.specs.Expressions.{operand_part}
use Rattle.life_names.specs.Found.{Finds, Misses, found_in, given}
use Rattle.life_type_expr.specs.Lists.{Meaning}
use Rattle.life_type_expr.specs.Operands.{combination, literal_allowed}
use Rattle.life_names.specs.declared.fault.IllFault.{IllFault}
use Rattle.life_names.proofs.Steps.{bind_fails, bind_goes, found_gives, given_fails, given_goes}

abbrev pub behind_right : BinaryOperator → Place → Typed → Typed × Types → Checked Typed
behind_right operator place left x = given (literal_allowed (takes_literals operator) x.0) (λ _. found_in x.1 (combination operator place left x.0))

module _ (operator : BinaryOperator) (place : Place) (operand : Meaning) (left : Typed) (scope : Scope) (types : Types) (total : Checked Typed) (is : total ≡ operand_part operator place operand left scope types)
    (takes : Bool) (same : takes ≡ takes_literals operator) where
  -- what stands before it is a literal that isn't taken
  pub left_fails : (e : IllFault) → Misses e (literal_allowed takes left) → Fails e total
  left_fails e f = given_fails (literal_allowed (takes_literals operator) left) (λ _. operand scope types >>= behind_right operator place left) e total is (rw same at f)

  behind : literal_allowed takes left ≡ Ok tt → total ≡ operand scope types >>= behind_right operator place left
  behind f = given_goes (literal_allowed (takes_literals operator) left) (λ _. operand scope types >>= behind_right operator place left) tt total is (rw same at f)

  -- the operand fails
  pub right_fails : (e : IllFault) → literal_allowed takes left ≡ Ok tt → Fails e (operand scope types) → Fails e total
  right_fails e f r = bind_fails (operand scope types) (behind_right operator place left) e total (behind f) r

  -- it is a literal that isn't taken
  pub right_literal : (again : Bool) (e : IllFault) (x : Typed × Types) → again ≡ takes_literals operator → literal_allowed takes left ≡ Ok tt → operand scope types ≡ Ok x → Misses e (literal_allowed again x.0) → Fails e total
  right_literal again e x same_again f r g =
      given_fails (literal_allowed (takes_literals operator) x.0) (λ _. found_in x.1 (combination operator place left x.0)) e total
      (bind_goes (operand scope types) (behind_right operator place left) x total (behind f) r) (rw same_again at g)

  -- both are there
  pub joined : {X : Type 0} (view : X → Typed) (again : Bool) (x : Typed × Types) (r : Result X IllFault) → again ≡ takes_literals operator → literal_allowed takes left ≡ Ok tt → operand scope types ≡ Ok x
      → literal_allowed again x.0 ≡ Ok tt → Finds view r (combination operator place left x.0) → Gives view x.1 r total
  joined view again x r same_again f right g found =
      found_gives view x.1 r (combination operator place left x.0) total
      (given_goes (literal_allowed (takes_literals operator) x.0) (λ _. found_in x.1 (combination operator place left x.0)) tt total
      (bind_goes (operand scope types) (behind_right operator place left) x total (behind f) right) (rw same_again at g))
      found
