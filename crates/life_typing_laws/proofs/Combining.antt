-- The parts of the type that an operator gives are there, if those of its operands' types are.
use Rattle.std.proofs.Common.{◌≡◌, true, Ok}
use Rattle.life_types.specs.TypeTests.{is_value}
use Rattle.life_types.specs.Types.{Types, HasParts}
use Rattle.life_types.specs.declared.ty.Ty.{Ty}
use Rattle.life_types.specs.declared.ty.Ty.TheVariants as ty
use Rattle.life_typed.specs.Operators.{combined, negated}
use Rattle.life_typed.specs.declared.typed_expr.BinaryOperator.{BinaryOperator}
use Rattle.life_typed.specs.declared.typed_expr.ExprType.{ExprType}
use Rattle.life_typed.specs.declared.typed_expr.ExprType.TheVariants.{Of, NullPointer, TextLiteral}
use Rattle.life_well_typed.proofs.Combined.{combined_holds, negated_holds}
use Rattle.life_typing_laws.proofs.Typed.{PartsThere}

module _ (types : Types) where
  number_parts : (t : Ty) → is_value t ≡ true → HasParts types t
  number_parts ty.Bool b = tt
  number_parts ty.Char b = tt
  number_parts ty.Int b = tt
  number_parts ty.Long b = tt
  number_parts ty.Size b = tt
  number_parts _ b = absurd (cc)

  pub combined_parts : (operator : BinaryOperator) (a b : ExprType) (t : Ty) → PartsThere types a → combined operator a b ≡ Ok t → HasParts types t
  combined_parts operator (Of a) b t parts e = combined_holds (HasParts types) number_parts tt operator (Of a) b t parts e
  combined_parts operator NullPointer b t parts e = combined_holds (HasParts types) number_parts tt operator NullPointer b t tt e
  combined_parts operator TextLiteral b t parts e = combined_holds (HasParts types) number_parts tt operator TextLiteral b t tt e

  pub negated_parts : (a : ExprType) (t : Ty) → negated a ≡ Ok t → HasParts types t
  negated_parts a t e = negated_holds (HasParts types) number_parts tt a t e
