-- What is given to an object of a type (ISO/IEC 14882:2017 [dcl.init], [dcl.init.ref]).
use Rattle.std.specs.Prelude.{Bool, true, false}
use Rattle.life_types.specs.TypeTests.{is_raw, is_value}
use Rattle.life_types.specs.Types.{Types}
use Rattle.life_types.specs.declared.ty.Ty.{Ty}
use Rattle.life_typed.specs.Conversions.{fits}
use Rattle.life_typed.specs.TypedForm.{Typed}
use Rattle.life_typed.specs.declared.typed_expr.ExprType.{ExprType}
use Rattle.life_typed.specs.declared.typed_expr.ExprType.TheVariants.{Of, NullPointer, TextLiteral}
use Rattle.life_type_expr.specs.Lists.{fits_at_all}

abbrev pub is_number : ExprType → Bool
is_number (Of t) = is_value t
is_number NullPointer = false
is_number TextLiteral = false

abbrev pub is_pointer : ExprType → Bool
is_pointer (Of t) = is_raw t
is_pointer NullPointer = true
is_pointer TextLiteral = false

-- it fits (ISO/IEC 14882:2017 [conv], [dcl.init.ref])
abbrev pub is_given : Types → Ty → Typed → Bool
is_given types target e = fits_at_all (fits types target e.ty e.category)
