-- What is given to a value is a number, to a raw pointer a pointer or nullptr, and to a view what is seen.
use Rattle.std.proofs.Common.{◌≡◌, Bool, true, false, not, Some, refl}
use Rattle.std.proofs.lemmas.Bool.{false≢true}
use Rattle.life_types.specs.TypeTests.{is_raw, is_value}
use Rattle.life_types.specs.Types.{Types}
use Rattle.life_types.specs.declared.ty.Ty.{Ty}
use Rattle.life_types.specs.declared.ty.Ty.TheVariants as ty
use Rattle.life_typed.specs.Conversions.{fits, unless}
use Rattle.life_typed.specs.Operators.{is_text_like}
use Rattle.life_typed.specs.TypedForm.{Typed}
use Rattle.life_typed.specs.declared.misfit.Misfit.TheVariants.{General}
use Rattle.life_typed.specs.declared.typed_expr.Category.{Category}
use Rattle.life_typed.specs.declared.typed_expr.ExprType.{ExprType}
use Rattle.life_typed.specs.declared.typed_expr.ExprType.TheVariants.{Of, NullPointer, TextLiteral}
use Rattle.life_type_expr.specs.Lists.{fits_at_all, is_taken}
use Rattle.life_well_typed.specs.Given.{is_given, is_number}
use Rattle.life_elab_laws.proofs.Locations.{is_pointed}
use Rattle.life_elab_laws.proofs.RowTypes.{sees}
use Rattle.life_elab_laws.proofs.Values.{by_values}

abbrev Fits : Types → Ty → ExprType → Category → Type 0
Fits types t u c = fits_at_all (fits types t u c) ≡ true

tested : (b : Bool) → fits_at_all (unless (not b) General) ≡ true → b ≡ true
tested true h = refl
tested false h = absurd (false≢true h)

value_kind : (types : Types) (t : Ty) (u : ExprType) (c : Category) → is_value t ≡ true → Fits types t u c → is_number u ≡ true
value_kind types ty.Bool (Of s) c v h = tested (is_value s) h
value_kind types ty.Char (Of s) c v h = tested (is_value s) h
value_kind types ty.Int (Of s) c v h = tested (is_value s) h
value_kind types ty.Long (Of s) c v h = tested (is_value s) h
value_kind types ty.Size (Of s) c v h = tested (is_value s) h
value_kind types ty.Bool NullPointer c v h = absurd (false≢true h)
value_kind types ty.Char NullPointer c v h = absurd (false≢true h)
value_kind types ty.Int NullPointer c v h = absurd (false≢true h)
value_kind types ty.Long NullPointer c v h = absurd (false≢true h)
value_kind types ty.Size NullPointer c v h = absurd (false≢true h)
value_kind types ty.Bool TextLiteral c v h = absurd (false≢true h)
value_kind types ty.Char TextLiteral c v h = absurd (false≢true h)
value_kind types ty.Int TextLiteral c v h = absurd (false≢true h)
value_kind types ty.Long TextLiteral c v h = absurd (false≢true h)
value_kind types ty.Size TextLiteral c v h = absurd (false≢true h)
value_kind types _ u c v h = absurd (false≢true v)

pointer_kind : (types : Types) (t : Ty) (u : ExprType) (c : Category) → is_raw t ≡ true → Fits types t u c → is_pointed u ≡ true
pointer_kind types (ty.Raw target constant) (Of (ty.Raw found held)) c r h = refl
pointer_kind types (ty.Raw target constant) (Of _) c r h = absurd (false≢true h)
pointer_kind types (ty.Raw target constant) NullPointer c r h = refl
pointer_kind types (ty.Raw target constant) TextLiteral c r h = absurd (false≢true h)
pointer_kind types _ u c r h = absurd (false≢true r)

view_kind : (types : Types) (u : ExprType) (c : Category) → Fits types ty.View u c → sees u ≡ true
view_kind types (Of s) c h = tested (is_text_like s) h
view_kind types NullPointer c h = absurd (false≢true h)
view_kind types TextLiteral c h = refl

pub given_number : (types : Types) (t : Ty) (e : Typed) → is_value t ≡ true → is_given types t e ≡ true → is_number e.ty ≡ true
given_number types t e v given = value_kind types t e.ty e.category v given

pub given_pointer : (types : Types) (t : Ty) (e : Typed) → is_raw t ≡ true → is_given types t e ≡ true → is_pointed e.ty ≡ true
given_pointer types t e r given = pointer_kind types t e.ty e.category r given

-- what is given to a view has characters that are seen
pub given_view : (types : Types) (e : Typed) → is_given types ty.View e ≡ true → sees e.ty ≡ true
given_view types e given = view_kind types e.ty e.category given

-- what is taken for a value is a number
pub taken_number : (types : Types) (t : Ty) (e : Typed) → is_value t ≡ true → is_taken types (Some t) e ≡ true → is_number e.ty ≡ true
taken_number types t e v taken = value_kind types t e.ty e.category v (by_values (λ t. is_taken types (Some t) e ≡ true → Fits types t e.ty e.category) (λ h. h) (λ h. h) (λ h. h) (λ h. h) (λ h. h) t v taken)
