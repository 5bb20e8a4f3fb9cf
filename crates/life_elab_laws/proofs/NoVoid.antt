-- What is of a kind that void isn't of isn't void.
use Rattle.std.proofs.Common.{◌≡◌, Bool, true, false, refl, sym, ◌∙◌}
use Rattle.std.proofs.lemmas.Bool.{false≢true}
use Rattle.life_types.specs.TypeTests.{is_void}
use Rattle.life_types.specs.declared.ty.Ty.{Ty}
use Rattle.life_types.specs.declared.ty.Ty.TheVariants as ty
use Rattle.life_typed.specs.declared.typed_expr.ExprType.{ExprType}
use Rattle.life_typed.specs.declared.typed_expr.ExprType.TheVariants.{NullPointer, Of, TextLiteral}
use Rattle.life_elab_laws.proofs.TypeKinds.{has_type, is_void_type}

pub no_void : (kind : Ty → Bool) → kind ty.Void ≡ false → (t : Ty) → kind t ≡ true → is_void t ≡ false
no_void kind none ty.Void h = absurd (false≢true (sym none ∙ h))
no_void kind none _ h = refl

-- .. nor is an expression's type
pub type_no_void : (kind : Ty → Bool) → kind ty.Void ≡ false → (t : ExprType) → has_type kind t ≡ true → is_void_type t ≡ false
type_no_void kind none (Of t) h = no_void kind none t h
type_no_void kind none NullPointer h = refl
type_no_void kind none TextLiteral h = refl
