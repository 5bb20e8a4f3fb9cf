-- A member function gives a value, but for the first and the last element of a vector.
use Rattle.std.proofs.Common.{◌≡◌, Bool, true, false, if◌then◌else◌, Some, None, refl, sym, ◌∙◌}
use Rattle.std.proofs.lemmas.Bool.{false≢true}
use Rattle.life_types.specs.Types.{Types}
use Rattle.life_typed.specs.declared.typed_expr.Category.{Category}
use Rattle.life_typed.specs.declared.typed_expr.Category.TheVariants as category
use Rattle.life_typed.specs.declared.typed_expr.ExprType.{ExprType}
use Rattle.life_typed.specs.declared.typed_expr.Method.{Method}
use Rattle.life_typed.specs.declared.typed_expr.Method.TheVariants as methods
use Rattle.life_type_expr.specs.Operands.{is_constant}
use Rattle.life_elab_laws.proofs.ViewForms.{gives_as}
use Rattle.life_typed.specs.Members.{answer, has_method, method_answer}
use Rattle.life_well_typed.specs.Members.{IsCalled}
use Rattle.life_elab_laws.proofs.FormKinds.{is_edge}
use Rattle.life_typed.specs.TypedForm.{Form, Typed}
use Rattle.life_typed.specs.declared.typed_expr.ExprType.TheVariants.{Of}
use Rattle.life_elab_laws.proofs.TypedKinds.{none_some}

value_answered : (has : Bool) (x : ExprType × Category) (e : Typed) → x.1 ≡ category.Value → (if has then Some x else None) ≡ Some (e.ty, e.category) → e.category ≡ category.Value
value_answered true x e v is = (gives_as x e is).1 ∙ v
value_answered false x e v is = absurd (none_some is)

pub called_value : (types : Types) (x : ExprType) (c : Category) (m : Method) (given : Form) (e : Typed) → is_edge m ≡ false → IsCalled types x c m given e → e.category ≡ category.Value
called_value types (Of t) c m given e none called = by_member m none called.2
  where
    by_member : (m : Method) → is_edge m ≡ false → method_answer types t (is_constant c) m ≡ Some (e.ty, e.category) → e.category ≡ category.Value
    by_member methods.Front none is = absurd (false≢true (sym none))
    by_member methods.Back none is = absurd (false≢true (sym none))
    by_member m none is = value_answered (has_method t m) (answer types t (is_constant c) m) e refl is
called_value types _ c m given e none called = absurd called

-- what is of a kind that neither end is of
pub no_edge : (kind : Method → Bool) → kind methods.Front ≡ false → kind methods.Back ≡ false → (m : Method) → kind m ≡ true → is_edge m ≡ false
no_edge kind front back methods.Front h = absurd (false≢true (sym front ∙ h))
no_edge kind front back methods.Back h = absurd (false≢true (sym back ∙ h))
no_edge kind front back _ h = refl
