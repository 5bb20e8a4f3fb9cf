-- The call that an expression is.
use Rattle.std.proofs.Common.{◌≡◌, Bool, true, false, List, Option, None, Some, refl}
use Rattle.std.specs.Prelude.{if◌then◌else◌, not, ◌&&◌}
use Rattle.life_types.specs.contracts.ty.TyPartialEq.TheImpl.{ghosts as compared}
use Rattle.life_types.specs.declared.ty.Ty.{Ty}
use Rattle.life_types.specs.declared.ty.Ty.TheVariants as ty
use Rattle.life_types.specs.declared.place.Place.{Place}
use Rattle.life_typed.specs.Conversions.{is_place}
use Rattle.life_typed.specs.Delimiters.{DelimitersForm}
use Rattle.life_typed.specs.TypedForm as form
use Rattle.life_typed.specs.TypedForm.{Form, Typed, ◌⨟◌, whole}
use Rattle.life_typed.specs.declared.typed_expr.Category.{Category}
use Rattle.life_typed.specs.declared.typed_expr.Category.TheVariants as category
use Rattle.life_typed.specs.declared.typed_expr.ExprType.{ExprType}
use Rattle.life_typed.specs.declared.typed_expr.Method.{Method}
use Rattle.life_typed.specs.declared.typed_expr.Method.TheVariants as methods
use Rattle.life_core.specs.Operands.{Location}
use Rattle.life_core.specs.Step.{Step}
use Rattle.life_writer.specs.Around.{Around, own_type}
use Rattle.life_writer.specs.Calls.{Called, call_for, expression_call, form_call}
use Rattle.life_writer.specs.ExpressionForms.{all_uses, binary_uses, called_with, form_uses, uses}
use Rattle.life_writer.specs.Giving.{call_to}
use Rattle.life_writer.specs.MethodForms.{method_uses}
use Rattle.life_writer.specs.OwnerForms.{string_of, string_of_string}
use Rattle.life_writer.specs.Rows.{row_between}
use Rattle.life_writer.specs.Uses.{Uses, own}
use Rattle.life_writer.specs.Writing.{State, Gives}
use Rattle.life_writer.specs.declared.rows.Row.{Row}
use Rattle.life_writer.specs.declared.rows.Row.TheVariants as row

-- ---- what is no call

no_operator : (w : Row) (left right : Uses) (place : Place) (t : ExprType) (c : Category) → (binary_uses w left right place t c).call ≡ None
no_operator (row.Computed by common) left right place t c = refl
no_operator (row.Joined by) left right place t c = refl
no_operator (row.IsNull side) left right place t c = refl
no_operator (row.NotNull side) left right place t c = refl
no_operator row.Concatenated left right place t c = refl
no_operator (row.Advanced direction) left right place t c = refl
no_operator (row.Compared equal) left right place t c = refl

no_method : (a : Around) (m : Method) (e : Uses) (es : List Uses) (d : DelimitersForm) (place : Place) (t : ExprType) (c : Category) → (method_uses a e m es d place t c).call ≡ None
no_method a methods.Size e es d place t c = refl
no_method a methods.Empty e es d place t c = refl
no_method a methods.Front e es d place t c = refl
no_method a methods.Back e es d place t c = refl
no_method a methods.Begin e es d place t c = refl
no_method a methods.End e es d place t c = refl
no_method a methods.PushBack e es d place t c = refl
no_method a methods.PopBack e es d place t c = refl
no_method a methods.Clear e es d place t c = refl
no_method a methods.Reserve e es d place t c = refl
no_method a methods.Erase e es d place t c = refl
no_method a methods.Get e es d place t c = refl
no_method a methods.Reset e es d place t c = refl
no_method a methods.Subspan e es d place t c = refl
no_method a methods.Substr e es d place t c = refl

no_string : (k : Category) (e : Uses) (place : Place) (t : ExprType) (c : Category) → (string_of_string k e place t c).call ≡ None
no_string category.Value e place t c = refl
no_string (category.Place id constant) e place t c = refl

no_text : (u : Ty) (e : Uses) (place : Place) (t : ExprType) (c : Category) → (string_of u e place t c).call ≡ None
no_text ty.Text e place t c = no_string e.category e place t c
no_text ty.Void e place t c = refl
no_text ty.Bool e place t c = refl
no_text ty.Char e place t c = refl
no_text ty.Int e place t c = refl
no_text ty.Long e place t c = refl
no_text ty.Size e place t c = refl
no_text ty.View e place t c = refl
no_text (ty.Vector x) e place t c = refl
no_text (ty.Unique x) e place t c = refl
no_text (ty.Raw x y) e place t c = refl
no_text (ty.Reference x y) e place t c = refl
no_text (ty.Iterator x y) e place t c = refl
no_text (ty.Span x y) e place t c = refl
no_text (ty.Struct n) e place t c = refl

-- ---- any expression

module _ (a : Around) where
  -- a call, with a hole for its result
  abbrev pub calling : Option Called → Option (State → Gives (Location → Step))
  calling None = None
  calling (Some c) = Some (called_with a c.function (all_uses a c.arguments) c.delimiters)

  mutual
    expression_calls : (f : Form) → (uses a f).call ≡ calling (expression_call f)
    expression_calls (form.typed place t c f) = form_calls f place t c
    expression_calls (form.number n) = refl
    expression_calls (form.character n) = refl
    expression_calls (form.boolean b) = refl
    expression_calls (form.text n) = refl
    expression_calls form.null = refl
    expression_calls (form.local x) = refl
    expression_calls (form.call f es d) = refl
    expression_calls (form.construct n es d) = refl
    expression_calls (form.paren e closing) = refl
    expression_calls (form.move x) = refl
    expression_calls (form.make_unique target e closing) = refl
    expression_calls (form.text_of e closing) = refl
    expression_calls form.input = refl
    expression_calls (form.member e m) = refl
    expression_calls (form.dereference e) = refl
    expression_calls (form.index e i closing) = refl
    expression_calls (form.method e m es d) = refl
    expression_calls (form.negate e) = refl
    expression_calls (form.not e) = refl
    expression_calls (form.address_of e) = refl
    expression_calls (form.binary o left right) = refl
    expression_calls form.nothing = refl
    expression_calls (e ⨟ es) = refl

    pub form_calls : (f : Form) (place : Place) (t : ExprType) (c : Category) → (form_uses a f place t c).call ≡ calling (form_call f)
    form_calls (form.paren inner closing) place t c = expression_calls inner
    form_calls (form.binary o left right) place t c = no_operator (row_between o left right) (uses a left) (uses a right) place t c
    form_calls (form.method e m es d) place t c = no_method a m (uses a e) (all_uses a es) d place t c
    form_calls (form.text_of e closing) place t c = no_text (own (uses a e)) (uses a e) place t c
    form_calls (form.number n) place t c = refl
    form_calls (form.character n) place t c = refl
    form_calls (form.boolean b) place t c = refl
    form_calls (form.text n) place t c = refl
    form_calls form.null place t c = refl
    form_calls (form.local x) place t c = refl
    form_calls (form.call f es d) place t c = refl
    form_calls (form.construct n es d) place t c = refl
    form_calls (form.move x) place t c = refl
    form_calls (form.make_unique target e closing) place t c = refl
    form_calls form.input place t c = refl
    form_calls (form.member e m) place t c = refl
    form_calls (form.dereference e) place t c = refl
    form_calls (form.index e i closing) place t c = refl
    form_calls (form.negate e) place t c = refl
    form_calls (form.not e) place t c = refl
    form_calls (form.address_of e) place t c = refl
    form_calls (form.typed at u k f) place t c = refl
    form_calls form.nothing place t c = refl
    form_calls (e ⨟ es) place t c = refl

  -- where its result needs no conversion
  pub call_for_seen : (e : Typed) (t : Ty) → call_to (uses a (whole e)) t ≡ calling (call_for e t)
  call_for_seen e t = go (compared.eq (own_type e.ty) t && not (is_place e.category))
    where
      go : (b : Bool) → (if b then (uses a (whole e)).call else None) ≡ calling (if b then form_call e.form else None)
      go true = form_calls e.form e.place e.ty e.category
      go false = refl
