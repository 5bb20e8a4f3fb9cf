-- What member functions, operators and `std::string(e)` aren't: they name no variable, and but for a string's own they need a temporary where an owner is assigned to.
use Rattle.std.proofs.Common.{◌≡◌, List, None, refl}
use Rattle.life_types.specs.declared.place.Place.{Place}
use Rattle.life_types.specs.declared.ty.Ty.{Ty}
use Rattle.life_types.specs.declared.ty.Ty.TheVariants as ty
use Rattle.life_typed.specs.Delimiters.{DelimitersForm}
use Rattle.life_typed.specs.declared.typed_expr.Category.{Category}
use Rattle.life_typed.specs.declared.typed_expr.Category.TheVariants as category
use Rattle.life_typed.specs.declared.typed_expr.ExprType.{ExprType}
use Rattle.life_typed.specs.declared.typed_expr.Method.{Method}
use Rattle.life_typed.specs.declared.typed_expr.Method.TheVariants as methods
use Rattle.life_writer.specs.Around.{Around}
use Rattle.life_writer.specs.ExpressionForms.{binary_uses}
use Rattle.life_writer.specs.MethodForms.{method_uses}
use Rattle.life_writer.specs.OwnerForms.{replacing_by, replacing_string, string_of, string_of_string, string_uses}
use Rattle.life_writer.specs.Uses.{Uses, own}
use Rattle.life_writer.specs.declared.behind.Behind.{Behind}
use Rattle.life_writer.specs.declared.rows.Row.{Row}
use Rattle.life_writer.specs.declared.rows.Row.TheVariants as row

abbrev pub IsNameless : Uses → Type 0
IsNameless e = (e.named ≡ None) × (e.replacing ≡ None)

pub method_nameless : (a : Around) (m : Method) (e : Uses) (es : List Uses) (d : DelimitersForm) (place : Place) (t : ExprType) (c : Category) → IsNameless (method_uses a e m es d place t c)
method_nameless a methods.Size e es d place t c = (refl, refl)
method_nameless a methods.Empty e es d place t c = (refl, refl)
method_nameless a methods.Front e es d place t c = (refl, refl)
method_nameless a methods.Back e es d place t c = (refl, refl)
method_nameless a methods.Begin e es d place t c = (refl, refl)
method_nameless a methods.End e es d place t c = (refl, refl)
method_nameless a methods.PushBack e es d place t c = (refl, refl)
method_nameless a methods.PopBack e es d place t c = (refl, refl)
method_nameless a methods.Clear e es d place t c = (refl, refl)
method_nameless a methods.Reserve e es d place t c = (refl, refl)
method_nameless a methods.Erase e es d place t c = (refl, refl)
method_nameless a methods.Get e es d place t c = (refl, refl)
method_nameless a methods.Reset e es d place t c = (refl, refl)
method_nameless a methods.Subspan e es d place t c = (refl, refl)
method_nameless a methods.Substr e es d place t c = (refl, refl)

pub operator_nameless : (w : Row) (left right : Uses) (place : Place) (t : ExprType) (c : Category) → IsNameless (binary_uses w left right place t c)
operator_nameless (row.Computed by common) left right place t c = (refl, refl)
operator_nameless (row.Joined by) left right place t c = (refl, refl)
operator_nameless (row.IsNull side) left right place t c = (refl, refl)
operator_nameless (row.NotNull side) left right place t c = (refl, refl)
operator_nameless row.Concatenated left right place t c = (refl, refl)
operator_nameless (row.Advanced direction) left right place t c = (refl, refl)
operator_nameless (row.Compared equal) left right place t c = (refl, refl)

-- ---- `std::string(e)`

abbrev IsUndecided : Uses → Type 0
IsUndecided e = (e.named ≡ None) × ((b : Behind) → e.decision b ≡ None)

string_plain : (k : Category) (e : Uses) (place : Place) (t : ExprType) (c : Category) → IsUndecided (string_of_string k e place t c)
string_plain category.Value e place t c = (refl, λ b. refl)
string_plain (category.Place id constant) e place t c = (refl, λ b. refl)

text_plain : (u : Ty) (e : Uses) (place : Place) (t : ExprType) (c : Category) → IsUndecided (string_of u e place t c)
text_plain ty.Text e place t c = string_plain e.category e place t c
text_plain ty.Void e place t c = (refl, λ b. refl)
text_plain ty.Bool e place t c = (refl, λ b. refl)
text_plain ty.Char e place t c = (refl, λ b. refl)
text_plain ty.Int e place t c = (refl, λ b. refl)
text_plain ty.Long e place t c = (refl, λ b. refl)
text_plain ty.Size e place t c = (refl, λ b. refl)
text_plain ty.View e place t c = (refl, λ b. refl)
text_plain (ty.Vector x) e place t c = (refl, λ b. refl)
text_plain (ty.Unique x) e place t c = (refl, λ b. refl)
text_plain (ty.Raw x y) e place t c = (refl, λ b. refl)
text_plain (ty.Reference x y) e place t c = (refl, λ b. refl)
text_plain (ty.Iterator x y) e place t c = (refl, λ b. refl)
text_plain (ty.Span x y) e place t c = (refl, λ b. refl)
text_plain (ty.Struct n) e place t c = (refl, λ b. refl)

pub text_nameless : (e : Uses) (place : Place) (t : ExprType) (c : Category) → (string_uses e place t c).named ≡ None
text_nameless e place t c = (text_plain (own e) e place t c).0

pub text_undecided : (e : Uses) (place : Place) (t : ExprType) (c : Category) (b : Behind) → (string_uses e place t c).decision b ≡ None
text_undecided e place t c b = (text_plain (own e) e place t c).1 b

string_replaces : (k : Category) (e : Uses) (place : Place) (t : ExprType) (c : Category) → (string_of_string k e place t c).replacing ≡ replacing_by ty.Text k e.replacing
string_replaces category.Value e place t c = refl
string_replaces (category.Place id constant) e place t c = refl

text_replaces : (u : Ty) (e : Uses) (place : Place) (t : ExprType) (c : Category) → (string_of u e place t c).replacing ≡ replacing_by u e.category e.replacing
text_replaces ty.Text e place t c = string_replaces e.category e place t c
text_replaces ty.Void e place t c = refl
text_replaces ty.Bool e place t c = refl
text_replaces ty.Char e place t c = refl
text_replaces ty.Int e place t c = refl
text_replaces ty.Long e place t c = refl
text_replaces ty.Size e place t c = refl
text_replaces ty.View e place t c = refl
text_replaces (ty.Vector x) e place t c = refl
text_replaces (ty.Unique x) e place t c = refl
text_replaces (ty.Raw x y) e place t c = refl
text_replaces (ty.Reference x y) e place t c = refl
text_replaces (ty.Iterator x y) e place t c = refl
text_replaces (ty.Span x y) e place t c = refl
text_replaces (ty.Struct n) e place t c = refl

pub string_replacing : (e : Uses) (place : Place) (t : ExprType) (c : Category) → (string_uses e place t c).replacing ≡ replacing_string e
string_replacing e place t c = text_replaces (own e) e place t c
