-- What has elements, and what pointers are handed over as, by their types; and what no test decides.
use Rattle.std.proofs.Common.{◌≡◌, Bool, true, false, List, None, Some, refl, sym, ap, ◌∙◌}
use Rattle.std.proofs.lemmas.Bool.{false≢true}
use Rattle.life_types.specs.Types.{class}
use Rattle.life_types.specs.declared.place.Place.{Place}
use Rattle.life_types.specs.declared.ty.Class.{Class}
use Rattle.life_types.specs.declared.ty.Ty.{Ty}
use Rattle.life_types.specs.declared.ty.Ty.TheVariants as ty
use Rattle.life_types.specs.declared.ty.TyId.{TyId}
use Rattle.life_typed.specs.Delimiters.{DelimitersForm}
use Rattle.life_typed.specs.declared.typed_expr.Category.{Category}
use Rattle.life_typed.specs.declared.typed_expr.ExprType.{ExprType}
use Rattle.life_typed.specs.declared.typed_expr.Method.{Method}
use Rattle.life_typed.specs.declared.typed_expr.Method.TheVariants as methods
use Rattle.life_core.specs.Operands.{Location, Operand, Owner, Pointer, PointerOf}
use Rattle.life_writer.specs.Around.{Around}
use Rattle.life_writer.specs.Bases.{base, base_by}
use Rattle.life_writer.specs.Giving.{argument, argument_by, pointer_argument}
use Rattle.life_writer.specs.MethodForms.{method_uses}
use Rattle.life_writer.specs.Uses.{Uses, own}
use Rattle.life_writer.specs.Using.{operand, pointer}
use Rattle.life_writer.specs.Writing.{State, gives, mapped}
use Rattle.life_writer.specs.declared.behind.Behind.{Behind}

-- a span or a view
abbrev pub has_view : Ty → Bool
has_view ty.View = true
has_view (ty.Span target constant) = true
has_view _ = false

base_pointer : (t : Ty) (e : Uses) (s : State) → has_view t ≡ true → base_by t e s ≡ mapped Pointer (pointer e (own e) s)
base_pointer ty.Void e s is = absurd (false≢true is)
base_pointer ty.Bool e s is = absurd (false≢true is)
base_pointer ty.Char e s is = absurd (false≢true is)
base_pointer ty.Int e s is = absurd (false≢true is)
base_pointer ty.Long e s is = absurd (false≢true is)
base_pointer ty.Size e s is = absurd (false≢true is)
base_pointer ty.Text e s is = absurd (false≢true is)
base_pointer ty.View e s is = refl
base_pointer (ty.Vector x) e s is = absurd (false≢true is)
base_pointer (ty.Unique x) e s is = absurd (false≢true is)
base_pointer (ty.Raw x y) e s is = absurd (false≢true is)
base_pointer (ty.Reference x y) e s is = absurd (false≢true is)
base_pointer (ty.Iterator x y) e s is = absurd (false≢true is)
base_pointer (ty.Span x y) e s is = refl
base_pointer (ty.Struct n) e s is = absurd (false≢true is)

pub base_seen : (e : Uses) (t : Ty) (s now : State) (l : Location) → t ≡ own e → has_view t ≡ true → pointer e t s ≡ gives l now → base e s ≡ gives (Pointer l) now
base_seen e t s now l own_is is given =
    ap (λ (x : Ty). base_by x e s) (sym own_is) ∙ base_pointer t e s is
    ∙ ap (λ (x : Ty). mapped Pointer (pointer e x s)) (sym own_is) ∙ ap (mapped Pointer) given

-- .. and what owns its elements
owned_by : (t : Ty) (e : Uses) (s : State) → (t ≡ ty.View → ⊥) → ((x : TyId) (y : Bool) → t ≡ ty.Span x y → ⊥) → base_by t e s ≡ mapped Owner (operand e s)
owned_by ty.Void e s no_view no_span = refl
owned_by ty.Bool e s no_view no_span = refl
owned_by ty.Char e s no_view no_span = refl
owned_by ty.Int e s no_view no_span = refl
owned_by ty.Long e s no_view no_span = refl
owned_by ty.Size e s no_view no_span = refl
owned_by ty.Text e s no_view no_span = refl
owned_by ty.View e s no_view no_span = absurd (no_view refl)
owned_by (ty.Vector x) e s no_view no_span = refl
owned_by (ty.Unique x) e s no_view no_span = refl
owned_by (ty.Raw x y) e s no_view no_span = refl
owned_by (ty.Reference x y) e s no_view no_span = refl
owned_by (ty.Iterator x y) e s no_view no_span = refl
owned_by (ty.Span x y) e s no_view no_span = absurd (no_span x y refl)
owned_by (ty.Struct n) e s no_view no_span = refl

pub base_owned : (e : Uses) (t : Ty) (s now : State) (o : Operand) → t ≡ own e → (t ≡ ty.View → ⊥) → ((x : TyId) (y : Bool) → t ≡ ty.Span x y → ⊥) → operand e s ≡ gives o now → base e s ≡ gives (Owner o) now
base_owned e t s now o own_is no_view no_span given = ap (λ (x : Ty). base_by x e s) (sym own_is) ∙ owned_by t e s no_view no_span ∙ ap (mapped Owner) given

-- ---- pointers that are handed over

unreferred : (a : Around) (e : Uses) (t : Ty) (behind : Place) (s : State) → ((x : TyId) (y : Bool) → t ≡ ty.Reference x y → ⊥) → pointer_argument a e t behind s ≡ mapped PointerOf (pointer e t s)
unreferred a e ty.Void behind s no_reference = refl
unreferred a e ty.Bool behind s no_reference = refl
unreferred a e ty.Char behind s no_reference = refl
unreferred a e ty.Int behind s no_reference = refl
unreferred a e ty.Long behind s no_reference = refl
unreferred a e ty.Size behind s no_reference = refl
unreferred a e ty.Text behind s no_reference = refl
unreferred a e ty.View behind s no_reference = refl
unreferred a e (ty.Vector x) behind s no_reference = refl
unreferred a e (ty.Unique x) behind s no_reference = refl
unreferred a e (ty.Raw x y) behind s no_reference = refl
unreferred a e (ty.Reference x y) behind s no_reference = absurd (no_reference x y refl)
unreferred a e (ty.Iterator x y) behind s no_reference = refl
unreferred a e (ty.Span x y) behind s no_reference = refl
unreferred a e (ty.Struct n) behind s no_reference = refl

pub pointer_handed : (a : Around) (e : Uses) (t : Ty) (behind : Place) (s now : State) (l : Location) → ((x : TyId) (y : Bool) → t ≡ ty.Reference x y → ⊥) → pointer e t s ≡ gives l now
    → pointer_argument a e t behind s ≡ gives (PointerOf l) now
pointer_handed a e t behind s now l no_reference given = unreferred a e t behind s no_reference ∙ ap (mapped PointerOf) given

pub argument_as : (a : Around) (e : Uses) (t : Ty) (behind : Place) (s : State) (k known : Class) → k ≡ class (Some t) → k ≡ known → argument a e t behind s ≡ argument_by a known e t behind s
argument_as a e t behind s k known same is = ap (λ (x : Class). argument_by a x e t behind s) (sym same ∙ is)

pub method_undecided : (a : Around) (m : Method) (e : Uses) (es : List Uses) (d : DelimitersForm) (place : Place) (t : ExprType) (c : Category) (b : Behind) → (method_uses a e m es d place t c).decision b ≡ None
method_undecided a methods.Size e es d place t c b = refl
method_undecided a methods.Empty e es d place t c b = refl
method_undecided a methods.Front e es d place t c b = refl
method_undecided a methods.Back e es d place t c b = refl
method_undecided a methods.Begin e es d place t c b = refl
method_undecided a methods.End e es d place t c b = refl
method_undecided a methods.PushBack e es d place t c b = refl
method_undecided a methods.PopBack e es d place t c b = refl
method_undecided a methods.Clear e es d place t c b = refl
method_undecided a methods.Reserve e es d place t c b = refl
method_undecided a methods.Erase e es d place t c b = refl
method_undecided a methods.Get e es d place t c b = refl
method_undecided a methods.Reset e es d place t c b = refl
method_undecided a methods.Subspan e es d place t c b = refl
method_undecided a methods.Substr e es d place t c b = refl
