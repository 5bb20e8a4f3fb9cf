-- `std::string(e)`, by what e is.
use Rattle.std.proofs.Common.{◌≡◌, Bool, true, false, Option, None, refl, sym, ap, ◌∙◌}
use Rattle.std.proofs.lemmas.Bool.{false≢true}
use Rattle.life_types.specs.TypeTests.{is_text}
use Rattle.life_types.specs.declared.place.Place.{Place}
use Rattle.life_types.specs.declared.ty.Ty.{Ty}
use Rattle.life_types.specs.declared.ty.Ty.TheVariants as ty
use Rattle.life_types.specs.declared.ty.TyId.{TyId}
use Rattle.life_typed.specs.declared.typed_expr.Category.{Category}
use Rattle.life_typed.specs.declared.typed_expr.Category.TheVariants as category
use Rattle.life_typed.specs.declared.typed_expr.ExprType.{ExprType}
use Rattle.life_core.specs.Operands.{Location, Operand}
use Rattle.life_core.specs.declared.instr.Form.TheVariants.{Plain}
use Rattle.life_writer.specs.OwnerForms.{copied_at, replacing_by, replacing_string, set_to, standing, string_of, string_of_string}
use Rattle.life_writer.specs.Uses.{Act, Remaining, Uses, lived, own}
use Rattle.life_writer.specs.Using.{pointer}
use Rattle.life_writer.specs.Writing.{State, Gives, gives, ◌>>◌, mapped}

-- ---- what it builds

-- a copy of a string at a place
pub string_copied : (k : Category) (e : Uses) (place : Place) (t : ExprType) (c : Category) (s now : State) (o : Operand) (id : TyId) (constant : Bool) → k ≡ category.Place id constant → e.at s ≡ gives o now
    → (string_of_string k e place t c).object s ≡ gives (lived Plain (copied_at place o)) now
string_copied k e place t c s now o id constant is given =
    ap (λ (x : Category). (string_of_string x e place t c).object s) is ∙ ap (mapped (λ from. lived Plain (copied_at place from))) given

-- .. and what a view sees
abbrev seen_string : Uses → Place → State → Gives Remaining
seen_string e place s = pointer e ty.View s >> λ view s. gives (lived Plain (standing place (set_to view))) s

string_else : (u : Ty) (e : Uses) (place : Place) (t : ExprType) (c : Category) (s : State) → (u ≡ ty.Text → ⊥) → (string_of u e place t c).object s ≡ seen_string e place s
string_else ty.Void e place t c s other = refl
string_else ty.Bool e place t c s other = refl
string_else ty.Char e place t c s other = refl
string_else ty.Int e place t c s other = refl
string_else ty.Long e place t c s other = refl
string_else ty.Size e place t c s other = refl
string_else ty.Text e place t c s other = absurd (other refl)
string_else ty.View e place t c s other = refl
string_else (ty.Vector x) e place t c s other = refl
string_else (ty.Unique x) e place t c s other = refl
string_else (ty.Raw x y) e place t c s other = refl
string_else (ty.Reference x y) e place t c s other = refl
string_else (ty.Iterator x y) e place t c s other = refl
string_else (ty.Span x y) e place t c s other = refl
string_else (ty.Struct n) e place t c s other = refl

pub string_of_view : (u : Ty) (e : Uses) (place : Place) (t : ExprType) (c : Category) (s now : State) (l : Location) → u ≡ own e → (u ≡ ty.Text → ⊥) → pointer e ty.View s ≡ gives l now
    → (string_of (own e) e place t c).object s ≡ gives (lived Plain (standing place (set_to l))) now
string_of_view u e place t c s now l own_is other given =
    ap (λ (x : Ty). (string_of x e place t c).object s) (sym own_is) ∙ string_else u e place t c s other
    ∙ ap (λ (w : Gives Location). gives (lived Plain (standing place (set_to w.given))) w.state) given

-- ---- what is done to a string that it is assigned to

module _ (act : Option (State → Gives Act)) where
  as_string : (u : Ty) → is_text u ≡ true → replacing_by u category.Value act ≡ act
  as_string ty.Void is = absurd (false≢true is)
  as_string ty.Bool is = absurd (false≢true is)
  as_string ty.Char is = absurd (false≢true is)
  as_string ty.Int is = absurd (false≢true is)
  as_string ty.Long is = absurd (false≢true is)
  as_string ty.Size is = absurd (false≢true is)
  as_string ty.Text is = refl
  as_string ty.View is = absurd (false≢true is)
  as_string (ty.Vector x) is = absurd (false≢true is)
  as_string (ty.Unique x) is = absurd (false≢true is)
  as_string (ty.Raw x y) is = absurd (false≢true is)
  as_string (ty.Reference x y) is = absurd (false≢true is)
  as_string (ty.Iterator x y) is = absurd (false≢true is)
  as_string (ty.Span x y) is = absurd (false≢true is)
  as_string (ty.Struct n) is = absurd (false≢true is)

  nothing_of : (u : Ty) (c : Category) → is_text u ≡ false → replacing_by u c act ≡ None
  nothing_of ty.Void c is = refl
  nothing_of ty.Bool c is = refl
  nothing_of ty.Char c is = refl
  nothing_of ty.Int c is = refl
  nothing_of ty.Long c is = refl
  nothing_of ty.Size c is = refl
  nothing_of ty.Text c is = absurd (false≢true (sym is))
  nothing_of ty.View c is = refl
  nothing_of (ty.Vector x) c is = refl
  nothing_of (ty.Unique x) c is = refl
  nothing_of (ty.Raw x y) c is = refl
  nothing_of (ty.Reference x y) c is = refl
  nothing_of (ty.Iterator x y) c is = refl
  nothing_of (ty.Span x y) c is = refl
  nothing_of (ty.Struct n) c is = refl

  nothing_at : (u : Ty) (id : TyId) (constant : Bool) → replacing_by u (category.Place id constant) act ≡ None
  nothing_at ty.Void id constant = refl
  nothing_at ty.Bool id constant = refl
  nothing_at ty.Char id constant = refl
  nothing_at ty.Int id constant = refl
  nothing_at ty.Long id constant = refl
  nothing_at ty.Size id constant = refl
  nothing_at ty.Text id constant = refl
  nothing_at ty.View id constant = refl
  nothing_at (ty.Vector x) id constant = refl
  nothing_at (ty.Unique x) id constant = refl
  nothing_at (ty.Raw x y) id constant = refl
  nothing_at (ty.Reference x y) id constant = refl
  nothing_at (ty.Iterator x y) id constant = refl
  nothing_at (ty.Span x y) id constant = refl
  nothing_at (ty.Struct n) id constant = refl

pub string_replaced : (e : Uses) (u : Ty) → u ≡ own e → is_text u ≡ true → e.category ≡ category.Value → replacing_string e ≡ e.replacing
string_replaced e u own_is is value =
    ap (λ (c : Category). replacing_by (own e) c e.replacing) value ∙ ap (λ (x : Ty). replacing_by x category.Value e.replacing) (sym own_is) ∙ as_string e.replacing u is

pub nothing_replaced : (e : Uses) (u : Ty) → u ≡ own e → is_text u ≡ false → replacing_string e ≡ None
nothing_replaced e u own_is is = ap (λ (x : Ty). replacing_by x e.category e.replacing) (sym own_is) ∙ nothing_of e.replacing u e.category is

pub place_unreplaced : (e : Uses) (id : TyId) (constant : Bool) → e.category ≡ category.Place id constant → replacing_string e ≡ None
place_unreplaced e id constant is = ap (λ (c : Category). replacing_by (own e) c e.replacing) is ∙ nothing_at e.replacing (own e) id constant
