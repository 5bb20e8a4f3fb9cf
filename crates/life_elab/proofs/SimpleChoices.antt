-- What is thrown away and what is printed, by the class of a type.
use Rattle.std.proofs.Common.{◌≡◌, ℕ, Bool, true, false, Some, None, sym, ap, ◌∙◌}
use Rattle.std.specs.Prelude.{if◌then◌else◌}
use Rattle.life_types.specs.TypeTests.{is_value, is_void}
use Rattle.life_types.specs.Types.{class}
use Rattle.life_types.specs.declared.place.Place.{Place}
use Rattle.life_types.specs.declared.ty.Class.{Class}
use Rattle.life_types.specs.declared.ty.Class.TheVariants as classes
use Rattle.life_types.specs.declared.ty.Ty.{Ty}
use Rattle.life_types.specs.declared.ty.TyId.{TyId}
use Rattle.life_typed.specs.declared.typed_expr.Category.{Category}
use Rattle.life_typed.specs.declared.typed_expr.Category.TheVariants as category
use Rattle.life_core.specs.Operands.{Location, Operand}
use Rattle.life_core.specs.Step.{Ports, Writes, WritesView}
use Rattle.life_writer.proofs.Begun.{place_wanted}
use Rattle.life_writer.specs.Characters.{Seen, seen, viewed}
use Rattle.life_writer.specs.Uses.{Uses, own}
use Rattle.life_writer.specs.Using.{operand, pointer, temporary_of, value}
use Rattle.life_writer.specs.Writing.{State, Gives, gives, ◌>>◌, emit}
use Rattle.life_elab.specs.SimpleForms.{thrown, thrown_by}
use Rattle.life_elab.specs.StatementForms.{written}

-- ---- what is thrown away

pub value_thrown : (e : Uses) (u : Ty) (k : Class) (behind : Place) (s now : State) (r : ℕ) → u ≡ own e → k ≡ class (Some u) → k ≡ classes.Value → value e behind u None s ≡ gives r now
    → now ≡ thrown_by (class (Some (own e))) e behind s
value_thrown e u k behind s now r own_is of is given =
    sym (ap (λ (w : Gives ℕ). w.state) given)
    ∙ ap (λ (t : Ty). (value e behind t None s).state) own_is
    ∙ ap (λ (x : Class). thrown_by x e behind s) (sym is ∙ of ∙ ap (λ (t : Ty). class (Some t)) own_is)

pub pointer_thrown : (e : Uses) (u : Ty) (k : Class) (behind : Place) (s now : State) (l : Location) → u ≡ own e → k ≡ class (Some u) → k ≡ classes.Pointer → pointer e u s ≡ gives l now
    → now ≡ thrown_by (class (Some (own e))) e behind s
pointer_thrown e u k behind s now l own_is of is given =
    sym (ap (λ (w : Gives Location). w.state) given)
    ∙ ap (λ (t : Ty). (pointer e t s).state) own_is
    ∙ ap (λ (x : Class). thrown_by x e behind s) (sym is ∙ of ∙ ap (λ (t : Ty). class (Some t)) own_is)

pub object_thrown : (e : Uses) (u : Ty) (k known : Class) (behind : Place) (s : State) → thrown_by known e behind s ≡ (temporary_of e (own e) s).state → u ≡ own e → k ≡ class (Some u) → k ≡ known
    → (temporary_of e u s).state ≡ thrown_by (class (Some (own e))) e behind s
object_thrown e u k known behind s thrown own_is of is =
    ap (λ (t : Ty). (temporary_of e t s).state) own_is ∙ sym thrown ∙ ap (λ (x : Class). thrown_by x e behind s) (sym is ∙ of ∙ ap (λ (t : Ty). class (Some t)) own_is)

pub place_thrown : (e : Uses) (c : Category) (id : TyId) (constant : Bool) (behind : Place) (s now : State) (o : Operand) → e.category ≡ c → c ≡ category.Place id constant → operand e s ≡ gives o now
    → now ≡ thrown e.category e behind s
place_thrown e c id constant behind s now o same is given =
    sym (ap (λ (w : Gives Operand). w.state) given)
    ∙ ap (λ (w : Gives Operand). w.state) (place_wanted e s id constant (same ∙ is))
    ∙ ap (λ (x : Category). thrown x e behind s) (sym (same ∙ is))

-- a value is there, or nothing is
thrown_as : (e : Uses) (c : Category) (u : Ty) (b : Bool) (behind : Place) (s : State) → e.category ≡ c → c ≡ category.Value → u ≡ own e → is_void u ≡ b
    → (if b then e.alone s else thrown_by (class (Some (own e))) e behind s) ≡ thrown e.category e behind s
thrown_as e c u b behind s same is own_is void =
    ap (λ (x : Bool). if x then e.alone s else thrown_by (class (Some (own e))) e behind s) (sym void ∙ ap is_void own_is)
    ∙ ap (λ (x : Category). thrown x e behind s) (sym (same ∙ is))

pub nothing_thrown : (e : Uses) (c : Category) (u : Ty) (behind : Place) (s : State) → e.category ≡ c → c ≡ category.Value → u ≡ own e → is_void u ≡ true → e.alone s ≡ thrown e.category e behind s
nothing_thrown e c u behind s same is own_is void = thrown_as e c u true behind s same is own_is void

pub something_thrown : (e : Uses) (c : Category) (u : Ty) (behind : Place) (s : State) → e.category ≡ c → c ≡ category.Value → u ≡ own e → is_void u ≡ false
    → thrown_by (class (Some (own e))) e behind s ≡ thrown e.category e behind s
something_thrown e c u behind s same is own_is void = thrown_as e c u false behind s same is own_is void

-- ---- output

pub value_written : (e : Uses) (u : Ty) (place behind : Place) (s between : State) (r : ℕ) → u ≡ own e → is_value u ≡ true → place ≡ e.place → value e behind u None s ≡ gives r between
    → emit place (Ports (Writes r)) between ≡ written e behind s
value_written e u place behind s between r own_is is here given =
    ap (λ (p : Place). emit p (Ports (Writes r)) between) here
    ∙ sym (ap (λ (b : Bool). if b then (value e behind (own e) None s >> λ r s. emit e.place (Ports (Writes r)) s) else (seen e s >> λ x s. viewed x s >> λ l s. emit e.place (Ports (WritesView l)) s)) (ap is_value (sym own_is) ∙ is)
    ∙ ap (λ (t : Ty). value e behind t None s >> λ r s. emit e.place (Ports (Writes r)) s) (sym own_is)
    ∙ ap (λ (w : Gives ℕ). emit e.place (Ports (Writes w.given)) w.state) given)

pub text_written : (e : Uses) (u : Ty) (place behind : Place) (s s1 s2 : State) (x : Seen) (l : Location) → u ≡ own e → is_value u ≡ false → place ≡ e.place → seen e s ≡ gives x s1 → viewed x s1 ≡ gives l s2
    → emit place (Ports (WritesView l)) s2 ≡ written e behind s
text_written e u place behind s s1 s2 x l own_is is here first second =
    ap (λ (p : Place). emit p (Ports (WritesView l)) s2) here
    ∙ sym (ap (λ (b : Bool). if b then (value e behind (own e) None s >> λ r s. emit e.place (Ports (Writes r)) s) else (seen e s >> λ x s. viewed x s >> λ l s. emit e.place (Ports (WritesView l)) s)) (ap is_value (sym own_is) ∙ is)
    ∙ ap (λ (w : Gives Seen). viewed w.given w.state >> λ l s. emit e.place (Ports (WritesView l)) s) first
    ∙ ap (λ (w : Gives Location). emit e.place (Ports (WritesView w.given)) w.state) second)
