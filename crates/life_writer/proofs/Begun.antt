-- What is initialised and handed over, and where pointers lead: what the code knows of types and categories, against the tables.
use Rattle.std.proofs.Common.{◌≡◌, ℕ, Bool, true, false, List, [], None, Some, Result, refl, sym, ap, ◌∙◌}
use Rattle.std.specs.Prelude.{if◌then◌else◌}
use Rattle.life_types.specs.Types.{class}
use Rattle.life_types.specs.declared.memory.NoMemory.{NoMemory}
use Rattle.life_types.specs.declared.place.Place.{Place}
use Rattle.life_types.specs.declared.ty.Class.{Class}
use Rattle.life_types.specs.declared.ty.Class.TheVariants as classes
use Rattle.life_types.specs.declared.ty.Ty.{Ty}
use Rattle.life_types.specs.declared.ty.Ty.TheVariants as ty
use Rattle.life_types.specs.declared.ty.TyId.{TyId}
use Rattle.life_typed.specs.Conversions.{is_place_of}
use Rattle.life_typed.specs.TypedForm.{Typed, whole}
use Rattle.life_typed.specs.declared.typed_expr.Category.{Category}
use Rattle.life_typed.specs.declared.typed_expr.Category.TheVariants as category
use Rattle.life_core.specs.Operands.{Argument, Location, Operand, Through, Value, location_of, object_named}
use Rattle.life_core.specs.declared.operand.Location.{Location as Held}
use Rattle.life_writer.proofs.Called.{call_for_seen, calling}
use Rattle.life_writer.proofs.Giving.{answers_as}
use Rattle.life_writer.specs.Answers.{Answers}
use Rattle.life_writer.specs.Around.{Around, parameter_types, type_of}
use Rattle.life_writer.specs.Building.{Destination}
use Rattle.life_writer.specs.Calls.{Called, call_for, called}
use Rattle.life_writer.specs.ExpressionForms.{all_uses, target_at, uses}
use Rattle.life_writer.specs.Giving.{aimed_at, argument, argument_by, arguments, bound, call_to, consumed_by, given, given_by, given_in, given_over, initial, value_by}
use Rattle.life_writer.specs.Pointers.{Pointing, located, pointed}
use Rattle.life_writer.specs.Uses.{Remaining, Uses, filled, own, saved}
use Rattle.life_writer.specs.Using.{operand, operand_by, pointer, pointing, pointing_by, register_type, temporary_of, value}
use Rattle.life_writer.specs.Writing.{State, Gives, gives, ◌>>◌, mapped}

-- ---- arguments

pub value_argument : (a : Around) (e : Uses) (t : Ty) (behind : Place) (s now : State) (r : ℕ) (k : Class) → k ≡ class (Some t) → k ≡ classes.Value
    → value e behind t None s ≡ gives r now → argument a e t behind s ≡ gives (Value r) now
value_argument a e t behind s now r k same is given = ap (λ (x : Class). argument_by a x e t behind s) (sym same ∙ is) ∙ ap (mapped Value) given

-- ---- what is initialised

-- .. by its class
pub given_as : (e : Uses) (t : Ty) (behind : Place) (s : State) (k known : Class) → k ≡ class (Some t) → k ≡ known → given e t behind s ≡ given_by known e t behind s
given_as e t behind s k known same is = ap (λ (x : Class). given_by x e t behind s) (sym same ∙ is)

pub pointer_given : (e : Uses) (t : Ty) (behind : Place) (s now : State) (k : Class) (p : Pointing) → k ≡ class (Some t) → k ≡ classes.Pointer → pointing e s ≡ gives p now
    → given e t behind s ≡ gives (filled e.place (pointed p)) now
pointer_given e t behind s now k p same is first = given_as e t behind s k classes.Pointer same is ∙ ap (mapped (λ p. filled e.place (pointed p))) first

-- a call gives its result where it goes
pub call_given : (a : Around) (e : Typed) (t : Ty) (place : Place) (v : State → Gives ℕ) (s now : State) (c : Called) (types : List TyId) (xs : List Argument)
    → call_for e t ≡ Some c → types ≡ parameter_types a c.function → arguments a (all_uses a c.arguments) c.delimiters types s ≡ gives xs now
    → value_by (call_to (uses a (whole e)) t) place v s ≡ gives (filled place (called c.function xs)) now
call_given a e t place v s now c types xs is as_declared first =
    ap (λ o. value_by o place v s) (call_for_seen a e t ∙ ap (calling a) is)
    ∙ ap (λ (ts : List TyId). mapped (filled place) (mapped (called c.function) (arguments a (all_uses a c.arguments) c.delimiters ts s))) (sym as_declared)
    ∙ ap (λ (w : Gives (List Argument)). mapped (filled place) (mapped (called c.function) w)) first

-- .. and any other value is saved there
pub value_saved : (a : Around) (e : Typed) (t : Ty) (place : Place) (v : State → Gives ℕ) (s now : State) (r : ℕ)
    → call_for e t ≡ None → v s ≡ gives r now → value_by (call_to (uses a (whole e)) t) place v s ≡ gives (saved r) now
value_saved a e t place v s now r is first = ap (λ o. value_by o place v s) (call_for_seen a e t ∙ ap (calling a) is) ∙ ap (mapped saved) first

-- a reference to a place of its type
pub place_bound : (a : Around) (keeps : Place → Ty → Destination) (e : Uses) (target : TyId) (behind : Place) (s now : State) (o : Operand)
    → is_place_of e.category target ≡ true → e.at s ≡ gives o now → bound a keeps e target behind s ≡ gives (aimed_at e.place o) now
place_bound a keeps e target behind s now o is first =
    ap (λ (b : Bool). if b then mapped (aimed_at e.place) (e.at s)
    else (given e (type_of a target) behind s >> λ rest s. rest (keeps e.place (type_of a target)) s >> λ x s. gives (aimed_at e.place (object_named x)) s)) is
    ∙ ap (mapped (aimed_at e.place)) first

-- .. and to a temporary
pub temporary_bound : (a : Around) (keeps : Place → Ty → Destination) (e : Uses) (target : TyId) (t : Ty) (behind : Place) (d : Destination) (s now : State) (x : ℕ) (o : Operand)
    → is_place_of e.category target ≡ false → t ≡ type_of a target → d ≡ keeps e.place t → given_in e t behind d s ≡ gives x now → o ≡ object_named x
    → bound a keeps e target behind s ≡ gives (aimed_at e.place o) now
temporary_bound a keeps e target t behind d s now x o is type_is goal_is given named =
    ap (λ (b : Bool). if b then mapped (aimed_at e.place) (e.at s)
    else (given_in e (type_of a target) behind (keeps e.place (type_of a target)) s >> λ x s. gives (aimed_at e.place (object_named x)) s)) is
    ∙ ap (λ (u : Ty). given_in e u behind (keeps e.place u) s >> λ x s. gives (aimed_at e.place (object_named x)) s) (sym type_is)
    ∙ ap (λ (y : Destination). given_in e t behind y s >> λ x s. gives (aimed_at e.place (object_named x)) s) (sym goal_is)
    ∙ ap (λ (w : Gives ℕ). w >> λ x s. gives (aimed_at e.place (object_named x)) s) given
    ∙ ap (λ (y : Operand). gives (aimed_at e.place y) now) (sym named)

-- what is given over, by its class
pub given_over_as : (e : Uses) (t : Ty) (behind : Place) (s : State) (k known : Class) → k ≡ class (Some t) → k ≡ known → given_over e t behind s ≡ consumed_by known e t behind s
given_over_as e t behind s k known same is = ap (λ (x : Class). consumed_by x e t behind s) (sym same ∙ is)

-- anything but a reference
pub unbound : (a : Around) (keeps : Place → Ty → Destination) (e : Uses) (t : Ty) (behind : Place) (s : State) → ((x : TyId) (y : Bool) → t ≡ ty.Reference x y → ⊥)
    → initial a keeps e t behind s ≡ given e t behind s
unbound a keeps e ty.Void behind s other = refl
unbound a keeps e ty.Bool behind s other = refl
unbound a keeps e ty.Char behind s other = refl
unbound a keeps e ty.Int behind s other = refl
unbound a keeps e ty.Long behind s other = refl
unbound a keeps e ty.Size behind s other = refl
unbound a keeps e ty.Text behind s other = refl
unbound a keeps e ty.View behind s other = refl
unbound a keeps e (ty.Vector x) behind s other = refl
unbound a keeps e (ty.Unique x) behind s other = refl
unbound a keeps e (ty.Raw x y) behind s other = refl
unbound a keeps e (ty.Reference x y) behind s other = absurd (other x y refl)
unbound a keeps e (ty.Iterator x y) behind s other = refl
unbound a keeps e (ty.Span x y) behind s other = refl
unbound a keeps e (ty.Struct n) behind s other = refl

-- what is left is done
pub finished : (w : Gives Remaining) (rest : Remaining) (d : Destination) (s now : State) (r : Result ℕ NoMemory) → w ≡ gives rest s → Answers (λ x. x) r (rest d s) now
    → Answers (λ x. x) r (w >> λ rest s. rest d s) now
finished w rest d s now r first given = answers_as (λ x. x) r _ _ now (ap (λ (v : Gives Remaining). v >> λ rest s. rest d s) first) given

-- ---- places and pointers

pub place_wanted : (e : Uses) (s : State) (id : TyId) (constant : Bool) → e.category ≡ category.Place id constant → operand e s ≡ e.at s
place_wanted e s id constant is = ap (λ (c : Category). operand_by c e.at (temporary_of e (own e)) s) is

-- what anything but a unique_ptr points to
reached_by : (t : Ty) (e : Uses) (place : Place) (c : Category) (s : State) → ((x : TyId) → t ≡ ty.Unique x → ⊥) → target_at t e place c s ≡ mapped (λ p. Through p []) (pointer e (own e) s)
reached_by ty.Void e place c s other = refl
reached_by ty.Bool e place c s other = refl
reached_by ty.Char e place c s other = refl
reached_by ty.Int e place c s other = refl
reached_by ty.Long e place c s other = refl
reached_by ty.Size e place c s other = refl
reached_by ty.Text e place c s other = refl
reached_by ty.View e place c s other = refl
reached_by (ty.Vector x) e place c s other = refl
reached_by (ty.Unique x) e place c s other = absurd (other x refl)
reached_by (ty.Raw x y) e place c s other = refl
reached_by (ty.Reference x y) e place c s other = refl
reached_by (ty.Iterator x y) e place c s other = refl
reached_by (ty.Span x y) e place c s other = refl
reached_by (ty.Struct n) e place c s other = refl

pub reached : (e : Uses) (t : Ty) (place : Place) (c : Category) (s now : State) (l : Location) (members : List ℕ) → t ≡ own e → ((x : TyId) → t ≡ ty.Unique x → ⊥)
    → pointer e t s ≡ gives l now → members ≡ [] → target_at (own e) e place c s ≡ gives (Through l members) now
reached e t place c s now l members own_is other first none =
    ap (λ (u : Ty). target_at u e place c s) (sym own_is) ∙ reached_by t e place c s other
    ∙ ap (λ (u : Ty). mapped (λ p. Through p []) (pointer e u s)) (sym own_is) ∙ ap (mapped (λ p. Through p [])) first
    ∙ ap (λ (ms : List ℕ). gives (Through l ms) now) (sym none)

-- what isn't seen by a pointer to the whole of it, or to what it owns, is a pointer itself
pointing_itself : (t : Ty) (e : Uses) (s : State) → (t ≡ ty.Text → ⊥) → ((x : TyId) → t ≡ ty.Vector x → ⊥) → ((x : TyId) → t ≡ ty.Unique x → ⊥) → pointing_by t e s ≡ e.pointing s
pointing_itself ty.Void e s no_text no_vector no_unique = refl
pointing_itself ty.Bool e s no_text no_vector no_unique = refl
pointing_itself ty.Char e s no_text no_vector no_unique = refl
pointing_itself ty.Int e s no_text no_vector no_unique = refl
pointing_itself ty.Long e s no_text no_vector no_unique = refl
pointing_itself ty.Size e s no_text no_vector no_unique = refl
pointing_itself ty.Text e s no_text no_vector no_unique = absurd (no_text refl)
pointing_itself ty.View e s no_text no_vector no_unique = refl
pointing_itself (ty.Vector x) e s no_text no_vector no_unique = absurd (no_vector x refl)
pointing_itself (ty.Unique x) e s no_text no_vector no_unique = absurd (no_unique x refl)
pointing_itself (ty.Raw x y) e s no_text no_vector no_unique = refl
pointing_itself (ty.Reference x y) e s no_text no_vector no_unique = refl
pointing_itself (ty.Iterator x y) e s no_text no_vector no_unique = refl
pointing_itself (ty.Span x y) e s no_text no_vector no_unique = refl
pointing_itself (ty.Struct n) e s no_text no_vector no_unique = refl

pub pointing_plain : (e : Uses) (t : Ty) (s : State) → t ≡ own e → (t ≡ ty.Text → ⊥) → ((x : TyId) → t ≡ ty.Vector x → ⊥) → ((x : TyId) → t ≡ ty.Unique x → ⊥) → pointing e s ≡ e.pointing s
pointing_plain e t s own_is no_text no_vector no_unique = ap (λ (u : Ty). pointing_by u e s) (sym own_is) ∙ pointing_itself t e s no_text no_vector no_unique

-- the location of a pointer
pub pointer_located : (e : Uses) (wanted t u : Ty) (place : Place) (s s1 now : State) (p : Pointing) (r : Result Held NoMemory) → t ≡ own e → u ≡ register_type wanted t → place ≡ e.place
    → pointing e s ≡ gives p s1 → Answers location_of r (located place u p s1) now → Answers location_of r (pointer e wanted s) now
pointer_located e wanted t u place s s1 now p r own_is type_is place_is first given =
    answers_as location_of r _ _ now
    (ap (λ (w : Gives Pointing). located e.place (register_type wanted (own e)) w.given w.state) first
    ∙ ap (λ (x : Ty). located e.place (register_type wanted x) p s1) (sym own_is)
    ∙ ap (λ (x : Ty). located e.place x p s1) (sym type_is)
    ∙ ap (λ (x : Place). located x u p s1) (sym place_is))
    given
