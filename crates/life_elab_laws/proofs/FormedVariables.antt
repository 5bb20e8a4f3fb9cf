-- Variables as places and as pointers: their types in the finished function, and const where the text has it.
use Rattle.std.proofs.Common.{◌≡◌, ℕ, Bool, true, false, not, if◌then◌else◌, List, [], nat_lt, slice_get, Option, Some, None, refl, sym, ap, ◌∙◌, subst, unwrap_or}
use Rattle.std.proofs.lemmas.Bool.{false≢true}
use Rattle.life_elab_laws.proofs.ObjectTypes.{is_owner_of_values, is_admitted_variable, is_target}
use Rattle.life_types.specs.Pointees.{or_void, pointee, ty_of}
use Rattle.life_types.specs.TypeTests.{is_constant, is_reference, is_value, is_void}
use Rattle.life_types.specs.Types.{Types, class, is_slot_target}
use Rattle.life_types.specs.declared.ty.Ty.{Ty}
use Rattle.life_types.specs.declared.ty.Ty.TheVariants as ty
use Rattle.life_types.specs.declared.ty.TyId.{TyId}
use Rattle.life_typed.specs.BaseTypes.{type_at}
use Rattle.life_typed.specs.TypedForm.{Form, Typed}
use Rattle.life_typed.specs.declared.typed_expr.Category.{Category}
use Rattle.life_typed.specs.declared.typed_expr.Category.TheVariants as category
use Rattle.life_typed.specs.declared.typed_program.TypedLocal.{TypedLocal}
use Rattle.life_type_expr.specs.Operands.{place_of as place_typed, variable_of}
use Rattle.life_core.specs.Function.{Function}
use Rattle.life_core.specs.Operands.{Location, Through, object_named, whole}
use Rattle.life_core.specs.declared.program.Local.{Local}
use Rattle.life_core.specs.declared.program.LocalKind.TheVariants.{Object, Register}
use Rattle.life_pset.specs.Shapes.{shape_if, shape_of, target_of, ty_if, unslotted}
use Rattle.life_writer.specs.Around.{Around}
use Rattle.life_writer.specs.Variables.{kind, variable, variable_place}
use Rattle.life_writer.specs.Writing.{State}
use Rattle.life_elab_laws.proofs.Fronts.{IsFront}
use Rattle.life_elab_laws.proofs.Growing.{Begins}
use Rattle.life_elab_laws.proofs.Targets.{target_no_void, target_referred, target_type, value_target, target_unslotted}
use Rattle.life_elab_laws.proofs.Locations.{is_location}
use Rattle.life_elab_laws.proofs.TypedKinds.{place_same, owner_named, walker_named}
use Rattle.life_elab_laws.proofs.Types.{value_kind}
use Rattle.life_elab_laws.proofs.Values.{by_owners, by_values}
use Rattle.life_elab_laws.proofs.VariablePlaces.{a_raw, a_reference, a_struct, a_unique, a_value, a_view, a_walker, an_alias, an_owner, IsVariableAt, IsVariableType, kind_is, owner_kind, place_is, variable_type, walker_is, a_struct_alias}
use Rattle.life_proper.specs.OperandTypes.{keeps_const}
use Rattle.life_proper.specs.Placed as placed
use Rattle.life_elab_laws.proofs.Gifts.{IsAt, IsPlaceOf}
use Rattle.life_elab_laws.proofs.OperandsThere.{object_there, register_there, type_there, value_no_reference}
use Rattle.life_elab_laws.proofs.NoVoid.{no_void}

-- what isn't const is taken as const or not
pub keeps_all : (to : Bool) → keeps_const to false ≡ true
keeps_all true = refl
keeps_all false = refl

pub keeps_same : (c : Bool) → keeps_const c c ≡ true
keeps_same true = refl
keeps_same false = refl

const_in : Bool → Category → Bool
const_in c category.Value = c
const_in c (category.Place id d) = d

pub const_same : (id target : TyId) (c d : Bool) → category.Place id c ≡ category.Place target d → c ≡ d
unfolding const_in
const_same id target c d e = ap (const_in c) e

-- ---- types in a table with more types too

pub type_found : (few more : Types) → IsFront few.types more.types → (id : TyId) → is_value (type_at few id) ≡ true → slice_get more.types id.0 ≡ Some (type_at few id)
type_found few more front id v = go (slice_get few.types id.0) refl v
  where
    go : (o : Option Ty) → slice_get few.types id.0 ≡ o → is_value (unwrap_or o ty.Void) ≡ true → slice_get more.types id.0 ≡ Some (type_at few id)
    go None at v = absurd (false≢true v)
    go (Some t) at v = front id.0 t at ∙ ap Some (sym (ap (λ (o : Option Ty). unwrap_or o ty.Void) at))

pub type_later : (few more : Types) → IsFront few.types more.types → (id : TyId) → is_value (type_at few id) ≡ true → ty_of more id ≡ type_at few id
type_later few more front id v = ap or_void (type_found few more front id v)

pub value_no_void : (t : Ty) → is_value t ≡ true → not (is_void t) ≡ true
value_no_void t v = ap not (no_void is_value refl t v)

pub owner_no_value : (types : Types) (t : Ty) → is_owner_of_values types t ≡ true → is_value t ≡ true → ⊥
owner_no_value types = by_owners types _ false≢true (λ element. false≢true)

pub owner_no_location : (types : Types) (t : Ty) → is_owner_of_values types t ≡ true → is_location t ≡ true → ⊥
owner_no_location types = by_owners types _ false≢true (λ item. false≢true)

pub owner_no_reference : (types : Types) (t : Ty) → is_owner_of_values types t ≡ true → is_reference t ≡ false
owner_no_reference types = by_owners types _ refl (λ element. refl)

pub location_no_reference : (t : Ty) → is_location t ≡ true → is_reference t ≡ false
location_no_reference (ty.Raw target constant) loc = refl
location_no_reference ty.View loc = refl
location_no_reference (ty.Iterator target constant) loc = refl
location_no_reference (ty.Span target constant) loc = refl
location_no_reference _ loc = absurd (false≢true loc)

-- a register holds it
pub location_kind : (t : Ty) → is_location t ≡ true → kind (class (Some t)) ≡ Register
location_kind (ty.Raw target constant) loc = refl
location_kind ty.View loc = refl
location_kind (ty.Iterator target constant) loc = refl
location_kind (ty.Span target constant) loc = refl
location_kind _ loc = absurd (false≢true loc)

module _ (types : Types) (f : Function) where
  reference_shape : (parameter : Bool) (id target : TyId) (constant : Bool) → ty_of types id ≡ ty.Reference target constant → is_slot_target (Some (ty_of types target)) ≡ false → shape_if types parameter id ≡ id
  reference_shape false id target constant at v = refl
  reference_shape true id target true at v = ap (unslotted types id) at
  reference_shape true id target false at v = ap (unslotted types id) at ∙ target_referred id target (ty_of types target) v

  pub reference_there : (x : ℕ) (l : Local) (target : TyId) (constant : Bool) → slice_get f.locals x ≡ Some l → slice_get types.types l.ty.0 ≡ Some (ty.Reference target constant) → is_slot_target (Some (ty_of types target)) ≡ false
      → placed.type_at types f x ≡ ty.Reference target constant
  reference_there x l target constant at typed v =
      ap (λ (o : Option Local). ty_if types (shape_of types f.parameters x o)) at
      ∙ ap (ty_of types) (reference_shape (nat_lt x f.parameters) l.ty target constant (ap or_void typed) v)
      ∙ ap or_void typed

module _ (types : Types) (texts : ℕ) (fs : List Function) (f : Function) where
  -- an object of a value type
  pub object_place : (y : ℕ) (t : Ty) (c : Bool) → placed.object_at types f y ≡ true → placed.type_at types f y ≡ t → IsPlaceOf types texts fs f t c (object_named y)
  object_place y t c there typed = record {
    typed = ap (λ (b : Bool). if b then placed.type_at types f y else ty.Void) there ∙ typed;
    held = keeps_all c;
  }

  -- what a pointer of this type points to
  pub behind_place : (q : Location) (u : Ty) (target : TyId) (c : Bool) (t : Ty) → IsAt types texts fs f u q → pointee types u ≡ ty_of types target → target_of u ≡ Some target → is_constant u ≡ c
      → ty_of types target ≡ t → not (is_void t) ≡ true → IsPlaceOf types texts fs f t c (Through q [])
  behind_place q u target c t at object has const typed some = record {
    typed =
        ap (λ (w : Ty). if not (is_void (pointee types w)) then ty_if types (target_of w) else ty.Void) at.typed
        ∙ ap (λ (o : Option TyId). if not (is_void (pointee types u)) then ty_if types o else ty.Void) has
        ∙ ap (λ (b : Bool). if b then ty_of types target else ty.Void) (ap (λ (w : Ty). not (is_void w)) (object ∙ typed) ∙ some)
        ∙ typed;
    held = ap (λ (w : Ty). keeps_const c (is_constant w)) at.typed ∙ ap (keeps_const c) const ∙ keeps_same c;
  }

  module _ (a : Around) (front : IsFront a.program.types.types types.types) (s : State) (b : Begins types f s) (x : ℕ) (v : TypedLocal) (h : IsVariableAt a s x v) where
    there : slice_get f.locals (variable s x) ≡ Some h.local
    there = b.locals (variable s x) h.local h.there

    typed_as : (t : Ty) → slice_get a.program.types.types v.ty.0 ≡ Some t → slice_get types.types h.local.ty.0 ≡ Some t
    typed_as t at = ap (λ (i : TyId). slice_get types.types i.0) h.typed ∙ front v.ty.0 t at

    -- a reference stands for what it refers to
    pub reference_formed : (target : TyId) (constant : Bool) → slice_get a.program.types.types v.ty.0 ≡ Some (ty.Reference target constant) → is_target a.program.types (type_at a.program.types target) ≡ true
        → IsPlaceOf types texts fs f (type_at a.program.types target) constant (variable_place s x)
    reference_formed target constant found h' =
        let t = ty.Reference target constant in
        let register = kind_is a s x v h t found in
        let later = target_type a.program.types types front target h' in
        subst (IsPlaceOf types texts fs f (type_at a.program.types target) constant) (sym (place_is a s x v h Register register))
        (behind_place (whole (variable s x)) t target constant (type_at a.program.types target)
        (record {
          typed = reference_there types f (variable s x) h.local target constant there (typed_as t found) (target_unslotted a.program.types types front target h');
          kept = register_there types f (variable s x) h.local there register;
        })
        refl refl refl later (target_no_void a.program.types (type_at a.program.types target) h'))

    -- a variable that is named where a value is, is a place of that type
    pub variable_formed : (e : Typed) (form : Form) → is_admitted_variable a.program.types v.ty ≡ true → e ≡ variable_of (type_at a.program.types v.ty) a.program.types v.ty v.constant e.place form
        → (id : TyId) (constant : Bool) → e.category ≡ category.Place id constant → is_value (type_at a.program.types id) ≡ true
        → IsPlaceOf types texts fs f (type_at a.program.types id) constant (variable_place s x)
    variable_formed e form built is id constant at value = go (variable_type a.program.types v.ty built)
      where
        named : (t : Ty) → slice_get a.program.types.types v.ty.0 ≡ Some t → e ≡ variable_of t a.program.types v.ty v.constant e.place form
        named t found = is ∙ ap (λ (o : Option Ty). variable_of (unwrap_or o ty.Void) a.program.types v.ty v.constant e.place form) found

        own : (u : TyId) (d : Bool) → e ≡ place_typed a.program.types u d e.place form → category.Place u d ≡ category.Place id constant
        own u d is = sym (ap (λ (y : Typed). y.category) is) ∙ at

        object : (t : Ty) → slice_get a.program.types.types v.ty.0 ≡ Some t → is_value t ≡ true → e ≡ place_typed a.program.types v.ty v.constant e.place form
            → IsPlaceOf types texts fs f (type_at a.program.types id) constant (variable_place s x)
        object t found w is =
            let one : v.ty ≡ id = place_same v.ty id v.constant constant (own v.ty v.constant is) in
            let here : type_at a.program.types id ≡ t = ap (type_at a.program.types) (sym one) ∙ ap (λ (o : Option Ty). unwrap_or o ty.Void) found in
            subst (IsPlaceOf types texts fs f (type_at a.program.types id) constant) (sym (place_is a s x v h Object (kind_is a s x v h t found ∙ value_kind t w)))
            (object_place (variable s x) (type_at a.program.types id) constant (object_there types f (variable s x) h.local there (kind_is a s x v h t found ∙ value_kind t w))
            (type_there types f (variable s x) h.local t there (typed_as t found) (value_no_reference t w) ∙ sym here))

        go : IsVariableType a.program.types v.ty → IsPlaceOf types texts fs f (type_at a.program.types id) constant (variable_place s x)
        go (a_value t found w) =
            let place : variable_of t a.program.types v.ty v.constant e.place form ≡ place_typed a.program.types v.ty v.constant e.place form =
            by_values (λ u. variable_of u a.program.types v.ty v.constant e.place form ≡ place_typed a.program.types v.ty v.constant e.place form) refl refl refl refl refl t w in
            object t found w (named t found ∙ place)
        go (a_walker t found w) =
            let one : v.ty ≡ id = place_same v.ty id v.constant constant (own v.ty v.constant (walker_named a.program.types e v.ty v.constant form t w (named t found))) in
            let here : type_at a.program.types id ≡ t = ap (type_at a.program.types) (sym one) ∙ ap (λ (o : Option Ty). unwrap_or o ty.Void) found in
            absurd (false≢true (sym (ap is_value here ∙ (walker_is a.program.types t w).value) ∙ value))
        go (an_owner t found o) =
            let one : v.ty ≡ id = place_same v.ty id v.constant constant (own v.ty v.constant (owner_named a.program.types e v.ty v.constant form t o (named t found))) in
            let here : type_at a.program.types id ≡ t = ap (type_at a.program.types) (sym one) ∙ ap (λ (o : Option Ty). unwrap_or o ty.Void) found in
            absurd (owner_no_value a.program.types t o (ap is_value (sym here) ∙ value))
        go (an_alias target c found o) =
            let here = ap (type_at a.program.types) (place_same target id c constant (own target c (named (ty.Reference target c) found))) in
            absurd (owner_no_value a.program.types (type_at a.program.types target) o (ap is_value here ∙ value))
        go (a_struct_alias target c number found structure pointless) =
            let here = ap (type_at a.program.types) (place_same target id c constant (own target c (named (ty.Reference target c) found))) in
            absurd (false≢true (sym (ap is_value structure) ∙ ap is_value here ∙ value))
        go (a_unique target found w) =
            let one : v.ty ≡ id = place_same v.ty id v.constant constant (own v.ty v.constant (named (ty.Unique target) found)) in
            let here : type_at a.program.types id ≡ ty.Unique target = ap (type_at a.program.types) (sym one) ∙ ap (λ (o : Option Ty). unwrap_or o ty.Void) found in
            absurd (false≢true (sym (ap is_value here) ∙ value))
        go (a_struct number found) =
            let one : v.ty ≡ id = place_same v.ty id v.constant constant (own v.ty v.constant (named (ty.Struct number) found)) in
            let here : type_at a.program.types id ≡ ty.Struct number = ap (type_at a.program.types) (sym one) ∙ ap (λ (o : Option Ty). unwrap_or o ty.Void) found in
            absurd (false≢true (sym (ap is_value here) ∙ value))
        go (a_view found) =
            let one : v.ty ≡ id = place_same v.ty id v.constant constant (own v.ty v.constant (named ty.View found)) in
            let here : type_at a.program.types id ≡ ty.View = ap (type_at a.program.types) (sym one) ∙ ap (λ (o : Option Ty). unwrap_or o ty.Void) found in
            absurd (false≢true (sym (ap is_value here) ∙ value))
        go (a_raw target c found w) =
            let one : v.ty ≡ id = place_same v.ty id v.constant constant (own v.ty v.constant (named (ty.Raw target c) found)) in
            let here : type_at a.program.types id ≡ ty.Raw target c = ap (type_at a.program.types) (sym one) ∙ ap (λ (o : Option Ty). unwrap_or o ty.Void) found in
            absurd (false≢true (sym (ap is_value here) ∙ value))
        go (a_reference target c found w) =
            let same = own target c (named (ty.Reference target c) found) in
            subst (λ (d : Bool). IsPlaceOf types texts fs f (type_at a.program.types id) d (variable_place s x)) (const_same target id c constant same)
            (subst (λ (t : Ty). IsPlaceOf types texts fs f t c (variable_place s x)) (ap (type_at a.program.types) (place_same target id c constant same))
            (reference_formed target c found (value_target a.program.types (type_at a.program.types target) w)))

    -- an owner is a place of its type
    pub owner_formed : (t : Ty) (constant : Bool) → slice_get a.program.types.types v.ty.0 ≡ Some t → is_owner_of_values a.program.types t ≡ true → IsPlaceOf types texts fs f t constant (variable_place s x)
    owner_formed t constant found o =
        let object = kind_is a s x v h t found ∙ owner_kind a.program.types t o in
        subst (IsPlaceOf types texts fs f t constant) (sym (place_is a s x v h Object object))
        (object_place (variable s x) t constant (object_there types f (variable s x) h.local there object) (type_there types f (variable s x) h.local t there (typed_as t found) (owner_no_reference a.program.types t o)))

    -- .. and so is anything else that is an object
    pub object_formed : (t : Ty) (constant : Bool) → slice_get a.program.types.types v.ty.0 ≡ Some t → kind (class (Some t)) ≡ Object → is_reference t ≡ false → IsPlaceOf types texts fs f t constant (object_named (variable s x))
    object_formed t constant found object plain =
        object_place (variable s x) t constant (object_there types f (variable s x) h.local there (kind_is a s x v h t found ∙ object))
        (type_there types f (variable s x) h.local t there (typed_as t found) plain)

    -- the variable of a raw pointer or a view has its type
    pub pointer_formed : (t : Ty) → is_location t ≡ true → slice_get a.program.types.types v.ty.0 ≡ Some t → IsAt types texts fs f t (whole (variable s x))
    pointer_formed t loc found = record {
      typed = type_there types f (variable s x) h.local t there (typed_as t found) (location_no_reference t loc);
      kept = register_there types f (variable s x) h.local there (kind_is a s x v h t found ∙ location_kind t loc);
    }
