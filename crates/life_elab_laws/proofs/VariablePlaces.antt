-- Where the visible variables of a function lie while it is written.
use Rattle.std.proofs.Common.{◌≡◌, ◌<◌, inl, inr, ℕ, Bool, true, false, List, [], ◌∷◌, Contains, length, slice_get, Option, Some, refl, sym, ap, ◌∙◌, subst, unwrap_or, arith}
use Rattle.std.proofs.lemmas.Bool.{false≢true}
use Rattle.std.proofs.lemmas.Option.{slice_get_within}
use Rattle.life_elab_laws.proofs.ObjectTypes.{is_element, is_owner_of_values, is_admitted_variable, is_target, is_walker_of_values, is_plain_struct}
use Rattle.life_elab_laws.proofs.TypeKinds.{is_walker, owns_elements}
use Rattle.life_types.specs.TypeTests.{is_value, is_pointer, is_reference, is_view}
use Rattle.life_types.specs.Types.{Types, class, class_at}
use Rattle.life_types.specs.declared.ty.Ty.{Ty}
use Rattle.life_types.specs.declared.ty.Ty.TheVariants as ty
use Rattle.life_types.specs.declared.ty.TyId.{TyId}
use Rattle.life_typed.specs.BaseTypes.{type_at}
use Rattle.life_typed.specs.TypedForm.{Form, Typed}
use Rattle.life_typed.specs.declared.typed_expr.ExprType.TheVariants.{Of}
use Rattle.life_typed.specs.declared.typed_program.TypedLocal.{TypedLocal}
use Rattle.life_type_expr.specs.Operands.{variable_of}
use Rattle.life_core.specs.Function.{Function}
use Rattle.life_core.specs.Operands.{whole}
use Rattle.life_core.specs.Touched.{place_uses}
use Rattle.life_core.specs.declared.program.Local.{Local}
use Rattle.life_core.specs.declared.program.LocalKind.{LocalKind}
use Rattle.life_core.specs.declared.program.LocalKind.TheVariants.{Object, Range, Register}
use Rattle.life_proper.specs.declared.known.Known.{Known}
use Rattle.life_writer.specs.Around.{Around}
use Rattle.life_writer.specs.Variables.{kind, place_of, place_of_kind, variable, variable_place}
use Rattle.life_writer.specs.Writing.{State}
use Rattle.life_elab_laws.proofs.Fronts.{IsFront, front_then}
use Rattle.life_elab_laws.proofs.Growing.{Grows, bare}
use Rattle.life_elab_laws.proofs.Locations.{is_location}
use Rattle.life_elab_laws.proofs.Making.{Alive, IsOpen, IsPlace, IsPointer}
use Rattle.life_elab_laws.proofs.AdmittedTypes.{IsAdmittedType, variable_found}
use Rattle.life_elab_laws.proofs.Targets.{IsTarget, target_is, to_owner, to_struct, to_value}
use Rattle.life_elab_laws.proofs.Values.{by_owners, by_values}
use Rattle.life_elab_laws.proofs.TypedKinds.{owner_named, walker_named}
use Rattle.life_elab_laws.proofs.PendingTemporaries.{ArePending}
use Rattle.life_elab_laws.proofs.OwnLocals.{first_own}

-- ---- what a variable is

-- a value, or a pointer or reference to one, to an owner or to a struct, a view, an iterator or a span, an owner of values, a unique_ptr to what a vector may have, or a struct
pub data IsVariableType (types : Types) (id : TyId) : Type 0 where
  a_value : (t : Ty) → slice_get types.types id.0 ≡ Some t → is_value t ≡ true → IsVariableType types id
  a_raw : (target : TyId) (constant : Bool) → slice_get types.types id.0 ≡ Some (ty.Raw target constant) → is_target types (type_at types target) ≡ true → IsVariableType types id
  a_reference : (target : TyId) (constant : Bool) → slice_get types.types id.0 ≡ Some (ty.Reference target constant) → is_value (type_at types target) ≡ true → IsVariableType types id
  an_alias : (target : TyId) (constant : Bool) → slice_get types.types id.0 ≡ Some (ty.Reference target constant) → is_owner_of_values types (type_at types target) ≡ true → IsVariableType types id
  a_view : slice_get types.types id.0 ≡ Some ty.View → IsVariableType types id
  a_walker : (t : Ty) → slice_get types.types id.0 ≡ Some t → is_walker_of_values types t ≡ true → IsVariableType types id
  an_owner : (t : Ty) → slice_get types.types id.0 ≡ Some t → is_owner_of_values types t ≡ true → IsVariableType types id
  a_unique : (target : TyId) → slice_get types.types id.0 ≡ Some (ty.Unique target) → is_element types (type_at types target) ≡ true → IsVariableType types id
  a_struct : (number : ℕ) → slice_get types.types id.0 ≡ Some (ty.Struct number) → IsVariableType types id
  a_struct_alias : (target : TyId) (constant : Bool) (number : ℕ) → slice_get types.types id.0 ≡ Some (ty.Reference target constant) → type_at types target ≡ ty.Struct number → is_plain_struct types (type_at types target) ≡ true → IsVariableType types id

pub variable_type : (types : Types) (id : TyId) → is_admitted_variable types id ≡ true → IsVariableType types id
variable_type types id b = let found = variable_found types id b in go found.0 found.1 found.2
  where
    go : (t : Ty) → slice_get types.types id.0 ≡ Some t → IsAdmittedType types t → IsVariableType types id
    go t at (inr (inl o)) = an_owner t at o
    go t at (inr (inr (inl w))) = a_walker t at w
    go (ty.Unique target) at (inr (inr (inr (inl u)))) = a_unique target at u
    go _ at (inr (inr (inr (inl u)))) = absurd (false≢true u)
    go (ty.Struct number) at (inr (inr (inr (inr structure)))) = a_struct number at
    go _ at (inr (inr (inr (inr structure)))) = absurd (false≢true structure)
    go ty.View at (inl b) = a_view at
    go ty.Bool at (inl b) = a_value ty.Bool at refl
    go ty.Char at (inl b) = a_value ty.Char at refl
    go ty.Int at (inl b) = a_value ty.Int at refl
    go ty.Long at (inl b) = a_value ty.Long at refl
    go ty.Size at (inl b) = a_value ty.Size at refl
    go (ty.Raw target constant) at (inl b) = a_raw target constant at b
    go (ty.Reference target constant) at (inl b) = refers (target_is types (type_at types target) b)
      where
        refers : IsTarget types (type_at types target) → IsVariableType types id
        refers (to_value v) = a_reference target constant at v
        refers (to_owner o) = an_alias target constant at o
        refers (to_struct number s pointless) = a_struct_alias target constant number at s pointless
    go _ at (inl b) = absurd (false≢true b)

pub owner_is : (types : Types) (t : Ty) → is_owner_of_values types t ≡ true → owns_elements t ≡ true
owner_is types = by_owners types _ refl (λ element. refl)

-- what an iterator or a span is
pub record IsWalking (types : Types) (t : Ty) : Type 0 where
  pub kind : kind (class (Some t)) ≡ Register
  pub pointer : is_pointer t ≡ true
  pub reference : is_reference t ≡ false
  pub owner : owns_elements t ≡ false
  pub value : is_value t ≡ false
  pub location : is_location t ≡ true
  pub walker : is_walker t ≡ true
  pub view : is_view t ≡ false

pub walker_is : (types : Types) (t : Ty) → is_walker_of_values types t ≡ true → IsWalking types t
walker_is types (ty.Iterator target constant) w = record { kind = refl; pointer = refl; reference = refl; owner = refl; value = refl; location = refl; walker = refl; view = refl }
walker_is types (ty.Span target constant) w = record { kind = refl; pointer = refl; reference = refl; owner = refl; value = refl; location = refl; walker = refl; view = refl }
walker_is types _ w = absurd (false≢true w)

-- an owner is an object
pub owner_kind : (types : Types) (t : Ty) → is_owner_of_values types t ≡ true → kind (class (Some t)) ≡ Object
owner_kind types = by_owners types _ refl (λ element. refl)

-- ---- where it lies

pub record IsVariableAtBare (a : Around) (s : State) (x : ℕ) (v : TypedLocal) : Type 0 where
  pub local : Local
  pub there : slice_get s.locals (variable s x) ≡ Some local
  pub typed : local.ty ≡ v.ty
  pub kind : local.kind ≡ kind (class_at a.program.types v.ty)
  pub named : local.name ≡ Some v.name
  pub lives : Contains s.living (variable s x)

abbrev pub IsVariableAt : Around → State → ℕ → TypedLocal → Type 0
IsVariableAt a s x v = IsVariableAtBare a (bare s) x v

-- the table has the program's types, and the visible variables are there
pub record StandsBare (a : Around) (visible : List ℕ) (s : State) : Type 0 where
  pub table : IsFront a.program.types.types s.types.types
  pub opened : IsOpen s
  pub pends : ArePending (first_own a) s
  pub seen : (x : ℕ) (v : TypedLocal) → Contains visible x → slice_get a.function.locals x ≡ Some v → IsVariableAt a s x v
  -- each has a local of its own
  pub apart : (x y : ℕ) (v w : TypedLocal) → Contains visible x → slice_get a.function.locals x ≡ Some v → Contains visible y → slice_get a.function.locals y ≡ Some w → (x ≡ y → ⊥) → variable s x ≡ variable s y → ⊥

abbrev pub Stands : Around → List ℕ → State → Type 0
Stands a visible s = StandsBare a visible (bare s)

pub stands_later : (a : Around) (visible : List ℕ) (s s' : State) → Grows s s' → Stands a visible s → Stands a visible s'
stands_later a visible s s' g h = record {
  table = front_then a.program.types.types s.types.types s'.types.types h.table g.types;
  opened = λ y c. omega (arith, h.opened y (subst (λ (ys : List ℕ). Contains ys y) g.living c), g.count);
  pends = g.pends _ h.pends;
  seen = λ x v c at. moved x v (h.seen x v c at);
  apart = λ x y v w c at d there other e. h.apart x y v w c at d there other (sym (stays x) ∙ e ∙ stays y);
}
  where
    stays : (x : ℕ) → variable s' x ≡ variable s x
    stays x = ap (λ (vs : List ℕ). unwrap_or (slice_get vs x) 0) g.variables

    moved : (x : ℕ) (v : TypedLocal) → IsVariableAt a s x v → IsVariableAt a s' x v
    moved x v there = record {
      local = there.local;
      there = ap (slice_get s'.locals) (stays x) ∙ g.locals (variable s x) there.local there.there;
      typed = there.typed;
      kind = there.kind;
      named = there.named;
      lives = subst (λ (ys : List ℕ). Contains ys (variable s' x)) (sym g.living) (subst (λ (y : ℕ). Contains s.living y) (sym (stays x)) there.lives);
    }

-- ---- what is known of it

kind_uses : (k : LocalKind) (x : ℕ) → place_uses (place_of_kind k x) ≡ x ∷ []
kind_uses Object x = refl
kind_uses Register x = refl
kind_uses Range x = refl

module _ (a : Around) (s : State) (x : ℕ) (v : TypedLocal) (h : IsVariableAt a s x v) where
  pub kind_is : (t : Ty) → slice_get a.program.types.types v.ty.0 ≡ Some t → h.local.kind ≡ kind (class (Some t))
  kind_is t at = h.kind ∙ ap (λ (o : Option Ty). kind (class o)) at

  pub place_is : (k : LocalKind) → h.local.kind ≡ k → variable_place s x ≡ place_of_kind k (variable s x)
  place_is k e = ap (λ (o : Option Local). place_of o (variable s x)) h.there ∙ ap (λ (c : LocalKind). place_of_kind c (variable s x)) e

  below : variable s x < length s.locals
  below = slice_get_within s.locals (variable s x) h.local h.there

  -- a variable is a place
  pub variable_there : (f : Function) (k : List Known) → Alive f s k → IsPlace (variable_place s x) (length s.locals) k
  variable_there f k alive = record {
    local = variable s x;
    uses = ap place_uses (place_is h.local.kind refl) ∙ kind_uses h.local.kind (variable s x);
    below = below;
    held = alive.living (variable s x) h.lives;
  }

  -- .. and a pointer, where it is one
  pub pointer_there : (f : Function) (k : List Known) → Alive f s k → IsPointer (whole (variable s x)) (length s.locals) k
  pointer_there f k alive = record { local = variable s x; is = refl; below = below; held = alive.living (variable s x) h.lives }

-- an expression of the type of a raw pointer or a view that names a variable names one of that type
pub named_pointer : (types : Types) (e : Typed) (v : TypedLocal) (form : Form) → is_admitted_variable types v.ty ≡ true → e ≡ variable_of (type_at types v.ty) types v.ty v.constant e.place form
    → (t : Ty) → e.ty ≡ Of t → is_location t ≡ true → slice_get types.types v.ty.0 ≡ Some t
named_pointer types e v form reached is t of loc = go (variable_type types v.ty reached)
  where
    same : {u w : Ty} → Of u ≡ Of w → u ≡ w
    same e = cc

    found : (u : Ty) → slice_get types.types v.ty.0 ≡ Some u → e ≡ variable_of u types v.ty v.constant e.place form
    found u at = is ∙ ap (λ (o : Option Ty). variable_of (unwrap_or o ty.Void) types v.ty v.constant e.place form) at

    typed : (u : Ty) → slice_get types.types v.ty.0 ≡ Some u → type_at types v.ty ≡ u
    typed u at = ap (λ (o : Option Ty). unwrap_or o ty.Void) at

    not_value : (u : Ty) → is_value u ≡ true → e.ty ≡ Of u → ⊥
    not_value u v at = false≢true (sym (by_values (λ t. is_location t ≡ false) refl refl refl refl refl u v) ∙ subst (λ (w : Ty). is_location w ≡ true) (same (sym of ∙ at)) loc)

    plain : (u : Ty) → is_value u ≡ true → e ≡ variable_of u types v.ty v.constant e.place form → e.ty ≡ Of (type_at types v.ty)
    plain u w is = by_values (λ u. e ≡ variable_of u types v.ty v.constant e.place form → e.ty ≡ Of (type_at types v.ty)) (λ is. ap (λ (x : Typed). x.ty) is) (λ is. ap (λ (x : Typed). x.ty) is) (λ is. ap (λ (x : Typed). x.ty) is) (λ is. ap (λ (x : Typed). x.ty) is) (λ is. ap (λ (x : Typed). x.ty) is) u w is

    not_owner : (u : Ty) → is_owner_of_values types u ≡ true → e.ty ≡ Of u → ⊥
    not_owner ty.Text o at = false≢true (ap is_location (same (sym at ∙ of)) ∙ loc)
    not_owner (ty.Vector element) o at = false≢true (ap is_location (same (sym at ∙ of)) ∙ loc)
    not_owner _ o at = false≢true o

    typed_unique : (target : TyId) → slice_get types.types v.ty.0 ≡ Some (ty.Unique target) → e.ty ≡ Of (ty.Unique target)
    typed_unique target at = ap (λ (x : Typed). x.ty) (found (ty.Unique target) at) ∙ ap Of (typed (ty.Unique target) at)

    go : IsVariableType types v.ty → slice_get types.types v.ty.0 ≡ Some t
    go (a_value u at w) = absurd (not_value u w (plain u w (found u at) ∙ ap Of (typed u at)))
    go (a_raw target constant at w) = at ∙ ap Some (sym (same (sym of ∙ ap (λ (x : Typed). x.ty) (found (ty.Raw target constant) at) ∙ ap Of (typed (ty.Raw target constant) at))))
    go (a_reference target constant at w) = absurd (not_value (type_at types target) w (ap (λ (x : Typed). x.ty) (found (ty.Reference target constant) at)))
    go (an_alias target constant at o) = absurd (not_owner (type_at types target) o (ap (λ (x : Typed). x.ty) (found (ty.Reference target constant) at)))
    go (an_owner u at o) = absurd (not_owner u o (ap (λ (x : Typed). x.ty) (owner_named types e v.ty v.constant form u o (found u at)) ∙ ap Of (typed u at)))
    go (a_unique target at w) =
        absurd (false≢true (ap is_location (same (sym (typed_unique target at) ∙ of)) ∙ loc))
    go (a_struct number at) = absurd (false≢true (ap is_location (same (sym (ap (λ (x : Typed). x.ty) (found (ty.Struct number) at) ∙ ap Of (typed (ty.Struct number) at)) ∙ of)) ∙ loc))
    go (a_struct_alias target constant number at s pointless) = absurd (false≢true (ap is_location (same (sym (ap (λ (x : Typed). x.ty) (found (ty.Reference target constant) at) ∙ ap Of s) ∙ of)) ∙ loc))
    go (a_walker u at w) = at ∙ ap Some (sym (same (sym of ∙ ap (λ (x : Typed). x.ty) (walker_named types e v.ty v.constant form u w (found u at)) ∙ ap Of (typed u at))))
    go (a_view at) = at ∙ ap Some (sym (same (sym of ∙ ap (λ (x : Typed). x.ty) (found ty.View at) ∙ ap Of (typed ty.View at))))
