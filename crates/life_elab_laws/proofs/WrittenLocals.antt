-- The locals of a function while it is written: registers without names, and those of its variables.
use Rattle.std.proofs.Common.{◌≡◌, ◌<◌, ◌≤◌, ◌⊎◌, inl, inr, ℕ, zero, suc, Bool, true, false, ◌||◌, List, [], ◌∷◌, ◌++◌, length, slice_get, Option, Some, None, refl, sym, ap, ◌∙◌, subst, unwrap_or, arith}
use Rattle.std.proofs.lemmas.Bool.{false≢true}
use Rattle.std.proofs.lemmas.Option.{none-some, same_Some, slice_get_within}
use Rattle.life_types.specs.Trees.{HasPartsBelow}
use Rattle.life_types.specs.TypeTests.{is_pointer, is_value}
use Rattle.life_types.specs.Types.{Types, class_at}
use Rattle.life_types.specs.declared.ty.Ty.{Ty}
use Rattle.life_types.specs.declared.ty.Ty.TheVariants as ty
use Rattle.life_types.specs.declared.ty.TyId.{TyId}
use Rattle.life_elab_laws.proofs.ObjectTypes.{is_element, is_owner_of_values, is_pointing, is_struct, is_unique_of_element}
use Rattle.life_typed.specs.BaseTypes.{type_at}
use Rattle.life_typed.specs.declared.typed_program.TypedLocal.{TypedLocal}
use Rattle.life_core.specs.declared.program.Local.{Local}
use Rattle.life_core.specs.declared.program.LocalKind.TheVariants.{Register, Object, Range}
use Rattle.life_writer.specs.Around.{Around}
use Rattle.life_writer.specs.Variables.{kind}
use Rattle.life_writer.specs.Writing.{State}
use Rattle.life_elab_laws.proofs.AdmittedTypes.{IsBuilt, IsTabled}
use Rattle.life_elab_laws.proofs.Fronts.{IsFront, front_length}
use Rattle.life_elab_laws.proofs.OrderedTypes.{HasPartsIn, KeepsOrder, all_below, order_none, order_then}
use Rattle.life_elab_laws.proofs.Elements.{element_target}
use Rattle.life_elab_laws.proofs.Shaped.{element_further, element_later, owner_later, target_later, PlainStays}
use Rattle.life_elab_laws.proofs.Targets.{owner_target, target_within}
use Rattle.life_elab_laws.proofs.Values.{by_values}
use Rattle.life_core.specs.declared.program.LocalKind.{LocalKind}

-- ---- what a register without a name holds: a value, a pointer or reference to one or to an owner, a view, an iterator or a span

abbrev pub fits_register : Types → Ty → Bool
fits_register types (ty.Iterator target constant) = is_element types (type_at types target)
fits_register types (ty.Span target constant) = is_element types (type_at types target)
fits_register types t = is_value t || is_pointing types t

pub value_fits : (types : Types) (t : Ty) → is_value t ≡ true → fits_register types t ≡ true
value_fits types = by_values (λ t. fits_register types t ≡ true) refl refl refl refl refl

pub pointing_fits : (types : Types) (t : Ty) → (is_value t || is_pointing types t) ≡ true → fits_register types t ≡ true
pointing_fits types (ty.Iterator target constant) h = absurd (false≢true h)
pointing_fits types (ty.Span target constant) h = absurd (false≢true h)
pointing_fits types _ h = h

pub fits_later : (few more : Types) → IsFront few.types more.types → PlainStays few more → (t : Ty) → fits_register few t ≡ true → fits_register more t ≡ true
fits_later few more front stays (ty.Raw target constant) h = target_later few more front stays target h
fits_later few more front stays (ty.Reference target constant) h = target_later few more front stays target h
fits_later few more front stays (ty.Iterator target constant) h = element_later few more front stays target h
fits_later few more front stays (ty.Span target constant) h = element_later few more front stays target h
fits_later few more front stays _ h = h

-- ---- a hidden range or iterator: a reference to an owner, or a pointer to its elements

abbrev pub fits_hidden : (types table : Types) → Ty → Bool
fits_hidden types table (ty.Reference target constant) = is_owner_of_values types (type_at table target)
fits_hidden types table (ty.Iterator target constant) = is_element types (type_at table target)
fits_hidden types table (ty.Span target constant) = is_element types (type_at table target)
fits_hidden types table ty.View = true
fits_hidden types table _ = false

-- what is no void is the same in a table with more types
pub there_later : (few more : Types) → IsFront few.types more.types → (test : Ty → Bool) → test ty.Void ≡ false → (id : TyId) → test (type_at few id) ≡ true → test (type_at more id) ≡ true
there_later few more front test void id h = go (slice_get few.types id.0) refl h
  where
    go : (x : Option Ty) → slice_get few.types id.0 ≡ x → test (unwrap_or x ty.Void) ≡ true → test (type_at more id) ≡ true
    go None at h = absurd (false≢true (sym void ∙ h))
    go (Some t) at h = ap (λ (x : Option Ty). test (unwrap_or x ty.Void)) (front id.0 t at) ∙ h

-- .. and stands in it
there_within : (table : Types) (test : Ty → Bool) → test ty.Void ≡ false → (id : TyId) → test (type_at table id) ≡ true → id.0 < length table.types
there_within table test void id h = go (slice_get table.types id.0) refl h
  where
    go : (x : Option Ty) → slice_get table.types id.0 ≡ x → test (unwrap_or x ty.Void) ≡ true → id.0 < length table.types
    go None at h = absurd (false≢true (sym void ∙ h))
    go (Some t) at h = slice_get_within table.types id.0 t at

pub hidden_later : (types few more : Types) → IsFront few.types more.types → (t : Ty) → fits_hidden types few t ≡ true → fits_hidden types more t ≡ true
hidden_later types few more front (ty.Reference target constant) h = there_later few more front (is_owner_of_values types) refl target h
hidden_later types few more front (ty.Iterator target constant) h = there_later few more front (is_element types) refl target h
hidden_later types few more front (ty.Span target constant) h = there_later few more front (is_element types) refl target h
hidden_later types few more front ty.View h = refl
hidden_later types few more front _ h = absurd (false≢true h)

pub hidden_pointer : (types table : Types) (t : Ty) → fits_hidden types table t ≡ true → is_pointer t ≡ true
hidden_pointer types table (ty.Reference target constant) h = refl
hidden_pointer types table (ty.Iterator target constant) h = refl
hidden_pointer types table (ty.Span target constant) h = refl
hidden_pointer types table ty.View h = refl
hidden_pointer types table _ h = absurd (false≢true h)

-- ---- what a local of any kind holds: an owner or a struct too

abbrev pub fits_local : Types → Ty → Bool
fits_local types ty.Text = true
fits_local types (ty.Vector element) = is_element types (type_at types element)
fits_local types (ty.Unique target) = is_element types (type_at types target)
fits_local types (ty.Struct number) = true
fits_local types t = fits_register types t

pub register_local : (types : Types) (t : Ty) → fits_register types t ≡ true → fits_local types t ≡ true
register_local types ty.Text h = refl
register_local types (ty.Vector element) h = absurd (false≢true h)
register_local types (ty.Unique target) h = absurd (false≢true h)
register_local types (ty.Struct number) h = refl
register_local types _ h = h

pub owner_local : (types : Types) (t : Ty) → is_owner_of_values types t ≡ true → fits_local types t ≡ true
owner_local types ty.Text o = refl
owner_local types (ty.Vector element) o = o
owner_local types _ o = absurd (false≢true o)

pub unique_local : (types : Types) (t : Ty) → is_unique_of_element types t ≡ true → fits_local types t ≡ true
unique_local types (ty.Unique target) u = u
unique_local types _ u = absurd (false≢true u)

pub struct_local : (types : Types) (t : Ty) → is_struct t ≡ true → fits_local types t ≡ true
struct_local types (ty.Struct number) s = refl
struct_local types _ s = absurd (false≢true s)

pub hidden_local : (few more : Types) → IsFront few.types more.types → PlainStays few more → (t : Ty) → fits_hidden few more t ≡ true → fits_local more t ≡ true
hidden_local few more front stays (ty.Reference target constant) h = owner_target more (type_at more target) (owner_later few more front stays (type_at more target) h)
hidden_local few more front stays (ty.Iterator target constant) h = element_further few more front stays (type_at more target) h
hidden_local few more front stays (ty.Span target constant) h = element_further few more front stays (type_at more target) h
hidden_local few more front stays ty.View h = refl
hidden_local few more front stays _ h = absurd (false≢true h)

pub local_later : (few more : Types) → IsFront few.types more.types → PlainStays few more → (t : Ty) → fits_local few t ≡ true → fits_local more t ≡ true
local_later few more front stays ty.Text h = refl
local_later few more front stays (ty.Vector element) h = element_later few more front stays element h
local_later few more front stays (ty.Unique target) h = element_later few more front stays target h
local_later few more front stays (ty.Struct number) h = refl
local_later few more front stays (ty.Raw target constant) h = target_later few more front stays target h
local_later few more front stays (ty.Reference target constant) h = target_later few more front stays target h
local_later few more front stays (ty.Iterator target constant) h = element_later few more front stays target h
local_later few more front stays (ty.Span target constant) h = element_later few more front stays target h
local_later few more front stays _ h = h

-- what a register holds has its parts in the table before
element_within : (table : Types) (id : TyId) → is_element table (type_at table id) ≡ true → id.0 < length table.types
element_within table id h = target_within table id (element_target table (type_at table id) h)

pub fits_below : (few table : Types) → length few.types ≤ length table.types → (t : Ty) → fits_register few t ≡ true → HasPartsBelow table (length table.types) t
fits_below few table le ty.Bool h = tt
fits_below few table le ty.Char h = tt
fits_below few table le ty.Int h = tt
fits_below few table le ty.Long h = tt
fits_below few table le ty.Size h = tt
fits_below few table le ty.View h = tt
fits_below few table le (ty.Raw target constant) h = omega (arith, le, target_within few target h)
fits_below few table le (ty.Reference target constant) h = omega (arith, le, target_within few target h)
fits_below few table le (ty.Iterator target constant) h = omega (arith, le, element_within few target h)
fits_below few table le (ty.Span target constant) h = omega (arith, le, element_within few target h)
fits_below few table le _ h = absurd (false≢true h)

-- .. and so has an owner
pub owner_below : (few table : Types) → length few.types ≤ length table.types → (t : Ty) → is_owner_of_values few t ≡ true → HasPartsBelow table (length table.types) t
owner_below few table le ty.Text o = tt
owner_below few table le (ty.Vector element) o = omega (arith, le, element_within few element o)
owner_below few table le _ o = absurd (false≢true o)

-- .. a unique_ptr
unique_below : (few table : Types) → length few.types ≤ length table.types → (t : Ty) → is_unique_of_element few t ≡ true → HasPartsBelow table (length table.types) t
unique_below few table le (ty.Unique target) u = omega (arith, le, element_within few target u)
unique_below few table le _ u = absurd (false≢true u)

-- .. and a struct that the first table has
tabled_below : (few table : Types) → IsFront few.types table.types → (t : Ty) → IsTabled few t → HasPartsIn table t
tabled_below few table front t is ordered =
    subst (λ (u : Ty). HasPartsBelow table (length table.types) u) (sym is.is) (further (subst (λ (u : Ty). HasPartsBelow table is.at u) is.is (ordered.parts is.at t there)))
  where
    there : slice_get table.types is.at ≡ Some t
    there = front is.at t is.there

    further : HasPartsBelow table is.at (ty.Struct is.number) → HasPartsBelow table (length table.types) (ty.Struct is.number)
    further h = record { members = h.members; there = h.there; below = all_below is.at (length table.types) (omega (arith, slice_get_within table.types is.at t there)) h.members h.below }

pub built_below : (few table : Types) → IsFront few.types table.types → (t : Ty) → IsBuilt few t → HasPartsIn table t
built_below few table front t (inl o) ordered = owner_below few table (front_length few.types table.types front) t o
built_below few table front t (inr (inl u)) ordered = unique_below few table (front_length few.types table.types front) t u
built_below few table front t (inr (inr s)) ordered = tabled_below few table front t s ordered

-- .. and what is hidden
pub hidden_below : (types table : Types) (t : Ty) → fits_hidden types table t ≡ true → HasPartsBelow table (length table.types) t
hidden_below types table (ty.Reference target constant) h = there_within table (is_owner_of_values types) refl target h
hidden_below types table (ty.Iterator target constant) h = there_within table (is_element types) refl target h
hidden_below types table (ty.Span target constant) h = there_within table (is_element types) refl target h
hidden_below types table ty.View h = tt
hidden_below types table _ h = absurd (false≢true h)

-- a temporary: a value, an owner of values, a unique_ptr, or a struct
abbrev pub FitsTemporary : Types → Ty → Type 0
FitsTemporary types t = (is_value t ≡ true) ⊎ IsBuilt types t

-- a register, or a temporary, or what is hidden, which may be of a type that only the table so far has: what that is made of is asked of the first table
abbrev pub FitsNameless : (types table : Types) → LocalKind → Ty → Type 0
FitsNameless types table k t = ((k ≡ Register) × (fits_register types t ≡ true)) ⊎ (((k ≡ Object) × FitsTemporary types t) ⊎ ((k ≡ Range) × (fits_hidden types table t ≡ true)))

-- its type is in the table
pub record IsIntermediate (types table : Types) (l : Local) : Type 0 where
  pub nameless : l.name ≡ None
  pub ty : Ty
  pub typed : slice_get table.types l.ty.0 ≡ Some ty
  pub fits : FitsNameless types table l.kind ty

pub intermediate_later : (types few more : Types) (l : Local) → IsFront few.types more.types → IsIntermediate types few l → IsIntermediate types more l
intermediate_later types few more l front is = record {
  nameless = is.nameless;
  ty = is.ty;
  typed = front l.ty.0 is.ty is.typed;
  fits = elim is.fits [
    | inl register ↦ inl register
    | inr other ↦ elim other [
      | inl temporary ↦ inr (inl temporary)
      | inr hidden ↦ inr (inr (hidden.0, hidden_later types few more front is.ty hidden.1))
    ]
  ];
}

-- ---- what a part of an expression adds

-- one more at the end
pub pushed : {X : Type 0} (xs : List X) (x : X) (n : ℕ) (y : X) → slice_get (xs ++ x ∷ []) n ≡ Some y → (slice_get xs n ≡ Some y) ⊎ (x ≡ y)
pushed [] x zero y at = inr (same_Some x y at)
pushed [] x (suc n) y at = absurd (none-some y at)
pushed (z ∷ xs) x zero y at = inl at
pushed (z ∷ xs) x (suc n) y at = pushed xs x n y at

-- whatever is there behind it was there before, or is such a register
abbrev AddsLocals : Types → State → State → Type 0
AddsLocals types s s' = (y : ℕ) (l : Local) → slice_get s'.locals y ≡ Some l → (slice_get s.locals y ≡ Some l) ⊎ IsIntermediate types s'.types l

-- .. and the table stays ordered
abbrev pub AddsRegisters : Types → State → State → Type 0
AddsRegisters types s s' = AddsLocals types s s' × KeepsOrder s.types s'.types

pub registers_none : (types : Types) (s : State) → AddsRegisters types s s
registers_none types s = (λ y l at. inl at, order_none s.types)

pub registers_then : (types : Types) (s t u : State) → IsFront t.types.types u.types.types → AddsRegisters types s t → AddsRegisters types t u → AddsRegisters types s u
registers_then types s t u front first second = (
  λ y l at. elim (second.0 y l at) [
    | inl before ↦ elim (first.0 y l before) [ inl old ↦ inl old | inr is ↦ inr (intermediate_later types t.types u.types l front is) ]
    | inr is ↦ inr is
  ],
  order_then s.types t.types u.types first.1 second.1,
)

pub register_pushed : (types table : Types) (ls : List Local) (new : Local) → IsIntermediate types table new → (y : ℕ) (l : Local) → slice_get (ls ++ new ∷ []) y ≡ Some l → (slice_get ls y ≡ Some l) ⊎ IsIntermediate types table l
register_pushed types table ls new is y l at = elim (pushed ls new y l at) [
  | inl old ↦ inl old
  | inr same ↦ inr (subst (IsIntermediate types table) same is)
]

-- ---- all locals

-- the local of a variable or parameter
pub record IsLocalOf (a : Around) (u : TypedLocal) (l : Local) : Type 0 where
  pub named : l.name ≡ Some u.name
  pub typed : l.ty ≡ u.ty
  pub kind : l.kind ≡ kind (class_at a.program.types u.ty)

-- .. of the function
pub record IsOwn (a : Around) (l : Local) : Type 0 where
  pub number : ℕ
  pub variable : TypedLocal
  pub there : slice_get a.function.locals number ≡ Some variable
  pub of : IsLocalOf a variable l

module _ (types : Types) (a : Around) where
  abbrev pub AreWrittenLocals : State → Type 0
  AreWrittenLocals s = (y : ℕ) (l : Local) → slice_get s.locals y ≡ Some l → IsIntermediate types s.types l ⊎ IsOwn a l

  pub locals_added : (s s' : State) → IsFront s.types.types s'.types.types → AddsRegisters types s s' → AreWrittenLocals s → AreWrittenLocals s'
  locals_added s s' front added h y l at = elim (added.0 y l at) [
    | inl before ↦ elim (h y l before) [ inl is ↦ inl (intermediate_later types s.types s'.types l front is) | inr own ↦ inr own ]
    | inr is ↦ inl is
  ]

  pub own_added : (s : State) (new : Local) → IsOwn a new → AreWrittenLocals s → (y : ℕ) (l : Local) → slice_get (s.locals ++ new ∷ []) y ≡ Some l → IsIntermediate types s.types l ⊎ IsOwn a l
  own_added s new own h y l at = elim (pushed s.locals new y l at) [
    | inl old ↦ h y l old
    | inr same ↦ inr (subst (IsOwn a) same own)
  ]
