-- The locals of a function: what isn't passing is a variable or a temporary, and has the type of a variable that is reached.
use Rattle.std.proofs.Common.{◌≡◌, ◌⊎◌, inl, inr, ℕ, zero, suc, Bool, true, false, ◌||◌, List, [], ◌∷◌, arith, length, slice_get, Option, Some, None, refl, ap, ◌∙◌, unwrap_or, ◌&&◌, not, is_none}
use Rattle.std.proofs.lemmas.Bool.{false≢true, or_cases, or_left, or_right}
use Rattle.life_types.specs.TypeTests.{is_value}
use Rattle.life_types.specs.Types.{Types}
use Rattle.life_types.specs.declared.ty.NameId.{NameId}
use Rattle.life_types.specs.declared.ty.Ty.{Ty}
use Rattle.life_types.specs.declared.ty.Ty.TheVariants as ty
use Rattle.life_types.specs.declared.ty.TyId.{TyId}
use Rattle.life_elab_laws.proofs.ObjectTypes.{is_element, is_owner_of_values, is_owner_within, is_pointing, is_admitted_variable, is_target, is_unique_of_element, is_walker_of_values, is_plain_struct}
use Rattle.life_typed.specs.BaseTypes.{type_at}
use Rattle.life_core.specs.declared.program.Local.{Local}
use Rattle.life_elab_laws.proofs.Fronts.{IsFront, each_at, front_length}
use Rattle.life_elab_laws.proofs.AdmittedTypes.{IsAdmittedType, admits, type_admits, variable_found, IsBuilt}
use Rattle.life_elab_laws.proofs.Targets.{IsTarget, owner_target, struct_target, target_is, to_owner, to_struct, to_value, value_target}
use Rattle.life_core.specs.Kinds.{is_object}
use Rattle.life_elab_laws.proofs.Elements.{IsElement, has_owner, has_struct, has_value, element_is, inner_element, struct_element, value_element, within_upto}

-- structs without pointers in a table are so in one with more types
abbrev pub PlainStays : (few more : Types) → Type 0
PlainStays few more = (number : ℕ) → is_plain_struct few (ty.Struct number) ≡ true → is_plain_struct more (ty.Struct number) ≡ true

-- ---- the type of a variable that is built is one in a table with more types too

module _ (few more : Types) (front : IsFront few.types more.types) where
  pub value_later : (id : TyId) → is_value (type_at few id) ≡ true → is_value (type_at more id) ≡ true
  value_later id w = go (slice_get few.types id.0) refl w
    where
      go : (o : Option Ty) → slice_get few.types id.0 ≡ o → is_value (unwrap_or o ty.Void) ≡ true → is_value (type_at more id) ≡ true
      go None at w = absurd (false≢true w)
      go (Some t) at w = ap (λ (o : Option Ty). is_value (unwrap_or o ty.Void)) (front id.0 t at) ∙ w

  -- ---- .. where structs without pointers stay so

  module _ (stays : PlainStays few more) where
    pub plain_further : (t : Ty) → is_plain_struct few t ≡ true → is_plain_struct more t ≡ true
    plain_further (ty.Struct number) b = stays number b
    plain_further _ b = absurd (false≢true b)

    plain_there : (id : TyId) → is_plain_struct few (type_at few id) ≡ true → is_plain_struct more (type_at more id) ≡ true
    plain_there id b = go (slice_get few.types id.0) refl b
      where
        go : (o : Option Ty) → slice_get few.types id.0 ≡ o → is_plain_struct few (unwrap_or o ty.Void) ≡ true → is_plain_struct more (type_at more id) ≡ true
        go None at b = absurd (false≢true b)
        go (Some t) at b = ap (λ (o : Option Ty). is_plain_struct more (unwrap_or o ty.Void)) (front id.0 t at) ∙ plain_further t b

    -- an owner, as deep as it is
    void_within : (n : ℕ) → is_owner_within n few ty.Void ≡ true → ⊥
    void_within zero o = false≢true o
    void_within (suc n) o = false≢true o

    within_there : (n : ℕ) → ((t : Ty) → is_owner_within n few t ≡ true → is_owner_within n more t ≡ true) → (id : TyId) → is_owner_within n few (type_at few id) ≡ true → is_owner_within n more (type_at more id) ≡ true
    within_there n further id o = go (slice_get few.types id.0) refl o
      where
        go : (x : Option Ty) → slice_get few.types id.0 ≡ x → is_owner_within n few (unwrap_or x ty.Void) ≡ true → is_owner_within n more (type_at more id) ≡ true
        go None at o = absurd (void_within n o)
        go (Some t) at o = ap (λ (x : Option Ty). is_owner_within n more (unwrap_or x ty.Void)) (front id.0 t at) ∙ further t o

    pub within_later : (n : ℕ) (t : Ty) → is_owner_within n few t ≡ true → is_owner_within n more t ≡ true
    within_later zero t o = absurd (false≢true o)
    within_later (suc n) ty.Text o = refl
    within_later (suc n) (ty.Vector element) o = go (within_there n (within_later n) element) (or_cases (is_value (type_at few element)) (is_plain_struct few (type_at few element) || is_owner_within n few (type_at few element)) o)
      where
        item : Ty
        item = type_at more element

        go : (is_owner_within n few (type_at few element) ≡ true → is_owner_within n more item ≡ true) → (is_value (type_at few element) ≡ true) ⊎ ((is_plain_struct few (type_at few element) || is_owner_within n few (type_at few element)) ≡ true)
            → (is_value item || (is_plain_struct more item || is_owner_within n more item)) ≡ true
        go further (inl v) = or_left (is_value item) (is_plain_struct more item || is_owner_within n more item) (value_later element v)
        go further (inr other) = or_right (is_value item) (is_plain_struct more item || is_owner_within n more item) (elim (or_cases (is_plain_struct few (type_at few element)) (is_owner_within n few (type_at few element)) other) [
          | inl structure ↦ or_left (is_plain_struct more item) (is_owner_within n more item) (plain_there element structure)
          | inr inner ↦ or_right (is_plain_struct more item) (is_owner_within n more item) (further inner)
        ])
    within_later (suc n) _ o = absurd (false≢true o)

    pub element_further : (t : Ty) → is_element few t ≡ true → is_element more t ≡ true
    element_further t h = go (element_is few t h)
      where
        go : IsElement few t → is_element more t ≡ true
        go (has_value v) = value_element more t v
        go (has_struct number is pointless) = struct_element more t (plain_further t pointless)
        go (has_owner o) = inner_element more t (within_upto more (suc (length few.types)) (suc (length more.types)) t (omega (arith, front_length few.types more.types front)) (within_later (suc (length few.types)) t o))

    pub element_later : (id : TyId) → is_element few (type_at few id) ≡ true → is_element more (type_at more id) ≡ true
    element_later id h = go (slice_get few.types id.0) refl h
      where
        go : (o : Option Ty) → slice_get few.types id.0 ≡ o → is_element few (unwrap_or o ty.Void) ≡ true → is_element more (type_at more id) ≡ true
        go None at h = absurd (false≢true h)
        go (Some t) at h = ap (λ (o : Option Ty). is_element more (unwrap_or o ty.Void)) (front id.0 t at) ∙ element_further t h

    pub owner_later : (t : Ty) → is_owner_of_values few t ≡ true → is_owner_of_values more t ≡ true
    owner_later t o = within_upto more (suc (suc (length few.types))) (suc (suc (length more.types))) t (omega (arith, front_length few.types more.types front)) (within_later (suc (suc (length few.types))) t o)

    pub walker_later : (t : Ty) → is_walker_of_values few t ≡ true → is_walker_of_values more t ≡ true
    walker_later (ty.Iterator target constant) w = element_later target w
    walker_later (ty.Span target constant) w = element_later target w
    walker_later _ w = absurd (false≢true w)

    pub unique_later : (t : Ty) → is_unique_of_element few t ≡ true → is_unique_of_element more t ≡ true
    unique_later (ty.Unique target) u = element_later target u
    unique_later _ u = absurd (false≢true u)

    pub built_later : (t : Ty) → IsBuilt few t → IsBuilt more t
    built_later t (inl o) = inl (owner_later t o)
    built_later t (inr (inl u)) = inr (inl (unique_later t u))
    built_later t (inr (inr s)) = inr (inr (record { number = s.number; is = s.is; at = s.at; there = front s.at t s.there }))

    pub target_further : (t : Ty) → is_target few t ≡ true → is_target more t ≡ true
    target_further t h = go (target_is few t h)
      where
        go : IsTarget few t → is_target more t ≡ true
        go (to_value v) = value_target more t v
        go (to_owner o) = owner_target more t (owner_later t o)
        go (to_struct number is pointless) = struct_target more t (plain_further t pointless)

    pub target_later : (id : TyId) → is_target few (type_at few id) ≡ true → is_target more (type_at more id) ≡ true
    target_later id h = go (slice_get few.types id.0) refl h
      where
        go : (o : Option Ty) → slice_get few.types id.0 ≡ o → is_target few (unwrap_or o ty.Void) ≡ true → is_target more (type_at more id) ≡ true
        go None at h = absurd (false≢true h)
        go (Some t) at h = ap (λ (o : Option Ty). is_target more (unwrap_or o ty.Void)) (front id.0 t at) ∙ target_further t h

    type_later : (t : Ty) → (is_value t || is_pointing few t) ≡ true → (is_value t || is_pointing more t) ≡ true
    type_later (ty.Raw target constant) b = target_later target b
    type_later (ty.Reference target constant) b = target_later target b
    type_later _ b = b

    admitted_later : (t : Ty) → IsAdmittedType few t → IsAdmittedType more t
    admitted_later t (inl b) = inl (type_later t b)
    admitted_later t (inr (inl o)) = inr (inl (owner_later t o))
    admitted_later t (inr (inr (inl w))) = inr (inr (inl (walker_later t w)))
    admitted_later t (inr (inr (inr (inl u)))) = inr (inr (inr (inl (unique_later t u))))
    admitted_later t (inr (inr (inr (inr structure)))) = inr (inr (inr (inr structure)))

    pub variable_later : (id : TyId) → is_admitted_variable few id ≡ true → is_admitted_variable more id ≡ true
    variable_later id b =
        let found = variable_found few id b in
        ap (λ (o : Option Ty). admits more (unwrap_or o ty.Void)) (front id.0 found.0 found.1) ∙ type_admits more found.0 (admitted_later found.0 found.2)

-- ---- locals

-- what is none of these, a local without a name that is no object, is an intermediate value or a hidden range
abbrev pub is_passing : Local → Bool
is_passing l = is_none l.name && not (is_object l.kind)

pub named_lasts : (l : Local) (name : NameId) → l.name ≡ Some name → is_passing l ≡ false
named_lasts l name e = ap (λ (o : Option NameId). is_none o && not (is_object l.kind)) e

-- a variable, a parameter or a temporary has such a type
abbrev pub IsShaped : Types → Local → Type 0
IsShaped types l = is_passing l ≡ false → is_admitted_variable types l.ty ≡ true

abbrev pub AreShaped : Types → List Local → Type 0
AreShaped types [] = Unit {0}
AreShaped types (l ∷ ls) = IsShaped types l × AreShaped types ls

module _ (types : Types) where
  pub all_shaped : (ls : List Local) → ((y : ℕ) (l : Local) → slice_get ls y ≡ Some l → IsShaped types l) → AreShaped types ls
  all_shaped [] each = tt
  all_shaped (l ∷ ls) each = (each zero l refl, all_shaped ls (λ y. each (suc y)))

  pub shaped_at : (ls : List Local) (y : ℕ) (l : Local) → AreShaped types ls → slice_get ls y ≡ Some l → IsShaped types l
  shaped_at = each_at (IsShaped types) (AreShaped types) (λ l ls h. h)
