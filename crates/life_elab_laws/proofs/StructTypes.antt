-- Structs: what a table says of their members, also one with more types.
use Rattle.std.proofs.Common.{◌≡◌, ◌<◌, ℕ, zero, suc, Bool, true, List, [], ◌∷◌, slice_get, Option, Some, None, refl, sym, ap, ◌∙◌, subst, unwrap_or, length, arith, false}
use Rattle.std.specs.Prelude.{nat_lt}
use Rattle.std.proofs.lemmas.Bool.{and_from, and_parts, false≢true, or_left}
use Rattle.std.proofs.lemmas.Bool.Decides.{nat_tests}
use Rattle.std.proofs.lemmas.Option.{none-some, same_Some}
use Rattle.life_types.specs.Pointees.{or_void, ty_of}
use Rattle.life_types.specs.Trees.{IsOrdered, members_at, is_plain}
use Rattle.life_types.specs.TypeTests.{is_value}
use Rattle.life_types.specs.Types.{HasEachOnce, Types}
use Rattle.life_types.specs.declared.ty.Ty.{Ty}
use Rattle.life_types.specs.declared.ty.Ty.TheVariants as ty
use Rattle.life_types.specs.declared.ty.TyId.{TyId}
use Rattle.life_elab_laws.proofs.ObjectTypes.{are_struct_members, has_fine_structs, have_each, hold_members, is_owner_of_values, is_struct_member, is_element, is_target, is_walker_of_values}
use Rattle.life_typed.specs.BaseTypes.{type_at}
use Rattle.life_typed.specs.declared.basic.TheConstants.{CHAR}
use Rattle.life_elab_laws.proofs.Fronts.{IsFront}
use Rattle.life_elab_laws.proofs.OrderedTypes.{KeepsOrder, members_later, trees_later}
use Rattle.life_elab_laws.proofs.Shaped.{target_later, PlainStays, element_later, owner_later}
use Rattle.life_elab_laws.proofs.Targets.{or_false}

-- each type stands once, behind its parts, and a struct has few members, each of which is a value, a pointer, an owner, a unique_ptr or such a struct
pub record HasStructs (types : Types) : Type 0 where
  pub ordered : IsOrdered types
  pub once : HasEachOnce types
  pub few : (number : ℕ) → length (members_at types number) < 33
  pub members : (number : ℕ) → have_each (is_struct_member types) types (members_at types number) ≡ true

-- .. and the table has chars, where views have elements
pub record IsAdmittedTable (types : Types) : Type 0 where
  pub chars : type_at types CHAR ≡ ty.Char
  pub structs : HasStructs types

-- ---- a list of members

module _ (types : Types) (test : Ty → Bool) where
  pub each_member : (ids : List TyId) (m : ℕ) (id : TyId) → have_each test types ids ≡ true → slice_get ids m ≡ Some id → test (type_at types id) ≡ true
  each_member [] m id b at = absurd (none-some id at)
  each_member (x ∷ ids) zero id b at = subst (λ (y : TyId). test (type_at types y) ≡ true) (same_Some x id at) (and_parts (test (type_at types x)) (have_each test types ids) b).0
  each_member (x ∷ ids) (suc m) id b at = each_member ids m id (and_parts (test (type_at types x)) (have_each test types ids) b).1 at

-- ---- what a member is

module _ (types : Types) where
  pub data IsHeld (t : Ty) : Type 0 where
    a_value_held : is_value t ≡ true → IsHeld t
    a_raw_held : (target : TyId) (constant : Bool) → t ≡ ty.Raw target constant → is_target types (type_at types target) ≡ true → IsHeld t
    a_view_held : t ≡ ty.View → IsHeld t
    a_walker_held : is_walker_of_values types t ≡ true → IsHeld t
    an_owner_held : is_owner_of_values types t ≡ true → IsHeld t
    a_unique_held : (target : TyId) → t ≡ ty.Unique target → is_element types (type_at types target) ≡ true → IsHeld t
    a_struct_held : (number : ℕ) → t ≡ ty.Struct number → IsHeld t

  pub held_is : (t : Ty) → is_struct_member types t ≡ true → IsHeld t
  held_is ty.Bool b = a_value_held refl
  held_is ty.Char b = a_value_held refl
  held_is ty.Int b = a_value_held refl
  held_is ty.Long b = a_value_held refl
  held_is ty.Size b = a_value_held refl
  held_is ty.View b = a_view_held refl
  held_is (ty.Raw target constant) b = a_raw_held target constant refl (or_false (is_target types (type_at types target)) b)
  held_is (ty.Iterator item constant) b = a_walker_held (or_false (is_element types (type_at types item)) b)
  held_is (ty.Span item constant) b = a_walker_held (or_false (is_element types (type_at types item)) b)
  held_is ty.Text b = an_owner_held refl
  held_is (ty.Vector item) b = an_owner_held (or_false (is_owner_of_values types (ty.Vector item)) b)
  held_is (ty.Unique target) b = a_unique_held target refl (or_false (is_element types (type_at types target)) b)
  held_is (ty.Struct number) b = a_struct_held number refl
  held_is _ b = absurd (false≢true b)

-- .. of a struct
pub has_member : (types : Types) → HasStructs types → (number m : ℕ) (id : TyId) → slice_get (members_at types number) m ≡ Some id → is_struct_member types (type_at types id) ≡ true
has_member types structs number m id at = each_member types (is_struct_member types) (members_at types number) m id (structs.members number) at

-- ---- what is tested

module _ (types : Types) where
  members_in : (structs : List (List TyId)) (number : ℕ) (ids : List TyId) → hold_members types structs ≡ true → slice_get structs number ≡ Some ids → are_struct_members types ids ≡ true
  members_in [] number ids b at = absurd (none-some ids at)
  members_in (x ∷ structs) zero ids b at = subst (λ (ys : List TyId). are_struct_members types ys ≡ true) (same_Some x ids at) (and_parts (are_struct_members types x) (hold_members types structs) b).0
  members_in (x ∷ structs) (suc number) ids b at = members_in structs number ids (and_parts (are_struct_members types x) (hold_members types structs) b).1 at

  pub structs_told : IsOrdered types → HasEachOnce types → has_fine_structs types ≡ true → HasStructs types
  structs_told ordered once b = record { ordered = ordered; once = once; few = λ number. fewer number (slice_get types.structs number) refl; members = λ number. go number (slice_get types.structs number) refl }
    where
      lt_of : (m n : ℕ) → nat_lt m n ≡ true → m < n
      lt_of m n h = grind (arith, nat_tests)

      fewer : (number : ℕ) (o : Option (List TyId)) → slice_get types.structs number ≡ o → length (unwrap_or o []) < 33
      fewer number None there = omega arith
      fewer number (Some ids) there = lt_of (length ids) 33 (and_parts (nat_lt (length ids) 33) (have_each (is_struct_member types) types ids) (members_in types.structs number ids b there)).0

      go : (number : ℕ) (o : Option (List TyId)) → slice_get types.structs number ≡ o → have_each (is_struct_member types) types (unwrap_or o []) ≡ true
      go number None there = refl
      go number (Some ids) there = (and_parts (nat_lt (length ids) 33) (have_each (is_struct_member types) types ids) (members_in types.structs number ids b there)).1

-- ---- in a table with more types too

module _ (few more : Types) (front : IsFront few.types more.types) where
  -- a member's type is the same one there
  pub member_type_there : (id : TyId) → is_struct_member few (type_at few id) ≡ true → ty_of more id ≡ type_at few id
  member_type_there id h = go (slice_get few.types id.0) refl h
    where
      go : (o : Option Ty) → slice_get few.types id.0 ≡ o → is_struct_member few (unwrap_or o ty.Void) ≡ true → ty_of more id ≡ type_at few id
      go None at h = absurd (false≢true h)
      go (Some t) at h = ap or_void (front id.0 t at) ∙ sym (ap (λ (o : Option Ty). unwrap_or o ty.Void) at)

  module _ (order : KeepsOrder few more) where
    -- a struct without pointers is one there too
    pub plain_later : HasStructs few → PlainStays few more
    plain_later has number pointless = trees_later few more front order is_plain has.ordered number pointless

    -- .. and so is a member
    member_further : PlainStays few more → (t : Ty) → is_struct_member few t ≡ true → is_struct_member more t ≡ true
    member_further stays ty.Bool b = refl
    member_further stays ty.Char b = refl
    member_further stays ty.Int b = refl
    member_further stays ty.Long b = refl
    member_further stays ty.Size b = refl
    member_further stays ty.View b = refl
    member_further stays (ty.Raw target constant) b = or_left (is_target more (type_at more target)) false (target_later few more front stays target (or_false (is_target few (type_at few target)) b))
    member_further stays (ty.Iterator item constant) b = or_left (is_element more (type_at more item)) false (element_later few more front stays item (or_false (is_element few (type_at few item)) b))
    member_further stays (ty.Span item constant) b = or_left (is_element more (type_at more item)) false (element_later few more front stays item (or_false (is_element few (type_at few item)) b))
    member_further stays ty.Text b = refl
    member_further stays (ty.Vector item) b = or_left (is_owner_of_values more (ty.Vector item)) false (owner_later few more front stays (ty.Vector item) (or_false (is_owner_of_values few (ty.Vector item)) b))
    member_further stays (ty.Unique target) b = or_left (is_element more (type_at more target)) false (element_later few more front stays target (or_false (is_element few (type_at few target)) b))
    member_further stays (ty.Struct number) b = refl
    member_further stays _ b = absurd (false≢true b)

    member_later : PlainStays few more → (id : TyId) → is_struct_member few (type_at few id) ≡ true → is_struct_member more (type_at more id) ≡ true
    member_later stays id b = go (slice_get few.types id.0) refl b
      where
        go : (o : Option Ty) → slice_get few.types id.0 ≡ o → is_struct_member few (unwrap_or o ty.Void) ≡ true → is_struct_member more (type_at more id) ≡ true
        go None at b = absurd (false≢true b)
        go (Some t) at b = ap (λ (o : Option Ty). is_struct_member more (unwrap_or o ty.Void)) (front id.0 t at) ∙ member_further stays t b

    each_later : (here there : Ty → Bool) → ((id : TyId) → here (type_at few id) ≡ true → there (type_at more id) ≡ true) → (ids : List TyId) → have_each here few ids ≡ true → have_each there more ids ≡ true
    each_later here there further [] b = refl
    each_later here there further (id ∷ ids) b =
        let parts = and_parts (here (type_at few id)) (have_each here few ids) b in
        and_from (there (type_at more id)) (have_each there more ids) (further id parts.0) (each_later here there further ids parts.1)

    pub structs_later : HasStructs few → HasStructs more
    structs_later has = record {
      ordered = order.ordered has.ordered;
      once = order.once has.once;
      few = λ number. subst (λ (ids : List TyId). length ids < 33) (sym (members_later few more order number)) (has.few number);
      members = λ number.
          subst (λ (ids : List TyId). have_each (is_struct_member more) more ids ≡ true) (sym (members_later few more order number))
          (each_later (is_struct_member few) (is_struct_member more) (member_later (plain_later has)) (members_at few number) (has.members number));
    }
