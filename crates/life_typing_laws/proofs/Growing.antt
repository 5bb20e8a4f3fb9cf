-- The table of types grows: what was there stays, what is added has its number, and the parts of each type are there.
use Rattle.std.proofs.Common.{◌≡◌, ℕ, ◌<◌, ◌-◌, ◌^◌, Bool, true, false, Option, None, Some, List, [], ◌∷◌, ◌++◌, Ok, length, slice_get, if◌then◌else◌, refl, sym, ap, subst, ◌∙◌, arith, rules}
use Rattle.std.specs.List.{list_any}
use Rattle.std.specs.Prelude.{nat_lt}
use Rattle.std.proofs.lemmas.Bool.{and_parts, ltb-true}
use Rattle.std.proofs.lemmas.Option.{slice_get_within}
use Rattle.life_types.specs.Trees.{IsOrdered, HasPartsBelow}
use Rattle.life_types.specs.TypeTests.{is_void}
use Rattle.life_types.specs.Types.{Types, HasType, HasTypes, HasParts, with_type}
use Rattle.life_types.specs.contracts.ty.TyPartialEq.TheImpl.{ghosts as compared}
use Rattle.life_types.specs.declared.place.Place.{Place}
use Rattle.life_types.specs.declared.ty.Ty.{Ty}
use Rattle.life_types.specs.declared.ty.Ty.TheVariants as ty
use Rattle.life_types.specs.declared.ty.TyId.{TyId}
use Rattle.life_types.proofs.TreeLemmas.{Grows as Kept, grows_more, ordered_more, IsThere, within}
use Rattle.life_typed.specs.BaseTypes.{type_at}
use Rattle.life_names.specs.Checked.{Checked, broken}
use Rattle.life_names.specs.Environment.{StructureView}
use Rattle.life_names.specs.Table.{can_add, has_parts, number_of, type_added}
use Rattle.life_names.specs.WrittenTypes.{sound}
use Rattle.life_names.specs.declared.fault.IllKind.{IllKind}
use Rattle.life_names.specs.declared.fault.IllKind.TheVariants as kinds
use Rattle.life_typing.specs.Structs.{types_of}
use Rattle.life_typing_laws.specs.Sound.{Grows, HasStruct, HasStructs}
use Rattle.life_well_typed.proofs.ObjectsKept.{object_there, objects_more}
use Rattle.life_well_typed.proofs.Once.{once_more, same_type}
use Rattle.life_well_typed.specs.Tables.{HasObjects, HasTarget, IsObject}

-- ---- growing

pub grows_not : (types : Types) → Grows types types
grows_not types = record { types = λ n t e. e; once = λ h. h; objects = λ h. h; structs = λ n ids e. e }

pub grows_on : (a b c : Types) → Grows a b → Grows b c → Grows a c
grows_on a b c first second = record { types = λ n t e. second.types n t (first.types n t e); once = λ h. second.once (first.once h); objects = λ h. second.objects (first.objects h); structs = λ n ids e. second.structs n ids (first.structs n ids e) }

-- a table that has grown, with the same structs, and is in order
pub record IsGrown (few more : Types) : Type 0 where
  pub grows : Grows few more
  pub ordered : IsOrdered more
  pub structs : more.structs ≡ few.structs

pub grown_not : (types : Types) → IsOrdered types → IsGrown types types
grown_not types ordered = record { grows = grows_not types; ordered = ordered; structs = refl }

pub grown_on : (a b c : Types) → IsGrown a b → IsGrown b c → IsGrown a c
grown_on a b c first second = record { grows = grows_on a b c first.grows second.grows; ordered = second.ordered; structs = second.structs ∙ first.structs }

-- a type that is there keeps its number
pub stays_there : (old new : Types) (id : TyId) → Grows old new → HasType old id → HasType new id
stays_there old new id grows there =
    let found : IsThere old.types id.0 = within old.types id.0 there in
    slice_get_within new.types id.0 found.item (grows.types id.0 found.item found.there)

pub stay_there : (old new : Types) (ids : List TyId) → Grows old new → HasTypes old ids → HasTypes new ids
stay_there old new [] grows there = tt
stay_there old new (id ∷ ids) grows there = (stays_there old new id grows there.0, stay_there old new ids grows there.1)

pub type_is : (types : Types) (id : TyId) (t : Ty) → slice_get types.types id.0 ≡ Some t → type_at types id ≡ t
type_is types id t e = rw e refl

-- .. a struct too
pub struct_stays : (old new : Types) (number : ℕ) (s : StructureView) → Grows old new → HasStruct old number s → HasStruct new number s
struct_stays old new number s grows has = record { type = grows.types s.ty.0 (ty.Struct number) has.type; members = grows.structs number (types_of s.members) has.members }

pub structs_stay : (old new : Types) (structs : List StructureView) → Grows old new → HasStructs old structs → HasStructs new structs
structs_stay old new structs grows has n s e = struct_stays old new n s grows (has n s e)

-- .. and stays what it is
pub same_type_at : (old new : Types) (id : TyId) → Grows old new → HasType old id → type_at new id ≡ type_at old id
same_type_at old new id grows there =
    let found : IsThere old.types id.0 = within old.types id.0 there in
    type_is new id found.item (grows.types id.0 found.item found.there) ∙ sym (type_is old id found.item found.there)

-- an object too
pub object_later : (old new : Types) (id : TyId) → Grows old new → IsObject old id → IsObject new id
object_later old new id grows object = ap is_void (same_type_at old new id grows (object_there old id object)) ∙ object

abbrev pub AreObjects : Types → List TyId → Type 0
AreObjects types [] = Unit {0}
AreObjects types (id ∷ ids) = IsObject types id × AreObjects types ids

pub objects_later : (old new : Types) (ids : List TyId) → Grows old new → AreObjects old ids → AreObjects new ids
objects_later old new [] grows are = tt
objects_later old new (id ∷ ids) grows are = (object_later old new id grows are.0, objects_later old new ids grows are.1)

pub objects_there : (types : Types) (ids : List TyId) → AreObjects types ids → HasTypes types ids
objects_there types [] are = tt
objects_there types (id ∷ ids) are = (object_there types id are.0, objects_there types ids are.1)

-- ---- the parts of a type

parts_below : (types : Types) (n : ℕ) (t : Ty) → n < length types.types → HasPartsBelow types n t → HasParts types t
parts_below types n (ty.Vector element) few below = omega (arith, below)
parts_below types n (ty.Unique target) few below = omega (arith, below)
parts_below types n (ty.Raw target constant) few below = omega (arith, below)
parts_below types n (ty.Reference target constant) few below = omega (arith, below)
parts_below types n (ty.Iterator target constant) few below = omega (arith, below)
parts_below types n (ty.Span target constant) few below = omega (arith, below)
parts_below types n (ty.Struct number) few below = slice_get_within types.structs number below.members below.there
parts_below types n _ few below = tt

-- .. stay there
pub parts_stay : (old new : Types) (t : Ty) → Grows old new → HasParts old t → HasParts new t
parts_stay old new (ty.Vector element) grows there = stays_there old new element grows there
parts_stay old new (ty.Unique target) grows there = stays_there old new target grows there
parts_stay old new (ty.Raw target constant) grows there = stays_there old new target grows there
parts_stay old new (ty.Reference target constant) grows there = stays_there old new target grows there
parts_stay old new (ty.Iterator target constant) grows there = stays_there old new target grows there
parts_stay old new (ty.Span target constant) grows there = stays_there old new target grows there
parts_stay old new (ty.Struct number) grows there =
    let found : IsThere old.structs number = within old.structs number there in
    slice_get_within new.structs number found.item (grows.structs number found.item found.there)
parts_stay old new _ grows there = tt

pub parts_there : (types : Types) (id : TyId) → IsOrdered types → HasType types id → HasParts types (type_at types id)
parts_there types id ordered there =
    let found : IsThere types.types id.0 = within types.types id.0 there in
    subst (HasParts types) (sym (type_is types id found.item found.there)) (parts_below types id.0 found.item there (ordered.parts id.0 found.item found.there))

-- ---- a type is added

same_types : (t u : Ty) → compared.eq t u ≡ true → t ≡ u
same_types t u e = search rules

number_in : (xs : List Ty) (t : Ty) → list_any (compared.eq t) xs ≡ true → slice_get xs (number_of xs t) ≡ Some t
number_in [] t e = absurd (cc)
number_in (x ∷ xs) t e = go (compared.eq t x) refl (number_in xs t) e
  where
    go : (b : Bool) → compared.eq t x ≡ b → (list_any (compared.eq t) xs ≡ true → slice_get xs (number_of xs t) ≡ Some t)
        → list_any (compared.eq t) (x ∷ xs) ≡ true → slice_get (x ∷ xs) (number_of (x ∷ xs) t) ≡ Some t
    go true is rest among = rw is (ap Some (sym (same_types t x is)))
    go false is rest among = rw is (rest (rw is at among))

any_last : (xs : List Ty) (t : Ty) → list_any (compared.eq t) (xs ++ t ∷ []) ≡ true
any_last [] t = rw (same_type t) refl
any_last (x ∷ xs) t = go (compared.eq t x) refl (any_last xs t)
  where
    go : (b : Bool) → compared.eq t x ≡ b → list_any (compared.eq t) (xs ++ t ∷ []) ≡ true → list_any (compared.eq t) (x ∷ (xs ++ t ∷ [])) ≡ true
    go true is rest = rw is refl
    go false is rest = rw is rest

parts_are_there : (types : Types) (t : Ty) → has_parts types t ≡ true → HasParts types t
parts_are_there types (ty.Vector element) e = ltb-true element.0 (length types.types) e
parts_are_there types (ty.Unique target) e = ltb-true target.0 (length types.types) e
parts_are_there types (ty.Raw target constant) e = ltb-true target.0 (length types.types) e
parts_are_there types (ty.Reference target constant) e = ltb-true target.0 (length types.types) e
parts_are_there types (ty.Iterator target constant) e = ltb-true target.0 (length types.types) e
parts_are_there types (ty.Span target constant) e = ltb-true target.0 (length types.types) e
parts_are_there types (ty.Struct number) e = absurd (cc)
parts_are_there types _ e = tt

-- a type of which this is said, and the table behind it
pub record IsAdded (t : Ty) (types : Types) (x : TyId × Types) : Type 0 where
  pub grown : IsGrown types x.1
  pub is : slice_get x.1.types x.0.0 ≡ Some t

abbrev over : Types → Ty → List Ty → TyId × Types
over types t ts = (record { 0 = number_of ts t }, record types { types = ts })

abbrev pub grown_by : Types → Ty → TyId × Types
grown_by types t = over types t (with_type types.types t)

with_old : (types : Types) (t : Ty) → list_any (compared.eq t) types.types ≡ true → with_type types.types t ≡ types.types
with_old types t is = ap (λ b. if b then types.types else types.types ++ t ∷ []) is

with_new : (types : Types) (t : Ty) → list_any (compared.eq t) types.types ≡ false → with_type types.types t ≡ types.types ++ t ∷ []
with_new types t is = ap (λ b. if b then types.types else types.types ++ t ∷ []) is

pub with_added : (types : Types) (t : Ty) → IsOrdered types → HasParts types t → (HasObjects types → HasTarget types t) → IsAdded t types (grown_by types t)
with_added types t ordered there target = go (list_any (compared.eq t) types.types) refl
  where
    go : (b : Bool) → list_any (compared.eq t) types.types ≡ b → IsAdded t types (over types t (with_type types.types t))
    go true is = subst (λ (ts : List Ty). IsAdded t types (over types t ts)) (sym (with_old types t is)) (record { grown = grown_not types ordered; is = number_in types.types t is })
    go false is = subst (λ (ts : List Ty). IsAdded t types (over types t ts)) (sym (with_new types t is))
        (record {
          grown = record {
            grows = record {
              types = (grows_more types ordered t there).types;
              once = once_more types.structs types.types t is;
              objects = λ objects. objects_more types t ordered there (target objects) objects;
              structs = λ n ids e. e;
            };
            ordered = ordered_more types ordered t there;
            structs = refl;
          };
          is = number_in (types.types ++ t ∷ []) t (any_last types.types t);
        })

-- what was there stays, whatever is added
pub added_keeps : (place : Place) (t : Ty) (types : Types) (x : TyId × Types) → IsOrdered types → type_added place t types ≡ Ok x → Kept types x.1
unfolding type_added
added_keeps place t types x ordered e = go (can_add types t) refl e
  where
    kept : HasParts types t → (b : Bool) → list_any (compared.eq t) types.types ≡ b → Kept types (grown_by types t).1
    kept there true is = subst (λ (ts : List Ty). Kept types (over types t ts).1) (sym (with_old types t is)) (record { types = λ n u e. e; structs = λ n ids e. e })
    kept there false is = subst (λ (ts : List Ty). Kept types (over types t ts).1) (sym (with_new types t is)) (grows_more types ordered t there)

    go : (b : Bool) → can_add types t ≡ b → ◌≡◌ {A = Checked TyId} (if b then Ok (grown_by types t) else broken kinds.Unsupported place) (Ok x) → Kept types x.1
    go true can is =
        let same : grown_by types t ≡ x = cc in
        subst (λ (y : TyId × Types). Kept types y.1) same (kept (parts_are_there types t (and_parts (nat_lt (length types.types) (2 ^ 32 - 1)) (has_parts types t) can).1) (list_any (compared.eq t) types.types) refl)
    go false can is = absurd (cc)

pub added : (place : Place) (t : Ty) (types : Types) (x : TyId × Types) → IsOrdered types → (HasObjects types → HasTarget types t) → type_added place t types ≡ Ok x → IsAdded t types x
unfolding type_added
added place t types x ordered target e = go (can_add types t) refl e
  where
    go : (b : Bool) → can_add types t ≡ b → ◌≡◌ {A = Checked TyId} (if b then Ok (grown_by types t) else broken kinds.Unsupported place) (Ok x) → IsAdded t types x
    go true can is =
        let same : grown_by types t ≡ x = cc in
        subst (IsAdded t types) same (with_added types t ordered (parts_are_there types t (and_parts (nat_lt (length types.types) (2 ^ 32 - 1)) (has_parts types t) can).1) target)
    go false can is = absurd (cc)

pub sound_added : (fault : Option IllKind) (place : Place) (t : Ty) (types : Types) (x : TyId × Types) → IsOrdered types → (fault ≡ None → HasTarget types t) → sound fault place t types ≡ Ok x → IsAdded t types x
sound_added None place t types x ordered target e = added place t types x ordered (λ objects. target refl) e
sound_added (Some kind) place t types x ordered target e = absurd (cc)
