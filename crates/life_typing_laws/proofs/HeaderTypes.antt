-- The types of a header are there, in a table that has grown, and there are as many as parameters.
use Rattle.std.proofs.Common.{◌≡◌, ℕ, suc, ◌+◌, Bool, true, false, Ok, Err, List, [], ◌∷◌, ◌++◌, length, refl, ap, subst, arith, length-append, if◌then◌else◌}
use Rattle.std.proofs.lemmas.Option.{slice_get_within}
use Rattle.life_types.specs.Trees.{IsOrdered}
use Rattle.life_types.specs.Types.{Types, HasType}
use Rattle.life_types.specs.declared.place.Place.{Place}
use Rattle.life_types.specs.declared.ty.Ty.TheVariants as ty
use Rattle.life_types.specs.declared.ty.TyId.{TyId}
use Rattle.life_tree.specs.declared.function.Function.{Function}
use Rattle.life_tree.specs.declared.function.Parameter.{Parameter}
use Rattle.life_tree.specs.declared.function.ResultType.{ResultType}
use Rattle.life_tree.specs.declared.function.ResultType.TheVariants as returned_type
use Rattle.life_typed.specs.BaseTypes.{base_types}
use Rattle.life_typed.specs.declared.basic.TheConstants.{VOID}
use Rattle.life_names.specs.Checked.{Checked, broken}
use Rattle.life_names.specs.Environment.{Scope, meaning, seen_as}
use Rattle.life_names.specs.WrittenTypes.{is_const_value, written}
use Rattle.life_names.specs.declared.environment.Entity.{Entity}
use Rattle.life_names.specs.declared.environment.Entity.TheVariants as entity
use Rattle.life_names.specs.declared.fault.IllKind.TheVariants as kinds
use Rattle.life_typing.specs.Headers.{Header, Known, behind_result, function_seen, header_types, ill_at, not_const_value, nothing_known, parameter_types, result_type, returned_as, seen_unless, sound, with_known, with_next}
use Rattle.life_typing.specs.Pointing.{reach_at}
use Rattle.life_typing_laws.proofs.Domains.{Pointing, Returned}
use Rattle.life_well_typed.proofs.ObjectsKept.{object_there}
use Rattle.life_well_typed.specs.Tables.{IsObject}
use Rattle.life_typing_laws.proofs.Growing.{AreObjects, IsGrown, grown_not, grown_on, grows_on, objects_later, stays_there, structs_stay}
use Rattle.life_typing_laws.proofs.Steps.{bound}
use Rattle.life_typing_laws.proofs.Written.{IsFound, written_finds}
use Rattle.life_typing_laws.specs.Sound.{Grows, HasStructs}

-- ---- the result

-- void too
record IsResult (types : Types) (x : TyId × Types) : Type 0 where
  grown : IsGrown types x.1
  there : HasType x.1 x.0

result_finds : (r : ResultType) (place : Place) (scope : Scope) (types : Types) (x : TyId × Types) → IsOrdered types → Grows base_types types → HasStructs types scope.structs → result_type r place scope types ≡ Ok x
    → IsResult types x
result_finds (returned_type.Void at) place scope types x ordered base there e =
    let same : ◌≡◌ {A = TyId × Types} (VOID, types) x = cc in
    subst (IsResult types) same (record { grown = grown_not types ordered; there = slice_get_within types.types 0 ty.Void (base.types 0 ty.Void refl) })
result_finds (returned_type.Type t) place scope types x ordered base there e =
    let step = bound (written t place scope types) (not_const_value t place) x e in
    let found = written_finds t place scope types step.value ordered base there step.gave in
    subst (IsResult types) (go (is_const_value t) step.value step.behind) (record { grown = found.grown; there = object_there step.value.1 step.value.0 found.object })
  where
    go : (constant : Bool) (y : TyId × Types) → ◌≡◌ {A = Checked TyId} (if constant then broken kinds.WrongType place else Ok y) (Ok x) → y ≡ x
    go true y h = absurd (cc)
    go false y h = cc

-- ---- the parameters

objects_more : (types : Types) (ids : List TyId) (id : TyId) → AreObjects types ids → IsObject types id → AreObjects types (ids ++ id ∷ [])
objects_more types [] id are last = (last, tt)
objects_more types (i ∷ ids) id are last = (are.0, objects_more types ids id are.1 last)

-- what was read behind these, over a table in which they are
pub record AreRead (returned : Returned) (before : Known) (ps : List Parameter) (types : Types) (known : Known) (after : Types) : Type 0 where
  pub grown : IsGrown types after
  pub objects : AreObjects after known.types
  pub types_count : length known.types ≡ length before.types + length ps
  pub reaches_count : length known.reaches ≡ length before.reaches + length ps

one_more : {A B : Type 0} (before : List A) (x : A) (all : List B) (n : ℕ) → length all ≡ length (before ++ x ∷ []) + n → length all ≡ length before + suc n
one_more before x all n e = let one : length (before ++ x ∷ []) ≡ length before + 1 = length-append before (x ∷ []) in omega (arith, e, one)

abbrev returned_in : Returned → Header → Returned
returned_in first (sound r k t) = r
returned_in first (ill_at r k fault) = first

abbrev known_in : Known → Header → Known
known_in before (sound r k t) = k
known_in before (ill_at r k fault) = before

abbrev table_in : Types → Header → Types
table_in types (sound r k t) = t
table_in types (ill_at r k fault) = types

module _ (structs : List Pointing) (scope : Scope) (first : Returned) where
  -- what is read behind one more
  abbrev Later : List Parameter → Known → Returned → Known → Types → TyId × Types → Type 0
  Later ps before returned known after x =
      IsOrdered x.1 → Grows base_types x.1 → HasStructs x.1 scope.structs → AreObjects x.1 (before.types ++ x.0 ∷ []) → parameter_types structs first (with_known x.1 structs x.0 before) ps scope x.1 ≡ sound returned known after
      → (first ≡ returned) × AreRead returned (with_known x.1 structs x.0 before) ps x.1 known after

  parameters_read : (ps : List Parameter) (before : Known) (types : Types) (returned : Returned) (known : Known) (after : Types) → IsOrdered types → Grows base_types types → HasStructs types scope.structs → AreObjects types before.types
      → parameter_types structs first before ps scope types ≡ sound returned known after → (first ≡ returned) × AreRead returned before ps types known after
  parameters_read [] before types returned known after ordered base has there e = (ap (returned_in first) e, made)
    where
      at_once : AreRead returned before [] types before types
      at_once = record { grown = grown_not types ordered; objects = there; types_count = omega arith; reaches_count = omega arith }

      made : AreRead returned before [] types known after
      made = subst (λ (t : Types). AreRead returned before [] types known t) (ap (table_in types) e) (subst (λ (k : Known). AreRead returned before [] types k types) (ap (known_in before) e) at_once)
  parameters_read (p ∷ ps) before types returned known after ordered base has there e =
      go (λ x closed grown still now h. parameters_read ps (with_known x.1 structs x.0 before) x.1 returned known after closed grown still now h) (written p.ty p.name.place scope types) refl e
    where
      of : (x : TyId × Types) → Later ps before returned known after x → written p.ty p.name.place scope types ≡ Ok x → parameter_types structs first (with_known x.1 structs x.0 before) ps scope x.1 ≡ sound returned known after
          → (first ≡ returned) × AreRead returned before (p ∷ ps) types known after
      of x others is h =
          let found : IsFound types x = written_finds p.ty p.name.place scope types x ordered base has is in
          let now : AreObjects x.1 (before.types ++ x.0 ∷ []) = objects_more x.1 before.types x.0 (objects_later types x.1 before.types found.grown.grows there) found.object in
          let later = others found.grown.ordered (grows_on base_types types x.1 base found.grown.grows) (structs_stay types x.1 scope.structs found.grown.grows has) now h in (
            later.0,
            record {
              grown = grown_on types x.1 after found.grown later.1.grown;
              objects = later.1.objects;
              types_count = one_more before.types x.0 known.types (length ps) later.1.types_count;
              reaches_count = one_more before.reaches (reach_at x.1 structs x.0) known.reaches (length ps) later.1.reaches_count;
            },
          )

      go : ((x : TyId × Types) → Later ps before returned known after x) → (c : Checked TyId) → written p.ty p.name.place scope types ≡ c → with_next structs first before c (λ k t. parameter_types structs first k ps scope t) ≡ sound returned known after
          → (first ≡ returned) × AreRead returned before (p ∷ ps) types known after
      go others (Ok x) is h = of x (others x) is h
      go others (Err fault) is h = absurd (cc)

-- ---- all of them

-- what holds before and behind the function's name means a function holds where it is seen
pub by_seen : (f : Function) (scope : Scope) (Holds : Scope → Type 0) → Holds scope → Holds (seen_as f.name.id (entity.Function 0) scope) → Holds (function_seen f scope)
by_seen f scope Holds same new = of (meaning scope f.name.id)
  where
    of : (e : Entity) → Holds (seen_unless e f scope)
    of entity.Unseen = new
    of (entity.Structure number) = same
    of (entity.Function number) = same
    of (entity.Local number) = same

pub record HeaderRead (ps : List Parameter) (types : Types) (returned : Returned) (known : Known) (after : Types) : Type 0 where
  pub grown : IsGrown types after
  pub result : HasType after returned.ty
  pub objects : AreObjects after known.types
  pub types_count : length known.types ≡ length ps
  pub reaches_count : length known.reaches ≡ length ps

pub header_read : (structs : List Pointing) (f : Function) (scope : Scope) (types : Types) (returned : Returned) (known : Known) (after : Types) → IsOrdered types → Grows base_types types → HasStructs types scope.structs
    → header_types structs f scope types ≡ sound returned known after → HeaderRead f.parameters.items types returned known after
header_read structs f scope types returned known after ordered base has e = go (result_type f.returned f.name.place scope types) refl e
  where
    go : (c : Checked TyId) → result_type f.returned f.name.place scope types ≡ c → behind_result structs c f (function_seen f scope) ≡ sound returned known after
        → HeaderRead f.parameters.items types returned known after
    go (Err fault) is h = absurd (cc)
    go (Ok x) is h =
        let found : IsResult types x = result_finds f.returned f.name.place scope types x ordered base has is in
        let read = parameters_read structs (function_seen f scope) (returned_as x.1 structs x.0) f.parameters.items nothing_known x.1 returned known after
        found.grown.ordered (grows_on base_types types x.1 base found.grown.grows)
        (by_seen f scope (λ (s : Scope). HasStructs x.1 s.structs) (structs_stay types x.1 scope.structs found.grown.grows has) (structs_stay types x.1 scope.structs found.grown.grows has)) tt h in
        record {
          grown = grown_on types x.1 after found.grown read.1.grown;
          result = stays_there x.1 after returned.ty read.1.grown.grows (subst (λ (r : Returned). HasType x.1 r.ty) read.0 found.there);
          objects = read.1.objects;
          types_count = omega (arith, read.1.types_count);
          reaches_count = omega (arith, read.1.reaches_count);
        }
