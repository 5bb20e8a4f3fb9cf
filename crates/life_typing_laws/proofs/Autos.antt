-- The type of a variable that is declared with `auto`: that of what it is given, or a reference to it.
use Rattle.std.proofs.Common.{◌≡◌, Bool, true, false, Option, None, Some, Result, Ok, Err, slice_get, refl, sym, subst}
use Rattle.std.specs.Prelude.{is_some}
use Rattle.life_types.proofs.TreeLemmas.{tree_stays}
use Rattle.life_types.specs.Trees.{IsOrdered, TypeTree, is_plain, tree_at}
use Rattle.life_types.specs.TypeTests.{is_void}
use Rattle.life_types.specs.Types.{Types}
use Rattle.life_types.specs.declared.place.Place.{Place}
use Rattle.life_types.specs.declared.ty.Ty.{Ty}
use Rattle.life_types.specs.declared.ty.Ty.TheVariants as ty
use Rattle.life_types.specs.declared.ty.TyId.{TyId}
use Rattle.life_tree.specs.declared.declaration.AutoType.{AutoType}
use Rattle.life_typed.specs.BaseTypes.{type_at}
use Rattle.life_typed.specs.declared.typed_expr.Category.{Category}
use Rattle.life_typed.specs.declared.typed_expr.ExprType.{ExprType}
use Rattle.life_typed.specs.declared.typed_expr.ExprType.TheVariants.{Of, NullPointer, TextLiteral}
use Rattle.life_names.specs.Checked.{Checked}
use Rattle.life_names.specs.Environment.{Scope}
use Rattle.life_names.specs.Found.{allowed, given}
use Rattle.life_names.specs.Table.{type_added}
use Rattle.life_names.specs.declared.fault.IllKind.{IllKind}
use Rattle.life_names.specs.declared.fault.IllKind.TheVariants as kinds
use Rattle.life_names.specs.declared.written.Written.{Written}
use Rattle.life_type_stmt.specs.Autos.{auto_declared, auto_from, auto_object, auto_reference, auto_target, auto_written, reference_fault, type_number, variable_type}
use Rattle.life_type_stmt.specs.Conditions.{unless as plainly}
use Rattle.life_type_stmt.specs.Given.{value_fault}
use Rattle.life_typing_laws.proofs.Fitting.{lower_none}
use Rattle.life_well_typed.proofs.ObjectsKept.{object_there}
use Rattle.life_well_typed.specs.Tables.{HasObjects, HasTarget, HasTargetIfAny, IsObject}
use Rattle.life_typing_laws.proofs.Growing.{IsAdded, IsGrown, added, added_keeps, grown_not, grown_on, type_is}
use Rattle.life_typing_laws.specs.Sound.{HasStructs}
use Rattle.life_typing_laws.proofs.Steps.{allowed_ok, bound, same_value}
use Rattle.life_typing_laws.proofs.Values.{unless_none}
use Rattle.life_typing_laws.proofs.Written.{added_object, struct_found}

-- the number of the type, in a table that has grown
number_is : (place : Place) (t : Ty) (scope : Scope) (types : Types) (x : TyId × Types) → IsOrdered types → HasStructs types scope.structs → (HasObjects types → HasTarget types t) → type_number place t scope types ≡ Ok x → IsAdded t types x
number_is place (ty.Struct number) scope types x ordered structs target h = struct_found (slice_get scope.structs number) number place types x ordered (λ s there. structs number s there) h
number_is place t scope types x ordered structs target h = added place t types x ordered target h

-- the type that is declared, and what it is given
pub record IsAuto (types : Types) (e : ExprType) (c : Category) (x : Written × Types) : Type 0 where
  pub grown : IsGrown types x.1
  pub object : IsObject x.1 x.0.ty
  pub given : value_fault kinds.WrongType x.1 (type_at x.1 x.0.ty) e c ≡ None

object_is : (constant : Bool) (place : Place) (t : Ty) (id : TyId) (e : ExprType) (c : Category) (types : Types) (x : Written × Types) → slice_get types.types id.0 ≡ Some t → is_void t ≡ false → IsOrdered types
    → auto_object constant place t id e c types ≡ Ok x → IsAuto types e c x
object_is constant place t id e c types x is some ordered h =
    let fine = allowed_ok {B = Written} (value_fault kinds.WrongType types t e c) place (λ _. Ok (record { ty = id; constant = constant }, types)) x h in
    let same = same_value {A = Written} (record { ty = id; constant = constant }, types) x fine.1 in
    subst (IsAuto types e c) same (record {
      grown = grown_not types ordered;
      object = added_object (id, types) t is some;
      given = subst (λ (u : Ty). value_fault kinds.WrongType types u e c ≡ None) (sym (type_is types id t is)) fine.0;
    })

abbrev behind_reference : Bool → Place → TyId → ExprType → Category → TyId × Types → Checked Written
behind_reference constant place id e c r =
    given (allowed (reference_fault (is_plain (tree_at r.1 id)) (value_fault kinds.WrongType r.1 (ty.Reference id constant) e c)) place) (λ _. Ok (record { ty = r.0; constant = false }, r.1))

reference_is : (constant : Bool) (place : Place) (id : TyId) (e : ExprType) (c : Category) (types : Types) (x : Written × Types) → IsOrdered types → IsObject types id
    → auto_reference constant place id e c types ≡ Ok x → IsAuto types e c x
reference_is constant place id e c types x ordered object h =
    let step = bound (type_added place (ty.Reference id constant) types) (behind_reference constant place id e c) x h in
    let fine = allowed_ok {B = Written} (reference_fault (is_plain (tree_at step.value.1 id)) (value_fault kinds.WrongType step.value.1 (ty.Reference id constant) e c)) place
    (λ _. Ok (record { ty = step.value.0; constant = false }, step.value.1)) x step.behind in
    let faults = lower_none (value_fault kinds.WrongType step.value.1 (ty.Reference id constant) e c) (plainly (is_plain (tree_at step.value.1 id)) kinds.NotPlain) fine.0 in
    let plain : is_plain (tree_at types id) ≡ true =
    subst (λ (t : TypeTree). is_plain t ≡ true) (tree_stays types step.value.1 ordered (added_keeps place (ty.Reference id constant) types step.value ordered step.gave) id (object_there types id object))
    (unless_none (is_plain (tree_at step.value.1 id)) kinds.NotPlain faults.1) in
    let new = added place (ty.Reference id constant) types step.value ordered (λ objects. record { object = object; plain = plain }) step.gave in
    let same = same_value {A = Written} (record { ty = step.value.0; constant = false }, step.value.1) x fine.1 in
    subst (IsAuto types e c) same (record {
      grown = new.grown;
      object = added_object step.value (ty.Reference id constant) new.is refl;
      given = subst (λ (u : Ty). value_fault kinds.WrongType step.value.1 u e c ≡ None) (sym (type_is step.value.1 step.value.0 (ty.Reference id constant) new.is))
          faults.0;
    })

auto_of : (a : AutoType) (place : Place) (t : Ty) (e : ExprType) (c : Category) (scope : Scope) (types : Types) (x : Written × Types) → IsOrdered types → HasStructs types scope.structs
    → is_void t ≡ false → (HasObjects types → HasTarget types t) → auto_from a place (Ok t) e c scope types ≡ Ok x → IsAuto types e c x
auto_of a place t e c scope types x ordered structs some target h =
    let step = bound (type_number place t scope types) (λ id. auto_declared a.reference (is_some a.constant) place t id.0 e c id.1) x h in
    let new = number_is place t scope types step.value ordered structs target step.gave in
    behind step.value new (go a.reference step.value new step.behind)
  where
    go : (r : Option Place) (y : TyId × Types) → IsAdded t types y → auto_declared r (is_some a.constant) place t y.0 e c y.1 ≡ Ok x → IsAuto y.1 e c x
    go None y new h = object_is (is_some a.constant) place t y.0 e c y.1 x new.is some new.grown.ordered h
    go (Some reference) y new h = reference_is (is_some a.constant) place y.0 e c y.1 x new.grown.ordered (added_object y t new.is some) h

    behind : (y : TyId × Types) → IsAdded t types y → IsAuto y.1 e c x → IsAuto types e c x
    behind y new auto = record { grown = grown_on types y.1 x.1 new.grown auto.grown; object = auto.object; given = auto.given }

-- the type of an expression, which isn't void
record IsTypeOf (e : ExprType) (t : Ty) : Type 0 where
  is : e ≡ Of t
  some : is_void t ≡ false

variable_is : (u t : Ty) → variable_type u ≡ Ok t → IsTypeOf (Of u) t
variable_is ty.Void t h = absurd (cc)
variable_is ty.Bool t h = let same : ty.Bool ≡ t = cc in subst (IsTypeOf (Of ty.Bool)) same (record { is = refl; some = refl })
variable_is ty.Char t h = let same : ty.Char ≡ t = cc in subst (IsTypeOf (Of ty.Char)) same (record { is = refl; some = refl })
variable_is ty.Int t h = let same : ty.Int ≡ t = cc in subst (IsTypeOf (Of ty.Int)) same (record { is = refl; some = refl })
variable_is ty.Long t h = let same : ty.Long ≡ t = cc in subst (IsTypeOf (Of ty.Long)) same (record { is = refl; some = refl })
variable_is ty.Size t h = let same : ty.Size ≡ t = cc in subst (IsTypeOf (Of ty.Size)) same (record { is = refl; some = refl })
variable_is ty.Text t h = let same : ty.Text ≡ t = cc in subst (IsTypeOf (Of ty.Text)) same (record { is = refl; some = refl })
variable_is ty.View t h = let same : ty.View ≡ t = cc in subst (IsTypeOf (Of ty.View)) same (record { is = refl; some = refl })
variable_is (ty.Vector id) t h = let same : ty.Vector id ≡ t = cc in subst (IsTypeOf (Of (ty.Vector id))) same (record { is = refl; some = refl })
variable_is (ty.Unique id) t h = let same : ty.Unique id ≡ t = cc in subst (IsTypeOf (Of (ty.Unique id))) same (record { is = refl; some = refl })
variable_is (ty.Raw id held) t h = let same : ty.Raw id held ≡ t = cc in subst (IsTypeOf (Of (ty.Raw id held))) same (record { is = refl; some = refl })
variable_is (ty.Reference id held) t h = let same : ty.Reference id held ≡ t = cc in subst (IsTypeOf (Of (ty.Reference id held))) same (record { is = refl; some = refl })
variable_is (ty.Iterator id held) t h = let same : ty.Iterator id held ≡ t = cc in subst (IsTypeOf (Of (ty.Iterator id held))) same (record { is = refl; some = refl })
variable_is (ty.Span id held) t h = let same : ty.Span id held ≡ t = cc in subst (IsTypeOf (Of (ty.Span id held))) same (record { is = refl; some = refl })
variable_is (ty.Struct number) t h = let same : ty.Struct number ≡ t = cc in subst (IsTypeOf (Of (ty.Struct number))) same (record { is = refl; some = refl })

target_is : (e : ExprType) (t : Ty) → auto_target e ≡ Ok t → IsTypeOf e t
target_is (Of u) t h = variable_is u t h
target_is NullPointer t h = absurd (cc)
target_is TextLiteral t h = absurd (cc)

pub auto_is : (a : AutoType) (place : Place) (e : ExprType) (c : Category) (scope : Scope) (types : Types) (x : Written × Types) → IsOrdered types → HasStructs types scope.structs
    → (HasObjects types → HasTargetIfAny types e) → auto_written a place e c scope types ≡ Ok x → IsAuto types e c x
auto_is a place e c scope types x ordered structs target h = go (auto_target e) refl h
  where
    go : (r : Result Ty IllKind) → auto_target e ≡ r → auto_from a place r e c scope types ≡ Ok x → IsAuto types e c x
    go (Ok t) is h =
        let type = target_is e t is in
        auto_of a place t e c scope types x ordered structs type.some (λ objects. subst (HasTargetIfAny types) type.is (target objects)) h
    go (Err kind) is h = absurd (cc)
