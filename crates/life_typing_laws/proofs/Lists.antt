-- A list that initialises an object is well typed.
use Rattle.std.proofs.Common.{◌≡◌, ℕ, suc, true, false, Option, None, Some, Ok, List, [], ◌∷◌, length, slice_get, refl, sym, ap, subst}
use Rattle.std.proofs.lemmas.Bool.{and_from, false≢true}
use Rattle.std.specs.Prelude.{unwrap_or}
use Rattle.life_types.specs.Trees.{IsOrdered, members_at}
use Rattle.life_types.specs.Types.{Types, HasParts, HasType}
use Rattle.life_types.specs.declared.ty.Ty.{Ty}
use Rattle.life_types.specs.declared.ty.Ty.TheVariants as ty
use Rattle.life_types.specs.declared.ty.TyId.{TyId}
use Rattle.life_tree.specs.declared.expr.InitList.{InitList}
use Rattle.life_typed.specs.BaseTypes.{type_at}
use Rattle.life_typed.specs.Conversions.{fits}
use Rattle.life_typed.specs.Programs.{ProgramForm}
use Rattle.life_typed.specs.TypedForm.{Typed, forms}
use Rattle.life_typed.specs.TypedStatement.{InitialForm, ListForm, several}
use Rattle.life_typed.specs.declared.typed_program.TypedLocal.{TypedLocal}
use Rattle.life_names.specs.Environment.{Scope, StructureView}
use Rattle.life_names.specs.declared.fault.IllKind.{IllKind}
use Rattle.life_names.specs.declared.fault.IllKind.TheVariants as kinds
use Rattle.life_type_expr.specs.Expressions.{init_list_meaning, list_checked}
use Rattle.life_type_expr.specs.Lists.{ListMeaning, Targets, braced, count_fault, elements, is_taken, list_targets, lower_kind, misfits, nothing, object_targets, one_misfit, struct_targets}
use Rattle.life_type_stmt.specs.Given.{given_list}
use Rattle.life_well_typed.specs.Expressions.{AreExpressions}
use Rattle.life_typing.specs.Structs.{types_of}
use Rattle.life_well_typed.specs.Members.{are_elements, are_members, is_listed, makes_object}
use Rattle.life_well_typed.specs.Visible.{Visible}
use Rattle.life_typing_laws.specs.Sound.{Grows, HasStruct, HasStructs, IsFinal, IsSound}
use Rattle.life_typing_laws.proofs.Fitting.{first_none, lower_none, misfit_none, given_later}
use Rattle.life_typing_laws.proofs.Growing.{IsGrown, grows_on, parts_there, same_type_at, stays_there, structs_stay}
use Rattle.life_typing_laws.proofs.MembersListed.{all_there, members_listed}
use Rattle.life_typing_laws.proofs.Methods.{count_taken}
use Rattle.life_typing_laws.proofs.Reading.{IsPassed, PlacesThere, passed_is}
use Rattle.life_typing_laws.proofs.Steps.{bound, same_value}
use Rattle.life_typing_laws.proofs.Wholes.{init_list_good}

-- ---- what a list initialises

abbrev Fine : Targets → Types → List Typed → Type 0
Fine targets types es = misfits kinds.WrongType targets types (lower_kind None (count_fault kinds.WrongType targets (length es))) 0 es ≡ None

-- nothing is initialised by no list
nothing_never : {P : Type 0} (types : Types) (es : List Typed) → Fine nothing types es → P
nothing_never types es fine =
    let counted = first_none kinds.WrongType nothing types (lower_kind None (count_fault kinds.WrongType nothing (length es))) 0 es fine in
    absurd (false≢true (count_taken kinds.WrongType nothing (length es) (lower_none None (count_fault kinds.WrongType nothing (length es)) counted).1))

module _ (old new : Types) (ordered : IsOrdered old) (grows : Grows old new) where
  elements_listed : (id : TyId) → HasType old id → (es : List Typed) (n : ℕ) (lowest : Option IllKind) → PlacesThere old es → misfits kinds.WrongType (elements id) old lowest n es ≡ None → are_elements new id (forms es) ≡ true
  elements_listed id there [] n lowest places fine = refl
  elements_listed id there (x ∷ es) n lowest places fine =
      let one : one_misfit kinds.WrongType (elements id) old n x ≡ None =
      (lower_none lowest (one_misfit kinds.WrongType (elements id) old n x) (first_none kinds.WrongType (elements id) old (lower_kind lowest (one_misfit kinds.WrongType (elements id) old n x)) (suc n) es fine)).1 in
      let taken : is_taken new (Some (type_at old id)) x ≡ true =
      given_later old new ordered grows (type_at old id) x (parts_there old id ordered there) places.0 (misfit_none kinds.WrongType (fits old (type_at old id) x.ty x.category) one) in
      and_from (is_taken new (Some (type_at new id)) x) (are_elements new id (forms es)) (subst (λ (t : Ty). is_taken new (Some t) x ≡ true) (sym (same_type_at old new id grows there)) taken)
      (elements_listed id there es (suc n) (lower_kind lowest (one_misfit kinds.WrongType (elements id) old n x)) places.1 fine)

  module _ (first : Types) (early : IsGrown first old) (scope : Scope) (structs : HasStructs old scope.structs) (es : List Typed) (places : PlacesThere old es) where
    struct_listed : (number : ℕ) (o : Option StructureView) → slice_get scope.structs number ≡ o → Fine (struct_targets o) old es → are_members new (members_at new number) (forms es) ≡ true
    struct_listed number None is fine = nothing_never old es fine
    struct_listed number (Some s) is fine =
        let has : HasStruct old number s = structs number s is in
        let same : members_at new number ≡ types_of s.members = ap (λ (o : Option (List TyId)). unwrap_or o []) (grows.structs number (types_of s.members) has.members) in
        subst (λ (ids : List TyId). are_members new ids (forms es) ≡ true) (sym same)
        (members_listed s.members old new ordered grows es (all_there old (types_of s.members) (ordered.members number (types_of s.members) has.members)) places fine)

    object_listed : (t : Ty) → HasParts first t → Fine (object_targets t scope) old es → makes_object new t (forms es) ≡ true
    object_listed (ty.Vector element) parts fine =
        elements_listed element (stays_there first old element early.grows parts) es 0 (lower_kind None (count_fault kinds.WrongType (elements element) (length es))) places fine
    object_listed (ty.Struct number) parts fine = struct_listed number (slice_get scope.structs number) refl fine
    object_listed _ parts fine = nothing_never old es fine

    pub list_listed : (t : Ty) → IsOrdered first → HasParts first t → Fine (list_targets t scope first) old es → is_listed new t (forms es) ≡ true
    list_listed (ty.Reference target true) first_ordered parts fine =
        subst (λ (u : Ty). makes_object new u (forms es) ≡ true) (sym (same_type_at first new target (grows_on first old new early.grows grows) parts))
        (object_listed (type_at first target) (parts_there first target first_ordered parts) fine)
    list_listed (ty.Reference target false) first_ordered parts fine = nothing_never old es fine
    list_listed t first_ordered parts fine = object_listed t parts fine

-- ---- a list that was read

-- .. over a table that has grown, is well typed where the parts of the type are there
pub record IsList (v : Visible) (t : Ty) (scope : Scope) (types : Types) (x : InitialForm × Types) : Type 0 where
  pub list : ListForm
  pub is : several list ≡ x.0
  pub grown : IsGrown types x.1
  pub typed : (p : ProgramForm) (locals : List TypedLocal) → IsFinal p locals scope x.1 → HasParts types t
      → (is_listed p.types t (forms list.elements) ≡ true) × AreExpressions p locals v.visible (forms list.elements)

record Braces (v : Visible) (t : Ty) (l : ListMeaning) (scope : Scope) (types : Types) (x : ListForm × Types) : Type 0 where
  y : List Typed × Types
  passed : IsPassed v kinds.WrongType None (list_targets t scope types) scope types y
  is : ◌≡◌ {A = ListForm × Types} (record { opening = l.opening; elements = y.0; delimiters = l.delimiters }, y.1) x

braces_of : (t : Ty) (i : InitList) (v : Visible) (scope : Scope) (types : Types) (x : ListForm × Types) → list_checked t i scope types ≡ Ok x → IsSound v scope types → Braces v t (init_list_meaning i) scope types x
braces_of t i v scope types x h sound =
    let l = init_list_meaning i in
    let step = bound (braced (list_targets t scope types) l scope types) (λ y. Ok (record { opening = l.opening; elements = y.0; delimiters = l.delimiters }, y.1)) x h in
    record {
      y = step.value;
      passed = passed_is kinds.WrongType None l.opening (list_targets t scope types) l.list v scope types step.value (init_list_good i) step.gave sound;
      is = same_value {A = ListForm} (record { opening = l.opening; elements = step.value.0; delimiters = l.delimiters }, step.value.1) x step.behind;
    }

listed : (t : Ty) (l : ListMeaning) (v : Visible) (scope : Scope) (types : Types) (y : ListForm × Types) → Braces v t l scope types y → IsSound v scope types → IsList v t scope types (several y.0, y.1)
listed t l v scope types y b sound = subst (λ (z : ListForm × Types). IsList v t scope types (several z.0, z.1)) b.is (record {
  list = record { opening = l.opening; elements = b.y.0; delimiters = l.delimiters };
  is = refl;
  grown = b.passed.read.grown;
  typed = λ p locals final parts.
      let places : PlacesThere b.y.1 b.y.0 = subst (PlacesThere b.y.1) (sym b.passed.read.all) (b.passed.read.places p locals final) in (
        list_listed b.y.1 p.types b.passed.read.grown.ordered final.grown types b.passed.read.grown scope (structs_stay types b.y.1 scope.structs b.passed.read.grown.grows sound.structs_there) b.y.0 places t sound.ordered parts b.passed.fine,
        subst (λ (es : List Typed). AreExpressions p locals v.visible (forms es)) (sym b.passed.read.all) (b.passed.read.are p locals final),
      );
})

pub list_is : (t : Ty) (i : InitList) (v : Visible) (scope : Scope) (types : Types) (x : InitialForm × Types) → given_list t i scope types ≡ Ok x → IsSound v scope types → IsList v t scope types x
list_is t i v scope types x h sound =
    let step = bound (list_checked t i scope types) (λ y. Ok (several y.0, y.1)) x h in
    subst (IsList v t scope types) (same_value {A = InitialForm} (several step.value.0, step.value.1) x step.behind)
    (listed t (init_list_meaning i) v scope types step.value (braces_of t i v scope types step.value step.gave sound) sound)
