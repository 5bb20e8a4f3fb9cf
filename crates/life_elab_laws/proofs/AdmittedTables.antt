-- The table of types of a typed program: each type of an object is a value, what points to one, an owner, an iterator or a span, a unique_ptr or a struct, and members of structs are such.
use Rattle.std.proofs.Common.{◌≡◌, ◌<◌, ◌≤◌, inl, inr, ℕ, zero, suc, ◌+◌, Bool, true, false, ◌||◌, List, [], ◌∷◌, length, slice_get, Option, None, Some, refl, sym, ap, subst, unwrap_or, arith, take, lt-ltb}
use Rattle.std.specs.Prelude.{nat_lt}
use Rattle.std.proofs.lemmas.Bool.{and_from, and_parts, false≢true, or_cases, or_left, or_right}
use Rattle.life_types.proofs.TreeLemmas.{tree_made}
use Rattle.life_types.specs.Trees.{HasPartsBelow, IsOrdered, TypeTree, is_plain, members_at, struct_of, tree_at, tree_of}
use Rattle.life_types.specs.TypeTests.{is_reference, is_value, is_void}
use Rattle.life_types.specs.Types.{Types}
use Rattle.life_types.specs.declared.ty.Ty.{Ty}
use Rattle.life_types.specs.declared.ty.Ty.TheVariants as ty
use Rattle.life_types.specs.declared.ty.TyId.{TyId}
use Rattle.life_typed.specs.BaseTypes.{type_at}
use Rattle.life_typed.specs.Programs.{ProgramForm, StructForm}
use Rattle.life_typed.specs.Statements.{range_element}
use Rattle.life_typed.specs.declared.basic.TheConstants.{CHAR}
use Rattle.life_typed.specs.declared.typed_expr.ExprType.{ExprType}
use Rattle.life_typed.specs.declared.typed_expr.ExprType.TheVariants as expr_type
use Rattle.life_typed.specs.declared.typed_program.TypedLocal.{TypedLocal}
use Rattle.life_elab.specs.Over as over
use Rattle.life_elab.specs.Over.{over_each, over_functions, over_struct, over_structs, passes, too_many}
use Rattle.life_elab.specs.Paths.{steps}
use Rattle.life_elab.specs.ProgramForms.{translated}
use Rattle.life_tree.specs.declared.limit.LimitName.TheVariants.{Fields, Path}
use Rattle.life_well_typed.proofs.ObjectsKept.{object_there}
use Rattle.life_well_typed.specs.Results.{HasTable, HaveMembers}
use Rattle.life_well_typed.specs.Tables.{AreMemberTypes, AreVariables, HasObjects, HasTarget, HasTargetIfAny, IsObject, IsPlainObject}
use Rattle.life_well_typed.proofs.TargetsHeld.{target_at}
use Rattle.life_elab_laws.proofs.ObjectTypes.{are_plain, are_admitted_parameters, are_admitted_variables, are_struct_members, has_fine_structs, have_each, hold_members, is_element, is_owner_of_values, is_owner_within, is_owning, is_plain_struct, is_pointing, is_admitted_parameter, is_admitted_result, is_admitted_variable, is_struct, is_struct_member, is_target, is_unique_of_element, is_walker_of_values}
use Rattle.life_elab_laws.proofs.Elements.{element_target}
use Rattle.life_elab_laws.proofs.PassedNone.{first_none, not_passed}
use Rattle.life_elab_laws.proofs.AdmittedTypes.{IsAdmittedType, admitted_type_is, admits, type_admits}

-- ---- what has no pointers

module _ (types : Types) (ordered : IsOrdered types) (objects : HasObjects types) where
  -- a struct without pointers
  plain_members : (ids : List TyId) → is_plain (struct_of (tree_at types) ids) ≡ true → are_plain types ids ≡ true
  plain_members [] h = refl
  plain_members (id ∷ ids) h =
      let both = and_parts (is_plain (tree_at types id)) (is_plain (struct_of (tree_at types) ids)) h in
      and_from (is_plain (tree_at types id)) (are_plain types ids) both.0 (plain_members ids both.1)

  -- .. is a value, a struct, or an owner, which isn't deeper than its number says
  abbrev IsWithin : ℕ → Ty → Type 0
  IsWithin n t = (is_value t || (is_plain_struct types t || is_owner_within n types t)) ≡ true

  owner_is_within : (n : ℕ) (t : Ty) → is_owner_within n types t ≡ true → IsWithin n t
  owner_is_within n t o = or_right (is_value t) (is_plain_struct types t || is_owner_within n types t) (or_right (is_plain_struct types t) (is_owner_within n types t) o)

  within : (n : ℕ) (id : TyId) → id.0 < n → IsPlainObject types id → IsWithin n (type_at types id)
  within zero id few plain = absurd (omega (arith, few))
  within (suc n) id few plain = go (slice_get types.types id.0) refl plain.object (subst (λ (t : TypeTree). is_plain t ≡ true) (tree_made types ordered id) plain.plain) (λ part below. within n part (omega (arith, below, few)))
    where
      of : (t : Ty) → HasTarget types t → HasPartsBelow types id.0 t → is_void t ≡ false → is_plain (tree_of types (tree_at types) (Some t)) ≡ true
          → ((part : TyId) → part.0 < id.0 → IsPlainObject types part → IsWithin n (type_at types part)) → IsWithin (suc n) t
      of ty.Void has below object p inner = absurd (false≢true (sym object))
      of ty.Bool has below object p inner = refl
      of ty.Char has below object p inner = refl
      of ty.Int has below object p inner = refl
      of ty.Long has below object p inner = refl
      of ty.Size has below object p inner = refl
      of ty.Text has below object p inner = refl
      of (ty.Vector element) has below object p inner = owner_is_within (suc n) (ty.Vector element) (inner element below has)
      of (ty.Struct number) has below object p inner =
          or_left (is_plain_struct types (ty.Struct number)) (is_owner_within (suc n) types (ty.Struct number)) (plain_members (members_at types number) p)
      of _ has below object p inner = absurd (false≢true p)

      go : (o : Option Ty) → slice_get types.types id.0 ≡ o → is_void (unwrap_or o ty.Void) ≡ false → is_plain (tree_of types (tree_at types) o) ≡ true
          → ((part : TyId) → part.0 < id.0 → IsPlainObject types part → IsWithin n (type_at types part)) → IsWithin (suc n) (unwrap_or o ty.Void)
      go None at object p inner = absurd (false≢true (sym object))
      go (Some t) at object p inner = of t (objects.targets id.0 t at) (ordered.parts id.0 t at) object p inner

  pub element_admitted : (id : TyId) → IsPlainObject types id → is_element types (type_at types id) ≡ true
  element_admitted id plain = let there : id.0 < length types.types = object_there types id plain.object in within (suc (length types.types)) id (omega (arith, there)) plain

  pub target_admitted : (id : TyId) → IsPlainObject types id → is_target types (type_at types id) ≡ true
  target_admitted id plain = element_target types (type_at types id) (element_admitted id plain)

  -- ---- any type

  pub type_admitted : (t : Ty) → HasTarget types t → is_void t ≡ false → admits types t ≡ true
  type_admitted ty.Void has object = absurd (false≢true (sym object))
  type_admitted ty.Bool has object = refl
  type_admitted ty.Char has object = refl
  type_admitted ty.Int has object = refl
  type_admitted ty.Long has object = refl
  type_admitted ty.Size has object = refl
  type_admitted ty.Text has object = refl
  type_admitted ty.View has object = refl
  type_admitted (ty.Vector element) has object = type_admits types (ty.Vector element) (inr (inl (element_admitted element has)))
  type_admitted (ty.Unique target) has object = type_admits types (ty.Unique target) (inr (inr (inr (inl (element_admitted target has)))))
  type_admitted (ty.Raw target constant) has object = type_admits types (ty.Raw target constant) (inl (target_admitted target has))
  type_admitted (ty.Reference target constant) has object = type_admits types (ty.Reference target constant) (inl (target_admitted target has))
  type_admitted (ty.Iterator target constant) has object = type_admits types (ty.Iterator target constant) (inr (inr (inl (element_admitted target has))))
  type_admitted (ty.Span target constant) has object = type_admits types (ty.Span target constant) (inr (inr (inl (element_admitted target has))))
  type_admitted (ty.Struct number) has object = refl

  pub variable_admitted : (id : TyId) → IsObject types id → is_admitted_variable types id ≡ true
  variable_admitted id object = type_admitted (type_at types id) (target_at types objects id) object

  -- each type is such a one, or void
  pub known_admitted : (id : TyId) → (is_void (type_at types id) || admits types (type_at types id)) ≡ true
  known_admitted id = go (is_void (type_at types id)) refl
    where
      go : (b : Bool) → is_void (type_at types id) ≡ b → (b || admits types (type_at types id)) ≡ true
      go true is = refl
      go false is = variable_admitted id is

  -- .. which is handed over and back as well
  handed_admitted : (t : Ty) → admits types t ≡ true → (is_value t || (is_pointing types t || (is_walker_of_values types t || is_owning types t))) ≡ true
  handed_admitted t h = go (admitted_type_is types t h)
    where
      owns : (is_owner_of_values types t || (is_unique_of_element types t || is_struct t)) ≡ true → (is_value t || (is_pointing types t || (is_walker_of_values types t || is_owning types t))) ≡ true
      owns o =
          or_right (is_value t) (is_pointing types t || (is_walker_of_values types t || is_owning types t))
          (or_right (is_pointing types t) (is_walker_of_values types t || is_owning types t) (or_right (is_walker_of_values types t) (is_owning types t) o))

      go : IsAdmittedType types t → (is_value t || (is_pointing types t || (is_walker_of_values types t || is_owning types t))) ≡ true
      go (inl b) = elim (or_cases (is_value t) (is_pointing types t) b) [
        | inl v ↦ or_left (is_value t) (is_pointing types t || (is_walker_of_values types t || is_owning types t)) v
        | inr p ↦ or_right (is_value t) (is_pointing types t || (is_walker_of_values types t || is_owning types t)) (or_left (is_pointing types t) (is_walker_of_values types t || is_owning types t) p)
      ]
      go (inr (inl o)) = owns (or_left (is_owner_of_values types t) (is_unique_of_element types t || is_struct t) o)
      go (inr (inr (inl w))) =
          or_right (is_value t) (is_pointing types t || (is_walker_of_values types t || is_owning types t))
          (or_right (is_pointing types t) (is_walker_of_values types t || is_owning types t) (or_left (is_walker_of_values types t) (is_owning types t) w))
      go (inr (inr (inr (inl u)))) = owns (or_right (is_owner_of_values types t) (is_unique_of_element types t || is_struct t) (or_left (is_unique_of_element types t) (is_struct t) u))
      go (inr (inr (inr (inr s)))) = owns (or_right (is_owner_of_values types t) (is_unique_of_element types t || is_struct t) (or_right (is_unique_of_element types t) (is_struct t) s))

  pub parameter_admitted : (id : TyId) → IsObject types id → is_admitted_parameter types id ≡ true
  parameter_admitted id object = handed_admitted (type_at types id) (variable_admitted id object)

  pub result_admitted : (id : TyId) → is_admitted_result types id ≡ true
  result_admitted id = go (is_void (type_at types id)) refl
    where
      go : (b : Bool) → is_void (type_at types id) ≡ b → (b || (is_value (type_at types id) || (is_pointing types (type_at types id) || (is_walker_of_values types (type_at types id) || is_owning types (type_at types id))))) ≡ true
      go true is = refl
      go false is = parameter_admitted id is

  pub parameters_admitted : (locals : List TypedLocal) (n : ℕ) → AreVariables types locals → are_admitted_parameters types (take n locals) ≡ true
  parameters_admitted [] zero are = refl
  parameters_admitted [] (suc n) are = refl
  parameters_admitted (l ∷ locals) zero are = refl
  parameters_admitted (l ∷ locals) (suc n) are =
      and_from (is_admitted_parameter types l.ty) (are_admitted_parameters types (take n locals)) (parameter_admitted l.ty (are zero l refl)) (parameters_admitted locals n (λ m x at. are (suc m) x at))

  pub variables_admitted : (locals : List TypedLocal) → AreVariables types locals → are_admitted_variables types locals ≡ true
  variables_admitted [] are = refl
  variables_admitted (l ∷ locals) are =
      and_from (is_admitted_variable types l.ty) (are_admitted_variables types locals) (variable_admitted l.ty (are zero l refl)) (variables_admitted locals (λ m x at. are (suc m) x at))

  -- ---- members

  member_type_admitted : (t : Ty) → admits types t ≡ true → is_reference t ≡ false → is_struct_member types t ≡ true
  member_type_admitted (ty.Reference target constant) h value = absurd (false≢true (sym value))
  member_type_admitted _ h value = h

  members_admitted : (ids : List TyId) → AreMemberTypes types ids → have_each (is_struct_member types) types ids ≡ true
  members_admitted [] are = refl
  members_admitted (id ∷ ids) are =
      and_from (is_struct_member types (type_at types id)) (have_each (is_struct_member types) types ids) (member_type_admitted (type_at types id) (variable_admitted id are.0.object) are.0.value) (members_admitted ids are.1)

  -- 32 at most
  few_members : (ids : List TyId) → length ids ≤ 32 → nat_lt (length ids) 33 ≡ true
  few_members ids few = lt-ltb (length ids) 33 (omega (arith, few))

  structs_held : (more : Types) (ss : List StructForm) (structs : List (List TyId)) (k : ℕ) → HaveMembers ss structs → over_structs more k ss ≡ None → ((n : ℕ) (ids : List TyId) → slice_get structs n ≡ Some ids → AreMemberTypes types ids)
      → hold_members types structs ≡ true
  structs_held more [] [] k have none are = refl
  structs_held more [] (ids ∷ structs) k have none are = absurd have
  structs_held more (s ∷ ss) [] k have none are = absurd have
  structs_held more (s ∷ ss) (ids ∷ structs) k have none are =
      let both = first_none (over_struct more k s) (over_structs more (k + 1) ss) none in
      let few : length s.members ≤ 32 = not_passed (length s.members) 32 Fields s.place (first_none (passes (length s.members) 32 Fields s.place) (passes (steps (struct_of (tree_at more) (members_at more k))) 8 Path s.place) both.0).0 in
      and_from (are_struct_members types ids) (hold_members types structs)
      (and_from (nat_lt (length ids) 33) (have_each (is_struct_member types) types ids) (few_members ids (subst (λ (n : ℕ). n ≤ 32) have.1 few)) (members_admitted ids (are zero ids refl)))
      (structs_held more ss structs (k + 1) have.2 both.1 (λ n xs at. are (suc n) xs at))

  -- what a loop goes over has elements
  pub range_read : (chars : type_at types CHAR ≡ ty.Char) (t : ExprType) (constant : Bool) (element : TyId × Bool) → HasTargetIfAny types t → range_element t constant ≡ Some element → is_element types (type_at types element.0) ≡ true
  range_read chars (expr_type.Of (ty.Vector item)) constant element has e = let same : ◌≡◌ {A = TyId × Bool} (item, constant) element = cc in subst (λ (x : TyId × Bool). is_element types (type_at types x.0) ≡ true) same (element_admitted item has)
  range_read chars (expr_type.Of (ty.Span item held)) constant element has e = let same : ◌≡◌ {A = TyId × Bool} (item, held) element = cc in subst (λ (x : TyId × Bool). is_element types (type_at types x.0) ≡ true) same (element_admitted item has)
  range_read chars (expr_type.Of ty.Text) constant element has e = let same : ◌≡◌ {A = TyId × Bool} (CHAR, constant) element = cc in subst (λ (x : TyId × Bool). is_element types (type_at types x.0) ≡ true) same (ap (is_element types) chars)
  range_read chars (expr_type.Of ty.View) constant element has e = let same : ◌≡◌ {A = TyId × Bool} (CHAR, true) element = cc in subst (λ (x : TyId × Bool). is_element types (type_at types x.0) ≡ true) same (ap (is_element types) chars)
  range_read chars (expr_type.Of _) constant element has e = absurd (cc)
  range_read chars expr_type.NullPointer constant element has e = absurd (cc)
  range_read chars expr_type.TextLiteral constant element has e = absurd (cc)

-- ---- of a typed program that passes no limit

pub structs_admitted : (p : ProgramForm) → HasTable p → over.over p (translated p) ≡ None → has_fine_structs p.types ≡ true
structs_admitted p table none =
    let core = translated p in
    let each = first_none (too_many p) (over_each core.types p.structs core.functions) none in
    let both = first_none (over_structs core.types 0 p.structs) (over_functions core.types core.functions) each.1 in
    structs_held p.types table.ordered table.objects core.types p.structs p.types.structs 0 table.structs both.0 table.objects.members
