-- The locals of a core function that is translated are well formed, and so is what stands beside its body: its name, its result and its promise.
use Rattle.std.proofs.Common.{◌≡◌, ◌<◌, ◌+◌, ◌≤◌, ◌⊎◌, inl, inr, ℕ, zero, suc, Bool, true, false, ◌&&◌, ◌||◌, not, List, [], ◌∷◌, length, nat_eq, nat_le, nat_lt, slice_get, Option, Some, is_some, refl, sym, ap, ◌∙◌, subst, unwrap_or, arith}
use Rattle.std.specs.List.{list_all}
use Rattle.std.proofs.lemmas.Bool.{and_from, and_parts, false≢true, le-leb, or_left, or_right}
use Rattle.std.proofs.lemmas.Bool.Decides.{nat_tests}
use Rattle.std.proofs.lemmas.Option.{same_Some}
use Rattle.life_types.specs.Pointees.{or_void, ty_of}
use Rattle.life_types.specs.Trees.{AllBelow, TypeTree, is_plain, members_at, struct_of, tree_at, tree_of}
use Rattle.life_types.specs.TypeTests.{is_value, is_void}
use Rattle.life_types.specs.Types.{Types, class}
use Rattle.life_types.specs.declared.ty.NameId.{NameId}
use Rattle.life_types.specs.declared.ty.Ty.{Ty}
use Rattle.life_types.specs.declared.ty.Ty.TheVariants as ty
use Rattle.life_types.specs.declared.ty.TyId.{TyId}
use Rattle.life_elab_laws.proofs.ObjectTypes.{have_each, is_element, is_owner_of_values, is_pointing, is_struct, is_struct_member, is_target, is_unique_of_element, is_walker_of_values, is_plain_struct, is_pointer_member}
use Rattle.life_typed.specs.BaseTypes.{type_at}
use Rattle.life_typed.specs.Programs.{FunctionForm, ProgramForm, PromiseForm, default, listed}
use Rattle.life_typed.specs.declared.typed_program.ParameterPromise.{ParameterPromise}
use Rattle.life_typed.specs.declared.typed_program.TypedLocal.{TypedLocal}
use Rattle.life_core.specs.Function.{Function}
use Rattle.life_core.specs.declared.program.Local.{Local}
use Rattle.life_core.specs.declared.program.LocalKind.{LocalKind}
use Rattle.life_core.specs.declared.program.LocalKind.TheVariants.{Object, Register}
use Rattle.life_core.specs.Kinds.{is_register}
use Rattle.life_proper.specs.OperandTypes.{is_composed}
use Rattle.life_pset.specs.Shapes.{shape, shape_if, unslotted}
use Rattle.life_proper.specs.WellFormedPrograms.{are_well_formed_locals, fits_kind, is_member, is_name, is_name_if, is_named_as, is_result_local, is_result_of, is_well_formed_local, may_stand, names_parameters}
use Rattle.life_well_typed.specs.Functions.{lists_parameters}
use Rattle.life_well_typed.specs.Names.{is_function_named, is_local_named}
use Rattle.life_writer.specs.Temporaries.{nameless_of}
use Rattle.life_writer.specs.Around.{Around}
use Rattle.life_writer.specs.Variables.{kind}
use Rattle.life_elab.specs.Functions.{function_from, parameter_local, promise_of}
use Rattle.life_elab.specs.ProgramForms.{first_state, result_kind, written}
use Rattle.life_elab.specs.Programs.{around}
use Rattle.life_elab_laws.proofs.Beginning.{given, given_count, parameter_locals, parameters_front, result_first, result_grows}
use Rattle.life_elab_laws.proofs.Callees.{IsFunctionOf, type_found}
use Rattle.life_elab_laws.proofs.ExpressionKinds.{variable_built}
use Rattle.life_elab_laws.proofs.Fronts.{IsFront, front_length, passed_at}
use Rattle.life_elab_laws.proofs.AdmittedTypes.{IsAdmittedType, variable_found}
use Rattle.life_elab_laws.proofs.ResultTypes.{result_is}
use Rattle.life_elab_laws.proofs.Values.{by_owners, by_values, by_walkers}
use Rattle.life_elab_laws.proofs.WrittenLocals.{AreWrittenLocals, fits_later, fits_local, fits_register, FitsNameless, FitsTemporary, hidden_later, hidden_local, hidden_pointer, IsIntermediate, IsOwn, local_later, owner_local, register_local, struct_local, unique_local}
use Rattle.life_elab_laws.proofs.Shaped.{owner_later, unique_later, PlainStays}
use Rattle.life_elab_laws.proofs.OrderedTypes.{all_below}
use Rattle.life_elab_laws.proofs.StructTypes.{HasStructs}
use Rattle.life_elab_laws.proofs.Targets.{IsTarget, target_is, target_referred, to_owner, to_struct, to_value, or_false, target_unslotted}
use Rattle.life_elab_laws.proofs.Elements.{element_target}
use Rattle.life_types.proofs.TreeLemmas.{tree_made}
use Rattle.life_elab_laws.proofs.PlainStructs.{struct_plain}
use Rattle.life_elab_laws.proofs.NoVoid.{no_void}

-- ---- what a register or a variable holds

module _ (types : Types) where
  -- what a pointer or a vector is of has no pointer in it
  abbrev PlainBefore : ℕ → Type 0
  PlainBefore n = (id : TyId) → id.0 < n → is_target types (type_at types id) ≡ true → is_plain (tree_at types id) ≡ true

  plain_types : HasStructs types → (n : ℕ) → PlainBefore n → (id : TyId) → id.0 < suc n → IsTarget types (type_at types id) → is_plain (tree_at types id) ≡ true
  plain_types structs n inside id below (to_struct number s pointless) = struct_plain types structs.ordered id number s ∙ ap (is_plain_struct types) (sym s) ∙ pointless
  plain_types structs n inside id below (to_value v) = ap is_plain (tree_made types structs.ordered id) ∙ go (slice_get types.types id.0) v
    where
      go : (o : Option Ty) → is_value (unwrap_or o ty.Void) ≡ true → is_plain (tree_of types (tree_at types) o) ≡ true
      go (Some ty.Bool) v = refl
      go (Some ty.Char) v = refl
      go (Some ty.Int) v = refl
      go (Some ty.Long) v = refl
      go (Some ty.Size) v = refl
      go _ v = absurd (false≢true v)
  plain_types structs n inside id below (to_owner o) = ap is_plain (tree_made types structs.ordered id) ∙ go (slice_get types.types id.0) refl o
    where
      go : (t : Option Ty) → slice_get types.types id.0 ≡ t → is_owner_of_values types (unwrap_or t ty.Void) ≡ true → is_plain (tree_of types (tree_at types) t) ≡ true
      go (Some ty.Text) at o = refl
      go (Some (ty.Vector item)) at o = let before : item.0 < id.0 = structs.ordered.parts id.0 (ty.Vector item) at in inside item (omega (arith, before, below)) (element_target types (type_at types item) o)
      go _ at o = absurd (false≢true o)

  all_plain : HasStructs types → (n : ℕ) → PlainBefore n
  all_plain structs zero id below h = absurd (omega (arith, below))
  all_plain structs (suc n) id below h = plain_types structs n (all_plain structs n) id below (target_is types (type_at types id) h)

  -- a struct stands, since its members stand before it, and what they point to
  abbrev MemberStands : ℕ → Type 0
  MemberStands n = (id : TyId) → id.0 < n → is_struct_member types (type_at types id) ≡ true → (is_member (tree_at types id) && may_stand (tree_at types id)) ≡ true

  -- what is pointed to may be a member
  target_member : (t : Ty) → is_target types t ≡ true → is_struct_member types t ≡ true
  target_member t h = go (target_is types t h)
    where
      go : IsTarget types t → is_struct_member types t ≡ true
      go (to_value v) = or_left (is_value t) (is_pointer_member types t || (is_owner_of_values types t || (is_unique_of_element types t || is_struct t))) v
      go (to_owner o) =
          or_right (is_value t) (is_pointer_member types t || (is_owner_of_values types t || (is_unique_of_element types t || is_struct t)))
          (or_right (is_pointer_member types t) (is_owner_of_values types t || (is_unique_of_element types t || is_struct t)) (or_left (is_owner_of_values types t) (is_unique_of_element types t || is_struct t) o))
      go (to_struct number s pointless) = ap (is_struct_member types) s

  target_before : HasStructs types → (n : ℕ) → MemberStands n → (target : TyId) → target.0 < n → is_target types (type_at types target) ≡ true → (is_plain (tree_at types target) && may_stand (tree_at types target)) ≡ true
  target_before structs n inside target below h =
      and_from (is_plain (tree_at types target)) (may_stand (tree_at types target)) (all_plain structs n target below h)
      (and_parts (is_member (tree_at types target)) (may_stand (tree_at types target)) (inside target below (target_member (type_at types target) h))).1

  struct_member : (part : TyId → TypeTree) (ids : List TyId) → is_member (struct_of part ids) ≡ true
  struct_member part [] = refl
  struct_member part (id ∷ ids) = refl

  members_stand : (n : ℕ) → MemberStands n → (ids : List TyId) → AllBelow n ids → have_each (is_struct_member types) types ids ≡ true → may_stand (struct_of (tree_at types) ids) ≡ true
  members_stand n inside [] below b = refl
  members_stand n inside (id ∷ ids) below b =
      let parts = and_parts (is_struct_member types (type_at types id)) (have_each (is_struct_member types) types ids) b in
      let first = and_parts (is_member (tree_at types id)) (may_stand (tree_at types id)) (inside id below.0 parts.0) in
      and_from (is_member (tree_at types id)) _ first.0 (and_from (may_stand (tree_at types id)) (may_stand (struct_of (tree_at types) ids)) first.1 (members_stand n inside ids below.1 parts.1))

  -- those of a struct in the table come before it
  struct_below : HasStructs types → (n number : ℕ) → slice_get types.types n ≡ Some (ty.Struct number) → AllBelow n (members_at types number)
  struct_below structs n number at = let has = structs.ordered.parts n (ty.Struct number) at in subst (AllBelow n) (sym (ap (λ (o : Option (List TyId)). unwrap_or o []) has.there)) has.below

  struct_stands : HasStructs types → (n : ℕ) → MemberStands n → (id : TyId) (number : ℕ) → id.0 < suc n → slice_get types.types id.0 ≡ Some (ty.Struct number) → may_stand (struct_of (tree_at types) (members_at types number)) ≡ true
  struct_stands structs n inside id number below at = members_stand n inside (members_at types number) (all_below id.0 n (omega (arith, below)) (members_at types number) (struct_below structs id.0 number at)) (structs.members number)

  member_stands : HasStructs types → (n : ℕ) → MemberStands n → (id : TyId) → id.0 < suc n → (o : Option Ty) → slice_get types.types id.0 ≡ o → is_struct_member types (unwrap_or o ty.Void) ≡ true
      → (is_member (tree_of types (tree_at types) o) && may_stand (tree_of types (tree_at types) o)) ≡ true
  member_stands structs n inside id below (Some (ty.Struct number)) at b =
      and_from (is_member (struct_of (tree_at types) (members_at types number))) (may_stand (struct_of (tree_at types) (members_at types number))) (struct_member (tree_at types) (members_at types number))
      (struct_stands structs n inside id number below at)
  member_stands structs n inside id below (Some ty.Text) at b = refl
  member_stands structs n inside id below (Some (ty.Vector item)) at b =
      let before : item.0 < id.0 = structs.ordered.parts id.0 (ty.Vector item) at in target_before structs n inside item (omega (arith, before, below)) (element_target types (type_at types item) (or_false (is_element types (type_at types item)) b))
  member_stands structs n inside id below (Some (ty.Unique target)) at b =
      let before : target.0 < id.0 = structs.ordered.parts id.0 (ty.Unique target) at in target_before structs n inside target (omega (arith, before, below)) (element_target types (type_at types target) (or_false (is_element types (type_at types target)) b))
  member_stands structs n inside id below (Some ty.Bool) at b = refl
  member_stands structs n inside id below (Some ty.Char) at b = refl
  member_stands structs n inside id below (Some ty.Int) at b = refl
  member_stands structs n inside id below (Some ty.Long) at b = refl
  member_stands structs n inside id below (Some ty.Size) at b = refl
  member_stands structs n inside id below (Some ty.View) at b = refl
  member_stands structs n inside id below (Some (ty.Raw target constant)) at b =
      let before : target.0 < id.0 = structs.ordered.parts id.0 (ty.Raw target constant) at in target_before structs n inside target (omega (arith, before, below)) (or_false (is_target types (type_at types target)) b)
  member_stands structs n inside id below (Some (ty.Iterator item constant)) at b =
      let before : item.0 < id.0 = structs.ordered.parts id.0 (ty.Iterator item constant) at in target_before structs n inside item (omega (arith, before, below)) (element_target types (type_at types item) (or_false (is_element types (type_at types item)) b))
  member_stands structs n inside id below (Some (ty.Span item constant)) at b =
      let before : item.0 < id.0 = structs.ordered.parts id.0 (ty.Span item constant) at in target_before structs n inside item (omega (arith, before, below)) (element_target types (type_at types item) (or_false (is_element types (type_at types item)) b))
  member_stands structs n inside id below _ at b = absurd (false≢true b)

  all_stand : HasStructs types → (n : ℕ) → MemberStands n
  all_stand structs zero id below b = absurd (omega (arith, below))
  all_stand structs (suc n) id below b =
      ap (λ (t : TypeTree). is_member t && may_stand t) (tree_made types structs.ordered id) ∙ member_stands structs n (all_stand structs n) id below (slice_get types.types id.0) refl b

  fits_stands : HasStructs types → (id : TyId) (t : Ty) → slice_get types.types id.0 ≡ Some t → fits_local types t ≡ true → may_stand (tree_at types id) ≡ true
  fits_stands structs id t at h = ap may_stand (tree_made types structs.ordered id ∙ ap (tree_of types (tree_at types)) at) ∙ go t at h
    where
      inside : MemberStands id.0
      inside = all_stand structs id.0

      go : (t : Ty) → slice_get types.types id.0 ≡ Some t → fits_local types t ≡ true → may_stand (tree_of types (tree_at types) (Some t)) ≡ true
      go (ty.Raw target constant) at h = target_before structs id.0 inside target (structs.ordered.parts id.0 (ty.Raw target constant) at) h
      go (ty.Reference target constant) at h = target_before structs id.0 inside target (structs.ordered.parts id.0 (ty.Reference target constant) at) h
      go (ty.Vector element) at h = target_before structs id.0 inside element (structs.ordered.parts id.0 (ty.Vector element) at) (element_target types (type_at types element) h)
      go (ty.Unique target) at h = target_before structs id.0 inside target (structs.ordered.parts id.0 (ty.Unique target) at) (element_target types (type_at types target) h)
      go (ty.Iterator target constant) at h = target_before structs id.0 inside target (structs.ordered.parts id.0 (ty.Iterator target constant) at) (element_target types (type_at types target) h)
      go (ty.Span target constant) at h = target_before structs id.0 inside target (structs.ordered.parts id.0 (ty.Span target constant) at) (element_target types (type_at types target) h)
      go (ty.Struct number) at h = struct_stands structs id.0 inside id number (omega arith) at
      go _ at h = refl

  -- it stands as it is, also where a parameter has it
  fits_itself : (parameter : Bool) (id : TyId) (t : Ty) → slice_get types.types id.0 ≡ Some t → fits_local types t ≡ true → shape_if types parameter id ≡ id
  fits_itself false id t at h = refl
  fits_itself true id t at h = ap (λ (o : Option Ty). unslotted types id (or_void o)) at ∙ go t h
    where
      go : (t : Ty) → fits_local types t ≡ true → unslotted types id t ≡ id
      go (ty.Reference target false) h = target_referred id target (ty_of types target) (target_unslotted types types (λ n x e. e) target h)
      go _ h = refl

  fits_no_void : (t : Ty) → fits_local types t ≡ true → not (is_void t) ≡ true
  fits_no_void t h = ap not (no_void (fits_local types) refl t h)

  fits_kept : (t : Ty) → fits_register types t ≡ true → fits_kind Register t ≡ true
  fits_kept ty.Void h = absurd (false≢true h)
  fits_kept ty.Text h = absurd (false≢true h)
  fits_kept (ty.Vector element) h = absurd (false≢true h)
  fits_kept (ty.Unique target) h = absurd (false≢true h)
  fits_kept (ty.Struct number) h = absurd (false≢true h)
  fits_kept _ h = refl

  pub variable_fits : (t : Ty) → IsAdmittedType types t → fits_local types t ≡ true
  variable_fits t (inr (inl o)) = owner_local types t o
  variable_fits t (inr (inr (inr (inl u)))) = unique_local types t u
  variable_fits t (inr (inr (inr (inr structure)))) = struct_local types t structure
  variable_fits t (inr (inr (inl w))) = go t w
    where
      go : (t : Ty) → is_walker_of_values types t ≡ true → fits_local types t ≡ true
      go (ty.Iterator target constant) w = w
      go (ty.Span target constant) w = w
      go _ w = absurd (false≢true w)
  variable_fits t (inl b) = go t b
    where
      go : (t : Ty) → (is_value t || is_pointing types t) ≡ true → fits_local types t ≡ true
      go ty.View b = refl
      go ty.Text b = absurd (false≢true b)
      go (ty.Vector element) b = absurd (false≢true b)
      go (ty.Unique target) b = absurd (false≢true b)
      go (ty.Struct number) b = absurd (false≢true b)
      go (ty.Iterator target constant) b = absurd (false≢true b)
      go (ty.Span target constant) b = absurd (false≢true b)
      go _ b = b

  variable_kept : (t : Ty) → IsAdmittedType types t → fits_kind (kind (class (Some t))) t ≡ true
  variable_kept t (inr (inr (inr (inr structure)))) = go t structure
    where
      go : (t : Ty) → is_struct t ≡ true → fits_kind (kind (class (Some t))) t ≡ true
      go (ty.Struct number) structure = refl
      go _ structure = absurd (false≢true structure)
  variable_kept t (inr (inr (inr (inl u)))) = go t u
    where
      go : (t : Ty) → is_unique_of_element types t ≡ true → fits_kind (kind (class (Some t))) t ≡ true
      go (ty.Unique target) u = refl
      go _ u = absurd (false≢true u)
  variable_kept t (inr (inr (inl w))) = go t w
    where
      go : (t : Ty) → is_walker_of_values types t ≡ true → fits_kind (kind (class (Some t))) t ≡ true
      go = by_walkers types _ (λ target constant. refl) (λ target constant. refl)
  variable_kept t (inr (inl o)) = go t o
    where
      go : (t : Ty) → is_owner_of_values types t ≡ true → fits_kind (kind (class (Some t))) t ≡ true
      go = by_owners types _ refl (λ element. refl)
  variable_kept t (inl b) = go t b
    where
      go : (t : Ty) → (is_value t || is_pointing types t) ≡ true → fits_kind (kind (class (Some t))) t ≡ true
      go ty.Bool b = refl
      go ty.Char b = refl
      go ty.Int b = refl
      go ty.Long b = refl
      go ty.Size b = refl
      go ty.View b = refl
      go (ty.Raw target constant) b = refl
      go (ty.Reference target constant) b = refl
      go _ b = absurd (false≢true b)

  variable_named : (t : Ty) (name : NameId) → IsAdmittedType types t → is_named_as (kind (class (Some t))) t (Some name) ≡ true
  variable_named t name (inr (inr (inr (inr structure)))) = go t structure
    where
      go : (t : Ty) → is_struct t ≡ true → is_named_as (kind (class (Some t))) t (Some name) ≡ true
      go (ty.Struct number) structure = refl
      go _ structure = absurd (false≢true structure)
  variable_named t name (inr (inr (inr (inl u)))) = go t u
    where
      go : (t : Ty) → is_unique_of_element types t ≡ true → is_named_as (kind (class (Some t))) t (Some name) ≡ true
      go (ty.Unique target) u = refl
      go _ u = absurd (false≢true u)
  variable_named t name (inr (inr (inl w))) = go t w
    where
      go : (t : Ty) → is_walker_of_values types t ≡ true → is_named_as (kind (class (Some t))) t (Some name) ≡ true
      go = by_walkers types _ (λ target constant. refl) (λ target constant. refl)
  variable_named t name (inr (inl o)) = go t o
    where
      go : (t : Ty) → is_owner_of_values types t ≡ true → is_named_as (kind (class (Some t))) t (Some name) ≡ true
      go = by_owners types _ refl (λ element. refl)
  variable_named t name (inl b) = go t b
    where
      go : (t : Ty) → (is_value t || is_pointing types t) ≡ true → is_named_as (kind (class (Some t))) t (Some name) ≡ true
      go ty.Bool b = refl
      go ty.Char b = refl
      go ty.Int b = refl
      go ty.Long b = refl
      go ty.Size b = refl
      go ty.View b = refl
      go (ty.Raw target constant) b = refl
      go (ty.Reference target constant) b = refl
      go _ b = absurd (false≢true b)

  -- ---- a local, and all of them

  local_formed : HasStructs types → (names n x : ℕ) (l : Local) (t : Ty) → slice_get types.types l.ty.0 ≡ Some t → fits_local types t ≡ true
      → fits_kind l.kind t ≡ true → is_named_as l.kind t l.name ≡ true → is_name_if names l.name ≡ true → (not (nat_lt x n) || is_some l.name) ≡ true → is_well_formed_local types names n x l ≡ true
  local_formed structs names n x l t at h kept as_named name has =
      let same : shape types n x l ≡ l.ty = fits_itself (nat_lt x n) l.ty t at h in
      let typed : ty_of types (shape types n x l) ≡ t = ap (ty_of types) same ∙ ap or_void at in
      and_from (not (is_void (ty_of types l.ty))) _ (ap (λ (o : Option Ty). not (is_void (or_void o))) at ∙ fits_no_void t h)
      (and_from (may_stand (tree_at types (shape types n x l))) _ (ap (λ (id : TyId). may_stand (tree_at types id)) same ∙ fits_stands structs l.ty t at h)
      (and_from (fits_kind l.kind (ty_of types (shape types n x l))) _ (ap (fits_kind l.kind) typed ∙ kept)
      (and_from (is_named_as l.kind (ty_of types (shape types n x l)) l.name) _ (ap (λ (u : Ty). is_named_as l.kind u l.name) typed ∙ as_named)
      (and_from (is_name_if names l.name) (not (nat_lt x n) || is_some l.name) name has))))

  all_formed : (names n x : ℕ) (ls : List Local) → ((y : ℕ) (l : Local) → slice_get ls y ≡ Some l → is_well_formed_local types names n (x + y) l ≡ true) → are_well_formed_locals types names n x ls ≡ true
  all_formed names n x [] each = refl
  all_formed names n x (l ∷ ls) each =
      and_from (is_well_formed_local types names n x l) (are_well_formed_locals types names n (x + 1) ls)
      (subst (λ (z : ℕ). is_well_formed_local types names n z l ≡ true) (omega arith) (each zero l refl))
      (all_formed names n (x + 1) ls (λ y u at. subst (λ (z : ℕ). is_well_formed_local types names n z u ≡ true) (omega arith) (each (suc y) u at)))

-- ---- names

-- each parameter has one
parameter_named : (a : Around) (ps : List ParameterPromise) (us : List TypedLocal) (y : ℕ) → length ps ≤ length us → y < length ps → (l : Local) × (slice_get (parameter_locals a ps us) y ≡ Some l) × (is_some l.name ≡ true)
parameter_named a [] us y few lt = absurd (omega (arith, lt))
parameter_named a (p ∷ ps) [] y few lt = absurd (omega (arith, few))
parameter_named a (p ∷ ps) (u ∷ us) zero few lt = (parameter_local a p u, refl, refl)
parameter_named a (p ∷ ps) (u ∷ us) (suc y) few lt = parameter_named a ps us y (omega (arith, few)) (omega (arith, lt))

-- ---- a function

-- all that is asked of it beside its body
pub record HasFormedHead (types : Types) (names : ℕ) (f : Function) : Type 0 where
  pub name : is_name names f.name ≡ true
  pub count : nat_le f.parameters (length f.locals) ≡ true
  pub promise : names_parameters f.parameters f.promise ≡ true
  pub result : is_result_of types f.result (slice_get types.types f.result.0) (slice_get f.locals f.parameters) ≡ true
  pub locals : are_well_formed_locals types names f.parameters 0 f.locals ≡ true

promise_names : (n : ℕ) (promise : PromiseForm) → lists_parameters n promise ≡ true → names_parameters n (promise_of promise) ≡ true
promise_names n default named = refl
promise_names n (listed parameters fixed null) named = named

itself : (n : ℕ) → nat_eq n n ≡ true
itself n = grind (arith, nat_tests)

pub lt_of : (a b : ℕ) → nat_lt a b ≡ true → a < b
lt_of a b h = grind (arith, nat_tests)

result_void : (types : Types) (id : TyId) (o : Option Local) (t : Ty) → is_void t ≡ true → is_result_of types id (Some t) o ≡ true
result_void types id o ty.Void v = refl
result_void types id o _ v = absurd (false≢true v)

result_some : (types : Types) (id : TyId) (o : Option Local) (t : Ty) → is_result_local types id o ≡ true → is_result_of types id (Some t) o ≡ true
result_some types id o ty.Void h = refl
result_some types id o _ h = h

-- .. in a register, or it is an owner or a struct
result_kept : (t : Ty) → (is_register (result_kind (class (Some t))) || is_composed t) ≡ true
result_kept ty.Text = refl
result_kept (ty.Vector element) = refl
result_kept (ty.Unique target) = refl
result_kept (ty.Struct number) = refl
result_kept _ = refl

-- as it is written, in a finished table that begins with the one behind it
module _ (p : ProgramForm) (of : FunctionForm) (T types : Types) (names : ℕ) (made : IsFunctionOf p of) (table : IsFront p.types.types T.types) (front : IsFront p.types.types types.types)
    (grown : IsFront (first_state (around p of) T).locals (written (around p of) T).locals) (later : IsFront (written (around p of) T).types.types types.types)
    (own : AreWrittenLocals p.types (around p of) (written (around p of) T)) (named : is_function_named names of ≡ true) (structs : HasStructs types) (stays : PlainStays p.types types) where
  abbrev core : Function
  core = function_from of (written (around p of) T)

  has_name : (x : ℕ) (l : Local) → slice_get core.locals x ≡ Some l → (not (nat_lt x core.parameters) || is_some l.name) ≡ true
  has_name x l at = go (nat_lt x core.parameters) refl
    where
      go : (b : Bool) → nat_lt x core.parameters ≡ b → (not b || is_some l.name) ≡ true
      go false is = refl
      go true is =
          let found = parameter_named (around p of) of.parameters of.locals x made.typed.parameters (lt_of x core.parameters is) in
          let there : slice_get core.locals x ≡ Some found.0 = grown x found.0 (parameters_front (around p of) T made.typed.parameters table made.built.result x found.0 found.1) in
          ap (λ (l : Local). is_some l.name) (same_Some l found.0 (sym at ∙ there)) ∙ found.2

  intermediate_formed : (x : ℕ) (l : Local) → slice_get core.locals x ≡ Some l → IsIntermediate p.types (written (around p of) T).types l → is_well_formed_local types names core.parameters x l ≡ true
  intermediate_formed x l at is = go is.fits
    where
      nameless_formed : fits_local types is.ty ≡ true → fits_kind l.kind is.ty ≡ true → is_well_formed_local types names core.parameters x l ≡ true
      nameless_formed fits kept = local_formed types structs names core.parameters x l is.ty (later l.ty.0 is.ty is.typed) fits kept (ap (is_named_as l.kind is.ty) is.nameless) (ap (is_name_if names) is.nameless) (has_name x l at)

      owner_kept : (t : Ty) → is_owner_of_values types t ≡ true → fits_kind Object t ≡ true
      owner_kept = by_owners types _ refl (λ element. refl)

      unique_kept : (t : Ty) → is_unique_of_element types t ≡ true → fits_kind Object t ≡ true
      unique_kept (ty.Unique target) u = refl
      unique_kept _ u = absurd (false≢true u)

      temporary_fits : FitsTemporary p.types is.ty → (fits_local types is.ty ≡ true) × (fits_kind Object is.ty ≡ true)
      temporary_fits (inl value) = (by_values (λ t. fits_local types t ≡ true) refl refl refl refl refl is.ty value, by_values (λ t. fits_kind Object t ≡ true) refl refl refl refl refl is.ty value)
      temporary_fits (inr (inl o)) = let owner = owner_later p.types types front stays is.ty o in (owner_local types is.ty owner, owner_kept is.ty owner)
      temporary_fits (inr (inr (inr structure))) = (ap (fits_local types) structure.is, ap (fits_kind Object) structure.is)
      temporary_fits (inr (inr (inl u))) = let unique = unique_later p.types types front stays is.ty u in (unique_local types is.ty unique, unique_kept is.ty unique)

      go : FitsNameless p.types (written (around p of) T).types l.kind is.ty → is_well_formed_local types names core.parameters x l ≡ true
      go (inl register) =
          let fit = fits_later p.types types front stays is.ty register.1 in
          nameless_formed (register_local types is.ty fit) (ap (λ (k : LocalKind). fits_kind k is.ty) register.0 ∙ fits_kept types is.ty fit)
      go (inr (inl temporary)) = let fit = temporary_fits temporary.1 in nameless_formed fit.0 (ap (λ (k : LocalKind). fits_kind k is.ty) temporary.0 ∙ fit.1)
      go (inr (inr hidden)) =
          let fit = hidden_later p.types (written (around p of) T).types types later is.ty hidden.1 in
          nameless_formed (hidden_local p.types types front stays is.ty fit) (ap (λ (k : LocalKind). fits_kind k is.ty) hidden.0 ∙ hidden_pointer p.types types is.ty fit)

  own_formed : (x : ℕ) (l : Local) → slice_get core.locals x ≡ Some l → IsOwn (around p of) l → is_well_formed_local types names core.parameters x l ≡ true
  own_formed x l at is =
      let found = variable_found p.types is.variable.ty (variable_built p.types of.locals is.number is.variable made.built.variables is.there) in
      let kept : l.kind ≡ kind (class (Some found.0)) = is.of.kind ∙ ap (λ (o : Option Ty). kind (class o)) found.1 in
      let known = (and_parts (nat_lt of.name.0 names) (list_all (is_local_named names) of.locals) named).1 in
      local_formed types structs names core.parameters x l found.0 (ap (λ (id : TyId). slice_get types.types id.0) is.of.typed ∙ front is.variable.ty.0 found.0 found.1)
      (local_later p.types types front stays found.0 (variable_fits p.types found.0 found.2))
      (ap (λ (k : LocalKind). fits_kind k found.0) kept ∙ variable_kept p.types found.0 found.2)
      (ap (λ (k : LocalKind). is_named_as k found.0 l.name) kept ∙ ap (is_named_as (kind (class (Some found.0))) found.0) is.of.named ∙ variable_named p.types found.0 is.variable.name found.2)
      (ap (is_name_if names) is.of.named ∙ passed_at (is_local_named names) (list_all (is_local_named names)) (λ u us. refl) of.locals is.number is.variable known is.there)
      (has_name x l at)

  locals_formed : are_well_formed_locals types names core.parameters 0 core.locals ≡ true
  locals_formed = all_formed types names core.parameters 0 core.locals (λ y l at. subst (λ (z : ℕ). is_well_formed_local types names core.parameters z l ≡ true) (omega arith) (each y l at (own y l at)))
    where
      each : (y : ℕ) (l : Local) → slice_get core.locals y ≡ Some l → IsIntermediate p.types (written (around p of) T).types l ⊎ IsOwn (around p of) l → is_well_formed_local types names core.parameters y l ≡ true
      each y l at (inl is) = intermediate_formed y l at is
      each y l at (inr is) = own_formed y l at is

  -- ---- the result

  result_type : slice_get types.types core.result.0 ≡ Some made.ty
  result_type = front of.result.0 made.ty made.result

  abbrev returned : Ty
  returned = type_at p.types of.result

  result_there : is_void made.ty ≡ false → slice_get core.locals core.parameters ≡ Some (nameless_of (result_kind (class (Some returned))) of.place of.result)
  result_there some =
      grown core.parameters (nameless_of (result_kind (class (Some returned))) of.place of.result)
      (result_first (around p of) T made.typed.parameters table made.built.result (ap is_void (type_found p.types of.result made.ty made.result) ∙ some))

  result_formed : is_result_of types core.result (slice_get types.types core.result.0) (slice_get core.locals core.parameters) ≡ true
  result_formed = ap (λ (o : Option Ty). is_result_of types core.result o (slice_get core.locals core.parameters)) result_type ∙ go (is_void made.ty) refl
    where
      go : (b : Bool) → is_void made.ty ≡ b → is_result_of types core.result (Some made.ty) (slice_get core.locals core.parameters) ≡ true
      go true v = result_void types core.result (slice_get core.locals core.parameters) made.ty v
      go false some =
          result_some types core.result (slice_get core.locals core.parameters) made.ty
          (ap (is_result_local types core.result) (result_there some)
          ∙ and_from (nat_eq of.result.0 of.result.0) (is_register (result_kind (class (Some returned))) || is_composed (ty_of types core.result)) (itself of.result.0)
          (ap (λ (t : Ty). is_register (result_kind (class (Some returned))) || is_composed t) (ap or_void result_type ∙ sym (type_found p.types of.result made.ty made.result)) ∙ result_kept returned))

  -- ---- the whole

  enough : core.parameters ≤ length core.locals
  enough =
      let fewer = (result_grows (around p of) (type_at p.types of.result) (given (around p of) T made.typed.parameters table) (result_is p.types (type_at p.types of.result) made.built.result)).count in
      let more = front_length (first_state (around p of) T).locals core.locals grown in
      omega (arith, given_count (around p of) T made.typed.parameters table, fewer, more)

  pub head_formed : HasFormedHead types names core
  head_formed = record {
    name = (and_parts (nat_lt of.name.0 names) (list_all (is_local_named names) of.locals) named).0;
    count = le-leb core.parameters (length core.locals) enough;
    promise = promise_names core.parameters of.promise made.typed.promise;
    result = result_formed;
    locals = locals_formed;
  }
