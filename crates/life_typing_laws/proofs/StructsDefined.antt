-- A struct is defined: what is known behind it.
use Rattle.std.proofs.Common.{◌≡◌, ⊎_elim, inl, inr, ℕ, suc, ◌+◌, ◌<◌, ◌-◌, ◌^◌, Bool, true, false, not, ◌&&◌, Some, Ok, List, [], ◌∷◌, ◌++◌, length, slice_get, if◌then◌else◌, refl, sym, ap, subst, ◌∙◌, arith, length-append}
use Rattle.std.specs.Prelude.{nat_lt}
use Rattle.life_types.specs.Trees.{IsOrdered}
use Rattle.life_types.specs.TypeTests.{is_reference as is_reference_type}
use Rattle.life_types.specs.Types.{Types, HasTypes}
use Rattle.life_types.specs.declared.place.Place.{Place}
use Rattle.life_types.specs.declared.ty.NameId.{NameId}
use Rattle.life_types.specs.declared.ty.Ty.TheVariants as ty
use Rattle.life_types.specs.declared.ty.TyId.{TyId}
use Rattle.life_types.proofs.TreeLemmas.{in_more, last_in, ordered_struct, stays_in}
use Rattle.life_tree.specs.declared.program.Definition.{Definition}
use Rattle.life_tree.specs.declared.program.Definition.TheVariants as definition
use Rattle.life_tree.specs.declared.program.Member.{Member}
use Rattle.life_tree.specs.declared.program.StructDefinition.{StructDefinition}
use Rattle.life_typed.specs.BaseTypes.{base_types}
use Rattle.life_typed.specs.Programs.{StructForm}
use Rattle.life_names.specs.Checked.{Checked, ◌>>=◌, broken}
use Rattle.life_names.specs.Environment.{Scope, StructureView, seen_as, structure_declared}
use Rattle.life_names.specs.Environment as environment
use Rattle.life_names.specs.WrittenTypes.{is_const_value, written, written_base}
use Rattle.life_names.specs.declared.environment.Entity.TheVariants as entity
use Rattle.life_names.specs.declared.environment.MemberType.{MemberType}
use Rattle.life_names.specs.declared.fault.IllKind.TheVariants as kinds
use Rattle.life_typing.specs.Answers.{Answer, ◌>>◌}
use Rattle.life_typing.specs.Names.{DeclaredView}
use Rattle.life_typing.specs.Parameters.{is_seen}
use Rattle.life_typing.specs.Progress.{ProgressView}
use Rattle.life_typing.specs.StructTypes.{are_there, number_added}
use Rattle.life_typing.specs.Structs.{added_unless_empty, found_structure, is_reference, member_type, member_types, members_behind, name_added, named_structure, names_of, pointing_of_members, reference_member, structure_form, structure_with, types_of, unless, value_member, with_structure}
use Rattle.life_well_typed.specs.Results.{HaveMembers}
use Rattle.life_well_typed.specs.Visible.{with_parameters}
use Rattle.life_typing_laws.proofs.BodiesCome.{BodiesCome, Comes}
use Rattle.life_typing_laws.proofs.Declaring.{numbered_is}
use Rattle.life_well_typed.proofs.ObjectsKept.{object_there, objects_struct}
use Rattle.life_well_typed.specs.Tables.{AreMemberTypes, IsMemberType}
use Rattle.life_typing_laws.proofs.Growing.{IsAdded, IsGrown, grown_by, grown_not, grown_on, grows_on, object_later, same_type_at, stay_there, stays_there, struct_stays, structs_stay, with_added}
use Rattle.life_typing_laws.proofs.Known.{known_grown}
use Rattle.life_typing_laws.proofs.Scopes.{IsFree, set_else, set_length, set_other}
use Rattle.life_typing_laws.proofs.Staying.{free_not_seen}
use Rattle.life_typing_laws.proofs.Steps.{answered, same_answer}
use Rattle.life_typing_laws.proofs.Visible.{IsUnderway}
use Rattle.life_typing_laws.proofs.Written.{value_finds, written_finds}
use Rattle.life_typing_laws.specs.Sound.{Grows, HasStruct, HasStructs, IsSound}

-- ---- its members

-- they have types that are there, in a table that has grown
record AreMembers (types : Types) (x : List MemberType × Types) : Type 0 where
  grown : IsGrown types x.1
  there : HasTypes x.1 (types_of x.0)
  are : AreMemberTypes x.1 (types_of x.0)

-- .. of one
record IsMember (types : Types) (x : TyId × Types) : Type 0 where
  grown : IsGrown types x.1
  is : IsMemberType x.1 x.0

member_later : (old new : Types) (id : TyId) → Grows old new → IsMemberType old id → IsMemberType new id
member_later old new id grows is = record {
  object = object_later old new id grows is.object;
  value = ap is_reference_type (same_type_at old new id grows (object_there old id is.object)) ∙ is.value;
}

member_finds : (m : Member) (scope : Scope) (types : Types) (x : TyId × Types) → IsOrdered types → Grows base_types types → HasStructs types scope.structs → member_type m scope types ≡ Ok x → IsMember types x
member_finds m scope types x ordered base structs e = go (is_reference m.ty) refl e
  where
    go : (b : Bool) → is_reference m.ty ≡ b → (if b then reference_member m scope types else value_member m scope types) ≡ Ok x → IsMember types x
    go true none e =
        let step = answered (written_base m.ty m.name.place scope types) (λ _. broken {A = TyId} kinds.WrongType m.name.place) x e in
        absurd (never step.behind)
      where
        never : broken {A = TyId} kinds.WrongType m.name.place ≡ Ok x → ⊥
        never h = cc
    go false none e =
        let step = answered (written m.ty m.name.place scope types) (λ y. unless (not (is_const_value m.ty)) kinds.WrongType m.name.place >> λ _. Ok y) x e in
        let last = answered (unless (not (is_const_value m.ty)) kinds.WrongType m.name.place) (λ _. Ok step.value) x step.behind in
        let found = written_finds m.ty m.name.place scope types step.value ordered base structs step.gave in
        subst (IsMember types) (same_answer step.value x last.behind)
        (record { grown = found.grown; is = record { object = found.object; value = value_finds m.ty none m.name.place scope types step.value ordered base structs step.gave } })

abbrev with_member : Member → TyId → List MemberType × Types → Checked (List MemberType)
with_member m id xs = Ok (record { name = m.name.id; ty = id } ∷ xs.0, xs.1)

members_read : (before : List NameId) (ms : List Member) (scope : Scope) (types : Types) (x : List MemberType × Types) → IsOrdered types → Grows base_types types → HasStructs types scope.structs
    → members_behind before ms scope types ≡ Ok x → AreMembers types x
members_read before [] scope types x ordered base structs e =
    subst (AreMembers types) (same_answer {A = List MemberType × Types} ([], types) x e) (record { grown = grown_not types ordered; there = tt; are = tt })
members_read before (m ∷ ms) scope types x ordered base structs e =
    let first = answered (member_type m scope types) (λ y. name_added before m.name >> λ seen. members_behind seen ms scope y.1 >> with_member m y.0) x e in
    let named = answered (name_added before m.name) (λ seen. members_behind seen ms scope first.value.1 >> with_member m first.value.0) x first.behind in
    let rest = answered (members_behind named.value ms scope first.value.1) (with_member m first.value.0) x named.behind in
    let found = member_finds m scope types first.value ordered base structs first.gave in
    let others = members_read named.value ms scope first.value.1 rest.value found.grown.ordered (grows_on base_types types first.value.1 base found.grown.grows)
    (structs_stay types first.value.1 scope.structs found.grown.grows structs) rest.gave in
    subst (AreMembers types) (same_answer {A = List MemberType × Types} (record { name = m.name.id; ty = first.value.0 } ∷ rest.value.0, rest.value.1) x rest.behind) (record {
      grown = grown_on types first.value.1 rest.value.1 found.grown others.grown;
      there = (stays_there first.value.1 rest.value.1 first.value.0 others.grown.grows (object_there first.value.1 first.value.0 found.is.object), others.there);
      are = (member_later first.value.1 rest.value.1 first.value.0 others.grown.grows found.is, others.are);
    })

-- ---- its type

abbrev with_members : Types → List TyId → Types
with_members types ids = record { types = types.types; structs = types.structs ++ ids ∷ [] }

numbered : (place : Place) (number : ℕ) (types : Types) (y : TyId × Types) → IsOrdered types → number < length types.structs → number_added place number types ≡ Ok y → IsAdded (ty.Struct number) types y
unfolding number_added
numbered place number types y ordered there e = go (nat_lt (length types.types) (2 ^ 32 - 1)) e
  where
    go : (b : Bool) → ◌≡◌ {A = Checked TyId} (if b then Ok (grown_by types (ty.Struct number)) else broken kinds.Unsupported place) (Ok y) → IsAdded (ty.Struct number) types y
    go true e = subst (IsAdded (ty.Struct number) types) (same_answer (grown_by types (ty.Struct number)) y e) (with_added types (ty.Struct number) ordered there (λ objects. tt))
    go false e = absurd (cc)

-- it has a member
record IsTypeOf (ids : List TyId) (types : Types) (y : TyId × Types) : Type 0 where
  some : 0 < length ids
  added : IsAdded (ty.Struct (length types.structs)) (with_members types ids) y

abbrev with_number : Place → ℕ × Types → Checked TyId
with_number place x = number_added place x.0 x.1

type_of_struct : (place : Place) (ids : List TyId) (types : Types) (y : TyId × Types) → IsOrdered types → HasTypes types ids → added_unless_empty place ids types ≡ Ok y → IsTypeOf ids types y
type_of_struct place [] types y ordered there e = absurd (cc)
type_of_struct place (id ∷ ids) types y ordered there e = go (nat_lt (length types.structs) (2 ^ 32 - 1) && are_there types (id ∷ ids)) e
  where
    go : (b : Bool) → ((if b then Ok (length types.structs, with_members types (id ∷ ids)) else broken kinds.Unsupported place) >>= with_number place) ≡ Ok y → IsTypeOf (id ∷ ids) types y
    go true e = record {
      some = omega arith;
      added = numbered place (length types.structs) (with_members types (id ∷ ids)) y (ordered_struct types ordered (id ∷ ids) there) one_more e;
    }
      where
        one_more : length types.structs < length (types.structs ++ (id ∷ ids) ∷ [])
        one_more = simp length-append (omega arith)
    go false e = absurd (cc)

-- ---- the struct

-- what it adds, its name aside
record IsDefined (s : StructDefinition) (p : ProgressView) (x : StructureView × ProgressView) : Type 0 where
  members : List MemberType × Types
  read : AreMembers p.types members
  y : TyId × Types
  type : IsTypeOf (types_of members.0) members.1 y
  is : ◌≡◌ {A = StructureView × ProgressView} (
    record { ty = y.0; members = members.0 },
    record p { types = y.1; pointing = p.pointing ++ pointing_of_members members.1 p.pointing members.0 ∷ [] },
  ) x
  free : IsFree s.name.id p.scope

abbrev found_with : List MemberType → ProgressView → TyId × Types → Answer (StructureView × ProgressView)
found_with ms p y = Ok (record { ty = y.0; members = ms }, record p { types = y.1; pointing = p.pointing ++ pointing_of_members p.types p.pointing ms ∷ [] })

abbrev behind_members : StructDefinition → ProgressView → List MemberType × Types → Answer (StructureView × ProgressView)
behind_members s p x = structure_with s.name.place x.0 (record p { types = x.1 })

-- no rule is broken where what was to be false isn't true
is_not : (b : Bool) (place : Place) (u : Unit {0}) → unless (not b) kinds.Redeclared place ≡ Ok u → b ≡ false
is_not false place u e = refl
is_not true place u e = absurd (cc)

defined_is : (bodies : List Bool) (s : StructDefinition) (p : ProgressView) (x : StructureView × ProgressView) → IsUnderway bodies p → found_structure s p ≡ Ok x → IsDefined s p x
defined_is bodies s p x under e =
    let seen = answered (unless (not (is_seen p.scope s.name.id)) kinds.Redeclared s.name.place) (λ _. member_types s.members.items p.scope p.types >> behind_members s p) x e in
    let members = answered (member_types s.members.items p.scope p.types) (behind_members s p) x seen.behind in
    let read = members_read [] s.members.items p.scope p.types members.value under.sound.ordered under.sound.based under.sound.structs_there members.gave in
    let added = answered (added_unless_empty s.name.place (types_of members.value.0) members.value.1) (found_with members.value.0 (record p { types = members.value.1 })) x members.behind in
    record {
      members = members.value;
      read = read;
      y = added.value;
      type = type_of_struct s.name.place (types_of members.value.0) members.value.1 added.value read.grown.ordered read.there added.gave;
      is = same_answer (
        record { ty = added.value.0; members = members.value.0 },
        record p { types = added.value.1; pointing = p.pointing ++ pointing_of_members members.value.1 p.pointing members.value.0 ∷ [] },
      ) x added.behind;
      free = free_not_seen s.name.id p.scope (is_not (is_seen p.scope s.name.id) s.name.place seen.value seen.gave);
    }

-- ---- behind it

-- one more struct, with a name for each member
have_more : (ss : List StructForm) (structs : List (List TyId)) (s : StructForm) (ids : List TyId) → HaveMembers ss structs → 0 < length ids → length s.members ≡ length ids → HaveMembers (ss ++ s ∷ []) (structs ++ ids ∷ [])
have_more [] [] s ids all some count = (some, count, tt)
have_more [] (first ∷ structs) s ids all some count = absurd all
have_more (x ∷ ss) [] s ids all some count = absurd all
have_more (x ∷ ss) (first ∷ structs) s ids all some count = (all.0, all.1, have_more ss structs s ids all.2 some count)

as_many_names : (ms : List MemberType) → length (names_of ms) ≡ length (types_of ms)
as_many_names [] = refl
as_many_names (m ∷ ms) = ap suc (as_many_names ms)

pub record StructWent (bodies : List Bool) (p q : ProgressView) : Type 0 where
  pub under : IsUnderway bodies q
  pub texts : q.scope.names ≡ p.scope.names
  pub keeps : (k n : ℕ) → slice_get p.scope.visible k ≡ Some (entity.Function n) → slice_get q.scope.visible k ≡ Some (entity.Function n)
  pub declared : q.declared ≡ p.declared

module _ (bodies : List Bool) (s : StructDefinition) (p : ProgressView) (under : IsUnderway bodies p) (x : StructureView × ProgressView) (d : IsDefined s p x) where
  abbrev view : StructureView
  view = record { ty = d.y.0; members = d.members.0 }

  abbrev number : ℕ
  number = length p.scope.structs

  abbrev scope : Scope
  scope = seen_as s.name.id (entity.Structure number) (environment.with_structure view p.scope)

  abbrev behind : ProgressView
  behind = record {
    scope = scope;
    types = d.y.1;
    structs = p.structs ++ structure_form s d.members.0 ∷ [];
    pointing = p.pointing ++ pointing_of_members d.members.1 p.pointing d.members.0 ∷ [];
    functions = p.functions;
    declared = p.declared;
  }

  -- the table with the new struct
  grows : Grows p.types d.y.1
  grows = grows_on p.types d.members.1 d.y.1 d.read.grown.grows
      (grows_on d.members.1 (with_members d.members.1 (types_of d.members.0)) d.y.1 (record {
        types = λ n t e. e;
        once = λ h. h;
        objects = λ objects. objects_struct d.members.1 (types_of d.members.0) d.read.grown.ordered d.read.there d.read.are objects;
        structs = λ n ids e. stays_in d.members.1.structs (types_of d.members.0 ∷ []) n ids e;
      })
      d.type.added.grown.grows)

  same_number : length d.members.1.structs ≡ number
  same_number = ap length d.read.grown.structs ∙ under.sound.structs_count

  structs_are : d.y.1.structs ≡ d.members.1.structs ++ types_of d.members.0 ∷ []
  structs_are = d.type.added.grown.structs

  newest : HasStruct d.y.1 number view
  newest = subst (λ (n : ℕ). HasStruct d.y.1 n view) same_number (record {
    type = d.type.added.is;
    members = subst (λ (ss : List (List TyId)). slice_get ss (length d.members.1.structs) ≡ Some (types_of d.members.0)) (sym structs_are) (last_in d.members.1.structs (types_of d.members.0));
  })

  counted : {A B : Type 0} (xs : List A) (x : A) (ys : List B) (y : B) → length xs ≡ length ys → length (xs ++ x ∷ []) ≡ length (ys ++ y ∷ [])
  counted xs x ys y e =
      let first : length (xs ++ x ∷ []) ≡ length xs + 1 = length-append xs (x ∷ []) in
      let second : length (ys ++ y ∷ []) ≡ length ys + 1 = length-append ys (y ∷ []) in
      omega (arith, first, second, e)

  sound : IsSound (with_parameters 0) scope d.y.1
  sound = record {
    ordered = d.type.added.grown.ordered;
    based = grows_on base_types p.types d.y.1 under.sound.based grows;
    structs_there = λ n t e. ⊎_elim (λ old. struct_stays p.types d.y.1 n t grows (under.sound.structs_there n t old)) (λ last. new n t last.0 last.1) (in_more p.scope.structs view n t e);
    structs_count = ap length structs_are ∙ counted d.members.1.structs (types_of d.members.0) p.scope.structs view same_number;
    locals_there = λ n l e. object_later p.types d.y.1 l.ty grows (under.sound.locals_there n l e);
    results_there = λ n f e. stays_there p.types d.y.1 f.result grows (under.sound.results_there n f e);
    parameters_there = λ n f e. stay_there p.types d.y.1 f.parameters grows (under.sound.parameters_there n f e);
    declared = under.sound.declared;
    visible = λ k n e. ⊎_elim (λ here. absurd (no_local n here.1)) (λ old. under.sound.visible k n old) (set_other p.scope.visible s.name.id.0 k (entity.Structure number) (entity.Local n) e);
  }
    where
      no_local : (n : ℕ) → entity.Structure number ≡ entity.Local n → ⊥
      no_local n e = cc

      new : (n : ℕ) (t : StructureView) → n ≡ number → view ≡ t → HasStruct d.y.1 n t
      new n t last same = subst (λ (i : ℕ). HasStruct d.y.1 i t) (sym last) (subst (λ (u : StructureView). HasStruct d.y.1 number u) same newest)

  under_behind : IsUnderway bodies behind
  under_behind = record {
    sound = sound;
    known = known_grown p.scope.names p.types d.y.1 p.scope.functions p.functions p.declared grows under.known;
    named = λ k n e. ⊎_elim (λ here. absurd (no_function n here.1)) (λ old. under.named k n old) (set_other p.scope.visible s.name.id.0 k (entity.Structure number) (entity.Function n) e);
    size = set_length p.scope.visible s.name.id.0 (entity.Structure number) ∙ under.size;
    structs = subst (HaveMembers (p.structs ++ structure_form s d.members.0 ∷ [])) (sym structs_are)
        (have_more p.structs d.members.1.structs (structure_form s d.members.0) (types_of d.members.0) (subst (HaveMembers p.structs) (sym d.read.grown.structs) under.structs) d.type.some (as_many_names d.members.0));
  }
    where
      no_function : (n : ℕ) → entity.Structure number ≡ entity.Function n → ⊥
      no_function n e = cc

  went_behind : StructWent bodies p behind
  went_behind = record {
    under = under_behind;
    texts = refl;
    keeps = λ k n e. set_else p.scope.visible s.name.id.0 k (entity.Structure number) (λ same. d.free n (subst (λ (i : ℕ). slice_get p.scope.visible i ≡ Some (entity.Function n)) (sym same) e)) ∙ e;
    declared = refl;
  }

  abbrev before : StructureView × ProgressView
  before = (view, record p { types = d.y.1; pointing = p.pointing ++ pointing_of_members d.members.1 p.pointing d.members.0 ∷ [] })

  abbrev named : StructureView × ProgressView → Answer ProgressView
  named z = named_structure s z

  named_went : (q : ProgressView) → named_structure s x ≡ Ok q → StructWent bodies p q
  named_went q e = of (subst (λ (z : StructureView × ProgressView). named z ≡ Ok q) (sym d.is) e)
    where
      of : named before ≡ Ok q → StructWent bodies p q
      of h =
          let step = answered (structure_declared s.name.id s.name.place view p.scope) (λ y. Ok (record (before.1) { scope = y.1; structs = p.structs ++ structure_form s d.members.0 ∷ [] })) q h in
          let same : ◌≡◌ {A = ℕ × Scope} (number, scope) step.value = numbered_is number s.name.place scope step.value step.gave in
          subst (StructWent bodies p) (ap (λ (z : ℕ × Scope). record (before.1) { scope = z.1; structs = p.structs ++ structure_form s d.members.0 ∷ [] }) same
          ∙ same_answer (record (before.1) { scope = step.value.1; structs = p.structs ++ structure_form s d.members.0 ∷ [] }) q step.behind) went_behind

pub struct_went : (bodies : List Bool) (s : StructDefinition) (p q : ProgressView) → IsUnderway bodies p → with_structure s p ≡ Ok q → StructWent bodies p q
struct_went bodies s p q under e =
    let found = answered (found_structure s p) (named_structure s) q e in
    named_went bodies s p under found.value (defined_is bodies s p found.value under found.gave) q found.behind

-- the bodies that are to come come behind it
pub bodies_come_then : (bodies : List Bool) (s : StructDefinition) (ds : List Definition) (p q : ProgressView) → BodiesCome bodies p (definition.Struct s ∷ ds) → StructWent bodies p q → BodiesCome bodies q ds
bodies_come_then bodies s ds p q come went = record {
  flagged = λ k e. ⊎_elim (λ old. inl (old.0, went.keeps k old.0 old.1)) (λ comes. inr (later k comes)) (come.flagged k e);
  pending = λ m d e none.
      let old = come.pending m d (subst (λ (ds : List DeclaredView). slice_get ds m ≡ Some d) went.declared e) none in
      record { name = old.name; means = went.keeps old.name m old.means; comes = later old.name old.comes };
}
  where
    later : (k : ℕ) → Comes k (definition.Struct s ∷ ds) → Comes k ds
    later k comes = ⊎_elim (λ here. absurd here) (λ then_it. then_it) comes
