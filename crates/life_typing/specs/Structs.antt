-- Structs.
use Rattle.std.specs.Prelude.{Bool, true, false, not, if◌then◌else◌, List, [], ◌∷◌, ◌++◌, Option, Some, None, Ok, Err}
use Rattle.std.specs.List.{list_any}
use Rattle.life_types.specs.Types.{Types}
use Rattle.life_types.specs.contracts.ty.NameIdPartialEq.TheImpl.{ghosts as names}
use Rattle.life_types.specs.declared.place.Place.{Place}
use Rattle.life_types.specs.declared.ty.NameId.{NameId}
use Rattle.life_types.specs.declared.ty.TyId.{TyId}
use Rattle.life_tree.specs.declared.identifier.Identifier.{Identifier}
use Rattle.life_tree.specs.declared.program.Member.{Member}
use Rattle.life_tree.specs.declared.program.StructDefinition.{StructDefinition}
use Rattle.life_tree.specs.declared.type_name.Suffix.{Suffix}
use Rattle.life_tree.specs.declared.type_name.Suffix.TheVariants as suffix
use Rattle.life_tree.specs.declared.type_name.TypeName.{TypeName, out-TypeName}
use Rattle.life_typing.specs.Answers.{Answer, Kept, ◌>>◌, ill}
use Rattle.life_names.specs.Checked.{Checked, broken}
use Rattle.life_names.specs.Environment.{Scope, StructureView, structure_declared}
use Rattle.life_typing.specs.Parameters.{is_seen}
use Rattle.life_typing.specs.Pointing.{pointing_at, pointing_of_both, points_nowhere}
use Rattle.life_typed.specs.Programs.{StructForm}
use Rattle.life_typing.specs.Progress.{ProgressView}
use Rattle.life_typing.specs.StructTypes.{structure_added}
use Rattle.life_names.specs.WrittenTypes.{is_const_value, written, written_base}
use Rattle.life_names.specs.declared.environment.MemberType.{MemberType}
use Rattle.life_names.specs.declared.fault.IllKind.{IllKind}
use Rattle.life_names.specs.declared.fault.IllKind.TheVariants as kinds
use Rattle.life_typing.specs.declared.pointing.Pointing.{Pointing}

-- the rule that is broken at this place unless this holds
abbrev pub unless : Bool → IllKind → Place → Kept
unless true kind place = Ok tt
unless false kind place = Err (ill kind place)

-- ---- members

abbrev pub is_reference_with : Option Suffix → Bool
is_reference_with None = false
is_reference_with (Some (suffix.Pointer at)) = false
is_reference_with (Some (suffix.Reference at)) = true

abbrev pub is_reference : TypeName → Bool
is_reference t = is_reference_with (out-TypeName t).suffix

-- a member is no reference, whether what it would refer to is plain or not
abbrev pub reference_member : Member → Scope → Types → Checked TyId
reference_member m scope types = written_base m.ty m.name.place scope types >> λ x. broken kinds.WrongType m.name.place

-- .. and not `const` as a value
abbrev pub value_member : Member → Scope → Types → Checked TyId
value_member m scope types =
    written m.ty m.name.place scope types >> λ x. unless (not (is_const_value m.ty)) kinds.WrongType m.name.place >> λ _. Ok x

abbrev pub member_type : Member → Scope → Types → Checked TyId
member_type m scope types = if is_reference m.ty then reference_member m scope types else value_member m scope types

-- a member's name is another one than those before it
abbrev pub name_added : List NameId → Identifier → Answer (List NameId)
name_added before name = unless (not (list_any (names.eq name.id) before)) kinds.Redeclared name.place >> λ _. Ok (before ++ name.id ∷ [])

-- behind members with these names. The struct isn't visible in its members, and their names are their own
abbrev pub members_behind : List NameId → List Member → Scope → Types → Checked (List MemberType)
members_behind before [] scope types = Ok ([], types)
members_behind before (m ∷ ms) scope types =
    member_type m scope types >> λ x. name_added before m.name >> λ seen. members_behind seen ms scope x.1 >> λ xs.
    Ok (record { name = m.name.id; ty = x.0 } ∷ xs.0, xs.1)

abbrev pub member_types : List Member → Scope → Types → Checked (List MemberType)
member_types ms scope types = members_behind [] ms scope types

-- .. and then those
abbrev pub with_found : List MemberType → Checked (List MemberType) → Checked (List MemberType)
with_found before (Ok x) = Ok (before ++ x.0, x.1)
with_found before (Err e) = Err e

abbrev pub types_of : List MemberType → List TyId
types_of [] = []
types_of (m ∷ ms) = m.ty ∷ types_of ms

abbrev pub names_of : List MemberType → List NameId
names_of [] = []
names_of (m ∷ ms) = m.name ∷ names_of ms

-- what these and more members together hold of pointers
abbrev pub pointing_with : Types → List Pointing → Pointing → List MemberType → Pointing
pointing_with types structs before [] = before
pointing_with types structs before (m ∷ ms) = pointing_with types structs (pointing_of_both before (pointing_at types structs m.ty)) ms

abbrev pub pointing_of_members : Types → List Pointing → List MemberType → Pointing
pointing_of_members types structs ms = pointing_with types structs points_nowhere ms

-- ---- a struct

abbrev pub added_unless_empty : Place → List TyId → Types → Checked TyId
added_unless_empty place [] types = broken kinds.Unsupported place
added_unless_empty place (id ∷ ids) types = structure_added place (id ∷ ids) types

-- one with these members; without any it isn't served
abbrev pub structure_with : Place → List MemberType → ProgressView → Answer (StructureView × ProgressView)
structure_with place ms p =
    added_unless_empty place (types_of ms) p.types >> λ y.
    Ok (record { ty = y.0; members = ms }, record p { types = y.1; pointing = p.pointing ++ pointing_of_members p.types p.pointing ms ∷ [] })

-- a struct, and what it adds, its name aside
abbrev pub found_structure : StructDefinition → ProgressView → Answer (StructureView × ProgressView)
found_structure s p =
    unless (not (is_seen p.scope s.name.id)) kinds.Redeclared s.name.place >> λ _.
    member_types s.members.items p.scope p.types >> λ x. structure_with s.name.place x.0 (record p { types = x.1 })

abbrev pub structure_form : StructDefinition → List MemberType → StructForm
structure_form s ms = record { name = s.name.id; place = s.name.place; members = names_of ms }

abbrev pub named_structure : StructDefinition → StructureView × ProgressView → Answer ProgressView
named_structure s x =
    structure_declared s.name.id s.name.place x.0 x.1.scope >> λ y.
    Ok (record x.1 { scope = y.1; structs = x.1.structs ++ structure_form s x.0.members ∷ [] })

-- a struct, which is visible behind itself
abbrev pub with_structure : StructDefinition → ProgressView → Answer ProgressView
with_structure s p = found_structure s p >> named_structure s
