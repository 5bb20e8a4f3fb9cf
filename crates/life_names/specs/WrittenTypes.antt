-- The types that are written. A type's own faults stand at the name that is declared with it, an unknown struct's at its name.
use Rattle.std.specs.Prelude.{Bool, true, false, ◌&&◌, Option, Some, None, Ok, if◌then◌else◌, is_some, is_none}
use Rattle.life_types.specs.Trees.{is_plain, tree_at}
use Rattle.life_types.specs.Types.{Types}
use Rattle.life_types.specs.declared.place.Place.{Place}
use Rattle.life_types.specs.declared.ty.Ty.{Ty}
use Rattle.life_types.specs.declared.ty.Ty.TheVariants as ty
use Rattle.life_types.specs.declared.ty.TyId.{TyId}
use Rattle.life_tree.specs.declared.identifier.Identifier.{Identifier}
use Rattle.life_tree.specs.declared.type_name.Base.TheFolds.{fold-Base, fold-TypeArgument, fold-TypeName}
use Rattle.life_tree.specs.declared.type_name.Base.TheOpen as type_open
use Rattle.life_tree.specs.declared.type_name.Base.{Base}
use Rattle.life_tree.specs.declared.type_name.IteratorKind.{IteratorKind}
use Rattle.life_tree.specs.declared.type_name.IteratorKind.TheVariants as kind_of_iterator
use Rattle.life_tree.specs.declared.type_name.IteratorName.{IteratorName}
use Rattle.life_tree.specs.declared.type_name.Suffix.{Suffix}
use Rattle.life_tree.specs.declared.type_name.Suffix.TheVariants as suffix
use Rattle.life_tree.specs.declared.type_name.TypeArgument.{TypeArgument}
use Rattle.life_tree.specs.declared.type_name.TypeName.{TypeName, out-TypeName}
use Rattle.life_typed.specs.declared.basic.TheConstants as types_without_parts
use Rattle.life_names.specs.Checked.{Checked, ◌>>=◌, broken}
use Rattle.life_names.specs.Environment.{Scope, StructureView, meaning, structure}
use Rattle.life_typed.specs.BaseTypes.{type_at}
use Rattle.life_names.specs.Table.{type_added}
use Rattle.life_names.specs.declared.environment.Entity.{Entity}
use Rattle.life_names.specs.declared.environment.Entity.TheVariants as entity
use Rattle.life_names.specs.declared.fault.IllKind.{IllKind}
use Rattle.life_names.specs.declared.fault.IllKind.TheVariants as kinds
use Rattle.life_names.specs.declared.written.Written.{Written}

-- what a type name means where it stands in the declaration of a name at this place
abbrev pub Meaning : Type 0
Meaning = Place → Scope → Types → Checked TyId

-- .. whether `const` stands first in it, and what it means without the `*` or `&` behind it
pub record NameMeaning : Type 0 where
  pub constant : Bool
  pub base : Meaning
  pub written : Meaning

-- ---- what a type may be made of

-- what is held or pointed to is plain
abbrev pub target_fault : Types → TyId → Option IllKind
target_fault types id = if is_plain (tree_at types id) then None else Some kinds.NotPlain

-- .. and has no `const` of its own where a `std::vector` or `std::unique_ptr` holds it
abbrev pub held_fault : Bool → Types → TyId → Option IllKind
held_fault true types id = Some kinds.WrongType
held_fault false types id = target_fault types id

abbrev pub element_fault_of : Ty → Option IllKind
element_fault_of ty.Bool = Some kinds.Unsupported
element_fault_of _ = None

abbrev pub or_fault : Option IllKind → Option IllKind → Option IllKind
or_fault None second = second
or_fault (Some kind) second = Some kind

-- .. and a vector holds no `bool`
abbrev pub element_fault : Bool → Types → TyId → Option IllKind
element_fault constant types id = or_fault (held_fault constant types id) (element_fault_of (type_at types id))

-- the type, where no rule is broken
abbrev pub sound : Option IllKind → Place → Ty → Types → Checked TyId
sound None place t types = type_added place t types
sound (Some kind) place t types = broken kind place

-- ---- one rule of the grammar each

abbrev pub struct_type : Option StructureView → Place → Types → Checked TyId
struct_type None place types = broken kinds.UnknownName place
struct_type (Some s) place types = Ok (s.ty, types)

abbrev pub type_meant : Entity → Place → Scope → Types → Checked TyId
type_meant entity.Unseen place scope types = broken kinds.UnknownName place
type_meant (entity.Structure number) place scope types = struct_type (structure scope number) place types
type_meant (entity.Function number) place scope types = broken kinds.WrongType place
type_meant (entity.Local number) place scope types = broken kinds.WrongType place

-- the struct with this name
abbrev pub named : Identifier → Scope → Types → Checked TyId
named name scope types = type_meant (meaning scope name.id) name.place scope types

abbrev pub is_constant : IteratorKind → Bool
is_constant kind_of_iterator.Mutable = false
is_constant kind_of_iterator.Constant = true

abbrev pub vector_type : Option IteratorName → TyId → Ty
vector_type None element = ty.Vector element
vector_type (Some name) element = ty.Iterator element (is_constant name.kind)

abbrev pub vector : NameMeaning → Option IteratorName → Meaning
vector element iterator place scope types =
    element.written place scope types >>= (λ x. sound (element_fault element.constant x.1 x.0) place (vector_type iterator x.0) x.1)

abbrev pub unique : NameMeaning → Meaning
unique element place scope types =
    element.written place scope types >>= (λ x. sound (held_fault element.constant x.1 x.0) place (ty.Unique x.0) x.1)

abbrev pub span : NameMeaning → Meaning
span element place scope types =
    element.written place scope types >>= (λ x. sound (target_fault x.1 x.0) place (ty.Span x.0 element.constant) x.1)

abbrev pub base_step : type_open.Base-F Meaning NameMeaning NameMeaning → Meaning
base_step (type_open.Bool at) place scope types = Ok (types_without_parts.BOOL, types)
base_step (type_open.Char at) place scope types = Ok (types_without_parts.CHAR, types)
base_step (type_open.Int at) place scope types = Ok (types_without_parts.INT, types)
base_step (type_open.Long at) place scope types = Ok (types_without_parts.LONG, types)
base_step (type_open.Named name) place scope types = named name scope types
base_step (type_open.SizeT name) place scope types = Ok (types_without_parts.SIZE, types)
base_step (type_open.Text name) place scope types = Ok (types_without_parts.TEXT, types)
base_step (type_open.View name) place scope types = Ok (types_without_parts.VIEW, types)
base_step (type_open.Vector name element iterator) place scope types = vector element iterator place scope types
base_step (type_open.UniquePtr name element) place scope types = unique element place scope types
base_step (type_open.Span name element) place scope types = span element place scope types

-- a type with what stands behind it
abbrev pub suffixed : Bool → Option Suffix → Place → TyId → Types → Checked TyId
suffixed constant None place id types = Ok (id, types)
suffixed constant (Some (suffix.Pointer at)) place id types = sound (target_fault types id) place (ty.Raw id constant) types
suffixed constant (Some (suffix.Reference at)) place id types = sound (target_fault types id) place (ty.Reference id constant) types

abbrev pub type_step : type_open.TypeName-F Meaning NameMeaning NameMeaning → NameMeaning
type_step t = record {
  constant = is_some t.constant;
  base = t.base;
  written = λ place scope types. t.base place scope types >>= (λ x. suffixed (is_some t.constant) t.suffix place x.0 x.1);
}

abbrev pub argument_step : type_open.TypeArgument-F Meaning NameMeaning NameMeaning → NameMeaning
argument_step a = a.ty.value

-- ---- types

unfoldable pub base_meaning : Base → Meaning
base_meaning = fold-Base Meaning NameMeaning NameMeaning base_step argument_step type_step

unfoldable pub argument_meaning : TypeArgument → NameMeaning
argument_meaning = fold-TypeArgument Meaning NameMeaning NameMeaning base_step argument_step type_step

unfoldable pub type_meaning : TypeName → NameMeaning
type_meaning = fold-TypeName Meaning NameMeaning NameMeaning base_step argument_step type_step

-- the type that is written in the declaration of a name at this place
abbrev pub written : TypeName → Place → Scope → Types → Checked TyId
written t place scope types = (type_meaning t).written place scope types

-- .. without what stands behind it
abbrev pub written_base : TypeName → Place → Scope → Types → Checked TyId
written_base t place scope types = (type_meaning t).base place scope types

-- .. as the element of a `std::vector` or what stands in its place
abbrev pub written_argument : TypeArgument → Place → Scope → Types → Checked TyId
written_argument a place scope types = (argument_meaning a).written place scope types

-- ---- what is declared with a type

-- `const` belongs to what is declared, and not to what it points or refers to
abbrev pub is_const_value : TypeName → Bool
is_const_value t = is_some (out-TypeName t).constant && is_none (out-TypeName t).suffix

abbrev pub with_const : Bool → TyId × Types → Checked Written
with_const constant x = Ok (record { ty = x.0; constant = constant }, x.1)

-- the type of a variable or parameter, and whether it is `const` itself
abbrev pub written_local : TypeName → Place → Scope → Types → Checked Written
written_local t place scope types = written t place scope types >>= with_const (is_const_value t)

abbrev pub checked_element : Option IllKind → Place → TyId × Types → Checked TyId
checked_element None place x = Ok x
checked_element (Some kind) place x = broken kind place

-- what `std::make_unique` makes, where that stands at this place
abbrev pub made_element : TypeArgument → Place → Scope → Types → Checked TyId
made_element a place scope types =
    written_argument a place scope types >>= (λ x. checked_element (held_fault (argument_meaning a).constant x.1 x.0) place x)
