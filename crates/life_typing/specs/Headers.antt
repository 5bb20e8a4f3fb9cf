-- The types of a function's header.
use Rattle.std.specs.Prelude.{◌≡◌, List, [], ◌∷◌, ◌++◌, Option, Some, None, Ok, Err, if◌then◌else◌}
use Rattle.life_types.specs.Types.{Types}
use Rattle.life_types.specs.declared.place.Place.{Place}
use Rattle.life_types.specs.declared.ty.TyId.{TyId}
use Rattle.life_tree.specs.declared.function.Function.{Function}
use Rattle.life_tree.specs.declared.function.Parameter.{Parameter}
use Rattle.life_tree.specs.declared.function.ResultType.{ResultType}
use Rattle.life_tree.specs.declared.function.ResultType.TheVariants as returned_type
use Rattle.life_tree.specs.declared.type_name.TypeName.{TypeName}
use Rattle.life_typing.specs.Answers.{ill}
use Rattle.life_names.specs.Checked.{Checked, ◌>>=◌, broken, Ill}
use Rattle.life_names.specs.Environment.{Scope, meaning, seen_as}
use Rattle.life_typing.specs.Pointing.{pointing_at, reach_at}
use Rattle.life_names.specs.WrittenTypes.{is_const_value, written}
use Rattle.life_names.specs.declared.environment.Entity.{Entity}
use Rattle.life_names.specs.declared.environment.Entity.TheVariants as entity
use Rattle.life_names.specs.declared.fault.IllKind.TheVariants as kinds
use Rattle.life_typing.specs.declared.headers.Broken.{Broken}
use Rattle.life_typing.specs.declared.headers.FoundType.{FoundType}
use Rattle.life_typing.specs.declared.headers.FoundType.TheVariants as found
use Rattle.life_typing.specs.declared.headers.HeaderTypes.{HeaderTypes}
use Rattle.life_typing.specs.declared.headers.HeaderTypes.TheVariants as types_read
use Rattle.life_typing.specs.declared.headers.KnownTypes.{KnownTypes}
use Rattle.life_typing.specs.declared.headers.Returned.{Returned}
use Rattle.life_typing.specs.declared.pointing.Pointing.{Pointing}
use Rattle.life_typing.specs.declared.pointing.Reach.{Reach}
use Rattle.life_typed.specs.declared.basic.TheConstants.{VOID}

-- ---- the result

abbrev pub not_const_value : TypeName → Place → TyId × Types → Checked TyId
not_const_value ty place x = if is_const_value ty then broken kinds.WrongType place else Ok x

-- a type that is written, and isn't `const` as a value
abbrev pub written_result : TypeName → Place → Scope → Types → Checked TyId
written_result ty place scope types = written ty place scope types >>= not_const_value ty place

abbrev pub result_type : ResultType → Place → Scope → Types → Checked TyId
result_type (returned_type.Void at) place scope types = Ok (VOID, types)
result_type (returned_type.Type ty) place scope types = written_result ty place scope types

-- ---- all types

-- the type of a result, and what it holds of pointers
abbrev pub returned_as : Types → List Pointing → TyId → Returned
returned_as types structs id = record { ty = id; pointing = pointing_at types structs id }

-- the types of parameters, and what the rules on attributes ask of them
pub record Known : Type 0 where
  pub types : List TyId
  pub reaches : List Reach

abbrev pub nothing_known : Known
nothing_known = record { types = []; reaches = [] }

abbrev pub with_known : Types → List Pointing → TyId → Known → Known
with_known types structs id known = record { types = known.types ++ id ∷ []; reaches = known.reaches ++ reach_at types structs id ∷ [] }

-- the types of a header: of the result and the parameters, with the table then, or those before the first that is ill, with the rule that it breaks
pub data Header : Type 0 where
  sound : (returned : Returned) → (parameters : Known) → Types → Header
  ill_at : (returned : Option Returned) → (parameters : Known) → Ill → Header

abbrev pub with_next : List Pointing → Returned → Known → Checked TyId → (Known → Types → Header) → Header
with_next structs returned before (Ok x) more = more (with_known x.1 structs x.0 before) x.1
with_next structs returned before (Err e) more = ill_at (Some returned) before e

-- behind these
abbrev pub parameter_types : List Pointing → Returned → Known → List Parameter → Scope → Types → Header
parameter_types structs returned before [] scope types = sound returned before types
parameter_types structs returned before (p ∷ ps) scope types =
    with_next structs returned before (written p.ty p.name.place scope types) (λ known types. parameter_types structs returned known ps scope types)

abbrev pub seen_unless : Entity → Function → Scope → Scope
seen_unless entity.Unseen f scope = seen_as f.name.id (entity.Function 0) scope
seen_unless (entity.Structure number) f scope = scope
seen_unless (entity.Function number) f scope = scope
seen_unless (entity.Local number) f scope = scope

-- the function is visible, if its name means nothing else
abbrev pub function_seen : Function → Scope → Scope
function_seen f scope = seen_unless (meaning scope f.name.id) f scope

abbrev pub behind_result : List Pointing → Checked TyId → Function → Scope → Header
behind_result structs (Ok x) f scope = parameter_types structs (returned_as x.1 structs x.0) nothing_known f.parameters.items scope x.1
behind_result structs (Err e) f scope = ill_at None nothing_known e

-- the function isn't visible in the type of its result, and is in those of its parameters
abbrev pub header_types : List Pointing → Function → Scope → Types → Header
header_types structs f scope types = behind_result structs (result_type f.returned f.name.place scope types) f (function_seen f scope)

-- ---- what a function of the program returned, against this

abbrev pub ill_view : Broken → Ill
ill_view b = ill b.kind b.place

abbrev pub known_view : KnownTypes → Known
known_view k = record { types = k.types.items; reaches = k.reaches.items }

abbrev pub Finds : FoundType → Types → Checked TyId → Type 0
Finds (found.Sound id) after checked = checked ≡ Ok (id, after)
Finds (found.Ill b) after checked = checked ≡ Err (ill_view b)

abbrev pub Reads : HeaderTypes → Types → Header → Type 0
Reads (types_read.Sound returned parameters) after header = header ≡ sound returned (known_view parameters) after
Reads (types_read.Ill returned parameters broken) after header = header ≡ ill_at returned (known_view parameters) (ill_view broken)
