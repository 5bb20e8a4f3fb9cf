-- Names in expressions: variables, functions and structs.
use Rattle.std.specs.Prelude.{ℕ, Option, None, Some, Ok}
use Rattle.life_types.specs.declared.place.Place.{Place}
use Rattle.life_tree.specs.declared.identifier.Identifier.{Identifier}
use Rattle.life_typed.specs.declared.typed_program.TypedLocal.{TypedLocal}
use Rattle.life_names.specs.Environment.{Scope, SignatureView, StructureView, function, local, meaning, structure}
use Rattle.life_names.specs.Found.{Found, not_found}
use Rattle.life_names.specs.declared.environment.Entity.{Entity}
use Rattle.life_names.specs.declared.environment.Entity.TheVariants as entity
use Rattle.life_names.specs.declared.fault.IllKind.TheVariants as kinds

-- what has this number, if there is one
abbrev pub numbered_as : {A : Type 0} → ℕ → Place → Option A → Found (ℕ × A)
numbered_as number place None = not_found kinds.UnknownName place
numbered_as number place (Some x) = Ok (number, x)

-- ---- what a name means, where it is to mean ..

-- .. a variable or parameter
abbrev pub local_meant : Entity → Place → Scope → Found (ℕ × TypedLocal)
local_meant entity.Unseen place scope = not_found kinds.UnknownName place
local_meant (entity.Structure number) place scope = not_found kinds.WrongType place
local_meant (entity.Function number) place scope = not_found kinds.WrongType place
local_meant (entity.Local number) place scope = numbered_as number place (local scope number)

abbrev pub local_named : Identifier → Scope → Found (ℕ × TypedLocal)
local_named name scope = local_meant (meaning scope name.id) name.place scope

-- .. a function
abbrev pub function_meant : Entity → Place → Scope → Found (ℕ × SignatureView)
function_meant entity.Unseen place scope = not_found kinds.UnknownName place
function_meant (entity.Structure number) place scope = not_found kinds.WrongType place
function_meant (entity.Function number) place scope = numbered_as number place (function scope number)
function_meant (entity.Local number) place scope = not_found kinds.WrongType place

abbrev pub function_named : Identifier → Scope → Found (ℕ × SignatureView)
function_named name scope = function_meant (meaning scope name.id) name.place scope

-- .. a struct
abbrev pub structure_meant : Entity → Place → Scope → Found (ℕ × StructureView)
structure_meant entity.Unseen place scope = not_found kinds.UnknownName place
structure_meant (entity.Structure number) place scope = numbered_as number place (structure scope number)
structure_meant (entity.Function number) place scope = not_found kinds.WrongType place
structure_meant (entity.Local number) place scope = not_found kinds.WrongType place

abbrev pub structure_named : Identifier → Scope → Found (ℕ × StructureView)
structure_named name scope = structure_meant (meaning scope name.id) name.place scope
