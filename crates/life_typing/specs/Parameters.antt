-- The names of parameters.
use Rattle.std.specs.Prelude.{ℕ, ◌+◌, Bool, true, false, List, [], ◌∷◌, ◌++◌, Option, Some, None, Ok, Err, length, nat_lt, slice_get, unwrap_or, if◌then◌else◌}
use Rattle.life_types.specs.declared.ty.NameId.{NameId}
use Rattle.life_types.specs.declared.ty.TyId.{TyId}
use Rattle.life_tree.specs.declared.function.Parameter.{Parameter}
use Rattle.life_tree.specs.declared.identifier.Identifier.{Identifier}
use Rattle.life_typed.specs.declared.typed_program.TypedLocal.{TypedLocal}
use Rattle.life_typing.specs.Answers.{Answer, Kept, ◌>>◌, ill}
use Rattle.life_typing.specs.Attributes.{parameter_attributes}
use Rattle.life_names.specs.Environment.{Scope, meaning, declared, seen_as}
use Rattle.life_names.specs.WrittenTypes.{is_const_value}
use Rattle.life_names.specs.declared.environment.Entity.{Entity}
use Rattle.life_names.specs.declared.environment.Entity.TheVariants as entity
use Rattle.life_names.specs.declared.fault.IllKind.TheVariants as kinds
use Rattle.life_typing.specs.declared.pointing.Reach.{Reach}
use Rattle.life_typed.specs.declared.basic.TheConstants.{VOID}

abbrev pub is_something : Entity → Bool
is_something entity.Unseen = false
is_something (entity.Structure number) = true
is_something (entity.Function number) = true
is_something (entity.Local number) = true

-- a name means something here
abbrev pub is_seen : Scope → NameId → Bool
is_seen scope name = is_something (meaning scope name)

abbrev pub parameter_local : Parameter → TyId → TypedLocal
parameter_local p ty = record { name = p.name.id; place = p.name.place; ty = ty; constant = is_const_value p.ty }

-- where a type isn't known the header is ill, and nothing asks for it
abbrev pub known_or_void : List TyId → ℕ → TyId
known_or_void known index = unwrap_or (slice_get known index) VOID

-- whether each parameter's name was visible before it, and what is visible behind them, where their types are given as far as they are known
abbrev pub declared_behind : List Bool → List TyId → List Parameter → Scope → Answer (List Bool × Scope)
declared_behind hides known [] scope = Ok (hides, scope)
declared_behind hides known (p ∷ ps) scope =
    declared (parameter_local p (known_or_void known (length hides))) scope >> λ x. declared_behind (hides ++ is_seen scope p.name.id ∷ []) known ps x.1

abbrev pub parameters_declared : List TyId → List Parameter → Scope → Answer (List Bool × Scope)
parameters_declared known ps scope = declared_behind [] known ps scope

-- a parameter's name hides no visible one
abbrev pub parameter_name : Option Bool → Identifier → Kept
parameter_name (Some true) name = Err (ill kinds.Redeclared name.place)
parameter_name (Some false) name = Ok tt
parameter_name None name = Ok tt

abbrev pub known_parameter : Scope → Parameter → Reach → Option Bool → Kept
known_parameter scope p reach hides = parameter_attributes scope (Some reach) p.attributes.items >> λ _. parameter_name hides p.name

-- .. whether its type is known or not
abbrev pub parameter_with : Scope → Parameter → Option Reach → Option Bool → Kept
parameter_with scope p None hides = parameter_attributes scope None p.attributes.items
parameter_with scope p (Some reach) hides = known_parameter scope p reach hides

-- .. from this one on, which has this index; the first whose type isn't known is the last that has rules
abbrev pub parameter_rules : Scope → List Reach → List Bool → ℕ → List Parameter → Kept
parameter_rules scope known hides index [] = Ok tt
parameter_rules scope known hides index (p ∷ ps) =
    if nat_lt (length known) index then Ok tt
    else (parameter_with scope p (slice_get known index) (slice_get hides index) >> λ _. parameter_rules scope known hides (index + 1) ps)

-- their names mean nothing from here on
abbrev pub parameters_forgotten : List Parameter → Scope → Scope
parameters_forgotten [] scope = scope
parameters_forgotten (p ∷ ps) scope = parameters_forgotten ps (seen_as p.name.id entity.Unseen scope)
