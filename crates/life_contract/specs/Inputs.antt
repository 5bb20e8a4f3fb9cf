-- The inputs of a signature: the pointers that a caller hands over, by parameter and then by member.
use Rattle.std.specs.Prelude.{ℕ, Bool, false, not, ◌&&◌, List, Option, Some, None, length, map, slice_get}
use Rattle.life_types.specs.Trees.{holds_owner}
use Rattle.life_types.specs.TypeTests.{is_constant, is_raw}
use Rattle.life_types.specs.Types.{Types}
use Rattle.life_types.specs.declared.place.Place.{Place}
use Rattle.life_core.specs.declared.program.Local.{Local}
use Rattle.life_core.specs.declared.program.LocalKind.TheVariants.{Object}
use Rattle.life_pset.specs.Elements.{Input, inputs_from}
use Rattle.life_pset.specs.Shapes.{target_type, tree_if, ty_if}
use Rattle.life_pset.specs.declared.element.Root.{Root}
use Rattle.life_pset.specs.declared.element.Root.TheVariants as root
use Rattle.life_contract.specs.Signatures.{Signature}
use Rattle.life_contract.specs.declared.param.Param.{Param}

-- a parameter as a local of its function
abbrev pub parameter_local : Place → Param → Local
parameter_local place p = record { name = p.name; ty = p.ty; kind = Object; place = place; nonnull = p.nonnull; keeps = p.keeps }

abbrev pub inputs_of_signature : Types → Signature → List Input
inputs_of_signature types sig = inputs_from types (length sig.parameters) 0 (map (parameter_local sig.place) sig.parameters)

-- the parameter of an input
abbrev pub parameter_in : Root → ℕ
parameter_in (root.Local x) = x
parameter_in (root.Input parameter member) = parameter

abbrev pub parameter_number : Input → ℕ
parameter_number i = parameter_in i.root

abbrev pub input_parameter : Signature → Input → Option Param
input_parameter sig i = slice_get sig.parameters (parameter_number i)

-- ---- null

-- only a raw pointer may be null, and not where its parameter says so
abbrev pub may_be_null : Types → (nonnull : Bool) → Input → Bool
may_be_null types nonnull i = is_raw (ty_if types i.ty) && not nonnull

abbrev pub bears_nonnull : Option Param → Bool
bears_nonnull None = false
bears_nonnull (Some p) = p.nonnull

abbrev pub admits_null : Types → Signature → Input → Bool
admits_null types sig i = may_be_null types (bears_nonnull (input_parameter sig i)) i

-- ---- changes

abbrev pub bears_keeps : Option Param → Bool
bears_keeps None = false
bears_keeps (Some p) = p.keeps

-- the callee may change an owner behind the input
abbrev pub is_mutating : Types → Signature → Input → Bool
is_mutating types sig i = not (is_constant (ty_if types i.ty)) && (holds_owner (tree_if types (target_type types i.ty)) && not (bears_keeps (input_parameter sig i)))
