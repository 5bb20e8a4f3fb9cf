-- The types and structs that a function names, and tables that have these alike.
use Rattle.std.specs.Prelude.{◌≡◌, ℕ, List, Option, Some, Contains, map, option_map, slice_get}
use Rattle.life_types.specs.Pointees.{ty_of}
use Rattle.life_types.specs.Trees.{IsOrdered, members_at}
use Rattle.life_types.specs.Types.{Types}
use Rattle.life_types.specs.declared.ty.Ty.{Ty}
use Rattle.life_types.specs.declared.ty.Ty.TheVariants as ty
use Rattle.life_types.specs.declared.ty.TyId.{TyId}
use Rattle.life_core.specs.Function.{Function}
use Rattle.life_core.specs.declared.program.Local.{Local}
use Rattle.life_contract.specs.Signatures.{Signature}
use Rattle.life_contract.specs.declared.param.Param.{Param}
use Rattle.life_modular.specs.Renumbering.{Renumbering, renumbered_type}

-- the numbers of types, and those of structs
pub record Vocabulary : Type 0 where
  pub types : List TyId
  pub structs : List ℕ

-- what the type is made of is in the vocabulary
abbrev pub HasPartsIn : Vocabulary → Ty → Type 0
HasPartsIn v (ty.Vector element) = Contains v.types element
HasPartsIn v (ty.Unique target) = Contains v.types target
HasPartsIn v (ty.Raw target constant) = Contains v.types target
HasPartsIn v (ty.Reference target constant) = Contains v.types target
HasPartsIn v (ty.Iterator target constant) = Contains v.types target
HasPartsIn v (ty.Span target constant) = Contains v.types target
HasPartsIn v (ty.Struct number) = Contains v.structs number
HasPartsIn v _ = Unit {0}

-- both tables have the vocabulary's types and structs alike, in those under new numbers, and the vocabulary has what these are made of;
-- what it has two numbers for keeps two numbers
pub record HaveAlike (v : Vocabulary) (new : Renumbering) (these those : Types) : Type 0 where
  pub types : (id : TyId) → Contains v.types id → slice_get those.types (new.type id).0 ≡ option_map (renumbered_type new) (slice_get these.types id.0)
  pub structs : (number : ℕ) → Contains v.structs number → slice_get those.structs (new.struct number) ≡ option_map (map new.type) (slice_get these.structs number)
  pub parts : (id : TyId) → Contains v.types id → HasPartsIn v (ty_of these id)
  pub members : (number : ℕ) (id : TyId) → Contains v.structs number → Contains (members_at these number) id → Contains v.types id
  pub apart : (a b : TyId) → Contains v.types a → Contains v.types b → new.type a ≡ new.type b → a ≡ b
  pub structs_apart : (a b : ℕ) → Contains v.structs a → Contains v.structs b → new.struct a ≡ new.struct b → a ≡ b
  pub ordered : IsOrdered these
  pub others_ordered : IsOrdered those

-- the types that a function names, by its locals and its result, are in the vocabulary
pub record Names (v : Vocabulary) (f : Function) : Type 0 where
  pub locals : (l : Local) → Contains f.locals l → Contains v.types l.ty
  pub result : Contains v.types f.result

-- .. and those that a signature names, by its parameters and its result
pub record HeadNames (v : Vocabulary) (sig : Signature) : Type 0 where
  pub parameters : (p : Param) → Contains sig.parameters p → Contains v.types p.ty
  pub result : Contains v.types sig.result

-- .. of a function that is called, if one is
abbrev pub CalleeNames : Vocabulary → Option Signature → Type 0
CalleeNames v callee = (sig : Signature) → callee ≡ Some sig → HeadNames v sig
