-- Signatures by which nothing but values goes in and comes out.
use Rattle.std.specs.Prelude.{Bool, true, false, IsTrue, ◌&&◌, List}
use Rattle.std.specs.List.{list_all}
use Rattle.life_types.specs.Types.{Types, class_at}
use Rattle.life_types.specs.declared.ty.Class.{Class}
use Rattle.life_types.specs.declared.ty.Class.TheVariants.{Value, Pointer, Owner, Aggregate}
use Rattle.life_types.specs.declared.ty.TyId.{TyId}
use Rattle.life_contract.specs.Signatures.{Signature}
use Rattle.life_contract.specs.declared.param.Param.{Param}

abbrev pub is_value_class : Class → Bool
is_value_class Value = true
is_value_class Pointer = false
is_value_class Owner = false
is_value_class Aggregate = false

-- a value, or void
abbrev pub is_value_type : Types → TyId → Bool
is_value_type types id = is_value_class (class_at types id)

abbrev pub is_value_parameter : Types → Param → Bool
is_value_parameter types p = is_value_type types p.ty

abbrev pub is_value_signature : Types → Signature → Bool
is_value_signature types sig = list_all (is_value_parameter types) sig.parameters && is_value_type types sig.result

abbrev pub are_value_signatures : Types → List Signature → Bool
are_value_signatures types sigs = list_all (is_value_signature types) sigs

abbrev pub AreValueSignatures : Types → List Signature → Type 0
AreValueSignatures types sigs = IsTrue (are_value_signatures types sigs)
