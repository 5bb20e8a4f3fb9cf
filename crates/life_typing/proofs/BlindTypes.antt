-- What a written type means is the same when the type is settled.
use Rattle.std.proofs.Common.{◌≡◌, refl}
use Rattle.std.specs.Prelude.{◌&&◌, is_none, is_some}
use Rattle.life_types.specs.Types.{Types}
use Rattle.life_types.specs.declared.place.Place.{Place}
use Rattle.life_tree.specs.declared.type_name.TypeArgument.{TypeArgument}
use Rattle.life_tree.specs.declared.type_name.TypeName.{TypeName}
use Rattle.life_names.specs.Environment.{Scope}
use Rattle.life_names.specs.WrittenTypes.{Meaning, NameMeaning, base_step, argument_step, type_step, argument_meaning, type_meaning, is_const_value, made_element, written, written_argument, written_base, written_local}
use Rattle.life_unique.specs.SettledTypes.{settled_argument, settled_type}
use Rattle.life_unique.proofs.OutsSeen.{constant_seen, suffix_seen}
use Rattle.life_unique.proofs.TypesSeen.{argument_seen, type_seen}

pub argument_blind : (a : TypeArgument) → argument_meaning (settled_argument a) ≡ argument_meaning a
unfolding argument_meaning
argument_blind = argument_seen Meaning NameMeaning NameMeaning base_step argument_step type_step (λ l. refl)

pub type_blind : (t : TypeName) → type_meaning (settled_type t) ≡ type_meaning t
unfolding type_meaning
type_blind = type_seen Meaning NameMeaning NameMeaning base_step argument_step type_step (λ l. refl)

pub written_blind : (t : TypeName) (place : Place) (scope : Scope) (types : Types) → written (settled_type t) place scope types ≡ written t place scope types
written_blind t place scope types = λ i. (type_blind t i).written place scope types

pub base_blind : (t : TypeName) (place : Place) (scope : Scope) (types : Types) → written_base (settled_type t) place scope types ≡ written_base t place scope types
base_blind t place scope types = λ i. (type_blind t i).base place scope types

pub made_blind : (a : TypeArgument) (place : Place) (scope : Scope) (types : Types) →
    made_element (settled_argument a) place scope types ≡ made_element a place scope types
made_blind a place scope types = rw (made_element, written_argument, argument_blind a) refl

-- .. and so is whether it is `const`
pub const_blind : (t : TypeName) → is_const_value (settled_type t) ≡ is_const_value t
const_blind t = λ i. is_some (constant_seen t i) && is_none (suffix_seen t i)

pub local_blind : (t : TypeName) (place : Place) (scope : Scope) (types : Types) → written_local (settled_type t) place scope types ≡ written_local t place scope types
local_blind t place scope types = rw (written_blind t place scope types, const_blind t) refl
