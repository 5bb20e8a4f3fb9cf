-- A written type means what its parts mean, by its step.
use Rattle.std.proofs.Common.{◌≡◌, is_some}
use Rattle.life_types.specs.Types.{Types}
use Rattle.life_types.specs.declared.place.Place.{Place}
use Rattle.life_tree.specs.declared.type_name.TypeArgument.{TypeArgument, fold_out-TypeArgument, out-TypeArgument}
use Rattle.life_tree.specs.declared.type_name.TypeName.{TypeName, fold_out-TypeName, out-TypeName}
use Rattle.life_names.specs.Checked.{◌>>=◌}
use Rattle.life_names.specs.Environment.{Scope}
use Rattle.life_names.specs.WrittenTypes.{argument_meaning, base_meaning, suffixed, type_meaning}

pub type_made : (t : TypeName) (place : Place) (scope : Scope) (types : Types)
    → (type_meaning t).written place scope types ≡ base_meaning (out-TypeName t).base place scope types >>= (λ x. suffixed (is_some (out-TypeName t).constant) (out-TypeName t).suffix place x.0 x.1)
unfolding type_meaning base_meaning
type_made t place scope types = rw fold_out-TypeName

pub base_made : (t : TypeName) → (type_meaning t).base ≡ base_meaning (out-TypeName t).base
unfolding type_meaning base_meaning
base_made t = rw fold_out-TypeName

pub argument_made : (a : TypeArgument) → argument_meaning a ≡ type_meaning (out-TypeArgument a).ty.value
unfolding argument_meaning type_meaning
argument_made a = rw fold_out-TypeArgument

pub const_made : (t : TypeName) → (type_meaning t).constant ≡ is_some (out-TypeName t).constant
unfolding type_meaning
const_made t = rw fold_out-TypeName
