-- A variable that is given an expression (ISO/IEC 14882:2017 [dcl.init]): all but the last is written, and then it is built where it goes.
use Rattle.std.specs.Prelude.{ℕ}
use Rattle.life_types.specs.declared.place.Place.{Place}
use Rattle.life_types.specs.declared.ty.Ty.{Ty}
use Rattle.life_writer.specs.Around.{Around}
use Rattle.life_writer.specs.Building.{Destination}
use Rattle.life_writer.specs.Giving.{initial}
use Rattle.life_writer.specs.Temporaries.{scoped}
use Rattle.life_writer.specs.Uses.{Uses}
use Rattle.life_writer.specs.Writing.{State, Gives, ◌>>◌}

-- what a reference is bound to is built by `keeps`
abbrev pub initialised_by : Around → (keeps : Place → Ty → Destination) → Uses → Ty → (behind : Place) → Destination → State → Gives ℕ
initialised_by a keeps e t behind d s = initial a keeps e t behind s >> λ rest s. rest d s

-- .. and lives as long as the reference
abbrev pub initialised : Around → Uses → Ty → (behind : Place) → Destination → State → Gives ℕ
initialised a e t behind d s = initialised_by a scoped e t behind d s
