-- Where variables come to life.
use Rattle.life_typed.specs.declared.typed_program.TypedLocal.{TypedLocal}
use Rattle.life_writer.specs.Around.{Around}
use Rattle.life_writer.specs.Building.{Destination}
use Rattle.life_writer.specs.Variables.{named, variable_local}

-- where a variable comes to life: it isn't visible in what it is given
abbrev pub variable : Around → TypedLocal → Destination
variable a v = named (variable_local a v) v.place
