-- Which facts come first of two that may make something wrong.
use Rattle.std.specs.Prelude.{Bool, false}
use Rattle.life_core.specs.Operands.{Operand, Name, Through, Source, Base}
use Rattle.life_core.specs.Operands as named
use Rattle.life_core.specs.Step.{Step, Copy, Aim, Cursor, Size, Changes}
use Rattle.life_core.specs.Step as step
use Rattle.life_pset.specs.declared.element.Fact.{Fact}
use Rattle.life_rules.specs.Carrying.{is_location}

-- ---- the first of two facts: a target of the pointer that an instruction goes through

abbrev pub is_target_of : Operand → Fact → Bool
is_target_of (Name l) a = false
is_target_of (Through p members) a = is_location p a.location

-- whether the fact and another one may make something wrong: where an instruction uses an owner through a pointer
abbrev pub source_tells_first : Source → Fact → Bool
source_tells_first (named.Whole o) a = is_target_of o a
source_tells_first _ a = false

abbrev pub base_tells_first : Base → Fact → Bool
base_tells_first (named.Owner o) a = is_target_of o a
base_tells_first (named.Pointer l) a = false

abbrev pub tells_first : Step → Fact → Bool
tells_first (Copy to from) a = is_target_of from a
tells_first (Aim p s) a = source_tells_first s a
tells_first (step.Element p b which) a = base_tells_first b a
tells_first (Cursor p b end) a = base_tells_first b a
tells_first (Size r b) a = base_tells_first b a
tells_first (Changes o change) a = is_target_of o a
tells_first _ a = false
