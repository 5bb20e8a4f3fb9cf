-- At which locations facts may make something wrong at a point: elsewhere nothing is told.
use Rattle.std.specs.Prelude.{ℕ, Bool, true, false, ◌&&◌, ◌||◌, Option, Some, None}
use Rattle.life_types.specs.Types.{Types}
use Rattle.life_core.specs.Function.{Function}
use Rattle.life_core.specs.Operands.{Operand, Source, Base, Characters, whole}
use Rattle.life_core.specs.Operands as named
use Rattle.life_core.specs.Step.{Step, Live, End, Eval, Load, Save, Copy, Move, Aim, Repoint, Advance, Cut, Size, Same, Cursor, Changes, Make, Call, Ports, Change, Erase, Set, Append, Port, WritesView}
use Rattle.life_core.specs.Step as step
use Rattle.life_core.specs.Tree.{Node, Action, Question, Return, Stop, Spot}
use Rattle.life_pset.specs.Shapes.{is_variable_place}
use Rattle.life_pset.specs.declared.element.AbsPlace.{AbsPlace}
use Rattle.life_contract.specs.Arguments.{is_in_arguments}
use Rattle.life_contract.specs.Located.{is_location, is_rooted}
use Rattle.life_rules.specs.Texts.{is_result}

-- ---- what an instruction names: pointers and owners that it uses, and what it hands over

-- what an operand names, or the pointer through which it does
abbrev pub is_operand : Operand → AbsPlace → Bool
is_operand (named.Name l) location = is_location l location
is_operand (named.Through p members) location = is_location p location

abbrev pub source_names : Source → AbsPlace → Bool
source_names (named.Place o) location = is_operand o location
source_names (named.Whole o) location = is_operand o location
source_names _ location = false

abbrev pub base_names : Base → AbsPlace → Bool
base_names (named.Owner o) location = is_operand o location
base_names (named.Pointer q) location = is_location q location

abbrev pub characters_name : Characters → AbsPlace → Bool
characters_name (named.View l) location = is_location l location
characters_name (named.Single r) location = false

abbrev pub change_names : Change → AbsPlace → Bool
change_names (Erase at into) location = is_location at location
change_names (Set c) location = characters_name c location
change_names (Append c) location = characters_name c location
change_names _ location = false

abbrev pub port_names : Port → AbsPlace → Bool
port_names (WritesView l) location = is_location l location
port_names _ location = false

abbrev pub names : Step → AbsPlace → Bool
names (Load r o) location = is_operand o location
names (Save o r) location = is_operand o location
names (Copy to from) location = is_operand to location || is_operand from location
names (Move to y) location = is_operand to location || is_location (whole y) location
names (Aim p s) location = source_names s location
names (step.Element p b which) location = base_names b location
names (Cursor p b end) location = base_names b location
names (Advance p q r direction) location = is_location q location
names (Cut p q r count) location = is_location q location
names (Size r b) location = base_names b location
names (Same r a b equal) location = is_location a location || is_location b location
names (Changes o change) location = is_operand o location || change_names change location
names (Call target g xs) location = is_in_arguments xs location
names (Ports port) location = port_names port location
names _ location = false

-- ---- what it may use without a name: a whole vector or string, behind a pointer

abbrev pub is_through : Operand → Bool
is_through (named.Name l) = false
is_through (named.Through p members) = true

abbrev pub source_reaches : Source → Bool
source_reaches (named.Whole o) = is_through o
source_reaches _ = false

abbrev pub base_reaches : Base → Bool
base_reaches (named.Owner o) = is_through o
base_reaches (named.Pointer q) = false

abbrev pub reaches : Step → Bool
reaches (Copy to from) = is_through from
reaches (Aim p s) = source_reaches s
reaches (step.Element p b which) = base_reaches b
reaches (Cursor p b end) = base_reaches b
reaches (Size r b) = base_reaches b
reaches (Changes o change) = is_through o
reaches (Call target g xs) = true
reaches _ = false

abbrev pub step_tells : Types → Function → Step → AbsPlace → Bool
step_tells types f i location = names i location || (reaches i && is_variable_place types f location)

-- ---- the points

abbrev pub node_tells : Types → Function → Node → AbsPlace → Bool
node_tells types f (Action i) location = step_tells types f i location
node_tells types f (Question t) location = false
node_tells types f Return location = is_result types f f.parameters && is_rooted f.parameters location
node_tells types f Stop location = false

abbrev pub spot_tells : Types → Function → Option Spot → AbsPlace → Bool
spot_tells types f None location = false
spot_tells types f (Some s) location = node_tells types f s.node location

-- ---- whether something may be told at a point at all

abbrev pub source_names_some : Source → Bool
source_names_some (named.Place o) = true
source_names_some (named.Whole o) = true
source_names_some _ = false

abbrev pub names_some : Step → Bool
names_some (Live x form) = false
names_some (End xs) = false
names_some (Eval r operation) = false
names_some (Repoint p q) = false
names_some (Make u made) = false
names_some (Aim p s) = source_names_some s
names_some _ = true

abbrev pub node_tells_some : Types → Function → Node → Bool
node_tells_some types f (Action i) = names_some i
node_tells_some types f (Question t) = false
node_tells_some types f Return = is_result types f f.parameters
node_tells_some types f Stop = false
