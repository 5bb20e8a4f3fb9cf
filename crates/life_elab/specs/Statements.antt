-- Statements.
use Rattle.std.specs.Prelude.{ℕ, List, [], ◌∷◌, None, length}
use Rattle.life_types.specs.declared.place.Place.{Place}
use Rattle.life_types.specs.declared.ty.Ty.TheVariants as ty
use Rattle.life_core.specs.Operands.{Text, whole}
use Rattle.life_core.specs.Step.{Ports, WritesView}
use Rattle.life_core.specs.Tree.{Tree, Skip, Choice, Stops, Turns, trees}
use Rattle.life_writer.specs.Around.{Around, end_line}
use Rattle.life_writer.specs.Building.{Fill, built}
use Rattle.life_writer.specs.Pointers.{aimed, pointed}
use Rattle.life_writer.specs.Registers.{wanted}
use Rattle.life_writer.specs.Variables.{end_past, with_outside}
use Rattle.life_writer.specs.Writing.{State, Gives, gives, ◌>>◌, apart, emit, with_code, write}

-- ---- loops

-- what is declared in a loop's body is left with the loop
abbrev pub body_of_loop : (State → State) → State → State
body_of_loop body s = with_outside s.outside (body (with_outside (length s.living) s))

-- while the test holds, the body and then the step
abbrev pub looped : (State → Gives Tree) → (body step : State → State) → State → State
looped test body step s =
    test s >> λ t s. apart (body_of_loop body) s >> λ b s. apart step s >> λ n s. write (Turns t b n) s

-- ---- what leaves

-- what is left ends, and control goes elsewhere
abbrev pub left : ℕ → Place → Tree → State → State
left outside keyword leaves s = write leaves (end_past outside keyword s)

-- ---- output

-- endl writes the last text, which has the one byte 10
abbrev pub line : Around → Place → State → State
line a place s =
    built (Fill place (pointed (aimed (Text (end_line a))))) (wanted place None ty.View) s >> λ r s. emit place (Ports (WritesView (whole r))) s

-- ---- branches

-- the first where the condition holds, and else the second
abbrev pub branched : (State → Gives Tree) → (first second : State → State) → State → State
branched test first second s =
    test s >> λ t s. apart first s >> λ x s. apart second s >> λ y s. write (Choice t x y) s

-- the same step by step, as the code does it: what was written up to the list of what is done where the condition doesn't hold
pub record Opened : Type 0 where
  pub test : Tree
  pub first : Tree
  pub before : List Tree

abbrev pub opened : (State → Gives Tree) → (first : State → State) → State → Gives Opened
opened test first s = test s >> λ t s. apart first s >> λ x s. gives (record { test = t; first = x; before = s.code }) (with_code [] s)

-- .. and then that list ends
abbrev pub closed_one : Opened → State → State
closed_one o s = write (Choice o.test o.first (trees s.code)) (with_code o.before s)

-- the innermost first
abbrev pub closed : List Opened → State → State
closed [] s = s
closed (o ∷ os) s = closed_one o (closed os s)

-- a run ends where an assertion doesn't hold
abbrev pub asserted : (State → Gives Tree) → Place → State → State
asserted test keyword s = test s >> λ t s. write (Choice t Skip (Stops keyword)) s
