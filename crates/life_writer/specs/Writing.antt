-- What has been written of a function, and how it grows.
use Rattle.std.specs.Prelude.{ℕ, List, [], ◌∷◌, ◌++◌}
use Rattle.life_types.specs.Types.{Types}
use Rattle.life_types.specs.declared.place.Place.{Place}
use Rattle.life_core.specs.Step.{Step}
use Rattle.life_core.specs.Tree.{Tree, Acts, trees}
use Rattle.life_core.specs.declared.program.Local.{Local}

pub record State : Type 0 where
  -- the types so far: a register may need one that the program doesn't name
  pub types : Types
  -- the locals in the order of their numbers, which is the order in which the text first names them
  pub locals : List Local
  -- the local of each parameter and variable so far, in the order of their declarations
  pub variables : List ℕ
  -- those of them that haven't ended
  pub living : List ℕ
  -- the temporaries that end with the full expression that is being written
  pub pending : List ℕ
  -- how many of those that live stay where the innermost loop is left
  pub outside : ℕ
  -- the list of statements that is being written
  pub code : List Tree

-- nothing, where the table has these types
abbrev pub nothing_written : Types → State
nothing_written types = record { types = types; locals = []; variables = []; living = []; pending = []; outside = 0; code = [] }

-- what a part gives, and what has been written by its end
pub record Gives (A : Type 0) : Type 0 where
  pub given : A
  pub state : State

abbrev pub gives : {A : Type 0} → A → State → Gives A
gives x s = record { given = x; state = s }

-- one part and then the next, which is told what the first gave
infixl 10 ◌>>◌
abbrev pub ◌>>◌ : {A B : Type 0} → Gives A → (A → State → B) → B
w >> next = next w.given w.state

abbrev pub mapped : {A B : Type 0} → (A → B) → Gives A → Gives B
mapped f w = gives (f w.given) w.state

-- ---- statements

-- a statement at the end of the list
abbrev pub write : Tree → State → State
write t s = record s { code = s.code ++ t ∷ [] }

-- an instruction
abbrev pub emit : Place → Step → State → State
emit place step s = write (Acts place step) s

-- ---- lists of their own

abbrev pub with_code : List Tree → State → State
with_code code s = record s { code = code }

-- the statements that were written, while those from before stand again
abbrev pub taken : State → State → Gives Tree
taken before s = gives (trees s.code) (with_code before.code s)

-- what is written into a list of its own
abbrev pub apart : (State → State) → State → Gives Tree
apart writes s = taken s (writes (with_code [] s))
