-- What is wrong in a function, beside the lines that it prints, and how many steps finding it takes.
use Rattle.std.specs.Prelude.{◌≡◌, ◌+◌, ◌↔◌, ◌++◌, ℕ, List, [], ◌∷◌, Contains, map}
use Rattle.life_types.specs.Types.{Types}
use Rattle.life_core.specs.Function.{Function, Program}
use Rattle.life_rules.specs.Diagnosing.{IsDiagnosed}
use Rattle.life_rules.specs.Lines.{line_of}
use Rattle.life_rules.specs.Texts.{Naming}
use Rattle.life_rules.specs.declared.diag.Diag.{Diag}
use Rattle.life_fix.specs.Candidates.{Lined, lined}
use Rattle.life_fix.specs.Solving.{most_steps}

-- the diagnostics of a function, with their lines, stand behind what was there
pub record AddsDiagnosed (names : Naming) (types : Types) (function : ℕ) (f : Function) (before after : List Lined) : Type 0 where
  pub found : List Diag
  pub all : (d : Diag) → Contains found d ↔ IsDiagnosed names.sigs types function f d
  pub behind : after ≡ before ++ map (lined (line_of names types f)) found

-- how many steps functions take at most, one after the other
abbrev pub most_steps_in : Types → List Function → ℕ
most_steps_in types [] = 0
most_steps_in types (f ∷ fs) = most_steps types f + most_steps_in types fs

abbrev pub most_program_steps : Program → ℕ
most_program_steps p = most_steps_in p.types p.functions
