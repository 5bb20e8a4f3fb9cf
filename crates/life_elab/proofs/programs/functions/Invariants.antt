use Rattle.std.proofs.Common.{◌≡◌, drop, map}
use Rattle.life_typed.specs.Programs.{function_view, program_view}
use Rattle.life_core.specs.Function.{function_of}
use Rattle.life_elab.specs.Bounds.{HaveNumberedLocals}
use Rattle.life_elab.specs.ProgramForms.{all_functions, functions}
use Rattle.life_elab.proofs.programs.functions.Given as goal

abbrev pub invariant-functions : goal.invariant-functions
invariant-functions l =
    (functions (program_view l.typed) (map function_view (drop l.one-index l.one-items)) (record { types = l.types; functions = map function_of l.written.items })
    ≡ all_functions (program_view l.typed))
    × HaveNumberedLocals (map function_of l.written.items)
