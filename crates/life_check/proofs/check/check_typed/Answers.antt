use Rattle.std.proofs.Common.{subst, sym}
use Rattle.std.proofs.lemmas.Result.{err_from_is_err_and}
use Rattle.life_core.specs.Function.{program_of}
use Rattle.life_core_served.specs.ProperPrograms.{IsServedProgram}
use Rattle.life_typed.specs.Programs.{program_view}
use Rattle.life_check.proofs.Checking.{core_finds, limited_finds}
use Rattle.life_check.proofs.PassedLimits.{translated_proper}
use Rattle.life_check.proofs.check.check_typed.Goals as goal

pub returns-in_err-program-clause-finds : goal.returns-in_err-program-clause-finds
returns-in_err-program-clause-finds g c =
    let e = err_from_is_err_and c.from_residual.result c.from_residual.ensures.1 in
    rw (e.1, e.2) (limited_finds (program_view c.args.typed) c.in_err-program.field-0.0 c.in_err-program.ensures.program)

pub check_program-requires-clause-proper : goal.check_program-requires-clause-proper
check_program-requires-clause-proper g c =
    let p = program_view c.args.typed in
    let typed = c.requires.well_typed in
    let results = c.requires.results in
    translated_proper p (program_of c.in_ok-program.program) c.in_ok-program.ensures.program.0 c.in_ok-program.ensures.program.1 c.in_ok-program.ensures.numbered
    (c.translations_have_short_places.ensures p typed results c.requires.table c.in_ok-program.ensures.program.1)
    (c.translations_are_proper.ensures.proper p typed results c.requires.table c.requires.names c.requires.mains c.in_ok-program.ensures.program.1)

pub check_program-requires-clause-served : goal.check_program-requires-clause-served
check_program-requires-clause-served g c =
    subst IsServedProgram (sym c.in_ok-program.ensures.program.0)
    (c.translations_are_proper.ensures.served (program_view c.args.typed) c.requires.well_typed c.requires.results c.requires.table c.requires.mains c.in_ok-program.ensures.program.1)

pub returns-clause-finds : goal.returns-clause-finds
returns-clause-finds g c =
    core_finds (program_view c.args.typed) c.in_ok-program.ensures.program.1 (program_of c.in_ok-program.program) c.check_program.result c.in_ok-program.ensures.program.0 c.check_program.ensures.finds
