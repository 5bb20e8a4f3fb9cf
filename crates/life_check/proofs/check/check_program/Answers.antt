use Rattle.std.proofs.Common.{map, refl, subst, sym}
use Rattle.std.proofs.lemmas.Result.{err_from_is_err_and}
use Rattle.life_core.specs.Function.{program_of}
use Rattle.life_rules.specs.Listing.{listed_diag}
use Rattle.life_check.specs.CheckedText.{IsListed}
use Rattle.life_check.proofs.check.check_program.Goals as goal

pub returns-in_err-diagnostics-clause-finds : goal.returns-in_err-diagnostics-clause-finds
returns-in_err-diagnostics-clause-finds g c =
    let e = err_from_is_err_and c.from_residual.result c.from_residual.ensures.1 in
    rw (e.1, e.2) tt

pub returns-clause-finds : goal.returns-clause-finds
returns-clause-finds g c = (
  subst (IsListed (program_of c.args.program)) (sym c.decided.ensures.finding)
      (record { diagnostics = map listed_diag c.in_ok-diagnostics.diagnostics.items; listed = c.in_ok-diagnostics.ensures.listed; is = refl }),
  c.decided.ensures.sound,
)
