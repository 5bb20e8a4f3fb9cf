use Rattle.std.proofs.Common.{◌<◌, IfSome, List, length, ap, subst, sym}
use Rattle.std.specs.Prelude.{ℤ, slice_get}
use Rattle.life_core.specs.Function.{Program, program_of}
use Rattle.life_core_served.specs.ProperPrograms.{IsProperProgram}
use Rattle.life_store.specs.Meaning.{IsAdmitted}
use Rattle.life_run_rows.proofs.run.run.Goals as goal

pub run-outcome-requires : goal.run-outcome-requires
run-outcome-requires c =
    let entry = c.args.asked.now.entry in
    let is = sym (ap program_of c.in_ok-machine.ensures.program) in
    let input = sym c.deref.ensures.value in
    record {
      proper = subst IsProperProgram is c.requires.proper;
      entry = subst (λ (p : Program). entry < length p.functions) is c.requires.there;
      steps = c.requires.steps;
      admitted =
          subst (λ (xs : List ℤ). IfSome (slice_get (program_of c.in_ok-machine.machine.program.now).functions entry) (λ f. IsAdmitted (program_of c.in_ok-machine.machine.program.now) f xs)) input
          (subst (λ (p : Program). IfSome (slice_get p.functions entry) (λ f. IsAdmitted p f c.args.asked.now.input.items)) is c.requires.admitted);
    }
