use Rattle.std.proofs.Common.{◌∙◌, ◌≤◌, ℕ, arith, refl, subst, sym}
use Rattle.std.proofs.lemmas.Bool.{and_parts}
use Rattle.std.proofs.lemmas.List.{length-map}
use Rattle.life_core.specs.Function.{Program, function_of, program_of}
use Rattle.life_proper.specs.ResultsWritten.{WritesResults}
use Rattle.life_proper_check.specs.Results.{IsWrittenAt}
use Rattle.life_proper_check.proofs.Written.{all_written_below, more_written}
use Rattle.life_proper_check.proofs.results.are_written.Goals as goal

pub loop-number-init : goal.loop-number-init
loop-number-init c = (refl, λ e n lt. absurd (omega (arith, lt)))

pub loop-number-preserved : goal.loop-number-preserved
loop-number-preserved c =
    let p = program_of c.args.p.now in
    let inv = c.loop-number.invariant in (
      c.in_ok-one.ensures.same ∙ inv.0,
      λ e.
          let parts = and_parts c.loop-number.written c.in_ok-one.one (sym c.both-written.ensures ∙ e) in
          more_written p.names p.types p.functions c.loop-number.number (inv.1 parts.0)
          (subst (λ (q : Program). IsWrittenAt q.names q.types q.functions c.loop-number.number) inv.0 (c.in_ok-one.ensures.written parts.1)),
    )

pub returns-clause-written : goal.returns-clause-written
returns-clause-written c =
    let p = program_of c.args.p.now in
    let inv = c.loop-number.invariant in
    λ e. subst WritesResults (sym inv.0)
    (all_written_below p.names p.types p.functions c.loop-number.number
    (subst (λ (n : ℕ). n ≤ c.loop-number.number) (sym (length-map c.args.p.now.functions.items function_of)) (omega (arith, c.requires.count, c.loop-number-test.false)))
    (inv.1 e))
