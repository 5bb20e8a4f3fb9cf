use Rattle.std.proofs.Common.{ap, ◌∙◌, arith}
use Rattle.std.proofs.lemmas.List.{length-map}
use Rattle.std.proofs.lemmas.Option.{slice_get-map, slice_get_read}
use Rattle.std.specs.Prelude.{option_map}
use Rattle.life_core.specs.Function.{function_of, program_of}
use Rattle.life_store.specs.Doing.{Given}
use Rattle.life_store.specs.Meaning.{run_of, IsAdmitted}
use Rattle.life_store.specs.declared.run.TrapKind.TheVariants as trap
use Rattle.life_interp.specs.Runs.{RunEnds}
use Rattle.life_interp.specs.Walking.{Sunk}
use Rattle.life_interp.specs.declared.outcome.Outcome.TheVariants as outcome
use Rattle.life_interp.proofs.RunLemmas.{if_there, of_there, too_deep}
use Rattle.life_interp.proofs.WalkLemmas.{untouched}
use Rattle.life_interp.proofs.entry.run_entry.Goals as goal

pub returns-then-limits-eq0 : goal.returns-then-limits-eq0
returns-then-limits-eq0 g c =
    let growth = c.args.growth in
    let p = program_of c.args.program.now in
    let all = c.args.program.now.functions in
    let entry = c.args.entry.0 in
    let at = slice_get_read all.items all.len entry c.index-f.result.now all.ok.0 (omega (arith, c.requires.entry, length-map all.items function_of, all.ok.0)) c.index-f.ensures in
    let f = function_of c.index-f.result.now in
    let there = slice_get-map function_of all.items entry ∙ ap (option_map function_of) at in
    let input = c.args.input.now in
    let admitted = of_there p.functions entry f (λ k. IsAdmitted p k input) there c.requires.admitted in
    let given : Given = record { growth = growth; cells = c.args.limits.cells; depth = c.args.limits.depth } in
    let k : Sunk = record { old = g.O.Sink.taken c.args.out.now; new = g.O.Sink.taken c.args.out.now; faults = g.O.Sink.faults c.args.out.now; later = g.O.Sink.faults c.args.out.now } in
    if_there p.functions entry f (λ h. RunEnds (run_of given p entry h input c.args.steps) k (outcome.Trap trap.Depth f.place)) there
    (too_deep given p entry f input c.args.steps c.requires.proper there admitted c.if-limits-eq0.true k (untouched (g.O.Sink.taken c.args.out.now) (g.O.Sink.faults c.args.out.now)))
