use Rattle.std.proofs.Common.{◌∙◌, arith, option_map, sym}
use Rattle.std.proofs.lemmas.Option.{slice_get_within}
use Rattle.life_core.specs.Node.{spot_seen}
use Rattle.life_rules.specs.Staying.{spot_writes}
use Rattle.life_plan.proofs.Stillness.{none_passes}
use Rattle.life_plan.proofs.still.writes_some.Goals as goal

pub loop-n-preserved : goal.loop-n-preserved
loop-n-preserved c =
    none_passes (spot_writes (option_map spot_seen c.args.context.now.spot)) c.args.context.now.table.now.locations c.loop-n.n c.loop-n.invariant (sym c.is_written.ensures ∙ c.if-is_written.false)

pub returns : goal.returns
returns c = λ t n place at. c.loop-n.invariant n place (omega (arith, slice_get_within c.args.context.now.table.now.locations n place at, c.location_count-n-end.ensures, c.loop-n-test.false)) at
