use Rattle.std.proofs.Common.{◌∙◌, arith}
use Rattle.life_core.specs.Function.{function_of}
use Rattle.life_core.specs.Node.{spot_seen}
use Rattle.life_fix.proofs.ToldFacts.{told_all, told_next}
use Rattle.life_fix.proofs.told.told_facts.Goals as goal

pub loop-number-preserved : goal.loop-number-preserved
loop-number-preserved g c = record {
  so_far =
      told_next c.args.types.now (function_of c.args.f.now) (spot_seen c.args.spot) c.args.table.now (g.R.Rows.has c.args.row.now) c.loop-number.number c.loop-number.facts.items c.push_told.new.facts.items
      c.in_ok-push_told.ensures.told c.loop-number.invariant.so_far;
  limit = c.push_told.ensures.limit ∙ c.loop-number.invariant.limit;
}

pub returns-clause-told : goal.returns-clause-told
returns-clause-told g c =
    told_all c.args.types.now (function_of c.args.f.now) (spot_seen c.args.spot) c.args.table.now (g.R.Rows.has c.args.row.now) c.loop-number.number c.loop-number.facts.items
    (omega (arith, c.loop-number-test.false, c.location_count-number-end.ensures)) c.loop-number.invariant.so_far
