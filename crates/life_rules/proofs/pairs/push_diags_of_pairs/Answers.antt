use Rattle.std.proofs.Common.{ap}
use Rattle.std.proofs.lemmas.Result.{on_ok_weaker}
use Rattle.life_core.specs.Function.{function_of}
use Rattle.life_core.specs.Node.{node_seen, spot_seen}
use Rattle.life_core.specs.Step.{step_of}
use Rattle.life_rules.proofs.PointPairs.{at_step}
use Rattle.life_rules.proofs.pairs.push_diags_of_pairs.Goals as goal

pub returns-in-Action : goal.returns-in-Action
returns-in-Action c =
    let at = c.args.at.now in
    on_ok_weaker c.push_step_diags_of_pairs.result
    (λ added. at_step at.sigs.now at.types.now at.function (function_of at.f.now) (spot_seen at.spot) (step_of c.in-Action.instr.now) c.args.facts.now c.args.out.now.items c.push_step_diags_of_pairs.new.out.items (ap node_seen c.in-Action.is) added)
    c.push_step_diags_of_pairs.ensures
