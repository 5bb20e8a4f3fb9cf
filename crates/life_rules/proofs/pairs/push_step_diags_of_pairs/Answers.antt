use Rattle.std.proofs.lemmas.Result.{on_ok_weaker}
use Rattle.life_core.specs.Function.{function_of}
use Rattle.life_core.specs.Step.{step_of}
use Rattle.life_rules.proofs.EachTwo.{each_with_all, then_pairs}
use Rattle.life_rules.specs.Arguing.{argument_diags_of_two}
use Rattle.life_rules.specs.Pairs.{moved_uses}
use Rattle.life_rules.proofs.pairs.push_step_diags_of_pairs.Goals as goal

pub returns : goal.returns
returns c =
    let at = c.args.at.now in
    let step = step_of c.args.instr.now in
    let uses = moved_uses at.types.now at.function (function_of at.f.now) at.spot.place step in
    let arguments = argument_diags_of_two at.sigs.now at.types.now at.function (function_of at.f.now) at.spot.place step in
    let facts = c.args.facts.now in
    let before = c.args.out.now.items in
    let between = c.push_moved_uses.new.out.items in
    let after = c.push_argument_diags_of_pairs.new.out.items in
    on_ok_weaker c.push_argument_diags_of_pairs.result (λ added. then_pairs uses arguments facts before between after (each_with_all uses facts before between c.in_ok-push_moved_uses.ensures) added) c.push_argument_diags_of_pairs.ensures
