use Rattle.std.proofs.Common.{◌∙◌, sym}
use Rattle.life_core.specs.Function.{function_of}
use Rattle.life_core.specs.Step.{step_of}
use Rattle.life_rules.proofs.FirstFacts.{none_used_of_first}
use Rattle.life_rules.proofs.pairs.push_moved_uses_with.Goals as goal

pub returns-then-not-tells_first : goal.returns-then-not-tells_first
returns-then-not-tells_first c =
    let at = c.args.at.now in
    none_used_of_first at.types.now at.function (function_of at.f.now) at.spot.place (step_of c.args.instr.now) c.args.first.now c.args.facts.now c.args.out.now.items (sym c.tells_first.ensures ∙ c.if-not-tells_first.true)
