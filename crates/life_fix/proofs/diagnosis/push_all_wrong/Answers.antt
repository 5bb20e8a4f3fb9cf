use Rattle.std.proofs.lemmas.Result.{on_ok_weaker}
use Rattle.life_core.specs.Function.{function_of}
use Rattle.life_core.specs.Node.{spot_seen}
use Rattle.life_fix.proofs.Finding.{all_added}
use Rattle.life_fix.proofs.diagnosis.push_all_wrong.Goals as goal

pub returns : goal.returns
returns c =
    let at = c.args.at.now in
    on_ok_weaker c.push_diags_of_pairs.result
    (λ added. all_added at.sigs.now at.types.now at.function (function_of at.f.now) (spot_seen at.spot) c.args.facts.now c.args.out.now.items c.push_facts.new.out.items c.push_diags_of_pairs.new.out.items c.in_ok-push_facts.ensures added)
    c.push_diags_of_pairs.ensures
