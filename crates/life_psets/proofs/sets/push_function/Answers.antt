use Rattle.std.proofs.Common.{◌≡◌, ◌∙◌, ap, arith, length, map}
use Rattle.std.proofs.lemmas.Result.{IfOk-weaker}
use Rattle.life_core.specs.Function.{function_of}
use Rattle.life_core.specs.Linked.{code_of, points_of, spot_of_linked}
use Rattle.life_core.specs.Node.{spot_seen}
use Rattle.life_psets.specs.Sets.{AddsSets, set_seen}
use Rattle.life_psets.proofs.Adding.{solved_sets}
use Rattle.life_psets.proofs.sets.push_function.Goals as goal

pub push_solved-requires : goal.push_solved-requires
push_solved-requires g c = omega (arith, ap length c.deref.ensures.value, c.in_ok-spots.ensures.count, c.requires.points)

pub returns-clause-adds : goal.returns-clause-adds
returns-clause-adds g c =
    let all : map spot_seen c.deref.result.now ≡ map spot_of_linked (code_of (function_of c.args.f.now)) = ap (map spot_seen) c.deref.ensures.value ∙ c.in_ok-spots.ensures.all in
    let count : length c.deref.result.now ≡ points_of (function_of c.args.f.now) = ap length c.deref.ensures.value ∙ c.in_ok-spots.ensures.count in
    IfOk-weaker c.push_solved.result _ (λ u. AddsSets c.args.sigs.now c.args.types.now c.args.function (function_of c.args.f.now) (map set_seen c.args.out.now.items) (map set_seen c.push_solved.new.out.items))
    (λ u behind. solved_sets _ _ _ c.args.sigs.now c.args.types.now c.args.function (function_of c.args.f.now) _ c.deref.result.now (map set_seen c.args.out.now.items) (map set_seen c.push_solved.new.out.items) c.in_ok-solution.ensures.solution all count behind)
    c.push_solved.ensures
