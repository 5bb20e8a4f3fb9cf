use Rattle.std.proofs.Common.{Option, subst, sym, length, ◌<◌}
use Rattle.std.proofs.lemmas.Result.{IfOk-weaker}
use Rattle.std.specs.Option.{option_copied}
use Rattle.life_core.specs.Function.{function_of}
use Rattle.life_core.specs.Tree.{Spot}
use Rattle.life_pset.specs.Table.{Table}
use Rattle.life_rules.specs.Callees.{callee_in, IsCallee}
use Rattle.life_plan.specs.Carried.{IsCarried}
use Rattle.life_plan.specs.Crossing.{Crossing}
use Rattle.life_fix.specs.Solving.{IsMade}
use Rattle.life_fix.proofs.EdgeRuns.{crossed}
use Rattle.life_fix.proofs.flow.plan_of.Goals as goal

pub invariant_of-context : goal.invariant_of-context
invariant_of-context c =
    let flow = c.args.flow.now in
    let f = function_of flow.f.now in
    record { called = subst (λ (s : Option Spot). IsCallee flow.types.now (callee_in flow.sigs.now s) (option_copied c.callee_in.result)) (sym (c.spot_in.ensures f c.requires.spots)) (c.callee_in.ensures flow.types.now flow.sigs.now f c.requires.callees) }

pub of-requires : goal.of-requires
of-requires c = record {
  table = c.requires.table;
  spot = c.spot_in.ensures (function_of c.args.flow.now.f.now) c.requires.spots;
}

pub returns : goal.returns
returns c =
    let is = crossed c.args.flow.now c.args.edge c.spot_in.result c.requires (c.spot_in.ensures (function_of c.args.flow.now.f.now) c.requires.spots) in
    IfOk-weaker c.of.result _ (λ plan. IsMade c.args.flow.now.sigs.now c.args.flow.now.types.now (function_of c.args.flow.now.f.now) c.args.edge plan)
    (λ plan made due from into all. subst (λ (x : Crossing). IsCarried x plan due from into) is (made due from into (λ l low. all l (subst (λ (t : Table). l < length t.locations) c.requires.table low)))) c.of.ensures
