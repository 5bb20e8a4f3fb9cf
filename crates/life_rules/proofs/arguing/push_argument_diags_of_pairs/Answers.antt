use Rattle.std.proofs.Common.{◌≡◌, ◌∙◌, OnOk, Some, ap, map, option_map, subst, sym}
use Rattle.std.proofs.lemmas.Result.{on_ok_weaker}
use Rattle.std.specs.Prelude.{slice_get}
use Rattle.life_core.specs.Function.{function_of}
use Rattle.life_core.specs.Operands.{argument_of}
use Rattle.life_core.specs.Step.{step_of}
use Rattle.life_core.specs.Tree.{Action, Node}
use Rattle.life_core.specs.declared.instr.Instr.{Instr}
use Rattle.life_rules.proofs.PointPairs.{at_call}
use Rattle.life_rules.specs.Arguing.{argument_diags_of_two}
use Rattle.life_rules.specs.Callees.{callee_at, callee_seen, with_types}
use Rattle.life_rules.specs.Pairs.{Adds, IsOfPair}
use Rattle.life_rules.proofs.arguing.push_argument_diags_of_pairs.Goals as goal

pub returns-in-Some : goal.returns-in-Some
returns-in-Some c =
    let at = c.args.at.now in
    let facts = c.args.facts.now in
    let before = c.args.out.now.items in
    let after = c.push_broken_by_pairs.new.out.items in
    let f = function_of at.f.now in
    let callee = c.in-Some.callee in
    let called : Some (callee.sig.now, callee.types.now) ≡ option_map (with_types at.types.now) (slice_get at.sigs.now c.in-Call.function.0) =
    sym (ap (option_map callee_seen) c.in-Some.is) ∙ at.called ∙ ap (λ (n : Node). option_map (with_types at.types.now) (callee_at at.sigs.now n)) (c.requires ∙ ap (λ (i : Instr). Action (step_of i)) c.in-Call.is) in
    subst (λ (i : Instr). OnOk c.push_broken_by_pairs.result (Adds (IsOfPair (argument_diags_of_two at.sigs.now at.types.now at.function f at.spot.place (step_of i)) facts) before after)) (sym c.in-Call.is)
    (on_ok_weaker c.push_broken_by_pairs.result
    (λ broken. at_call at.types.now callee.types.now at.function f at.spot.place c.in-Call.function.0 callee.sig.now (slice_get at.sigs.now c.in-Call.function.0) (map argument_of c.in-Call.arguments.items) (map argument_of c.deref.result.now) facts before after called (ap (map argument_of) c.deref.ensures.value) broken)
    c.push_broken_by_pairs.ensures)
