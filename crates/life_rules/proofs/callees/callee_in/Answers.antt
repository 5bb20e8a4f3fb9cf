use Rattle.std.proofs.Common.{◌-◌, ◌∙◌, Option, ap, subst, sym}
use Rattle.life_core.specs.Linked.{code_of, spot_of}
use Rattle.life_contract.specs.declared.callee.Callee.{Callee}
use Rattle.life_rules.proofs.PointCalls.{callee_at_point}
use Rattle.life_rules.proofs.Spots.{got}
use Rattle.life_rules.specs.Callees as named
use Rattle.life_rules.specs.Callees.{IsCallee}
use Rattle.life_rules.proofs.callees.callee_in.Goals as goal

pub returns : goal.returns
returns c =
    let callees = c.args.callees.now in
    let point = c.args.point.0 in
    let read = got c.get.result callees (point - 1) c.get.ensures.lookup.1 c.get.ensures.lookup.3 in
    λ types sigs f are.
    subst (λ (o : Option Callee). IsCallee types (named.callee_in sigs (spot_of f c.args.point)) o) (sym (c.joined.ensures ∙ ap named.joined read))
    (callee_at_point types sigs callees (code_of f) point c.if-point-eq0.false are)
