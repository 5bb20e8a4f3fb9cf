use Rattle.std.proofs.Common.{◌<◌, ◌∙◌, ℕ, Option, ap, inl, inr, map, refl, subst, sym}
use Rattle.std.specs.Option.{option_copied}
use Rattle.std.specs.Prelude.{option_map}
use Rattle.life_core.specs.Function.{function_of}
use Rattle.life_core.specs.Node.{spot_seen}
use Rattle.life_core.specs.Tree.{Spot}
use Rattle.life_sets.specs.NumberSets.{holds}
use Rattle.life_rules.specs.Callees.{callee_by, callee_in, callee_seen, IsCallee}
use Rattle.life_plan.specs.Carried.{IsCarried, none_due}
use Rattle.life_plan.specs.Crossing.{Crossing}
use Rattle.life_plan.proofs.Crossings.{crossing_at}
use Rattle.life_plan.proofs.Gained.{gained_iff}
use Rattle.life_plan.proofs.Settled.{carried_settled}
use Rattle.life_plan.proofs.edge_transfer.transfer.Goals as goal

pub invariant_of-context : goal.invariant_of-context
invariant_of-context g c =
    let sigs = c.args.sigs.now in
    let types = c.args.types.now in
    let f = function_of c.args.f.now in
    let points = c.in_ok-spots.ensures.all in
    let callees = ap (map (option_map callee_seen)) c.deref-3.ensures.value ∙ c.in_ok-callees.ensures ∙ ap (map (callee_by types sigs)) (ap (map spot_seen) c.deref.ensures.value ∙ points) in
    let at = c.spot_in.ensures f (ap (map spot_seen) c.deref-2.ensures.value ∙ points) in
    record { called = subst (λ (s : Option Spot). IsCallee types (callee_in sigs s) (option_copied c.callee_in.result)) (sym at) (c.callee_in.ensures types sigs f callees) }

pub of-requires : goal.of-requires
of-requires g c = record {
  table = c.requires.table;
  spot = c.spot_in.ensures (function_of c.args.f.now) (ap (map spot_seen) c.deref-2.ensures.value ∙ c.in_ok-spots.ensures.all);
}

pub carry-requires-clause-context : goal.carry-requires-clause-context
carry-requires-clause-context g c = record {
  table = c.requires.table;
  spot = c.spot_in.ensures (function_of c.args.f.now) (ap (map spot_seen) c.deref-2.ensures.value ∙ c.in_ok-spots.ensures.all);
}

pub carry-requires-clause-carried : goal.carry-requires-clause-carried
carry-requires-clause-carried g c =
    c.in_ok-plan.ensures (holds c.in_ok-due.due) (g.R.Rows.has c.args.from.now) (g.R.Rows.has c.args.into.now) (λ l lt. c.in_ok-due.ensures.each l (subst (λ (n : ℕ). l < n) (sym c.location_count.ensures) lt))

pub returns-clause-carried : goal.returns-clause-carried
returns-clause-carried g c = λ l e.
    let has = g.R.Rows.has in
    let f = function_of c.args.f.now in
    let spot = c.spot_in.ensures f (ap (map spot_seen) c.deref-2.ensures.value ∙ c.in_ok-spots.ensures.all) in
    let is = crossing_at c.args.table.now c.args.sigs.now c.args.types.now f c.args.edge (option_map spot_seen c.spot_in.result) c.requires.table spot in
    let carried = subst (λ (y : Crossing). IsCarried y c.carry.new.self none_due (has c.args.from.now) (has c.carry.new.into)) is c.in_ok-carry.ensures.carried in (
      λ h. (c.carry.ensures.sound l e).1 h,
      λ h. elim h [
        | inl was ↦ (c.carry.ensures.sound l e).0 was
        | inr new ↦ carried_settled c.args.sigs.now c.args.types.now (function_of c.args.f.now) c.args.edge c.carry.new.self none_due (has c.args.from.now) (has c.carry.new.into) carried (λ _. refl) l e new
      ],
    )

pub returns-clause-gained : goal.returns-clause-gained
returns-clause-gained g c =
    rw c.is_some.ensures
    (gained_iff (g.R.Rows.has c.args.into.now) (g.R.Rows.has c.carry.new.into) (holds c.in_ok-gained.gained) (holds c.carry.new.gained) c.next.result c.in_ok-gained.ensures.none c.in_ok-carry.ensures.noted c.next.ensures.some c.next.ensures.none)
