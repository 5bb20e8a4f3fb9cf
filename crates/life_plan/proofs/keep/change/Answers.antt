use Rattle.std.proofs.Common.{◌∙◌, ap, rules, sym, Some}
use Rattle.std.proofs.lemmas.Option.{slice_get-get_or}
use Rattle.life_sets.specs.NumberSets.{holds}
use Rattle.life_plan.specs.Numbered.{IsChangedBy}
use Rattle.life_plan.proofs.Keeping.{changed_all, changed_by}
use Rattle.life_plan.proofs.Tabulating.{gathered_more, gathered_none}
use Rattle.life_plan.proofs.keep.change.Goals as goal

pub loop-becoming-init : goal.loop-becoming-init
loop-becoming-init c = record {
  limit = c.requires.limit;
  each = gathered_none (IsChangedBy c.args.changes.now (holds c.args.before.now)) (holds c.args.after.now);
}

pub loop-becoming-preserved : goal.loop-becoming-preserved
loop-becoming-preserved c =
    let b = c.becoming-item.result in
    let i = c.loop-becoming.becoming-index in
    record {
      limit = search rules;
      each = gathered_more (IsChangedBy c.args.changes.now (holds c.args.before.now)) i (holds c.args.after.now) (holds c.loop-becoming.after) (holds c.insert_if.new.set) c.loop-becoming.invariant.each
          (changed_by c.args.changes.now (holds c.args.before.now) i b c.meets.result (holds c.loop-becoming.after) (holds c.insert_if.new.set) (slice_get-get_or c.args.changes.now i b c.loop-becoming-test.true ∙ ap Some (sym c.becoming-item.is)) c.meets.ensures c.insert_if.ensures.added);
    }

pub returns-clause-changes : goal.returns-clause-changes
returns-clause-changes c =
    changed_all c.args.changes.now (holds c.args.before.now) c.loop-becoming.becoming-index (holds c.args.after.now) (holds c.loop-becoming.after) c.loop-becoming-test.false c.loop-becoming.invariant.each
