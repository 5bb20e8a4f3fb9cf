use Rattle.std.proofs.Common.{sym}
use Rattle.std.proofs.lemmas.Result.{IfOk-weaker}
use Rattle.life_core.specs.Function.{function_of}
use Rattle.life_core.specs.Node.{spot_seen}
use Rattle.life_sets.specs.NumberSets.{holds}
use Rattle.life_fix.specs.Told.{IsToldOf}
use Rattle.life_fix.proofs.ToldFacts.{told_here, Adds}
use Rattle.life_fix.proofs.told.push_told.Goals as goal

pub returns-then-is_told_at-clause-told : goal.returns-then-is_told_at-clause-told
returns-then-is_told_at-clause-told g c =
    let types = c.args.types.now in
    let f = function_of c.args.f.now in
    let spot = spot_seen c.args.spot in
    let t = c.args.table.now in
    let has = g.R.Rows.has c.args.row.now in
    let before = c.args.facts.now.items in
    let after = c.push_elements.new.facts.items in
    IfOk-weaker c.push_elements.result _ (λ u. Adds (IsToldOf types f spot t has c.args.number) before after)
    (λ u added.
    told_here types f spot t has c.args.number c.in-Some.location.now (holds c.read.new.into) before after (sym c.in-Some.ensures) (sym c.if-is_told_at.ensures) c.read.ensures.read added) c.push_elements.ensures
