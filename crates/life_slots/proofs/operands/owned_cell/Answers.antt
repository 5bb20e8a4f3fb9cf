use Rattle.std.proofs.Common.{IfSome, Option, Some, ap, subst, sym, ◌∙◌}
use Rattle.life_store.specs.Calls.{target_cell, target_handed}
use Rattle.life_store.specs.Content.{Object}
use Rattle.life_store.specs.References.{HasWord}
use Rattle.life_store.specs.State.{Cell}
use Rattle.life_seen.specs.Kinds.{kinds_of}
use Rattle.life_cells.specs.Fits.{meant}
use Rattle.life_cells.specs.Scopes.{types_in}
use Rattle.life_slots.proofs.SlotOperands.{no_target}
use Rattle.life_slots.proofs.operands.owned_cell.Goals as goal

pub returns-in-Err-clause-seen : goal.returns-in-Err-clause-seen
returns-in-Err-clause-seen g c =
    let m = meant (types_in c.args.scope.now) (g.S.Store.content c.args.store.now) (g.S.Store.rows c.args.store.now) in
    sym (no_target m c.in-Err.field-0) ∙ ap (target_handed m) c.in-Err.ensures.is

pub owned_by-requires : goal.owned_by-requires
owned_by-requires g c = subst (λ (x : Option Object). IfSome x (HasWord c.in-Ok.owner.index c.in-Ok.owner.word)) (sym c.in-Ok.ensures.owns.is.there) c.in-Ok.ensures.owns.word

pub returns-in-Ok-clause-seen : goal.returns-in-Ok-clause-seen
returns-in-Ok-clause-seen g c =
    let types = types_in c.args.scope.now in
    let m = meant types (g.S.Store.content c.args.store.now) (g.S.Store.rows c.args.store.now) in
    ap (λ (v : Cell). Some v) (c.target_cell.ensures.seen ∙ ap target_cell (c.owned_by.ensures.is (kinds_of types) c.in-Ok.ensures.owns.object c.in-Ok.ensures.owns.is))
    ∙ ap (target_handed m) c.in-Ok.ensures.is

pub returns-in-Ok-clause-fits : goal.returns-in-Ok-clause-fits
returns-in-Ok-clause-fits g c =
    let types = types_in c.args.scope.now in
    c.target_cell.ensures.fits (g.S.Store.content c.args.store.now) (g.S.Store.rows c.args.store.now) (c.owned_by.ensures.fits (kinds_of types) c.in-Ok.ensures.owns.object c.in-Ok.ensures.owns.is)
