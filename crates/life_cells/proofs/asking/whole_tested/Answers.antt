use Rattle.std.proofs.Common.{IfSome, Option, Some, ap, subst, sym, ◌∙◌}
use Rattle.life_core.specs.Operands.{location_of}
use Rattle.life_store.specs.Effects.{cell}
use Rattle.life_store.specs.Content.{Object}
use Rattle.life_store.specs.References.{HasWord}
use Rattle.life_seen.specs.Kinds.{kinds_of}
use Rattle.life_pointers.specs.Owned.{spot_seen}
use Rattle.life_cells.specs.Cells.{pointer_in, state_in}
use Rattle.life_cells.specs.Fits.{meant}
use Rattle.life_cells.specs.Scopes.{function_in, types_in}
use Rattle.life_cells.proofs.Testing.{local_owned, local_pointing}
use Rattle.life_cells.proofs.asking.whole_tested.Goals as goal

pub owned_pointer-requires : goal.owned_pointer-requires
owned_pointer-requires g c = subst (λ (x : Option Object). IfSome x (HasWord c.in-Ok.owner.index c.in-Ok.owner.word)) (sym c.in-Ok.ensures.owns.is.there) c.in-Ok.ensures.owns.word

pub returns-in-Ok : goal.returns-in-Ok
returns-in-Ok g c =
    let types = types_in c.args.scope.now in
    let f = function_in c.args.scope.now in
    let content = g.S.Store.content c.args.store.now in
    let rows = g.S.Store.rows c.args.store.now in
    let m = meant types content rows in
    let l = location_of c.args.location.now in
    let v = cell (state_in m c.args.cells.now) l.local in
    ap Some (c.owned_pointer.ensures.is (kinds_of types) c.in-Ok.ensures.owns.object c.in-Ok.ensures.owns.is)
    ∙ ap pointer_in (sym (local_owned types f l m v (spot_seen c.in-Ok.owner) c.requires.whole c.in-Ok.ensures.is))

pub returns-in-Err : goal.returns-in-Err
returns-in-Err g c =
    let types = types_in c.args.scope.now in
    let f = function_in c.args.scope.now in
    let content = g.S.Store.content c.args.store.now in
    let rows = g.S.Store.rows c.args.store.now in
    let m = meant types content rows in
    let l = location_of c.args.location.now in
    let v = cell (state_in m c.args.cells.now) l.local in
    c.own_pointer.ensures.is ∙ local_pointing types f l m v c.in-Err.field-0 c.requires.whole c.in-Err.ensures.is
