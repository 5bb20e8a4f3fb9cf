use Rattle.std.proofs.Common.{IfSome, Option, ap, subst, sym, ◌∙◌}
use Rattle.life_store.specs.Content.{Object}
use Rattle.life_store.specs.Doing.{owned_pointer}
use Rattle.life_store.specs.Edits.{owned_at}
use Rattle.life_store.specs.Effects.{Attempt, on_got}
use Rattle.life_store.specs.Places as places
use Rattle.life_store.specs.Places.{pointed}
use Rattle.life_store.specs.References.{HasWord}
use Rattle.life_store.specs.State.{Pointer}
use Rattle.life_seen.specs.Kinds.{kinds_of}
use Rattle.life_pointers.specs.Owned.{spot_seen}
use Rattle.life_pointers.specs.Pointers.{pointer_seen}
use Rattle.life_cells.specs.Cells.{state_of}
use Rattle.life_cells.specs.Fits.{meant}
use Rattle.life_cells.specs.Scopes.{function_in, types_in}
use Rattle.life_cells.proofs.StepLemmas.{stops_alike}
use Rattle.life_cells.proofs.aiming.at_target.Goals as goal

pub returns-in-Err-clause-is : goal.returns-in-Err-clause-is
returns-in-Err-clause-is g c = λ s texts p output input.
    let types = types_in c.args.scope.now in
    let f = function_in c.args.scope.now in
    let content = g.S.Store.content c.args.store.now in
    let rows = g.S.Store.rows c.args.store.now in
    let m = meant types content rows in
    let st = state_of m c.args.cells.now output input in
    let go = λ (spot : places.Spot). pointed types f p (owned_pointer m (owned_at m spot)) st in
    ap (λ (a : Attempt places.Spot). on_got a go) (sym c.in-Err.ensures.is) ∙ stops_alike spot_seen pointer_seen go _ c.in-Err.stop

pub owned_pointer-requires : goal.owned_pointer-requires
owned_pointer-requires g c =
    subst (λ (x : Option Object). IfSome x (HasWord c.in-Ok.owner.index c.in-Ok.owner.word)) (sym c.in-Ok.ensures.owns.is.there) c.in-Ok.ensures.owns.word

pub returns-in-Ok-clause-is : goal.returns-in-Ok-clause-is
returns-in-Ok-clause-is g c = λ s texts p output input.
    let types = types_in c.args.scope.now in
    let f = function_in c.args.scope.now in
    let content = g.S.Store.content c.args.store.now in
    let rows = g.S.Store.rows c.args.store.now in
    let m = meant types content rows in
    let st = state_of m c.args.cells.now output input in
    let go = λ (spot : places.Spot). pointed types f p (owned_pointer m (owned_at m spot)) st in
    ap (λ (a : Attempt places.Spot). on_got a go) (sym c.in-Ok.ensures.is)
    ∙ ap (λ (v : Pointer). pointed types f p v st) (sym (c.owned_pointer.ensures.is (kinds_of types) c.in-Ok.ensures.owns.object c.in-Ok.ensures.owns.is))

pub returns-in-Ok-clause-fits : goal.returns-in-Ok-clause-fits
returns-in-Ok-clause-fits g c = c.owned_pointer.ensures.fits (kinds_of (types_in c.args.scope.now)) c.in-Ok.ensures.owns.object c.in-Ok.ensures.owns.is c.requires.fits.countable
