use Rattle.std.proofs.Common.{IfSome, Option, subst, sym, ◌∙◌}
use Rattle.life_store.specs.Content.{Object}
use Rattle.life_store.specs.References.{HasWord}
use Rattle.life_seen.specs.Kinds.{kinds_of}
use Rattle.life_pointers.specs.Owned.{spot_seen}
use Rattle.life_pointers.specs.Pointers.{pointer_seen}
use Rattle.life_cells.specs.Cells.{state_of}
use Rattle.life_cells.specs.Fits.{meant}
use Rattle.life_cells.specs.Scopes.{function_in, types_in}
use Rattle.life_cells.proofs.StepLemmas.{stops_alike}
use Rattle.std.proofs.Common.{ap}
use Rattle.life_store.specs.Doing.{whole_of}
use Rattle.life_store.specs.Edits.{buffer_of}
use Rattle.life_store.specs.Effects.{Attempt, on_got}
use Rattle.life_store.specs.Places.{pointed}
use Rattle.life_store.specs.State.{Pointer}
use Rattle.life_pointers.proofs.MeantSteps.{owned_whole_is}
use Rattle.life_cells.proofs.aiming.at_whole.Goals as goal

pub returns-in-Err-clause-is : goal.returns-in-Err-clause-is
returns-in-Err-clause-is g c = λ s texts p output input.
    let types = types_in c.args.scope.now in
    let f = function_in c.args.scope.now in
    let content = g.S.Store.content c.args.store.now in
    let rows = g.S.Store.rows c.args.store.now in
    let m = meant types content rows in
    let st = state_of m c.args.cells.now output input in
    c.in-Err.ensures.is output input (λ spot. on_got (buffer_of m spot) (λ b. pointed types f p (whole_of m b) st)) ∙ stops_alike spot_seen pointer_seen _ _ c.in-Err.stop

pub returns-in-Ok-clause-is : goal.returns-in-Ok-clause-is
returns-in-Ok-clause-is g c = λ s texts p output input.
    let types = types_in c.args.scope.now in
    let f = function_in c.args.scope.now in
    let content = g.S.Store.content c.args.store.now in
    let rows = g.S.Store.rows c.args.store.now in
    let m = meant types content rows in
    let st = state_of m c.args.cells.now output input in
    c.in-Ok.ensures.is output input (λ spot. on_got (buffer_of m spot) (λ b. pointed types f p (whole_of m b) st)) ∙ owned_whole_is types f st p (spot_seen c.in-Ok.owner)
    ∙ ap (λ (a : Attempt Pointer). on_got a (λ v. pointed types f p v st)) (sym (c.owned_whole.ensures.is (kinds_of types) c.in-Ok.ensures.owns.object c.in-Ok.ensures.owns.is))

pub owned_whole-requires : goal.owned_whole-requires
owned_whole-requires g c =
    subst (λ (x : Option Object). IfSome x (HasWord c.in-Ok.owner.index c.in-Ok.owner.word)) (sym c.in-Ok.ensures.owns.is.there) c.in-Ok.ensures.owns.word

pub returns-in-Ok-clause-fits : goal.returns-in-Ok-clause-fits
returns-in-Ok-clause-fits g c = c.owned_whole.ensures.fits (kinds_of (types_in c.args.scope.now)) c.in-Ok.ensures.owns.object c.in-Ok.ensures.owns.is c.requires.fits.countable
