use Rattle.std.proofs.Common.{refl, sym, ap, ◌∙◌}
use Rattle.std.specs.Prelude.{take}
use Rattle.life_core.specs.Operands.{location_of}
use Rattle.life_store.specs.Content.{Content, without}
use Rattle.life_store.specs.Effects.{Effect, Next, cell, on_got, put_content}
use Rattle.life_store.specs.Held.{slot_words}
use Rattle.life_store.specs.Places.{Spot, wrote_spot}
use Rattle.life_cells.specs.Cells.{state_in, state_of}
use Rattle.life_cells.specs.Fits.{meant}
use Rattle.life_cells.specs.Scopes.{function_in, types_in}
use Rattle.life_slots.proofs.SlotOperands.{none_found}
use Rattle.life_slots.proofs.SlotsBehind.{fits_behind, owner_apart, without_counts}
use Rattle.life_slots.proofs.returning.owner_back.Goals as goal

pub local_owner-requires-clause-owner : goal.local_owner-requires-clause-owner
local_owner-requires-clause-owner g c = c.requires.can.owner c.args.slot refl

pub returns-in-Err-clause-step : goal.returns-in-Err-clause-step
returns-in-Err-clause-step g c = λ output input.
    let m = meant (types_in c.args.scope.now) (g.S.Store.content c.args.store.now) (g.S.Store.rows c.args.store.now) in
    let st = state_of m c.args.cells.now output input in
    let back : Spot → Effect = λ spot. Next (put_content (without c.args.slot.birth (wrote_spot spot (take 1 (slot_words m c.args.slot.birth 0)) m)) st) in
    ap (λ a. on_got a back) (sym c.in-Err.ensures.is) ∙ none_found c.in-Err.stop back

pub take_back-requires-clause-slot : goal.take_back-requires-clause-slot
take_back-requires-clause-slot g c = c.requires.can.slot c.args.slot refl

pub take_back-requires-clause-apart : goal.take_back-requires-clause-apart
take_back-requires-clause-apart g c =
    let types = types_in c.args.scope.now in
    let f = function_in c.args.scope.now in
    let m = meant types (g.S.Store.content c.args.store.now) (g.S.Store.rows c.args.store.now) in
    owner_apart types f (location_of c.args.location.now) (cell (state_in m c.args.cells.now) c.args.location.now.local) c.in-Ok.owner c.in-Ok.ensures.is c.args.slot.birth (c.requires.can.apart c.args.slot refl)

pub returns-in-Ok-clause-step : goal.returns-in-Ok-clause-step
returns-in-Ok-clause-step g c = λ output input.
    let m = meant (types_in c.args.scope.now) (g.S.Store.content c.args.store.now) (g.S.Store.rows c.args.store.now) in
    let st = state_of m c.args.cells.now output input in
    ap (λ a. on_got a (λ (spot : Spot). Next (put_content (without c.args.slot.birth (wrote_spot spot (take 1 (slot_words m c.args.slot.birth 0)) m)) st))) (sym c.in-Ok.ensures.is)
    ∙ ap (λ (x : Content). Next (state_of x c.args.cells.now output input)) (sym c.take_back.ensures.shows.is)

pub returns-in-Ok-clause-behind : goal.returns-in-Ok-clause-behind
returns-in-Ok-clause-behind g c =
    let types = types_in c.args.scope.now in
    let shows = c.take_back.ensures.shows in
    let counts = without_counts types (g.S.Store.content c.args.store.now) (g.S.Store.content c.take_back.new.store) (g.S.Store.rows c.args.store.now) (g.S.Store.rows c.take_back.new.store) c.in-Ok.owner c.args.slot.birth _ shows.is in
    record { births = counts.0; clock = counts.1; later = c.take_back.ensures.later }

pub returns-in-Ok-clause-fits : goal.returns-in-Ok-clause-fits
returns-in-Ok-clause-fits g c =
    let types = types_in c.args.scope.now in
    let shows = c.take_back.ensures.shows in
    fits_behind types (g.S.Store.content c.args.store.now) (g.S.Store.content c.take_back.new.store) (g.S.Store.rows c.args.store.now) (g.S.Store.rows c.take_back.new.store) c.args.cells.now c.requires.fits
    shows.housed (c.take_back.ensures.rowed c.requires.fits.rowed) (returns-in-Ok-clause-behind g c)
