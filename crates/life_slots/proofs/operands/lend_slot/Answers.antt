use Rattle.std.proofs.Common.{[], ◌∷◌, None, ap, subst, sym, ◌∙◌}
use Rattle.life_core.specs.Operands.{location_of}
use Rattle.life_store.specs.Calls.{spot_lent}
use Rattle.life_store.specs.Cells.{at}
use Rattle.life_store.specs.Content.{Content}
use Rattle.life_store.specs.Held.{owner_word}
use Rattle.life_store.specs.Parts.{location_parts}
use Rattle.life_cells.specs.Cells.{state_in, state_of}
use Rattle.life_cells.specs.Fits.{meant}
use Rattle.life_cells.specs.Scopes.{function_in, types_in}
use Rattle.life_cells.proofs.FitLemmas.{cells_later, count_kept, later_kept}
use Rattle.life_cells.proofs.LocationLemmas.{keeps_itself, wrote_births, wrote_clock}
use Rattle.life_slots.specs.Slots.{IsSlotPlace}
use Rattle.life_slots.proofs.HoldingStill.{place_wrote}
use Rattle.life_slots.proofs.SlotOperands.{none_lent, owner_lends, pointer_stays}
use Rattle.life_slots.proofs.operands.lend_slot.Goals as goal

pub local_owner-requires-clause-owner : goal.local_owner-requires-clause-owner
local_owner-requires-clause-owner g c = c.requires.place.owner (sym c.is_unique.ensures ∙ c.if-is_unique.true)

pub returns-in-Err-clause-lent : goal.returns-in-Err-clause-lent
returns-in-Err-clause-lent g c = λ output input.
    let types = types_in c.args.scope.now in
    let f = function_in c.args.scope.now in
    let l = location_of c.args.location.now in
    let st = state_of (meant types (g.S.Store.content c.args.store.now) (g.S.Store.rows c.args.store.now)) c.args.cells.now output input in
    owner_lends types f l st (location_parts types f l) (sym c.is_unique.ensures ∙ c.if-is_unique.true)
    ∙ ap (λ a. spot_lent a st) (sym c.in-Err.ensures.is)
    ∙ none_lent c.in-Err.field-0 st

pub returns-in-Err-clause-fits : goal.returns-in-Err-clause-fits
returns-in-Err-clause-fits g c = λ others held. record { housed = c.requires.fits.housed; rowed = c.requires.fits.rowed; countable = c.requires.fits.countable; held = held }

pub returns-in-Err-clause-places : goal.returns-in-Err-clause-places
returns-in-Err-clause-places g c = λ l place. place

pub returns-in-Err-clause-keeps : goal.returns-in-Err-clause-keeps
returns-in-Err-clause-keeps g c = keeps_itself (g.S.Store.content c.args.store.now) (g.S.Store.rows c.args.store.now)

pub returns-in-Ok-clause-lent : goal.returns-in-Ok-clause-lent
returns-in-Ok-clause-lent g c = λ output input.
    let types = types_in c.args.scope.now in
    let f = function_in c.args.scope.now in
    let l = location_of c.args.location.now in
    let m = meant types (g.S.Store.content c.args.store.now) (g.S.Store.rows c.args.store.now) in
    let st = state_of m c.args.cells.now output input in
    owner_lends types f l st (location_parts types f l) (sym c.is_unique.ensures ∙ c.if-is_unique.true)
    ∙ ap (λ a. spot_lent a st) (sym c.in-Ok.ensures.is)
    ∙ ap (λ (x : Content). state_of x c.args.cells.now output input) (sym c.own_at.ensures.shows.is)

pub returns-in-Ok-clause-keeps : goal.returns-in-Ok-clause-keeps
returns-in-Ok-clause-keeps g c =
    let types = types_in c.args.scope.now in
    let m = meant types (g.S.Store.content c.args.store.now) (g.S.Store.rows c.args.store.now) in
    let owner = c.in-Ok.owner in
    let shows = c.own_at.ensures.shows in
    record {
      rows = c.own_at.ensures.rows;
      births = ap (λ (x : Content). x.births) shows.is ∙ wrote_births owner.object.birth owner.index owner.word (owner_word None ∷ []) m (at m.objects owner.object.birth);
      clock = ap (λ (x : Content). x.clock) shows.is ∙ wrote_clock owner.object.birth owner.index owner.word (owner_word None ∷ []) m (at m.objects owner.object.birth);
    }

pub returns-in-Ok-clause-fits : goal.returns-in-Ok-clause-fits
returns-in-Ok-clause-fits g c = λ others held.
    let content = g.S.Store.content c.args.store.now in
    let rows = g.S.Store.rows c.args.store.now in
    let after = g.S.Store.content c.own_at.new.store in
    let new = g.S.Store.rows c.own_at.new.store in
    let keeps = returns-in-Ok-clause-keeps g c in
    record {
      housed = c.own_at.ensures.shows.housed;
      rowed = c.own_at.ensures.rowed c.requires.fits.rowed;
      countable = count_kept content after rows new keeps c.requires.fits.countable;
      held = cells_later content after rows new (later_kept content after rows new keeps) others held;
    }

pub returns-in-Ok-clause-places : goal.returns-in-Ok-clause-places
returns-in-Ok-clause-places g c = λ l place.
    let types = types_in c.args.scope.now in
    let f = function_in c.args.scope.now in
    let m = meant types (g.S.Store.content c.args.store.now) (g.S.Store.rows c.args.store.now) in
    let owner = c.in-Ok.owner in
    subst (λ (x : Content). IsSlotPlace types f l (state_in x c.args.cells.now)) (sym c.own_at.ensures.shows.is)
    (place_wrote types f l (state_in m c.args.cells.now) owner.object.birth owner.index owner.word (owner_word None) place)

pub returns-else-is_unique-clause-lent : goal.returns-else-is_unique-clause-lent
returns-else-is_unique-clause-lent g c = λ output input.
    let types = types_in c.args.scope.now in
    let f = function_in c.args.scope.now in
    let l = location_of c.args.location.now in
    let st = state_of (meant types (g.S.Store.content c.args.store.now) (g.S.Store.rows c.args.store.now)) c.args.cells.now output input in
    pointer_stays types f l st (location_parts types f l) (sym c.is_unique.ensures ∙ c.if-is_unique.false)

pub returns-else-is_unique-clause-fits : goal.returns-else-is_unique-clause-fits
returns-else-is_unique-clause-fits g c = λ others held. record { housed = c.requires.fits.housed; rowed = c.requires.fits.rowed; countable = c.requires.fits.countable; held = held }

pub returns-else-is_unique-clause-places : goal.returns-else-is_unique-clause-places
returns-else-is_unique-clause-places g c = λ l place. place

pub returns-else-is_unique-clause-keeps : goal.returns-else-is_unique-clause-keeps
returns-else-is_unique-clause-keeps g c = keeps_itself (g.S.Store.content c.args.store.now) (g.S.Store.rows c.args.store.now)
