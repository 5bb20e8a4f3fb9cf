use Rattle.std.proofs.Common.{[], ap, sym, ◌∙◌}
use Rattle.std.specs.Prelude.{map, option_map}
use Rattle.life_core.specs.Operands.{argument_of, location_of}
use Rattle.life_store.specs.Calls.{slots_returned, target_given}
use Rattle.life_store.specs.Doing.{Effect, on_next}
use Rattle.life_seen.specs.Housed.{Later}
use Rattle.life_seen.proofs.References.{later_then}
use Rattle.life_cells.specs.Cells.{cells_seen, state_in, state_of}
use Rattle.life_cells.specs.Fits.{meant}
use Rattle.life_cells.specs.Scopes.{function_in, types_in}
use Rattle.life_interp.specs.CallOperands.{slot_values}
use Rattle.life_interp.specs.Cells.{one_seen}
use Rattle.life_interp.specs.Fits.{most_births, Grows}
use Rattle.life_interp.proofs.FitLemmas.{behind_grows, behind_step, one_later}
use Rattle.life_interp.proofs.LocalLemmas.{on_next_ends}
use Rattle.life_interp.proofs.StepLemmas.{leaves_as, ok_so}
use Rattle.life_interp.proofs.calls.take_back.Goals as goal

pub returns-in-Err-clause-step : goal.returns-in-Err-clause-step
returns-in-Err-clause-step g c = λ s e output input.
    let types = types_in c.args.scope.now in
    let f = function_in c.args.scope.now in
    let xs = map argument_of c.args.arguments.now in
    let st = state_of (meant types (g.S.Store.content c.args.store.now) (g.S.Store.rows c.args.store.now)) c.args.cells.now.items output input in
    on_next_ends (slots_returned types f xs (slot_values (cells_seen c.args.left.now) 0 xs) st) c.in-Err.ending (target_given s types f (option_map location_of c.args.target.now) (one_seen c.args.given)) (c.in-Err.ensures.step output input)

pub give_target-requires-clause-value : goal.give_target-requires-clause-value
give_target-requires-clause-value g c = one_later _ _ _ _ c.in-Ok.ensures.behind.later c.args.given c.requires.value

pub give_target-requires-clause-target : goal.give_target-requires-clause-target
give_target-requires-clause-target g c =
    let types = types_in c.args.scope.now in
    c.requires.target (state_in (meant types (g.S.Store.content c.return_slots.new.store) (g.S.Store.rows c.return_slots.new.store)) c.return_slots.new.cells.items) (c.in-Ok.ensures.step [] [])

pub give_target-requires-clause-countable : goal.give_target-requires-clause-countable
give_target-requires-clause-countable g c = behind_step _ _ _ _ c.in-Ok.ensures.behind c.requires.countable

pub returns-in-Ok-clause-step : goal.returns-in-Ok-clause-step
returns-in-Ok-clause-step g c = λ s e.
    let types = types_in c.args.scope.now in
    let f = function_in c.args.scope.now in
    let xs = map argument_of c.args.arguments.now in
    let m = meant types (g.S.Store.content c.args.store.now) (g.S.Store.rows c.args.store.now) in
    let b = meant types (g.S.Store.content c.return_slots.new.store) (g.S.Store.rows c.return_slots.new.store) in
    let d = meant types (g.S.Store.content c.give_target.new.store) (g.S.Store.rows c.give_target.new.store) in
    let slots = slots_returned types f xs (slot_values (cells_seen c.args.left.now) 0 xs) in
    let target = target_given s types f (option_map location_of c.args.target.now) (one_seen c.args.given) in
    leaves_as (λ output input. on_next (slots (state_of m c.args.cells.now.items output input)) target) (λ output input. target (state_of b c.return_slots.new.cells.items output input)) (state_of d c.give_target.new.cells.items) c.give_target.result
    (λ output input. ap (λ (x : Effect). on_next x target) (c.in-Ok.ensures.step output input))
    (c.give_target.ensures.step s (e ∙ sym c.return_slots.ensures.limit))

pub returns-in-Ok-clause-later : goal.returns-in-Ok-clause-later
returns-in-Ok-clause-later g c =
    let old = g.S.Store.content c.args.store.now in
    let rows = g.S.Store.rows c.args.store.now in
    let mid = g.S.Store.content c.return_slots.new.store in
    let between = g.S.Store.rows c.return_slots.new.store in
    let new = g.S.Store.content c.give_target.new.store in
    let after = g.S.Store.rows c.give_target.new.store in
    ok_so c.give_target.result (Later mid new between after) (Later old new rows after) (λ later. later_then old mid new rows between after c.in-Ok.ensures.behind.later later) c.give_target.ensures.later

pub returns-in-Ok-clause-grows : goal.returns-in-Ok-clause-grows
returns-in-Ok-clause-grows g c =
    let old = g.S.Store.content c.args.store.now in
    let rows = g.S.Store.rows c.args.store.now in
    let mid = g.S.Store.content c.return_slots.new.store in
    let between = g.S.Store.rows c.return_slots.new.store in
    let new = g.S.Store.content c.give_target.new.store in
    ok_so c.give_target.result (Grows most_births mid new) (Grows most_births old new) (λ grows. behind_grows most_births old mid new rows between c.in-Ok.ensures.behind grows) c.give_target.ensures.grows
