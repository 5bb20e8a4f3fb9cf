use Rattle.std.proofs.Common.{ℕ, List, Result, OnOk, ap, map, subst, sym, ◌∙◌}
use Rattle.std.specs.declared.alloc.Global.{Global}
use Rattle.std.specs.declared.vec.Vec.{Vec}
use Rattle.life_core.specs.Function.{function_of, name_bytes, program_of}
use Rattle.life_core.specs.Operands.{operand_of}
use Rattle.life_core.specs.Step.{change_of, Changes}
use Rattle.life_seen.specs.Housed.{Later}
use Rattle.life_cells.specs.Cells.{state_in}
use Rattle.life_cells.specs.Fits.{meant, IsFit}
use Rattle.life_changes.specs.Bounded.{IsBounded}
use Rattle.life_interp.specs.Fits.{most_births, Grows}
use Rattle.life_store.specs.Doing.{does}
use Rattle.life_interp.specs.Sound.{in_waiting}
use Rattle.life_interp.specs.Steps.{LeavesBoth}
use Rattle.life_interp.specs.declared.ending.Ending.{Ending}
use Rattle.life_interp.proofs.CarriedSteps.{goes_leaves, grows_carried, ok_carried}
use Rattle.life_interp.proofs.OwnerPlaces.{changed_locations, changed_placed}
use Rattle.life_interp.proofs.SoundPlaces.{typed}
use Rattle.life_interp.proofs.SoundPrograms.{members}
use Rattle.life_interp.proofs.WideTypes.{are_wide}
use Rattle.life_interp.proofs.changing.change.Goals as goal

pub change-requires : goal.change-requires
change-requires g c =
    let p = program_of c.args.program.now in
    let f = function_of c.args.f.now in
    let at = c.requires.at in
    let st = state_in (meant p.types (g.S.Store.content c.args.store.now) (g.S.Store.rows c.args.store.now)) c.args.cells.now.items in
    record {
      served = record {
        ordered = at.sound.proper.well_formed.table;
        wide = are_wide p.types at.sound.proper.well_formed.table (members p at.sound.proper);
        deep = c.requires.layouts.deep;
        few = c.requires.room;
      };
      ready = record {
        fits = c.requires.fits;
        bounded = c.requires.bounded;
        early = record { births = c.requires.countable.births; clock = c.requires.countable.clock };
        rest = in_waiting at.behind;
        stands = at.sound.sound.stands;
      };
      owner = changed_placed p f st c.args.layouts.now c.requires.layouts (operand_of c.args.place.now) (change_of c.args.change.now) at;
      typed = typed p f st (Changes (operand_of c.args.place.now) (change_of c.args.change.now)) at c.requires.layouts.narrow;
      locations = changed_locations p f st c.args.layouts.now c.requires.layouts (operand_of c.args.place.now) (change_of c.args.change.now) at;
    }

pub returns-clause-step : goal.returns-clause-step
returns-clause-step g c = λ s set growing.
    let p = program_of c.args.program.now in
    let f = function_of c.args.f.now in
    let m = meant p.types (g.S.Store.content c.args.store.now) (g.S.Store.rows c.args.store.now) in
    let d = meant p.types (g.S.Store.content c.change.new.store) (g.S.Store.rows c.change.new.store) in
    subst (λ (r : Result _ Ending). LeavesBoth (does s p.types f (Changes (operand_of c.args.place.now) (change_of c.args.change.now))) m c.args.cells.now.items d c.change.new.cells.items r) (sym c.carried.ensures)
    (goes_leaves (does s p.types f (Changes (operand_of c.args.place.now) (change_of c.args.change.now))) m d c.args.cells.now.items c.change.new.cells.items c.change.result (c.change.ensures.step s (record { growth_is = growing; cells_is = set.cells; texts_is = set.texts ∙ ap (λ (ts : List (Vec ℕ Global)). map name_bytes ts) (sym c.deref-2.ensures.value) })))

pub returns-clause-fits : goal.returns-clause-fits
returns-clause-fits g c =
    let p = program_of c.args.program.now in
    let content = g.S.Store.content c.args.store.now in
    let rows = g.S.Store.rows c.args.store.now in
    let d = g.S.Store.content c.change.new.store in
    let new = g.S.Store.rows c.change.new.store in
    subst (λ (r : Result _ Ending). OnOk r (IsFit p.types d new c.change.new.cells.items)) (sym c.carried.ensures) (ok_carried c.change.result (IsFit p.types d new c.change.new.cells.items) c.change.ensures.fits)

pub returns-clause-bounded : goal.returns-clause-bounded
returns-clause-bounded g c =
    let p = program_of c.args.program.now in
    let content = g.S.Store.content c.args.store.now in
    let rows = g.S.Store.rows c.args.store.now in
    let d = g.S.Store.content c.change.new.store in
    let new = g.S.Store.rows c.change.new.store in
    subst (λ (r : Result _ Ending). OnOk r (IsBounded (g.S.Store.limit c.args.store.now) (meant p.types d new))) (sym c.carried.ensures) (ok_carried c.change.result (IsBounded (g.S.Store.limit c.args.store.now) (meant p.types d new)) c.change.ensures.bounded)

pub returns-clause-later : goal.returns-clause-later
returns-clause-later g c =
    let p = program_of c.args.program.now in
    let content = g.S.Store.content c.args.store.now in
    let rows = g.S.Store.rows c.args.store.now in
    let d = g.S.Store.content c.change.new.store in
    let new = g.S.Store.rows c.change.new.store in
    subst (λ (r : Result _ Ending). OnOk r (Later content d rows new)) (sym c.carried.ensures) (ok_carried c.change.result (Later content d rows new) c.change.ensures.later)

pub returns-clause-grows : goal.returns-clause-grows
returns-clause-grows g c =
    let p = program_of c.args.program.now in
    let content = g.S.Store.content c.args.store.now in
    let rows = g.S.Store.rows c.args.store.now in
    let d = g.S.Store.content c.change.new.store in
    let new = g.S.Store.rows c.change.new.store in
    subst (λ (r : Result _ Ending). OnOk r (Grows most_births content d)) (sym c.carried.ensures) (grows_carried c.change.result content d c.change.ensures.grows)
