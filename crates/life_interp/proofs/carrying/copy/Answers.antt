use Rattle.std.proofs.Common.{ℕ, List, Result, OnOk, ap, map, subst, sym, ◌∙◌}
use Rattle.std.specs.declared.alloc.Global.{Global}
use Rattle.std.specs.declared.vec.Vec.{Vec}
use Rattle.life_core.specs.Function.{function_of, name_bytes, program_of}
use Rattle.life_core.specs.Operands.{operand_of}
use Rattle.life_core.specs.Step.{Copy}
use Rattle.life_seen.specs.Housed.{Later}
use Rattle.life_cells.specs.Cells.{state_in}
use Rattle.life_cells.specs.Fits.{meant, IsFit}
use Rattle.life_changes.specs.Bounded.{IsBounded}
use Rattle.life_store.specs.Doing.{does}
use Rattle.life_interp.specs.Fits.{most_births, Grows}
use Rattle.life_interp.specs.Sound.{in_waiting}
use Rattle.life_interp.specs.Steps.{LeavesBoth}
use Rattle.life_interp.specs.declared.ending.Ending.{Ending}
use Rattle.life_interp.proofs.CarriedPlaces.{copied_has, copied_placed, source_placed}
use Rattle.life_interp.proofs.CarriedSteps.{goes_leaves, grows_carried, ok_carried}
use Rattle.life_interp.proofs.SoundPlaces.{typed}
use Rattle.life_interp.proofs.SoundPrograms.{members}
use Rattle.life_interp.proofs.WideTypes.{are_wide}
use Rattle.life_interp.proofs.carrying.copy.Goals as goal

pub copy-requires : goal.copy-requires
copy-requires g c =
    let p = program_of c.args.program.now in
    let f = function_of c.args.f.now in
    let at = c.requires.at in
    let st = state_in (meant p.types (g.S.Store.content c.args.store.now) (g.S.Store.rows c.args.store.now)) c.args.cells.now in
    let step_typed = typed p f st (Copy (operand_of c.args.to.now) (operand_of c.args.from.now)) at c.requires.layouts.narrow in
    record {
      served = record {
        ordered = at.sound.proper.well_formed.table;
        wide = are_wide p.types at.sound.proper.well_formed.table (members p at.sound.proper);
        deep = c.requires.layouts.deep;
        few = c.requires.room;
      };
      ready = record {
        fits = c.requires.fits;
        bounded = c.requires.bounded;
        early = record { births = c.requires.countable.births; clock = c.requires.countable.clock };
        rest = in_waiting at.behind;
        stands = at.sound.sound.stands;
      };
      to_placed = copied_placed p f st c.args.layouts.now c.requires.layouts (operand_of c.args.to.now) (operand_of c.args.from.now) at;
      from_placed = source_placed p f st c.args.layouts.now c.requires.layouts (operand_of c.args.to.now) (operand_of c.args.from.now) at;
      typed = step_typed;
      copied = copied_has p f st c.args.layouts.now c.requires.layouts (operand_of c.args.to.now) (operand_of c.args.from.now) at;
    }

pub returns-clause-step : goal.returns-clause-step
returns-clause-step g c = λ s set.
    let p = program_of c.args.program.now in
    let f = function_of c.args.f.now in
    let m = meant p.types (g.S.Store.content c.args.store.now) (g.S.Store.rows c.args.store.now) in
    let d = meant p.types (g.S.Store.content c.copy.new.store) (g.S.Store.rows c.copy.new.store) in
    subst (λ (r : Result _ Ending). LeavesBoth (does s p.types f (Copy (operand_of c.args.to.now) (operand_of c.args.from.now))) m c.args.cells.now d c.args.cells.now r) (sym c.carried.ensures)
    (goes_leaves (does s p.types f (Copy (operand_of c.args.to.now) (operand_of c.args.from.now))) m d c.args.cells.now c.args.cells.now c.copy.result (c.copy.ensures.step s set.cells (set.texts ∙ ap (λ (ts : List (Vec ℕ Global)). map name_bytes ts) (sym c.deref-2.ensures.value))))

pub returns-clause-fits : goal.returns-clause-fits
returns-clause-fits g c =
    let p = program_of c.args.program.now in
    let content = g.S.Store.content c.args.store.now in
    let rows = g.S.Store.rows c.args.store.now in
    let d = g.S.Store.content c.copy.new.store in
    let new = g.S.Store.rows c.copy.new.store in
    subst (λ (r : Result _ Ending). OnOk r (IsFit p.types d new c.args.cells.now)) (sym c.carried.ensures) (ok_carried c.copy.result (IsFit p.types d new c.args.cells.now) c.copy.ensures.fits)

pub returns-clause-bounded : goal.returns-clause-bounded
returns-clause-bounded g c =
    let p = program_of c.args.program.now in
    let content = g.S.Store.content c.args.store.now in
    let rows = g.S.Store.rows c.args.store.now in
    let d = g.S.Store.content c.copy.new.store in
    let new = g.S.Store.rows c.copy.new.store in
    subst (λ (r : Result _ Ending). OnOk r (IsBounded (g.S.Store.limit c.args.store.now) (meant p.types d new))) (sym c.carried.ensures) (ok_carried c.copy.result (IsBounded (g.S.Store.limit c.args.store.now) (meant p.types d new)) c.copy.ensures.bounded)

pub returns-clause-later : goal.returns-clause-later
returns-clause-later g c =
    let p = program_of c.args.program.now in
    let content = g.S.Store.content c.args.store.now in
    let rows = g.S.Store.rows c.args.store.now in
    let d = g.S.Store.content c.copy.new.store in
    let new = g.S.Store.rows c.copy.new.store in
    subst (λ (r : Result _ Ending). OnOk r (Later content d rows new)) (sym c.carried.ensures) (ok_carried c.copy.result (Later content d rows new) c.copy.ensures.later)

pub returns-clause-grows : goal.returns-clause-grows
returns-clause-grows g c =
    let p = program_of c.args.program.now in
    let content = g.S.Store.content c.args.store.now in
    let rows = g.S.Store.rows c.args.store.now in
    let d = g.S.Store.content c.copy.new.store in
    let new = g.S.Store.rows c.copy.new.store in
    subst (λ (r : Result _ Ending). OnOk r (Grows most_births content d)) (sym c.carried.ensures) (grows_carried c.copy.result content d c.copy.ensures.grows)
