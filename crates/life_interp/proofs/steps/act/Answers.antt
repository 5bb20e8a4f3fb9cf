use Rattle.std.proofs.Common.{ℕ, List, [], Result, OnOk, ap, map, refl, subst, sym, ◌∙◌, arith}
use Rattle.std.specs.declared.alloc.Global.{Global}
use Rattle.std.specs.declared.vec.Vec.{Vec}
use Rattle.life_core.specs.Function.{function_of, name_bytes, program_of}
use Rattle.life_core.specs.Operands.{operand_of}
use Rattle.life_core.specs.Step.{Copy, Move, step_of}
use Rattle.life_core.specs.declared.instr.Instr.{Instr}
use Rattle.life_store.specs.Doing.{Setting, does, end_locals}
use Rattle.life_seen.specs.Housed.{Later}
use Rattle.life_cells.specs.Cells.{state_in, state_of}
use Rattle.life_cells.specs.Fits.{meant, IsFit}
use Rattle.life_cells.specs.declared.cell.Cell.{Cell}
use Rattle.life_cells.proofs.FitLemmas.{later_kept}
use Rattle.life_interp.specs.Accessed.{HasPlaces, StaysPut}
use Rattle.life_interp.specs.Fits.{most_births, Grows}
use Rattle.life_interp.specs.Sound.{IsAt, in_waiting}
use Rattle.life_interp.specs.Steps.{LeavesBoth}
use Rattle.life_interp.specs.declared.ending.Ending.{Ending}
use Rattle.life_interp.proofs.BoundedSteps.{does_bounded}
use Rattle.life_interp.proofs.Others.{access_else, stays_else}
use Rattle.life_interp.proofs.SoundPlaces.{has_places}
use Rattle.life_interp.proofs.SoundPrograms.{members}
use Rattle.life_interp.proofs.StepLemmas.{comes_leaves, ok_holds, ok_settled}
use Rattle.life_interp.proofs.WalkLemmas.{fit_where_ok}
use Rattle.life_interp.proofs.WideTypes.{are_wide}
use Rattle.life_interp.proofs.steps.act.Goals as goal

pub returns-in-Live-clause-step : goal.returns-in-Live-clause-step
returns-in-Live-clause-step g c = λ s e growing.
    subst (λ (i : Instr). LeavesBoth (does s (program_of c.args.program.now).types (function_of c.args.f.now) (step_of i)) (meant (program_of c.args.program.now).types (g.S.Store.content c.args.store.now) (g.S.Store.rows c.args.store.now)) c.args.cells.now.items (meant (program_of c.args.program.now).types (g.S.Store.content c.live.new.store) (g.S.Store.rows c.live.new.store)) c.live.new.cells.items c.live.result) (sym c.in-Live.is)
    (c.live.ensures.step s e.cells)

pub live-requires-clause-ordered : goal.live-requires-clause-ordered
live-requires-clause-ordered g c = c.requires.at.sound.proper.well_formed.table

pub live-requires-clause-wide : goal.live-requires-clause-wide
live-requires-clause-wide g c = are_wide (program_of c.args.program.now).types c.requires.at.sound.proper.well_formed.table (members (program_of c.args.program.now) c.requires.at.sound.proper)

pub end-requires-clause-ordered : goal.end-requires-clause-ordered
end-requires-clause-ordered g c = c.requires.at.sound.proper.well_formed.table

pub end-requires-clause-stands : goal.end-requires-clause-stands
end-requires-clause-stands g c = (function_of c.args.f.now, in_waiting c.requires.at.behind, c.requires.at.sound.sound.stands)

pub returns-in-End-clause-step : goal.returns-in-End-clause-step
returns-in-End-clause-step g c = λ s e growing.
    subst (λ (i : Instr). LeavesBoth (does s (program_of c.args.program.now).types (function_of c.args.f.now) (step_of i)) (meant (program_of c.args.program.now).types (g.S.Store.content c.args.store.now) (g.S.Store.rows c.args.store.now)) c.args.cells.now.items (meant (program_of c.args.program.now).types (g.S.Store.content c.end.new.store) (g.S.Store.rows c.end.new.store)) c.end.new.cells.items c.end.result) (sym c.in-End.is)
    (subst (λ (xs : List ℕ). LeavesBoth (end_locals (program_of c.args.program.now).types (function_of c.args.f.now) xs) (meant (program_of c.args.program.now).types (g.S.Store.content c.args.store.now) (g.S.Store.rows c.args.store.now)) c.args.cells.now.items (meant (program_of c.args.program.now).types (g.S.Store.content c.end.new.store) (g.S.Store.rows c.end.new.store)) c.end.new.cells.items c.end.result) c.deref.ensures.value (c.end.ensures.step (function_of c.args.f.now) (in_waiting c.requires.at.behind) c.requires.at.sound.sound.stands))

pub returns-in-Eval-clause-step : goal.returns-in-Eval-clause-step
returns-in-Eval-clause-step g c = λ s e growing.
    subst (λ (i : Instr). LeavesBoth (does s (program_of c.args.program.now).types (function_of c.args.f.now) (step_of i)) (meant (program_of c.args.program.now).types (g.S.Store.content c.args.store.now) (g.S.Store.rows c.args.store.now)) c.args.cells.now.items (meant (program_of c.args.program.now).types (g.S.Store.content c.args.store.now) (g.S.Store.rows c.args.store.now)) c.evaluate.new.cells.items c.evaluate.result) (sym c.in-Eval.is)
    (c.evaluate.ensures.step (meant (program_of c.args.program.now).types (g.S.Store.content c.args.store.now) (g.S.Store.rows c.args.store.now)))

pub returns-in-Eval-clause-fits : goal.returns-in-Eval-clause-fits
returns-in-Eval-clause-fits g c =
    let content = g.S.Store.content c.args.store.now in
    let rows = g.S.Store.rows c.args.store.now in
    fit_where_ok (program_of c.args.program.now).types content rows c.args.cells.now.items c.evaluate.new.cells.items c.evaluate.result c.requires.fits (c.evaluate.ensures.fits content rows c.requires.fits.held)

pub reach-requires-clause-access : goal.reach-requires-clause-access
reach-requires-clause-access g c = access_else c.args.instr.now (λ x form e. c.in_default.not-Live x form e) (λ xs e. c.in_default.not-End xs e) (λ r operation e. c.in_default.not-Eval r operation e) (λ port e. c.in_default.not-Port port e) (λ to from e. c.in_default.not-Copy to from e) (λ to y e. c.in_default.not-Move to y e) (λ p b end e. c.in_default.not-Cursor p b end e) (λ u m e. c.in_default.not-Make u m e) (λ o x e. c.in_default.not-Change o x e)

pub reach-requires-clause-places : goal.reach-requires-clause-places
reach-requires-clause-places g c =
    let p = program_of c.args.program.now in
    has_places p (function_of c.args.f.now) (state_in (meant p.types (g.S.Store.content c.args.store.now) (g.S.Store.rows c.args.store.now)) c.args.cells.now.items) c.args.layouts.now c.requires.layouts (step_of c.args.instr.now) c.requires.at

pub returns-in_default-clause-step : goal.returns-in_default-clause-step
returns-in_default-clause-step g c = λ s e growing.
    let p = program_of c.args.program.now in
    let f = function_of c.args.f.now in
    let content = g.S.Store.content c.args.store.now in
    let rows = g.S.Store.rows c.args.store.now in
    let d = g.S.Store.content c.reach.new.store in
    let new = g.S.Store.rows c.reach.new.store in
    subst (λ (r : Result _ Ending). LeavesBoth (does s p.types f (step_of c.args.instr.now)) (meant p.types content rows) c.args.cells.now.items (meant p.types d new) c.reach.new.cells.items r) (sym c.settled.ensures)
    (comes_leaves (does s p.types f (step_of c.args.instr.now)) (meant p.types content rows) (meant p.types d new) c.args.cells.now.items c.reach.new.cells.items c.reach.result
    (c.reach.ensures.step s (e.texts ∙ ap (λ (ts : List (Vec ℕ Global)). map name_bytes ts) (sym c.deref-in_default-2.ensures.value))))

pub returns-in_default-clause-fits : goal.returns-in_default-clause-fits
returns-in_default-clause-fits g c =
    let p = program_of c.args.program.now in
    let f = function_of c.args.f.now in
    let content = g.S.Store.content c.args.store.now in
    let rows = g.S.Store.rows c.args.store.now in
    let d = g.S.Store.content c.reach.new.store in
    let new = g.S.Store.rows c.reach.new.store in
    subst (λ (r : Result _ Ending). OnOk r (IsFit p.types d new c.reach.new.cells.items)) (sym c.settled.ensures) (ok_settled c.reach.result (IsFit p.types d new c.reach.new.cells.items) c.reach.ensures.fits)

pub returns-in_default-clause-later : goal.returns-in_default-clause-later
returns-in_default-clause-later g c =
    let p = program_of c.args.program.now in
    let f = function_of c.args.f.now in
    let content = g.S.Store.content c.args.store.now in
    let rows = g.S.Store.rows c.args.store.now in
    let d = g.S.Store.content c.reach.new.store in
    let new = g.S.Store.rows c.reach.new.store in
    ok_holds _ (Later content d rows new) (later_kept content d rows new c.reach.ensures.keeps)

pub returns-in_default-clause-grows : goal.returns-in_default-clause-grows
returns-in_default-clause-grows g c =
    let p = program_of c.args.program.now in
    let f = function_of c.args.f.now in
    let content = g.S.Store.content c.args.store.now in
    let rows = g.S.Store.rows c.args.store.now in
    let d = g.S.Store.content c.reach.new.store in
    let new = g.S.Store.rows c.reach.new.store in
    let births = c.reach.ensures.keeps.births in
    let clock = c.reach.ensures.keeps.clock in
    ok_holds _ (Grows most_births content d) (record { births = omega (arith, births); clock = omega (arith, clock) })

pub returns-in-Live-clause-bounded : goal.returns-in-Live-clause-bounded
returns-in-Live-clause-bounded g c =
    let p = program_of c.args.program.now in
    let f = function_of c.args.f.now in
    let m = meant p.types (g.S.Store.content c.args.store.now) (g.S.Store.rows c.args.store.now) in
    let limit = g.S.Store.limit c.args.store.now in
    let s : Setting = record { given = record { growth = c.args.growth; cells = limit; depth = 0 }; texts = p.texts } in
    does_bounded limit s refl p.types f (state_of m c.args.cells.now.items [] []) c.requires.bounded (step_of c.args.instr.now) (subst (λ (i : Instr). StaysPut (step_of i)) (sym c.in-Live.is) tt)
    m (meant p.types (g.S.Store.content c.live.new.store) (g.S.Store.rows c.live.new.store)) c.args.cells.now.items c.live.new.cells.items c.live.result refl (returns-in-Live-clause-step g c s (record { cells = refl; texts = refl }) refl)

pub returns-in-End-clause-bounded : goal.returns-in-End-clause-bounded
returns-in-End-clause-bounded g c =
    let p = program_of c.args.program.now in
    let f = function_of c.args.f.now in
    let m = meant p.types (g.S.Store.content c.args.store.now) (g.S.Store.rows c.args.store.now) in
    let limit = g.S.Store.limit c.args.store.now in
    let s : Setting = record { given = record { growth = c.args.growth; cells = limit; depth = 0 }; texts = p.texts } in
    does_bounded limit s refl p.types f (state_of m c.args.cells.now.items [] []) c.requires.bounded (step_of c.args.instr.now) (subst (λ (i : Instr). StaysPut (step_of i)) (sym c.in-End.is) tt)
    m (meant p.types (g.S.Store.content c.end.new.store) (g.S.Store.rows c.end.new.store)) c.args.cells.now.items c.end.new.cells.items c.end.result refl (returns-in-End-clause-step g c s (record { cells = refl; texts = refl }) refl)

pub returns-in-Eval-clause-bounded : goal.returns-in-Eval-clause-bounded
returns-in-Eval-clause-bounded g c = ok_holds c.evaluate.result _ c.requires.bounded

pub returns-in_default-clause-bounded : goal.returns-in_default-clause-bounded
returns-in_default-clause-bounded g c =
    let p = program_of c.args.program.now in
    let f = function_of c.args.f.now in
    let m = meant p.types (g.S.Store.content c.args.store.now) (g.S.Store.rows c.args.store.now) in
    let limit = g.S.Store.limit c.args.store.now in
    let s : Setting = record { given = record { growth = c.args.growth; cells = limit; depth = 0 }; texts = p.texts } in
    does_bounded limit s refl p.types f (state_of m c.args.cells.now.items [] []) c.requires.bounded (step_of c.args.instr.now) (stays_else c.args.instr.now (λ to from e. c.in_default.not-Copy to from e) (λ to y e. c.in_default.not-Move to y e) (λ u m e. c.in_default.not-Make u m e) (λ o x e. c.in_default.not-Change o x e))
    m (meant p.types (g.S.Store.content c.reach.new.store) (g.S.Store.rows c.reach.new.store)) c.args.cells.now.items c.reach.new.cells.items c.settled.result refl (returns-in_default-clause-step g c s (record { cells = refl; texts = refl }) refl)

pub copy-requires : goal.copy-requires
copy-requires g c =
    let p = program_of c.args.program.now in
    let f = function_of c.args.f.now in
    let content = g.S.Store.content c.args.store.now in
    let rows = g.S.Store.rows c.args.store.now in
    let deref = c.deref-in-Copy.ensures.value in
    let at = subst (λ (i : Instr). IsAt p f (step_of i) (state_of (meant p.types content rows) c.args.cells.now.items [] [])) c.in-Copy.is c.requires.at in
    record {
      layouts = c.requires.layouts;
      fits = subst (IsFit p.types content rows) (sym deref) c.requires.fits;
      at = subst (λ (cs : List Cell). IsAt p f (Copy (operand_of c.in-Copy.to) (operand_of c.in-Copy.from)) (state_of (meant p.types content rows) cs [] [])) (sym deref) at;
      bounded = c.requires.bounded;
      countable = c.requires.countable;
      room = c.requires.room;
    }

pub returns-in-Copy-clause-step : goal.returns-in-Copy-clause-step
returns-in-Copy-clause-step g c = λ s set growing.
    let p = program_of c.args.program.now in
    let f = function_of c.args.f.now in
    let m = meant p.types (g.S.Store.content c.args.store.now) (g.S.Store.rows c.args.store.now) in
    let d = meant p.types (g.S.Store.content c.copy.new.store) (g.S.Store.rows c.copy.new.store) in
    subst (λ (i : Instr). LeavesBoth (does s p.types f (step_of i)) m c.args.cells.now.items d c.args.cells.now.items c.copy.result) (sym c.in-Copy.is)
    (subst (λ (cs : List Cell). LeavesBoth (does s p.types f (Copy (operand_of c.in-Copy.to) (operand_of c.in-Copy.from))) m cs d cs c.copy.result) c.deref-in-Copy.ensures.value (c.copy.ensures.step s set))

pub returns-in-Copy-clause-fits : goal.returns-in-Copy-clause-fits
returns-in-Copy-clause-fits g c =
    let p = program_of c.args.program.now in
    let d = g.S.Store.content c.copy.new.store in
    let new = g.S.Store.rows c.copy.new.store in
    subst (λ (cs : List Cell). OnOk c.copy.result (IsFit p.types d new cs)) c.deref-in-Copy.ensures.value c.copy.ensures.fits

pub give-requires : goal.give-requires
give-requires g c =
    let p = program_of c.args.program.now in
    let f = function_of c.args.f.now in
    let content = g.S.Store.content c.args.store.now in
    let rows = g.S.Store.rows c.args.store.now in
    let deref = c.deref-in-Move.ensures.value in
    let at = subst (λ (i : Instr). IsAt p f (step_of i) (state_of (meant p.types content rows) c.args.cells.now.items [] [])) c.in-Move.is c.requires.at in
    record {
      layouts = c.requires.layouts;
      fits = subst (IsFit p.types content rows) (sym deref) c.requires.fits;
      at = subst (λ (cs : List Cell). IsAt p f (Move (operand_of c.in-Move.to) c.in-Move.from) (state_of (meant p.types content rows) cs [] [])) (sym deref) at;
      bounded = c.requires.bounded;
      countable = c.requires.countable;
      room = c.requires.room;
    }

pub returns-in-Move-clause-step : goal.returns-in-Move-clause-step
returns-in-Move-clause-step g c = λ s set growing.
    let p = program_of c.args.program.now in
    let f = function_of c.args.f.now in
    let m = meant p.types (g.S.Store.content c.args.store.now) (g.S.Store.rows c.args.store.now) in
    let d = meant p.types (g.S.Store.content c.give.new.store) (g.S.Store.rows c.give.new.store) in
    subst (λ (i : Instr). LeavesBoth (does s p.types f (step_of i)) m c.args.cells.now.items d c.args.cells.now.items c.give.result) (sym c.in-Move.is)
    (subst (λ (cs : List Cell). LeavesBoth (does s p.types f (Move (operand_of c.in-Move.to) c.in-Move.from)) m cs d cs c.give.result) c.deref-in-Move.ensures.value (c.give.ensures.step s set))

pub returns-in-Move-clause-fits : goal.returns-in-Move-clause-fits
returns-in-Move-clause-fits g c =
    let p = program_of c.args.program.now in
    let d = g.S.Store.content c.give.new.store in
    let new = g.S.Store.rows c.give.new.store in
    subst (λ (cs : List Cell). OnOk c.give.result (IsFit p.types d new cs)) c.deref-in-Move.ensures.value c.give.ensures.fits

pub cursor-requires-clause-places : goal.cursor-requires-clause-places
cursor-requires-clause-places g c =
    let p = program_of c.args.program.now in
    let f = function_of c.args.f.now in
    let st = state_in (meant p.types (g.S.Store.content c.args.store.now) (g.S.Store.rows c.args.store.now)) c.args.cells.now.items in
    subst (λ (i : Instr). HasPlaces p.types f st (step_of i)) c.in-Cursor.is (has_places p f st c.args.layouts.now c.requires.layouts (step_of c.args.instr.now) c.requires.at)

pub returns-in-Cursor-clause-step : goal.returns-in-Cursor-clause-step
returns-in-Cursor-clause-step g c = λ s e growing.
    let p = program_of c.args.program.now in
    let m = meant p.types (g.S.Store.content c.args.store.now) (g.S.Store.rows c.args.store.now) in
    let d = meant p.types (g.S.Store.content c.cursor.new.store) (g.S.Store.rows c.cursor.new.store) in
    subst (λ (i : Instr). LeavesBoth (does s p.types (function_of c.args.f.now) (step_of i)) m c.args.cells.now.items d c.cursor.new.cells.items c.cursor.result) (sym c.in-Cursor.is) (c.cursor.ensures.step s)

pub returns-in-Cursor-clause-later : goal.returns-in-Cursor-clause-later
returns-in-Cursor-clause-later g c =
    let content = g.S.Store.content c.args.store.now in
    let rows = g.S.Store.rows c.args.store.now in
    let d = g.S.Store.content c.cursor.new.store in
    let new = g.S.Store.rows c.cursor.new.store in
    ok_holds c.cursor.result (Later content d rows new) (later_kept content d rows new c.cursor.ensures.keeps)

pub returns-in-Cursor-clause-grows : goal.returns-in-Cursor-clause-grows
returns-in-Cursor-clause-grows g c =
    let births = c.cursor.ensures.keeps.births in
    let clock = c.cursor.ensures.keeps.clock in
    ok_holds c.cursor.result (Grows most_births (g.S.Store.content c.args.store.now) (g.S.Store.content c.cursor.new.store)) (record { births = omega (arith, births); clock = omega (arith, clock) })

pub returns-in-Cursor-clause-bounded : goal.returns-in-Cursor-clause-bounded
returns-in-Cursor-clause-bounded g c =
    let p = program_of c.args.program.now in
    let f = function_of c.args.f.now in
    let m = meant p.types (g.S.Store.content c.args.store.now) (g.S.Store.rows c.args.store.now) in
    let limit = g.S.Store.limit c.args.store.now in
    let s : Setting = record { given = record { growth = c.args.growth; cells = limit; depth = 0 }; texts = p.texts } in
    does_bounded limit s refl p.types f (state_of m c.args.cells.now.items [] []) c.requires.bounded (step_of c.args.instr.now) (subst (λ (i : Instr). StaysPut (step_of i)) (sym c.in-Cursor.is) tt)
    m (meant p.types (g.S.Store.content c.cursor.new.store) (g.S.Store.rows c.cursor.new.store)) c.args.cells.now.items c.cursor.new.cells.items c.cursor.result refl (returns-in-Cursor-clause-step g c s (record { cells = refl; texts = refl }) refl)

pub make-requires : goal.make-requires
make-requires g c =
    let p = program_of c.args.program.now in
    let f = function_of c.args.f.now in
    let content = g.S.Store.content c.args.store.now in
    let rows = g.S.Store.rows c.args.store.now in
    record {
      layouts = c.requires.layouts;
      fits = c.requires.fits;
      at = subst (λ (i : Instr). IsAt p f (step_of i) (state_of (meant p.types content rows) c.args.cells.now.items [] [])) c.in-Make.is c.requires.at;
      bounded = c.requires.bounded;
      countable = c.requires.countable;
      room = c.requires.room;
    }

pub returns-in-Make-clause-step : goal.returns-in-Make-clause-step
returns-in-Make-clause-step g c = λ s set growing.
    let p = program_of c.args.program.now in
    let f = function_of c.args.f.now in
    let m = meant p.types (g.S.Store.content c.args.store.now) (g.S.Store.rows c.args.store.now) in
    let d = meant p.types (g.S.Store.content c.make.new.store) (g.S.Store.rows c.make.new.store) in
    subst (λ (i : Instr). LeavesBoth (does s p.types f (step_of i)) m c.args.cells.now.items d c.make.new.cells.items c.make.result) (sym c.in-Make.is) (c.make.ensures.step s set)

pub change-requires : goal.change-requires
change-requires g c =
    let p = program_of c.args.program.now in
    let f = function_of c.args.f.now in
    let content = g.S.Store.content c.args.store.now in
    let rows = g.S.Store.rows c.args.store.now in
    record {
      layouts = c.requires.layouts;
      fits = c.requires.fits;
      at = subst (λ (i : Instr). IsAt p f (step_of i) (state_of (meant p.types content rows) c.args.cells.now.items [] [])) c.in-Change.is c.requires.at;
      bounded = c.requires.bounded;
      countable = c.requires.countable;
      room = c.requires.room;
    }

pub returns-in-Change-clause-step : goal.returns-in-Change-clause-step
returns-in-Change-clause-step g c = λ s set growing.
    let p = program_of c.args.program.now in
    let f = function_of c.args.f.now in
    let m = meant p.types (g.S.Store.content c.args.store.now) (g.S.Store.rows c.args.store.now) in
    let d = meant p.types (g.S.Store.content c.change.new.store) (g.S.Store.rows c.change.new.store) in
    subst (λ (i : Instr). LeavesBoth (does s p.types f (step_of i)) m c.args.cells.now.items d c.change.new.cells.items c.change.result) (sym c.in-Change.is) (c.change.ensures.step s set growing)
