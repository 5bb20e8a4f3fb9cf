use Rattle.std.proofs.Common.{◌++◌, List, [], drop, map, ap, refl, subst, sym, ◌∙◌, arith}
use Rattle.std.proofs.lemmas.List.{length-map}
use Rattle.std.proofs.lemmas.Option.{slice_get-map, slice_get_read}
use Rattle.std.specs.Prelude.{option_map}
use Rattle.life_core.specs.Function.{function_of, program_of}
use Rattle.life_core.specs.Linked.{goes}
use Rattle.life_core.specs.Operands.{argument_of, location_of}
use Rattle.life_core.specs.Step.{Call, step_of}
use Rattle.life_core.specs.Tree.{Action}
use Rattle.life_core.specs.declared.instr.Instr.{Instr}
use Rattle.life_core.specs.declared.operand.Argument.{Argument}
use Rattle.life_store.specs.Doing.{Setting}
use Rattle.life_interp.specs.Frames.{all_cells, waiting_cells}
use Rattle.life_interp.specs.Walking.{acts, Moves, PointEnds, PointLeads, StandsHere, Sunk}
use Rattle.life_cells.specs.Fits.{meant}
use Rattle.life_interp.proofs.CodeLists.{function_there}
use Rattle.life_cells.proofs.FitLemmas.{cells_later, other_cells}
use Rattle.life_interp.proofs.FitLemmas.{fit_behind, fit_both, fit_front}
use Rattle.life_interp.proofs.PointLemmas.{act_ends, act_goes, leads_quiet, own_else}
use Rattle.life_interp.proofs.SoundFrames.{own_at, own_sound}
use Rattle.life_interp.proofs.WalkLemmas.{untouched}
use Rattle.life_interp.proofs.point.act.Goals as goal

pub perform-requires : goal.perform-requires
perform-requires g c =
    let p = program_of c.args.program.now in
    let frames = c.args.frames.now in
    let content = meant p.types (g.S.Store.content c.args.store.now) (g.S.Store.rows c.args.store.now) in
    let all = c.args.program.now.functions in
    let at = slice_get_read all.items all.len frames.function c.index-f.result.now all.ok.0 (omega (arith, c.requires.frames.here, length-map all.items function_of, all.ok.0)) c.index-f.ensures in
    let f_is = function_there p.functions frames.function (function_of c.index-f.result.now) (slice_get-map function_of all.items frames.function ∙ ap (option_map function_of) at) in
    record {
      own = own_else c.args.instr.now (λ target f xs e. c.in_default.not-Call target f xs e);
      layouts = c.requires.layouts;
      fits = other_cells p.types (g.S.Store.content c.args.store.now) (g.S.Store.rows c.args.store.now) (all_cells frames) frames.cells.items c.requires.fits (fit_behind _ _ (waiting_cells frames.waiting.items) frames.cells.items c.requires.fits.held);
      at = own_at p frames content c.requires.sound c.args.place (step_of c.args.instr.now) c.args.to c.requires.here (function_of c.index-f.result.now) f_is;
      bounded = c.requires.bounded;
      countable = c.requires.countable;
      room = c.requires.room;
    }

pub call-requires-clause-here : goal.call-requires-clause-here
call-requires-clause-here g c =
    let p = program_of c.args.program.now in
    subst (λ (xs : List Argument). StandsHere p c.args.frames.now c.args.place (Action (Call (option_map location_of c.in-Call.target) c.in-Call.function (map argument_of xs))) (goes c.args.to)) (sym c.deref.ensures.value)
    (subst (λ (i : Instr). StandsHere p c.args.frames.now c.args.place (Action (step_of i)) (goes c.args.to)) c.in-Call.is c.requires.here)

pub returns-in-Call-clause-step : goal.returns-in-Call-clause-step
returns-in-Call-clause-step g c = λ s set growing depth.
    let p = program_of c.args.program.now in
    let frames = c.args.frames.now in
    let content = meant (program_of c.args.program.now).types (g.S.Store.content c.args.store.now) (g.S.Store.rows c.args.store.now) in
    let ins = drop c.args.taken.now c.args.input.now in
    let after = meant (program_of c.args.program.now).types (g.S.Store.content c.call.new.store) (g.S.Store.rows c.call.new.store) in
    let k : Sunk = record { old = g.O.Sink.taken c.args.out.now; new = g.O.Sink.taken c.args.out.now; faults = g.O.Sink.faults c.args.out.now; later = g.O.Sink.faults c.args.out.now } in
    let called = subst (λ (xs : List Argument). Moves (acts s p frames content ins (Call (option_map location_of c.in-Call.target) c.in-Call.function (map argument_of xs)) c.args.place c.args.to) p.functions content c.call.new.frames after ins c.call.result)
    c.deref.ensures.value (c.call.ensures.step s ins set depth) in
    subst (λ (i : Instr). PointLeads (acts s p frames content ins (step_of i) c.args.place c.args.to) p.functions content ins c.call.new.frames after ins k c.call.result) (sym c.in-Call.is)
    (leads_quiet _ p.functions content ins c.call.new.frames after k c.call.result (untouched (g.O.Sink.taken c.args.out.now) (g.O.Sink.faults c.args.out.now)) called)

pub returns-in-Err : goal.returns-in-Err
returns-in-Err g c = record {
  step = λ s set growing depth.
      let p = program_of c.args.program.now in
      let frames = c.args.frames.now in
      let content = meant (program_of c.args.program.now).types (g.S.Store.content c.args.store.now) (g.S.Store.rows c.args.store.now) in
      let ins = drop c.args.taken.now c.args.input.now in
      let all = c.args.program.now.functions in
      let at = slice_get_read all.items all.len frames.function c.index-f.result.now all.ok.0 (omega (arith, c.requires.frames.here, length-map all.items function_of, all.ok.0)) c.index-f.ensures in
      let f_is = function_there p.functions frames.function (function_of c.index-f.result.now) (slice_get-map function_of all.items frames.function ∙ ap (option_map function_of) at) in
      let own = own_else c.args.instr.now (λ target f xs e. c.in_default.not-Call target f xs e) in
      let k : Sunk = record { old = g.O.Sink.taken c.args.out.now; new = g.O.Sink.taken c.perform.new.out; faults = g.O.Sink.faults c.args.out.now; later = g.O.Sink.faults c.perform.new.out } in
      subst (PointEnds (acts s p frames content ins (step_of c.args.instr.now) c.args.place c.args.to) p.functions content ins k) (sym c.halt_at.ensures)
      (act_ends s p frames content ins c.args.place c.args.to (step_of c.args.instr.now) own (function_of c.index-f.result.now) f_is k c.in-Err.ending (c.in-Err.ensures.step s set growing));
  frames = tt;
  fits = tt;
  sound = tt;
  bounded = tt;
  grows = tt;
  limit = c.perform.ensures.limit;
}

pub returns-in-Ok : goal.returns-in-Ok
returns-in-Ok g c = record {
  step = λ s set growing depth.
      let p = program_of c.args.program.now in
      let frames = c.args.frames.now in
      let content = meant (program_of c.args.program.now).types (g.S.Store.content c.args.store.now) (g.S.Store.rows c.args.store.now) in
      let ins = drop c.args.taken.now c.args.input.now in
      let all = c.args.program.now.functions in
      let at = slice_get_read all.items all.len frames.function c.index-f.result.now all.ok.0 (omega (arith, c.requires.frames.here, length-map all.items function_of, all.ok.0)) c.index-f.ensures in
      let f_is = function_there p.functions frames.function (function_of c.index-f.result.now) (slice_get-map function_of all.items frames.function ∙ ap (option_map function_of) at) in
      let own = own_else c.args.instr.now (λ target f xs e. c.in_default.not-Call target f xs e) in
      let went = c.in-Ok.ensures.step s set growing in
      (went.0, went.1, act_goes s p frames content ins c.args.place c.args.to (step_of c.args.instr.now) own (function_of c.index-f.result.now) f_is (meant p.types (g.S.Store.content c.perform.new.store) (g.S.Store.rows c.perform.new.store)) c.perform.new.cells.items (drop c.perform.new.taken c.args.input.now) went.0 went.2);
  frames = record { here = c.requires.frames.here; there = c.requires.frames.there };
  fits =
      let frames = c.args.frames.now in
      let content = g.S.Store.content c.args.store.now in
      let rows = g.S.Store.rows c.args.store.now in
      let waiting = cells_later content _ rows _ c.in-Ok.ensures.later (waiting_cells frames.waiting.items) (fit_front content rows (waiting_cells frames.waiting.items) frames.cells.items c.requires.fits.held) in
      other_cells _ _ _ c.perform.new.cells.items (waiting_cells frames.waiting.items ++ c.perform.new.cells.items) c.in-Ok.ensures.fits (fit_both _ _ (waiting_cells frames.waiting.items) c.perform.new.cells.items waiting c.in-Ok.ensures.fits.held);
  sound =
      let p = program_of c.args.program.now in
      let frames = c.args.frames.now in
      let content = meant p.types (g.S.Store.content c.args.store.now) (g.S.Store.rows c.args.store.now) in
      let ins = drop c.args.taken.now c.args.input.now in
      let all = c.args.program.now.functions in
      let at = slice_get_read all.items all.len frames.function c.index-f.result.now all.ok.0 (omega (arith, c.requires.frames.here, length-map all.items function_of, all.ok.0)) c.index-f.ensures in
      let f_is = function_there p.functions frames.function (function_of c.index-f.result.now) (slice_get-map function_of all.items frames.function ∙ ap (option_map function_of) at) in
      let own = own_else c.args.instr.now (λ target f xs e. c.in_default.not-Call target f xs e) in
      let s : Setting = record { given = record { growth = c.args.growth; cells = g.S.Store.limit c.args.store.now; depth = c.args.depth }; texts = p.texts } in
      let went = c.in-Ok.ensures.step s (record { cells = refl; texts = refl }) refl in
      own_sound p frames content c.requires.sound c.args.place (step_of c.args.instr.now) c.args.to c.requires.here own (function_of c.index-f.result.now) f_is s ins (drop c.perform.new.taken c.args.input.now) went.0
      (meant p.types (g.S.Store.content c.perform.new.store) (g.S.Store.rows c.perform.new.store)) c.perform.new.cells.items (went.2 []);
  bounded = c.in-Ok.ensures.bounded;
  grows = c.in-Ok.ensures.grows;
  limit = c.perform.ensures.limit;
}
