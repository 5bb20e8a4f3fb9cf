use Rattle.std.proofs.Common.{List, None, Some, ap, subst, sym, ◌∙◌, arith}
use Rattle.std.proofs.lemmas.List.{length-map}
use Rattle.std.proofs.lemmas.Option.{slice_get-map, slice_get_read}
use Rattle.std.specs.Prelude.{option_map}
use Rattle.life_core.specs.Function.{function_of, program_of}
use Rattle.life_core.specs.Link.{leads_seen}
use Rattle.life_core.specs.Step.{asked_of}
use Rattle.life_cells.specs.Cells.{state_in}
use Rattle.life_cells.specs.Fits.{meant, IsFit}
use Rattle.life_cells.specs.declared.cell.Cell.{Cell}
use Rattle.life_cells.proofs.FitLemmas.{other_cells}
use Rattle.life_interp.specs.Accessed.{HasTested}
use Rattle.life_interp.specs.Frames.{all_cells, waiting_cells}
use Rattle.life_interp.specs.Walking.{Asks}
use Rattle.life_interp.proofs.AskLemmas.{asks_nothing, asks_on, led_on}
use Rattle.life_interp.proofs.CodeLists.{function_there}
use Rattle.life_interp.proofs.FitLemmas.{fit_behind}
use Rattle.life_interp.proofs.SoundFrames.{test_here}
use Rattle.life_interp.proofs.TestedPlaces.{has_tested}
use Rattle.life_interp.proofs.point.choose.Goals as goal

pub ask-requires-clause-fits : goal.ask-requires-clause-fits
ask-requires-clause-fits g c =
    let p = program_of c.args.program.now in
    let frames = c.args.frames.now in
    let content = g.S.Store.content c.args.store.now in
    let rows = g.S.Store.rows c.args.store.now in
    subst (IsFit p.types content rows) (sym c.deref-3.ensures.value)
    (other_cells p.types content rows (all_cells frames) frames.cells.items c.requires.fits (fit_behind _ _ (waiting_cells frames.waiting.items) frames.cells.items c.requires.fits.held))

pub ask-requires-clause-tested : goal.ask-requires-clause-tested
ask-requires-clause-tested g c =
    let p = program_of c.args.program.now in
    let frames = c.args.frames.now in
    let content = meant p.types (g.S.Store.content c.args.store.now) (g.S.Store.rows c.args.store.now) in
    let all = c.args.program.now.functions in
    let at = slice_get_read all.items all.len frames.function c.index-f.result.now all.ok.0 (omega (arith, c.requires.frames.here, length-map all.items function_of, all.ok.0)) c.index-f.ensures in
    let f_is = function_there p.functions frames.function (function_of c.index-f.result.now) (slice_get-map function_of all.items frames.function ∙ ap (option_map function_of) at) in
    subst (λ (cs : List Cell). HasTested p.types (function_of c.index-f.result.now) (state_in content cs) (asked_of c.args.test.now)) (sym c.deref-3.ensures.value)
    (has_tested p (function_of c.index-f.result.now) (state_in content frames.cells.items) c.args.layouts.now c.requires.layouts (asked_of c.args.test.now)
    (test_here p frames content c.requires.sound c.requires.here.0 (asked_of c.args.test.now) (leads_seen c.args.leads) c.requires.here.1 (function_of c.index-f.result.now) f_is))

pub returns-in-None-clause-step : goal.returns-in-None-clause-step
returns-in-None-clause-step g c = λ s ins.
    let p = program_of c.args.program.now in
    let frames = c.args.frames.now in
    let content = meant p.types (g.S.Store.content c.args.store.now) (g.S.Store.rows c.args.store.now) in
    let all = c.args.program.now.functions in
    let at = slice_get_read all.items all.len frames.function c.index-f.result.now all.ok.0 (omega (arith, c.requires.frames.here, length-map all.items function_of, all.ok.0)) c.index-f.ensures in
    let f_is = function_there p.functions frames.function (function_of c.index-f.result.now) (slice_get-map function_of all.items frames.function ∙ ap (option_map function_of) at) in
    asks_nothing s p frames content ins (asked_of c.args.test.now) (leads_seen c.args.leads) (function_of c.index-f.result.now) f_is
    (subst (λ (cs : List Cell). Asks p.types (function_of c.index-f.result.now) (asked_of c.args.test.now) content cs None) c.deref-3.ensures.value c.in-None.ensures)

pub returns-in-Some-clause-step : goal.returns-in-Some-clause-step
returns-in-Some-clause-step g c = λ s ins.
    let p = program_of c.args.program.now in
    let frames = c.args.frames.now in
    let content = meant p.types (g.S.Store.content c.args.store.now) (g.S.Store.rows c.args.store.now) in
    let all = c.args.program.now.functions in
    let at = slice_get_read all.items all.len frames.function c.index-f.result.now all.ok.0 (omega (arith, c.requires.frames.here, length-map all.items function_of, all.ok.0)) c.index-f.ensures in
    let f_is = function_there p.functions frames.function (function_of c.index-f.result.now) (slice_get-map function_of all.items frames.function ∙ ap (option_map function_of) at) in
    asks_on s p frames content ins (asked_of c.args.test.now) (leads_seen c.args.leads) (function_of c.index-f.result.now) f_is c.way_on-frames.result c.in-Some.holds
    (subst (λ (cs : List Cell). Asks p.types (function_of c.index-f.result.now) (asked_of c.args.test.now) content cs (Some c.in-Some.holds)) c.deref-3.ensures.value c.in-Some.ensures)
    c.way_on-frames.ensures

pub returns-in-Some-clause-point : goal.returns-in-Some-clause-point
returns-in-Some-clause-point g c = led_on c.in-Some.holds (leads_seen c.args.leads) c.way_on-frames.result c.way_on-frames.ensures
