use Rattle.std.proofs.Common.{◌≡◌, ◌+◌, ◌<◌, List, [], ℕ, Some, length, map, ap, refl, subst, sym, ◌∙◌, arith}
use Rattle.std.proofs.lemmas.List.{length-map}
use Rattle.std.proofs.lemmas.Option.{slice_get-map, slice_get_read}
use Rattle.std.specs.Prelude.{option_map}
use Rattle.life_core.specs.Function.{Function, function_of, program_of}
use Rattle.life_core.specs.Operands.{argument_of, location_of}
use Rattle.life_core.specs.Step.{Call}
use Rattle.life_store.specs.Doing.{Setting}
use Rattle.life_store.specs.declared.run.Growth.TheVariants.{Always}
use Rattle.life_store.specs.Calls.{all_handed, lent}
use Rattle.life_store.specs.State.{State}
use Rattle.life_changes.specs.Bounded.{IsBounded}
use Rattle.life_cells.specs.Cells.{cells_seen, state_of}
use Rattle.life_cells.specs.Fits.{meant, CellsFit}
use Rattle.life_interp.specs.CallOperands.{AreArgumentPlaces}
use Rattle.life_interp.specs.Frames.{all_cells, function_at, waiting_cells}
use Rattle.life_interp.specs.Steps.{TellsNone}
use Rattle.life_interp.specs.Walking.{acts, Halts}
use Rattle.life_cells.specs.declared.cell.Cell.{Cell}
use Rattle.life_interp.proofs.ArgumentPlaces.{call_places}
use Rattle.life_interp.proofs.BoundedSteps.{given_bounded}
use Rattle.life_interp.proofs.CallLemmas.{enters, too_deep, unentered, unhanded}
use Rattle.life_interp.proofs.CodeLists.{function_there, there_at}
use Rattle.life_cells.proofs.FitLemmas.{cells_later, later_kept, other_cells}
use Rattle.life_interp.proofs.FitLemmas.{fit_behind, fit_both, fit_front, kept_step}
use Rattle.life_interp.proofs.FrameLemmas.{wait_fits}
use Rattle.life_interp.proofs.HandedLemmas.{lent_places}
use Rattle.life_interp.proofs.SlotBirths.{suit_slots}
use Rattle.life_interp.proofs.SlotBounds.{lent_bounded}
use Rattle.life_interp.proofs.SoundFrames.{called_sound, called_taken, own_at}
use Rattle.life_interp.proofs.StepLemmas.{ok_holds}
use Rattle.life_interp.proofs.calls.call.Goals as goal

-- the function at hand
pub index-f-requires : goal.index-f-requires
index-f-requires g c =
    let all = c.args.program.now.functions in
    omega (arith, c.requires.frames.here, length-map all.items function_of, all.ok.0)

pub all_handed-requires-clause-fits : goal.all_handed-requires-clause-fits
all_handed-requires-clause-fits g c =
    let content = g.S.Store.content c.args.store.now in
    let rows = g.S.Store.rows c.args.store.now in
    let frames = c.args.frames.now in
    other_cells (program_of c.args.program.now).types content rows (all_cells frames) c.deref-3.result.now c.requires.fits
    (subst (CellsFit content rows) (sym c.deref-3.ensures.value) (fit_behind content rows (waiting_cells frames.waiting.items) frames.cells.items c.requires.fits.held))

pub all_handed-requires-clause-places : goal.all_handed-requires-clause-places
all_handed-requires-clause-places g c =
    let p = program_of c.args.program.now in
    let frames = c.args.frames.now in
    let content = meant p.types (g.S.Store.content c.args.store.now) (g.S.Store.rows c.args.store.now) in
    let f = function_of c.index-f.result.now in
    let target = option_map location_of c.args.target.now in
    let arguments = map argument_of c.args.arguments.now in
    let at = own_at p frames content c.requires.sound c.args.place (Call target c.args.function arguments) c.args.to c.requires.here f (function_there p.functions frames.function (function_of c.index-f.result.now) (slice_get-map function_of c.args.program.now.functions.items frames.function ∙ ap (option_map function_of) (slice_get_read c.args.program.now.functions.items c.args.program.now.functions.len frames.function c.index-f.result.now c.args.program.now.functions.ok.0 (omega (arith, c.requires.frames.here, length-map c.args.program.now.functions.items function_of, c.args.program.now.functions.ok.0)) c.index-f.ensures))) in
    subst (λ (cells : List Cell). AreArgumentPlaces p.types f (state_of content cells [] []) arguments) (sym c.deref-3.ensures.value)
    (call_places p f (state_of content frames.cells.items [] []) target c.args.function arguments at c.requires.layouts.narrow)

pub returns-in-Err-clause-step : goal.returns-in-Err-clause-step
returns-in-Err-clause-step g c = λ s ins set depth.
    let p = program_of c.args.program.now in
    let frames = c.args.frames.now in
    let content = meant p.types (g.S.Store.content c.args.store.now) (g.S.Store.rows c.args.store.now) in
    let target = option_map location_of c.args.target.now in
    let arguments = map argument_of c.args.arguments.now in
    subst (Halts (acts s p frames content ins (Call target c.args.function arguments) c.args.place c.args.to) content ins) (sym c.halt_at.ensures)
    (unhanded s p frames content ins target c.args.function arguments c.args.place c.args.to c.in-Err.ending
    (λ output. subst (λ (k : Function). TellsNone (all_handed p.types k (state_of content frames.cells.items output ins) arguments) c.in-Err.ending) (sym (function_there p.functions frames.function (function_of c.index-f.result.now) (slice_get-map function_of c.args.program.now.functions.items frames.function ∙ ap (option_map function_of) (slice_get_read c.args.program.now.functions.items c.args.program.now.functions.len frames.function c.index-f.result.now c.args.program.now.functions.ok.0 (omega (arith, c.requires.frames.here, length-map c.args.program.now.functions.items function_of, c.args.program.now.functions.ok.0)) c.index-f.ensures))))
    (subst (λ (cells : List Cell). TellsNone (all_handed p.types (function_of c.index-f.result.now) (state_of content cells output ins) arguments) c.in-Err.ending) c.deref-3.ensures.value (c.in-Err.ensures.step output ins))))

pub returns-then-len-depth-clause-step : goal.returns-then-len-depth-clause-step
returns-then-len-depth-clause-step g c = λ s ins set depth.
    let p = program_of c.args.program.now in
    let frames = c.args.frames.now in
    let content = meant p.types (g.S.Store.content c.args.store.now) (g.S.Store.rows c.args.store.now) in
    let target = option_map location_of c.args.target.now in
    let arguments = map argument_of c.args.arguments.now in
    let f_is = function_there p.functions frames.function (function_of c.index-f.result.now) (slice_get-map function_of c.args.program.now.functions.items frames.function ∙ ap (option_map function_of) (slice_get_read c.args.program.now.functions.items c.args.program.now.functions.len frames.function c.index-f.result.now c.args.program.now.functions.ok.0 (omega (arith, c.requires.frames.here, length-map c.args.program.now.functions.items function_of, c.args.program.now.functions.ok.0)) c.index-f.ensures)) in
    let handed : (output : List ℕ) → all_handed p.types (function_at p.functions frames.function) (state_of content frames.cells.items output ins) arguments ≡ Some (cells_seen c.in-Ok.values.items) = λ output.
    ap (λ (k : Function). all_handed p.types k (state_of content frames.cells.items output ins) arguments) f_is
    ∙ ap (λ (cells : List Cell). all_handed p.types (function_of c.index-f.result.now) (state_of content cells output ins) arguments) (sym c.deref-3.ensures.value)
    ∙ c.in-Ok.ensures.step output ins in
    too_deep s p frames content ins target c.args.function arguments c.args.place c.args.to (cells_seen c.in-Ok.values.items) handed (omega (arith, c.if-len-depth.true, c.len.ensures, frames.waiting.ok.0, depth))

pub lend-requires-clause-fits : goal.lend-requires-clause-fits
lend-requires-clause-fits g c =
    let content = g.S.Store.content c.args.store.now in
    let rows = g.S.Store.rows c.args.store.now in
    let frames = c.args.frames.now in
    other_cells (program_of c.args.program.now).types content rows (all_cells frames) frames.cells.items c.requires.fits (fit_behind content rows (waiting_cells frames.waiting.items) frames.cells.items c.requires.fits.held)

pub lend-requires-clause-places : goal.lend-requires-clause-places
lend-requires-clause-places g c =
    let p = program_of c.args.program.now in
    let frames = c.args.frames.now in
    let content = meant p.types (g.S.Store.content c.args.store.now) (g.S.Store.rows c.args.store.now) in
    let f = function_of c.index-f.result.now in
    let target = option_map location_of c.args.target.now in
    let arguments = map argument_of c.args.arguments.now in
    let at = own_at p frames content c.requires.sound c.args.place (Call target c.args.function arguments) c.args.to c.requires.here f (function_there p.functions frames.function (function_of c.index-f.result.now) (slice_get-map function_of c.args.program.now.functions.items frames.function ∙ ap (option_map function_of) (slice_get_read c.args.program.now.functions.items c.args.program.now.functions.len frames.function c.index-f.result.now c.args.program.now.functions.ok.0 (omega (arith, c.requires.frames.here, length-map c.args.program.now.functions.items function_of, c.args.program.now.functions.ok.0)) c.index-f.ensures))) in
    lent_places p.types f (state_of content frames.cells.items [] []) arguments (call_places p f (state_of content frames.cells.items [] []) target c.args.function arguments at c.requires.layouts.narrow)

pub entered-requires-clause-fits : goal.entered-requires-clause-fits
entered-requires-clause-fits g c =
    let content = g.S.Store.content c.args.store.now in
    let rows = g.S.Store.rows c.args.store.now in
    let d = g.S.Store.content c.lend.new.store in
    let new = g.S.Store.rows c.lend.new.store in
    other_cells (program_of c.args.program.now).types d new c.lend.new.cells.items c.deref-in-Ok.result.now c.lend.ensures.fits
    (subst (CellsFit d new) (sym c.deref-in-Ok.ensures.value) (cells_later content d rows new (later_kept content d rows new c.lend.ensures.keeps) c.in-Ok.values.items c.in-Ok.ensures.fits))

pub entered-requires-clause-slots : goal.entered-requires-clause-slots
entered-requires-clause-slots g c =
    let p = program_of c.args.program.now in
    let frames = c.args.frames.now in
    let content = meant p.types (g.S.Store.content c.args.store.now) (g.S.Store.rows c.args.store.now) in
    let lent_content = meant p.types (g.S.Store.content c.lend.new.store) (g.S.Store.rows c.lend.new.store) in
    let left = c.lend.new.cells.items in
    let target = option_map location_of c.args.target.now in
    let arguments = map argument_of c.args.arguments.now in
    let f_is = function_there p.functions frames.function (function_of c.index-f.result.now) (slice_get-map function_of c.args.program.now.functions.items frames.function ∙ ap (option_map function_of) (slice_get_read c.args.program.now.functions.items c.args.program.now.functions.len frames.function c.index-f.result.now c.args.program.now.functions.ok.0 (omega (arith, c.requires.frames.here, length-map c.args.program.now.functions.items function_of, c.args.program.now.functions.ok.0)) c.index-f.ensures)) in
    let handed : (output : List ℕ) → all_handed p.types (function_at p.functions frames.function) (state_of content frames.cells.items output []) arguments ≡ Some (cells_seen c.deref-in-Ok.result.now) = λ output.
    ap (λ (k : Function). all_handed p.types k (state_of content frames.cells.items output []) arguments) f_is
    ∙ ap (λ (cells : List Cell). all_handed p.types (function_of c.index-f.result.now) (state_of content cells output []) arguments) (sym c.deref-3.ensures.value)
    ∙ c.in-Ok.ensures.step output []
    ∙ ap (λ (cells : List Cell). Some (cells_seen cells)) (sym c.deref-in-Ok.ensures.value) in
    let lends : (output : List ℕ) → lent p.types (function_at p.functions frames.function) arguments (state_of content frames.cells.items output []) ≡ state_of lent_content left output [] = λ output.
    ap (λ (k : Function). lent p.types k arguments (state_of content frames.cells.items output [])) f_is ∙ c.lend.ensures.lent output [] in
    suit_slots p.types c.requires.sound.proper.well_formed.table (g.S.Store.content c.lend.new.store) (g.S.Store.rows c.lend.new.store) c.lend.ensures.fits.housed (function_at p.functions c.args.function.0) c.deref-in-Ok.result.now
    (entered-requires-clause-fits g c).held
    (called_taken p frames content c.requires.sound c.args.place target c.args.function arguments c.args.to c.requires.here (cells_seen c.deref-in-Ok.result.now) (handed []) lent_content left (lends []))

pub entered-requires-clause-countable : goal.entered-requires-clause-countable
entered-requires-clause-countable g c = kept_step (g.S.Store.content c.args.store.now) (g.S.Store.content c.lend.new.store) (g.S.Store.rows c.args.store.now) (g.S.Store.rows c.lend.new.store) c.lend.ensures.keeps c.requires.countable

pub returns-in-Err-entered-clause-step : goal.returns-in-Err-entered-clause-step
returns-in-Err-entered-clause-step g c = λ s ins set depth.
    let p = program_of c.args.program.now in
    let frames = c.args.frames.now in
    let content = meant p.types (g.S.Store.content c.args.store.now) (g.S.Store.rows c.args.store.now) in
    let lent_content = meant p.types (g.S.Store.content c.lend.new.store) (g.S.Store.rows c.lend.new.store) in
    let left = c.lend.new.cells.items in
    let target = option_map location_of c.args.target.now in
    let arguments = map argument_of c.args.arguments.now in
    let f_is = function_there p.functions frames.function (function_of c.index-f.result.now) (slice_get-map function_of c.args.program.now.functions.items frames.function ∙ ap (option_map function_of) (slice_get_read c.args.program.now.functions.items c.args.program.now.functions.len frames.function c.index-f.result.now c.args.program.now.functions.ok.0 (omega (arith, c.requires.frames.here, length-map c.args.program.now.functions.items function_of, c.args.program.now.functions.ok.0)) c.index-f.ensures)) in
    let handed : (output : List ℕ) → all_handed p.types (function_at p.functions frames.function) (state_of content frames.cells.items output ins) arguments ≡ Some (cells_seen c.deref-in-Ok.result.now) = λ output.
    ap (λ (k : Function). all_handed p.types k (state_of content frames.cells.items output ins) arguments) f_is
    ∙ ap (λ (cells : List Cell). all_handed p.types (function_of c.index-f.result.now) (state_of content cells output ins) arguments) (sym c.deref-3.ensures.value)
    ∙ c.in-Ok.ensures.step output ins
    ∙ ap (λ (cells : List Cell). Some (cells_seen cells)) (sym c.deref-in-Ok.ensures.value) in
    let lends : (output : List ℕ) → lent p.types (function_at p.functions frames.function) arguments (state_of content frames.cells.items output ins) ≡ state_of lent_content left output ins = λ output.
    ap (λ (k : Function). lent p.types k arguments (state_of content frames.cells.items output ins)) f_is ∙ c.lend.ensures.lent output ins in
    let lt : length frames.waiting.items + 1 < s.given.depth = omega (arith, c.if-len-depth.false, c.len.ensures, frames.waiting.ok.0, depth) in
    unentered s p frames content ins target c.args.function arguments c.args.place c.args.to (cells_seen c.deref-in-Ok.result.now) handed lent_content left lends lt c.in-Err-entered.halt (c.in-Err-entered.ensures.step s (set.cells ∙ sym c.lend.ensures.limit))

pub returns-clause-step : goal.returns-clause-step
returns-clause-step g c = λ s ins set depth.
    let p = program_of c.args.program.now in
    let frames = c.args.frames.now in
    let content = meant p.types (g.S.Store.content c.args.store.now) (g.S.Store.rows c.args.store.now) in
    let lent_content = meant p.types (g.S.Store.content c.lend.new.store) (g.S.Store.rows c.lend.new.store) in
    let left = c.lend.new.cells.items in
    let target = option_map location_of c.args.target.now in
    let arguments = map argument_of c.args.arguments.now in
    let f_is = function_there p.functions frames.function (function_of c.index-f.result.now) (slice_get-map function_of c.args.program.now.functions.items frames.function ∙ ap (option_map function_of) (slice_get_read c.args.program.now.functions.items c.args.program.now.functions.len frames.function c.index-f.result.now c.args.program.now.functions.ok.0 (omega (arith, c.requires.frames.here, length-map c.args.program.now.functions.items function_of, c.args.program.now.functions.ok.0)) c.index-f.ensures)) in
    let handed : (output : List ℕ) → all_handed p.types (function_at p.functions frames.function) (state_of content frames.cells.items output ins) arguments ≡ Some (cells_seen c.deref-in-Ok.result.now) = λ output.
    ap (λ (k : Function). all_handed p.types k (state_of content frames.cells.items output ins) arguments) f_is
    ∙ ap (λ (cells : List Cell). all_handed p.types (function_of c.index-f.result.now) (state_of content cells output ins) arguments) (sym c.deref-3.ensures.value)
    ∙ c.in-Ok.ensures.step output ins
    ∙ ap (λ (cells : List Cell). Some (cells_seen cells)) (sym c.deref-in-Ok.ensures.value) in
    let lends : (output : List ℕ) → lent p.types (function_at p.functions frames.function) arguments (state_of content frames.cells.items output ins) ≡ state_of lent_content left output ins = λ output.
    ap (λ (k : Function). lent p.types k arguments (state_of content frames.cells.items output ins)) f_is ∙ c.lend.ensures.lent output ins in
    let lt : length frames.waiting.items + 1 < s.given.depth = omega (arith, c.if-len-depth.false, c.len.ensures, frames.waiting.ok.0, depth) in
    let fs = p.functions in
    enters s p frames content ins target c.args.function arguments c.args.place c.args.to (cells_seen c.deref-in-Ok.result.now) handed lent_content left lends lt
    (meant p.types (g.S.Store.content c.entered.new.store) (g.S.Store.rows c.entered.new.store)) c.in-Ok-entered.cells.items c.wait.new.frames c.wait.result (c.in-Ok-entered.ensures.step s (set.cells ∙ sym c.lend.ensures.limit))
    (c.requires.begin c.args.function.0 (function_at fs c.args.function.0) (there_at fs c.args.function.0 c.in-Ok-entered.ensures.there))
    c.wait.ensures.function c.wait.ensures.point c.wait.ensures.cells c.wait.ensures.stack c.wait.ensures.memory

pub returns-clause-fits : goal.returns-clause-fits
returns-clause-fits g c =
    let content = g.S.Store.content c.args.store.now in
    let rows = g.S.Store.rows c.args.store.now in
    let b = g.S.Store.content c.lend.new.store in
    let mid = g.S.Store.rows c.lend.new.store in
    let d = g.S.Store.content c.entered.new.store in
    let new = g.S.Store.rows c.entered.new.store in
    let frames = c.args.frames.now in
    let waiting = waiting_cells frames.waiting.items in
    let first = later_kept content b rows mid c.lend.ensures.keeps in
    let held = cells_later b d mid new c.in-Ok-entered.ensures.later waiting (cells_later content b rows mid first waiting (fit_front content rows waiting frames.cells.items c.requires.fits.held)) in
    let lent_held = cells_later b d mid new c.in-Ok-entered.ensures.later c.lend.new.cells.items c.lend.ensures.fits.held in
    wait_fits (program_of c.args.program.now).types d new (record frames { cells = c.lend.new.cells }) c.wait.new.frames c.in-Ok-entered.cells.items c.wait.result c.wait.ensures.cells c.wait.ensures.held c.in-Ok-entered.ensures.fits
    (fit_both d new waiting c.lend.new.cells.items held lent_held)

pub returns-clause-sound : goal.returns-clause-sound
returns-clause-sound g c =
    let p = program_of c.args.program.now in
    let frames = c.args.frames.now in
    let content = meant p.types (g.S.Store.content c.args.store.now) (g.S.Store.rows c.args.store.now) in
    let lent_content = meant p.types (g.S.Store.content c.lend.new.store) (g.S.Store.rows c.lend.new.store) in
    let left = c.lend.new.cells.items in
    let target = option_map location_of c.args.target.now in
    let arguments = map argument_of c.args.arguments.now in
    let f_is = function_there p.functions frames.function (function_of c.index-f.result.now) (slice_get-map function_of c.args.program.now.functions.items frames.function ∙ ap (option_map function_of) (slice_get_read c.args.program.now.functions.items c.args.program.now.functions.len frames.function c.index-f.result.now c.args.program.now.functions.ok.0 (omega (arith, c.requires.frames.here, length-map c.args.program.now.functions.items function_of, c.args.program.now.functions.ok.0)) c.index-f.ensures)) in
    let handed : (output : List ℕ) → all_handed p.types (function_at p.functions frames.function) (state_of content frames.cells.items output []) arguments ≡ Some (cells_seen c.deref-in-Ok.result.now) = λ output.
    ap (λ (k : Function). all_handed p.types k (state_of content frames.cells.items output []) arguments) f_is
    ∙ ap (λ (cells : List Cell). all_handed p.types (function_of c.index-f.result.now) (state_of content cells output []) arguments) (sym c.deref-3.ensures.value)
    ∙ c.in-Ok.ensures.step output []
    ∙ ap (λ (cells : List Cell). Some (cells_seen cells)) (sym c.deref-in-Ok.ensures.value) in
    let lends : (output : List ℕ) → lent p.types (function_at p.functions frames.function) arguments (state_of content frames.cells.items output []) ≡ state_of lent_content left output [] = λ output.
    ap (λ (k : Function). lent p.types k arguments (state_of content frames.cells.items output [])) f_is ∙ c.lend.ensures.lent output [] in
    let s : Setting = record { given = record { growth = Always; cells = g.S.Store.limit c.args.store.now; depth = c.args.depth }; texts = p.texts } in
    called_sound p frames content c.requires.sound c.args.place target c.args.function arguments c.args.to c.requires.here c.in-Ok-entered.ensures.there c.requires.begin (cells_seen c.deref-in-Ok.result.now) (handed []) s lent_content left (lends [])
    (meant p.types (g.S.Store.content c.entered.new.store) (g.S.Store.rows c.entered.new.store)) c.in-Ok-entered.cells.items (c.in-Ok-entered.ensures.begins s (sym c.lend.ensures.limit) [] []) c.wait.new.frames c.wait.result
    c.wait.ensures.function c.wait.ensures.point c.wait.ensures.cells c.wait.ensures.stack

pub returns-clause-bounded : goal.returns-clause-bounded
returns-clause-bounded g c =
    let p = program_of c.args.program.now in
    let frames = c.args.frames.now in
    let content = meant p.types (g.S.Store.content c.args.store.now) (g.S.Store.rows c.args.store.now) in
    let lent_content = meant p.types (g.S.Store.content c.lend.new.store) (g.S.Store.rows c.lend.new.store) in
    let left = c.lend.new.cells.items in
    let target = option_map location_of c.args.target.now in
    let arguments = map argument_of c.args.arguments.now in
    let f_is = function_there p.functions frames.function (function_of c.index-f.result.now) (slice_get-map function_of c.args.program.now.functions.items frames.function ∙ ap (option_map function_of) (slice_get_read c.args.program.now.functions.items c.args.program.now.functions.len frames.function c.index-f.result.now c.args.program.now.functions.ok.0 (omega (arith, c.requires.frames.here, length-map c.args.program.now.functions.items function_of, c.args.program.now.functions.ok.0)) c.index-f.ensures)) in
    let handed : (output : List ℕ) → all_handed p.types (function_at p.functions frames.function) (state_of content frames.cells.items output []) arguments ≡ Some (cells_seen c.deref-in-Ok.result.now) = λ output.
    ap (λ (k : Function). all_handed p.types k (state_of content frames.cells.items output []) arguments) f_is
    ∙ ap (λ (cells : List Cell). all_handed p.types (function_of c.index-f.result.now) (state_of content cells output []) arguments) (sym c.deref-3.ensures.value)
    ∙ c.in-Ok.ensures.step output []
    ∙ ap (λ (cells : List Cell). Some (cells_seen cells)) (sym c.deref-in-Ok.ensures.value) in
    let lends : (output : List ℕ) → lent p.types (function_at p.functions frames.function) arguments (state_of content frames.cells.items output []) ≡ state_of lent_content left output [] = λ output.
    ap (λ (k : Function). lent p.types k arguments (state_of content frames.cells.items output [])) f_is ∙ c.lend.ensures.lent output [] in
    let limit = g.S.Store.limit c.args.store.now in
    let s : Setting = record { given = record { growth = Always; cells = limit; depth = c.args.depth }; texts = p.texts } in
    let bounded = subst (λ (u : State). IsBounded limit u.world.content) (lends []) (lent_bounded limit p.types (function_at p.functions frames.function) arguments (state_of content frames.cells.items [] []) c.requires.bounded) in
    ok_holds c.wait.result _
    (given_bounded limit s refl p.types (function_at p.functions c.args.function.0) (cells_seen c.deref-in-Ok.result.now) lent_content (meant p.types (g.S.Store.content c.entered.new.store) (g.S.Store.rows c.entered.new.store)) c.in-Ok-entered.cells.items
    bounded (c.in-Ok-entered.ensures.begins s (sym c.lend.ensures.limit) [] []))

pub returns-clause-grows : goal.returns-clause-grows
returns-clause-grows g c =
    let keeps = c.lend.ensures.keeps in
    let births = keeps.births in
    let clock = keeps.clock in
    ok_holds c.wait.result _ (let grows = c.in-Ok-entered.ensures.grows in record { births = let n = grows.births in omega (arith, n, births); clock = let n = grows.clock in omega (arith, n, clock) })
