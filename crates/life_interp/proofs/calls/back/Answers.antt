use Rattle.std.proofs.Common.{◌≡◌, ◌++◌, ℕ, List, [], map, ap, refl, rules, subst, sym, ◌∙◌, arith}
use Rattle.std.proofs.lemmas.Int.{to_z-of_z}
use Rattle.std.proofs.lemmas.List.{length-map}
use Rattle.std.proofs.lemmas.Option.{slice_get-map, slice_get_read}
use mir.Val.{SFits}
use Rattle.std.specs.Int.{w64}
use Rattle.std.specs.Prelude.{option_map, slice_get}
use Rattle.std.specs.declared.alloc.Global.{Global}
use Rattle.std.specs.declared.vec.Vec.{Vec}
use Rattle.life_core.specs.Function.{Function, function_of, program_of}
use Rattle.life_core.specs.Holdings.{result_sort}
use Rattle.life_core.specs.Operands.{argument_of, location_of}
use Rattle.life_store.specs.Calls.{given_back, results, slots_back}
use Rattle.life_store.specs.Doing.{Setting, cell}
use Rattle.life_store.specs.declared.run.Growth.TheVariants.{Always}
use Rattle.life_store.specs.Meaning.{value_in}
use Rattle.life_store.specs.State as state
use Rattle.life_cells.specs.Cells.{cells_seen, state_of}
use Rattle.life_cells.specs.Fits.{meant, CellsFit, IsFit}
use Rattle.life_cells.specs.declared.cell.Cell.{Cell}
use Rattle.life_interp.specs.CallOperands.{slot_values}
use Rattle.life_interp.specs.Cells.{one_seen}
use Rattle.life_interp.specs.Frames.{all_cells, function_at, waiting_cells, AreThere}
use Rattle.life_interp.specs.Returning.{back_given, Returning, TakesBack}
use Rattle.life_interp.specs.Steps.{TellsEnd}
use Rattle.life_interp.specs.Walking.{returns, Halts}
use Rattle.life_interp.proofs.BackLemmas.{back_goes, back_halts, back_is, leaves_last}
use Rattle.life_interp.proofs.BoundedSteps.{next_bounded}
use Rattle.life_interp.proofs.CodeLists.{function_there}
use Rattle.life_cells.proofs.FitLemmas.{cells_later, other_cells}
use Rattle.life_interp.proofs.FitLemmas.{fit_behind, fit_both, fit_front}
use Rattle.life_interp.proofs.FrameLemmas.{there_front, there_last, waiting_push}
use Rattle.life_interp.proofs.SlotBounds.{back_bounds}
use Rattle.life_interp.proofs.SlotReturns.{IsFor}
use Rattle.life_interp.proofs.SoundFrames.{for_here, many_here, returned_sound, returning_here, slots_here, takes_here, told_here}
use Rattle.life_interp.proofs.calls.back.Goals as goal

pub index-f-requires-in-Some : goal.index-f-requires-in-Some
index-f-requires-in-Some g c =
    let p = program_of c.args.program.now in
    let all = c.args.program.now.functions in
    let frames = c.args.frames.now in
    let content = meant p.types (g.S.Store.content c.args.store.now) (g.S.Store.rows c.args.store.now) in
    let ws = c.pop.new.self.items in
    let w = c.in-Some.waiting in
    let last = there_last p.functions ws w (subst (AreThere p.functions) c.in-Some.ensures.items c.requires.frames.there) in
    omega (arith, last, length-map all.items function_of, all.ok.0)

pub take_back-requires-clause-fits : goal.take_back-requires-clause-fits
take_back-requires-clause-fits g c =
    let p = program_of c.args.program.now in
    let frames = c.args.frames.now in
    let content = g.S.Store.content c.args.store.now in
    let rows = g.S.Store.rows c.args.store.now in
    let ws = c.pop.new.self.items in
    let w = c.in-Some.waiting in
    let waiting = subst (CellsFit content rows) (ap waiting_cells c.in-Some.ensures.items ∙ waiting_push ws w) (fit_front content rows (waiting_cells frames.waiting.items) frames.cells.items c.requires.fits.held) in
    let here = ap (λ (v : Vec Cell Global). v.items) c.replace-left.ensures.after in
    subst (IsFit p.types content rows) (sym here) (other_cells p.types content rows (all_cells frames) w.cells.items c.requires.fits (fit_behind content rows (waiting_cells ws) w.cells.items waiting))

pub take_back-requires-clause-left : goal.take_back-requires-clause-left
take_back-requires-clause-left g c =
    let frames = c.args.frames.now in
    let content = g.S.Store.content c.args.store.now in
    let rows = g.S.Store.rows c.args.store.now in
    let left_is : c.deref-in-Some-3.result.now ≡ frames.cells.items = c.deref-in-Some-3.ensures.value ∙ ap (λ (v : Vec Cell Global). v.items) c.replace-left.ensures.value in
    subst (CellsFit content rows) (sym left_is) (fit_behind content rows (waiting_cells frames.waiting.items) frames.cells.items c.requires.fits.held)

pub take_back-requires-clause-value : goal.take_back-requires-clause-value
take_back-requires-clause-value g c =
    let frames = c.args.frames.now in
    let content = g.S.Store.content c.args.store.now in
    let rows = g.S.Store.rows c.args.store.now in
    c.result_of-result.ensures.fits content rows (subst (CellsFit content rows) (sym c.deref.ensures.value) (fit_behind content rows (waiting_cells frames.waiting.items) frames.cells.items c.requires.fits.held))

pub take_back-requires-clause-returning : goal.take_back-requires-clause-returning
take_back-requires-clause-returning g c =
    let p = program_of c.args.program.now in
    let all = c.args.program.now.functions in
    let frames = c.args.frames.now in
    let content = meant p.types (g.S.Store.content c.args.store.now) (g.S.Store.rows c.args.store.now) in
    let ws = c.pop.new.self.items in
    let w = c.in-Some.waiting in
    let last = there_last p.functions ws w (subst (AreThere p.functions) c.in-Some.ensures.items c.requires.frames.there) in
    let under = slice_get_read all.items all.len w.function c.index-f-in-Some.result.now all.ok.0 (omega (arith, last, length-map all.items function_of, all.ok.0)) c.index-f-in-Some.ensures in
    let k = function_of c.index-f-in-Some.result.now in
    let k_is = function_there p.functions w.function k (slice_get-map function_of all.items w.function ∙ ap (option_map function_of) under) in
    let arguments = map argument_of w.arguments.now in
    let target = option_map location_of w.target.now in
    let dest = c.replace-left.new.dest.items in
    let here : dest ≡ w.cells.items = ap (λ (v : Vec Cell Global). v.items) c.replace-left.ensures.after in
    let left_is : c.deref-in-Some-3.result.now ≡ frames.cells.items = c.deref-in-Some-3.ensures.value ∙ ap (λ (v : Vec Cell Global). v.items) c.replace-left.ensures.value in
    subst (λ (cells : List Cell). Returning p.types k arguments (slot_values (cells_seen c.deref-in-Some-3.result.now) 0 arguments) (state_of content cells [] [])) (sym here)
    (subst (λ (cells : List Cell). Returning p.types k arguments (slot_values (cells_seen cells) 0 arguments) (state_of content w.cells.items [] [])) (sym left_is)
    (subst (λ (h : Function). Returning p.types h arguments (slot_values (cells_seen frames.cells.items) 0 arguments) (state_of content w.cells.items [] [])) k_is
    (returning_here p frames content c.requires.sound c.requires.here.0 c.requires.here.1 ws w c.in-Some.ensures.items c.requires.layouts.narrow)))

pub take_back-requires-clause-target : goal.take_back-requires-clause-target
take_back-requires-clause-target g c =
    let p = program_of c.args.program.now in
    let all = c.args.program.now.functions in
    let frames = c.args.frames.now in
    let content = meant p.types (g.S.Store.content c.args.store.now) (g.S.Store.rows c.args.store.now) in
    let at = slice_get_read all.items all.len frames.function c.index-f.result.now all.ok.0 (omega (arith, c.requires.frames.here, length-map all.items function_of, all.ok.0)) c.index-f.ensures in
    let given = given_back (slice_get p.types.types (function_at p.functions frames.function).result.0) (result_sort p.types (function_at p.functions frames.function)) (cell (state_of content frames.cells.items [] []) (function_at p.functions frames.function).parameters) in
    let f = function_of c.index-f.result.now in
    let f_is = function_there p.functions frames.function f (slice_get-map function_of all.items frames.function ∙ ap (option_map function_of) at) in
    let result_is : one_seen c.result_of-result.result ≡ given_back (slice_get p.types.types (function_at p.functions frames.function).result.0) (result_sort p.types (function_at p.functions frames.function)) (cell (state_of content frames.cells.items [] []) (function_at p.functions frames.function).parameters) =
    back_is p.types f content c.deref.result.now frames.cells.items c.result_of-result.result c.deref.ensures.value c.result_of-result.ensures.seen [] []
    ∙ ap (λ (k : Function). given_back (slice_get p.types.types k.result.0) (result_sort p.types k) (cell (state_of content frames.cells.items [] []) k.parameters)) (sym f_is) in
    let ws = c.pop.new.self.items in
    let w = c.in-Some.waiting in
    let last = there_last p.functions ws w (subst (AreThere p.functions) c.in-Some.ensures.items c.requires.frames.there) in
    let under = slice_get_read all.items all.len w.function c.index-f-in-Some.result.now all.ok.0 (omega (arith, last, length-map all.items function_of, all.ok.0)) c.index-f-in-Some.ensures in
    let k = function_of c.index-f-in-Some.result.now in
    let k_is = function_there p.functions w.function k (slice_get-map function_of all.items w.function ∙ ap (option_map function_of) under) in
    let arguments = map argument_of w.arguments.now in
    let target = option_map location_of w.target.now in
    let dest = c.replace-left.new.dest.items in
    let here : dest ≡ w.cells.items = ap (λ (v : Vec Cell Global). v.items) c.replace-left.ensures.after in
    let left_is : c.deref-in-Some-3.result.now ≡ frames.cells.items = c.deref-in-Some-3.ensures.value ∙ ap (λ (v : Vec Cell Global). v.items) c.replace-left.ensures.value in
    subst (λ (cells : List Cell). TakesBack p.types k arguments (slot_values (cells_seen c.deref-in-Some-3.result.now) 0 arguments) target (one_seen c.result_of-result.result) (state_of content cells [] [])) (sym here)
    (subst (λ (cells : List Cell). TakesBack p.types k arguments (slot_values (cells_seen cells) 0 arguments) target (one_seen c.result_of-result.result) (state_of content w.cells.items [] [])) (sym left_is)
    (subst (λ (vs : List state.Cell). TakesBack p.types k arguments (slot_values (cells_seen frames.cells.items) 0 arguments) target vs (state_of content w.cells.items [] [])) (sym result_is)
    (subst (λ (h : Function). TakesBack p.types h arguments (slot_values (cells_seen frames.cells.items) 0 arguments) target given (state_of content w.cells.items [] [])) k_is
    (takes_here p frames content c.requires.sound c.requires.here.0 c.requires.here.1 ws w c.in-Some.ensures.items c.requires.layouts.narrow))))

pub returns-in-None-clause-step : goal.returns-in-None-clause-step
returns-in-None-clause-step g c = λ s ins set.
    let p = program_of c.args.program.now in
    let all = c.args.program.now.functions in
    let frames = c.args.frames.now in
    let content = meant p.types (g.S.Store.content c.args.store.now) (g.S.Store.rows c.args.store.now) in
    let at = slice_get_read all.items all.len frames.function c.index-f.result.now all.ok.0 (omega (arith, c.requires.frames.here, length-map all.items function_of, all.ok.0)) c.index-f.ensures in
    let f = function_of c.index-f.result.now in
    let f_is = function_there p.functions frames.function f (slice_get-map function_of all.items frames.function ∙ ap (option_map function_of) at) in
    let result_is : one_seen c.result_of-result.result ≡ given_back (slice_get p.types.types (function_at p.functions frames.function).result.0) (result_sort p.types (function_at p.functions frames.function)) (cell (state_of content frames.cells.items [] []) (function_at p.functions frames.function).parameters) =
    back_is p.types f content c.deref.result.now frames.cells.items c.result_of-result.result c.deref.ensures.value c.result_of-result.ensures.seen [] []
    ∙ ap (λ (k : Function). given_back (slice_get p.types.types k.result.0) (result_sort p.types k) (cell (state_of content frames.cells.items [] []) k.parameters)) (sym f_is) in
    let none : frames.waiting.items ≡ [] = search rules in
    let fits : SFits w64 c.told.result = search rules in
    let told = told_here p frames content c.requires.sound c.requires.here.0 c.requires.here.1 ins in (
      results p.types f (state_of content frames.cells.items [] ins),
      to_z-of_z w64 c.told.result fits
          ∙ c.told.ensures
          ∙ ap value_in result_is
          ∙ sym told
          ∙ ap (λ (k : Function). value_in (results p.types k (state_of content frames.cells.items [] ins))) f_is,
      λ go n output. leaves_last s p frames content ins f f_is none go n output,
    )

pub returns-in-Err-clause-step : goal.returns-in-Err-clause-step
returns-in-Err-clause-step g c = λ s ins set.
    let p = program_of c.args.program.now in
    let all = c.args.program.now.functions in
    let frames = c.args.frames.now in
    let content = meant p.types (g.S.Store.content c.args.store.now) (g.S.Store.rows c.args.store.now) in
    let at = slice_get_read all.items all.len frames.function c.index-f.result.now all.ok.0 (omega (arith, c.requires.frames.here, length-map all.items function_of, all.ok.0)) c.index-f.ensures in
    let f = function_of c.index-f.result.now in
    let f_is = function_there p.functions frames.function f (slice_get-map function_of all.items frames.function ∙ ap (option_map function_of) at) in
    let result_is : one_seen c.result_of-result.result ≡ given_back (slice_get p.types.types (function_at p.functions frames.function).result.0) (result_sort p.types (function_at p.functions frames.function)) (cell (state_of content frames.cells.items [] []) (function_at p.functions frames.function).parameters) =
    back_is p.types f content c.deref.result.now frames.cells.items c.result_of-result.result c.deref.ensures.value c.result_of-result.ensures.seen [] []
    ∙ ap (λ (k : Function). given_back (slice_get p.types.types k.result.0) (result_sort p.types k) (cell (state_of content frames.cells.items [] []) k.parameters)) (sym f_is) in
    let ws = c.pop.new.self.items in
    let w = c.in-Some.waiting in
    let last = there_last p.functions ws w (subst (AreThere p.functions) c.in-Some.ensures.items c.requires.frames.there) in
    let under = slice_get_read all.items all.len w.function c.index-f-in-Some.result.now all.ok.0 (omega (arith, last, length-map all.items function_of, all.ok.0)) c.index-f-in-Some.ensures in
    let k = function_of c.index-f-in-Some.result.now in
    let k_is = function_there p.functions w.function k (slice_get-map function_of all.items w.function ∙ ap (option_map function_of) under) in
    let arguments = map argument_of w.arguments.now in
    let target = option_map location_of w.target.now in
    let others = slot_values (cells_seen frames.cells.items) 0 arguments in
    let gives : (output : List ℕ) → results p.types f (state_of content frames.cells.items output ins) ≡ one_seen c.result_of-result.result ++ others = λ output.
    ap (λ (vs : List state.Cell). vs ++ slots_back p.types f 0 f.parameters (state_of content frames.cells.items output ins)) (sym (back_is p.types f content c.deref.result.now frames.cells.items c.result_of-result.result c.deref.ensures.value c.result_of-result.ensures.seen output ins))
    ∙ ap (λ (k : Function). one_seen c.result_of-result.result ++ slots_back p.types k 0 k.parameters (state_of content frames.cells.items output ins)) (sym f_is)
    ∙ ap (λ (vs : List state.Cell). one_seen c.result_of-result.result ++ vs) (slots_here p frames content c.requires.sound c.requires.here.0 c.requires.here.1 ws w c.in-Some.ensures.items output ins) in
    let dest = c.replace-left.new.dest.items in
    let here : dest ≡ w.cells.items = ap (λ (v : Vec Cell Global). v.items) c.replace-left.ensures.after in
    let left_is : c.deref-in-Some-3.result.now ≡ frames.cells.items = c.deref-in-Some-3.ensures.value ∙ ap (λ (v : Vec Cell Global). v.items) c.replace-left.ensures.value in
    subst (Halts (returns s p frames content ins) content ins) (sym c.halt_at.ensures)
    (back_halts s p frames content ins f f_is (one_seen c.result_of-result.result) others gives ws w c.in-Some.ensures.items k k_is (many_here p frames content c.requires.sound c.requires.here.0 c.requires.here.1 ws w c.in-Some.ensures.items)
    (subst (IsFor target) (sym result_is) (for_here p frames content c.requires.sound c.requires.here.0 c.requires.here.1 ws w c.in-Some.ensures.items)) c.in-Err.ending
    (λ output input.
    subst (λ (cells : List Cell). TellsEnd (back_given s p.types k arguments others target (one_seen c.result_of-result.result) (state_of content cells output input)) c.in-Err.ending) here
    (subst (λ (cells : List Cell). TellsEnd (back_given s p.types k arguments (slot_values (cells_seen cells) 0 arguments) target (one_seen c.result_of-result.result) (state_of content dest output input)) c.in-Err.ending) left_is (c.in-Err.ensures.step s set.cells output input))))

pub returns-clause-step : goal.returns-clause-step
returns-clause-step g c = λ s ins set.
    let p = program_of c.args.program.now in
    let all = c.args.program.now.functions in
    let frames = c.args.frames.now in
    let content = meant p.types (g.S.Store.content c.args.store.now) (g.S.Store.rows c.args.store.now) in
    let at = slice_get_read all.items all.len frames.function c.index-f.result.now all.ok.0 (omega (arith, c.requires.frames.here, length-map all.items function_of, all.ok.0)) c.index-f.ensures in
    let f = function_of c.index-f.result.now in
    let f_is = function_there p.functions frames.function f (slice_get-map function_of all.items frames.function ∙ ap (option_map function_of) at) in
    let result_is : one_seen c.result_of-result.result ≡ given_back (slice_get p.types.types (function_at p.functions frames.function).result.0) (result_sort p.types (function_at p.functions frames.function)) (cell (state_of content frames.cells.items [] []) (function_at p.functions frames.function).parameters) =
    back_is p.types f content c.deref.result.now frames.cells.items c.result_of-result.result c.deref.ensures.value c.result_of-result.ensures.seen [] []
    ∙ ap (λ (k : Function). given_back (slice_get p.types.types k.result.0) (result_sort p.types k) (cell (state_of content frames.cells.items [] []) k.parameters)) (sym f_is) in
    let ws = c.pop.new.self.items in
    let w = c.in-Some.waiting in
    let last = there_last p.functions ws w (subst (AreThere p.functions) c.in-Some.ensures.items c.requires.frames.there) in
    let under = slice_get_read all.items all.len w.function c.index-f-in-Some.result.now all.ok.0 (omega (arith, last, length-map all.items function_of, all.ok.0)) c.index-f-in-Some.ensures in
    let k = function_of c.index-f-in-Some.result.now in
    let k_is = function_there p.functions w.function k (slice_get-map function_of all.items w.function ∙ ap (option_map function_of) under) in
    let arguments = map argument_of w.arguments.now in
    let target = option_map location_of w.target.now in
    let others = slot_values (cells_seen frames.cells.items) 0 arguments in
    let gives : (output : List ℕ) → results p.types f (state_of content frames.cells.items output ins) ≡ one_seen c.result_of-result.result ++ others = λ output.
    ap (λ (vs : List state.Cell). vs ++ slots_back p.types f 0 f.parameters (state_of content frames.cells.items output ins)) (sym (back_is p.types f content c.deref.result.now frames.cells.items c.result_of-result.result c.deref.ensures.value c.result_of-result.ensures.seen output ins))
    ∙ ap (λ (k : Function). one_seen c.result_of-result.result ++ slots_back p.types k 0 k.parameters (state_of content frames.cells.items output ins)) (sym f_is)
    ∙ ap (λ (vs : List state.Cell). one_seen c.result_of-result.result ++ vs) (slots_here p frames content c.requires.sound c.requires.here.0 c.requires.here.1 ws w c.in-Some.ensures.items output ins) in
    let dest = c.replace-left.new.dest.items in
    let here : dest ≡ w.cells.items = ap (λ (v : Vec Cell Global). v.items) c.replace-left.ensures.after in
    let left_is : c.deref-in-Some-3.result.now ≡ frames.cells.items = c.deref-in-Some-3.ensures.value ∙ ap (λ (v : Vec Cell Global). v.items) c.replace-left.ensures.value in
    back_goes s p frames content ins f f_is (one_seen c.result_of-result.result) others gives ws w c.in-Some.ensures.items k k_is (many_here p frames content c.requires.sound c.requires.here.0 c.requires.here.1 ws w c.in-Some.ensures.items)
    (subst (IsFor target) (sym result_is) (for_here p frames content c.requires.sound c.requires.here.0 c.requires.here.1 ws w c.in-Some.ensures.items))
    (meant p.types (g.S.Store.content c.take_back.new.store) (g.S.Store.rows c.take_back.new.store)) c.take_back.new.cells.items
    (λ output input.
    ap (λ (cells : List Cell). back_given s p.types k arguments others target (one_seen c.result_of-result.result) (state_of content cells output input)) (sym here)
    ∙ ap (λ (cells : List Cell). back_given s p.types k arguments (slot_values (cells_seen cells) 0 arguments) target (one_seen c.result_of-result.result) (state_of content dest output input)) (sym left_is)
    ∙ c.in-Ok.ensures.step s set.cells output input)

pub returns-clause-frames : goal.returns-clause-frames
returns-clause-frames g c =
    let p = program_of c.args.program.now in
    let ws = c.pop.new.self.items in
    let w = c.in-Some.waiting in
    let last = there_last p.functions ws w (subst (AreThere p.functions) c.in-Some.ensures.items c.requires.frames.there) in
    record { here = last; there = there_front p.functions ws w (subst (AreThere p.functions) c.in-Some.ensures.items c.requires.frames.there) }

pub returns-clause-fits : goal.returns-clause-fits
returns-clause-fits g c =
    let p = program_of c.args.program.now in
    let frames = c.args.frames.now in
    let content = g.S.Store.content c.args.store.now in
    let rows = g.S.Store.rows c.args.store.now in
    let ws = c.pop.new.self.items in
    let w = c.in-Some.waiting in
    let waiting = subst (CellsFit content rows) (ap waiting_cells c.in-Some.ensures.items ∙ waiting_push ws w) (fit_front content rows (waiting_cells frames.waiting.items) frames.cells.items c.requires.fits.held) in
    let d = g.S.Store.content c.take_back.new.store in
    let new = g.S.Store.rows c.take_back.new.store in
    other_cells p.types d new c.take_back.new.cells.items (waiting_cells ws ++ c.take_back.new.cells.items) c.in-Ok.ensures.fits
    (fit_both d new (waiting_cells ws) c.take_back.new.cells.items (cells_later content d rows new c.in-Ok.ensures.later (waiting_cells ws) (fit_front content rows (waiting_cells ws) w.cells.items waiting)) c.in-Ok.ensures.fits.held)

pub returns-clause-sound : goal.returns-clause-sound
returns-clause-sound g c =
    let p = program_of c.args.program.now in
    let all = c.args.program.now.functions in
    let frames = c.args.frames.now in
    let content = meant p.types (g.S.Store.content c.args.store.now) (g.S.Store.rows c.args.store.now) in
    let at = slice_get_read all.items all.len frames.function c.index-f.result.now all.ok.0 (omega (arith, c.requires.frames.here, length-map all.items function_of, all.ok.0)) c.index-f.ensures in
    let f = function_of c.index-f.result.now in
    let f_is = function_there p.functions frames.function f (slice_get-map function_of all.items frames.function ∙ ap (option_map function_of) at) in
    let result_is : one_seen c.result_of-result.result ≡ given_back (slice_get p.types.types (function_at p.functions frames.function).result.0) (result_sort p.types (function_at p.functions frames.function)) (cell (state_of content frames.cells.items [] []) (function_at p.functions frames.function).parameters) =
    back_is p.types f content c.deref.result.now frames.cells.items c.result_of-result.result c.deref.ensures.value c.result_of-result.ensures.seen [] []
    ∙ ap (λ (k : Function). given_back (slice_get p.types.types k.result.0) (result_sort p.types k) (cell (state_of content frames.cells.items [] []) k.parameters)) (sym f_is) in
    let ws = c.pop.new.self.items in
    let w = c.in-Some.waiting in
    let last = there_last p.functions ws w (subst (AreThere p.functions) c.in-Some.ensures.items c.requires.frames.there) in
    let under = slice_get_read all.items all.len w.function c.index-f-in-Some.result.now all.ok.0 (omega (arith, last, length-map all.items function_of, all.ok.0)) c.index-f-in-Some.ensures in
    let k = function_of c.index-f-in-Some.result.now in
    let k_is = function_there p.functions w.function k (slice_get-map function_of all.items w.function ∙ ap (option_map function_of) under) in
    let arguments = map argument_of w.arguments.now in
    let target = option_map location_of w.target.now in
    let s : Setting = record { given = record { growth = Always; cells = g.S.Store.limit c.args.store.now; depth = 0 }; texts = p.texts } in
    let d = meant p.types (g.S.Store.content c.take_back.new.store) (g.S.Store.rows c.take_back.new.store) in
    let others = slot_values (cells_seen frames.cells.items) 0 arguments in
    let dest = c.replace-left.new.dest.items in
    let here : dest ≡ w.cells.items = ap (λ (v : Vec Cell Global). v.items) c.replace-left.ensures.after in
    let left_is : c.deref-in-Some-3.result.now ≡ frames.cells.items = c.deref-in-Some-3.ensures.value ∙ ap (λ (v : Vec Cell Global). v.items) c.replace-left.ensures.value in
    let takes =
    ap (λ (vs : List state.Cell). back_given s p.types (function_at p.functions w.function) arguments others target vs (state_of content w.cells.items [] [])) (sym result_is)
    ∙ ap (λ (h : Function). back_given s p.types h arguments others target (one_seen c.result_of-result.result) (state_of content w.cells.items [] [])) k_is
    ∙ ap (λ (cells : List Cell). back_given s p.types k arguments others target (one_seen c.result_of-result.result) (state_of content cells [] [])) (sym here)
    ∙ ap (λ (cells : List Cell). back_given s p.types k arguments (slot_values (cells_seen cells) 0 arguments) target (one_seen c.result_of-result.result) (state_of content dest [] [])) (sym left_is)
    ∙ c.in-Ok.ensures.step s refl [] [] in
    returned_sound p frames content c.requires.sound c.requires.here.0 c.requires.here.1 ws w c.in-Some.ensures.items s d c.take_back.new.cells.items takes

pub returns-clause-bounded : goal.returns-clause-bounded
returns-clause-bounded g c =
    let p = program_of c.args.program.now in
    let content = meant p.types (g.S.Store.content c.args.store.now) (g.S.Store.rows c.args.store.now) in
    let limit = g.S.Store.limit c.args.store.now in
    let s : Setting = record { given = record { growth = Always; cells = limit; depth = 0 }; texts = p.texts } in
    let k = function_of c.index-f-in-Some.result.now in
    let w = c.in-Some.waiting in
    let arguments = map argument_of w.arguments.now in
    let target = option_map location_of w.target.now in
    let values = one_seen c.result_of-result.result in
    let others = slot_values (cells_seen c.deref-in-Some-3.result.now) 0 arguments in
    next_bounded limit (back_given s p.types k arguments others target values (state_of content c.replace-left.new.dest.items [] [])) (state_of (meant p.types (g.S.Store.content c.take_back.new.store) (g.S.Store.rows c.take_back.new.store)) c.take_back.new.cells.items [] [])
    (back_bounds limit p.types k s refl arguments others target values (state_of content c.replace-left.new.dest.items [] []) c.requires.bounded) (c.in-Ok.ensures.step s refl [] [])
