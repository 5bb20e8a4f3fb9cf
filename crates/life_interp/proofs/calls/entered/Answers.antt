use Rattle.std.proofs.Common.{ap, sym, subst, ◌∙◌, arith}
use Rattle.std.proofs.lemmas.Option.{slice_get-map, slice_get_past, slice_get_read}
use Rattle.std.specs.Prelude.{option_map, slice_get}
use Rattle.life_core.specs.Function.{Function, function_of, program_of}
use Rattle.life_store.specs.Calls.{parameters_given}
use Rattle.life_store.specs.Meaning.{frame}
use Rattle.life_cells.specs.Cells.{cells_seen}
use Rattle.life_interp.specs.CallOperands.{SuitSlots}
use Rattle.life_interp.specs.Cells.{world_of}
use Rattle.life_interp.specs.Walk.{entered_in}
use Rattle.life_interp.specs.Walking.{Halts}
use Rattle.life_cells.specs.Fits.{meant}
use Rattle.life_interp.proofs.CodeLists.{function_there}
use Rattle.life_interp.proofs.FrameLemmas.{enter_goes, enter_halts}
use Rattle.life_interp.proofs.calls.entered.Goals as goal

pub given_cells-requires-clause-slots : goal.given_cells-requires-clause-slots
given_cells-requires-clause-slots g c =
    let p = program_of c.args.program.now in
    let fs = c.args.program.now.functions in
    let there = slice_get_read fs.items fs.len c.args.function.0 c.index-g.result.now fs.ok.0 (omega (arith, c.if-number-len.true, c.len.ensures)) c.index-g.ensures in
    subst (λ (k : Function). SuitSlots p.types (g.S.Store.rows c.args.store.now) k 0 c.args.values.now)
    (function_there p.functions c.args.function.0 (function_of c.index-g.result.now) (slice_get-map function_of fs.items c.args.function.0 ∙ ap (option_map function_of) there)) c.requires.slots

pub returns-in-Err-clause-step : goal.returns-in-Err-clause-step
returns-in-Err-clause-step g c = λ s e ws before ins.
    let p = program_of c.args.program.now in
    let fs = c.args.program.now.functions in
    let content = meant (program_of c.args.program.now).types (g.S.Store.content c.args.store.now) (g.S.Store.rows c.args.store.now) in
    let values = cells_seen c.args.values.now in
    let there = slice_get_read fs.items fs.len c.args.function.0 c.index-g.result.now fs.ok.0 (omega (arith, c.if-number-len.true, c.len.ensures)) c.index-g.ensures in
    let seen = slice_get-map function_of fs.items c.args.function.0 ∙ ap (option_map function_of) there in
    subst (Halts (λ go n output. entered_in s p go ws c.args.place (world_of before output ins) (world_of content output ins) (slice_get p.functions c.args.function.0) values) before ins) (sym c.let_in.ensures)
    (enter_halts s p c.args.function.0 (function_of c.index-g.result.now) values c.args.place content seen c.in-Err.ending (c.in-Err.ensures.step s e) ws before ins)

pub returns-in-Ok-clause-step : goal.returns-in-Ok-clause-step
returns-in-Ok-clause-step g c = λ s e.
    let p = program_of c.args.program.now in
    let fs = c.args.program.now.functions in
    let there = slice_get_read fs.items fs.len c.args.function.0 c.index-g.result.now fs.ok.0 (omega (arith, c.if-number-len.true, c.len.ensures)) c.index-g.ensures in
    let seen = slice_get-map function_of fs.items c.args.function.0 ∙ ap (option_map function_of) there in
    enter_goes s p c.args.function.0 (function_of c.index-g.result.now) (cells_seen c.args.values.now) c.args.place (meant (program_of c.args.program.now).types (g.S.Store.content c.args.store.now) (g.S.Store.rows c.args.store.now)) seen (meant (program_of c.args.program.now).types (g.S.Store.content c.given_cells.new.store) (g.S.Store.rows c.given_cells.new.store)) c.in-Ok.cells.items (c.in-Ok.ensures.step s e)

pub returns-else-number-len-clause-step : goal.returns-else-number-len-clause-step
returns-else-number-len-clause-step g c = λ s e ws before ins go n output.
    let p = program_of c.args.program.now in
    let fs = c.args.program.now.functions in
    let past = slice_get_past fs.items c.args.function.0 (omega (arith, c.if-number-len.false, c.len.ensures, fs.ok.0)) in
    ap (λ o. entered_in s p go ws c.args.place (world_of before output ins) (world_of (meant (program_of c.args.program.now).types (g.S.Store.content c.args.store.now) (g.S.Store.rows c.args.store.now)) output ins) o (cells_seen c.args.values.now))
    (slice_get-map function_of fs.items c.args.function.0 ∙ ap (option_map function_of) past)

pub returns-in-Ok-clause-begins : goal.returns-in-Ok-clause-begins
returns-in-Ok-clause-begins g c = λ s e output input.
    let p = program_of c.args.program.now in
    let fs = c.args.program.now.functions in
    let there = slice_get_read fs.items fs.len c.args.function.0 c.index-g.result.now fs.ok.0 (omega (arith, c.if-number-len.true, c.len.ensures)) c.index-g.ensures in
    let seen = slice_get-map function_of fs.items c.args.function.0 ∙ ap (option_map function_of) there in
    let is = function_there p.functions c.args.function.0 (function_of c.index-g.result.now) seen in
    let content = meant p.types (g.S.Store.content c.args.store.now) (g.S.Store.rows c.args.store.now) in
    ap (λ (k : Function). parameters_given s p.types k 0 (cells_seen c.args.values.now) (frame k (world_of content output input))) is ∙ c.in-Ok.ensures.step s e output input
