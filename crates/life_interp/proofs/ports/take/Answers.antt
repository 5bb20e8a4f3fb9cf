use Rattle.std.proofs.Common.{◌+◌, List, drop, ap, rules, subst, sym, ◌∙◌}
use Rattle.std.proofs.lemmas.Int.{to_z-of_z}
use Rattle.std.proofs.lemmas.List.{drop_more}
use mir.Val.{SFits, of_z, to_z}
use Rattle.std.specs.Int.{w64}
use Rattle.std.specs.Prelude.{ℤ, get_or, pos}
use Rattle.life_store.specs.Doing.{Next, input_taken, put_cell}
use Rattle.life_store.specs.State as state
use Rattle.life_cells.specs.Cells.{state_of}
use Rattle.life_cells.specs.Fits.{CellsFit}
use Rattle.life_cells.specs.declared.cell.Cell.TheVariants as held
use Rattle.life_cells.proofs.FitLemmas.{set_fits}
use Rattle.life_cells.proofs.LocationLemmas.{put_now}
use Rattle.life_interp.proofs.ports.take.Goals as goal

pub returns-then-taken-input-clause-step : goal.returns-then-taken-input-clause-step
returns-then-taken-input-clause-step c = λ content output.
    let input = c.args.input.now in
    let taken = c.args.taken.now in
    let st = state_of content c.args.cells.now.items output (drop taken input) in
    let rest = drop (taken + 1) input in
    let fits : SFits w64 c.as_long.result = search rules in
    let first = get_or input taken (pos 0) in
    let word : SFits w64 (to_z w64 (of_z w64 first)) = search rules in
    ap (λ (xs : List ℤ). input_taken c.args.register xs st) (drop_more input taken (pos 0) c.if-taken-input.true)
    ∙ ap (λ z. Next (put_cell c.args.register (state.Number z) (state_of content c.args.cells.now.items output rest))) (sym (to_z-of_z w64 c.as_long.result fits ∙ c.as_long.ensures ∙ to_z-of_z w64 (to_z w64 (of_z w64 first)) word))
    ∙ ap Next (put_now content c.args.cells.now.items c.put_cell.new.cells.items c.args.register (held.Number _) output rest c.put_cell.ensures)

pub returns-then-taken-input-clause-fits : goal.returns-then-taken-input-clause-fits
returns-then-taken-input-clause-fits c = λ content rows h.
    subst (CellsFit content rows) (sym c.put_cell.ensures) (set_fits content rows c.args.cells.now.items c.args.register (held.Number _) h tt)
