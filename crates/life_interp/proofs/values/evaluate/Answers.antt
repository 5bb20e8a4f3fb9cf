use Rattle.std.proofs.Common.{List, ap, subst, rules, sym, ◌∙◌}
use Rattle.std.proofs.lemmas.Int.{to_z-of_z}
use mir.Val.{SFits}
use Rattle.std.specs.Int.{w64}
use mir.Val.{to_z, of_z}
use Rattle.std.specs.Prelude.{slice_get}
use Rattle.life_core.specs.Function.{function_of}
use Rattle.life_store.specs.Doing.{Next, computed_into, evaluated, put_cell, converted}
use Rattle.life_store.specs.Numbers.{combined, is_zero, negated, truth}
use Rattle.life_store.specs.State as state
use Rattle.life_cells.specs.Cells.{cells_seen, number_in, state_of}
use Rattle.life_cells.specs.Fits.{CellsFit}
use Rattle.life_cells.specs.declared.cell.Cell.{Cell}
use Rattle.life_cells.specs.declared.cell.Cell.TheVariants as held
use Rattle.life_cells.proofs.FitLemmas.{set_fits}
use Rattle.life_interp.proofs.StepLemmas.{leaves_as, a_number}
use Rattle.life_cells.proofs.LocationLemmas.{put_now}
use Rattle.life_interp.proofs.values.evaluate.Goals as goal

pub returns-in-Number-clause-step : goal.returns-in-Number-clause-step
returns-in-Number-clause-step c = λ content output input.
    let fits : SFits w64 c.in-Number.value = search rules in
    ap (λ o. evaluated c.args.types.now (function_of c.args.f.now) c.args.into o (state_of content c.args.cells.now.items output input)) c.in-Number.is
    ∙ ap (λ z. Next (put_cell c.args.into (state.Number z) (state_of content c.args.cells.now.items output input))) (sym (to_z-of_z w64 c.in-Number.value fits))
    ∙ ap Next (put_now content c.args.cells.now.items c.put_cell.new.cells.items c.args.into (held.Number _) output input c.put_cell.ensures)

pub returns-in-Number-clause-fits : goal.returns-in-Number-clause-fits
returns-in-Number-clause-fits c = λ content rows h.
    subst (CellsFit content rows) (sym c.put_cell.ensures) (set_fits content rows c.args.cells.now.items c.args.into (held.Number _) h tt)

pub returns-in-Some-clause-step : goal.returns-in-Some-clause-step
returns-in-Some-clause-step c = λ content output input.
    let fits : SFits w64 c.in-Some.value = search rules in
    let fits' : SFits w64 c.converted-value.result = search rules in
    let known = c.in-Some.ensures ∙ ap (λ (cells : List Cell). number_in (slice_get (cells_seen cells) c.in-Convert.from)) c.deref.ensures.value in
    let value = c.converted-value.ensures ∙ ap (converted c.type_at.result) (to_z-of_z w64 c.in-Some.value fits) ∙ ap (λ ty. converted ty c.in-Some.value) c.type_at.ensures in
    let st = state_of content c.args.cells.now.items output input in
    ap (λ o. evaluated c.args.types.now (function_of c.args.f.now) c.args.into o st) c.in-Convert.is
    ∙ a_number (slice_get (cells_seen c.args.cells.now.items) c.in-Convert.from) _ c.in-Some.value known
    ∙ ap (λ z. Next (put_cell c.args.into (state.Number z) st)) (sym value)
    ∙ ap (λ z. Next (put_cell c.args.into (state.Number z) st)) (sym (to_z-of_z w64 c.converted-value.result fits'))
    ∙ ap Next (put_now content c.args.cells.now.items c.put_cell-in-Some.new.cells.items c.args.into (held.Number _) output input c.put_cell-in-Some.ensures)

pub returns-in-Some-clause-fits : goal.returns-in-Some-clause-fits
returns-in-Some-clause-fits c = λ content rows h.
    subst (CellsFit content rows) (sym c.put_cell-in-Some.ensures) (set_fits content rows c.args.cells.now.items c.args.into (held.Number _) h tt)

pub returns-in-Some-number_at-clause-step : goal.returns-in-Some-number_at-clause-step
returns-in-Some-number_at-clause-step c = λ content.
    let fits : SFits w64 c.in-Some-number_at.value = search rules in
    let known = c.in-Some-number_at.ensures ∙ ap (λ (cells : List Cell). number_in (slice_get (cells_seen cells) c.in-Negate.from)) c.deref-in-Negate.ensures.value in
    let computed = c.negated.ensures ∙ ap (negated c.type_at-in-Some-number_at.result) (to_z-of_z w64 c.in-Some-number_at.value fits) ∙ ap (λ ty. negated ty c.in-Some-number_at.value) c.type_at-in-Some-number_at.ensures in
    leaves_as
    (λ output input. evaluated c.args.types.now (function_of c.args.f.now) c.args.into c.args.operation (state_of content c.args.cells.now.items output input))
    (λ output input. computed_into c.args.into c.negated.result (state_of content c.args.cells.now.items output input))
    (state_of content c.put_computed.new.cells.items) c.put_computed.result
    (λ output input.
    let st = state_of content c.args.cells.now.items output input in
    ap (λ o. evaluated c.args.types.now (function_of c.args.f.now) c.args.into o st) c.in-Negate.is
    ∙ a_number (slice_get (cells_seen c.args.cells.now.items) c.in-Negate.from) _ c.in-Some-number_at.value known
    ∙ ap (λ k. computed_into c.args.into k st) (sym computed))
    (c.put_computed.ensures.step content)

pub returns-in-Some-number_at-2-clause-step : goal.returns-in-Some-number_at-2-clause-step
returns-in-Some-number_at-2-clause-step c = λ content.
    let fits : SFits w64 c.in-Some-number_at-2.value = search rules in
    let known = c.in-Some-number_at-2.ensures ∙ ap (λ (cells : List Cell). number_in (slice_get (cells_seen cells) c.in-IsZero.from)) c.deref-in-IsZero.ensures.value in
    let computed = c.zero_test.ensures ∙ ap (λ z. truth (is_zero z)) (to_z-of_z w64 c.in-Some-number_at-2.value fits) in
    leaves_as
    (λ output input. evaluated c.args.types.now (function_of c.args.f.now) c.args.into c.args.operation (state_of content c.args.cells.now.items output input))
    (λ output input. computed_into c.args.into c.zero_test.result (state_of content c.args.cells.now.items output input))
    (state_of content c.put_computed-in-Some-number_at-2.new.cells.items) c.put_computed-in-Some-number_at-2.result
    (λ output input.
    let st = state_of content c.args.cells.now.items output input in
    ap (λ o. evaluated c.args.types.now (function_of c.args.f.now) c.args.into o st) c.in-IsZero.is
    ∙ a_number (slice_get (cells_seen c.args.cells.now.items) c.in-IsZero.from) _ c.in-Some-number_at-2.value known
    ∙ ap (λ k. computed_into c.args.into k st) (sym computed))
    (c.put_computed-in-Some-number_at-2.ensures.step content)

pub returns-in-Some-number_at-4-clause-step : goal.returns-in-Some-number_at-4-clause-step
returns-in-Some-number_at-4-clause-step c = λ content.
    let first = c.in-Some-number_at-3.first in
    let second = c.in-Some-number_at-4.second in
    let fits : SFits w64 c.in-Some-number_at-3.first = search rules in
    let fits' : SFits w64 c.in-Some-number_at-4.second = search rules in
    let left = c.in-Some-number_at-3.ensures ∙ ap (λ (cells : List Cell). number_in (slice_get (cells_seen cells) c.in-Binary.left)) c.deref-in-Binary.ensures.value in
    let right = c.in-Some-number_at-4.ensures ∙ ap (λ (cells : List Cell). number_in (slice_get (cells_seen cells) c.in-Binary.right)) c.deref-in-Some-number_at-3.ensures.value in
    let computed =
    c.combined.ensures
    ∙ ap (λ z. combined c.type_at-ty.result c.in-Binary.operator z (to_z w64 (of_z w64 second))) (to_z-of_z w64 first fits)
    ∙ ap (λ z. combined c.type_at-ty.result c.in-Binary.operator first z) (to_z-of_z w64 second fits')
    ∙ ap (λ ty. combined ty c.in-Binary.operator first second) c.type_at-ty.ensures in
    leaves_as
    (λ output input. evaluated c.args.types.now (function_of c.args.f.now) c.args.into c.args.operation (state_of content c.args.cells.now.items output input))
    (λ output input. computed_into c.args.into c.combined.result (state_of content c.args.cells.now.items output input))
    (state_of content c.put_computed-in-Some-number_at-4.new.cells.items) c.put_computed-in-Some-number_at-4.result
    (λ output input.
    let st = state_of content c.args.cells.now.items output input in
    ap (λ o. evaluated c.args.types.now (function_of c.args.f.now) c.args.into o st) c.in-Binary.is
    ∙ a_number (slice_get (cells_seen c.args.cells.now.items) c.in-Binary.left) _ first left
    ∙ a_number (slice_get (cells_seen c.args.cells.now.items) c.in-Binary.right) _ second right
    ∙ ap (λ k. computed_into c.args.into k st) (sym computed))
    (c.put_computed-in-Some-number_at-4.ensures.step content)
