use Rattle.std.proofs.Common.{List, ℕ, ap, subst, sym, ◌∙◌}
use Rattle.life_core.specs.declared.operand.Source.{Source}
use Rattle.life_core.specs.Operands.{source_of}
use Rattle.life_store.specs.Doing.{aimed}
use Rattle.life_store.specs.Places.{pointed}
use Rattle.life_store.specs.State.{Pointer}
use Rattle.life_store.specs.Views.{viewed}
use Rattle.life_cells.specs.Cells.{state_in, state_of}
use Rattle.life_cells.specs.Fits.{meant}
use Rattle.life_cells.specs.Scopes.{function_in, types_in}
use Rattle.life_cells.specs.Typed.{IsSource}
use Rattle.life_cells.proofs.aiming.aimed.Goals as goal

pub returns-in-Null-clause-is : goal.returns-in-Null-clause-is
returns-in-Null-clause-is g c = λ s texts p output input.
    let types = types_in c.args.scope.now in
    let f = function_in c.args.scope.now in
    let content = g.S.Store.content c.args.store.now in
    let rows = g.S.Store.rows c.args.store.now in
    let m = meant types content rows in
    let st = state_of m c.args.cells.now output input in
    ap (λ (x : Source). aimed s types f p (source_of x) st) c.in-Null.is

pub returns-in-Text-clause-is : goal.returns-in-Text-clause-is
returns-in-Text-clause-is g c = λ s texts p output input.
    let types = types_in c.args.scope.now in
    let f = function_in c.args.scope.now in
    let content = g.S.Store.content c.args.store.now in
    let rows = g.S.Store.rows c.args.store.now in
    let m = meant types content rows in
    let st = state_of m c.args.cells.now output input in
    ap (λ (x : Source). aimed s types f p (source_of x) st) c.in-Text.is
    ∙ ap (λ (ts : List (List ℕ)). pointed types f p (viewed ts c.in-Text.number) st) texts
    ∙ ap (λ (v : Pointer). pointed types f p v st) (sym c.text_view.ensures.is)

pub returns-in-Text-clause-fits : goal.returns-in-Text-clause-fits
returns-in-Text-clause-fits g c = c.text_view.ensures.fits (g.S.Store.content c.args.store.now) (g.S.Store.rows c.args.store.now)

pub returns-in-Empty-clause-is : goal.returns-in-Empty-clause-is
returns-in-Empty-clause-is g c = λ s texts p output input.
    let types = types_in c.args.scope.now in
    let f = function_in c.args.scope.now in
    let content = g.S.Store.content c.args.store.now in
    let rows = g.S.Store.rows c.args.store.now in
    let m = meant types content rows in
    let st = state_of m c.args.cells.now output input in
    ap (λ (x : Source). aimed s types f p (source_of x) st) c.in-Empty.is ∙ ap (λ (v : Pointer). pointed types f p v st) (sym c.empty_view.ensures.is)

pub returns-in-Empty-clause-fits : goal.returns-in-Empty-clause-fits
returns-in-Empty-clause-fits g c = c.empty_view.ensures.fits (g.S.Store.content c.args.store.now) (g.S.Store.rows c.args.store.now)

pub returns-in-Place-clause-is : goal.returns-in-Place-clause-is
returns-in-Place-clause-is g c = λ s texts p output input.
    let types = types_in c.args.scope.now in
    let f = function_in c.args.scope.now in
    let content = g.S.Store.content c.args.store.now in
    let rows = g.S.Store.rows c.args.store.now in
    let m = meant types content rows in
    let st = state_of m c.args.cells.now output input in
    ap (λ (x : Source). aimed s types f p (source_of x) st) c.in-Place.is ∙ c.at_place.ensures.is s texts p output input

pub at_place-requires-clause-placed : goal.at_place-requires-clause-placed
at_place-requires-clause-placed g c =
    let types = types_in c.args.scope.now in
    let f = function_in c.args.scope.now in
    let content = g.S.Store.content c.args.store.now in
    let rows = g.S.Store.rows c.args.store.now in
    let m = meant types content rows in
    subst (λ (x : Source). IsSource types f (source_of x) (state_in m c.args.cells.now)) c.in-Place.is c.requires.source

pub returns-in-Whole-clause-is : goal.returns-in-Whole-clause-is
returns-in-Whole-clause-is g c = λ s texts p output input.
    let types = types_in c.args.scope.now in
    let f = function_in c.args.scope.now in
    let content = g.S.Store.content c.args.store.now in
    let rows = g.S.Store.rows c.args.store.now in
    let m = meant types content rows in
    let st = state_of m c.args.cells.now output input in
    ap (λ (x : Source). aimed s types f p (source_of x) st) c.in-Whole.is ∙ c.at_whole.ensures.is s texts p output input

pub at_whole-requires-clause-owner : goal.at_whole-requires-clause-owner
at_whole-requires-clause-owner g c =
    let types = types_in c.args.scope.now in
    let f = function_in c.args.scope.now in
    let content = g.S.Store.content c.args.store.now in
    let rows = g.S.Store.rows c.args.store.now in
    let m = meant types content rows in
    subst (λ (x : Source). IsSource types f (source_of x) (state_in m c.args.cells.now)) c.in-Whole.is c.requires.source

pub returns-in-Get-clause-is : goal.returns-in-Get-clause-is
returns-in-Get-clause-is g c = λ s texts p output input.
    let types = types_in c.args.scope.now in
    let f = function_in c.args.scope.now in
    let content = g.S.Store.content c.args.store.now in
    let rows = g.S.Store.rows c.args.store.now in
    let m = meant types content rows in
    let st = state_of m c.args.cells.now output input in
    ap (λ (x : Source). aimed s types f p (source_of x) st) c.in-Get.is ∙ c.at_target.ensures.is s texts p output input

pub at_target-requires-clause-owner : goal.at_target-requires-clause-owner
at_target-requires-clause-owner g c =
    let types = types_in c.args.scope.now in
    let f = function_in c.args.scope.now in
    let content = g.S.Store.content c.args.store.now in
    let rows = g.S.Store.rows c.args.store.now in
    let m = meant types content rows in
    subst (λ (x : Source). IsSource types f (source_of x) (state_in m c.args.cells.now)) c.in-Get.is c.requires.source
