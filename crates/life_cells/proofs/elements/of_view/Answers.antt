use Rattle.std.proofs.Common.{ap, refl, rules, ◌∙◌}
use Rattle.std.proofs.lemmas.Int.{to_z-of_z}
use mir.Val.{SFits}
use Rattle.std.specs.Int.{w64}
use Rattle.std.specs.Prelude.{ℤ}
use Rattle.life_core.specs.Operands.{location_of, Pointer}
use Rattle.life_core.specs.declared.operand.Which.{Which}
use Rattle.life_core.specs.declared.operand.Which.TheVariants as which
use Rattle.life_store.specs.Doing.{element}
use Rattle.life_store.specs.Places.{pointed}
use Rattle.life_seen.specs.Kinds.{kinds_of}
use Rattle.life_pointers.specs.Attempts.{tried}
use Rattle.life_pointers.specs.Made.{viewed_element}
use Rattle.life_pointers.specs.Pointers.{pointer_seen}
use Rattle.life_pointers.specs.declared.choosing.Choice.TheVariants as choice
use Rattle.life_cells.specs.Cells.{state_of}
use Rattle.life_cells.specs.Fits.{meant}
use Rattle.life_cells.specs.Scopes.{function_in, types_in}
use Rattle.life_cells.proofs.Choosing.{at_none, at_number, element_lost, element_stops, element_there}
use Rattle.life_cells.proofs.elements.of_view.Goals as goal

pub returns-in-None-clause-is : goal.returns-in-None-clause-is
returns-in-None-clause-is g c = λ p output input.
    let types = types_in c.args.scope.now in
    let f = function_in c.args.scope.now in
    let content = g.S.Store.content c.args.store.now in
    let rows = g.S.Store.rows c.args.store.now in
    let m = meant types content rows in
    let st = state_of m c.args.cells.now output input in
    element_lost types f st p c.args.which (location_of c.args.location.now) c.in-None.ensures.is

pub returns-in-Target-clause-is : goal.returns-in-Target-clause-is
returns-in-Target-clause-is g c = λ p output input.
    let types = types_in c.args.scope.now in
    let f = function_in c.args.scope.now in
    let content = g.S.Store.content c.args.store.now in
    let rows = g.S.Store.rows c.args.store.now in
    let m = meant types content rows in
    let st = state_of m c.args.cells.now output input in
    ap (λ (w : Which). element types f p (Pointer (location_of c.args.location.now)) w st) c.in-Target.is
    ∙ element_stops types f st p which.Target (location_of c.args.location.now) (pointer_seen c.in-Some.view) (tried pointer_seen c.usable.result) c.in-Some.ensures.is (λ size. refl)
    (c.usable.ensures.is (kinds_of types) c.requires.fits.housed c.in-Some.ensures.fits)
    ∙ c.lost_behind.ensures.is (λ v. pointed types f p v st)

pub returns-in-Target-clause-fits : goal.returns-in-Target-clause-fits
returns-in-Target-clause-fits g c = c.lost_behind.ensures.fits (g.S.Store.content c.args.store.now) (g.S.Store.rows c.args.store.now)

pub returns-in-First-clause-is : goal.returns-in-First-clause-is
returns-in-First-clause-is g c = λ p output input.
    let types = types_in c.args.scope.now in
    let f = function_in c.args.scope.now in
    let content = g.S.Store.content c.args.store.now in
    let rows = g.S.Store.rows c.args.store.now in
    let m = meant types content rows in
    let st = state_of m c.args.cells.now output input in
    ap (λ (w : Which). element types f p (Pointer (location_of c.args.location.now)) w st) c.in-First.is
    ∙ element_there types f st p which.First (location_of c.args.location.now) (pointer_seen c.in-Some.view) choice.First (tried pointer_seen c.viewed_element.result) c.in-Some.ensures.is (λ size. refl)
    (c.viewed_element.ensures.is (kinds_of types) c.requires.fits.housed)

pub returns-in-First-clause-fits : goal.returns-in-First-clause-fits
returns-in-First-clause-fits g c = c.viewed_element.ensures.fits c.requires.fits.countable

pub returns-in-Last-clause-is : goal.returns-in-Last-clause-is
returns-in-Last-clause-is g c = λ p output input.
    let types = types_in c.args.scope.now in
    let f = function_in c.args.scope.now in
    let content = g.S.Store.content c.args.store.now in
    let rows = g.S.Store.rows c.args.store.now in
    let m = meant types content rows in
    let st = state_of m c.args.cells.now output input in
    ap (λ (w : Which). element types f p (Pointer (location_of c.args.location.now)) w st) c.in-Last.is
    ∙ element_there types f st p which.Last (location_of c.args.location.now) (pointer_seen c.in-Some.view) choice.Last (tried pointer_seen c.viewed_element-in-Last.result) c.in-Some.ensures.is (λ size. refl)
    (c.viewed_element-in-Last.ensures.is (kinds_of types) c.requires.fits.housed)

pub returns-in-Last-clause-fits : goal.returns-in-Last-clause-fits
returns-in-Last-clause-fits g c = c.viewed_element-in-Last.ensures.fits c.requires.fits.countable

pub returns-in-None-number_at-clause-is : goal.returns-in-None-number_at-clause-is
returns-in-None-number_at-clause-is g c = λ p output input.
    let types = types_in c.args.scope.now in
    let f = function_in c.args.scope.now in
    let content = g.S.Store.content c.args.store.now in
    let rows = g.S.Store.rows c.args.store.now in
    let m = meant types content rows in
    let st = state_of m c.args.cells.now output input in
    ap (λ (w : Which). element types f p (Pointer (location_of c.args.location.now)) w st) c.in-Index.is
    ∙ element_stops types f st p (which.Index c.in-Index.register) (location_of c.args.location.now) (pointer_seen c.in-Some.view) (tried pointer_seen c.usable-in-None-number_at.result) c.in-Some.ensures.is (at_none st c.in-Index.register c.in-None-number_at.ensures)
    (c.usable-in-None-number_at.ensures.is (kinds_of types) c.requires.fits.housed c.in-Some.ensures.fits)
    ∙ c.lost_behind-in-None-number_at.ensures.is (λ v. pointed types f p v st)

pub returns-in-None-number_at-clause-fits : goal.returns-in-None-number_at-clause-fits
returns-in-None-number_at-clause-fits g c = c.lost_behind-in-None-number_at.ensures.fits (g.S.Store.content c.args.store.now) (g.S.Store.rows c.args.store.now)

pub returns-in-Some-number_at-clause-is : goal.returns-in-Some-number_at-clause-is
returns-in-Some-number_at-clause-is g c = λ p output input.
    let types = types_in c.args.scope.now in
    let f = function_in c.args.scope.now in
    let content = g.S.Store.content c.args.store.now in
    let rows = g.S.Store.rows c.args.store.now in
    let m = meant types content rows in
    let st = state_of m c.args.cells.now output input in
    let number = c.in-Some-number_at.index in
    let fits : SFits w64 number = search rules in
    ap (λ (w : Which). element types f p (Pointer (location_of c.args.location.now)) w st) c.in-Index.is
    ∙ element_there types f st p (which.Index c.in-Index.register) (location_of c.args.location.now) (pointer_seen c.in-Some.view) (choice.At number) (tried pointer_seen c.viewed_element-in-Some-number_at.result) c.in-Some.ensures.is (at_number st c.in-Index.register number c.in-Some-number_at.ensures)
    (c.viewed_element-in-Some-number_at.ensures.is (kinds_of types) c.requires.fits.housed ∙ ap (λ (z : ℤ). viewed_element m (choice.At z) (pointer_seen c.in-Some.view)) (to_z-of_z w64 number fits))

pub returns-in-Some-number_at-clause-fits : goal.returns-in-Some-number_at-clause-fits
returns-in-Some-number_at-clause-fits g c = c.viewed_element-in-Some-number_at.ensures.fits c.requires.fits.countable
