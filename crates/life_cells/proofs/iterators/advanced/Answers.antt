use Rattle.std.proofs.Common.{ℕ, List, ap, rules, sym, ◌∙◌}
use Rattle.std.proofs.lemmas.Int.{to_z-of_z}
use mir.Val.{SFits}
use Rattle.std.specs.Int.{w64}
use Rattle.std.specs.Prelude.{ℤ}
use Rattle.life_core.specs.Operands.{location_of}
use Rattle.life_store.specs.Effects.{type_of}
use Rattle.life_store.specs.Iterators.{count_of, directed}
use Rattle.life_pointers.specs.Made.{moved}
use Rattle.life_pointers.specs.Pointers.{pointer_seen}
use Rattle.life_cells.specs.Cells.{state_of}
use Rattle.life_cells.specs.Fits.{meant}
use Rattle.life_seen.specs.Kinds.{kinds_of}
use Rattle.life_pointers.specs.Attempts.{tried}
use Rattle.life_store.specs.Places.{pointed}
use Rattle.life_cells.specs.Scopes.{function_in, texts_in, types_in}
use Rattle.life_cells.proofs.Iterating.{advanced_lost, advanced_stops, advanced_there}
use Rattle.life_cells.proofs.iterators.advanced.Goals as goal

pub returns-in-None-clause-is : goal.returns-in-None-clause-is
returns-in-None-clause-is g c = λ s texts p output input.
    let types = types_in c.args.scope.now in
    let m = meant types (g.S.Store.content c.args.store.now) (g.S.Store.rows c.args.store.now) in
    advanced_lost types (function_in c.args.scope.now) (state_of m c.args.cells.now output input) s p (location_of c.args.from.now) c.args.count c.args.direction c.in-None.ensures.is

pub returns-in-None-number_at-clause-is : goal.returns-in-None-number_at-clause-is
returns-in-None-number_at-clause-is g c = λ s texts p output input.
    let types = types_in c.args.scope.now in
    let f = function_in c.args.scope.now in
    let m = meant types (g.S.Store.content c.args.store.now) (g.S.Store.rows c.args.store.now) in
    let st = state_of m c.args.cells.now output input in
    advanced_stops types f st s p (location_of c.args.from.now) c.args.count c.args.direction (pointer_seen c.in-Some.iterator) (tried pointer_seen c.standing.result) c.in-Some.ensures.is c.in-None-number_at.ensures
    (c.standing.ensures.is (kinds_of types) c.requires.fits.housed c.in-Some.ensures.fits)
    ∙ c.lost_behind.ensures.is (λ v. pointed types f p v st)

pub returns-in-Some-number_at-clause-is : goal.returns-in-Some-number_at-clause-is
returns-in-Some-number_at-clause-is g c = λ s texts p output input.
    let types = types_in c.args.scope.now in
    let f = function_in c.args.scope.now in
    let m = meant types (g.S.Store.content c.args.store.now) (g.S.Store.rows c.args.store.now) in
    let st = state_of m c.args.cells.now output input in
    let number = c.in-Some-number_at.number in
    let fits : SFits w64 number = search rules in
    let step = c.step_of-step.ensures ∙ ap (λ (z : ℤ). directed c.args.direction (count_of c.type_at.result z)) (to_z-of_z w64 number fits) ∙ ap (λ ty. directed c.args.direction (count_of ty number)) c.type_at.ensures in
    advanced_there types f st s p (location_of c.args.from.now) c.args.count c.args.direction (pointer_seen c.in-Some.iterator) number (tried pointer_seen c.moved.result) c.in-Some.ensures.is c.in-Some-number_at.ensures
    (c.moved.ensures.is (kinds_of types) c.requires.fits.housed
    ∙ ap (λ (z : ℤ). moved (texts_in c.args.scope.now) m z (pointer_seen c.in-Some.iterator)) step
    ∙ ap (λ (ts : List (List ℕ)). moved ts m (directed c.args.direction (count_of (type_of types f c.args.count) number)) (pointer_seen c.in-Some.iterator)) (sym texts))

pub returns-in-None-number_at-clause-fits : goal.returns-in-None-number_at-clause-fits
returns-in-None-number_at-clause-fits g c = c.lost_behind.ensures.fits (g.S.Store.content c.args.store.now) (g.S.Store.rows c.args.store.now)

pub returns-in-Some-number_at-clause-fits : goal.returns-in-Some-number_at-clause-fits
returns-in-Some-number_at-clause-fits g c = c.moved.ensures.fits c.requires.fits.countable
