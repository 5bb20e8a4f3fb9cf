use Rattle.std.proofs.Common.{◌≡◌, Bool, ℕ, ap, rules, ◌∙◌}
use Rattle.std.proofs.lemmas.Int.{to_z-of_z}
use mir.Val.{SFits}
use Rattle.std.specs.Int.{cast_unsigned, w64}
use Rattle.life_core.specs.Operands.{location_of}
use Rattle.life_store.specs.Doing.{type_if}
use Rattle.life_store.specs.Parts.{location_type}
use Rattle.life_store.specs.Places.{pointed}
use Rattle.life_store.specs.Views.{is_span}
use Rattle.life_seen.specs.Kinds.{kinds_of}
use Rattle.life_pointers.specs.Attempts.{tried}
use Rattle.life_pointers.specs.Made.{viewed_part}
use Rattle.life_pointers.specs.Pointers.{pointer_seen}
use Rattle.life_cells.specs.Cells.{state_of}
use Rattle.life_cells.specs.Fits.{meant}
use Rattle.life_cells.specs.Scopes.{function_in, types_in}
use Rattle.life_cells.proofs.Cutting.{cut_lost, cut_no_count, cut_no_index, cut_there}
use Rattle.life_cells.proofs.parts.part.Goals as goal

pub returns-in-None-clause-is : goal.returns-in-None-clause-is
returns-in-None-clause-is g c = λ p output input.
    let types = types_in c.args.scope.now in
    let f = function_in c.args.scope.now in
    let content = g.S.Store.content c.args.store.now in
    let rows = g.S.Store.rows c.args.store.now in
    let m = meant types content rows in
    let st = state_of m c.args.cells.now output input in
    cut_lost types f st p (location_of c.args.from.now) c.args.index c.args.count c.in-None.ensures.is

pub returns-in-None-number_at-clause-is : goal.returns-in-None-number_at-clause-is
returns-in-None-number_at-clause-is g c = λ p output input.
    let types = types_in c.args.scope.now in
    let f = function_in c.args.scope.now in
    let content = g.S.Store.content c.args.store.now in
    let rows = g.S.Store.rows c.args.store.now in
    let m = meant types content rows in
    let st = state_of m c.args.cells.now output input in
    cut_no_index types f st p (location_of c.args.from.now) c.args.index c.args.count (pointer_seen c.in-Some.view) (tried pointer_seen c.usable.result) c.in-Some.ensures.is c.in-None-number_at.ensures
    (c.usable.ensures.is (kinds_of types) c.requires.fits.housed c.in-Some.ensures.fits)
    ∙ c.lost_behind.ensures.is (λ v. pointed types f p v st)

pub returns-in-None-number_at-clause-fits : goal.returns-in-None-number_at-clause-fits
returns-in-None-number_at-clause-fits g c = c.lost_behind.ensures.fits (g.S.Store.content c.args.store.now) (g.S.Store.rows c.args.store.now)

pub returns-in-None-counted-clause-is : goal.returns-in-None-counted-clause-is
returns-in-None-counted-clause-is g c = λ p output input.
    let types = types_in c.args.scope.now in
    let f = function_in c.args.scope.now in
    let content = g.S.Store.content c.args.store.now in
    let rows = g.S.Store.rows c.args.store.now in
    let m = meant types content rows in
    let st = state_of m c.args.cells.now output input in
    cut_no_count types f st p (location_of c.args.from.now) c.args.index c.args.count (pointer_seen c.in-Some.view) (tried pointer_seen c.usable-in-None-counted.result) c.in-Some.ensures.is c.in-Some-number_at.first c.in-Some-number_at.ensures (c.in-None-counted.ensures m)
    (c.usable-in-None-counted.ensures.is (kinds_of types) c.requires.fits.housed c.in-Some.ensures.fits)
    ∙ c.lost_behind-in-None-counted.ensures.is (λ v. pointed types f p v st)

pub returns-in-None-counted-clause-fits : goal.returns-in-None-counted-clause-fits
returns-in-None-counted-clause-fits g c = c.lost_behind-in-None-counted.ensures.fits (g.S.Store.content c.args.store.now) (g.S.Store.rows c.args.store.now)

pub returns-in-Some-counted-clause-is : goal.returns-in-Some-counted-clause-is
returns-in-Some-counted-clause-is g c = λ p output input.
    let types = types_in c.args.scope.now in
    let f = function_in c.args.scope.now in
    let content = g.S.Store.content c.args.store.now in
    let rows = g.S.Store.rows c.args.store.now in
    let m = meant types content rows in
    let st = state_of m c.args.cells.now output input in
    let number = c.in-Some-number_at.first in
    let fits : SFits w64 number = search rules in
    let whole : c.cast_unsigned.result ≡ cast_unsigned w64 number = c.cast_unsigned.ensures ∙ ap (cast_unsigned w64) (to_z-of_z w64 number fits) in
    cut_there types f st p (location_of c.args.from.now) c.args.index c.args.count (pointer_seen c.in-Some.view) number c.in-Some-counted.size (tried pointer_seen c.viewed_part.result) c.in-Some.ensures.is c.in-Some-number_at.ensures (c.in-Some-counted.ensures m)
    (c.viewed_part.ensures.is (kinds_of types) c.requires.fits.housed
    ∙ ap (λ (span : Bool). viewed_part m span c.cast_unsigned.result c.in-Some-counted.size (pointer_seen c.in-Some.view)) c.is_span.ensures
    ∙ ap (λ (k : ℕ). viewed_part m (is_span (type_if types (location_type types f (location_of c.args.from.now)))) k c.in-Some-counted.size (pointer_seen c.in-Some.view)) whole)

pub returns-in-Some-counted-clause-fits : goal.returns-in-Some-counted-clause-fits
returns-in-Some-counted-clause-fits g c = c.viewed_part.ensures.fits c.requires.fits.countable
