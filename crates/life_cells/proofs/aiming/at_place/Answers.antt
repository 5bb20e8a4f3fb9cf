use Rattle.std.proofs.Common.{ap, subst, sym, ◌∙◌}
use Rattle.life_core.specs.Operands.{operand_of}
use Rattle.life_store.specs.Places as spec
use Rattle.life_store.specs.Places.{pointed}
use Rattle.life_store.specs.State.{Pointer}
use Rattle.life_seen.specs.Kinds.{kinds_of}
use Rattle.life_pointers.specs.Places.{BeginsAt, IsHere, IsPlace}
use Rattle.life_pointers.specs.declared.places.Place.{Place}
use Rattle.life_pointers.proofs.Short.{clock_fits}
use Rattle.life_cells.specs.Cells.{state_in, state_of}
use Rattle.life_cells.specs.Fits.{meant}
use Rattle.life_cells.specs.Scopes.{function_in, types_in}
use Rattle.life_cells.proofs.Aimed.{aimed_fixed, aimed_here, aimed_stops}
use Rattle.life_cells.proofs.PlaceLemmas.{missed, same_found, same_word}
use Rattle.life_cells.proofs.aiming.at_place.Goals as goal

pub returns-in-Err-clause-is : goal.returns-in-Err-clause-is
returns-in-Err-clause-is g c = λ s texts p output input.
    let types = types_in c.args.scope.now in
    let f = function_in c.args.scope.now in
    let content = g.S.Store.content c.args.store.now in
    let rows = g.S.Store.rows c.args.store.now in
    let m = meant types content rows in
    let st = state_of m c.args.cells.now output input in
    aimed_stops types f st s p (operand_of c.args.operand.now) c.in-Err.stop (missed _ _ c.in-Err.stop (same_found types f m c.args.cells.now output input (operand_of c.args.operand.now)) c.in-Err.ensures.is)

pub returns-in-Ok-Here-clause-is : goal.returns-in-Ok-Here-clause-is
returns-in-Ok-Here-clause-is g c = λ s texts p output input.
    let types = types_in c.args.scope.now in
    let f = function_in c.args.scope.now in
    let content = g.S.Store.content c.args.store.now in
    let rows = g.S.Store.rows c.args.store.now in
    let m = meant types content rows in
    let st = state_of m c.args.cells.now output input in
    let h : IsHere (kinds_of types) content rows (spec.locate types f (operand_of c.args.operand.now) (state_in m c.args.cells.now)) c.in-Ok-Here.spot = subst (λ (x : Place). IsPlace (kinds_of types) content rows (spec.locate types f (operand_of c.args.operand.now) (state_in m c.args.cells.now)) x) c.in-Ok-Here.field-0-is c.in-Ok-Here.ensures.is in
    let word = subst (λ (x : Place). BeginsAt (spec.operand_word types f (operand_of c.args.operand.now) (state_in m c.args.cells.now)) x) c.in-Ok-Here.field-0-is c.in-Ok-Here.ensures.word in
    aimed_here types f st s p (operand_of c.args.operand.now) c.in-Ok-Here.spot.object.birth c.in-Ok-Here.spot.index c.in-Ok-Here.spot.word c.now.result _ (same_found types f m c.args.cells.now output input (operand_of c.args.operand.now) ∙ h.here) (word ∙ sym (same_word types f m c.args.cells.now output input (operand_of c.args.operand.now))) c.now.ensures
    ∙ ap (λ (v : Pointer). pointed types f p v st) (sym c.place_pointer.ensures.is)

pub returns-in-Ok-Here-clause-fits : goal.returns-in-Ok-Here-clause-fits
returns-in-Ok-Here-clause-fits g c =
    let types = types_in c.args.scope.now in
    let f = function_in c.args.scope.now in
    let content = g.S.Store.content c.args.store.now in
    let rows = g.S.Store.rows c.args.store.now in
    let m = meant types content rows in
    let h : IsHere (kinds_of types) content rows (spec.locate types f (operand_of c.args.operand.now) (state_in m c.args.cells.now)) c.in-Ok-Here.spot = subst (λ (x : Place). IsPlace (kinds_of types) content rows (spec.locate types f (operand_of c.args.operand.now) (state_in m c.args.cells.now)) x) c.in-Ok-Here.field-0-is c.in-Ok-Here.ensures.is in
    c.place_pointer.ensures.fits content rows h.fits (clock_fits content c.now.result c.now.ensures c.requires.fits.countable)

pub returns-in-Ok-Fixed-clause-is : goal.returns-in-Ok-Fixed-clause-is
returns-in-Ok-Fixed-clause-is g c = λ s texts p output input.
    let types = types_in c.args.scope.now in
    let f = function_in c.args.scope.now in
    let content = g.S.Store.content c.args.store.now in
    let rows = g.S.Store.rows c.args.store.now in
    let m = meant types content rows in
    let st = state_of m c.args.cells.now output input in
    let fixed = subst (λ (x : Place). IsPlace (kinds_of types) content rows (spec.locate types f (operand_of c.args.operand.now) (state_in m c.args.cells.now)) x) c.in-Ok-Fixed.field-0-is c.in-Ok-Fixed.ensures.is in
    aimed_fixed types f st s p (operand_of c.args.operand.now) _ _ texts (same_found types f m c.args.cells.now output input (operand_of c.args.operand.now) ∙ fixed) ∙ c.first_of.ensures.is (λ v. pointed types f p v st)

pub returns-in-Ok-Fixed-clause-fits : goal.returns-in-Ok-Fixed-clause-fits
returns-in-Ok-Fixed-clause-fits g c = c.first_of.ensures.fits (g.S.Store.content c.args.store.now) (g.S.Store.rows c.args.store.now)
