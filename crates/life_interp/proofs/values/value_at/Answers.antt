use Rattle.std.proofs.Common.{Option, IfSome, ap, rules, subst, sym, ◌∙◌}
use Rattle.std.proofs.lemmas.Int.{to_z-of_z}
use mir.Val.{SFits}
use Rattle.std.specs.Int.{w64}
use Rattle.std.specs.Prelude.{ℤ}
use Rattle.life_core.specs.Operands.{operand_of}
use Rattle.life_store.specs.Content.{Object}
use Rattle.life_store.specs.Effects.{Next, number_in_word, put_cell}
use Rattle.life_store.specs.Places as spec
use Rattle.life_store.specs.References.{HasWord}
use Rattle.life_store.specs.State as state
use Rattle.life_seen.specs.Kinds.{kinds_of}
use Rattle.life_pointers.specs.Attempts.{itself}
use Rattle.life_pointers.specs.Places.{BeginsAt, IsHere, IsPlace}
use Rattle.life_pointers.specs.declared.places.Place.{Place}
use Rattle.life_cells.specs.Cells.{state_in, state_of}
use Rattle.life_cells.specs.Fits.{meant}
use Rattle.life_cells.specs.Scopes.{function_in, types_in}
use Rattle.life_cells.proofs.PlaceLemmas.{missed, same_found, same_word}
use Rattle.life_cells.proofs.StepLemmas.{stopped}
use Rattle.life_interp.proofs.NumberPlaces.{loaded_fixed, loaded_here, loaded_stops, number_at_place}
use Rattle.life_interp.proofs.values.value_at.Goals as goal

pub returns-in-Err : goal.returns-in-Err
returns-in-Err g c = λ s texts r output input.
    let types = types_in c.args.scope.now in
    let f = function_in c.args.scope.now in
    let content = g.S.Store.content c.args.store.now in
    let rows = g.S.Store.rows c.args.store.now in
    let m = meant types content rows in
    let o = operand_of c.args.from.now in
    let st = state_of m c.args.cells.now output input in
    loaded_stops s types f r o st c.in-Err.stop (missed _ _ c.in-Err.stop (same_found types f m c.args.cells.now output input o) c.in-Err.ensures.is)
    ∙ sym (stopped itself (λ (z : ℤ). Next (put_cell r (state.Number z) st)) c.in-Err.stop)

pub number-word-requires : goal.number-word-requires
number-word-requires g c =
    let types = types_in c.args.scope.now in
    let f = function_in c.args.scope.now in
    let content = g.S.Store.content c.args.store.now in
    let rows = g.S.Store.rows c.args.store.now in
    let m = meant types content rows in
    let o = operand_of c.args.from.now in
    let h : IsHere (kinds_of types) content rows (spec.locate types f o (state_in m c.args.cells.now)) c.in-Ok-Here.spot = subst (λ (x : Place). IsPlace (kinds_of types) content rows (spec.locate types f o (state_in m c.args.cells.now)) x) c.in-Ok-Here.field-0-is c.in-Ok-Here.ensures.is in
    let word = subst (λ (x : Place). BeginsAt (spec.operand_word types f o (state_in m c.args.cells.now)) x) c.in-Ok-Here.field-0-is c.in-Ok-Here.ensures.word in
    let plain = number_at_place types f o (state_in m c.args.cells.now) content rows c.requires.fits.housed c.requires.number c.in-Ok-Here.spot h word in
    subst (λ (x : Option Object). IfSome x (HasWord c.in-Ok-Here.spot.index c.in-Ok-Here.spot.word)) (sym plain.is.there) plain.word

pub returns-in-Ok-Here : goal.returns-in-Ok-Here
returns-in-Ok-Here g c = λ s texts r output input.
    let types = types_in c.args.scope.now in
    let f = function_in c.args.scope.now in
    let content = g.S.Store.content c.args.store.now in
    let rows = g.S.Store.rows c.args.store.now in
    let m = meant types content rows in
    let o = operand_of c.args.from.now in
    let h : IsHere (kinds_of types) content rows (spec.locate types f o (state_in m c.args.cells.now)) c.in-Ok-Here.spot = subst (λ (x : Place). IsPlace (kinds_of types) content rows (spec.locate types f o (state_in m c.args.cells.now)) x) c.in-Ok-Here.field-0-is c.in-Ok-Here.ensures.is in
    let word = subst (λ (x : Place). BeginsAt (spec.operand_word types f o (state_in m c.args.cells.now)) x) c.in-Ok-Here.field-0-is c.in-Ok-Here.ensures.word in
    let plain = number_at_place types f o (state_in m c.args.cells.now) content rows c.requires.fits.housed c.requires.number c.in-Ok-Here.spot h word in
    let st = state_of m c.args.cells.now output input in
    let fits : SFits w64 c.cast_signed.result = search rules in
    let read = c.number-word.ensures (kinds_of types) h.object plain.is in
    loaded_here s types f r o st c.in-Ok-Here.spot.object.birth c.in-Ok-Here.spot.index c.in-Ok-Here.spot.word _ (same_found types f m c.args.cells.now output input o ∙ h.here) (word ∙ sym (same_word types f m c.args.cells.now output input o))
    ∙ ap (λ n. Next (put_cell r (state.Number (number_in_word n)) st)) (sym read)
    ∙ ap (λ z. Next (put_cell r (state.Number z) st)) (sym c.cast_signed.ensures)
    ∙ ap (λ z. Next (put_cell r (state.Number z) st)) (sym (to_z-of_z w64 c.cast_signed.result fits))

pub returns-in-Ok-Fixed : goal.returns-in-Ok-Fixed
returns-in-Ok-Fixed g c = λ s texts r output input.
    let types = types_in c.args.scope.now in
    let f = function_in c.args.scope.now in
    let content = g.S.Store.content c.args.store.now in
    let rows = g.S.Store.rows c.args.store.now in
    let m = meant types content rows in
    let o = operand_of c.args.from.now in
    let st = state_of m c.args.cells.now output input in
    let fixed = subst (λ (x : Place). IsPlace (kinds_of types) content rows (spec.locate types f o (state_in m c.args.cells.now)) x) c.in-Ok-Fixed.field-0-is c.in-Ok-Fixed.ensures.is in
    loaded_fixed s types f r o st _ _ texts (same_found types f m c.args.cells.now output input o ∙ fixed) ∙ c.character.ensures.is (λ z. Next (put_cell r (state.Number z) st))
