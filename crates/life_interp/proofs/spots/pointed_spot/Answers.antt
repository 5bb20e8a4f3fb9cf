use Rattle.std.proofs.Common.{◌≡◌, ◌+◌, Some, ap, arith, subst, sym, ◌∙◌}
use Rattle.life_store.specs.Effects.{cell}
use Rattle.life_store.specs.Places.{Found, behind_pointer, pointer_word}
use Rattle.life_store.specs.State.{Points}
use Rattle.life_seen.specs.Kinds.{kinds_of}
use Rattle.life_pointers.specs.Places.{BeginsAt, IsHere, IsPlace}
use Rattle.life_pointers.specs.Pointers.{pointer_seen}
use Rattle.life_pointers.specs.declared.places.Place.{Place}
use Rattle.life_cells.specs.Cells.{state_in}
use Rattle.life_cells.specs.Fits.{meant}
use Rattle.life_cells.proofs.CellLemmas.{points}
use Rattle.life_cells.proofs.PlaceLemmas.{some_behind}
use Rattle.life_interp.proofs.spots.pointed_spot.Goals as goal

pub returns-in-Ok-Here : goal.returns-in-Ok-Here
returns-in-Ok-Here g c = λ types f fits.
    let content = g.S.Store.content c.args.store.now in
    let rows = g.S.Store.rows c.args.store.now in
    let m = meant types content rows in
    let v = cell (state_in m c.args.cells.now) c.args.pointer in
    let p = pointer_seen c.in-Some.to in
    let there = some_behind m v p c.in-Some.ensures.is in
    let h : IsHere (kinds_of types) content rows (behind_pointer m p) c.in-Ok-Here.spot = subst (λ (x : Place). IsPlace (kinds_of types) content rows (behind_pointer m p) x) c.in-Ok-Here.field-0-is
    (c.in-Ok-Here.ensures.is (kinds_of types) fits.housed (c.in-Some.ensures.fits content rows fits.held)) in
    let begins : c.in-Ok-Here.spot.word ≡ pointer_word v = subst (λ (x : Place). BeginsAt (pointer_word (Some (Points p))) x) c.in-Ok-Here.field-0-is c.in-Ok-Here.ensures.word ∙ ap pointer_word (sym (points v p c.in-Some.ensures.is)) in
    let none : pointer_word v ≡ pointer_word v + 0 = omega arith in
    record {
      here = subst (λ (w : Found). IsHere (kinds_of types) content rows w c.in-Ok-Here.spot) (sym there) h;
      word = begins ∙ none;
    }
