use Rattle.std.proofs.Common.{◌≡◌, Option, IfSome, ap, rules, subst, sym, ◌∙◌}
use Rattle.std.proofs.lemmas.Int.{to_z-of_z}
use mir.Val.{SFits}
use Rattle.std.specs.Int.{w64, cast_unsigned}
use Rattle.std.specs.Prelude.{slice_get}
use Rattle.life_core.specs.Operands.{operand_of}
use Rattle.life_store.specs.Content.{Content, Object, with_object, with_word}
use Rattle.life_store.specs.Effects.{Next, cell, put_content}
use Rattle.life_store.specs.Parts.{parts_at}
use Rattle.life_store.specs.Places as spec
use Rattle.life_store.specs.References.{HasWord}
use Rattle.life_seen.specs.Kinds.{kinds_of}
use Rattle.life_seen.specs.Named.{names_of}
use Rattle.life_seen.specs.Seen.{object_seen}
use Rattle.life_seen.proofs.WholePointers.{whole_pointers}
use Rattle.life_pointers.specs.Places.{BeginsAt, IsHere, IsPlace}
use Rattle.life_pointers.specs.declared.places.Place.{Place}
use Rattle.life_cells.specs.Cells.{cells_seen, state_in, state_of}
use Rattle.life_cells.specs.Fits.{meant, Keeps}
use Rattle.life_cells.specs.Scopes.{function_in, types_in}
use Rattle.life_cells.proofs.CellLemmas.{no_number}
use Rattle.life_cells.proofs.FitLemmas.{cells_later, count_kept, later_kept}
use Rattle.life_cells.proofs.LocationLemmas.{keeps_itself}
use Rattle.life_cells.proofs.PlaceLemmas.{missed, same_found, same_word}
use Rattle.life_interp.proofs.NumberPlaces.{number_at_place, stored_here, stored_stops, stored_fixed}
use Rattle.life_interp.proofs.StepLemmas.{a_number}
use Rattle.life_interp.proofs.values.save.Goals as goal

pub returns-in-None-clause-step : goal.returns-in-None-clause-step
returns-in-None-clause-step g c = λ output input. no_number (slice_get (cells_seen c.args.cells.now) c.args.from) _ c.in-None.ensures

pub returns-in-Err-clause-step : goal.returns-in-Err-clause-step
returns-in-Err-clause-step g c = λ output input.
    let types = types_in c.args.scope.now in
    let f = function_in c.args.scope.now in
    let content = g.S.Store.content c.args.store.now in
    let rows = g.S.Store.rows c.args.store.now in
    let m = meant types content rows in
    let o = operand_of c.args.to.now in
    let st = state_of m c.args.cells.now output input in
    let fits : SFits w64 c.in-Some.value = search rules in
    a_number (cell st c.args.from) _ c.in-Some.value c.in-Some.ensures
    ∙ stored_stops types f o st c.in-Some.value c.in-Err.stop (missed _ _ c.in-Err.stop (same_found types f m c.args.cells.now output input o) c.in-Err.ensures.is)

pub returns-in-Ok-Fixed-clause-step : goal.returns-in-Ok-Fixed-clause-step
returns-in-Ok-Fixed-clause-step g c = λ output input.
    let types = types_in c.args.scope.now in
    let f = function_in c.args.scope.now in
    let content = g.S.Store.content c.args.store.now in
    let rows = g.S.Store.rows c.args.store.now in
    let m = meant types content rows in
    let o = operand_of c.args.to.now in
    let st = state_of m c.args.cells.now output input in
    let fixed = subst (λ (x : Place). IsPlace (kinds_of types) content rows (spec.locate types f o (state_in m c.args.cells.now)) x) c.in-Ok-Fixed.field-0-is c.in-Ok-Fixed.ensures.is in
    a_number (cell st c.args.from) _ c.in-Some.value c.in-Some.ensures
    ∙ stored_fixed types f o st c.in-Some.value _ (same_found types f m c.args.cells.now output input o ∙ fixed)

pub put_number-requires : goal.put_number-requires
put_number-requires g c =
    let types = types_in c.args.scope.now in
    let f = function_in c.args.scope.now in
    let content = g.S.Store.content c.args.store.now in
    let rows = g.S.Store.rows c.args.store.now in
    let m = meant types content rows in
    let o = operand_of c.args.to.now in
    let h : IsHere (kinds_of types) content rows (spec.locate types f o (state_in m c.args.cells.now)) c.in-Ok-Here.spot = subst (λ (x : Place). IsPlace (kinds_of types) content rows (spec.locate types f o (state_in m c.args.cells.now)) x) c.in-Ok-Here.field-0-is c.in-Ok-Here.ensures.is in
    let word = subst (λ (x : Place). BeginsAt (spec.operand_word types f o (state_in m c.args.cells.now)) x) c.in-Ok-Here.field-0-is c.in-Ok-Here.ensures.word in
    let plain = number_at_place types f o (state_in m c.args.cells.now) content rows c.requires.fits.housed c.requires.number c.in-Ok-Here.spot h word in
    subst (λ (x : Option Object). IfSome x (HasWord c.in-Ok-Here.spot.index c.in-Ok-Here.spot.word)) (sym plain.is.there) plain.word

pub returns-in-Ok-Here : goal.returns-in-Ok-Here
returns-in-Ok-Here g c =
    let types = types_in c.args.scope.now in
    let f = function_in c.args.scope.now in
    let content = g.S.Store.content c.args.store.now in
    let rows = g.S.Store.rows c.args.store.now in
    let m = meant types content rows in
    let o = operand_of c.args.to.now in
    let h : IsHere (kinds_of types) content rows (spec.locate types f o (state_in m c.args.cells.now)) c.in-Ok-Here.spot = subst (λ (x : Place). IsPlace (kinds_of types) content rows (spec.locate types f o (state_in m c.args.cells.now)) x) c.in-Ok-Here.field-0-is c.in-Ok-Here.ensures.is in
    let word = subst (λ (x : Place). BeginsAt (spec.operand_word types f o (state_in m c.args.cells.now)) x) c.in-Ok-Here.field-0-is c.in-Ok-Here.ensures.word in
    let plain = number_at_place types f o (state_in m c.args.cells.now) content rows c.requires.fits.housed c.requires.number c.in-Ok-Here.spot h word in
    let d = g.S.Store.content c.put_number.new.store in
    let new = g.S.Store.rows c.put_number.new.store in
    let p = c.in-Ok-Here.spot in
    let shows = c.put_number.ensures.shows (kinds_of types) h.object plain.is in
    let keeps : Keeps content d rows new = record {
      rows = c.put_number.ensures.rows;
      births = ap (λ (x : Content). x.births) shows.is;
      clock = ap (λ (x : Content). x.clock) shows.is;
    } in
    record {
      step = λ output input.
          let st = state_of m c.args.cells.now output input in
          let fits : SFits w64 c.in-Some.value = search rules in
          let number : c.cast_unsigned-word.result ≡ cast_unsigned w64 c.in-Some.value = c.cast_unsigned-word.ensures ∙ ap (cast_unsigned w64) (to_z-of_z w64 c.in-Some.value fits) in
          a_number (cell st c.args.from) _ c.in-Some.value c.in-Some.ensures
          ∙ stored_here types f o st c.in-Some.value p.object.birth p.index p.word _ (same_found types f m c.args.cells.now output input o ∙ h.here) (word ∙ sym (same_word types f m c.args.cells.now output input o))
          ∙ ap (λ w. Next (put_content (with_object p.object.birth (with_word p.index p.word w (object_seen (kinds_of types) (names_of content rows) h.object)) m) st)) (sym number)
          ∙ ap (λ (x : Content). Next (state_of x c.args.cells.now output input)) (sym shows.is);
      fits = record {
        housed = shows.housed;
        rowed = c.put_number.ensures.rowed (kinds_of types) h.object plain.is (whole_pointers (parts_at types h.object.ty)) c.requires.fits.rowed;
        countable = count_kept content d rows new keeps c.requires.fits.countable;
        held = cells_later content d rows new (later_kept content d rows new keeps) c.args.cells.now c.requires.fits.held;
      };
      keeps = keeps;
      stays = tt;
      limit = c.put_number.ensures.limit;
    }

pub returns-in-None-clause-keeps : goal.returns-in-None-clause-keeps
returns-in-None-clause-keeps g c = keeps_itself (g.S.Store.content c.args.store.now) (g.S.Store.rows c.args.store.now)

pub returns-in-Err-clause-keeps : goal.returns-in-Err-clause-keeps
returns-in-Err-clause-keeps g c = keeps_itself (g.S.Store.content c.args.store.now) (g.S.Store.rows c.args.store.now)

pub returns-in-Ok-Fixed-clause-keeps : goal.returns-in-Ok-Fixed-clause-keeps
returns-in-Ok-Fixed-clause-keeps g c = keeps_itself (g.S.Store.content c.args.store.now) (g.S.Store.rows c.args.store.now)
