use Rattle.std.proofs.Common.{◌≡◌, Option, List, IfSome, ap, arith, rules, subst, sym, ◌∙◌}
use Rattle.std.proofs.lemmas.Int.{to_z-of_z}
use mir.Val.{SFits}
use Rattle.std.specs.Int.{w64, cast_unsigned}
use Rattle.std.specs.Prelude.{slice_get}
use Rattle.life_core.specs.Step.{Save}
use Rattle.life_pointers.specs.declared.owned.Spot.{Spot}
use Rattle.life_store.specs.Content.{Content, Object, with_object, with_word}
use Rattle.life_store.specs.Effects.{Next, cell, put_content}
use Rattle.life_store.specs.Parts.{parts_at}
use Rattle.life_store.specs.Places.{locate, operand_word}
use Rattle.life_store.specs.References.{HasWord}
use Rattle.life_seen.specs.Kinds.{kinds_of}
use Rattle.life_seen.specs.Named.{names_of}
use Rattle.life_seen.specs.Seen.{object_seen}
use Rattle.life_seen.proofs.WholePointers.{whole_pointers}
use Rattle.life_cells.specs.Cells.{cells_seen, number_in, state_in, state_of}
use Rattle.life_cells.specs.Fits.{meant, IsFit, Keeps}
use Rattle.life_cells.specs.Scopes.{function_in, texts_in, types_in}
use Rattle.life_cells.specs.declared.cell.Cell.{Cell}
use Rattle.life_cells.proofs.FitLemmas.{cells_later, count_kept, later_kept}
use Rattle.life_cells.proofs.PlaceLemmas.{same_found, same_word}
use Rattle.life_interp.specs.Spots.{IsSpotAt}
use Rattle.life_interp.proofs.NumberPlaces.{number_at_place, stored_here}
use Rattle.life_interp.proofs.QuickSteps.{nothing_done}
use Rattle.life_interp.proofs.StepLemmas.{a_number}
use Rattle.life_interp.proofs.spots.save_at_once.Goals as goal

pub returns-in-None-clause-done : goal.returns-in-None-clause-done
returns-in-None-clause-done g c = λ o number frame same.
    let types = types_in c.args.scope.now in
    let content = g.S.Store.content c.args.store.now in
    let rows = g.S.Store.rows c.args.store.now in
    nothing_done types (function_in c.args.scope.now) (g.S.Store.limit c.args.store.now) (texts_in c.args.scope.now) (Save o c.args.from) content rows frame (subst (λ (cs : List Cell). IsFit types content rows cs) (sym same) c.requires.fits)

pub returns-in-None-number_at-clause-done : goal.returns-in-None-number_at-clause-done
returns-in-None-number_at-clause-done g c = λ o number frame same.
    let types = types_in c.args.scope.now in
    let content = g.S.Store.content c.args.store.now in
    let rows = g.S.Store.rows c.args.store.now in
    nothing_done types (function_in c.args.scope.now) (g.S.Store.limit c.args.store.now) (texts_in c.args.scope.now) (Save o c.args.from) content rows frame (subst (λ (cs : List Cell). IsFit types content rows cs) (sym same) c.requires.fits)

pub put_number-requires : goal.put_number-requires
put_number-requires g c =
    let types = types_in c.args.scope.now in
    let f = function_in c.args.scope.now in
    let content = g.S.Store.content c.args.store.now in
    let rows = g.S.Store.rows c.args.store.now in
    let st = state_in (meant types content rows) c.args.cells.now in
    let o = c.requires.number.0 in
    let at = subst (λ (s : Option Spot). IfSome s (IsSpotAt types f o st content rows)) c.in-Some.is c.requires.number.1.found in
    let plain = number_at_place types f o st content rows c.requires.fits.housed c.requires.number.1.number c.in-Some.spot at.here at.word in
    subst (λ (x : Option Object). IfSome x (HasWord c.in-Some.spot.index c.in-Some.spot.word)) (sym plain.is.there) plain.word

pub returns-in-Some-number_at-clause-done : goal.returns-in-Some-number_at-clause-done
returns-in-Some-number_at-clause-done g c = λ o number frame same.
    let types = types_in c.args.scope.now in
    let f = function_in c.args.scope.now in
    let content = g.S.Store.content c.args.store.now in
    let rows = g.S.Store.rows c.args.store.now in
    let m = meant types content rows in
    let cells = c.args.cells.now in
    let p = c.in-Some.spot in
    let value = c.in-Some-number_at.value in
    let at = subst (λ (s : Option Spot). IfSome s (IsSpotAt types f o (state_in m cells) content rows)) c.in-Some.is number.found in
    let plain = number_at_place types f o (state_in m cells) content rows c.requires.fits.housed number.number p at.here at.word in
    let d = g.S.Store.content c.put_number.new.store in
    let new = g.S.Store.rows c.put_number.new.store in
    let shows = c.put_number.ensures.shows (kinds_of types) at.here.object plain.is in
    let births : d.births ≡ content.births = ap (λ (x : Content). x.births) shows.is in
    let clock : d.clock ≡ content.clock = ap (λ (x : Content). x.clock) shows.is in
    let keeps : Keeps content d rows new = record { rows = c.put_number.ensures.rows; births = births; clock = clock } in
    record {
      step = λ s set output input.
          let st = state_of m frame.items output input in
          let fits : SFits w64 value = search rules in
          let number_is : c.cast_unsigned-word.result ≡ cast_unsigned w64 value = c.cast_unsigned-word.ensures ∙ ap (cast_unsigned w64) (to_z-of_z w64 value fits) in
          let found = same_found types f m frame.items output input o ∙ ap (λ (cs : List Cell). locate types f o (state_in m cs)) same ∙ at.here.here in
          let word = at.word ∙ ap (λ (cs : List Cell). operand_word types f o (state_in m cs)) (sym same) ∙ sym (same_word types f m frame.items output input o) in
          a_number (cell st c.args.from) _ value (c.in-Some-number_at.ensures ∙ ap (λ (cs : List Cell). number_in (slice_get (cells_seen cs) c.args.from)) (sym same))
          ∙ stored_here types f o st value p.object.birth p.index p.word _ found word
          ∙ ap (λ w. Next (put_content (with_object p.object.birth (with_word p.index p.word w (object_seen (kinds_of types) (names_of content rows) at.here.object)) m) st)) (sym number_is)
          ∙ ap (λ (x : Content). Next (state_of x frame.items output input)) (sym shows.is);
      fits = subst (λ (cs : List Cell). IsFit types d new cs) (sym same)
          (record {
            housed = shows.housed;
            rowed = c.put_number.ensures.rowed (kinds_of types) at.here.object plain.is (whole_pointers (parts_at types at.here.object.ty)) c.requires.fits.rowed;
            countable = count_kept content d rows new keeps c.requires.fits.countable;
            held = cells_later content d rows new (later_kept content d rows new keeps) cells c.requires.fits.held;
          });
      later = later_kept content d rows new keeps;
      grows = record { births = omega (arith, births); clock = omega (arith, clock) };
    }
