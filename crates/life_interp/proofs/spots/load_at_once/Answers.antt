use Rattle.std.proofs.Common.{Option, IfSome, ap, rules, subst, sym, ◌∙◌}
use Rattle.std.proofs.lemmas.Int.{to_z-of_z}
use mir.Val.{SFits}
use Rattle.std.specs.Int.{w64}
use Rattle.life_core.specs.Step.{Load}
use Rattle.life_pointers.specs.declared.owned.Spot.{Spot}
use Rattle.life_store.specs.Content.{Object}
use Rattle.life_store.specs.Effects.{Next, number_in_word, put_cell}
use Rattle.life_store.specs.References.{HasWord}
use Rattle.life_store.specs.State as state
use Rattle.life_seen.specs.Kinds.{kinds_of}
use Rattle.life_cells.specs.Cells.{state_in, state_of}
use Rattle.life_cells.specs.Fits.{meant, CellsFit}
use Rattle.life_cells.specs.Scopes.{function_in, texts_in, types_in}
use Rattle.life_cells.specs.declared.cell.Cell.TheVariants as held
use Rattle.life_cells.proofs.FitLemmas.{set_fits}
use Rattle.life_cells.proofs.LocationLemmas.{put_now}
use Rattle.life_cells.proofs.PlaceLemmas.{same_found, same_word}
use Rattle.life_interp.specs.Spots.{IsSpotAt}
use Rattle.life_interp.proofs.NumberPlaces.{loaded_here, number_at_place}
use Rattle.life_interp.proofs.QuickSteps.{cells_done, nothing_done}
use Rattle.life_interp.proofs.spots.load_at_once.Goals as goal

pub returns-in-None : goal.returns-in-None
returns-in-None g c = λ o number.
    nothing_done (types_in c.args.scope.now) (function_in c.args.scope.now) (g.S.Store.limit c.args.store.now) (texts_in c.args.scope.now) (Load c.args.into o) (g.S.Store.content c.args.store.now) (g.S.Store.rows c.args.store.now) c.args.cells.now c.requires.fits

pub number-word-requires : goal.number-word-requires
number-word-requires g c =
    let types = types_in c.args.scope.now in
    let f = function_in c.args.scope.now in
    let content = g.S.Store.content c.args.store.now in
    let rows = g.S.Store.rows c.args.store.now in
    let st = state_in (meant types content rows) c.args.cells.now.items in
    let o = c.requires.number.0 in
    let at = subst (λ (s : Option Spot). IfSome s (IsSpotAt types f o st content rows)) c.in-Some.is c.requires.number.1.found in
    let plain = number_at_place types f o st content rows c.requires.fits.housed c.requires.number.1.number c.in-Some.spot at.here at.word in
    subst (λ (x : Option Object). IfSome x (HasWord c.in-Some.spot.index c.in-Some.spot.word)) (sym plain.is.there) plain.word

pub returns-in-Some : goal.returns-in-Some
returns-in-Some g c = λ o number.
    let types = types_in c.args.scope.now in
    let f = function_in c.args.scope.now in
    let content = g.S.Store.content c.args.store.now in
    let rows = g.S.Store.rows c.args.store.now in
    let m = meant types content rows in
    let cells = c.args.cells.now in
    let new = c.put_cell.new.cells in
    let spot = c.in-Some.spot in
    let at = subst (λ (s : Option Spot). IfSome s (IsSpotAt types f o (state_in m cells.items) content rows)) c.in-Some.is number.found in
    let plain = number_at_place types f o (state_in m cells.items) content rows c.requires.fits.housed number.number spot at.here at.word in
    let fits : SFits w64 c.cast_signed.result = search rules in
    let read = c.number-word.ensures (kinds_of types) at.here.object plain.is in
    cells_done types f (g.S.Store.limit c.args.store.now) (texts_in c.args.scope.now) (Load c.args.into o) content rows cells new c.requires.fits
    (subst (CellsFit content rows) (sym c.put_cell.ensures) (set_fits content rows cells.items c.args.into (held.Number _) c.requires.fits.held tt))
    (λ s set output input.
    let st = state_of m cells.items output input in
    loaded_here s types f c.args.into o st spot.object.birth spot.index spot.word _ (same_found types f m cells.items output input o ∙ at.here.here) (at.word ∙ sym (same_word types f m cells.items output input o))
    ∙ ap (λ n. Next (put_cell c.args.into (state.Number (number_in_word n)) st)) (sym read)
    ∙ ap (λ z. Next (put_cell c.args.into (state.Number z) st)) (sym c.cast_signed.ensures)
    ∙ ap (λ z. Next (put_cell c.args.into (state.Number z) st)) (sym (to_z-of_z w64 c.cast_signed.result fits))
    ∙ ap Next (put_now m cells.items new.items c.args.into (held.Number _) output input c.put_cell.ensures))
