use Rattle.std.proofs.Common.{◌≡◌, Option, Some, List, IfSome, ap, rules, subst, sym, ◌∙◌}
use Rattle.std.proofs.lemmas.Int.{to_z-of_z}
use mir.Val.{SFits}
use Rattle.std.specs.Int.{w64}
use Rattle.std.specs.Prelude.{ℤ, slice_get}
use Rattle.life_core.specs.Operands.{Owner, whole}
use Rattle.life_core.specs.Step.{Element}
use Rattle.life_core.specs.declared.operand.Which.TheVariants as which
use Rattle.life_pointers.specs.Owned.{owned_element, spot_seen}
use Rattle.life_pointers.specs.Pointers.{pointer_seen}
use Rattle.life_pointers.specs.declared.choosing.Choice.TheVariants as choice
use Rattle.life_pointers.specs.declared.owned.Spot.{Spot}
use Rattle.life_store.specs.Content.{Object}
use Rattle.life_store.specs.Doing.{owner_element}
use Rattle.life_store.specs.Effects.{Got, Next, put_cell}
use Rattle.life_store.specs.References.{HasWord}
use Rattle.life_store.specs.State as state
use Rattle.life_seen.specs.Kinds.{kinds_of}
use Rattle.life_cells.specs.Cells.{cells_seen, number_in, state_in, state_of}
use Rattle.life_cells.specs.Fits.{meant, CellsFit}
use Rattle.life_cells.specs.Scopes.{function_in, texts_in, types_in}
use Rattle.life_cells.specs.declared.cell.Cell.{Cell}
use Rattle.life_cells.proofs.Choosing.{at_number, owned_there}
use Rattle.life_cells.proofs.FitLemmas.{set_fits}
use Rattle.life_cells.proofs.LocationLemmas.{put_now}
use Rattle.life_cells.proofs.OwnerLemmas.{here_owns}
use Rattle.life_interp.specs.Spots.{IsSpotAt}
use Rattle.life_interp.proofs.QuickSteps.{cells_done, nothing_done}
use Rattle.life_interp.proofs.SpotLemmas.{at_spot}
use Rattle.life_interp.proofs.spots.index_at_once.Goals as goal

pub returns-in-None : goal.returns-in-None
returns-in-None g c = λ o owner.
    nothing_done (types_in c.args.scope.now) (function_in c.args.scope.now) (g.S.Store.limit c.args.store.now) (texts_in c.args.scope.now) (Element (whole c.args.pointer) (Owner o) (which.Index c.args.index)) (g.S.Store.content c.args.store.now) (g.S.Store.rows c.args.store.now) c.args.cells.now c.requires.fits

pub returns-in-None-number_at : goal.returns-in-None-number_at
returns-in-None-number_at g c = λ o owner.
    nothing_done (types_in c.args.scope.now) (function_in c.args.scope.now) (g.S.Store.limit c.args.store.now) (texts_in c.args.scope.now) (Element (whole c.args.pointer) (Owner o) (which.Index c.args.index)) (g.S.Store.content c.args.store.now) (g.S.Store.rows c.args.store.now) c.args.cells.now c.requires.fits

pub returns-in-None-element_at : goal.returns-in-None-element_at
returns-in-None-element_at g c = λ o owner.
    nothing_done (types_in c.args.scope.now) (function_in c.args.scope.now) (g.S.Store.limit c.args.store.now) (texts_in c.args.scope.now) (Element (whole c.args.pointer) (Owner o) (which.Index c.args.index)) (g.S.Store.content c.args.store.now) (g.S.Store.rows c.args.store.now) c.args.cells.now c.requires.fits

pub element_at-requires : goal.element_at-requires
element_at-requires g c =
    let types = types_in c.args.scope.now in
    let f = function_in c.args.scope.now in
    let content = g.S.Store.content c.args.store.now in
    let rows = g.S.Store.rows c.args.store.now in
    let st = state_in (meant types content rows) c.args.cells.now.items in
    let o = c.requires.owner.0 in
    let at = subst (λ (s : Option Spot). IfSome s (IsSpotAt types f o st content rows)) c.in-Some.is c.requires.owner.1.found in
    let owns = here_owns types f o st content rows c.requires.fits.housed c.requires.owner.1.owner c.in-Some.owner at.here at.word in
    subst (λ (x : Option Object). IfSome x (HasWord c.in-Some.owner.index c.in-Some.owner.word)) (sym owns.is.there) owns.word

pub returns-in-Some-element_at : goal.returns-in-Some-element_at
returns-in-Some-element_at g c = λ o owner.
    let types = types_in c.args.scope.now in
    let f = function_in c.args.scope.now in
    let content = g.S.Store.content c.args.store.now in
    let rows = g.S.Store.rows c.args.store.now in
    let m = meant types content rows in
    let cells = c.args.cells.now in
    let new = c.put_cell.new.cells in
    let spot = c.in-Some.owner in
    let at = subst (λ (s : Option Spot). IfSome s (IsSpotAt types f o (state_in m cells.items) content rows)) c.in-Some.is owner.found in
    let owns = here_owns types f o (state_in m cells.items) content rows c.requires.fits.housed owner.owner spot at.here at.word in
    let to = c.in-Some-element_at.to in
    let is = c.in-Some-element_at.ensures.is (kinds_of types) owns.object owns.is in
    let fits = c.in-Some-element_at.ensures.fits (kinds_of types) owns.object owns.is c.requires.fits.countable in
    let number = c.in-Some-number_at.number in
    let there : Some number ≡ number_in (slice_get (cells_seen cells.items) c.args.index) = c.in-Some-number_at.ensures ∙ ap (λ (cs : List Cell). number_in (slice_get (cells_seen cs) c.args.index)) c.deref.ensures.value in
    let w = which.Index c.args.index in
    let sized : SFits w64 number = search rules in
    cells_done types f (g.S.Store.limit c.args.store.now) (texts_in c.args.scope.now) (Element (whole c.args.pointer) (Owner o) w) content rows cells new c.requires.fits
    (subst (CellsFit content rows) (sym c.put_cell.ensures) (set_fits content rows cells.items c.args.pointer c.holding.result c.requires.fits.held (c.holding.ensures.fits content rows fits)))
    (λ s set output input.
    let st = state_of m cells.items output input in
    at_spot types f o m cells.items output input content rows spot at (λ x. owner_element types f (whole c.args.pointer) x w st)
    ∙ owned_there types f st (whole c.args.pointer) w (spot_seen spot) (choice.At number) (Got (pointer_seen to)) (at_number st c.args.index number there)
    (is ∙ ap (λ (z : ℤ). owned_element m (choice.At z) (spot_seen spot)) (to_z-of_z w64 number sized))
    ∙ ap (λ (v : state.Cell). Next (put_cell c.args.pointer v st)) (sym c.holding.ensures.is)
    ∙ ap Next (put_now m cells.items new.items c.args.pointer c.holding.result output input c.put_cell.ensures))
