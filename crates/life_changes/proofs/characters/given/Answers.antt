use Rattle.std.proofs.Common.{List, [], ◌∷◌, ◌++◌, ap, refl, subst, sym, ◌∙◌, ℕ, ◌≡◌, rules}
use Rattle.std.proofs.lemmas.Int.{to_z-of_z}
use mir.Val.{SFits}
use Rattle.std.specs.Int.{cast_unsigned, w64}
use Rattle.life_core.specs.Operands.{characters_of, location_of}
use Rattle.life_core.specs.declared.operand.Characters.{Characters}
use Rattle.life_store.specs.Doing.{on_given}
use Rattle.life_seen.specs.Kinds.{kinds_of}
use Rattle.life_pointers.specs.Bytes.{stored_words}
use Rattle.life_cells.specs.Cells.{state_in, state_of}
use Rattle.life_cells.specs.Fits.{meant}
use Rattle.life_cells.specs.Scopes.{function_in, types_in}
use Rattle.life_changes.specs.Ready.{AreGiven}
use Rattle.life_changes.proofs.GivenWords.{given_lost, given_stops, single_given, single_lost, view_given}
use Rattle.life_changes.proofs.characters.given.Goals as goal

pub pointer_at-requires-clause-holds : goal.pointer_at-requires-clause-holds
pointer_at-requires-clause-holds g c =
    let types = types_in c.args.scope.now in
    let f = function_in c.args.scope.now in
    let m = meant types (g.S.Store.content c.args.store.now) (g.S.Store.rows c.args.store.now) in
    (subst (λ (x : Characters). AreGiven types f (characters_of x) (state_in m c.args.cells.now)) c.in-View.is c.requires.seen).0

pub returns-in-None : goal.returns-in-None
returns-in-None g c = λ s texts output input go.
    let types = types_in c.args.scope.now in
    let f = function_in c.args.scope.now in
    let content = g.S.Store.content c.args.store.now in
    let rows = g.S.Store.rows c.args.store.now in
    let m = meant types content rows in
    let cells = c.args.cells.now in
    let st = state_of m cells output input in
    let view = ap (λ (x : Characters). on_given s types f (characters_of x) st go) c.in-View.is in
    view ∙ given_lost s types f st go (location_of c.in-View.location) c.in-None.ensures.is

pub returns-in-Err : goal.returns-in-Err
returns-in-Err g c = λ s texts output input go.
    let types = types_in c.args.scope.now in
    let f = function_in c.args.scope.now in
    let content = g.S.Store.content c.args.store.now in
    let rows = g.S.Store.rows c.args.store.now in
    let m = meant types content rows in
    let cells = c.args.cells.now in
    let st = state_of m cells output input in
    let view = ap (λ (x : Characters). on_given s types f (characters_of x) st go) c.in-View.is in
    view ∙ given_stops s types f st go (location_of c.in-View.location) c.in-Some.view c.in-Err.stop c.in-Some.ensures.is (c.in-Err.ensures.is (kinds_of types) c.requires.fits.housed c.in-Some.ensures.fits)

pub returns-in-Ok-collected : goal.returns-in-Ok-collected
returns-in-Ok-collected g c = λ s texts output input go.
    let types = types_in c.args.scope.now in
    let f = function_in c.args.scope.now in
    let content = g.S.Store.content c.args.store.now in
    let rows = g.S.Store.rows c.args.store.now in
    let m = meant types content rows in
    let cells = c.args.cells.now in
    let st = state_of m cells output input in
    let view = ap (λ (x : Characters). on_given s types f (characters_of x) st go) c.in-View.is in
    let sees = (subst (λ (x : Characters). AreGiven types f (characters_of x) (state_in m cells)) c.in-View.is c.requires.seen).1 in
    view ∙ view_given s types f st go content rows refl c.requires.fits.housed (location_of c.in-View.location) c.in-Some.view c.in-Ok.view c.in-Some.ensures.fits c.in-Some.ensures.is sees
    (c.in-Ok.ensures.is (kinds_of types) c.requires.fits.housed c.in-Some.ensures.fits) c.in-Ok.ensures.same c.in-Ok-collected.words.items
    (c.in-Ok-collected.ensures ∙ ap (λ (ts : List (List ℕ)). stored_words ts content rows c.in-Ok.view ++ []) (sym texts))

pub returns-in-None-number_at : goal.returns-in-None-number_at
returns-in-None-number_at g c = λ s texts output input go.
    let types = types_in c.args.scope.now in
    let f = function_in c.args.scope.now in
    let content = g.S.Store.content c.args.store.now in
    let rows = g.S.Store.rows c.args.store.now in
    let m = meant types content rows in
    let cells = c.args.cells.now in
    let st = state_of m cells output input in
    let single = ap (λ (x : Characters). on_given s types f (characters_of x) st go) c.in-Single.is in
    single ∙ single_lost s types f st go c.in-Single.register c.in-None-number_at.ensures

pub returns-in-Ok-single : goal.returns-in-Ok-single
returns-in-Ok-single g c = λ s texts output input go.
    let types = types_in c.args.scope.now in
    let f = function_in c.args.scope.now in
    let content = g.S.Store.content c.args.store.now in
    let rows = g.S.Store.rows c.args.store.now in
    let m = meant types content rows in
    let cells = c.args.cells.now in
    let st = state_of m cells output input in
    let single = ap (λ (x : Characters). on_given s types f (characters_of x) st go) c.in-Single.is in
    let fits : SFits w64 c.in-Some-number_at.number = search rules in
    let word : c.cast_unsigned.result ≡ cast_unsigned w64 c.in-Some-number_at.number = c.cast_unsigned.ensures ∙ ap (cast_unsigned w64) (to_z-of_z w64 c.in-Some-number_at.number fits) in
    single ∙ single_given s types f st go c.in-Single.register c.in-Some-number_at.number c.in-Some-number_at.ensures ∙ ap go (sym (c.in-Ok-single.ensures ∙ ap (λ w. w ∷ []) word))
