use Rattle.std.proofs.Common.{List, Err, Ok, OnOk, ap, refl, subst, sym, ◌∙◌, ℕ, ◌≡◌, rules}
use Rattle.std.proofs.lemmas.Int.{to_z-of_z}
use mir.Val.{SFits}
use Rattle.std.specs.Int.{cast_unsigned, w64}
use Rattle.std.specs.Prelude.{slice_get}
use Rattle.life_core.specs.Step.{change_of}
use Rattle.life_core.specs.Operands.{characters_of}
use Rattle.life_core.specs.declared.instr.Change.{Change as Changing}
use Rattle.life_store.specs.Doing.{changed, edits}
use Rattle.life_store.specs.Edits.{Put, Add, Reserve as Room}
use Rattle.life_store.specs.Parts.{parts_at}
use Rattle.life_forest.proofs.StandingSteps.{IsTypedChange}
use Rattle.life_pointers.specs.Owned.{spot_seen}
use Rattle.life_cells.specs.Cells.{cells_seen, number_in, state_in, state_of}
use Rattle.life_cells.specs.Fits.{meant, IsFit}
use Rattle.life_cells.specs.Scopes.{function_in, types_in}
use Rattle.life_cells.specs.declared.cell.Cell.{Cell}
use Rattle.life_changes.specs.Edits.{edit_of}
use Rattle.life_changes.specs.Given.{GivesWords}
use Rattle.life_changes.specs.Owners.{OwnerAt}
use Rattle.life_changes.specs.Ready.{AreGiven, HasLocations}
use Rattle.life_changes.specs.Steps.{Goes}
use Rattle.life_changes.specs.declared.edit.Edit.TheVariants as editing
use Rattle.life_changes.proofs.ChangedWays.{given_edit, given_fails, reserves, reserves_lost}
use Rattle.life_changes.proofs.Ways.{goes_alike, goes_with}
use Rattle.life_changes.proofs.changing.changed.Goals as goal

pub push_back-requires-clause-typed : goal.push_back-requires-clause-typed
push_back-requires-clause-typed g c =
    let types = types_in c.args.scope.now in
    let f = function_in c.args.scope.now in
    let content = g.S.Store.content c.args.store.now in
    let rows = g.S.Store.rows c.args.store.now in
    let cells = c.args.cells.now.items in
    let m = meant types content rows in
    subst (λ (x : Changing). IsTypedChange types f (state_in m cells) c.args.ty (change_of x)) c.in-PushBack.is c.requires.typed

pub erase_at-requires-clause-typed : goal.erase_at-requires-clause-typed
erase_at-requires-clause-typed g c =
    let types = types_in c.args.scope.now in
    let f = function_in c.args.scope.now in
    let content = g.S.Store.content c.args.store.now in
    let rows = g.S.Store.rows c.args.store.now in
    let cells = c.args.cells.now.items in
    let m = meant types content rows in
    subst (λ (x : Changing). IsTypedChange types f (state_in m cells) c.args.ty (change_of x)) c.in-Erase.is c.requires.typed

pub erase_at-requires-clause-locations : goal.erase_at-requires-clause-locations
erase_at-requires-clause-locations g c =
    let types = types_in c.args.scope.now in
    let f = function_in c.args.scope.now in
    let content = g.S.Store.content c.args.store.now in
    let rows = g.S.Store.rows c.args.store.now in
    let cells = c.args.cells.now.items in
    let m = meant types content rows in
    subst (λ (x : Changing). HasLocations types f (change_of x) (state_in m cells)) c.in-Erase.is c.requires.locations

pub returns-in-PushBack-clause-step : goal.returns-in-PushBack-clause-step
returns-in-PushBack-clause-step g c = λ s set.
    let types = types_in c.args.scope.now in
    let f = function_in c.args.scope.now in
    let content = g.S.Store.content c.args.store.now in
    let rows = g.S.Store.rows c.args.store.now in
    let cells = c.args.cells.now.items in
    let m = meant types content rows in
    subst (λ (x : Changing). Goes (changed s types f (parts_at types c.args.ty) (spot_seen c.args.spot) (change_of x)) m cells (meant types (g.S.Store.content c.push_back.new.store) (g.S.Store.rows c.push_back.new.store)) c.push_back.new.cells.items c.push_back.result) (sym c.in-PushBack.is) (c.push_back.ensures.step s set)

pub returns-in-Erase-clause-step : goal.returns-in-Erase-clause-step
returns-in-Erase-clause-step g c = λ s set.
    let types = types_in c.args.scope.now in
    let f = function_in c.args.scope.now in
    let content = g.S.Store.content c.args.store.now in
    let rows = g.S.Store.rows c.args.store.now in
    let cells = c.args.cells.now.items in
    let m = meant types content rows in
    subst (λ (x : Changing). Goes (changed s types f (parts_at types c.args.ty) (spot_seen c.args.spot) (change_of x)) m cells (meant types (g.S.Store.content c.erase_at.new.store) (g.S.Store.rows c.erase_at.new.store)) c.erase_at.new.cells.items c.erase_at.result) (sym c.in-Erase.is) (c.erase_at.ensures.step s)

pub edit_here-requires-clause-at : goal.edit_here-requires-clause-at
edit_here-requires-clause-at g c =
    let types = types_in c.args.scope.now in
    let f = function_in c.args.scope.now in
    let content = g.S.Store.content c.args.store.now in
    let rows = g.S.Store.rows c.args.store.now in
    let limit = g.S.Store.limit c.args.store.now in
    let cells = c.args.cells.now.items in
    let m = meant types content rows in
    let p = parts_at types c.args.ty in
    subst (λ (cs : List Cell). OwnerAt types f limit c.args.depth c.args.ty c.args.spot content rows cs) (sym c.deref.ensures.value) c.requires.at

pub returns-in-PopBack-clause-step : goal.returns-in-PopBack-clause-step
returns-in-PopBack-clause-step g c = λ s set.
    let types = types_in c.args.scope.now in
    let f = function_in c.args.scope.now in
    let content = g.S.Store.content c.args.store.now in
    let rows = g.S.Store.rows c.args.store.now in
    let limit = g.S.Store.limit c.args.store.now in
    let cells = c.args.cells.now.items in
    let m = meant types content rows in
    let p = parts_at types c.args.ty in
    let n = meant types (g.S.Store.content c.edit_here.new.store) (g.S.Store.rows c.edit_here.new.store) in
    goes_alike (changed s types f p (spot_seen c.args.spot) (change_of c.args.change.now)) (edits s p (spot_seen c.args.spot) (edit_of (editing.Pop))) m cells
    (λ output input. ap (λ (x : Changing). changed s types f p (spot_seen c.args.spot) (change_of x) (state_of m cells output input)) c.in-PopBack.is)
    n cells c.edit_here.result
    (goes_with (edits s p (spot_seen c.args.spot) (edit_of (editing.Pop))) m n cells c.deref.result.now cells c.edit_here.result c.deref.ensures.value refl (c.edit_here.ensures.step s set))

pub returns-in-PopBack-clause-fits : goal.returns-in-PopBack-clause-fits
returns-in-PopBack-clause-fits g c =
    let types = types_in c.args.scope.now in
    let f = function_in c.args.scope.now in
    let content = g.S.Store.content c.args.store.now in
    let rows = g.S.Store.rows c.args.store.now in
    let limit = g.S.Store.limit c.args.store.now in
    let cells = c.args.cells.now.items in
    let m = meant types content rows in
    let p = parts_at types c.args.ty in
    subst (λ (cs : List Cell). OnOk c.edit_here.result (IsFit types (g.S.Store.content c.edit_here.new.store) (g.S.Store.rows c.edit_here.new.store) cs)) c.deref.ensures.value c.edit_here.ensures.fits

pub edit_here-requires-in-Clear-clause-at : goal.edit_here-requires-in-Clear-clause-at
edit_here-requires-in-Clear-clause-at g c =
    let types = types_in c.args.scope.now in
    let f = function_in c.args.scope.now in
    let content = g.S.Store.content c.args.store.now in
    let rows = g.S.Store.rows c.args.store.now in
    let limit = g.S.Store.limit c.args.store.now in
    let cells = c.args.cells.now.items in
    let m = meant types content rows in
    let p = parts_at types c.args.ty in
    subst (λ (cs : List Cell). OwnerAt types f limit c.args.depth c.args.ty c.args.spot content rows cs) (sym c.deref-in-Clear.ensures.value) c.requires.at

pub returns-in-Clear-clause-step : goal.returns-in-Clear-clause-step
returns-in-Clear-clause-step g c = λ s set.
    let types = types_in c.args.scope.now in
    let f = function_in c.args.scope.now in
    let content = g.S.Store.content c.args.store.now in
    let rows = g.S.Store.rows c.args.store.now in
    let limit = g.S.Store.limit c.args.store.now in
    let cells = c.args.cells.now.items in
    let m = meant types content rows in
    let p = parts_at types c.args.ty in
    let n = meant types (g.S.Store.content c.edit_here-in-Clear.new.store) (g.S.Store.rows c.edit_here-in-Clear.new.store) in
    goes_alike (changed s types f p (spot_seen c.args.spot) (change_of c.args.change.now)) (edits s p (spot_seen c.args.spot) (edit_of (editing.Clear))) m cells
    (λ output input. ap (λ (x : Changing). changed s types f p (spot_seen c.args.spot) (change_of x) (state_of m cells output input)) c.in-Clear.is)
    n cells c.edit_here-in-Clear.result
    (goes_with (edits s p (spot_seen c.args.spot) (edit_of (editing.Clear))) m n cells c.deref-in-Clear.result.now cells c.edit_here-in-Clear.result c.deref-in-Clear.ensures.value refl (c.edit_here-in-Clear.ensures.step s set))

pub returns-in-Clear-clause-fits : goal.returns-in-Clear-clause-fits
returns-in-Clear-clause-fits g c =
    let types = types_in c.args.scope.now in
    let f = function_in c.args.scope.now in
    let content = g.S.Store.content c.args.store.now in
    let rows = g.S.Store.rows c.args.store.now in
    let limit = g.S.Store.limit c.args.store.now in
    let cells = c.args.cells.now.items in
    let m = meant types content rows in
    let p = parts_at types c.args.ty in
    subst (λ (cs : List Cell). OnOk c.edit_here-in-Clear.result (IsFit types (g.S.Store.content c.edit_here-in-Clear.new.store) (g.S.Store.rows c.edit_here-in-Clear.new.store) cs)) c.deref-in-Clear.ensures.value c.edit_here-in-Clear.ensures.fits

pub edit_here-requires-in-Some-clause-at : goal.edit_here-requires-in-Some-clause-at
edit_here-requires-in-Some-clause-at g c =
    let types = types_in c.args.scope.now in
    let f = function_in c.args.scope.now in
    let content = g.S.Store.content c.args.store.now in
    let rows = g.S.Store.rows c.args.store.now in
    let limit = g.S.Store.limit c.args.store.now in
    let cells = c.args.cells.now.items in
    let m = meant types content rows in
    let p = parts_at types c.args.ty in
    subst (λ (cs : List Cell). OwnerAt types f limit c.args.depth c.args.ty c.args.spot content rows cs) (sym c.deref-in-Some.ensures.value) c.requires.at

pub returns-in-Some-clause-step : goal.returns-in-Some-clause-step
returns-in-Some-clause-step g c = λ s set.
    let types = types_in c.args.scope.now in
    let f = function_in c.args.scope.now in
    let content = g.S.Store.content c.args.store.now in
    let rows = g.S.Store.rows c.args.store.now in
    let limit = g.S.Store.limit c.args.store.now in
    let cells = c.args.cells.now.items in
    let m = meant types content rows in
    let p = parts_at types c.args.ty in
    let n = meant types (g.S.Store.content c.edit_here-in-Some.new.store) (g.S.Store.rows c.edit_here-in-Some.new.store) in
    let fits : SFits w64 c.in-Some.number = search rules in
    let whole : c.cast_unsigned.result ≡ cast_unsigned w64 c.in-Some.number = c.cast_unsigned.ensures ∙ ap (cast_unsigned w64) (to_z-of_z w64 c.in-Some.number fits) in
    goes_alike (changed s types f p (spot_seen c.args.spot) (change_of c.args.change.now)) (edits s p (spot_seen c.args.spot) (edit_of (editing.Reserve c.cast_unsigned.result))) m cells
    (λ output input. ap (λ (x : Changing). changed s types f p (spot_seen c.args.spot) (change_of x) (state_of m cells output input)) c.in-Reserve.is
    ∙ reserves s types f p c.args.spot m cells c.in-Reserve.register c.in-Some.number (c.in-Some.ensures ∙ ap (λ (cs : List Cell). number_in (slice_get (cells_seen cs) c.in-Reserve.register)) c.deref-in-Reserve.ensures.value) output input
    ∙ ap (λ n. edits s p (spot_seen c.args.spot) (Room n) (state_of m cells output input)) (sym whole))
    n cells c.edit_here-in-Some.result
    (goes_with (edits s p (spot_seen c.args.spot) (edit_of (editing.Reserve c.cast_unsigned.result))) m n cells c.deref-in-Some.result.now cells c.edit_here-in-Some.result c.deref-in-Some.ensures.value refl (c.edit_here-in-Some.ensures.step s set))

pub returns-in-Some-clause-fits : goal.returns-in-Some-clause-fits
returns-in-Some-clause-fits g c =
    let types = types_in c.args.scope.now in
    let f = function_in c.args.scope.now in
    let content = g.S.Store.content c.args.store.now in
    let rows = g.S.Store.rows c.args.store.now in
    let limit = g.S.Store.limit c.args.store.now in
    let cells = c.args.cells.now.items in
    let m = meant types content rows in
    let p = parts_at types c.args.ty in
    subst (λ (cs : List Cell). OnOk c.edit_here-in-Some.result (IsFit types (g.S.Store.content c.edit_here-in-Some.new.store) (g.S.Store.rows c.edit_here-in-Some.new.store) cs)) c.deref-in-Some.ensures.value c.edit_here-in-Some.ensures.fits

pub returns-in-None-clause-step : goal.returns-in-None-clause-step
returns-in-None-clause-step g c = λ s set output input.
    let types = types_in c.args.scope.now in
    let f = function_in c.args.scope.now in
    let content = g.S.Store.content c.args.store.now in
    let rows = g.S.Store.rows c.args.store.now in
    let limit = g.S.Store.limit c.args.store.now in
    let cells = c.args.cells.now.items in
    let m = meant types content rows in
    let p = parts_at types c.args.ty in
    ap (λ (x : Changing). changed s types f p (spot_seen c.args.spot) (change_of x) (state_of m cells output input)) c.in-Reserve.is
    ∙ reserves_lost s types f p c.args.spot m cells c.in-Reserve.register (c.in-None.ensures ∙ ap (λ (cs : List Cell). number_in (slice_get (cells_seen cs) c.in-Reserve.register)) c.deref-in-Reserve.ensures.value) output input

pub returns-in-Err-clause-step : goal.returns-in-Err-clause-step
returns-in-Err-clause-step g c = λ s set.
    let types = types_in c.args.scope.now in
    let f = function_in c.args.scope.now in
    let content = g.S.Store.content c.args.store.now in
    let rows = g.S.Store.rows c.args.store.now in
    let limit = g.S.Store.limit c.args.store.now in
    let cells = c.args.cells.now.items in
    let m = meant types content rows in
    let p = parts_at types c.args.ty in
    let gives = subst (λ (cs : List Cell). GivesWords s types f (characters_of c.in-Set.characters) m cs (Err c.in-Err.failure)) c.deref-in-Set.ensures.value (c.in-Err.ensures s set.texts_is) in
    subst (λ (x : Changing). Goes {A = Unit {0}} (changed s types f p (spot_seen c.args.spot) (change_of x)) m cells m cells (Err c.in-Err.failure)) (sym c.in-Set.is)
    (given_fails s types f p c.args.spot m cells (characters_of c.in-Set.characters) Put m cells c.in-Err.failure gives)

pub returns-in-Ok-clause-step : goal.returns-in-Ok-clause-step
returns-in-Ok-clause-step g c = λ s set.
    let types = types_in c.args.scope.now in
    let f = function_in c.args.scope.now in
    let content = g.S.Store.content c.args.store.now in
    let rows = g.S.Store.rows c.args.store.now in
    let limit = g.S.Store.limit c.args.store.now in
    let cells = c.args.cells.now.items in
    let m = meant types content rows in
    let p = parts_at types c.args.ty in
    let n = meant types (g.S.Store.content c.edit_here-in-Ok.new.store) (g.S.Store.rows c.edit_here-in-Ok.new.store) in
    let gives = subst (λ (cs : List Cell). GivesWords s types f (characters_of c.in-Set.characters) m cs (Ok c.in-Ok.words)) c.deref-in-Set.ensures.value (c.in-Ok.ensures s set.texts_is) in
    goes_alike (changed s types f p (spot_seen c.args.spot) (change_of c.args.change.now)) (edits s p (spot_seen c.args.spot) (Put c.in-Ok.words.items)) m cells
    (λ output input. ap (λ (x : Changing). changed s types f p (spot_seen c.args.spot) (change_of x) (state_of m cells output input)) c.in-Set.is ∙ given_edit s types f p c.args.spot m cells (characters_of c.in-Set.characters) Put c.in-Ok.words.items gives output input)
    n cells c.edit_here-in-Ok.result
    (goes_with (edits s p (spot_seen c.args.spot) (Put c.in-Ok.words.items)) m n cells c.deref-in-Ok-2.result.now cells c.edit_here-in-Ok.result c.deref-in-Ok-2.ensures.value refl
    (subst (λ (ws : List ℕ). Goes (edits s p (spot_seen c.args.spot) (Put ws)) m c.deref-in-Ok-2.result.now n c.deref-in-Ok-2.result.now c.edit_here-in-Ok.result) c.deref-in-Ok.ensures.value (c.edit_here-in-Ok.ensures.step s set)))

pub returns-in-Err-given-clause-step : goal.returns-in-Err-given-clause-step
returns-in-Err-given-clause-step g c = λ s set.
    let types = types_in c.args.scope.now in
    let f = function_in c.args.scope.now in
    let content = g.S.Store.content c.args.store.now in
    let rows = g.S.Store.rows c.args.store.now in
    let limit = g.S.Store.limit c.args.store.now in
    let cells = c.args.cells.now.items in
    let m = meant types content rows in
    let p = parts_at types c.args.ty in
    let gives = subst (λ (cs : List Cell). GivesWords s types f (characters_of c.in-Append.characters) m cs (Err c.in-Err-given.failure)) c.deref-in-Append.ensures.value (c.in-Err-given.ensures s set.texts_is) in
    subst (λ (x : Changing). Goes {A = Unit {0}} (changed s types f p (spot_seen c.args.spot) (change_of x)) m cells m cells (Err c.in-Err-given.failure)) (sym c.in-Append.is)
    (given_fails s types f p c.args.spot m cells (characters_of c.in-Append.characters) Add m cells c.in-Err-given.failure gives)

pub returns-in-Ok-given-clause-step : goal.returns-in-Ok-given-clause-step
returns-in-Ok-given-clause-step g c = λ s set.
    let types = types_in c.args.scope.now in
    let f = function_in c.args.scope.now in
    let content = g.S.Store.content c.args.store.now in
    let rows = g.S.Store.rows c.args.store.now in
    let limit = g.S.Store.limit c.args.store.now in
    let cells = c.args.cells.now.items in
    let m = meant types content rows in
    let p = parts_at types c.args.ty in
    let n = meant types (g.S.Store.content c.edit_here-in-Ok-given.new.store) (g.S.Store.rows c.edit_here-in-Ok-given.new.store) in
    let gives = subst (λ (cs : List Cell). GivesWords s types f (characters_of c.in-Append.characters) m cs (Ok c.in-Ok-given.words)) c.deref-in-Append.ensures.value (c.in-Ok-given.ensures s set.texts_is) in
    goes_alike (changed s types f p (spot_seen c.args.spot) (change_of c.args.change.now)) (edits s p (spot_seen c.args.spot) (Add c.in-Ok-given.words.items)) m cells
    (λ output input. ap (λ (x : Changing). changed s types f p (spot_seen c.args.spot) (change_of x) (state_of m cells output input)) c.in-Append.is ∙ given_edit s types f p c.args.spot m cells (characters_of c.in-Append.characters) Add c.in-Ok-given.words.items gives output input)
    n cells c.edit_here-in-Ok-given.result
    (goes_with (edits s p (spot_seen c.args.spot) (Add c.in-Ok-given.words.items)) m n cells c.deref-in-Ok-given-2.result.now cells c.edit_here-in-Ok-given.result c.deref-in-Ok-given-2.ensures.value refl
    (subst (λ (ws : List ℕ). Goes (edits s p (spot_seen c.args.spot) (Add ws)) m c.deref-in-Ok-given-2.result.now n c.deref-in-Ok-given-2.result.now c.edit_here-in-Ok-given.result) c.deref-in-Ok-given.ensures.value (c.edit_here-in-Ok-given.ensures.step s set)))

pub given-requires-clause-fits : goal.given-requires-clause-fits
given-requires-clause-fits g c =
    let types = types_in c.args.scope.now in
    let f = function_in c.args.scope.now in
    let content = g.S.Store.content c.args.store.now in
    let rows = g.S.Store.rows c.args.store.now in
    let limit = g.S.Store.limit c.args.store.now in
    let cells = c.args.cells.now.items in
    let m = meant types content rows in
    subst (λ (cs : List Cell). IsFit types content rows cs) (sym c.deref-in-Set.ensures.value) c.requires.at.ready.fits

pub given-requires-clause-seen : goal.given-requires-clause-seen
given-requires-clause-seen g c =
    let types = types_in c.args.scope.now in
    let f = function_in c.args.scope.now in
    let content = g.S.Store.content c.args.store.now in
    let rows = g.S.Store.rows c.args.store.now in
    let limit = g.S.Store.limit c.args.store.now in
    let cells = c.args.cells.now.items in
    let m = meant types content rows in
    subst (λ (cs : List Cell). AreGiven types f (characters_of c.in-Set.characters) (state_in m cs)) (sym c.deref-in-Set.ensures.value)
    (subst (λ (x : Changing). HasLocations types f (change_of x) (state_in m cells)) c.in-Set.is c.requires.locations)

pub edit_here-requires-in-Ok-clause-at : goal.edit_here-requires-in-Ok-clause-at
edit_here-requires-in-Ok-clause-at g c =
    let types = types_in c.args.scope.now in
    let f = function_in c.args.scope.now in
    let content = g.S.Store.content c.args.store.now in
    let rows = g.S.Store.rows c.args.store.now in
    let limit = g.S.Store.limit c.args.store.now in
    let cells = c.args.cells.now.items in
    let m = meant types content rows in
    subst (λ (cs : List Cell). OwnerAt types f limit c.args.depth c.args.ty c.args.spot content rows cs) (sym c.deref-in-Ok-2.ensures.value) c.requires.at

pub returns-in-Ok-clause-fits : goal.returns-in-Ok-clause-fits
returns-in-Ok-clause-fits g c =
    let types = types_in c.args.scope.now in
    let f = function_in c.args.scope.now in
    let content = g.S.Store.content c.args.store.now in
    let rows = g.S.Store.rows c.args.store.now in
    let limit = g.S.Store.limit c.args.store.now in
    let cells = c.args.cells.now.items in
    let m = meant types content rows in
    subst (λ (cs : List Cell). OnOk c.edit_here-in-Ok.result (IsFit types (g.S.Store.content c.edit_here-in-Ok.new.store) (g.S.Store.rows c.edit_here-in-Ok.new.store) cs)) c.deref-in-Ok-2.ensures.value c.edit_here-in-Ok.ensures.fits

pub given-requires-in-Append-clause-fits : goal.given-requires-in-Append-clause-fits
given-requires-in-Append-clause-fits g c =
    let types = types_in c.args.scope.now in
    let f = function_in c.args.scope.now in
    let content = g.S.Store.content c.args.store.now in
    let rows = g.S.Store.rows c.args.store.now in
    let limit = g.S.Store.limit c.args.store.now in
    let cells = c.args.cells.now.items in
    let m = meant types content rows in
    subst (λ (cs : List Cell). IsFit types content rows cs) (sym c.deref-in-Append.ensures.value) c.requires.at.ready.fits

pub given-requires-in-Append-clause-seen : goal.given-requires-in-Append-clause-seen
given-requires-in-Append-clause-seen g c =
    let types = types_in c.args.scope.now in
    let f = function_in c.args.scope.now in
    let content = g.S.Store.content c.args.store.now in
    let rows = g.S.Store.rows c.args.store.now in
    let limit = g.S.Store.limit c.args.store.now in
    let cells = c.args.cells.now.items in
    let m = meant types content rows in
    subst (λ (cs : List Cell). AreGiven types f (characters_of c.in-Append.characters) (state_in m cs)) (sym c.deref-in-Append.ensures.value)
    (subst (λ (x : Changing). HasLocations types f (change_of x) (state_in m cells)) c.in-Append.is c.requires.locations)

pub edit_here-requires-in-Ok-given-clause-at : goal.edit_here-requires-in-Ok-given-clause-at
edit_here-requires-in-Ok-given-clause-at g c =
    let types = types_in c.args.scope.now in
    let f = function_in c.args.scope.now in
    let content = g.S.Store.content c.args.store.now in
    let rows = g.S.Store.rows c.args.store.now in
    let limit = g.S.Store.limit c.args.store.now in
    let cells = c.args.cells.now.items in
    let m = meant types content rows in
    subst (λ (cs : List Cell). OwnerAt types f limit c.args.depth c.args.ty c.args.spot content rows cs) (sym c.deref-in-Ok-given-2.ensures.value) c.requires.at

pub returns-in-Ok-given-clause-fits : goal.returns-in-Ok-given-clause-fits
returns-in-Ok-given-clause-fits g c =
    let types = types_in c.args.scope.now in
    let f = function_in c.args.scope.now in
    let content = g.S.Store.content c.args.store.now in
    let rows = g.S.Store.rows c.args.store.now in
    let limit = g.S.Store.limit c.args.store.now in
    let cells = c.args.cells.now.items in
    let m = meant types content rows in
    subst (λ (cs : List Cell). OnOk c.edit_here-in-Ok-given.result (IsFit types (g.S.Store.content c.edit_here-in-Ok-given.new.store) (g.S.Store.rows c.edit_here-in-Ok-given.new.store) cs)) c.deref-in-Ok-given-2.ensures.value c.edit_here-in-Ok-given.ensures.fits
