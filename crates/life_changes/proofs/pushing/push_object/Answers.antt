use Rattle.std.proofs.Common.{Err, Ok, ap, refl, subst, sym, ◌∙◌, Result}
use Rattle.std.specs.Prelude.{slice_set}
use Rattle.life_store.specs.Doing.{pushes}
use Rattle.life_store.specs.Edits.{pushed}
use Rattle.life_store.specs.Effects.{cell, Setting}
use Rattle.life_store.specs.Owners.{consumed}
use Rattle.life_store.specs.Parts.{parts_at}
use Rattle.life_store.specs.State.{State}
use Rattle.life_seen.specs.Kinds.{kinds_of}
use Rattle.life_values.specs.Moved.{place}
use Rattle.life_values.specs.Pushed.{CanPushTaken}
use Rattle.life_values.specs.declared.spot.Spot.{Spot as Wide}
use Rattle.life_words.specs.Owning.{number_of}
use Rattle.life_pointers.specs.Owned.{spot_seen}
use Rattle.life_cells.specs.Fits.{meant}
use Rattle.life_cells.specs.Scopes.{function_in, texts_in, types_in}
use Rattle.life_cells.specs.declared.cell.Cell.TheVariants as held
use Rattle.life_changes.specs.Failures.{unborn}
use Rattle.life_changes.specs.Steps.{Goes}
use Rattle.life_changes.specs.declared.failure.Failure.{Failure}
use Rattle.life_changes.proofs.Editing.{comes_got, comes_unborn, has_buffer, has_word, is_owner, raw}
use Rattle.life_changes.proofs.Frames.{got_behind, in_hand, some_given, stands_at}
use Rattle.life_changes.proofs.Owned.{vector_parts}
use Rattle.life_changes.proofs.Pushed.{soon}
use Rattle.life_changes.proofs.Taken.{can_push_taken, few_taken, pushed_stops, taken_behind, taken_fits, taken_goes, taken_same}
use Rattle.life_changes.proofs.Temporaries.{is_given, named}
use Rattle.life_changes.proofs.Vectors as vectors
use Rattle.life_changes.proofs.Ways.{fails_alike}
use Rattle.life_changes.proofs.pushing.push_object.Goals as goal

pub buffer-requires : goal.buffer-requires
buffer-requires g c =
    let types = types_in c.args.scope.now in
    let f = function_in c.args.scope.now in
    let content = g.S.Store.content c.args.store.now in
    let rows = g.S.Store.rows c.args.store.now in
    let limit = g.S.Store.limit c.args.store.now in
    let cells = c.args.cells.now.items in
    let now = c.requires.at in
    let here = stands_at types f limit c.args.depth c.args.ty c.args.spot content rows cells now in
    let hand = in_hand types f limit c.args.depth c.args.ty c.args.spot content rows cells now in
    let given = is_given types f limit c.args.depth c.args.ty c.args.spot content rows cells now c.args.value c.args.temporary c.requires.held c.requires.typed in
    let owns = vector_parts types here.served.ordered c.args.ty given.0 (parts_at types given.0) given.1 in
    has_word types limit c.args.depth hand c.args.ty c.args.spot content rows here given.0 (parts_at types given.0) owns

pub returns-in-Err-clause-step : goal.returns-in-Err-clause-step
returns-in-Err-clause-step g c = λ s set.
    let types = types_in c.args.scope.now in
    let f = function_in c.args.scope.now in
    let content = g.S.Store.content c.args.store.now in
    let rows = g.S.Store.rows c.args.store.now in
    let limit = g.S.Store.limit c.args.store.now in
    let cells = c.args.cells.now.items in
    let now = c.requires.at in
    let here = stands_at types f limit c.args.depth c.args.ty c.args.spot content rows cells now in
    let hand = in_hand types f limit c.args.depth c.args.ty c.args.spot content rows cells now in
    let given = is_given types f limit c.args.depth c.args.ty c.args.spot content rows cells now c.args.value c.args.temporary c.requires.held c.requires.typed in
    let owns = vector_parts types here.served.ordered c.args.ty given.0 (parts_at types given.0) given.1 in
    pushed_stops s types f (parts_at types c.args.ty) c.args.spot (meant types content rows) (meant types content rows) cells cells c.args.value c.args.temporary.birth number_of c.in-Err.stop
    (named types f limit c.args.depth c.args.ty c.args.spot content rows cells now c.args.value c.args.temporary c.requires.held)
    (c.in-Err.ensures.is (kinds_of types) (raw types limit c.args.depth hand c.args.ty c.args.spot content rows here) (is_owner types limit c.args.depth hand c.args.ty c.args.spot content rows here given.0 (parts_at types given.0) owns))

pub push_taken-requires-clause-can : goal.push_taken-requires-clause-can
push_taken-requires-clause-can g c =
    let types = types_in c.args.scope.now in
    let f = function_in c.args.scope.now in
    let content = g.S.Store.content c.args.store.now in
    let rows = g.S.Store.rows c.args.store.now in
    let limit = g.S.Store.limit c.args.store.now in
    let cells = c.args.cells.now.items in
    let now = c.requires.at in
    let here = stands_at types f limit c.args.depth c.args.ty c.args.spot content rows cells now in
    let hand = in_hand types f limit c.args.depth c.args.ty c.args.spot content rows cells now in
    let given = is_given types f limit c.args.depth c.args.ty c.args.spot content rows cells now c.args.value c.args.temporary c.requires.held c.requires.typed in
    let owns = vector_parts types here.served.ordered c.args.ty given.0 (parts_at types given.0) given.1 in
    let own = has_buffer types limit c.args.depth hand c.args.ty c.args.spot content rows here given.0 (parts_at types given.0) owns c.in-Ok.buffer
    (c.in-Ok.ensures.is (kinds_of types) (raw types limit c.args.depth hand c.args.ty c.args.spot content rows here) (is_owner types limit c.args.depth hand c.args.ty c.args.spot content rows here given.0 (parts_at types given.0) owns))
    (c.in-Ok.ensures.fits (kinds_of types) (raw types limit c.args.depth hand c.args.ty c.args.spot content rows here) (is_owner types limit c.args.depth hand c.args.ty c.args.spot content rows here given.0 (parts_at types given.0) owns)) in
    subst (λ (w : Wide). CanPushTaken types w c.in-Ok.buffer c.args.temporary content rows) (sym c.wide-place.ensures) (can_push_taken types f limit c.args.depth c.args.ty c.args.spot content rows cells now c.args.value c.args.temporary c.requires.held c.in-Ok.buffer own given.0 given.1 given.2)

pub push_taken-requires-clause-births : goal.push_taken-requires-clause-births
push_taken-requires-clause-births g c = λ o e.
    let types = types_in c.args.scope.now in
    let f = function_in c.args.scope.now in
    let content = g.S.Store.content c.args.store.now in
    let rows = g.S.Store.rows c.args.store.now in
    let limit = g.S.Store.limit c.args.store.now in
    let cells = c.args.cells.now.items in
    let now = c.requires.at in
    let here = stands_at types f limit c.args.depth c.args.ty c.args.spot content rows cells now in
    let hand = in_hand types f limit c.args.depth c.args.ty c.args.spot content rows cells now in
    let given = is_given types f limit c.args.depth c.args.ty c.args.spot content rows cells now c.args.value c.args.temporary c.requires.held c.requires.typed in
    let owns = vector_parts types here.served.ordered c.args.ty given.0 (parts_at types given.0) given.1 in
    let own = has_buffer types limit c.args.depth hand c.args.ty c.args.spot content rows here given.0 (parts_at types given.0) owns c.in-Ok.buffer
    (c.in-Ok.ensures.is (kinds_of types) (raw types limit c.args.depth hand c.args.ty c.args.spot content rows here) (is_owner types limit c.args.depth hand c.args.ty c.args.spot content rows here given.0 (parts_at types given.0) owns))
    (c.in-Ok.ensures.fits (kinds_of types) (raw types limit c.args.depth hand c.args.ty c.args.spot content rows here) (is_owner types limit c.args.depth hand c.args.ty c.args.spot content rows here given.0 (parts_at types given.0) owns)) in
    few_taken types f limit c.args.depth c.args.ty c.args.spot content rows cells now c.args.value c.args.temporary c.requires.held c.in-Ok.buffer own given.0 given.1 given.2 c.args.scope.now.layouts.now c.args.scope.now.laid o e

pub push_taken-requires-clause-clock : goal.push_taken-requires-clause-clock
push_taken-requires-clause-clock g c =
    let types = types_in c.args.scope.now in
    let f = function_in c.args.scope.now in
    let content = g.S.Store.content c.args.store.now in
    let rows = g.S.Store.rows c.args.store.now in
    let limit = g.S.Store.limit c.args.store.now in
    let cells = c.args.cells.now.items in
    let now = c.requires.at in
    let here = stands_at types f limit c.args.depth c.args.ty c.args.spot content rows cells now in
    let hand = in_hand types f limit c.args.depth c.args.ty c.args.spot content rows cells now in
    let given = is_given types f limit c.args.depth c.args.ty c.args.spot content rows cells now c.args.value c.args.temporary c.requires.held c.requires.typed in
    let owns = vector_parts types here.served.ordered c.args.ty given.0 (parts_at types given.0) given.1 in
    let own = has_buffer types limit c.args.depth hand c.args.ty c.args.spot content rows here given.0 (parts_at types given.0) owns c.in-Ok.buffer
    (c.in-Ok.ensures.is (kinds_of types) (raw types limit c.args.depth hand c.args.ty c.args.spot content rows here) (is_owner types limit c.args.depth hand c.args.ty c.args.spot content rows here given.0 (parts_at types given.0) owns))
    (c.in-Ok.ensures.fits (kinds_of types) (raw types limit c.args.depth hand c.args.ty c.args.spot content rows here) (is_owner types limit c.args.depth hand c.args.ty c.args.spot content rows here given.0 (parts_at types given.0) owns)) in
    soon types c.args.scope.now.layouts.now c.args.scope.now.laid limit c.args.depth hand c.args.ty c.args.spot c.in-Ok.buffer content rows own given.0 (parts_at types given.0) owns

pub returns-in-Err-push_taken-clause-step : goal.returns-in-Err-push_taken-clause-step
returns-in-Err-push_taken-clause-step g c = λ s set.
    let types = types_in c.args.scope.now in
    let f = function_in c.args.scope.now in
    let content = g.S.Store.content c.args.store.now in
    let rows = g.S.Store.rows c.args.store.now in
    let limit = g.S.Store.limit c.args.store.now in
    let cells = c.args.cells.now.items in
    let now = c.requires.at in
    let here = stands_at types f limit c.args.depth c.args.ty c.args.spot content rows cells now in
    let hand = in_hand types f limit c.args.depth c.args.ty c.args.spot content rows cells now in
    let given = is_given types f limit c.args.depth c.args.ty c.args.spot content rows cells now c.args.value c.args.temporary c.requires.held c.requires.typed in
    let owns = vector_parts types here.served.ordered c.args.ty given.0 (parts_at types given.0) given.1 in
    let own = has_buffer types limit c.args.depth hand c.args.ty c.args.spot content rows here given.0 (parts_at types given.0) owns c.in-Ok.buffer
    (c.in-Ok.ensures.is (kinds_of types) (raw types limit c.args.depth hand c.args.ty c.args.spot content rows here) (is_owner types limit c.args.depth hand c.args.ty c.args.spot content rows here given.0 (parts_at types given.0) owns))
    (c.in-Ok.ensures.fits (kinds_of types) (raw types limit c.args.depth hand c.args.ty c.args.spot content rows here) (is_owner types limit c.args.depth hand c.args.ty c.args.spot content rows here given.0 (parts_at types given.0) owns)) in
    let owned = vector_parts types own.stands.served.ordered c.args.ty given.0 (parts_at types given.0) given.1 in
    let ob = vectors.ob types limit c.args.depth hand c.args.ty c.args.spot c.in-Ok.buffer content rows own given.0 (parts_at types given.0) owned in
    let there = vectors.there types limit c.args.depth hand c.args.ty c.args.spot c.in-Ok.buffer content rows own given.0 (parts_at types given.0) owned in
    let m = meant types content rows in
    let d = g.S.Store.content c.push_taken.new.store in
    let new = g.S.Store.rows c.push_taken.new.store in
    let same = λ (s : Setting). ap (λ (w : Wide). pushed s ob.ty (parts_at types ob.ty) (place w) c.in-Ok.buffer.birth (consumed (parts_at types ob.ty) c.args.temporary.birth) m) c.wide-place.ensures
    ∙ taken_same types f limit c.args.depth c.args.ty c.args.spot content rows cells now c.args.value c.args.temporary c.requires.held c.in-Ok.buffer own given.0 given.1 given.2 s in
    let came = c.in-Err-push_taken.ensures.pushed s ob set.cells_is set.growth_is there in
    let effect = λ (st : State). pushes s types f (parts_at types c.args.ty) (spot_seen c.args.spot) c.args.value (cell st c.args.value) st in
    let failed : Result (Unit {0}) Failure = Err (unborn c.in-Err-push_taken.fault) in
    subst (λ (why : Failure). Goes {A = Unit {0}} effect m cells (meant types d new) cells (Err why)) (sym c.unborn.ensures)
    (fails_alike effect m (meant types d new) (meant types d new) cells (slice_set cells c.args.value held.Empty) cells (unborn c.in-Err-push_taken.fault)
    (taken_goes types f limit c.args.depth c.args.ty c.args.spot content rows cells now c.args.value c.args.temporary c.requires.held c.in-Ok.buffer own given.0 given.1 given.2 s
    (c.in-Ok.ensures.is (kinds_of types) (raw types limit c.args.depth hand c.args.ty c.args.spot content rows here) (is_owner types limit c.args.depth hand c.args.ty c.args.spot content rows here given.0 (parts_at types given.0) owns))
    d new (slice_set cells c.args.value held.Empty) refl failed
    (comes_unborn (Unit {0}) (Unit {0}) (kinds_of types) _ (pushed s given.0 (parts_at types given.0) (spot_seen c.args.spot) c.in-Ok.buffer.birth (consumed (parts_at types given.0) c.args.temporary.birth) m) d d new new c.in-Err-push_taken.fault (same s) came)))

pub returns-in-Ok-push_taken-clause-step : goal.returns-in-Ok-push_taken-clause-step
returns-in-Ok-push_taken-clause-step g c = λ s set.
    let types = types_in c.args.scope.now in
    let f = function_in c.args.scope.now in
    let content = g.S.Store.content c.args.store.now in
    let rows = g.S.Store.rows c.args.store.now in
    let limit = g.S.Store.limit c.args.store.now in
    let cells = c.args.cells.now.items in
    let now = c.requires.at in
    let here = stands_at types f limit c.args.depth c.args.ty c.args.spot content rows cells now in
    let hand = in_hand types f limit c.args.depth c.args.ty c.args.spot content rows cells now in
    let given = is_given types f limit c.args.depth c.args.ty c.args.spot content rows cells now c.args.value c.args.temporary c.requires.held c.requires.typed in
    let owns = vector_parts types here.served.ordered c.args.ty given.0 (parts_at types given.0) given.1 in
    let own = has_buffer types limit c.args.depth hand c.args.ty c.args.spot content rows here given.0 (parts_at types given.0) owns c.in-Ok.buffer
    (c.in-Ok.ensures.is (kinds_of types) (raw types limit c.args.depth hand c.args.ty c.args.spot content rows here) (is_owner types limit c.args.depth hand c.args.ty c.args.spot content rows here given.0 (parts_at types given.0) owns))
    (c.in-Ok.ensures.fits (kinds_of types) (raw types limit c.args.depth hand c.args.ty c.args.spot content rows here) (is_owner types limit c.args.depth hand c.args.ty c.args.spot content rows here given.0 (parts_at types given.0) owns)) in
    let owned = vector_parts types own.stands.served.ordered c.args.ty given.0 (parts_at types given.0) given.1 in
    let ob = vectors.ob types limit c.args.depth hand c.args.ty c.args.spot c.in-Ok.buffer content rows own given.0 (parts_at types given.0) owned in
    let there = vectors.there types limit c.args.depth hand c.args.ty c.args.spot c.in-Ok.buffer content rows own given.0 (parts_at types given.0) owned in
    let m = meant types content rows in
    let d = g.S.Store.content c.push_taken.new.store in
    let new = g.S.Store.rows c.push_taken.new.store in
    let same = λ (s : Setting). ap (λ (w : Wide). pushed s ob.ty (parts_at types ob.ty) (place w) c.in-Ok.buffer.birth (consumed (parts_at types ob.ty) c.args.temporary.birth) m) c.wide-place.ensures
    ∙ taken_same types f limit c.args.depth c.args.ty c.args.spot content rows cells now c.args.value c.args.temporary c.requires.held c.in-Ok.buffer own given.0 given.1 given.2 s in
    let came = c.in-Ok-push_taken.ensures.pushed s ob set.cells_is set.growth_is there in
    taken_goes types f limit c.args.depth c.args.ty c.args.spot content rows cells now c.args.value c.args.temporary c.requires.held c.in-Ok.buffer own given.0 given.1 given.2 s
    (c.in-Ok.ensures.is (kinds_of types) (raw types limit c.args.depth hand c.args.ty c.args.spot content rows here) (is_owner types limit c.args.depth hand c.args.ty c.args.spot content rows here given.0 (parts_at types given.0) owns))
    d new c.put_cell.new.cells.items c.put_cell.ensures (Ok (tt {0}))
    (comes_got (kinds_of types) _ (pushed s given.0 (parts_at types given.0) (spot_seen c.args.spot) c.in-Ok.buffer.birth (consumed (parts_at types given.0) c.args.temporary.birth) m) d new (tt {0}) (same s) came)

pub returns-in-Ok-push_taken-clause-bounded : goal.returns-in-Ok-push_taken-clause-bounded
returns-in-Ok-push_taken-clause-bounded g c =
    let types = types_in c.args.scope.now in
    let f = function_in c.args.scope.now in
    let content = g.S.Store.content c.args.store.now in
    let rows = g.S.Store.rows c.args.store.now in
    let limit = g.S.Store.limit c.args.store.now in
    let cells = c.args.cells.now.items in
    let now = c.requires.at in
    let here = stands_at types f limit c.args.depth c.args.ty c.args.spot content rows cells now in
    let hand = in_hand types f limit c.args.depth c.args.ty c.args.spot content rows cells now in
    let given = is_given types f limit c.args.depth c.args.ty c.args.spot content rows cells now c.args.value c.args.temporary c.requires.held c.requires.typed in
    let owns = vector_parts types here.served.ordered c.args.ty given.0 (parts_at types given.0) given.1 in
    let own = has_buffer types limit c.args.depth hand c.args.ty c.args.spot content rows here given.0 (parts_at types given.0) owns c.in-Ok.buffer
    (c.in-Ok.ensures.is (kinds_of types) (raw types limit c.args.depth hand c.args.ty c.args.spot content rows here) (is_owner types limit c.args.depth hand c.args.ty c.args.spot content rows here given.0 (parts_at types given.0) owns))
    (c.in-Ok.ensures.fits (kinds_of types) (raw types limit c.args.depth hand c.args.ty c.args.spot content rows here) (is_owner types limit c.args.depth hand c.args.ty c.args.spot content rows here given.0 (parts_at types given.0) owns)) in
    let owned = vector_parts types own.stands.served.ordered c.args.ty given.0 (parts_at types given.0) given.1 in
    let ob = vectors.ob types limit c.args.depth hand c.args.ty c.args.spot c.in-Ok.buffer content rows own given.0 (parts_at types given.0) owned in
    let there = vectors.there types limit c.args.depth hand c.args.ty c.args.spot c.in-Ok.buffer content rows own given.0 (parts_at types given.0) owned in
    let m = meant types content rows in
    let d = g.S.Store.content c.push_taken.new.store in
    let new = g.S.Store.rows c.push_taken.new.store in
    let same = λ (s : Setting). ap (λ (w : Wide). pushed s ob.ty (parts_at types ob.ty) (place w) c.in-Ok.buffer.birth (consumed (parts_at types ob.ty) c.args.temporary.birth) m) c.wide-place.ensures
    ∙ taken_same types f limit c.args.depth c.args.ty c.args.spot content rows cells now c.args.value c.args.temporary c.requires.held c.in-Ok.buffer own given.0 given.1 given.2 s in
    let r = some_given c.args.growth limit (texts_in c.args.scope.now) in
    let came = c.in-Ok-push_taken.ensures.pushed r ob refl refl there in
    let gets = comes_got (kinds_of types) _ (pushed r given.0 (parts_at types given.0) (spot_seen c.args.spot) c.in-Ok.buffer.birth (consumed (parts_at types given.0) c.args.temporary.birth) m) d new (tt {0}) (same r) came in
    let behind = got_behind (kinds_of types) limit m (pushed r given.0 (parts_at types given.0) (spot_seen c.args.spot) c.in-Ok.buffer.birth (consumed (parts_at types given.0) c.args.temporary.birth) m) d new (tt {0}) (taken_behind types f limit c.args.depth c.args.ty c.args.spot content rows cells now c.args.value c.args.temporary c.requires.held c.in-Ok.buffer own given.0 given.1 given.2 r refl) gets in
    behind.bounded

pub returns-in-Ok-push_taken-clause-grows : goal.returns-in-Ok-push_taken-clause-grows
returns-in-Ok-push_taken-clause-grows g c =
    let types = types_in c.args.scope.now in
    let f = function_in c.args.scope.now in
    let content = g.S.Store.content c.args.store.now in
    let rows = g.S.Store.rows c.args.store.now in
    let limit = g.S.Store.limit c.args.store.now in
    let cells = c.args.cells.now.items in
    let now = c.requires.at in
    let here = stands_at types f limit c.args.depth c.args.ty c.args.spot content rows cells now in
    let hand = in_hand types f limit c.args.depth c.args.ty c.args.spot content rows cells now in
    let given = is_given types f limit c.args.depth c.args.ty c.args.spot content rows cells now c.args.value c.args.temporary c.requires.held c.requires.typed in
    let owns = vector_parts types here.served.ordered c.args.ty given.0 (parts_at types given.0) given.1 in
    let own = has_buffer types limit c.args.depth hand c.args.ty c.args.spot content rows here given.0 (parts_at types given.0) owns c.in-Ok.buffer
    (c.in-Ok.ensures.is (kinds_of types) (raw types limit c.args.depth hand c.args.ty c.args.spot content rows here) (is_owner types limit c.args.depth hand c.args.ty c.args.spot content rows here given.0 (parts_at types given.0) owns))
    (c.in-Ok.ensures.fits (kinds_of types) (raw types limit c.args.depth hand c.args.ty c.args.spot content rows here) (is_owner types limit c.args.depth hand c.args.ty c.args.spot content rows here given.0 (parts_at types given.0) owns)) in
    let owned = vector_parts types own.stands.served.ordered c.args.ty given.0 (parts_at types given.0) given.1 in
    let ob = vectors.ob types limit c.args.depth hand c.args.ty c.args.spot c.in-Ok.buffer content rows own given.0 (parts_at types given.0) owned in
    let there = vectors.there types limit c.args.depth hand c.args.ty c.args.spot c.in-Ok.buffer content rows own given.0 (parts_at types given.0) owned in
    let m = meant types content rows in
    let d = g.S.Store.content c.push_taken.new.store in
    let new = g.S.Store.rows c.push_taken.new.store in
    let same = λ (s : Setting). ap (λ (w : Wide). pushed s ob.ty (parts_at types ob.ty) (place w) c.in-Ok.buffer.birth (consumed (parts_at types ob.ty) c.args.temporary.birth) m) c.wide-place.ensures
    ∙ taken_same types f limit c.args.depth c.args.ty c.args.spot content rows cells now c.args.value c.args.temporary c.requires.held c.in-Ok.buffer own given.0 given.1 given.2 s in
    let r = some_given c.args.growth limit (texts_in c.args.scope.now) in
    let came = c.in-Ok-push_taken.ensures.pushed r ob refl refl there in
    let gets = comes_got (kinds_of types) _ (pushed r given.0 (parts_at types given.0) (spot_seen c.args.spot) c.in-Ok.buffer.birth (consumed (parts_at types given.0) c.args.temporary.birth) m) d new (tt {0}) (same r) came in
    let behind = got_behind (kinds_of types) limit m (pushed r given.0 (parts_at types given.0) (spot_seen c.args.spot) c.in-Ok.buffer.birth (consumed (parts_at types given.0) c.args.temporary.birth) m) d new (tt {0}) (taken_behind types f limit c.args.depth c.args.ty c.args.spot content rows cells now c.args.value c.args.temporary c.requires.held c.in-Ok.buffer own given.0 given.1 given.2 r refl) gets in
    record { births = behind.grows.births; clock = behind.grows.clock }

pub returns-in-Ok-push_taken-clause-fits : goal.returns-in-Ok-push_taken-clause-fits
returns-in-Ok-push_taken-clause-fits g c =
    let types = types_in c.args.scope.now in
    let f = function_in c.args.scope.now in
    let content = g.S.Store.content c.args.store.now in
    let rows = g.S.Store.rows c.args.store.now in
    let limit = g.S.Store.limit c.args.store.now in
    let cells = c.args.cells.now.items in
    let now = c.requires.at in
    let here = stands_at types f limit c.args.depth c.args.ty c.args.spot content rows cells now in
    let hand = in_hand types f limit c.args.depth c.args.ty c.args.spot content rows cells now in
    let given = is_given types f limit c.args.depth c.args.ty c.args.spot content rows cells now c.args.value c.args.temporary c.requires.held c.requires.typed in
    let owns = vector_parts types here.served.ordered c.args.ty given.0 (parts_at types given.0) given.1 in
    let own = has_buffer types limit c.args.depth hand c.args.ty c.args.spot content rows here given.0 (parts_at types given.0) owns c.in-Ok.buffer
    (c.in-Ok.ensures.is (kinds_of types) (raw types limit c.args.depth hand c.args.ty c.args.spot content rows here) (is_owner types limit c.args.depth hand c.args.ty c.args.spot content rows here given.0 (parts_at types given.0) owns))
    (c.in-Ok.ensures.fits (kinds_of types) (raw types limit c.args.depth hand c.args.ty c.args.spot content rows here) (is_owner types limit c.args.depth hand c.args.ty c.args.spot content rows here given.0 (parts_at types given.0) owns)) in
    let owned = vector_parts types own.stands.served.ordered c.args.ty given.0 (parts_at types given.0) given.1 in
    let ob = vectors.ob types limit c.args.depth hand c.args.ty c.args.spot c.in-Ok.buffer content rows own given.0 (parts_at types given.0) owned in
    let there = vectors.there types limit c.args.depth hand c.args.ty c.args.spot c.in-Ok.buffer content rows own given.0 (parts_at types given.0) owned in
    let m = meant types content rows in
    let d = g.S.Store.content c.push_taken.new.store in
    let new = g.S.Store.rows c.push_taken.new.store in
    let same = λ (s : Setting). ap (λ (w : Wide). pushed s ob.ty (parts_at types ob.ty) (place w) c.in-Ok.buffer.birth (consumed (parts_at types ob.ty) c.args.temporary.birth) m) c.wide-place.ensures
    ∙ taken_same types f limit c.args.depth c.args.ty c.args.spot content rows cells now c.args.value c.args.temporary c.requires.held c.in-Ok.buffer own given.0 given.1 given.2 s in
    let r = some_given c.args.growth limit (texts_in c.args.scope.now) in
    let came = c.in-Ok-push_taken.ensures.pushed r ob refl refl there in
    let gets = comes_got (kinds_of types) _ (pushed r given.0 (parts_at types given.0) (spot_seen c.args.spot) c.in-Ok.buffer.birth (consumed (parts_at types given.0) c.args.temporary.birth) m) d new (tt {0}) (same r) came in
    let behind = got_behind (kinds_of types) limit m (pushed r given.0 (parts_at types given.0) (spot_seen c.args.spot) c.in-Ok.buffer.birth (consumed (parts_at types given.0) c.args.temporary.birth) m) d new (tt {0}) (taken_behind types f limit c.args.depth c.args.ty c.args.spot content rows cells now c.args.value c.args.temporary c.requires.held c.in-Ok.buffer own given.0 given.1 given.2 r refl) gets in
    taken_fits types f limit c.args.depth c.args.ty c.args.spot content rows cells now c.args.value c.args.temporary c.requires.held c.in-Ok.buffer own given.0 given.1 given.2 d new c.put_cell.new.cells.items c.put_cell.ensures gets.2.housed (c.in-Ok-push_taken.ensures.rowed now.ready.fits.rowed) c.in-Ok-push_taken.ensures.later (record { births = behind.grows.births; clock = behind.grows.clock })
