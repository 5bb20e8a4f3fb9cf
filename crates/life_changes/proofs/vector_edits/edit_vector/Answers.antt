use Rattle.std.proofs.Common.{[], ◌∷◌, length, Err, ap, subst, sym, ◌∙◌}
use Rattle.life_store.specs.Edits.{edited, pushed, reserved}
use Rattle.life_store.specs.Parts.{parts_at}
use Rattle.life_seen.specs.Kinds.{kinds_of}
use Rattle.life_values.specs.Moved.{place}
use Rattle.life_forest.specs.Kinds.{kinds_of as forest_kinds}
use Rattle.life_values.specs.Ended.{ended_number}
use Rattle.life_values.specs.Layouts.{owners_at}
use Rattle.life_values.specs.Popped.{popped_words, Pops}
use Rattle.life_values.specs.Pushed.{CanPushNumber}
use Rattle.life_values.specs.Regrown.{CanGrow}
use Rattle.life_values.specs.declared.spot.Spot.{Spot as Wide}
use Rattle.life_pointers.specs.Owned.{spot_seen}
use Rattle.life_cells.specs.Fits.{meant}
use Rattle.life_cells.specs.Scopes.{types_in}
use Rattle.life_changes.specs.Edits.{edit_of, IsFor}
use Rattle.life_changes.specs.Steps.{Gets}
use Rattle.life_changes.specs.declared.edit.Edit.{Edit as Editing}
use Rattle.life_changes.specs.declared.edit.Edit.TheVariants as editing
use Rattle.life_changes.proofs.Editing.{comes_unborn}
use Rattle.life_changes.proofs.Owned.{vector_parts}
use Rattle.life_changes.proofs.Pushed.{few_births}
use Rattle.life_changes.proofs.VectorEdits.{clear_edited, number_edited, pop_edited, reserve_edited}
use Rattle.life_changes.proofs.Vectors as vectors
use Rattle.life_changes.proofs.vector_edits.edit_vector.Goals as goal

pub push_number-requires-clause-can : goal.push_number-requires-clause-can
push_number-requires-clause-can g c =
    let types = types_in c.args.scope.now in
    let layouts = c.args.scope.now.layouts.now in
    let laid = c.args.scope.now.laid in
    let limit = g.S.Store.limit c.args.store.now in
    let depth = c.args.depth in
    let content = g.S.Store.content c.args.store.now in
    let rows = g.S.Store.rows c.args.store.now in
    let hand = c.requires.owner.0 in
    let own = c.requires.owner.1 in
    let v = c.requires.vector in
    let owns = vector_parts types own.stands.served.ordered c.args.ty v.0 v.1 v.2 in
    subst (λ (w : Wide). CanPushNumber types w c.args.buffer content rows) (sym c.wide-place.ensures)
    (vectors.can_push_number types limit depth hand c.args.ty c.args.spot c.args.buffer content rows own v.0 v.1 owns (subst (IsFor types c.args.ty) c.in-Push.is c.requires.fit v.0 v.1 v.2))

pub push_number-requires-clause-births : goal.push_number-requires-clause-births
push_number-requires-clause-births g c = λ o e.
    let types = types_in c.args.scope.now in
    let layouts = c.args.scope.now.layouts.now in
    let laid = c.args.scope.now.laid in
    let limit = g.S.Store.limit c.args.store.now in
    let depth = c.args.depth in
    let content = g.S.Store.content c.args.store.now in
    let rows = g.S.Store.rows c.args.store.now in
    let hand = c.requires.owner.0 in
    let own = c.requires.owner.1 in
    let v = c.requires.vector in
    let owns = vector_parts types own.stands.served.ordered c.args.ty v.0 v.1 v.2 in
    few_births types layouts laid limit depth hand c.args.ty c.args.spot c.args.buffer content rows own v.0 v.1 owns o e

pub returns-in-Err-clause-edited : goal.returns-in-Err-clause-edited
returns-in-Err-clause-edited g c = λ s given.
    let types = types_in c.args.scope.now in
    let layouts = c.args.scope.now.layouts.now in
    let laid = c.args.scope.now.laid in
    let limit = g.S.Store.limit c.args.store.now in
    let depth = c.args.depth in
    let content = g.S.Store.content c.args.store.now in
    let rows = g.S.Store.rows c.args.store.now in
    let hand = c.requires.owner.0 in
    let own = c.requires.owner.1 in
    let v = c.requires.vector in
    let owns = vector_parts types own.stands.served.ordered c.args.ty v.0 v.1 v.2 in
    let m = meant types content rows in
    let there = vectors.there types limit depth hand c.args.ty c.args.spot c.args.buffer content rows own v.0 v.1 owns in
    let ob = vectors.ob types limit depth hand c.args.ty c.args.spot c.args.buffer content rows own v.0 v.1 owns in
    let d = g.S.Store.content c.push_number.new.store in
    let new = g.S.Store.rows c.push_number.new.store in
    let goes = λ (e : Editing). edited s (parts_at types c.args.ty) (spot_seen c.args.spot) c.args.buffer.birth (edit_of e) m in
    let came = c.in-Err.ensures.pushed s ob given.cells_is given.growth_is there in
    subst (λ (e : Editing). Gets {A = Unit {0}} (kinds_of types) (goes e) (Err c.unborn.result) d new) (sym c.in-Push.is)
    (subst (λ f. Gets {A = Unit {0}} (kinds_of types) (goes (editing.Push c.in-Push.number)) (Err f) d new) (sym c.unborn.ensures)
    (comes_unborn (Unit {0}) (Unit {0}) (kinds_of types) _ (goes (editing.Push c.in-Push.number)) d d new new c.in-Err.fault
    (ap (λ (w : Wide). pushed s ob.ty (parts_at types ob.ty) (place w) c.args.buffer.birth (λ x. (c.in-Push.number ∷ [], x)) m) c.wide-place.ensures ∙ number_edited types layouts laid limit depth hand c.args.ty c.args.spot c.args.buffer content rows own v.0 v.1 v.2 s c.in-Push.number) came))

pub returns-in-Ok-clause-edited : goal.returns-in-Ok-clause-edited
returns-in-Ok-clause-edited g c = λ s given.
    let types = types_in c.args.scope.now in
    let layouts = c.args.scope.now.layouts.now in
    let laid = c.args.scope.now.laid in
    let limit = g.S.Store.limit c.args.store.now in
    let depth = c.args.depth in
    let content = g.S.Store.content c.args.store.now in
    let rows = g.S.Store.rows c.args.store.now in
    let hand = c.requires.owner.0 in
    let own = c.requires.owner.1 in
    let v = c.requires.vector in
    let owns = vector_parts types own.stands.served.ordered c.args.ty v.0 v.1 v.2 in
    let m = meant types content rows in
    let there = vectors.there types limit depth hand c.args.ty c.args.spot c.args.buffer content rows own v.0 v.1 owns in
    let ob = vectors.ob types limit depth hand c.args.ty c.args.spot c.args.buffer content rows own v.0 v.1 owns in
    let d = g.S.Store.content c.push_number.new.store in
    let new = g.S.Store.rows c.push_number.new.store in
    let goes = λ (e : Editing). edited s (parts_at types c.args.ty) (spot_seen c.args.spot) c.args.buffer.birth (edit_of e) m in
    let came = c.in-Ok.ensures.pushed s ob given.cells_is given.growth_is there in (
      came.0,
      ap goes c.in-Push.is
          ∙ sym (ap (λ (w : Wide). pushed s ob.ty (parts_at types ob.ty) (place w) c.args.buffer.birth (λ x. (c.in-Push.number ∷ [], x)) m) c.wide-place.ensures ∙ number_edited types layouts laid limit depth hand c.args.ty c.args.spot c.args.buffer content rows own v.0 v.1 v.2 s c.in-Push.number)
          ∙ came.1,
      came.2,
    )

pub pop-requires-clause-can : goal.pop-requires-clause-can
pop-requires-clause-can g c =
    let types = types_in c.args.scope.now in
    let layouts = c.args.scope.now.layouts.now in
    let laid = c.args.scope.now.laid in
    let limit = g.S.Store.limit c.args.store.now in
    let depth = c.args.depth in
    let content = g.S.Store.content c.args.store.now in
    let rows = g.S.Store.rows c.args.store.now in
    let hand = c.requires.owner.0 in
    let own = c.requires.owner.1 in
    let v = c.requires.vector in
    let owns = vector_parts types own.stands.served.ordered c.args.ty v.0 v.1 v.2 in
    vectors.can_pop types limit depth hand c.args.ty c.args.spot c.args.buffer content rows own v.0 v.1 owns

pub pop-requires-clause-countable : goal.pop-requires-clause-countable
pop-requires-clause-countable g c =
    let types = types_in c.args.scope.now in
    let layouts = c.args.scope.now.layouts.now in
    let laid = c.args.scope.now.laid in
    let limit = g.S.Store.limit c.args.store.now in
    let depth = c.args.depth in
    let content = g.S.Store.content c.args.store.now in
    let rows = g.S.Store.rows c.args.store.now in
    let hand = c.requires.owner.0 in
    let own = c.requires.owner.1 in
    let v = c.requires.vector in
    let owns = vector_parts types own.stands.served.ordered c.args.ty v.0 v.1 v.2 in
    vectors.countable types limit depth hand c.args.ty c.args.spot c.args.buffer content rows own v.0 v.1 owns

pub returns-then-pop-clause-edited : goal.returns-then-pop-clause-edited
returns-then-pop-clause-edited g c = λ s given.
    let types = types_in c.args.scope.now in
    let layouts = c.args.scope.now.layouts.now in
    let laid = c.args.scope.now.laid in
    let limit = g.S.Store.limit c.args.store.now in
    let depth = c.args.depth in
    let content = g.S.Store.content c.args.store.now in
    let rows = g.S.Store.rows c.args.store.now in
    let hand = c.requires.owner.0 in
    let own = c.requires.owner.1 in
    let v = c.requires.vector in
    let owns = vector_parts types own.stands.served.ordered c.args.ty v.0 v.1 v.2 in
    let m = meant types content rows in
    let there = vectors.there types limit depth hand c.args.ty c.args.spot c.args.buffer content rows own v.0 v.1 owns in
    let ob = vectors.ob types limit depth hand c.args.ty c.args.spot c.args.buffer content rows own v.0 v.1 owns in
    let d = g.S.Store.content c.pop.new.store in
    let new = g.S.Store.rows c.pop.new.store in
    let goes = λ (e : Editing). edited s (parts_at types c.args.ty) (spot_seen c.args.spot) c.args.buffer.birth (edit_of e) m in
    let came = subst (λ b. Pops (kinds_of types) (popped_words (ended_number (forest_kinds types) depth) (owners_at layouts ob.ty) c.args.buffer.birth (length ob.slots) m) b d new) c.if-pop.true (c.pop.ensures.popped ob there) in
    (came.0, ap goes c.in-Pop.is ∙ sym (pop_edited types layouts laid limit depth hand c.args.ty c.args.spot c.args.buffer content rows own v.0 v.1 v.2 s) ∙ came.1, came.2)

pub returns-else-pop-clause-edited : goal.returns-else-pop-clause-edited
returns-else-pop-clause-edited g c = λ s given.
    let types = types_in c.args.scope.now in
    let layouts = c.args.scope.now.layouts.now in
    let laid = c.args.scope.now.laid in
    let limit = g.S.Store.limit c.args.store.now in
    let depth = c.args.depth in
    let content = g.S.Store.content c.args.store.now in
    let rows = g.S.Store.rows c.args.store.now in
    let hand = c.requires.owner.0 in
    let own = c.requires.owner.1 in
    let v = c.requires.vector in
    let owns = vector_parts types own.stands.served.ordered c.args.ty v.0 v.1 v.2 in
    let m = meant types content rows in
    let there = vectors.there types limit depth hand c.args.ty c.args.spot c.args.buffer content rows own v.0 v.1 owns in
    let ob = vectors.ob types limit depth hand c.args.ty c.args.spot c.args.buffer content rows own v.0 v.1 owns in
    let d = g.S.Store.content c.pop.new.store in
    let new = g.S.Store.rows c.pop.new.store in
    let goes = λ (e : Editing). edited s (parts_at types c.args.ty) (spot_seen c.args.spot) c.args.buffer.birth (edit_of e) m in
    ap goes c.in-Pop.is ∙ sym (pop_edited types layouts laid limit depth hand c.args.ty c.args.spot c.args.buffer content rows own v.0 v.1 v.2 s) ∙ subst (λ b. Pops (kinds_of types) (popped_words (ended_number (forest_kinds types) depth) (owners_at layouts ob.ty) c.args.buffer.birth (length ob.slots) m) b d new) c.if-pop.false (c.pop.ensures.popped ob there)

pub clear-requires-clause-can : goal.clear-requires-clause-can
clear-requires-clause-can g c =
    let types = types_in c.args.scope.now in
    let layouts = c.args.scope.now.layouts.now in
    let laid = c.args.scope.now.laid in
    let limit = g.S.Store.limit c.args.store.now in
    let depth = c.args.depth in
    let content = g.S.Store.content c.args.store.now in
    let rows = g.S.Store.rows c.args.store.now in
    let hand = c.requires.owner.0 in
    let own = c.requires.owner.1 in
    let v = c.requires.vector in
    let owns = vector_parts types own.stands.served.ordered c.args.ty v.0 v.1 v.2 in
    vectors.can_clear types limit depth hand c.args.ty c.args.spot c.args.buffer content rows own v.0 v.1 owns

pub clear-requires-clause-countable : goal.clear-requires-clause-countable
clear-requires-clause-countable g c =
    let types = types_in c.args.scope.now in
    let layouts = c.args.scope.now.layouts.now in
    let laid = c.args.scope.now.laid in
    let limit = g.S.Store.limit c.args.store.now in
    let depth = c.args.depth in
    let content = g.S.Store.content c.args.store.now in
    let rows = g.S.Store.rows c.args.store.now in
    let hand = c.requires.owner.0 in
    let own = c.requires.owner.1 in
    let v = c.requires.vector in
    let owns = vector_parts types own.stands.served.ordered c.args.ty v.0 v.1 v.2 in
    vectors.countable types limit depth hand c.args.ty c.args.spot c.args.buffer content rows own v.0 v.1 owns

pub returns-in-Clear-clause-edited : goal.returns-in-Clear-clause-edited
returns-in-Clear-clause-edited g c = λ s given.
    let types = types_in c.args.scope.now in
    let layouts = c.args.scope.now.layouts.now in
    let laid = c.args.scope.now.laid in
    let limit = g.S.Store.limit c.args.store.now in
    let depth = c.args.depth in
    let content = g.S.Store.content c.args.store.now in
    let rows = g.S.Store.rows c.args.store.now in
    let hand = c.requires.owner.0 in
    let own = c.requires.owner.1 in
    let v = c.requires.vector in
    let owns = vector_parts types own.stands.served.ordered c.args.ty v.0 v.1 v.2 in
    let m = meant types content rows in
    let there = vectors.there types limit depth hand c.args.ty c.args.spot c.args.buffer content rows own v.0 v.1 owns in
    let ob = vectors.ob types limit depth hand c.args.ty c.args.spot c.args.buffer content rows own v.0 v.1 owns in
    let d = g.S.Store.content c.clear.new.store in
    let new = g.S.Store.rows c.clear.new.store in
    let goes = λ (e : Editing). edited s (parts_at types c.args.ty) (spot_seen c.args.spot) c.args.buffer.birth (edit_of e) m in
    (_, ap goes c.in-Clear.is ∙ sym (clear_edited types layouts laid limit depth hand c.args.ty c.args.spot c.args.buffer content rows own v.0 v.1 v.2 s), c.clear.ensures.cleared ob there)

pub reserve-requires-clause-can : goal.reserve-requires-clause-can
reserve-requires-clause-can g c =
    let types = types_in c.args.scope.now in
    let layouts = c.args.scope.now.layouts.now in
    let laid = c.args.scope.now.laid in
    let limit = g.S.Store.limit c.args.store.now in
    let depth = c.args.depth in
    let content = g.S.Store.content c.args.store.now in
    let rows = g.S.Store.rows c.args.store.now in
    let hand = c.requires.owner.0 in
    let own = c.requires.owner.1 in
    let v = c.requires.vector in
    let owns = vector_parts types own.stands.served.ordered c.args.ty v.0 v.1 v.2 in
    subst (λ (w : Wide). CanGrow types w c.args.buffer content rows) (sym c.wide-place-in-Reserve.ensures)
    (vectors.can_grow types limit depth hand c.args.ty c.args.spot c.args.buffer content rows own v.0 v.1 owns)

pub reserve-requires-clause-births : goal.reserve-requires-clause-births
reserve-requires-clause-births g c = λ o e.
    let types = types_in c.args.scope.now in
    let layouts = c.args.scope.now.layouts.now in
    let laid = c.args.scope.now.laid in
    let limit = g.S.Store.limit c.args.store.now in
    let depth = c.args.depth in
    let content = g.S.Store.content c.args.store.now in
    let rows = g.S.Store.rows c.args.store.now in
    let hand = c.requires.owner.0 in
    let own = c.requires.owner.1 in
    let v = c.requires.vector in
    let owns = vector_parts types own.stands.served.ordered c.args.ty v.0 v.1 v.2 in
    few_births types layouts laid limit depth hand c.args.ty c.args.spot c.args.buffer content rows own v.0 v.1 owns o e

pub returns-in-Err-reserve-clause-edited : goal.returns-in-Err-reserve-clause-edited
returns-in-Err-reserve-clause-edited g c = λ s given.
    let types = types_in c.args.scope.now in
    let layouts = c.args.scope.now.layouts.now in
    let laid = c.args.scope.now.laid in
    let limit = g.S.Store.limit c.args.store.now in
    let depth = c.args.depth in
    let content = g.S.Store.content c.args.store.now in
    let rows = g.S.Store.rows c.args.store.now in
    let hand = c.requires.owner.0 in
    let own = c.requires.owner.1 in
    let v = c.requires.vector in
    let owns = vector_parts types own.stands.served.ordered c.args.ty v.0 v.1 v.2 in
    let m = meant types content rows in
    let there = vectors.there types limit depth hand c.args.ty c.args.spot c.args.buffer content rows own v.0 v.1 owns in
    let ob = vectors.ob types limit depth hand c.args.ty c.args.spot c.args.buffer content rows own v.0 v.1 owns in
    let d = g.S.Store.content c.reserve.new.store in
    let new = g.S.Store.rows c.reserve.new.store in
    let goes = λ (e : Editing). edited s (parts_at types c.args.ty) (spot_seen c.args.spot) c.args.buffer.birth (edit_of e) m in
    let came = c.in-Err-reserve.ensures.reserved s ob given.cells_is there in
    subst (λ (e : Editing). Gets {A = Unit {0}} (kinds_of types) (goes e) (Err c.unborn-in-Err-reserve.result) d new) (sym c.in-Reserve.is)
    (subst (λ f. Gets {A = Unit {0}} (kinds_of types) (goes (editing.Reserve c.in-Reserve.count)) (Err f) d new) (sym c.unborn-in-Err-reserve.ensures)
    (comes_unborn (Unit {0}) (Unit {0}) (kinds_of types) _ (goes (editing.Reserve c.in-Reserve.count)) d d new new c.in-Err-reserve.fault
    (ap (λ (w : Wide). reserved s ob.ty (parts_at types ob.ty) (place w) c.args.buffer.birth c.in-Reserve.count m) c.wide-place-in-Reserve.ensures ∙ reserve_edited types layouts laid limit depth hand c.args.ty c.args.spot c.args.buffer content rows own v.0 v.1 v.2 s c.in-Reserve.count) came))

pub returns-in-Ok-reserve-clause-edited : goal.returns-in-Ok-reserve-clause-edited
returns-in-Ok-reserve-clause-edited g c = λ s given.
    let types = types_in c.args.scope.now in
    let layouts = c.args.scope.now.layouts.now in
    let laid = c.args.scope.now.laid in
    let limit = g.S.Store.limit c.args.store.now in
    let depth = c.args.depth in
    let content = g.S.Store.content c.args.store.now in
    let rows = g.S.Store.rows c.args.store.now in
    let hand = c.requires.owner.0 in
    let own = c.requires.owner.1 in
    let v = c.requires.vector in
    let owns = vector_parts types own.stands.served.ordered c.args.ty v.0 v.1 v.2 in
    let m = meant types content rows in
    let there = vectors.there types limit depth hand c.args.ty c.args.spot c.args.buffer content rows own v.0 v.1 owns in
    let ob = vectors.ob types limit depth hand c.args.ty c.args.spot c.args.buffer content rows own v.0 v.1 owns in
    let d = g.S.Store.content c.reserve.new.store in
    let new = g.S.Store.rows c.reserve.new.store in
    let goes = λ (e : Editing). edited s (parts_at types c.args.ty) (spot_seen c.args.spot) c.args.buffer.birth (edit_of e) m in
    let came = c.in-Ok-reserve.ensures.reserved s ob given.cells_is there in (
      came.0,
      ap goes c.in-Reserve.is
          ∙ sym (ap (λ (w : Wide). reserved s ob.ty (parts_at types ob.ty) (place w) c.args.buffer.birth c.in-Reserve.count m) c.wide-place-in-Reserve.ensures ∙ reserve_edited types layouts laid limit depth hand c.args.ty c.args.spot c.args.buffer content rows own v.0 v.1 v.2 s c.in-Reserve.count)
          ∙ came.1,
      came.2,
    )
