use Rattle.std.proofs.Common.{Ok, Err, subst, ◌∙◌, arith}
use Rattle.life_types.specs.declared.ty.TyId.{TyId}
use Rattle.life_core.specs.Operands.{location_of}
use Rattle.life_store.specs.Parts.{parts_at}
use Rattle.life_store.specs.State.{To}
use Rattle.life_pointers.specs.Pointers.{pointer_seen}
use Rattle.life_cells.specs.Fits.{meant}
use Rattle.life_cells.specs.Scopes.{function_in, types_in}
use Rattle.life_changes.specs.Erasing.{erased_into}
use Rattle.life_changes.specs.Steps.{Goes}
use Rattle.life_changes.specs.declared.failure.Failure.TheVariants as failure
use Rattle.life_changes.proofs.ErasedFrames.{can_erase, early_behind, erase_bounded, erase_goes, erase_grows, erase_later, erase_stops, few_births, still_fits, still_holds, still_referred}
use Rattle.life_changes.proofs.ErasedWays.{one_vector}
use Rattle.life_changes.proofs.erasing.erase_element.Goals as goal

pub erase-requires-clause-can : goal.erase-requires-clause-can
erase-requires-clause-can g c =
    let types = types_in c.args.scope.now in
    let layouts = c.args.scope.now.layouts.now in
    let laid = c.args.scope.now.laid in
    let f = function_in c.args.scope.now in
    let content = g.S.Store.content c.args.store.now in
    let rows = g.S.Store.rows c.args.store.now in
    let limit = g.S.Store.limit c.args.store.now in
    let cells = c.args.cells.now.items in
    let v = c.requires.vector in
    can_erase types layouts laid f limit c.args.depth c.args.ty c.args.spot c.args.buffer content rows cells c.requires.at v.0 v.1 c.args.index c.requires.inside

pub erase-requires-clause-births : goal.erase-requires-clause-births
erase-requires-clause-births g c =
    let types = types_in c.args.scope.now in
    let layouts = c.args.scope.now.layouts.now in
    let laid = c.args.scope.now.laid in
    let f = function_in c.args.scope.now in
    let content = g.S.Store.content c.args.store.now in
    let rows = g.S.Store.rows c.args.store.now in
    let limit = g.S.Store.limit c.args.store.now in
    let cells = c.args.cells.now.items in
    let v = c.requires.vector in
    few_births types layouts laid f limit c.args.depth c.args.ty c.args.spot c.args.buffer content rows cells c.requires.at v.0 v.1 c.args.index c.requires.inside

pub point-requires-clause-fits : goal.point-requires-clause-fits
point-requires-clause-fits g c =
    let types = types_in c.args.scope.now in
    let layouts = c.args.scope.now.layouts.now in
    let laid = c.args.scope.now.laid in
    let f = function_in c.args.scope.now in
    let content = g.S.Store.content c.args.store.now in
    let rows = g.S.Store.rows c.args.store.now in
    let limit = g.S.Store.limit c.args.store.now in
    let cells = c.args.cells.now.items in
    let v = c.requires.vector in
    let d = g.S.Store.content c.erase.new.store in
    let new = g.S.Store.rows c.erase.new.store in
    let rowed = c.erase.ensures.rowed c.requires.at.owner.ready.fits.rowed in
    still_fits types layouts laid f limit c.args.depth c.args.ty c.args.spot c.args.buffer content rows cells c.requires.at v.0 v.1 c.args.index c.requires.inside d new c.erase.ensures.erased rowed c.erase.ensures.later

pub point-requires-clause-holds : goal.point-requires-clause-holds
point-requires-clause-holds g c =
    let types = types_in c.args.scope.now in
    let layouts = c.args.scope.now.layouts.now in
    let laid = c.args.scope.now.laid in
    let f = function_in c.args.scope.now in
    let content = g.S.Store.content c.args.store.now in
    let rows = g.S.Store.rows c.args.store.now in
    let limit = g.S.Store.limit c.args.store.now in
    let cells = c.args.cells.now.items in
    let v = c.requires.vector in
    let d = g.S.Store.content c.erase.new.store in
    let new = g.S.Store.rows c.erase.new.store in
    let rowed = c.erase.ensures.rowed c.requires.at.owner.ready.fits.rowed in
    still_holds types layouts laid f limit c.args.depth c.args.ty c.args.spot c.args.buffer content rows cells c.requires.at v.0 v.1 c.args.index c.requires.inside d new c.erase.ensures.erased rowed c.erase.ensures.later (location_of c.args.into.now) v.2.0

pub point-requires-clause-pointer : goal.point-requires-clause-pointer
point-requires-clause-pointer g c =
    let types = types_in c.args.scope.now in
    let layouts = c.args.scope.now.layouts.now in
    let laid = c.args.scope.now.laid in
    let f = function_in c.args.scope.now in
    let content = g.S.Store.content c.args.store.now in
    let rows = g.S.Store.rows c.args.store.now in
    let limit = g.S.Store.limit c.args.store.now in
    let cells = c.args.cells.now.items in
    let v = c.requires.vector in
    let d = g.S.Store.content c.erase.new.store in
    let new = g.S.Store.rows c.erase.new.store in
    let rowed = c.erase.ensures.rowed c.requires.at.owner.ready.fits.rowed in
    c.place_pointer-pointer.ensures.fits d new (still_referred types layouts laid f limit c.args.depth c.args.ty c.args.spot c.args.buffer content rows cells c.requires.at v.0 v.1 c.args.index c.requires.inside d new c.erase.ensures.erased rowed c.erase.ensures.later) (let early = early_behind types layouts laid f limit c.args.depth c.args.ty c.args.spot c.args.buffer content rows cells c.requires.at v.0 v.1 c.args.index c.requires.inside d new c.erase.ensures.erased rowed c.erase.ensures.later in let e = c.now.ensures in omega (arith, early, e))

pub returns-in-Err-clause-step : goal.returns-in-Err-clause-step
returns-in-Err-clause-step g c = λ id is_id.
    let types = types_in c.args.scope.now in
    let layouts = c.args.scope.now.layouts.now in
    let laid = c.args.scope.now.laid in
    let f = function_in c.args.scope.now in
    let content = g.S.Store.content c.args.store.now in
    let rows = g.S.Store.rows c.args.store.now in
    let limit = g.S.Store.limit c.args.store.now in
    let cells = c.args.cells.now.items in
    let v = c.requires.vector in
    let d = g.S.Store.content c.erase.new.store in
    let new = g.S.Store.rows c.erase.new.store in
    let rowed = c.erase.ensures.rowed c.requires.at.owner.ready.fits.rowed in
    let is = c.place_pointer-pointer.ensures.is ∙ (λ j. To (record { object = c.args.buffer.birth; index = c.args.index; word = 0; count = 1; moment = c.now.ensures j })) in
    subst (λ (k : TyId). Goes {A = Unit {0}} (erased_into types f (parts_at types k) c.args.buffer.birth c.args.index (location_of c.args.into.now)) (meant types content rows) cells (meant types (g.S.Store.content c.point.new.store) (g.S.Store.rows c.point.new.store)) c.point.new.cells.items (Err (failure.Stopped c.in-Err.stop))) (one_vector types c.args.ty v.0 id v.1 is_id)
    (erase_stops types layouts laid f limit c.args.depth c.args.ty c.args.spot c.args.buffer content rows cells c.requires.at v.0 v.1 c.args.index c.requires.inside d new c.erase.ensures.erased rowed c.erase.ensures.later (location_of c.args.into.now) (pointer_seen c.place_pointer-pointer.result) is (g.S.Store.content c.point.new.store) (g.S.Store.rows c.point.new.store) c.point.new.cells.items c.in-Err.stop (meant types (g.S.Store.content c.point.new.store) (g.S.Store.rows c.point.new.store)) c.point.new.cells.items c.in-Err.ensures.step)

pub returns-in-Ok-clause-step : goal.returns-in-Ok-clause-step
returns-in-Ok-clause-step g c = λ id is_id.
    let types = types_in c.args.scope.now in
    let layouts = c.args.scope.now.layouts.now in
    let laid = c.args.scope.now.laid in
    let f = function_in c.args.scope.now in
    let content = g.S.Store.content c.args.store.now in
    let rows = g.S.Store.rows c.args.store.now in
    let limit = g.S.Store.limit c.args.store.now in
    let cells = c.args.cells.now.items in
    let v = c.requires.vector in
    let d = g.S.Store.content c.erase.new.store in
    let new = g.S.Store.rows c.erase.new.store in
    let rowed = c.erase.ensures.rowed c.requires.at.owner.ready.fits.rowed in
    let is = c.place_pointer-pointer.ensures.is ∙ (λ j. To (record { object = c.args.buffer.birth; index = c.args.index; word = 0; count = 1; moment = c.now.ensures j })) in
    subst (λ (k : TyId). Goes {A = Unit {0}} (erased_into types f (parts_at types k) c.args.buffer.birth c.args.index (location_of c.args.into.now)) (meant types content rows) cells (meant types (g.S.Store.content c.point.new.store) (g.S.Store.rows c.point.new.store)) c.point.new.cells.items (Ok tt)) (one_vector types c.args.ty v.0 id v.1 is_id)
    (erase_goes types layouts laid f limit c.args.depth c.args.ty c.args.spot c.args.buffer content rows cells c.requires.at v.0 v.1 c.args.index c.requires.inside d new c.erase.ensures.erased rowed c.erase.ensures.later (location_of c.args.into.now) (pointer_seen c.place_pointer-pointer.result) is (g.S.Store.content c.point.new.store) (g.S.Store.rows c.point.new.store) c.point.new.cells.items c.in-Ok.ensures.step)

pub returns-in-Ok-clause-bounded : goal.returns-in-Ok-clause-bounded
returns-in-Ok-clause-bounded g c =
    let types = types_in c.args.scope.now in
    let layouts = c.args.scope.now.layouts.now in
    let laid = c.args.scope.now.laid in
    let f = function_in c.args.scope.now in
    let content = g.S.Store.content c.args.store.now in
    let rows = g.S.Store.rows c.args.store.now in
    let limit = g.S.Store.limit c.args.store.now in
    let cells = c.args.cells.now.items in
    let v = c.requires.vector in
    let d = g.S.Store.content c.erase.new.store in
    let new = g.S.Store.rows c.erase.new.store in
    let rowed = c.erase.ensures.rowed c.requires.at.owner.ready.fits.rowed in
    let is = c.place_pointer-pointer.ensures.is ∙ (λ j. To (record { object = c.args.buffer.birth; index = c.args.index; word = 0; count = 1; moment = c.now.ensures j })) in
    erase_bounded types layouts laid f limit c.args.depth c.args.ty c.args.spot c.args.buffer content rows cells c.requires.at v.0 v.1 c.args.index c.requires.inside d new c.erase.ensures.erased rowed c.erase.ensures.later (location_of c.args.into.now) (pointer_seen c.place_pointer-pointer.result) is (g.S.Store.content c.point.new.store) (g.S.Store.rows c.point.new.store) c.point.new.cells.items c.in-Ok.ensures.step

pub returns-in-Ok-clause-later : goal.returns-in-Ok-clause-later
returns-in-Ok-clause-later g c =
    let types = types_in c.args.scope.now in
    let layouts = c.args.scope.now.layouts.now in
    let laid = c.args.scope.now.laid in
    let f = function_in c.args.scope.now in
    let content = g.S.Store.content c.args.store.now in
    let rows = g.S.Store.rows c.args.store.now in
    let limit = g.S.Store.limit c.args.store.now in
    let cells = c.args.cells.now.items in
    let v = c.requires.vector in
    let d = g.S.Store.content c.erase.new.store in
    let new = g.S.Store.rows c.erase.new.store in
    let rowed = c.erase.ensures.rowed c.requires.at.owner.ready.fits.rowed in
    let is = c.place_pointer-pointer.ensures.is ∙ (λ j. To (record { object = c.args.buffer.birth; index = c.args.index; word = 0; count = 1; moment = c.now.ensures j })) in
    erase_later types layouts laid f limit c.args.depth c.args.ty c.args.spot c.args.buffer content rows cells c.requires.at v.0 v.1 c.args.index c.requires.inside d new c.erase.ensures.erased rowed c.erase.ensures.later (location_of c.args.into.now) (pointer_seen c.place_pointer-pointer.result) is (g.S.Store.content c.point.new.store) (g.S.Store.rows c.point.new.store) c.point.new.cells.items c.point.ensures.keeps

pub returns-in-Ok-clause-grows : goal.returns-in-Ok-clause-grows
returns-in-Ok-clause-grows g c =
    let types = types_in c.args.scope.now in
    let layouts = c.args.scope.now.layouts.now in
    let laid = c.args.scope.now.laid in
    let f = function_in c.args.scope.now in
    let content = g.S.Store.content c.args.store.now in
    let rows = g.S.Store.rows c.args.store.now in
    let limit = g.S.Store.limit c.args.store.now in
    let cells = c.args.cells.now.items in
    let v = c.requires.vector in
    let d = g.S.Store.content c.erase.new.store in
    let new = g.S.Store.rows c.erase.new.store in
    let rowed = c.erase.ensures.rowed c.requires.at.owner.ready.fits.rowed in
    let is = c.place_pointer-pointer.ensures.is ∙ (λ j. To (record { object = c.args.buffer.birth; index = c.args.index; word = 0; count = 1; moment = c.now.ensures j })) in
    erase_grows types layouts laid f limit c.args.depth c.args.ty c.args.spot c.args.buffer content rows cells c.requires.at v.0 v.1 c.args.index c.requires.inside d new c.erase.ensures.erased rowed c.erase.ensures.later (location_of c.args.into.now) (pointer_seen c.place_pointer-pointer.result) is (g.S.Store.content c.point.new.store) (g.S.Store.rows c.point.new.store) c.point.new.cells.items c.point.ensures.keeps
