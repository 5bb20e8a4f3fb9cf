use Rattle.std.proofs.Common.{ap, sym, ◌∙◌}
use Rattle.life_core.specs.Operands.{location_of}
use Rattle.life_store.specs.Doing.{erases}
use Rattle.life_store.specs.Parts.{parts_at, Parts, Vector}
use Rattle.life_seen.specs.Kinds.{kinds_of}
use Rattle.life_words.specs.Owning.{number_of}
use Rattle.life_pointers.specs.Attempts.{itself}
use Rattle.life_pointers.specs.Owned.{spot_seen}
use Rattle.life_pointers.specs.Pointers.{pointer_seen}
use Rattle.life_cells.specs.Cells.{state_of}
use Rattle.life_cells.specs.Fits.{meant}
use Rattle.life_cells.specs.Scopes.{function_in, types_in}
use Rattle.life_changes.specs.Erasing.{erased_into}
use Rattle.life_changes.specs.Owners.{elements_in}
use Rattle.life_changes.proofs.Editing.{container_owns, has_buffer, has_word, is_owner, raw, told_vector}
use Rattle.life_changes.proofs.ErasedWays.{element_erased, erasable_inside, foreign_stops, moved_stops, no_vector, not_vector}
use Rattle.life_changes.proofs.Frames.{in_hand, stands_at}
use Rattle.life_changes.proofs.Owned.{vector_parts}
use Rattle.life_changes.proofs.Ways.{goes_alike}
use Rattle.life_changes.proofs.erasing.erase_here.Goals as goal

pub returns-in-None-clause-step : goal.returns-in-None-clause-step
returns-in-None-clause-step g c = λ output input.
    let types = types_in c.args.scope.now in
    let f = function_in c.args.scope.now in
    let m = meant types (g.S.Store.content c.args.store.now) (g.S.Store.rows c.args.store.now) in
    no_vector types f (parts_at types c.args.ty) c.args.spot (pointer_seen c.args.iterator) (location_of c.args.into.now) (state_of m c.args.cells.now.items output input)
    (not_vector (parts_at types c.args.ty) (sym c.in-None.is ∙ c.elements_of.ensures ∙ ap elements_in c.first_part.ensures))

pub buffer-requires : goal.buffer-requires
buffer-requires g c =
    let types = types_in c.args.scope.now in
    let f = function_in c.args.scope.now in
    let content = g.S.Store.content c.args.store.now in
    let rows = g.S.Store.rows c.args.store.now in
    let limit = g.S.Store.limit c.args.store.now in
    let cells = c.args.cells.now.items in
    let m = meant types content rows in
    let now = c.requires.at in
    let here = stands_at types f limit c.args.depth c.args.ty c.args.spot content rows cells now in
    let hand = in_hand types f limit c.args.depth c.args.ty c.args.spot content rows cells now in
    let own = container_owns types limit c.args.depth hand c.args.ty c.args.spot content rows here c.requires.container in
    let owner = is_owner types limit c.args.depth hand c.args.ty c.args.spot content rows here own.0 own.1 own.2 in
    let object = raw types limit c.args.depth hand c.args.ty c.args.spot content rows here in
    has_word types limit c.args.depth hand c.args.ty c.args.spot content rows here own.0 own.1 own.2

pub returns-in-Err-clause-step : goal.returns-in-Err-clause-step
returns-in-Err-clause-step g c = λ output input.
    let types = types_in c.args.scope.now in
    let f = function_in c.args.scope.now in
    let content = g.S.Store.content c.args.store.now in
    let rows = g.S.Store.rows c.args.store.now in
    let limit = g.S.Store.limit c.args.store.now in
    let cells = c.args.cells.now.items in
    let m = meant types content rows in
    let now = c.requires.at in
    let here = stands_at types f limit c.args.depth c.args.ty c.args.spot content rows cells now in
    let hand = in_hand types f limit c.args.depth c.args.ty c.args.spot content rows cells now in
    let own = container_owns types limit c.args.depth hand c.args.ty c.args.spot content rows here c.requires.container in
    let owner = is_owner types limit c.args.depth hand c.args.ty c.args.spot content rows here own.0 own.1 own.2 in
    let object = raw types limit c.args.depth hand c.args.ty c.args.spot content rows here in
    let id = c.in-Some.field-0 in
    let vector = told_vector (parts_at types c.args.ty) c.requires.container id (sym c.in-Some.is ∙ c.elements_of.ensures ∙ ap elements_in c.first_part.ensures) in
    let is = vector.1 ∙ ap (Vector id) (sym (vector_parts types here.served.ordered c.args.ty id vector.0 vector.1).made) in
    ap (λ (p : Parts). erases types f p (spot_seen c.args.spot) (pointer_seen c.args.iterator) (location_of c.args.into.now) (state_of m cells output input)) is
    ∙ moved_stops types f id (parts_at types id) c.args.spot (pointer_seen c.args.iterator) (location_of c.args.into.now) m cells number_of c.in-Err.stop (c.in-Err.ensures.is (kinds_of types) object owner) output input

pub returns-in-Err-erasable-clause-step : goal.returns-in-Err-erasable-clause-step
returns-in-Err-erasable-clause-step g c = λ output input.
    let types = types_in c.args.scope.now in
    let f = function_in c.args.scope.now in
    let content = g.S.Store.content c.args.store.now in
    let rows = g.S.Store.rows c.args.store.now in
    let limit = g.S.Store.limit c.args.store.now in
    let cells = c.args.cells.now.items in
    let m = meant types content rows in
    let now = c.requires.at in
    let here = stands_at types f limit c.args.depth c.args.ty c.args.spot content rows cells now in
    let hand = in_hand types f limit c.args.depth c.args.ty c.args.spot content rows cells now in
    let own = container_owns types limit c.args.depth hand c.args.ty c.args.spot content rows here c.requires.container in
    let owner = is_owner types limit c.args.depth hand c.args.ty c.args.spot content rows here own.0 own.1 own.2 in
    let object = raw types limit c.args.depth hand c.args.ty c.args.spot content rows here in
    let id = c.in-Some.field-0 in
    let vector = told_vector (parts_at types c.args.ty) c.requires.container id (sym c.in-Some.is ∙ c.elements_of.ensures ∙ ap elements_in c.first_part.ensures) in
    let is = vector.1 ∙ ap (Vector id) (sym (vector_parts types here.served.ordered c.args.ty id vector.0 vector.1).made) in
    let found = c.in-Ok.ensures.is (kinds_of types) object owner in
    let referred = c.in-Ok.ensures.fits (kinds_of types) object owner in
    ap (λ (p : Parts). erases types f p (spot_seen c.args.spot) (pointer_seen c.args.iterator) (location_of c.args.into.now) (state_of m cells output input)) is
    ∙ foreign_stops types f id (parts_at types id) c.args.spot (pointer_seen c.args.iterator) (location_of c.args.into.now) m cells c.in-Ok.buffer.birth found itself c.in-Err-erasable.stop (c.in-Err-erasable.ensures (kinds_of types) now.ready.fits.housed referred) output input

pub erase_element-requires-clause-at : goal.erase_element-requires-clause-at
erase_element-requires-clause-at g c =
    let types = types_in c.args.scope.now in
    let f = function_in c.args.scope.now in
    let content = g.S.Store.content c.args.store.now in
    let rows = g.S.Store.rows c.args.store.now in
    let limit = g.S.Store.limit c.args.store.now in
    let cells = c.args.cells.now.items in
    let m = meant types content rows in
    let now = c.requires.at in
    let here = stands_at types f limit c.args.depth c.args.ty c.args.spot content rows cells now in
    let hand = in_hand types f limit c.args.depth c.args.ty c.args.spot content rows cells now in
    let own = container_owns types limit c.args.depth hand c.args.ty c.args.spot content rows here c.requires.container in
    let owner = is_owner types limit c.args.depth hand c.args.ty c.args.spot content rows here own.0 own.1 own.2 in
    let object = raw types limit c.args.depth hand c.args.ty c.args.spot content rows here in
    let found = c.in-Ok.ensures.is (kinds_of types) object owner in
    let referred = c.in-Ok.ensures.fits (kinds_of types) object owner in
    record { owner = now; owned = (has_buffer types limit c.args.depth hand c.args.ty c.args.spot content rows here own.0 own.1 own.2 c.in-Ok.buffer found referred).owned; referred = referred }

pub erase_element-requires-clause-vector : goal.erase_element-requires-clause-vector
erase_element-requires-clause-vector g c =
    let types = types_in c.args.scope.now in
    let f = function_in c.args.scope.now in
    let content = g.S.Store.content c.args.store.now in
    let rows = g.S.Store.rows c.args.store.now in
    let limit = g.S.Store.limit c.args.store.now in
    let cells = c.args.cells.now.items in
    let m = meant types content rows in
    let now = c.requires.at in
    let here = stands_at types f limit c.args.depth c.args.ty c.args.spot content rows cells now in
    let hand = in_hand types f limit c.args.depth c.args.ty c.args.spot content rows cells now in
    let own = container_owns types limit c.args.depth hand c.args.ty c.args.spot content rows here c.requires.container in
    let owner = is_owner types limit c.args.depth hand c.args.ty c.args.spot content rows here own.0 own.1 own.2 in
    let object = raw types limit c.args.depth hand c.args.ty c.args.spot content rows here in
    let id = c.in-Some.field-0 in
    let vector = told_vector (parts_at types c.args.ty) c.requires.container id (sym c.in-Some.is ∙ c.elements_of.ensures ∙ ap elements_in c.first_part.ensures) in
    let is = vector.1 ∙ ap (Vector id) (sym (vector_parts types here.served.ordered c.args.ty id vector.0 vector.1).made) in
    (id, is, c.requires.takes id is)

pub erase_element-requires-clause-inside : goal.erase_element-requires-clause-inside
erase_element-requires-clause-inside g c =
    let types = types_in c.args.scope.now in
    let f = function_in c.args.scope.now in
    let content = g.S.Store.content c.args.store.now in
    let rows = g.S.Store.rows c.args.store.now in
    let limit = g.S.Store.limit c.args.store.now in
    let cells = c.args.cells.now.items in
    let m = meant types content rows in
    let now = c.requires.at in
    let here = stands_at types f limit c.args.depth c.args.ty c.args.spot content rows cells now in
    let hand = in_hand types f limit c.args.depth c.args.ty c.args.spot content rows cells now in
    let own = container_owns types limit c.args.depth hand c.args.ty c.args.spot content rows here c.requires.container in
    let owner = is_owner types limit c.args.depth hand c.args.ty c.args.spot content rows here own.0 own.1 own.2 in
    let object = raw types limit c.args.depth hand c.args.ty c.args.spot content rows here in
    let found = c.in-Ok.ensures.is (kinds_of types) object owner in
    let referred = c.in-Ok.ensures.fits (kinds_of types) object owner in
    erasable_inside m c.in-Ok.buffer.birth c.in-Ok-erasable.index (pointer_seen c.args.iterator) (c.in-Ok-erasable.ensures (kinds_of types) now.ready.fits.housed referred)

pub returns-in-Ok-erasable-clause-step : goal.returns-in-Ok-erasable-clause-step
returns-in-Ok-erasable-clause-step g c =
    let types = types_in c.args.scope.now in
    let f = function_in c.args.scope.now in
    let content = g.S.Store.content c.args.store.now in
    let rows = g.S.Store.rows c.args.store.now in
    let limit = g.S.Store.limit c.args.store.now in
    let cells = c.args.cells.now.items in
    let m = meant types content rows in
    let now = c.requires.at in
    let here = stands_at types f limit c.args.depth c.args.ty c.args.spot content rows cells now in
    let hand = in_hand types f limit c.args.depth c.args.ty c.args.spot content rows cells now in
    let own = container_owns types limit c.args.depth hand c.args.ty c.args.spot content rows here c.requires.container in
    let owner = is_owner types limit c.args.depth hand c.args.ty c.args.spot content rows here own.0 own.1 own.2 in
    let object = raw types limit c.args.depth hand c.args.ty c.args.spot content rows here in
    let id = c.in-Some.field-0 in
    let vector = told_vector (parts_at types c.args.ty) c.requires.container id (sym c.in-Some.is ∙ c.elements_of.ensures ∙ ap elements_in c.first_part.ensures) in
    let is = vector.1 ∙ ap (Vector id) (sym (vector_parts types here.served.ordered c.args.ty id vector.0 vector.1).made) in
    let found = c.in-Ok.ensures.is (kinds_of types) object owner in
    let referred = c.in-Ok.ensures.fits (kinds_of types) object owner in
    goes_alike (erases types f (parts_at types c.args.ty) (spot_seen c.args.spot) (pointer_seen c.args.iterator) (location_of c.args.into.now)) (erased_into types f (parts_at types id) c.in-Ok.buffer.birth c.in-Ok-erasable.index (location_of c.args.into.now)) m cells
    (λ output input.
    ap (λ (p : Parts). erases types f p (spot_seen c.args.spot) (pointer_seen c.args.iterator) (location_of c.args.into.now) (state_of m cells output input)) is
    ∙ element_erased types f id (parts_at types id) c.args.spot (pointer_seen c.args.iterator) (location_of c.args.into.now) m cells c.in-Ok.buffer.birth found c.in-Ok-erasable.index (c.in-Ok-erasable.ensures (kinds_of types) now.ready.fits.housed referred) output input)
    _ _ c.erase_element.result (c.erase_element.ensures.step id is)
