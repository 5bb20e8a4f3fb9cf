use Rattle.std.proofs.Common.{ap, sym, ◌∙◌}
use Rattle.life_store.specs.Edits.{buffer_of, edited}
use Rattle.life_store.specs.Parts.{parts_at}
use Rattle.life_seen.specs.Kinds.{kinds_of}
use Rattle.life_words.specs.Owning.{number_of}
use Rattle.life_pointers.specs.Owned.{spot_seen}
use Rattle.life_cells.specs.Fits.{meant}
use Rattle.life_cells.specs.Scopes.{types_in}
use Rattle.life_changes.specs.Edits.{edit_of, edited_at}
use Rattle.life_changes.specs.Owners.{characters_in, elements_in}
use Rattle.life_changes.proofs.Editing.{container_owns, edited_here, gets_same, has_buffer, has_word, is_owner, raw, then_stopped, told_either, told_text, told_vector}
use Rattle.life_changes.proofs.edits.edit.Goals as goal

pub buffer-requires : goal.buffer-requires
buffer-requires g c =
    let types = types_in c.args.scope.now in
    let limit = g.S.Store.limit c.args.store.now in
    let depth = c.args.depth in
    let content = g.S.Store.content c.args.store.now in
    let rows = g.S.Store.rows c.args.store.now in
    let hand = c.requires.stands.0 in
    let here = c.requires.stands.1 in
    let own = container_owns types limit depth hand c.args.ty c.args.spot content rows here c.requires.container in
    has_word types limit depth hand c.args.ty c.args.spot content rows here own.0 own.1 own.2

pub returns-in-Err-clause-edited : goal.returns-in-Err-clause-edited
returns-in-Err-clause-edited g c = λ s given.
    let types = types_in c.args.scope.now in
    let limit = g.S.Store.limit c.args.store.now in
    let depth = c.args.depth in
    let content = g.S.Store.content c.args.store.now in
    let rows = g.S.Store.rows c.args.store.now in
    let hand = c.requires.stands.0 in
    let here = c.requires.stands.1 in
    let own = container_owns types limit depth hand c.args.ty c.args.spot content rows here c.requires.container in
    let m = meant types content rows in
    then_stopped number_of (buffer_of m (spot_seen c.args.spot)) (λ b. edited s (parts_at types c.args.ty) (spot_seen c.args.spot) b (edit_of c.args.edit) m) c.in-Err.stop
    (c.in-Err.ensures.is (kinds_of types) (raw types limit depth hand c.args.ty c.args.spot content rows here) (is_owner types limit depth hand c.args.ty c.args.spot content rows here own.0 own.1 own.2))

pub edit_vector-requires-clause-owner : goal.edit_vector-requires-clause-owner
edit_vector-requires-clause-owner g c =
    let types = types_in c.args.scope.now in
    let limit = g.S.Store.limit c.args.store.now in
    let depth = c.args.depth in
    let content = g.S.Store.content c.args.store.now in
    let rows = g.S.Store.rows c.args.store.now in
    let hand = c.requires.stands.0 in
    let here = c.requires.stands.1 in
    let own = container_owns types limit depth hand c.args.ty c.args.spot content rows here c.requires.container in
    let found = c.in-Ok.ensures.is (kinds_of types) (raw types limit depth hand c.args.ty c.args.spot content rows here) (is_owner types limit depth hand c.args.ty c.args.spot content rows here own.0 own.1 own.2) in
    let referred = c.in-Ok.ensures.fits (kinds_of types) (raw types limit depth hand c.args.ty c.args.spot content rows here) (is_owner types limit depth hand c.args.ty c.args.spot content rows here own.0 own.1 own.2) in
    (hand, has_buffer types limit depth hand c.args.ty c.args.spot content rows here own.0 own.1 own.2 c.in-Ok.buffer found referred)

pub edit_vector-requires-clause-vector : goal.edit_vector-requires-clause-vector
edit_vector-requires-clause-vector g c =
    let types = types_in c.args.scope.now in
    let limit = g.S.Store.limit c.args.store.now in
    let depth = c.args.depth in
    let content = g.S.Store.content c.args.store.now in
    let rows = g.S.Store.rows c.args.store.now in
    let hand = c.requires.stands.0 in
    let here = c.requires.stands.1 in
    let own = container_owns types limit depth hand c.args.ty c.args.spot content rows here c.requires.container in
    let found = c.in-Ok.ensures.is (kinds_of types) (raw types limit depth hand c.args.ty c.args.spot content rows here) (is_owner types limit depth hand c.args.ty c.args.spot content rows here own.0 own.1 own.2) in
    let referred = c.in-Ok.ensures.fits (kinds_of types) (raw types limit depth hand c.args.ty c.args.spot content rows here) (is_owner types limit depth hand c.args.ty c.args.spot content rows here own.0 own.1 own.2) in
    let vector = told_vector (parts_at types c.args.ty) c.requires.container c.in-Some.field-0 (sym c.in-Some.is ∙ c.elements_of.ensures ∙ ap elements_in c.first_part-first.ensures) in
    (c.in-Some.field-0, vector.0, vector.1)

pub returns-in-Some-clause-edited : goal.returns-in-Some-clause-edited
returns-in-Some-clause-edited g c = λ s given.
    let types = types_in c.args.scope.now in
    let limit = g.S.Store.limit c.args.store.now in
    let depth = c.args.depth in
    let content = g.S.Store.content c.args.store.now in
    let rows = g.S.Store.rows c.args.store.now in
    let hand = c.requires.stands.0 in
    let here = c.requires.stands.1 in
    let own = container_owns types limit depth hand c.args.ty c.args.spot content rows here c.requires.container in
    let found = c.in-Ok.ensures.is (kinds_of types) (raw types limit depth hand c.args.ty c.args.spot content rows here) (is_owner types limit depth hand c.args.ty c.args.spot content rows here own.0 own.1 own.2) in
    let referred = c.in-Ok.ensures.fits (kinds_of types) (raw types limit depth hand c.args.ty c.args.spot content rows here) (is_owner types limit depth hand c.args.ty c.args.spot content rows here own.0 own.1 own.2) in
    let m = meant types content rows in
    gets_same (kinds_of types) (edited s (parts_at types c.args.ty) (spot_seen c.args.spot) c.in-Ok.buffer.birth (edit_of c.args.edit) m) (edited_at s (parts_at types c.args.ty) (spot_seen c.args.spot) (edit_of c.args.edit) m) c.edit_vector.result _ _
    (edited_here s (parts_at types c.args.ty) c.args.spot (edit_of c.args.edit) m c.in-Ok.buffer.birth found) (c.edit_vector.ensures.edited s given)

pub edit_text-requires-clause-owner : goal.edit_text-requires-clause-owner
edit_text-requires-clause-owner g c =
    let types = types_in c.args.scope.now in
    let limit = g.S.Store.limit c.args.store.now in
    let depth = c.args.depth in
    let content = g.S.Store.content c.args.store.now in
    let rows = g.S.Store.rows c.args.store.now in
    let hand = c.requires.stands.0 in
    let here = c.requires.stands.1 in
    let own = container_owns types limit depth hand c.args.ty c.args.spot content rows here c.requires.container in
    let found = c.in-Ok.ensures.is (kinds_of types) (raw types limit depth hand c.args.ty c.args.spot content rows here) (is_owner types limit depth hand c.args.ty c.args.spot content rows here own.0 own.1 own.2) in
    let referred = c.in-Ok.ensures.fits (kinds_of types) (raw types limit depth hand c.args.ty c.args.spot content rows here) (is_owner types limit depth hand c.args.ty c.args.spot content rows here own.0 own.1 own.2) in
    (hand, has_buffer types limit depth hand c.args.ty c.args.spot content rows here own.0 own.1 own.2 c.in-Ok.buffer found referred)

pub edit_text-requires-clause-text : goal.edit_text-requires-clause-text
edit_text-requires-clause-text g c =
    let types = types_in c.args.scope.now in
    let limit = g.S.Store.limit c.args.store.now in
    let depth = c.args.depth in
    let content = g.S.Store.content c.args.store.now in
    let rows = g.S.Store.rows c.args.store.now in
    let hand = c.requires.stands.0 in
    let here = c.requires.stands.1 in
    let own = container_owns types limit depth hand c.args.ty c.args.spot content rows here c.requires.container in
    let found = c.in-Ok.ensures.is (kinds_of types) (raw types limit depth hand c.args.ty c.args.spot content rows here) (is_owner types limit depth hand c.args.ty c.args.spot content rows here own.0 own.1 own.2) in
    let referred = c.in-Ok.ensures.fits (kinds_of types) (raw types limit depth hand c.args.ty c.args.spot content rows here) (is_owner types limit depth hand c.args.ty c.args.spot content rows here own.0 own.1 own.2) in
    told_text (parts_at types c.args.ty) c.requires.container c.in-Some-characters_of.characters (sym c.in-Some-characters_of.is ∙ c.characters_of.ensures ∙ ap characters_in c.first_part-first.ensures)

pub returns-in-Some-characters_of-clause-edited : goal.returns-in-Some-characters_of-clause-edited
returns-in-Some-characters_of-clause-edited g c = λ s given.
    let types = types_in c.args.scope.now in
    let limit = g.S.Store.limit c.args.store.now in
    let depth = c.args.depth in
    let content = g.S.Store.content c.args.store.now in
    let rows = g.S.Store.rows c.args.store.now in
    let hand = c.requires.stands.0 in
    let here = c.requires.stands.1 in
    let own = container_owns types limit depth hand c.args.ty c.args.spot content rows here c.requires.container in
    let found = c.in-Ok.ensures.is (kinds_of types) (raw types limit depth hand c.args.ty c.args.spot content rows here) (is_owner types limit depth hand c.args.ty c.args.spot content rows here own.0 own.1 own.2) in
    let referred = c.in-Ok.ensures.fits (kinds_of types) (raw types limit depth hand c.args.ty c.args.spot content rows here) (is_owner types limit depth hand c.args.ty c.args.spot content rows here own.0 own.1 own.2) in
    let m = meant types content rows in
    gets_same (kinds_of types) (edited s (parts_at types c.args.ty) (spot_seen c.args.spot) c.in-Ok.buffer.birth (edit_of c.args.edit) m) (edited_at s (parts_at types c.args.ty) (spot_seen c.args.spot) (edit_of c.args.edit) m) c.edit_text.result _ _
    (edited_here s (parts_at types c.args.ty) c.args.spot (edit_of c.args.edit) m c.in-Ok.buffer.birth found) (c.edit_text.ensures.edited s given)

pub returns-in-None-characters_of-clause-edited : goal.returns-in-None-characters_of-clause-edited
returns-in-None-characters_of-clause-edited g c =
    let types = types_in c.args.scope.now in
    absurd (told_either (parts_at types c.args.ty) c.requires.container (sym c.in-None.is ∙ c.elements_of.ensures ∙ ap elements_in c.first_part-first.ensures) (sym c.in-None-characters_of.is ∙ c.characters_of.ensures ∙ ap characters_in c.first_part-first.ensures))
