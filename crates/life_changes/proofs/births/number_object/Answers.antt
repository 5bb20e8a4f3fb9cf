use Rattle.std.proofs.Common.{ap, ◌∙◌, arith}
use Rattle.life_store.specs.Content.{live_words_of}
use Rattle.life_store.specs.Parts.{parts_at, width_at}
use Rattle.life_seen.specs.Kinds.{kinds_of}
use Rattle.life_store.specs.Parts.{width}
use Rattle.life_seen.proofs.References.{later_then}
use Rattle.life_values.proofs.Beginning.{width_of_type}
use Rattle.life_values.proofs.StillRowed.{are_whole}
use Rattle.life_changes.specs.NewObjects.{number_value}
use Rattle.life_changes.proofs.BornObjects.{bears_none, born_ref, counted, sized_room, sized_shows}
use Rattle.life_changes.proofs.NumberObjects.{bears_number, has_word, is_plain, number_later, stored}
use Rattle.life_changes.proofs.births.number_object.Goals as goal

pub born_sized-requires-clause-wide : goal.born_sized-requires-clause-wide
born_sized-requires-clause-wide g c = let w = c.width_of.ensures ∙ width_of_type c.args.types.now c.args.layouts.now c.requires.layouts c.args.ty ∙ ap width c.requires.single in omega (arith, w)

pub born_sized-requires-clause-births : goal.born_sized-requires-clause-births
born_sized-requires-clause-births g c = let e = c.requires.early.births in omega (arith, e)

pub born_sized-requires-clause-clock : goal.born_sized-requires-clause-clock
born_sized-requires-clause-clock g c = let e = c.requires.early.clock in omega (arith, e)

pub returns-in-Err-clause-bears : goal.returns-in-Err-clause-bears
returns-in-Err-clause-bears g c = λ s given.
    let types = c.args.types.now in
    let kinds = kinds_of types in
    let layouts = c.args.layouts.now in
    let laid = c.requires.layouts in
    let content = g.S.Store.content c.args.store.now in
    let rows = g.S.Store.rows c.args.store.now in
    let d = g.S.Store.content c.born_sized.new.store in
    let new = g.S.Store.rows c.born_sized.new.store in
    let wide = sized_room types layouts laid c.args.ty c.width_of.result (live_words_of content) c.width_of.ensures in
    bears_none types content rows s c.args.ty (parts_at types c.args.ty) (number_value c.args.number (parts_at types c.args.ty)) c.in-Err.fault d new
    (λ full. let over = c.in-Err.ensures.cells full in omega (arith, over, wide, given))

pub put_number-requires : goal.put_number-requires
put_number-requires g c =
    let types = c.args.types.now in
    let kinds = kinds_of types in
    let layouts = c.args.layouts.now in
    let laid = c.requires.layouts in
    let content = g.S.Store.content c.args.store.now in
    let rows = g.S.Store.rows c.args.store.now in
    let d = g.S.Store.content c.born_sized.new.store in
    let new = g.S.Store.rows c.born_sized.new.store in
    let r = c.in-Ok.object in
    let q = c.in-Ok.ensures in
    let shows = sized_shows types layouts laid c.args.ty content d rows new c.width_of.result c.width_of.ensures (q.shows kinds c.requires.housed) in
    let wide = sized_room types layouts laid c.args.ty c.width_of.result (live_words_of content) c.width_of.ensures in
    has_word types c.args.ty c.requires.single content rows r q.number d new shows q.placed

pub returns-in-Ok-clause-bears : goal.returns-in-Ok-clause-bears
returns-in-Ok-clause-bears g c = λ s given.
    let types = c.args.types.now in
    let kinds = kinds_of types in
    let layouts = c.args.layouts.now in
    let laid = c.requires.layouts in
    let content = g.S.Store.content c.args.store.now in
    let rows = g.S.Store.rows c.args.store.now in
    let d = g.S.Store.content c.born_sized.new.store in
    let new = g.S.Store.rows c.born_sized.new.store in
    let r = c.in-Ok.object in
    let q = c.in-Ok.ensures in
    let shows = sized_shows types layouts laid c.args.ty content d rows new c.width_of.result c.width_of.ensures (q.shows kinds c.requires.housed) in
    let wide = sized_room types layouts laid c.args.ty c.width_of.result (live_words_of content) c.width_of.ensures in
    let room = q.room in
    let births = (counted types c.args.ty (width_at types c.args.ty) content rows r q.number d new shows).0 in
    let number = q.number in
    let e = g.S.Store.content c.put_number.new.store in
    let after = g.S.Store.rows c.put_number.new.store in
    let written = c.put_number.ensures.shows kinds (stored types c.args.ty c.requires.single content rows r q.number d new shows q.placed).object (is_plain types c.args.ty c.requires.single content rows r q.number d new shows q.placed) in
    bears_number types c.args.ty c.requires.single content rows r q.number d new shows q.placed s (omega (arith, room, wide, given)) c.args.number e after
    (born_ref d e new after r (number_later types c.args.ty c.requires.single content rows r q.number d new shows q.placed c.args.number e after written c.put_number.ensures.rows) (omega (arith, births, number)) q.placed) written

pub returns-in-Ok-clause-rowed : goal.returns-in-Ok-clause-rowed
returns-in-Ok-clause-rowed g c = λ rowed.
    let types = c.args.types.now in
    let kinds = kinds_of types in
    let layouts = c.args.layouts.now in
    let laid = c.requires.layouts in
    let content = g.S.Store.content c.args.store.now in
    let rows = g.S.Store.rows c.args.store.now in
    let d = g.S.Store.content c.born_sized.new.store in
    let new = g.S.Store.rows c.born_sized.new.store in
    let r = c.in-Ok.object in
    let q = c.in-Ok.ensures in
    let shows = sized_shows types layouts laid c.args.ty content d rows new c.width_of.result c.width_of.ensures (q.shows kinds c.requires.housed) in
    let wide = sized_room types layouts laid c.args.ty c.width_of.result (live_words_of content) c.width_of.ensures in
    c.put_number.ensures.rowed kinds (stored types c.args.ty c.requires.single content rows r q.number d new shows q.placed).object (is_plain types c.args.ty c.requires.single content rows r q.number d new shows q.placed) (are_whole types (stored types c.args.ty c.requires.single content rows r q.number d new shows q.placed).object) (q.rowed kinds rowed)

pub returns-in-Ok-clause-later : goal.returns-in-Ok-clause-later
returns-in-Ok-clause-later g c =
    let types = c.args.types.now in
    let kinds = kinds_of types in
    let layouts = c.args.layouts.now in
    let laid = c.requires.layouts in
    let content = g.S.Store.content c.args.store.now in
    let rows = g.S.Store.rows c.args.store.now in
    let d = g.S.Store.content c.born_sized.new.store in
    let new = g.S.Store.rows c.born_sized.new.store in
    let r = c.in-Ok.object in
    let q = c.in-Ok.ensures in
    let shows = sized_shows types layouts laid c.args.ty content d rows new c.width_of.result c.width_of.ensures (q.shows kinds c.requires.housed) in
    let wide = sized_room types layouts laid c.args.ty c.width_of.result (live_words_of content) c.width_of.ensures in
    let e = g.S.Store.content c.put_number.new.store in
    let after = g.S.Store.rows c.put_number.new.store in
    later_then content d e rows new after q.later (number_later types c.args.ty c.requires.single content rows r q.number d new shows q.placed c.args.number e after (c.put_number.ensures.shows kinds (stored types c.args.ty c.requires.single content rows r q.number d new shows q.placed).object (is_plain types c.args.ty c.requires.single content rows r q.number d new shows q.placed)) c.put_number.ensures.rows)
