use Rattle.std.proofs.Common.{[], arith}
use Rattle.life_store.specs.Content.{live_words_of}
use Rattle.life_store.specs.Parts.{parts_at, width_at}
use Rattle.life_seen.specs.Kinds.{kinds_of}
use Rattle.life_store.specs.declared.run.Growth.TheVariants as growth
use Rattle.life_seen.proofs.References.{later_then}
use Rattle.life_values.proofs.Beginning.{wide_enough}
use Rattle.life_changes.specs.NewObjects.{taken_value}
use Rattle.life_changes.proofs.BornObjects.{bears_none, born_ref, counted, sized_room, sized_shows}
use Rattle.life_changes.proofs.Frames.{some_given}
use Rattle.life_changes.proofs.TakenObjects.{bears_taken, can_consume, few_leaves}
use Rattle.life_changes.proofs.births.taken_object.Goals as goal

pub born_sized-requires-clause-wide : goal.born_sized-requires-clause-wide
born_sized-requires-clause-wide g c = wide_enough c.args.types.now c.args.layouts.now c.requires.layouts c.requires.wide c.args.ty c.width_of.result c.width_of.ensures

pub born_sized-requires-clause-births : goal.born_sized-requires-clause-births
born_sized-requires-clause-births g c = let e = c.requires.early.births in omega (arith, e)

pub born_sized-requires-clause-clock : goal.born_sized-requires-clause-clock
born_sized-requires-clause-clock g c = let e = c.requires.early.clock in omega (arith, e)

pub returns-in-Err-clause-bears : goal.returns-in-Err-clause-bears
returns-in-Err-clause-bears g c = λ s given.
    let types = c.args.types.now in
    let kinds = kinds_of types in
    let layouts = c.args.layouts.now in
    let laid = c.requires.layouts in
    let content = g.S.Store.content c.args.store.now in
    let rows = g.S.Store.rows c.args.store.now in
    let d = g.S.Store.content c.born_sized.new.store in
    let new = g.S.Store.rows c.born_sized.new.store in
    let wide = sized_room types layouts laid c.args.ty c.width_of.result (live_words_of content) c.width_of.ensures in
    bears_none types content rows s c.args.ty (parts_at types c.args.ty) (taken_value c.args.temporary.birth (parts_at types c.args.ty)) c.in-Err.fault d new
    (λ full. let over = c.in-Err.ensures.cells full in omega (arith, over, wide, given))

pub consume-requires-clause-can : goal.consume-requires-clause-can
consume-requires-clause-can g c =
    let types = c.args.types.now in
    let kinds = kinds_of types in
    let layouts = c.args.layouts.now in
    let laid = c.requires.layouts in
    let content = g.S.Store.content c.args.store.now in
    let rows = g.S.Store.rows c.args.store.now in
    let d = g.S.Store.content c.born_sized.new.store in
    let new = g.S.Store.rows c.born_sized.new.store in
    let r = c.in-Ok.object in
    let q = c.in-Ok.ensures in
    let shows = sized_shows types layouts laid c.args.ty content d rows new c.width_of.result c.width_of.ensures (q.shows kinds c.requires.housed) in
    let wide = sized_room types layouts laid c.args.ty c.width_of.result (live_words_of content) c.width_of.ensures in
    let given = c.requires.given in
    let s = some_given growth.Always (g.S.Store.limit c.args.store.now) [] in
    let room = q.room in
    can_consume types c.args.ty given.0 content rows given.1 c.args.temporary given.2 r q.number d new shows q.later s (omega (arith, room, wide)) q.placed

pub consume-requires-clause-births : goal.consume-requires-clause-births
consume-requires-clause-births g c = λ o e.
    let types = c.args.types.now in
    let kinds = kinds_of types in
    let layouts = c.args.layouts.now in
    let laid = c.requires.layouts in
    let content = g.S.Store.content c.args.store.now in
    let rows = g.S.Store.rows c.args.store.now in
    let d = g.S.Store.content c.born_sized.new.store in
    let new = g.S.Store.rows c.born_sized.new.store in
    let r = c.in-Ok.object in
    let q = c.in-Ok.ensures in
    let shows = sized_shows types layouts laid c.args.ty content d rows new c.width_of.result c.width_of.ensures (q.shows kinds c.requires.housed) in
    let wide = sized_room types layouts laid c.args.ty c.width_of.result (live_words_of content) c.width_of.ensures in
    let given = c.requires.given in
    let s = some_given growth.Always (g.S.Store.limit c.args.store.now) [] in
    let room = q.room in
    let few = few_leaves types c.args.ty given.0 content rows given.1 c.args.temporary given.2 r q.number d new shows q.later s (omega (arith, room, wide)) layouts laid o e in
    let births = (counted types c.args.ty (width_at types c.args.ty) content rows r q.number d new shows).0 in
    let small = c.requires.small in
    let limit = c.requires.few in
    let early = c.requires.early.births in
    omega (arith, few, births, small, limit, early)

pub consume-requires-clause-clock : goal.consume-requires-clause-clock
consume-requires-clause-clock g c =
    let types = c.args.types.now in
    let kinds = kinds_of types in
    let layouts = c.args.layouts.now in
    let laid = c.requires.layouts in
    let content = g.S.Store.content c.args.store.now in
    let rows = g.S.Store.rows c.args.store.now in
    let d = g.S.Store.content c.born_sized.new.store in
    let new = g.S.Store.rows c.born_sized.new.store in
    let r = c.in-Ok.object in
    let q = c.in-Ok.ensures in
    let shows = sized_shows types layouts laid c.args.ty content d rows new c.width_of.result c.width_of.ensures (q.shows kinds c.requires.housed) in
    let wide = sized_room types layouts laid c.args.ty c.width_of.result (live_words_of content) c.width_of.ensures in
    let clock = (counted types c.args.ty (width_at types c.args.ty) content rows r q.number d new shows).1 in
    let early = c.requires.early.clock in
    omega (arith, clock, early)

pub returns-in-Ok-clause-bears : goal.returns-in-Ok-clause-bears
returns-in-Ok-clause-bears g c = λ s set.
    let types = c.args.types.now in
    let kinds = kinds_of types in
    let layouts = c.args.layouts.now in
    let laid = c.requires.layouts in
    let content = g.S.Store.content c.args.store.now in
    let rows = g.S.Store.rows c.args.store.now in
    let d = g.S.Store.content c.born_sized.new.store in
    let new = g.S.Store.rows c.born_sized.new.store in
    let r = c.in-Ok.object in
    let q = c.in-Ok.ensures in
    let shows = sized_shows types layouts laid c.args.ty content d rows new c.width_of.result c.width_of.ensures (q.shows kinds c.requires.housed) in
    let wide = sized_room types layouts laid c.args.ty c.width_of.result (live_words_of content) c.width_of.ensures in
    let given = c.requires.given in
    let room = q.room in
    let births = (counted types c.args.ty (width_at types c.args.ty) content rows r q.number d new shows).0 in
    let number = q.number in
    bears_taken types c.args.ty given.0 content rows given.1 c.args.temporary given.2 r q.number d new shows q.later s (omega (arith, room, wide, set)) (g.S.Store.content c.consume.new.store) (g.S.Store.rows c.consume.new.store)
    (born_ref d (g.S.Store.content c.consume.new.store) new (g.S.Store.rows c.consume.new.store) r c.consume.ensures.later (omega (arith, births, number)) q.placed)
    c.consume.ensures.consumed

pub returns-in-Ok-clause-rowed : goal.returns-in-Ok-clause-rowed
returns-in-Ok-clause-rowed g c = λ rowed. c.consume.ensures.rowed (c.in-Ok.ensures.rowed (kinds_of c.args.types.now) rowed)

pub returns-in-Ok-clause-later : goal.returns-in-Ok-clause-later
returns-in-Ok-clause-later g c = later_then (g.S.Store.content c.args.store.now) (g.S.Store.content c.born_sized.new.store) (g.S.Store.content c.consume.new.store) (g.S.Store.rows c.args.store.now) (g.S.Store.rows c.born_sized.new.store) (g.S.Store.rows c.consume.new.store) c.in-Ok.ensures.later c.consume.ensures.later
