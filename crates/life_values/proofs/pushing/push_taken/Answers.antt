use Rattle.std.proofs.Common.{refl, sym, ◌∙◌, arith}
use Rattle.life_seen.proofs.References.{later_then}
use Rattle.life_store.specs.Owners.{consumed}
use Rattle.life_store.specs.Parts.{parts_at}
use Rattle.life_values.proofs.MakingRoom.{length_is, not_dead}
use Rattle.life_values.proofs.PushedNumber.{push_fails}
use Rattle.life_values.proofs.PushedTaken.{consume_births, consume_can, consume_clock, taken_pushed}
use Rattle.life_values.proofs.RoomThen.{setting_of}
use Rattle.life_values.proofs.pushing.push_taken.Goals as goal

pub unreachable-requires : goal.unreachable-requires
unreachable-requires g c = not_dead c.args.types.now c.args.layouts.now c.requires.layouts c.args.spot c.args.buffer (g.S.Store.content c.args.store.now) (g.S.Store.rows c.args.store.now) c.requires.can.push.grow c.in-Err.field-0 (sym c.shape.ensures.shape ∙ c.in-Err.is)

pub make_room-requires-clause-births : goal.make_room-requires-clause-births
make_room-requires-clause-births g c o there = let few = c.requires.births o there in omega (arith, few)

pub returns-in-Err-make_room-clause-pushed : goal.returns-in-Err-make_room-clause-pushed
returns-in-Err-make_room-clause-pushed g c s o cells growth there =
    push_fails c.args.types.now c.args.spot c.args.buffer (g.S.Store.content c.args.store.now) (g.S.Store.rows c.args.store.now) s o (consumed (parts_at c.args.types.now o.ty) c.args.temporary.birth) c.in-Err-make_room.fault
    (g.S.Store.content c.make_room.new.store) (g.S.Store.rows c.make_room.new.store) (c.in-Err-make_room.ensures.room s o cells growth there)

pub consume-requires-clause-can : goal.consume-requires-clause-can
consume-requires-clause-can g c =
    consume_can c.args.types.now c.args.layouts.now c.requires.layouts c.requires.wide c.args.spot c.args.buffer c.args.temporary (g.S.Store.content c.args.store.now) (g.S.Store.rows c.args.store.now) c.requires.can (setting_of (g.S.Store.limit c.args.store.now) c.args.growth) c.in-Ok-make_room.room (g.S.Store.content c.make_room.new.store) (g.S.Store.rows c.make_room.new.store)
    (c.in-Ok-make_room.ensures.room (setting_of (g.S.Store.limit c.args.store.now) c.args.growth) c.requires.can.push.grow.own.buffer refl refl c.requires.can.push.grow.own.there) c.in-Ok-make_room.ensures.later c.in-Ok.shape.length
    (length_is c.args.types.now c.args.layouts.now c.requires.layouts c.args.spot c.args.buffer (g.S.Store.content c.args.store.now) (g.S.Store.rows c.args.store.now) c.requires.can.push.grow c.in-Ok.shape (sym c.shape.ensures.shape ∙ c.in-Ok.is))

pub consume-requires-clause-births : goal.consume-requires-clause-births
consume-requires-clause-births g c =
    consume_births c.args.types.now c.args.layouts.now c.requires.layouts c.requires.wide c.args.spot c.args.buffer c.args.temporary (g.S.Store.content c.args.store.now) (g.S.Store.rows c.args.store.now) c.requires.can (setting_of (g.S.Store.limit c.args.store.now) c.args.growth) c.in-Ok-make_room.room (g.S.Store.content c.make_room.new.store) (g.S.Store.rows c.make_room.new.store)
    (c.in-Ok-make_room.ensures.room (setting_of (g.S.Store.limit c.args.store.now) c.args.growth) c.requires.can.push.grow.own.buffer refl refl c.requires.can.push.grow.own.there) c.in-Ok-make_room.ensures.later c.in-Ok.shape.length
    (length_is c.args.types.now c.args.layouts.now c.requires.layouts c.args.spot c.args.buffer (g.S.Store.content c.args.store.now) (g.S.Store.rows c.args.store.now) c.requires.can.push.grow c.in-Ok.shape (sym c.shape.ensures.shape ∙ c.in-Ok.is))
    (c.requires.births c.requires.can.push.grow.own.buffer c.requires.can.push.grow.own.there)

pub consume-requires-clause-clock : goal.consume-requires-clause-clock
consume-requires-clause-clock g c =
    consume_clock c.args.types.now c.args.layouts.now c.requires.layouts c.requires.wide c.args.spot c.args.buffer c.args.temporary (g.S.Store.content c.args.store.now) (g.S.Store.rows c.args.store.now) c.requires.can (setting_of (g.S.Store.limit c.args.store.now) c.args.growth) c.in-Ok-make_room.room (g.S.Store.content c.make_room.new.store) (g.S.Store.rows c.make_room.new.store)
    (c.in-Ok-make_room.ensures.room (setting_of (g.S.Store.limit c.args.store.now) c.args.growth) c.requires.can.push.grow.own.buffer refl refl c.requires.can.push.grow.own.there) c.in-Ok-make_room.ensures.later c.in-Ok.shape.length
    (length_is c.args.types.now c.args.layouts.now c.requires.layouts c.args.spot c.args.buffer (g.S.Store.content c.args.store.now) (g.S.Store.rows c.args.store.now) c.requires.can.push.grow c.in-Ok.shape (sym c.shape.ensures.shape ∙ c.in-Ok.is))
    c.requires.clock

pub returns-in-Ok-make_room-clause-pushed : goal.returns-in-Ok-make_room-clause-pushed
returns-in-Ok-make_room-clause-pushed g c s o cells growth there =
    taken_pushed c.args.types.now c.args.layouts.now c.requires.layouts c.requires.wide c.args.spot c.args.buffer c.args.temporary (g.S.Store.content c.args.store.now) (g.S.Store.rows c.args.store.now) c.requires.can s c.in-Ok-make_room.room (g.S.Store.content c.make_room.new.store) (g.S.Store.rows c.make_room.new.store)
    (c.in-Ok-make_room.ensures.room s c.requires.can.push.grow.own.buffer cells growth c.requires.can.push.grow.own.there) c.in-Ok-make_room.ensures.later c.in-Ok.shape.length
    (length_is c.args.types.now c.args.layouts.now c.requires.layouts c.args.spot c.args.buffer (g.S.Store.content c.args.store.now) (g.S.Store.rows c.args.store.now) c.requires.can.push.grow c.in-Ok.shape (sym c.shape.ensures.shape ∙ c.in-Ok.is))
    (g.S.Store.content c.consume.new.store) (g.S.Store.rows c.consume.new.store) c.consume.ensures.consumed o there

pub returns-in-Ok-make_room-clause-later : goal.returns-in-Ok-make_room-clause-later
returns-in-Ok-make_room-clause-later g c =
    later_then (g.S.Store.content c.args.store.now) (g.S.Store.content c.make_room.new.store) (g.S.Store.content c.consume.new.store) (g.S.Store.rows c.args.store.now) (g.S.Store.rows c.make_room.new.store) (g.S.Store.rows c.consume.new.store)
    c.in-Ok-make_room.ensures.later c.consume.ensures.later

pub returns-in-Ok-make_room-clause-rowed : goal.returns-in-Ok-make_room-clause-rowed
returns-in-Ok-make_room-clause-rowed g c rowed = c.consume.ensures.rowed (c.in-Ok-make_room.ensures.rowed rowed)
