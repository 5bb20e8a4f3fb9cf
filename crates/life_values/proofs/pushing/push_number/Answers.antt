use Rattle.std.proofs.Common.{◌∷◌, [], refl, sym, ◌∙◌}
use Rattle.life_values.proofs.MakingRoom.{length_is, not_dead}
use Rattle.life_values.proofs.PushedNumber.{number_later, number_pushed, push_fails, put_keeps, slot_there}
use Rattle.life_values.proofs.RoomThen.{setting_of}
use Rattle.life_values.proofs.pushing.push_number.Goals as goal

pub unreachable-requires : goal.unreachable-requires
unreachable-requires g c = not_dead c.args.types.now c.args.layouts.now c.requires.layouts c.args.spot c.args.buffer (g.S.Store.content c.args.store.now) (g.S.Store.rows c.args.store.now) c.requires.can.push.grow c.in-Err.field-0 (sym c.shape.ensures.shape ∙ c.in-Err.is)

pub returns-in-Err-make_room-clause-pushed : goal.returns-in-Err-make_room-clause-pushed
returns-in-Err-make_room-clause-pushed g c s o cells growth there =
    push_fails c.args.types.now c.args.spot c.args.buffer (g.S.Store.content c.args.store.now) (g.S.Store.rows c.args.store.now) s o (λ y. (c.args.number ∷ [], y)) c.in-Err-make_room.fault
    (g.S.Store.content c.make_room.new.store) (g.S.Store.rows c.make_room.new.store) (c.in-Err-make_room.ensures.room s o cells growth there)

pub put_number-requires : goal.put_number-requires
put_number-requires g c =
    slot_there c.args.types.now c.args.layouts.now c.requires.layouts c.requires.wide c.args.spot c.args.buffer (g.S.Store.content c.args.store.now) (g.S.Store.rows c.args.store.now) c.requires.can (setting_of (g.S.Store.limit c.args.store.now) c.args.growth) c.in-Ok-make_room.room (g.S.Store.content c.make_room.new.store) (g.S.Store.rows c.make_room.new.store)
    (c.in-Ok-make_room.ensures.room (setting_of (g.S.Store.limit c.args.store.now) c.args.growth) c.requires.can.push.grow.own.buffer refl refl c.requires.can.push.grow.own.there) c.in-Ok-make_room.ensures.later c.in-Ok.shape.length
    (length_is c.args.types.now c.args.layouts.now c.requires.layouts c.args.spot c.args.buffer (g.S.Store.content c.args.store.now) (g.S.Store.rows c.args.store.now) c.requires.can.push.grow c.in-Ok.shape (sym c.shape.ensures.shape ∙ c.in-Ok.is))

pub returns-in-Ok-make_room-clause-pushed : goal.returns-in-Ok-make_room-clause-pushed
returns-in-Ok-make_room-clause-pushed g c s o cells growth there =
    number_pushed c.args.types.now c.args.layouts.now c.requires.layouts c.requires.wide c.args.spot c.args.buffer (g.S.Store.content c.args.store.now) (g.S.Store.rows c.args.store.now) c.requires.can s c.in-Ok-make_room.room (g.S.Store.content c.make_room.new.store) (g.S.Store.rows c.make_room.new.store)
    (c.in-Ok-make_room.ensures.room s c.requires.can.push.grow.own.buffer cells growth c.requires.can.push.grow.own.there) c.in-Ok-make_room.ensures.later c.in-Ok.shape.length
    (length_is c.args.types.now c.args.layouts.now c.requires.layouts c.args.spot c.args.buffer (g.S.Store.content c.args.store.now) (g.S.Store.rows c.args.store.now) c.requires.can.push.grow c.in-Ok.shape (sym c.shape.ensures.shape ∙ c.in-Ok.is))
    c.args.number (g.S.Store.content c.put_number.new.store) (g.S.Store.rows c.put_number.new.store) c.put_number.ensures.shows o there

pub returns-in-Ok-make_room-clause-later : goal.returns-in-Ok-make_room-clause-later
returns-in-Ok-make_room-clause-later g c =
    number_later c.args.types.now c.args.layouts.now c.requires.layouts c.requires.wide c.args.spot c.args.buffer (g.S.Store.content c.args.store.now) (g.S.Store.rows c.args.store.now) c.requires.can (setting_of (g.S.Store.limit c.args.store.now) c.args.growth) c.in-Ok-make_room.room (g.S.Store.content c.make_room.new.store) (g.S.Store.rows c.make_room.new.store)
    (c.in-Ok-make_room.ensures.room (setting_of (g.S.Store.limit c.args.store.now) c.args.growth) c.requires.can.push.grow.own.buffer refl refl c.requires.can.push.grow.own.there) c.in-Ok-make_room.ensures.later c.in-Ok.shape.length
    (length_is c.args.types.now c.args.layouts.now c.requires.layouts c.args.spot c.args.buffer (g.S.Store.content c.args.store.now) (g.S.Store.rows c.args.store.now) c.requires.can.push.grow c.in-Ok.shape (sym c.shape.ensures.shape ∙ c.in-Ok.is))
    c.args.number (g.S.Store.content c.put_number.new.store) (g.S.Store.rows c.put_number.new.store) c.put_number.ensures.shows c.put_number.ensures.rows

pub returns-in-Ok-make_room-clause-rowed : goal.returns-in-Ok-make_room-clause-rowed
returns-in-Ok-make_room-clause-rowed g c rowed =
    put_keeps c.args.types.now c.args.layouts.now c.requires.layouts c.requires.wide c.args.spot c.args.buffer (g.S.Store.content c.args.store.now) (g.S.Store.rows c.args.store.now) c.requires.can (setting_of (g.S.Store.limit c.args.store.now) c.args.growth) c.in-Ok-make_room.room (g.S.Store.content c.make_room.new.store) (g.S.Store.rows c.make_room.new.store)
    (c.in-Ok-make_room.ensures.room (setting_of (g.S.Store.limit c.args.store.now) c.args.growth) c.requires.can.push.grow.own.buffer refl refl c.requires.can.push.grow.own.there) c.in-Ok-make_room.ensures.later c.in-Ok.shape.length
    (length_is c.args.types.now c.args.layouts.now c.requires.layouts c.args.spot c.args.buffer (g.S.Store.content c.args.store.now) (g.S.Store.rows c.args.store.now) c.requires.can.push.grow c.in-Ok.shape (sym c.shape.ensures.shape ∙ c.in-Ok.is))
    (g.S.Store.content c.put_number.new.store) (g.S.Store.rows c.put_number.new.store) c.put_number.ensures.rowed (c.in-Ok-make_room.ensures.rowed rowed)
