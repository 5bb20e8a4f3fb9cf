use Rattle.std.proofs.Common.{sym, ◌∙◌, arith}
use Rattle.life_values.proofs.MakingRoom.{fits, is_at, not_dead, regrow_can, room_in_place}
use Rattle.life_values.proofs.StillFull.{can_still, few_births, few_moments, full_huge, full_regrown, later_still, there_still}
use Rattle.life_values.proofs.room.make_room.Goals as goal

pub widen-requires-clause-at : goal.widen-requires-clause-at
widen-requires-clause-at g c = is_at c.args.types.now c.args.layouts.now c.requires.layouts c.args.spot c.args.buffer (g.S.Store.content c.args.store.now) (g.S.Store.rows c.args.store.now) c.requires.can

pub widen-requires-clause-countable : goal.widen-requires-clause-countable
widen-requires-clause-countable g c = record {
  births = let b = c.requires.births c.requires.can.own.buffer c.requires.can.own.there in omega (arith, b);
  clock = let k = c.requires.clock in omega (arith, k);
}

pub returns-then-widen-clause-room : goal.returns-then-widen-clause-room
returns-then-widen-clause-room g c s o cells growth there =
    room_in_place c.args.types.now c.args.layouts.now c.requires.layouts c.args.spot c.args.buffer (g.S.Store.content c.args.store.now) (g.S.Store.rows c.args.store.now) c.requires.can
    c.widen.result c.if-widen.true (g.S.Store.content c.widen.new.store) (g.S.Store.rows c.widen.new.store) c.widen.ensures.widened c.widen.ensures.later s o there

pub unreachable-requires : goal.unreachable-requires
unreachable-requires g c =
    not_dead c.args.types.now c.args.layouts.now c.requires.layouts c.args.spot c.args.buffer (g.S.Store.content c.widen.new.store) (g.S.Store.rows c.widen.new.store)
    (can_still c.args.types.now c.args.layouts.now c.requires.layouts c.args.spot c.args.buffer (g.S.Store.content c.args.store.now) (g.S.Store.rows c.args.store.now) c.requires.can
    c.widen.result c.if-widen.false (g.S.Store.content c.widen.new.store) (g.S.Store.rows c.widen.new.store) c.widen.ensures.widened c.widen.ensures.content_stays c.widen.ensures.rows_stay)
    c.in-Err.field-0 (sym c.shape.ensures.shape ∙ c.in-Err.is)

pub returns-in-None-clause-room : goal.returns-in-None-clause-room
returns-in-None-clause-room g c s o cells growth there =
    full_huge c.args.types.now c.args.layouts.now c.requires.layouts c.args.spot c.args.buffer (g.S.Store.content c.args.store.now) (g.S.Store.rows c.args.store.now) c.requires.can
    c.widen.result c.if-widen.false (g.S.Store.content c.widen.new.store) (g.S.Store.rows c.widen.new.store) c.widen.ensures.widened c.widen.ensures.content_stays c.widen.ensures.rows_stay
    c.in-Ok.shape (sym c.shape.ensures.shape ∙ c.in-Ok.is) s o there c.args.growth growth (g.S.Store.limit c.args.store.now) cells c.requires.few c.in-None.ensures (c.requires.wide o.ty)

pub overflow_add-size : goal.overflow_add-size
overflow_add-size g c =
    let small = c.in-Some.ensures.1 in
    let more =
    fits c.args.types.now c.args.layouts.now c.requires.layouts c.args.spot c.args.buffer (g.S.Store.content c.widen.new.store) (g.S.Store.rows c.widen.new.store)
    (can_still c.args.types.now c.args.layouts.now c.requires.layouts c.args.spot c.args.buffer (g.S.Store.content c.args.store.now) (g.S.Store.rows c.args.store.now) c.requires.can
    c.widen.result c.if-widen.false (g.S.Store.content c.widen.new.store) (g.S.Store.rows c.widen.new.store) c.widen.ensures.widened c.widen.ensures.content_stays c.widen.ensures.rows_stay)
    c.in-Ok.shape (sym c.shape.ensures.shape ∙ c.in-Ok.is) c.args.growth c.in-Some.capacity c.in-Some.ensures.0 in
    omega (arith, small, more)

pub regrow-requires-clause-can : goal.regrow-requires-clause-can
regrow-requires-clause-can g c =
    regrow_can c.args.types.now c.args.layouts.now c.requires.layouts c.args.spot c.args.buffer (g.S.Store.content c.widen.new.store) (g.S.Store.rows c.widen.new.store)
    (can_still c.args.types.now c.args.layouts.now c.requires.layouts c.args.spot c.args.buffer (g.S.Store.content c.args.store.now) (g.S.Store.rows c.args.store.now) c.requires.can
    c.widen.result c.if-widen.false (g.S.Store.content c.widen.new.store) (g.S.Store.rows c.widen.new.store) c.widen.ensures.widened c.widen.ensures.content_stays c.widen.ensures.rows_stay)
    c.in-Ok.shape (sym c.shape.ensures.shape ∙ c.in-Ok.is) c.args.growth c.in-Some.capacity c.in-Some.ensures.0

pub regrow-requires-clause-births : goal.regrow-requires-clause-births
regrow-requires-clause-births g c =
    few_births c.args.types.now c.args.layouts.now c.requires.layouts c.args.spot c.args.buffer (g.S.Store.content c.args.store.now) (g.S.Store.rows c.args.store.now) c.requires.can
    c.widen.result c.if-widen.false (g.S.Store.content c.widen.new.store) (g.S.Store.rows c.widen.new.store) c.widen.ensures.widened c.widen.ensures.content_stays c.widen.ensures.rows_stay
    c.requires.births

pub regrow-requires-clause-clock : goal.regrow-requires-clause-clock
regrow-requires-clause-clock g c =
    few_moments c.args.types.now c.args.layouts.now c.requires.layouts c.args.spot c.args.buffer (g.S.Store.content c.args.store.now) (g.S.Store.rows c.args.store.now) c.requires.can
    c.widen.result c.if-widen.false (g.S.Store.content c.widen.new.store) (g.S.Store.rows c.widen.new.store) c.widen.ensures.widened c.widen.ensures.content_stays c.widen.ensures.rows_stay
    c.requires.clock

pub returns-in-Some-clause-room : goal.returns-in-Some-clause-room
returns-in-Some-clause-room g c s o cells growth there =
    full_regrown c.args.types.now c.args.layouts.now c.requires.layouts c.args.spot c.args.buffer (g.S.Store.content c.args.store.now) (g.S.Store.rows c.args.store.now) c.requires.can
    c.widen.result c.if-widen.false (g.S.Store.content c.widen.new.store) (g.S.Store.rows c.widen.new.store) c.widen.ensures.widened c.widen.ensures.content_stays c.widen.ensures.rows_stay
    c.in-Ok.shape (sym c.shape.ensures.shape ∙ c.in-Ok.is) s o there c.args.growth growth c.in-Some.capacity c.in-Some.ensures.0 c.regrow.result (g.S.Store.content c.regrow.new.store) (g.S.Store.rows c.regrow.new.store)
    (c.regrow.ensures.regrown s o (cells ∙ sym c.widen.ensures.limit)
    (there_still c.args.types.now c.args.layouts.now c.requires.layouts c.args.spot c.args.buffer (g.S.Store.content c.args.store.now) (g.S.Store.rows c.args.store.now) c.requires.can
    c.widen.result c.if-widen.false (g.S.Store.content c.widen.new.store) (g.S.Store.rows c.widen.new.store) c.widen.ensures.widened c.widen.ensures.content_stays c.widen.ensures.rows_stay
    c.in-Ok.shape (sym c.shape.ensures.shape ∙ c.in-Ok.is) s o there c.args.growth growth))

pub returns-in-Some-clause-later : goal.returns-in-Some-clause-later
returns-in-Some-clause-later g c =
    later_still c.args.types.now c.args.layouts.now c.requires.layouts c.args.spot c.args.buffer (g.S.Store.content c.args.store.now) (g.S.Store.rows c.args.store.now) c.requires.can
    c.widen.result c.if-widen.false (g.S.Store.content c.widen.new.store) (g.S.Store.rows c.widen.new.store) c.widen.ensures.widened c.widen.ensures.content_stays c.widen.ensures.rows_stay
    c.regrow.result (g.S.Store.content c.regrow.new.store) (g.S.Store.rows c.regrow.new.store) c.regrow.ensures.later

pub returns-in-Some-clause-rowed : goal.returns-in-Some-clause-rowed
returns-in-Some-clause-rowed g c rowed = c.regrow.ensures.rowed (c.widen.ensures.rowed rowed)

pub returns-then-widen-clause-rowed : goal.returns-then-widen-clause-rowed
returns-then-widen-clause-rowed g c rowed = c.widen.ensures.rowed rowed
