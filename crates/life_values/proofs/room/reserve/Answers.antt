use Rattle.std.proofs.Common.{sym, ◌∙◌, arith}
use Rattle.life_values.proofs.MakingRoom.{not_dead, reserve_can, reserve_done, reserve_none, reserve_past, reserve_there}
use Rattle.life_values.proofs.room.reserve.Goals as goal

pub unreachable-requires : goal.unreachable-requires
unreachable-requires g c = not_dead c.args.types.now c.args.layouts.now c.requires.layouts c.args.spot c.args.buffer (g.S.Store.content c.args.store.now) (g.S.Store.rows c.args.store.now) c.requires.can c.in-Err.field-0 (sym c.shape.ensures.shape ∙ c.in-Err.is)

pub returns-then-wanted-shape-clause-reserved : goal.returns-then-wanted-shape-clause-reserved
returns-then-wanted-shape-clause-reserved g c s o cells there =
    let enough = c.if-wanted-shape.true in
    reserve_there c.args.types.now c.args.layouts.now c.requires.layouts c.args.spot c.args.buffer (g.S.Store.content c.args.store.now) (g.S.Store.rows c.args.store.now) c.requires.can c.in-Ok.shape (sym c.shape.ensures.shape ∙ c.in-Ok.is) s o there c.args.wanted (omega (arith, enough))

pub returns-in-None-clause-reserved : goal.returns-in-None-clause-reserved
returns-in-None-clause-reserved g c s o cells there =
    let more = c.if-wanted-shape.false in
    reserve_past c.args.types.now c.args.layouts.now c.requires.layouts c.args.spot c.args.buffer (g.S.Store.content c.args.store.now) (g.S.Store.rows c.args.store.now) c.requires.can c.in-Ok.shape (sym c.shape.ensures.shape ∙ c.in-Ok.is) s o there c.args.wanted (omega (arith, more))
    (g.S.Store.limit c.args.store.now) cells c.requires.few c.in-None.ensures (c.requires.wide o.ty)

pub regrow-requires-clause-can : goal.regrow-requires-clause-can
regrow-requires-clause-can g c =
    let more = c.if-wanted-shape.false in
    let is = c.in-Some.ensures in
    reserve_can c.args.types.now c.args.layouts.now c.requires.layouts c.args.spot c.args.buffer (g.S.Store.content c.args.store.now) (g.S.Store.rows c.args.store.now) c.requires.can c.in-Ok.shape (sym c.shape.ensures.shape ∙ c.in-Ok.is) c.in-Some.capacity (omega (arith, more, is))

pub returns-in-Err-regrow-clause-reserved : goal.returns-in-Err-regrow-clause-reserved
returns-in-Err-regrow-clause-reserved g c s o cells there =
    let more = c.if-wanted-shape.false in
    reserve_none c.args.types.now c.args.layouts.now c.requires.layouts c.args.spot c.args.buffer (g.S.Store.content c.args.store.now) (g.S.Store.rows c.args.store.now) c.requires.can c.in-Ok.shape (sym c.shape.ensures.shape ∙ c.in-Ok.is) s o there c.args.wanted (omega (arith, more))
    c.in-Some.capacity c.in-Some.ensures c.in-Err-regrow.fault (g.S.Store.content c.regrow.new.store) (g.S.Store.rows c.regrow.new.store) (c.in-Err-regrow.ensures.regrown s o cells there)

pub returns-in-Ok-regrow-clause-reserved : goal.returns-in-Ok-regrow-clause-reserved
returns-in-Ok-regrow-clause-reserved g c s o cells there =
    let more = c.if-wanted-shape.false in
    reserve_done c.args.types.now c.args.layouts.now c.requires.layouts c.args.spot c.args.buffer (g.S.Store.content c.args.store.now) (g.S.Store.rows c.args.store.now) c.requires.can c.in-Ok.shape (sym c.shape.ensures.shape ∙ c.in-Ok.is) s o there c.args.wanted (omega (arith, more))
    c.in-Some.capacity c.in-Some.ensures c.in-Ok-regrow.field-0 (g.S.Store.content c.regrow.new.store) (g.S.Store.rows c.regrow.new.store) (c.in-Ok-regrow.ensures.regrown s o cells there)

pub returns-then-wanted-shape-clause-rowed : goal.returns-then-wanted-shape-clause-rowed
returns-then-wanted-shape-clause-rowed g c rowed = rowed

pub returns-in-Ok-regrow-clause-rowed : goal.returns-in-Ok-regrow-clause-rowed
returns-in-Ok-regrow-clause-rowed g c rowed = c.in-Ok-regrow.ensures.rowed rowed
