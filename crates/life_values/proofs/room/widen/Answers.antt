use Rattle.std.proofs.Common.{◌+◌, refl, sym, ◌∙◌, arith}
use Rattle.life_store.specs.References.{object_of}
use Rattle.life_seen.specs.Kinds.{kinds_of}
use Rattle.life_values.proofs.StillRowed.{slots_keep}
use Rattle.life_values.proofs.Widening.{can_widen, is_full, not_dead, still_there, widen_later, widen_shows}
use Rattle.life_values.proofs.room.widen.Goals as goal

pub unreachable-requires : goal.unreachable-requires
unreachable-requires g c =
    not_dead (kinds_of c.args.types.now) c.args.buffer (g.S.Store.content c.args.store.now) (g.S.Store.rows c.args.store.now) c.requires.at c.in-Err.field-0 (sym c.shape.ensures.shape ∙ c.in-Err.is)

pub returns-then-shape-clause-widened : goal.returns-then-shape-clause-widened
returns-then-shape-clause-widened g c o there =
    let full = c.if-shape.true in
    is_full (kinds_of c.args.types.now) c.args.buffer (g.S.Store.content c.args.store.now) (g.S.Store.rows c.args.store.now) c.requires.at c.in-Ok.shape (sym c.shape.ensures.shape ∙ c.in-Ok.is) o there (omega (arith, full))

pub resize-requires-clause-fits : goal.resize-requires-clause-fits
resize-requires-clause-fits g c =
    let less = c.if-shape.false in
    can_widen (kinds_of c.args.types.now) c.args.buffer (g.S.Store.content c.args.store.now) (g.S.Store.rows c.args.store.now) c.requires.at c.in-Ok.shape (sym c.shape.ensures.shape ∙ c.in-Ok.is) (omega (arith, less))

pub unreachable-requires-in-Err-resize : goal.unreachable-requires-in-Err-resize
unreachable-requires-in-Err-resize g c =
    still_there (kinds_of c.args.types.now) c.args.buffer (g.S.Store.content c.args.store.now) (g.S.Store.rows c.args.store.now) c.requires.at c.in-Err-resize.ensures.lives

pub returns-clause-widened : goal.returns-clause-widened
returns-clause-widened g c o there =
    let less = c.if-shape.false in
    widen_shows (kinds_of c.args.types.now) c.args.buffer (g.S.Store.content c.args.store.now) (g.S.Store.rows c.args.store.now) c.requires.at c.in-Ok.shape (sym c.shape.ensures.shape ∙ c.in-Ok.is) (omega (arith, less))
    (g.S.Store.content c.resize.new.self) (g.S.Store.rows c.resize.new.self) c.in-Ok-resize.ensures.resized c.in-Ok-resize.ensures.rows_stay o there

pub returns-clause-later : goal.returns-clause-later
returns-clause-later g c =
    let less = c.if-shape.false in
    widen_later (kinds_of c.args.types.now) c.args.buffer (g.S.Store.content c.args.store.now) (g.S.Store.rows c.args.store.now) c.requires.at c.in-Ok.shape (sym c.shape.ensures.shape ∙ c.in-Ok.is) (omega (arith, less))
    (g.S.Store.content c.resize.new.self) (g.S.Store.rows c.resize.new.self) c.in-Ok-resize.ensures.resized c.in-Ok-resize.ensures.rows_stay

pub returns-clause-rowed : goal.returns-clause-rowed
returns-clause-rowed g c rowed =
    slots_keep (kinds_of c.args.types.now) (g.S.Store.content c.args.store.now) (g.S.Store.rows c.args.store.now) c.args.buffer (g.S.Store.content c.resize.new.self) (g.S.Store.rows c.resize.new.self) (c.in-Ok.shape.length + 1) c.in-Ok.shape.length (object_of (g.S.Store.content c.args.store.now) (g.S.Store.rows c.args.store.now) c.args.buffer) refl
    c.in-Ok-resize.ensures.lives c.in-Ok-resize.ensures.resized c.in-Ok-resize.ensures.rows_stay rowed

pub returns-then-shape-clause-rowed : goal.returns-then-shape-clause-rowed
returns-then-shape-clause-rowed g c rowed = rowed
