use Rattle.std.proofs.Common.{List, Ok, Err, length, ap, subst, sym, ◌∙◌, arith}
use Rattle.life_store.specs.Content.{live_words_of}
use Rattle.life_store.specs.Parts.{parts_at, width_at}
use Rattle.life_seen.specs.Kinds.{kinds_of}
use Rattle.life_seen.proofs.References.{later_then}
use Rattle.life_values.specs.Fresh.{leaves_wrote, AreBlank, CanFill, Comes}
use Rattle.life_values.specs.declared.layout.Leaf.{Leaf}
use Rattle.life_values.proofs.Beginning.{wide_enough}
use Rattle.life_core.specs.declared.instr.Form.TheVariants as form
use Rattle.life_cells.specs.Fits.{meant}
use Rattle.life_changes.specs.NewObjects.{fresh_value}
use Rattle.life_changes.proofs.BornObjects.{bears_none, blank, born_ref, counted, sized_room, sized_shows, there}
use Rattle.life_changes.proofs.FreshObjects.{bears_fresh, bears_no_value, can_fill, few_leaves, is_blank}
use Rattle.life_changes.proofs.births.fresh_object.Goals as goal

pub born_sized-requires-clause-wide : goal.born_sized-requires-clause-wide
born_sized-requires-clause-wide g c = wide_enough c.args.types.now c.args.layouts.now c.requires.layouts c.requires.wide c.args.ty c.width_of.result c.width_of.ensures

pub born_sized-requires-clause-births : goal.born_sized-requires-clause-births
born_sized-requires-clause-births g c = let e = c.requires.early.births in omega (arith, e)

pub born_sized-requires-clause-clock : goal.born_sized-requires-clause-clock
born_sized-requires-clause-clock g c = let e = c.requires.early.clock in omega (arith, e)

pub returns-in-Err-clause-bears : goal.returns-in-Err-clause-bears
returns-in-Err-clause-bears g c = λ s given.
    let types = c.args.types.now in
    let kinds = kinds_of types in
    let layouts = c.args.layouts.now in
    let laid = c.requires.layouts in
    let content = g.S.Store.content c.args.store.now in
    let rows = g.S.Store.rows c.args.store.now in
    let d = g.S.Store.content c.born_sized.new.store in
    let new = g.S.Store.rows c.born_sized.new.store in
    let wide = sized_room types layouts laid c.args.ty c.width_of.result (live_words_of content) c.width_of.ensures in
    bears_none types content rows s c.args.ty (parts_at types c.args.ty) (fresh_value s (parts_at types c.args.ty)) c.in-Err.fault d new
    (λ full. let over = c.in-Err.ensures.cells full in omega (arith, over, wide, given))

pub fresh-requires-clause-can : goal.fresh-requires-clause-can
fresh-requires-clause-can g c =
    let types = c.args.types.now in
    let kinds = kinds_of types in
    let layouts = c.args.layouts.now in
    let laid = c.requires.layouts in
    let content = g.S.Store.content c.args.store.now in
    let rows = g.S.Store.rows c.args.store.now in
    let d = g.S.Store.content c.born_sized.new.store in
    let new = g.S.Store.rows c.born_sized.new.store in
    let r = c.in-Ok.object in
    let q = c.in-Ok.ensures in
    let shows = sized_shows types layouts laid c.args.ty content d rows new c.width_of.result c.width_of.ensures (q.shows kinds c.requires.housed) in
    let wide = sized_room types layouts laid c.args.ty c.width_of.result (live_words_of content) c.width_of.ensures in
    let small = c.requires.few in
    let room = q.room in
    subst (λ (ls : List Leaf). CanFill kinds (record { object = r; slot = 0; word = 0 }) ls d new) (sym c.leaves_of-leaves.ensures)
    (can_fill types c.requires.ordered layouts laid c.args.ty content rows r q.number d new shows q.placed (omega (arith, small, room, wide)))

pub fresh-requires-clause-births : goal.fresh-requires-clause-births
fresh-requires-clause-births g c =
    let types = c.args.types.now in
    let kinds = kinds_of types in
    let layouts = c.args.layouts.now in
    let laid = c.requires.layouts in
    let content = g.S.Store.content c.args.store.now in
    let rows = g.S.Store.rows c.args.store.now in
    let d = g.S.Store.content c.born_sized.new.store in
    let new = g.S.Store.rows c.born_sized.new.store in
    let r = c.in-Ok.object in
    let q = c.in-Ok.ensures in
    let shows = sized_shows types layouts laid c.args.ty content d rows new c.width_of.result c.width_of.ensures (q.shows kinds c.requires.housed) in
    let wide = sized_room types layouts laid c.args.ty c.width_of.result (live_words_of content) c.width_of.ensures in
    let few = few_leaves types c.requires.ordered layouts laid c.args.ty content rows r q.number d new shows in
    let births = (counted types c.args.ty (width_at types c.args.ty) content rows r q.number d new shows).0 in
    let leaves = ap (λ (ls : List Leaf). length ls) c.leaves_of-leaves.ensures in
    let early = c.requires.early.births in
    let small = c.requires.few in
    let room = q.room in
    omega (arith, few, births, leaves, early, small, room, wide)

pub fresh-requires-clause-clock : goal.fresh-requires-clause-clock
fresh-requires-clause-clock g c =
    let types = c.args.types.now in
    let kinds = kinds_of types in
    let layouts = c.args.layouts.now in
    let laid = c.requires.layouts in
    let content = g.S.Store.content c.args.store.now in
    let rows = g.S.Store.rows c.args.store.now in
    let d = g.S.Store.content c.born_sized.new.store in
    let new = g.S.Store.rows c.born_sized.new.store in
    let r = c.in-Ok.object in
    let q = c.in-Ok.ensures in
    let shows = sized_shows types layouts laid c.args.ty content d rows new c.width_of.result c.width_of.ensures (q.shows kinds c.requires.housed) in
    let wide = sized_room types layouts laid c.args.ty c.width_of.result (live_words_of content) c.width_of.ensures in
    let clock = (counted types c.args.ty (width_at types c.args.ty) content rows r q.number d new shows).1 in
    let early = c.requires.early.clock in
    omega (arith, clock, early)

pub returns-in-Err-fresh-clause-bears : goal.returns-in-Err-fresh-clause-bears
returns-in-Err-fresh-clause-bears g c = λ s given.
    let types = c.args.types.now in
    let kinds = kinds_of types in
    let layouts = c.args.layouts.now in
    let laid = c.requires.layouts in
    let content = g.S.Store.content c.args.store.now in
    let rows = g.S.Store.rows c.args.store.now in
    let d = g.S.Store.content c.born_sized.new.store in
    let new = g.S.Store.rows c.born_sized.new.store in
    let r = c.in-Ok.object in
    let q = c.in-Ok.ensures in
    let shows = sized_shows types layouts laid c.args.ty content d rows new c.width_of.result c.width_of.ensures (q.shows kinds c.requires.housed) in
    let wide = sized_room types layouts laid c.args.ty c.width_of.result (live_words_of content) c.width_of.ensures in
    let room = q.room in
    bears_no_value types c.requires.ordered layouts laid c.args.ty content rows r q.number d new shows s (omega (arith, room, wide, given)) c.in-Err-fresh.fault (g.S.Store.content c.fresh.new.store) (g.S.Store.rows c.fresh.new.store)
    (subst (λ (ls : List Leaf). Comes {A = Unit {0}} kinds (leaves_wrote s types form.Zero r.birth 0 0 ls (meant types d new)) (Err c.in-Err-fresh.fault) (g.S.Store.content c.fresh.new.store) (g.S.Store.rows c.fresh.new.store)) c.leaves_of-leaves.ensures (c.in-Err-fresh.ensures.comes s (given ∙ sym c.born_sized.ensures.limit)))

pub returns-in-Ok-fresh-clause-bears : goal.returns-in-Ok-fresh-clause-bears
returns-in-Ok-fresh-clause-bears g c = λ s given.
    let types = c.args.types.now in
    let kinds = kinds_of types in
    let layouts = c.args.layouts.now in
    let laid = c.requires.layouts in
    let content = g.S.Store.content c.args.store.now in
    let rows = g.S.Store.rows c.args.store.now in
    let d = g.S.Store.content c.born_sized.new.store in
    let new = g.S.Store.rows c.born_sized.new.store in
    let r = c.in-Ok.object in
    let q = c.in-Ok.ensures in
    let shows = sized_shows types layouts laid c.args.ty content d rows new c.width_of.result c.width_of.ensures (q.shows kinds c.requires.housed) in
    let wide = sized_room types layouts laid c.args.ty c.width_of.result (live_words_of content) c.width_of.ensures in
    let room = q.room in
    let births = (counted types c.args.ty (width_at types c.args.ty) content rows r q.number d new shows).0 in
    let number = q.number in
    bears_fresh types c.requires.ordered layouts laid c.args.ty content rows r q.number d new shows s (omega (arith, room, wide, given)) (g.S.Store.content c.fresh.new.store) (g.S.Store.rows c.fresh.new.store)
    (born_ref d (g.S.Store.content c.fresh.new.store) new (g.S.Store.rows c.fresh.new.store) r c.in-Ok-fresh.ensures.later (omega (arith, births, number)) q.placed) (tt {0})
    (subst (λ (ls : List Leaf). Comes {A = Unit {0}} kinds (leaves_wrote s types form.Zero r.birth 0 0 ls (meant types d new)) (Ok (tt {0})) (g.S.Store.content c.fresh.new.store) (g.S.Store.rows c.fresh.new.store)) c.leaves_of-leaves.ensures (c.in-Ok-fresh.ensures.comes s (given ∙ sym c.born_sized.ensures.limit)))

pub returns-in-Ok-fresh-clause-rowed : goal.returns-in-Ok-fresh-clause-rowed
returns-in-Ok-fresh-clause-rowed g c = λ rowed.
    let types = c.args.types.now in
    let kinds = kinds_of types in
    let layouts = c.args.layouts.now in
    let laid = c.requires.layouts in
    let content = g.S.Store.content c.args.store.now in
    let rows = g.S.Store.rows c.args.store.now in
    let d = g.S.Store.content c.born_sized.new.store in
    let new = g.S.Store.rows c.born_sized.new.store in
    let r = c.in-Ok.object in
    let q = c.in-Ok.ensures in
    let shows = sized_shows types layouts laid c.args.ty content d rows new c.width_of.result c.width_of.ensures (q.shows kinds c.requires.housed) in
    let wide = sized_room types layouts laid c.args.ty c.width_of.result (live_words_of content) c.width_of.ensures in
    let here = there types c.args.ty (width_at types c.args.ty) content rows r q.number d new shows in
    c.in-Ok-fresh.ensures.rowed (blank types c.args.ty (width_at types c.args.ty) content rows) here
    (subst (λ (ls : List Leaf). AreBlank ls 0 0 (blank types c.args.ty (width_at types c.args.ty) content rows)) (sym c.leaves_of-leaves.ensures) (is_blank types c.requires.ordered layouts laid c.args.ty content rows r q.number d new shows (blank types c.args.ty (width_at types c.args.ty) content rows) here))
    (q.rowed kinds rowed)

pub returns-in-Ok-fresh-clause-later : goal.returns-in-Ok-fresh-clause-later
returns-in-Ok-fresh-clause-later g c = later_then (g.S.Store.content c.args.store.now) (g.S.Store.content c.born_sized.new.store) (g.S.Store.content c.fresh.new.store) (g.S.Store.rows c.args.store.now) (g.S.Store.rows c.born_sized.new.store) (g.S.Store.rows c.fresh.new.store) c.in-Ok.ensures.later c.in-Ok-fresh.ensures.later
