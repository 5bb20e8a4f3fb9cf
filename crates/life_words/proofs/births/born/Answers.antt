use Rattle.std.proofs.Common.{refl, ap, ◌∙◌}
use Rattle.life_store.specs.Cells.{at, at-set_same}
use Rattle.life_store.specs.Content.{newborn, Content}
use Rattle.life_store.specs.References.{Rows}
use Rattle.life_seen.proofs.Calls.{later_birth, ref_birth, shows_birth}
use Rattle.life_seen.proofs.Rowed.{rowed_born}
use Rattle.life_words.proofs.births.born.Goals as goal

pub returns-in-Ok-clause-shows : goal.returns-in-Ok-clause-shows
returns-in-Ok-clause-shows g c kinds housed =
    let is = c.in-Ok.ensures in
    shows_birth kinds (g.S.Store.content c.args.store.now) (g.S.Store.rows c.args.store.now) housed (g.S.Store.content c.birth.new.self) (g.S.Store.rows c.birth.new.self) c.in-Ok.object c.args.ty c.args.width c.args.capacity
    is.number c.is_row.ensures is.free is.born is.row

pub returns-in-Ok-clause-rowed : goal.returns-in-Ok-clause-rowed
returns-in-Ok-clause-rowed g c kinds rowed =
    let is = c.in-Ok.ensures in
    let content = g.S.Store.content c.args.store.now in
    rowed_born content (g.S.Store.content c.birth.new.self) (g.S.Store.rows c.args.store.now) (g.S.Store.rows c.birth.new.self)
    (later_birth content (g.S.Store.rows c.args.store.now) (g.S.Store.content c.birth.new.self) (g.S.Store.rows c.birth.new.self) c.in-Ok.object c.args.ty c.args.width c.args.capacity is.number is.born is.row)
    kinds content.births (newborn c.args.ty c.args.width c.args.capacity content.clock) rowed tt (ap (λ (x : Content). x.objects) is.born)

pub returns-in-Ok-clause-referred : goal.returns-in-Ok-clause-referred
returns-in-Ok-clause-referred g c =
    let is = c.in-Ok.ensures in
    ref_birth (g.S.Store.content c.args.store.now) (g.S.Store.rows c.args.store.now) (g.S.Store.content c.birth.new.self) (g.S.Store.rows c.birth.new.self) c.in-Ok.object c.args.ty c.args.width c.args.capacity is.number is.born is.row

pub returns-in-Ok-clause-placed : goal.returns-in-Ok-clause-placed
returns-in-Ok-clause-placed g c =
    ap (λ (x : Rows). at x c.in-Ok.object.birth) c.in-Ok.ensures.row ∙ at-set_same (g.S.Store.rows c.args.store.now) c.in-Ok.object.birth c.in-Ok.object.birth c.in-Ok.object.row refl

pub returns-in-Ok-clause-later : goal.returns-in-Ok-clause-later
returns-in-Ok-clause-later g c =
    let is = c.in-Ok.ensures in
    later_birth (g.S.Store.content c.args.store.now) (g.S.Store.rows c.args.store.now) (g.S.Store.content c.birth.new.self) (g.S.Store.rows c.birth.new.self) c.in-Ok.object c.args.ty c.args.width c.args.capacity is.number is.born is.row
