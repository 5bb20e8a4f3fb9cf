use Rattle.std.proofs.Common.{refl, ap, ◌∙◌}
use Rattle.life_store.specs.Cells.{at, unset, at-set_same}
use Rattle.life_store.specs.References.{object_of, Rows}
use Rattle.life_seen.proofs.Calls.{shows_rename}
use Rattle.life_words.proofs.Renaming.{later_renamed}
use Rattle.life_words.proofs.Rowing.{rowed_renumbered}
use Rattle.life_words.proofs.births.renumbered.Goals as goal

pub returns-clause-shows : goal.returns-clause-shows
returns-clause-shows g c kinds o housed there free =
    let is = c.in-Ok.ensures in
    let last = rw there at is.renamed in
    shows_rename kinds (g.S.Store.content c.args.store.now) (g.S.Store.rows c.args.store.now) housed (g.S.Store.content c.rename.new.self) (g.S.Store.rows c.rename.new.self) c.args.object c.in-Ok.renamed o there free
    is.number c.is_row.ensures is.free last is.row

pub returns-clause-placed : goal.returns-clause-placed
returns-clause-placed g c =
    ap (λ (x : Rows). at x c.in-Ok.renamed.birth) c.in-Ok.ensures.row
    ∙ at-set_same (unset (g.S.Store.rows c.args.store.now) c.args.object.birth) c.in-Ok.renamed.birth c.in-Ok.renamed.birth c.in-Ok.renamed.row refl

pub returns-clause-later : goal.returns-clause-later
returns-clause-later g c =
    let is = c.in-Ok.ensures in
    later_renamed (g.S.Store.content c.args.store.now) (g.S.Store.content c.rename.new.self) (g.S.Store.rows c.args.store.now) (g.S.Store.rows c.rename.new.self) c.args.object c.in-Ok.renamed
    (object_of (g.S.Store.content c.args.store.now) (g.S.Store.rows c.args.store.now) c.args.object) c.requires.lives is.renamed is.number is.row

pub returns-clause-rowed : goal.returns-clause-rowed
returns-clause-rowed g c kinds rowed =
    let is = c.in-Ok.ensures in
    rowed_renumbered kinds (g.S.Store.content c.args.store.now) (g.S.Store.content c.rename.new.self) (g.S.Store.rows c.args.store.now) (g.S.Store.rows c.rename.new.self) c.args.object c.in-Ok.renamed
    (object_of (g.S.Store.content c.args.store.now) (g.S.Store.rows c.args.store.now) c.args.object) refl c.requires.lives is.renamed is.number is.row rowed
