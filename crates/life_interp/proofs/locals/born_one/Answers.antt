use Rattle.std.proofs.Common.{IfSome, arith, refl, subst, sym, ◌∙◌}
use Rattle.std.proofs.lemmas.Option.{none-some}
use Rattle.life_store.specs.Content.{newborn}
use Rattle.life_store.specs.References.{CanResize}
use Rattle.life_seen.specs.Seen.{seen}
use Rattle.life_words.proofs.Sized.{born_there, can_resize, shows_sized}
use Rattle.life_words.proofs.Rowing.{resized_still}
use Rattle.life_interp.proofs.locals.born_one.Goals as goal

pub resize-requires-clause-fits : goal.resize-requires-clause-fits
resize-requires-clause-fits g c =
    let content = g.S.Store.content c.args.store.now in
    let d = g.S.Store.content c.born.new.store in
    let new = g.S.Store.rows c.born.new.store in
    subst (λ x. IfSome x (CanResize 1 0)) (sym (born_there content d new c.in-Ok.object c.args.ty 1 1 c.in-Ok.ensures.number c.in-Ok.ensures.born c.in-Ok.ensures.placed))
    (can_resize content d new c.in-Ok.object c.args.ty 1 1 c.in-Ok.ensures.number c.in-Ok.ensures.born c.in-Ok.ensures.placed 1 (omega arith))

pub unreachable-requires : goal.unreachable-requires
unreachable-requires g c =
    let content = g.S.Store.content c.args.store.now in
    none-some (newborn c.args.ty 1 1 content.clock)
    (sym c.in-Err-resize.ensures.lives ∙ born_there content (g.S.Store.content c.born.new.store) (g.S.Store.rows c.born.new.store) c.in-Ok.object c.args.ty 1 1 c.in-Ok.ensures.number c.in-Ok.ensures.born c.in-Ok.ensures.placed)

pub returns-in-Ok-resize-clause-shows : goal.returns-in-Ok-resize-clause-shows
returns-in-Ok-resize-clause-shows g c kinds housed =
    let content = g.S.Store.content c.args.store.now in
    let d = g.S.Store.content c.born.new.store in
    let new = g.S.Store.rows c.born.new.store in
    let there = born_there content d new c.in-Ok.object c.args.ty 1 1 c.in-Ok.ensures.number c.in-Ok.ensures.born c.in-Ok.ensures.placed in
    let last = rw there at c.in-Ok-resize.ensures.resized in
    shows_sized content d new c.in-Ok.object c.args.ty 1 1 c.in-Ok.ensures.number c.in-Ok.ensures.born c.in-Ok.ensures.placed 1 kinds (seen kinds content (g.S.Store.rows c.args.store.now)) refl refl
    (c.in-Ok.ensures.shows kinds housed) (g.S.Store.content c.resize.new.self) (g.S.Store.rows c.resize.new.self) last c.in-Ok-resize.ensures.rows_stay

pub returns-in-Ok-resize-clause-rowed : goal.returns-in-Ok-resize-clause-rowed
returns-in-Ok-resize-clause-rowed g c kinds rowed =
    let content = g.S.Store.content c.args.store.now in
    let d = g.S.Store.content c.born.new.store in
    let new = g.S.Store.rows c.born.new.store in
    let there = born_there content d new c.in-Ok.object c.args.ty 1 1 c.in-Ok.ensures.number c.in-Ok.ensures.born c.in-Ok.ensures.placed in
    let last = rw there at c.in-Ok-resize.ensures.resized in
    resized_still kinds d new (c.in-Ok.ensures.rowed kinds rowed) c.in-Ok.object (newborn c.args.ty 1 1 content.clock) there (g.S.Store.content c.resize.new.self) (g.S.Store.rows c.resize.new.self) 1 0 last c.in-Ok-resize.ensures.rows_stay
