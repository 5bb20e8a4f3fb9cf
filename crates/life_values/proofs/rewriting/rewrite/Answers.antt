use Rattle.life_forest.specs.Kinds.{kinds_of as forest_kinds}
use Rattle.life_seen.specs.Kinds.{kinds_of}
use Rattle.life_seen.specs.Seen.{seen}
use Rattle.life_seen.proofs.References.{later_then}
use Rattle.life_values.specs.Ended.{ended_number}
use Rattle.life_values.proofs.AlikeKinds.{alike_kinds}
use Rattle.life_values.proofs.CharactersGiven.{can_replace, no_room, rewrite_comes}
use Rattle.life_values.proofs.rewriting.rewrite.Goals as goal

pub text-requires-clause-housed : goal.text-requires-clause-housed
text-requires-clause-housed g c = c.requires.can.empty.housed

pub returns-in-Err-clause-rewritten : goal.returns-in-Err-clause-rewritten
returns-in-Err-clause-rewritten g c s cells =
    no_room (kinds_of c.args.types.now) s (ended_number (forest_kinds c.args.types.now) c.args.depth) c.args.ty c.args.spot.object.birth c.args.spot.slot c.args.spot.word c.args.owners.now c.args.characters.now
    (seen (kinds_of c.args.types.now) (g.S.Store.content c.args.store.now) (g.S.Store.rows c.args.store.now)) c.in-Err.fault (g.S.Store.content c.text.new.store) (g.S.Store.rows c.text.new.store) (c.in-Err.ensures.text s cells)

pub replace-requires-clause-can : goal.replace-requires-clause-can
replace-requires-clause-can g c =
    can_replace (kinds_of c.args.types.now) (forest_kinds c.args.types.now) (alike_kinds c.args.types.now) c.args.depth c.args.spot c.args.owners.now c.args.ty c.args.characters.now (g.S.Store.limit c.args.store.now)
    (g.S.Store.content c.args.store.now) (g.S.Store.rows c.args.store.now) c.requires.can c.in-Ok.fresh (g.S.Store.content c.text.new.store) (g.S.Store.rows c.text.new.store) c.in-Ok.ensures.text c.in-Ok.ensures.later

pub returns-in-Ok-clause-rewritten : goal.returns-in-Ok-clause-rewritten
returns-in-Ok-clause-rewritten g c s cells =
    rewrite_comes (kinds_of c.args.types.now) (forest_kinds c.args.types.now) (alike_kinds c.args.types.now) c.args.depth c.args.spot c.args.owners.now c.args.ty c.args.characters.now (g.S.Store.limit c.args.store.now)
    (g.S.Store.content c.args.store.now) (g.S.Store.rows c.args.store.now) c.requires.can c.in-Ok.fresh (g.S.Store.content c.text.new.store) (g.S.Store.rows c.text.new.store) c.in-Ok.ensures.text c.in-Ok.ensures.later
    (g.S.Store.content c.replace.new.store) (g.S.Store.rows c.replace.new.store) c.replace.ensures.replaced s cells

pub returns-in-Ok-clause-later : goal.returns-in-Ok-clause-later
returns-in-Ok-clause-later g c =
    later_then (g.S.Store.content c.args.store.now) (g.S.Store.content c.text.new.store) (g.S.Store.content c.replace.new.store) (g.S.Store.rows c.args.store.now) (g.S.Store.rows c.text.new.store) (g.S.Store.rows c.replace.new.store)
    c.in-Ok.ensures.later c.replace.ensures.later

pub returns-in-Ok-clause-rowed : goal.returns-in-Ok-clause-rowed
returns-in-Ok-clause-rowed g c rowed = c.replace.ensures.rowed (c.in-Ok.ensures.rowed rowed)
