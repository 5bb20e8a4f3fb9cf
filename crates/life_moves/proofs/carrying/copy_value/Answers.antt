use Rattle.std.proofs.Common.{sym, subst}
use Rattle.life_seen.specs.Housed.{Shows}
use Rattle.life_seen.specs.Kinds.{kinds_of}
use Rattle.life_seen.specs.Seen.{seen}
use Rattle.life_seen.proofs.References.{later_then}
use Rattle.life_values.specs.Moved.{place}
use Rattle.life_moves.specs.CopiedTo.{all_given, CanCopyTo, CanGive}
use Rattle.life_moves.proofs.CopyingValues.{give_can, over_can, value_comes, value_fails}
use Rattle.life_moves.proofs.carrying.copy_value.Goals as goal

pub returns-in-Err-clause-copied : goal.returns-in-Err-clause-copied
returns-in-Err-clause-copied g c s cells =
    value_fails c.args.types.now c.requires.ordered c.args.layouts.now c.requires.layouts (g.S.Store.limit c.args.store.now) c.args.depth c.args.ty c.args.from c.args.to (g.S.Store.content c.args.store.now) (g.S.Store.rows c.args.store.now) c.requires.can
    c.in-Err.fault (seen (kinds_of c.args.types.now) (g.S.Store.content c.copies_of.new.store) (g.S.Store.rows c.copies_of.new.store)) c.in-Err.ensures.copied (g.S.Store.content c.copies_of.new.store) (g.S.Store.rows c.copies_of.new.store) s cells

pub overwrite-requires-clause-can : goal.overwrite-requires-clause-can
overwrite-requires-clause-can g c =
    subst (λ k. CanCopyTo c.args.types.now k c.args.depth c.args.ty c.args.from c.args.to (g.S.Store.content c.copies_of.new.store) (g.S.Store.rows c.copies_of.new.store)) (sym c.in-Ok.ensures.limit)
    (over_can c.args.types.now c.requires.ordered c.args.layouts.now c.requires.layouts (g.S.Store.limit c.args.store.now) c.args.depth c.args.ty c.args.from c.args.to (g.S.Store.content c.args.store.now) (g.S.Store.rows c.args.store.now) c.requires.can
    c.in-Ok.copies (g.S.Store.content c.copies_of.new.store) (g.S.Store.rows c.copies_of.new.store) c.in-Ok.ensures.copied c.in-Ok.ensures.made c.in-Ok.ensures.later)

pub give_all-requires : goal.give_all-requires
give_all-requires g c = record {
  can =
      subst (λ xs. CanGive (kinds_of c.args.types.now) c.args.to c.owners_of.result.now xs (g.S.Store.content c.overwrite.new.store) (g.S.Store.rows c.overwrite.new.store)) (sym c.deref.ensures.value)
      (give_can c.args.types.now c.requires.ordered c.args.layouts.now c.requires.layouts (g.S.Store.limit c.args.store.now) c.args.depth c.args.ty c.args.from c.args.to (g.S.Store.content c.args.store.now) (g.S.Store.rows c.args.store.now) c.requires.can
      c.in-Ok.copies (g.S.Store.content c.copies_of.new.store) (g.S.Store.rows c.copies_of.new.store) c.in-Ok.ensures.copied c.in-Ok.ensures.made c.in-Ok.ensures.later
      (g.S.Store.content c.overwrite.new.store) (g.S.Store.rows c.overwrite.new.store) c.overwrite.ensures.shows c.overwrite.ensures.over c.overwrite.ensures.later c.owners_of.result.now c.owners_of.ensures c.in-Ok.ensures.count);
}

pub returns-in-Ok-clause-copied : goal.returns-in-Ok-clause-copied
returns-in-Ok-clause-copied g c s cells =
    value_comes c.args.types.now c.requires.ordered c.args.layouts.now c.requires.layouts (g.S.Store.limit c.args.store.now) c.args.depth c.args.ty c.args.from c.args.to (g.S.Store.content c.args.store.now) (g.S.Store.rows c.args.store.now) c.requires.can
    c.in-Ok.copies (g.S.Store.content c.copies_of.new.store) (g.S.Store.rows c.copies_of.new.store) c.in-Ok.ensures.copied c.in-Ok.ensures.made c.in-Ok.ensures.later
    (g.S.Store.content c.overwrite.new.store) (g.S.Store.rows c.overwrite.new.store) c.overwrite.ensures.shows c.overwrite.ensures.over c.overwrite.ensures.later c.owners_of.result.now c.owners_of.ensures c.in-Ok.ensures.count
    (g.S.Store.content c.give_all.new.store) (g.S.Store.rows c.give_all.new.store)
    (subst (λ xs. Shows (kinds_of c.args.types.now) (g.S.Store.content c.give_all.new.store) (g.S.Store.rows c.give_all.new.store) (all_given (place c.args.to) c.owners_of.result.now xs (seen (kinds_of c.args.types.now) (g.S.Store.content c.overwrite.new.store) (g.S.Store.rows c.overwrite.new.store))))
    c.deref.ensures.value c.give_all.ensures.given)
    s cells

pub returns-in-Ok-clause-later : goal.returns-in-Ok-clause-later
returns-in-Ok-clause-later g c =
    later_then (g.S.Store.content c.args.store.now) (g.S.Store.content c.copies_of.new.store) (g.S.Store.content c.give_all.new.store) (g.S.Store.rows c.args.store.now) (g.S.Store.rows c.copies_of.new.store) (g.S.Store.rows c.give_all.new.store)
    c.in-Ok.ensures.later
    (later_then (g.S.Store.content c.copies_of.new.store) (g.S.Store.content c.overwrite.new.store) (g.S.Store.content c.give_all.new.store) (g.S.Store.rows c.copies_of.new.store) (g.S.Store.rows c.overwrite.new.store) (g.S.Store.rows c.give_all.new.store)
    c.overwrite.ensures.later c.give_all.ensures.later)

pub returns-in-Ok-clause-rowed : goal.returns-in-Ok-clause-rowed
returns-in-Ok-clause-rowed g c rowed = c.give_all.ensures.rowed (c.overwrite.ensures.rowed (c.in-Ok.ensures.rowed rowed))
