use Rattle.std.proofs.Common.{subst, sym}
use Rattle.std.specs.Prelude.{option_map}
use Rattle.life_forest.specs.Kinds.{kinds_of as forest_kinds}
use Rattle.life_seen.specs.Housed.{Shows}
use Rattle.life_seen.specs.Kinds.{kinds_of}
use Rattle.life_seen.specs.Seen.{seen}
use Rattle.life_words.specs.Owning.{number_of}
use Rattle.life_values.specs.Ended.{ended_number}
use Rattle.life_moves.specs.MovedTo.{taken_over, CanTakeOver}
use Rattle.life_moves.proofs.giving.replace_if.Goals as goal

pub end_words-requires-clause-can : goal.end_words-requires-clause-can
end_words-requires-clause-can g c =
    subst (λ x. CanTakeOver (kinds_of c.args.types.now) (forest_kinds c.args.types.now) c.args.depth c.args.spot c.args.owners.now x (g.S.Store.content c.args.store.now) (g.S.Store.rows c.args.store.now)) c.in-None.is c.requires.can

pub replace-requires-clause-can : goal.replace-requires-clause-can
replace-requires-clause-can g c =
    subst (λ x. CanTakeOver (kinds_of c.args.types.now) (forest_kinds c.args.types.now) c.args.depth c.args.spot c.args.owners.now x (g.S.Store.content c.args.store.now) (g.S.Store.rows c.args.store.now)) c.in-Some.is c.requires.can

pub returns-in-None-clause-replaced : goal.returns-in-None-clause-replaced
returns-in-None-clause-replaced g c =
    subst (λ x. Shows (kinds_of c.args.types.now) (g.S.Store.content c.end_words.new.store) (g.S.Store.rows c.end_words.new.store)
    (taken_over (ended_number (forest_kinds c.args.types.now) c.args.depth) c.args.spot.object.birth c.args.spot.slot c.args.spot.word c.args.owners.now (option_map number_of x) (seen (kinds_of c.args.types.now) (g.S.Store.content c.args.store.now) (g.S.Store.rows c.args.store.now))))
    (sym c.in-None.is) c.end_words.ensures.emptied

pub returns-in-Some-clause-replaced : goal.returns-in-Some-clause-replaced
returns-in-Some-clause-replaced g c =
    subst (λ x. Shows (kinds_of c.args.types.now) (g.S.Store.content c.replace.new.store) (g.S.Store.rows c.replace.new.store)
    (taken_over (ended_number (forest_kinds c.args.types.now) c.args.depth) c.args.spot.object.birth c.args.spot.slot c.args.spot.word c.args.owners.now (option_map number_of x) (seen (kinds_of c.args.types.now) (g.S.Store.content c.args.store.now) (g.S.Store.rows c.args.store.now))))
    (sym c.in-Some.is) c.replace.ensures.replaced
