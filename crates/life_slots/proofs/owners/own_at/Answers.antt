use Rattle.std.proofs.Common.{IfSome, subst, sym, ◌∙◌}
use Rattle.std.specs.Prelude.{option_map}
use Rattle.life_store.specs.References.{HasWord}
use Rattle.life_seen.specs.Kinds.{kinds_of}
use Rattle.life_words.specs.Owning.{number_of}
use Rattle.life_values.proofs.StillRowed.{are_whole}
use Rattle.life_slots.proofs.OwnedAt.{owner_wrote}
use Rattle.life_slots.proofs.owners.own_at.Goals as goal

pub own-requires-clause-has : goal.own-requires-clause-has
own-requires-clause-has g c = subst (λ x. IfSome x (HasWord c.args.owner.index c.args.owner.word)) (sym c.requires.owns.is.there) c.requires.owns.word

pub returns-clause-shows : goal.returns-clause-shows
returns-clause-shows g c =
    let owns = c.requires.owns in
    let shown = c.own.ensures.shows (kinds_of c.args.types.now) owns.object owns.is in
    record {
      housed = shown.housed;
      is = shown.is ∙ owner_wrote c.args.types.now (g.S.Store.content c.args.store.now) (g.S.Store.rows c.args.store.now) c.args.owner owns (option_map number_of c.args.owned);
    }

pub returns-clause-rowed : goal.returns-clause-rowed
returns-clause-rowed g c = λ rowed. c.own.ensures.rowed (kinds_of c.args.types.now) c.requires.owns.object c.requires.owns.is (are_whole c.args.types.now c.requires.owns.object) rowed
