use Rattle.std.proofs.Common.{IfSome, subst, sym, ◌∙◌}
use Rattle.std.proofs.lemmas.Option.{none-some}
use Rattle.life_store.specs.References.{HasWord}
use Rattle.life_seen.specs.Kinds.{kinds_of}
use Rattle.life_values.proofs.StillRowed.{end_keeps}
use Rattle.life_slots.proofs.SlotsEnded.{lies, owns_still, returned_later, returned_shows, slot_owner, slot_word, still_lives}
use Rattle.life_slots.proofs.returning.take_back.Goals as goal

pub owned-had-requires : goal.owned-had-requires
owned-had-requires g c =
    let here = lies c.args.types.now (g.S.Store.content c.args.store.now) (g.S.Store.rows c.args.store.now) c.args.slot c.requires.slot in
    subst (λ x. IfSome x (HasWord 0 0)) (sym here.found) (slot_word c.args.types.now (g.S.Store.content c.args.store.now) (g.S.Store.rows c.args.store.now) c.args.slot c.requires.slot)

pub unreachable-requires : goal.unreachable-requires
unreachable-requires g c =
    let here = lies c.args.types.now (g.S.Store.content c.args.store.now) (g.S.Store.rows c.args.store.now) c.args.slot c.requires.slot in
    absurd (none-some here.object (sym c.in-Err.ensures.lives ∙ here.found))

pub own_at-requires-clause-owns : goal.own_at-requires-clause-owns
own_at-requires-clause-owns g c =
    let types = c.args.types.now in
    let content = g.S.Store.content c.args.store.now in
    let rows = g.S.Store.rows c.args.store.now in
    let here = lies types content rows c.args.slot c.requires.slot in
    let holds = c.owned-had.ensures (kinds_of types) here.object (slot_owner types content rows c.args.slot c.requires.slot) in
    owns_still types content rows c.args.slot c.requires.slot c.owned-had.result holds (g.S.Store.content c.finish.new.self) (g.S.Store.rows c.finish.new.self) c.in-Ok.ensures.ended c.in-Ok.ensures.row c.args.owner c.requires.owns c.requires.apart

pub own_at-requires-clause-lives : goal.own_at-requires-clause-lives
own_at-requires-clause-lives g c =
    let types = c.args.types.now in
    let content = g.S.Store.content c.args.store.now in
    let rows = g.S.Store.rows c.args.store.now in
    let here = lies types content rows c.args.slot c.requires.slot in
    let holds = c.owned-had.ensures (kinds_of types) here.object (slot_owner types content rows c.args.slot c.requires.slot) in
    still_lives types content rows c.args.slot c.requires.slot c.owned-had.result holds (g.S.Store.content c.finish.new.self) (g.S.Store.rows c.finish.new.self) c.in-Ok.ensures.ended c.in-Ok.ensures.row

pub returns-clause-shows : goal.returns-clause-shows
returns-clause-shows g c =
    let types = c.args.types.now in
    let content = g.S.Store.content c.args.store.now in
    let rows = g.S.Store.rows c.args.store.now in
    let here = lies types content rows c.args.slot c.requires.slot in
    let holds = c.owned-had.ensures (kinds_of types) here.object (slot_owner types content rows c.args.slot c.requires.slot) in
    returned_shows types content rows c.args.slot c.requires.slot c.owned-had.result holds (g.S.Store.content c.finish.new.self) (g.S.Store.rows c.finish.new.self) c.in-Ok.ensures.ended c.in-Ok.ensures.row c.args.owner c.requires.owns c.requires.apart
    (g.S.Store.content c.own_at.new.store) (g.S.Store.rows c.own_at.new.store) c.own_at.ensures.shows

pub returns-clause-rowed : goal.returns-clause-rowed
returns-clause-rowed g c = λ rowed.
    c.own_at.ensures.rowed (end_keeps (kinds_of c.args.types.now) (g.S.Store.content c.args.store.now) (g.S.Store.rows c.args.store.now) c.args.slot (g.S.Store.content c.finish.new.self) (g.S.Store.rows c.finish.new.self) c.in-Ok.ensures.ended c.in-Ok.ensures.row rowed)

pub returns-clause-later : goal.returns-clause-later
returns-clause-later g c =
    let types = c.args.types.now in
    let content = g.S.Store.content c.args.store.now in
    let rows = g.S.Store.rows c.args.store.now in
    let here = lies types content rows c.args.slot c.requires.slot in
    let holds = c.owned-had.ensures (kinds_of types) here.object (slot_owner types content rows c.args.slot c.requires.slot) in
    returned_later types content rows c.args.slot c.requires.slot c.owned-had.result holds (g.S.Store.content c.finish.new.self) (g.S.Store.rows c.finish.new.self) c.in-Ok.ensures.ended c.in-Ok.ensures.row c.args.owner c.requires.owns c.requires.apart
    (g.S.Store.content c.own_at.new.store) (g.S.Store.rows c.own_at.new.store) c.own_at.ensures.shows c.own_at.ensures.rows
