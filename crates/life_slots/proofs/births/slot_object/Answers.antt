use Rattle.std.proofs.Common.{[], ◌∷◌, ap, ◌∙◌, arith}
use Rattle.std.specs.Prelude.{option_map}
use Rattle.life_store.specs.Cells.{at}
use Rattle.life_store.specs.Effects.{Got}
use Rattle.life_store.specs.Held.{owner_word}
use Rattle.life_store.specs.Parts.{Single}
use Rattle.life_store.specs.References.{Rows}
use Rattle.life_seen.specs.Kinds.{kinds_of}
use Rattle.life_seen.proofs.References.{later_then}
use Rattle.life_words.specs.Owning.{number_of}
use Rattle.life_values.proofs.StillRowed.{are_whole}
use Rattle.life_changes.proofs.BornObjects.{bears_none, born_ref, counted}
use Rattle.life_slots.proofs.SlotObjects.{bears_slot, counts, has_word, is_owner, live_more, rows_still, slot_later, still_owned, stored}
use Rattle.life_slots.proofs.births.slot_object.Goals as goal

pub returns-in-Err-clause-bears : goal.returns-in-Err-clause-bears
returns-in-Err-clause-bears g c = λ s given.
    bears_none c.args.types.now (g.S.Store.content c.args.store.now) (g.S.Store.rows c.args.store.now) s c.args.ty Single (λ x. Got (owner_word (option_map number_of c.args.owned) ∷ [], x)) c.in-Err.fault
    (g.S.Store.content c.born_sized.new.store) (g.S.Store.rows c.born_sized.new.store)
    (λ full. let over = c.in-Err.ensures.cells full in omega (arith, over, given))

pub own-requires-clause-has : goal.own-requires-clause-has
own-requires-clause-has g c =
    let q = c.in-Ok.ensures in
    has_word c.args.types.now c.args.ty c.requires.unique (g.S.Store.content c.args.store.now) (g.S.Store.rows c.args.store.now) c.in-Ok.object q.number
    (g.S.Store.content c.born_sized.new.store) (g.S.Store.rows c.born_sized.new.store) (q.shows (kinds_of c.args.types.now) c.requires.housed) q.placed

pub own-requires-clause-lives : goal.own-requires-clause-lives
own-requires-clause-lives g c =
    let q = c.in-Ok.ensures in
    still_owned c.args.types.now c.args.ty c.requires.unique (g.S.Store.content c.args.store.now) (g.S.Store.rows c.args.store.now) c.in-Ok.object q.number
    (g.S.Store.content c.born_sized.new.store) (g.S.Store.rows c.born_sized.new.store) (q.shows (kinds_of c.args.types.now) c.requires.housed) q.placed
    c.requires.housed q.later c.args.owned c.requires.lives

pub returns-in-Ok-clause-bears : goal.returns-in-Ok-clause-bears
returns-in-Ok-clause-bears g c = λ s given.
    let types = c.args.types.now in
    let content = g.S.Store.content c.args.store.now in
    let rows = g.S.Store.rows c.args.store.now in
    let d = g.S.Store.content c.born_sized.new.store in
    let new = g.S.Store.rows c.born_sized.new.store in
    let r = c.in-Ok.object in
    let q = c.in-Ok.ensures in
    let shows = q.shows (kinds_of types) c.requires.housed in
    let e = g.S.Store.content c.own.new.store in
    let after = g.S.Store.rows c.own.new.store in
    let room = q.room in
    let births = (counted types c.args.ty 1 content rows r q.number d new shows).0 in
    let number = q.number in
    let lies = stored types c.args.ty c.requires.unique content rows r q.number d new shows q.placed in
    let written = c.own.ensures.shows (kinds_of types) lies.object (is_owner types c.args.ty c.requires.unique content rows r q.number d new shows q.placed) in
    bears_slot types c.args.ty c.requires.unique content rows r q.number d new shows q.placed s (omega (arith, room, given)) c.args.owned e after
    (born_ref d e new after r (slot_later types c.args.ty c.requires.unique content rows r q.number d new shows q.placed c.args.owned e after written c.own.ensures.rows) (omega (arith, births, number)) q.placed) written

pub returns-in-Ok-clause-rowed : goal.returns-in-Ok-clause-rowed
returns-in-Ok-clause-rowed g c = λ rowed.
    let types = c.args.types.now in
    let content = g.S.Store.content c.args.store.now in
    let rows = g.S.Store.rows c.args.store.now in
    let d = g.S.Store.content c.born_sized.new.store in
    let new = g.S.Store.rows c.born_sized.new.store in
    let r = c.in-Ok.object in
    let q = c.in-Ok.ensures in
    let shows = q.shows (kinds_of types) c.requires.housed in
    let lies = stored types c.args.ty c.requires.unique content rows r q.number d new shows q.placed in
    c.own.ensures.rowed (kinds_of types) lies.object (is_owner types c.args.ty c.requires.unique content rows r q.number d new shows q.placed) (are_whole types lies.object) (q.rowed (kinds_of types) rowed)

pub returns-in-Ok-clause-later : goal.returns-in-Ok-clause-later
returns-in-Ok-clause-later g c =
    let types = c.args.types.now in
    let content = g.S.Store.content c.args.store.now in
    let rows = g.S.Store.rows c.args.store.now in
    let d = g.S.Store.content c.born_sized.new.store in
    let new = g.S.Store.rows c.born_sized.new.store in
    let r = c.in-Ok.object in
    let q = c.in-Ok.ensures in
    let shows = q.shows (kinds_of types) c.requires.housed in
    let e = g.S.Store.content c.own.new.store in
    let after = g.S.Store.rows c.own.new.store in
    let lies = stored types c.args.ty c.requires.unique content rows r q.number d new shows q.placed in
    let written = c.own.ensures.shows (kinds_of types) lies.object (is_owner types c.args.ty c.requires.unique content rows r q.number d new shows q.placed) in
    later_then content d e rows new after q.later (slot_later types c.args.ty c.requires.unique content rows r q.number d new shows q.placed c.args.owned e after written c.own.ensures.rows)

pub returns-in-Ok-clause-births : goal.returns-in-Ok-clause-births
returns-in-Ok-clause-births g c =
    let types = c.args.types.now in
    let q = c.in-Ok.ensures in
    let content = g.S.Store.content c.args.store.now in
    let rows = g.S.Store.rows c.args.store.now in
    let d = g.S.Store.content c.born_sized.new.store in
    let new = g.S.Store.rows c.born_sized.new.store in
    let shows = q.shows (kinds_of types) c.requires.housed in
    let lies = stored types c.args.ty c.requires.unique content rows c.in-Ok.object q.number d new shows q.placed in
    (counts types c.args.ty c.requires.unique content rows c.in-Ok.object q.number d new shows q.placed c.args.owned (g.S.Store.content c.own.new.store) (g.S.Store.rows c.own.new.store)
    (c.own.ensures.shows (kinds_of types) lies.object (is_owner types c.args.ty c.requires.unique content rows c.in-Ok.object q.number d new shows q.placed))).0

pub returns-in-Ok-clause-clock : goal.returns-in-Ok-clause-clock
returns-in-Ok-clause-clock g c =
    let types = c.args.types.now in
    let q = c.in-Ok.ensures in
    let content = g.S.Store.content c.args.store.now in
    let rows = g.S.Store.rows c.args.store.now in
    let d = g.S.Store.content c.born_sized.new.store in
    let new = g.S.Store.rows c.born_sized.new.store in
    let shows = q.shows (kinds_of types) c.requires.housed in
    let lies = stored types c.args.ty c.requires.unique content rows c.in-Ok.object q.number d new shows q.placed in
    (counts types c.args.ty c.requires.unique content rows c.in-Ok.object q.number d new shows q.placed c.args.owned (g.S.Store.content c.own.new.store) (g.S.Store.rows c.own.new.store)
    (c.own.ensures.shows (kinds_of types) lies.object (is_owner types c.args.ty c.requires.unique content rows c.in-Ok.object q.number d new shows q.placed))).1

pub returns-in-Ok-clause-live : goal.returns-in-Ok-clause-live
returns-in-Ok-clause-live g c =
    let types = c.args.types.now in
    let q = c.in-Ok.ensures in
    let content = g.S.Store.content c.args.store.now in
    let rows = g.S.Store.rows c.args.store.now in
    let d = g.S.Store.content c.born_sized.new.store in
    let new = g.S.Store.rows c.born_sized.new.store in
    let shows = q.shows (kinds_of types) c.requires.housed in
    let lies = stored types c.args.ty c.requires.unique content rows c.in-Ok.object q.number d new shows q.placed in
    live_more types c.args.ty c.requires.unique content rows c.in-Ok.object q.number d new shows q.placed c.requires.housed c.args.owned (g.S.Store.content c.own.new.store) (g.S.Store.rows c.own.new.store)
    (c.own.ensures.shows (kinds_of types) lies.object (is_owner types c.args.ty c.requires.unique content rows c.in-Ok.object q.number d new shows q.placed))

pub returns-in-Ok-clause-room : goal.returns-in-Ok-clause-room
returns-in-Ok-clause-room g c = let room = c.in-Ok.ensures.room in omega (arith, room)

pub returns-in-Ok-clause-stay : goal.returns-in-Ok-clause-stay
returns-in-Ok-clause-stay g c = λ n k there.
    let types = c.args.types.now in
    let q = c.in-Ok.ensures in
    let content = g.S.Store.content c.args.store.now in
    let rows = g.S.Store.rows c.args.store.now in
    let d = g.S.Store.content c.born_sized.new.store in
    let new = g.S.Store.rows c.born_sized.new.store in
    ap (λ (x : Rows). at x n) c.own.ensures.rows
    ∙ rows_still types c.args.ty c.requires.unique content rows c.in-Ok.object q.number d new (q.shows (kinds_of types) c.requires.housed) q.placed c.requires.housed q.later n k there
