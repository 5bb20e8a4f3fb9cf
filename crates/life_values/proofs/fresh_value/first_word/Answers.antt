use Rattle.std.proofs.Common.{◌∙◌, subst}
use Rattle.life_store.specs.Effects.{then_get}
use Rattle.life_store.specs.Kinds.{Owner}
use Rattle.life_store.specs.Owners.{birth}
use Rattle.life_seen.specs.Seen.{seen}
use Rattle.life_values.specs.Fresh.{IsFirst}
use Rattle.life_values.specs.declared.layout.Holds.TheVariants as holds
use Rattle.life_values.proofs.Beginning.{buffer_first, by_word, raw_first, target_first, view_first, width_of_type}
use Rattle.life_values.proofs.fresh_value.first_word.Goals as goal

pub returns-in-Raw-clause-first : goal.returns-in-Raw-clause-first
returns-in-Raw-clause-first g c kinds s f housed cells raw =
    raw_first kinds s c.args.types.now f c.args.holds (g.S.Store.content c.args.store.now) (g.S.Store.rows c.args.store.now) housed c.in-Raw.is c.args.raw raw

pub returns-in-View-clause-first : goal.returns-in-View-clause-first
returns-in-View-clause-first g c kinds s f housed cells raw =
    view_first kinds s c.args.types.now f c.args.holds (g.S.Store.content c.args.store.now) (g.S.Store.rows c.args.store.now) housed c.in-View.is

pub returns-in-Target-clause-first : goal.returns-in-Target-clause-first
returns-in-Target-clause-first g c kinds s f housed cells raw =
    target_first kinds s c.args.types.now f c.args.holds (g.S.Store.content c.args.store.now) (g.S.Store.rows c.args.store.now) housed c.in-Target.field-0 c.in-Target.is

pub returns-in-Characters-clause-first : goal.returns-in-Characters-clause-first
returns-in-Characters-clause-first g c kinds s f housed cells raw =
    let m = seen kinds (g.S.Store.content c.args.store.now) (g.S.Store.rows c.args.store.now) in
    buffer_first kinds s c.args.types.now f c.args.holds (holds.Characters c.in-Characters.ty) m c.in-Characters.is c.buffer_word.result (g.S.Store.content c.buffer_word.new.store) (g.S.Store.rows c.buffer_word.new.store)
    (c.buffer_word.ensures.first kinds s housed cells)

pub returns-in-Elements-clause-first : goal.returns-in-Elements-clause-first
returns-in-Elements-clause-first g c kinds s f housed cells raw =
    let m = seen kinds (g.S.Store.content c.args.store.now) (g.S.Store.rows c.args.store.now) in
    let b = c.buffer_word-in-Elements in
    buffer_first kinds s c.args.types.now f c.args.holds (holds.Elements c.in-Elements.ty) m c.in-Elements.is b.result (g.S.Store.content b.new.store) (g.S.Store.rows b.new.store)
    (subst (λ w. IsFirst kinds (then_get (birth s c.in-Elements.ty w 0 m) by_word) Owner b.result (g.S.Store.content b.new.store) (g.S.Store.rows b.new.store))
    (c.width_of.ensures ∙ width_of_type c.args.types.now c.args.layouts.now c.requires.layouts c.in-Elements.ty) (b.ensures.first kinds s housed cells))

pub returns-in-Raw-clause-rowed : goal.returns-in-Raw-clause-rowed
returns-in-Raw-clause-rowed g c kinds rowed = rowed

pub returns-in-View-clause-rowed : goal.returns-in-View-clause-rowed
returns-in-View-clause-rowed g c kinds rowed = rowed

pub returns-in-Target-clause-rowed : goal.returns-in-Target-clause-rowed
returns-in-Target-clause-rowed g c kinds rowed = rowed

pub returns-in-Characters-clause-rowed : goal.returns-in-Characters-clause-rowed
returns-in-Characters-clause-rowed g c kinds rowed = c.buffer_word.ensures.rowed kinds rowed

pub returns-in-Elements-clause-rowed : goal.returns-in-Elements-clause-rowed
returns-in-Elements-clause-rowed g c kinds rowed = c.buffer_word-in-Elements.ensures.rowed kinds rowed
