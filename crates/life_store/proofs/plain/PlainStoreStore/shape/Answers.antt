use Rattle.std.proofs.Common.{Ok, List, ap, refl, sym, ◌∙◌}
use Rattle.life_store.specs.PlainRows.{Row, entry_at}
use Rattle.life_store.proofs.StoreLemmas.{found, missing}
use Rattle.life_store.proofs.plain.PlainStoreStore.shape.Goals as goal

pub returns-in-None-clause-shape : goal.returns-in-None-clause-shape
returns-in-None-clause-shape c =
    let gone = ap (λ (rows : List Row). entry_at rows c.args.object) (sym c.deref.ensures.value) ∙ sym c.in-None.ensures in
    rw (missing c.self.inside c.args.self.now c.args.object c.self.invariant c.self.view_is gone) refl

pub returns-in-None-clause-wide : goal.returns-in-None-clause-wide
returns-in-None-clause-wide c =
    let gone = ap (λ (rows : List Row). entry_at rows c.args.object) (sym c.deref.ensures.value) ∙ sym c.in-None.ensures in
    rw (missing c.self.inside c.args.self.now c.args.object c.self.invariant c.self.view_is gone) tt

pub returns-in-Some-clause-shape : goal.returns-in-Some-clause-shape
returns-in-Some-clause-shape c =
    let there = ap (λ (rows : List Row). entry_at rows c.args.object) (sym c.deref.ensures.value) ∙ sym c.in-Some.ensures in
    rw (found c.self.inside c.args.self.now c.args.object c.in-Some.entry.now c.self.invariant c.self.view_is there) (ap Ok c.shape.ensures.shape)

pub returns-in-Some-clause-wide : goal.returns-in-Some-clause-wide
returns-in-Some-clause-wide c =
    let there = ap (λ (rows : List Row). entry_at rows c.args.object) (sym c.deref.ensures.value) ∙ sym c.in-Some.ensures in
    rw (found c.self.inside c.args.self.now c.args.object c.in-Some.entry.now c.self.invariant c.self.view_is there) c.shape.ensures.wide
