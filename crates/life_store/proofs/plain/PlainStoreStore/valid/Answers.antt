use Rattle.std.proofs.Common.{List, ap, refl, sym, ◌∙◌}
use Rattle.life_store.specs.PlainRows.{Row, entry_at}
use Rattle.life_store.proofs.StoreLemmas.{found, missing}
use Rattle.life_store.proofs.plain.PlainStoreStore.valid.Goals as goal

pub returns-in-None : goal.returns-in-None
returns-in-None c =
    let gone = ap (λ (rows : List Row). entry_at rows c.args.object) (sym c.deref.ensures.value) ∙ sym c.in-None.ensures in
    rw (missing c.self.inside c.args.self.now c.args.object c.self.invariant c.self.view_is gone) refl

pub returns-in-Some : goal.returns-in-Some
returns-in-Some c =
    let there = ap (λ (rows : List Row). entry_at rows c.args.object) (sym c.deref.ensures.value) ∙ sym c.in-Some.ensures in
    rw (found c.self.inside c.args.self.now c.args.object c.in-Some.entry.now c.self.invariant c.self.view_is there) c.are_settled.ensures
