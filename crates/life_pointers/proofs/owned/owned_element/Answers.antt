use Rattle.std.proofs.Common.{ℕ, ap, ◌∙◌}
use Rattle.life_store.specs.Effects.{Attempt, then_get}
use Rattle.life_seen.specs.Seen.{seen}
use Rattle.life_pointers.specs.Owned.{element_in}
use Rattle.life_pointers.proofs.owned.owned_element.Goals as goal

pub returns-clause-is : goal.returns-clause-is
returns-clause-is g c = λ kinds o is.
    let m = seen kinds (g.S.Store.content c.args.store.now) (g.S.Store.rows c.args.store.now) in
    c.element_in.ensures.is kinds is.housed (c.in_ok-buffer.ensures.fits kinds o is)
    ∙ ap (λ (a : Attempt ℕ). then_get a (λ b. element_in m c.args.choice b)) (c.in_ok-buffer.ensures.is kinds o is)

pub returns-clause-fits : goal.returns-clause-fits
returns-clause-fits g c = λ kinds o is can. c.element_in.ensures.fits (c.in_ok-buffer.ensures.fits kinds o is) can
