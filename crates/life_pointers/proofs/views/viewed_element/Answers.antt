use Rattle.std.proofs.Common.{◌<◌, ℕ, subst}
use Rattle.life_pointers.proofs.Short.{clock_fits, same_fits, short_element}
use Rattle.life_pointers.proofs.views.viewed_element.Goals as goal

pub returns-clause-fits : goal.returns-clause-fits
returns-clause-fits g c = λ can.
    let content = g.S.Store.content c.args.store.now in
    let rows = g.S.Store.rows c.args.store.now in
    let fits = same_fits content rows c.args.view c.in_ok-view.view c.in_ok-view.ensures.same c.requires in
    c.element_of.ensures.fits content rows fits (clock_fits content c.now.result c.now.ensures can)
    (short_element content rows c.in_ok-view.view c.in_ok-index.index fits (subst (λ (n : ℕ). c.in_ok-index.index < n) c.seen_count.ensures c.in_ok-index.ensures.within))
