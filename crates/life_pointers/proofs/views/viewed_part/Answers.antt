use Rattle.std.proofs.Common.{◌+◌, ◌≤◌, ℕ, subst}
use Rattle.life_pointers.proofs.Short.{clock_fits, same_fits, short_count, short_part}
use Rattle.life_pointers.proofs.views.viewed_part.Goals as goal

pub returns-clause-fits : goal.returns-clause-fits
returns-clause-fits g c = λ can.
    let content = g.S.Store.content c.args.store.now in
    let rows = g.S.Store.rows c.args.store.now in
    let fits = same_fits content rows c.args.view c.in_ok-view.view c.in_ok-view.ensures.same c.requires in
    let within = subst (λ (n : ℕ). c.args.index + c.in_ok-count.count ≤ n) c.seen_count.ensures c.in_ok-count.ensures.within in
    c.part_of.ensures.fits content rows fits (clock_fits content c.now.result c.now.ensures can)
    (short_count content rows c.in_ok-view.view c.args.index c.in_ok-count.count fits within)
    (short_part content rows c.in_ok-view.view c.args.index c.in_ok-count.count fits within)
