use Rattle.std.proofs.Common.{◌+◌, ◌≤◌, arith, subst, sym}
use Rattle.life_store.specs.Views.{seen_count}
use Rattle.life_pointers.specs.Pointers.{pointer_seen, starts_at, IsShort}
use Rattle.life_pointers.specs.declared.pointer.Pointer.{Pointer}
use Rattle.life_pointers.proofs.Short.{clock_fits, same_fits, shorter}
use Rattle.life_pointers.proofs.views.viewed_end.Goals as goal

pub returns-clause-fits : goal.returns-clause-fits
returns-clause-fits g c = λ can short.
    let content = g.S.Store.content c.args.store.now in
    let rows = g.S.Store.rows c.args.store.now in
    let fits = same_fits content rows c.args.view c.in_ok-view.view c.in_ok-view.ensures.same c.requires in
    let whole = subst (λ (p : Pointer). IsShort (starts_at p + seen_count (pointer_seen p) + 1) p) (sym c.in_ok-view.ensures.same) short in
    let within : c.end_index.result ≤ seen_count (pointer_seen c.in_ok-view.view) = let s = c.seen_count.ensures in let w = c.end_index.ensures.within in omega (arith, s, w) in
    c.element_of.ensures.fits content rows fits (clock_fits content c.now.result c.now.ensures can)
    (shorter _ _ c.in_ok-view.view (let w = within in omega (arith, w)) whole)
