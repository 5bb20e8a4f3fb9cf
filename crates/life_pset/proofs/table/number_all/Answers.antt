use Rattle.std.proofs.Common.{Ok}
use Rattle.std.proofs.lemmas.Iterator.{YieldsList-from_slice}
use Rattle.std.proofs.lemmas.Iterator.Adapters.{fact_from_extend}
use Rattle.life_pset.proofs.table.number_all.Goals as goal

pub returns : goal.returns
returns g c =
    fact_from_extend {E = Unit {0}} (λ y. y.now) (Ok tt) c.in_ok-extend.ensures.ran (λ it b. YieldsList-from_slice _ b.0) (λ xs all h.
    let inserted = h.0 in
    let none = c.new-set.ensures.empty in
    cc)
