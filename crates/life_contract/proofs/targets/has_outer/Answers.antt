use Rattle.std.proofs.Common.{arith, ap, length, refl, sym, ◌∙◌}
use Rattle.std.proofs.lemmas.Bool.{both_ways, false≢true}
use Rattle.std.specs.List.{list_any}
use Rattle.life_pset.specs.contracts.element.AbsPlacePartialEq.TheImpl.{ghosts as compared}
use Rattle.life_contract.specs.Targets.{outer}
use Rattle.life_contract.proofs.LookUps.{found}
use Rattle.life_contract.proofs.targets.has_outer.Goals as goal

pub returns-then-contains : goal.returns-then-contains
returns-then-contains c =
    let count = c.loop-count.count in
    let there = (found c.args.outlines.now.keys (outer c.args.place.now count)).0 (rw (← c.outer.ensures) (sym c.contains.ensures ∙ c.if-contains.true)) in
    (λ _. (count, (omega (arith, c.loop-count-test.true, ap length c.path.ensures), there)), λ _. refl)

pub returns : goal.returns
returns c = (
  λ t. absurd (false≢true t),
  λ h.
      let place = outer c.args.place.now h.0 in
      let none = c.loop-count.invariant h.0 (omega (arith, c.loop-count-test.false, h.1.0, ap length c.path.ensures)) in
      absurd (both_ways (list_any (compared.eq place) c.args.outlines.now.keys) none ((found c.args.outlines.now.keys place).1 h.1.1)),
)
