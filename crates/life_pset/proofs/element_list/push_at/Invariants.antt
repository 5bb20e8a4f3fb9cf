use Rattle.std.proofs.Common.{◌≡◌, ◌++◌, drop, map}
use Rattle.life_pset.specs.declared.element.Element.TheVariants.{At}
use Rattle.life_pset.proofs.element_list.push_at.Given as goal

abbrev pub invariant-loop-place : goal.invariant-loop-place
invariant-loop-place l = l.all.items ++ map At (drop l.place-index l.places) ≡ l.fn.all.items ++ map At l.places
