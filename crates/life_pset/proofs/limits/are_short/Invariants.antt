use Rattle.std.proofs.Common.{◌↔◌, drop}
use Rattle.life_pset.specs.Elements.{AreShort}
use Rattle.life_pset.proofs.limits.are_short.Given as goal

abbrev pub invariant-loop-element : goal.invariant-loop-element
invariant-loop-element l = AreShort (drop l.element-index l.elements) ↔ AreShort l.elements
