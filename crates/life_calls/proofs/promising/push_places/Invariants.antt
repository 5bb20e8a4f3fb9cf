use Rattle.life_pset.specs.declared.element.Element.TheVariants as element
use Rattle.std.proofs.Common.{◌≡◌, ◌++◌, drop, map}
use Rattle.life_calls.proofs.promising.push_places.Given as goal

-- what was added, and what is left to add
abbrev pub invariant-loop-place : goal.invariant-loop-place
invariant-loop-place l =
    l.out.items ++ map element.At (drop l.place-index l.places) ≡ l.fn.out.items ++ map element.At l.places
