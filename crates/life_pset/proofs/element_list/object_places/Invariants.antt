use Rattle.std.proofs.Common.{◌≡◌, ◌++◌, drop}
use Rattle.life_pset.specs.Elements.{objects_from}
use Rattle.life_pset.proofs.element_list.object_places.Given as goal

abbrev pub invariant-loop-number : goal.invariant-loop-number
invariant-loop-number l =
    let from = objects_from l.types l.f.parameters in
    l.all.items ++ from l.number (drop l.number l.local-items) ≡ from 0 l.local-items
