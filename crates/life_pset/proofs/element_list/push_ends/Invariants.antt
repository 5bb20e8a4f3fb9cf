use Rattle.std.proofs.Common.{◌≡◌, ◌++◌, drop}
use Rattle.std.specs.List.{flat_map}
use Rattle.life_core.specs.Function.{function_of}
use Rattle.life_pset.specs.Elements.{end_elements}
use Rattle.life_pset.proofs.element_list.push_ends.Given as goal

abbrev pub invariant-loop-local : goal.invariant-loop-local
invariant-loop-local l =
    let ends = end_elements (function_of l.f) l.place in
    l.all.items ++ flat_map ends (drop l.local-index l.ended) ≡ l.fn.all.items ++ flat_map ends l.ended
