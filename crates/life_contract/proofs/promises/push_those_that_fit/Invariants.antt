use Rattle.life_contract.specs.Promises.{fits, place_if}
use Rattle.life_pset.specs.Inputs.{input_seen}
use Rattle.std.proofs.Common.{◌≡◌, ◌++◌, drop}
use Rattle.std.specs.List.{flat_map}
use Rattle.life_contract.proofs.promises.push_those_that_fit.Given as goal

-- what was added, and what is left to add
abbrev pub invariant-loop-place : goal.invariant-loop-place
invariant-loop-place l =
    let those = flat_map (λ place. place_if (fits l.types l.ty (input_seen l.input) place) place) in
    l.out.items ++ those (drop l.place-index l.places) ≡ l.fn.out.items ++ those l.places
