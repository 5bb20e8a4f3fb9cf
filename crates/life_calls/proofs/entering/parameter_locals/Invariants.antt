use Rattle.life_contract.specs.Inputs.{parameter_local}
use Rattle.std.proofs.Common.{◌≡◌, ◌++◌, drop, map}
use Rattle.life_calls.proofs.entering.parameter_locals.Given as goal

-- those so far, and those that are left
abbrev pub invariant-loop-parameter : goal.invariant-loop-parameter
invariant-loop-parameter l =
    let locals = map (parameter_local l.place) in
    l.all.items ++ locals (drop l.parameter-index l.parameters) ≡ locals l.parameters
