use Rattle.std.proofs.Common.{◌≡◌, ℕ, drop, nat_lt}
use Rattle.std.specs.List.{list_all}
use Rattle.life_proper_check.proofs.headers.are_parameters.Given as goal

-- what is left decides
abbrev pub invariant-loop-input : goal.invariant-loop-input
invariant-loop-input l = list_all (λ (x : ℕ). nat_lt x l.parameters) (drop l.input-index l.inputs) ≡ list_all (λ (x : ℕ). nat_lt x l.parameters) l.inputs
