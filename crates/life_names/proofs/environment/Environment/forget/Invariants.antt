use Rattle.std.proofs.Common.{◌≡◌, drop}
use Rattle.life_names.specs.Environment.{forgotten}
use Rattle.life_names.proofs.environment.Environment.forget.Given as goal

abbrev pub invariant-names : goal.invariant-names
invariant-names l = forgotten (drop l.name-index l.names) l.self ≡ forgotten l.names l.initial.self
