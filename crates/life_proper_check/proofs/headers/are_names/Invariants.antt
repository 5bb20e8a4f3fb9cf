use Rattle.std.proofs.Common.{◌≡◌, drop}
use Rattle.std.specs.List.{list_all}
use Rattle.life_proper.specs.WellFormedPrograms.{is_name}
use Rattle.life_proper_check.proofs.headers.are_names.Given as goal

-- what is left decides
abbrev pub invariant-loop-name : goal.invariant-loop-name
invariant-loop-name l = list_all (is_name l.names) (drop l.name-index l.given) ≡ list_all (is_name l.names) l.given
