use Rattle.std.proofs.Common.{◌≡◌, drop, length, map, true}
use Rattle.life_core.specs.Function.{member_names}
use Rattle.life_proper.specs.WellFormedPrograms.{have_names}
use Rattle.life_proper_check.proofs.headers.have_names.Given as goal

-- what is left decides
abbrev pub invariant-loop-number : goal.invariant-loop-number
invariant-loop-number l =
    have_names (length l.p.names.texts.items) (drop l.number l.p.types.structs) (map member_names (drop l.number l.p.names.members.items)) ≡ true
    → have_names (length l.p.names.texts.items) l.p.types.structs (map member_names l.p.names.members.items) ≡ true
