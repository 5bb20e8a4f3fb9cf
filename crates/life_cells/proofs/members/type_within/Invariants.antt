use Rattle.std.proofs.Common.{◌≡◌, drop}
use Rattle.life_store.specs.Parts.{type_within}
use Rattle.life_cells.specs.Scopes.{types_in}
use Rattle.life_cells.proofs.members.type_within.Given as goal

-- what is left leads to the member
abbrev pub invariant-loop-member : goal.invariant-loop-member
invariant-loop-member l = type_within (types_in l.scope) l.within (drop l.member-index l.members) ≡ type_within (types_in l.scope) l.fn.ty l.members
