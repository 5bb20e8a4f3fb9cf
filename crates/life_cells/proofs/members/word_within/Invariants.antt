use Rattle.std.proofs.Common.{◌≡◌, ◌+◌, drop}
use Rattle.life_store.specs.Parts.{word_within}
use Rattle.life_cells.specs.Scopes.{types_in}
use Rattle.life_cells.proofs.members.word_within.Given as goal

-- the words so far and those that are left
abbrev pub invariant-loop-member : goal.invariant-loop-member
invariant-loop-member l = l.word + word_within (types_in l.scope) l.within (drop l.member-index l.members) ≡ word_within (types_in l.scope) l.fn.ty l.members
