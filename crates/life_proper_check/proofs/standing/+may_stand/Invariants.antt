use Rattle.std.proofs.Common.{◌≡◌, drop}
use Rattle.life_types.specs.Trees.{AllBelow, struct_of, tree_at}
use Rattle.life_proper.specs.WellFormedPrograms.{may_stand}
use Rattle.life_proper_check.proofs.standing.+may_stand.Given as goal

-- the parts of a type have smaller numbers
abbrev pub decreases-may_stand : goal.decreases-may_stand
decreases-may_stand l = l.id.0

-- what is left decides
abbrev pub invariant-loop-member : goal.invariant-loop-member
invariant-loop-member l = record {
  left : may_stand (struct_of (tree_at l.types) (drop l.member-index l.member-items)) ≡ may_stand (struct_of (tree_at l.types) l.member-items);
  below : AllBelow l.fn.id.0 (drop l.member-index l.member-items);
}
