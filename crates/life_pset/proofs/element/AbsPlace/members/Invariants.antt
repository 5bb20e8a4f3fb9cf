use Rattle.std.proofs.Common.{◌≡◌, drop}
use Rattle.life_pset.specs.Places.{members_place}
use Rattle.life_pset.proofs.element.AbsPlace.members.Given as goal

abbrev pub invariant-loop-member : goal.invariant-loop-member
invariant-loop-member l = members_place l.place (drop l.member-index l.members) ≡ members_place l.fn.self l.members
