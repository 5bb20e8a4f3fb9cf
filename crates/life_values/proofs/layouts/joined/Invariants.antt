use Rattle.life_values.proofs.Joining.{Joining}
use Rattle.life_values.proofs.layouts.joined.Given as goal

abbrev pub invariant-loop-member : goal.invariant-loop-member
invariant-loop-member l = Joining l.before l.members l.layout l.member-index
