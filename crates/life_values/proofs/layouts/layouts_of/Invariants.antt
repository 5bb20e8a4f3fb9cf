use Rattle.life_values.specs.Layouts.{AreBefore}
use Rattle.life_values.proofs.layouts.layouts_of.Given as goal

abbrev pub invariant-loop-number : goal.invariant-loop-number
invariant-loop-number l = AreBefore l.types l.number l.layouts.items
