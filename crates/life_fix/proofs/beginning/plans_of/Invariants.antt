use Rattle.std.proofs.Common.{◌≡◌, length}
use Rattle.life_core.specs.Function.{function_of}
use Rattle.life_fix.specs.Solving.{AreMade}
use Rattle.life_fix.proofs.beginning.plans_of.Given as goal

-- those so far were made for their edges
abbrev pub invariant-loop-edge : goal.invariant-loop-edge
invariant-loop-edge l = record {
  count : length l.plans.items ≡ l.edge-index;
  made : AreMade l.flow.sigs.now l.flow.types.now (function_of l.flow.f.now) l.flow.edges.now l.plans.items;
}
