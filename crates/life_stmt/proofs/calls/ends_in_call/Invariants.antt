use Rattle.std.proofs.Common.{◌≡◌, fold, take}
use Rattle.life_stmt.specs.Simples as spec
use Rattle.life_stmt.proofs.calls.ends_in_call.Given as goal

abbrev pub invariant-loop-part : goal.invariant-loop-part
invariant-loop-part l = l.found ≡ fold spec.call_after l.fn.first (take l.part-index l.parts)
