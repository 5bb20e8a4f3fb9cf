use Rattle.std.proofs.Common.{◌≡◌, ◌++◌, drop, map}
use Rattle.life_core.specs.Function.{function_of}
use Rattle.life_core.specs.Ready.{given_ready}
use Rattle.life_proper.specs.Knowing.{entry_known, known_as}
use Rattle.life_proper.proofs.entry.entry_known.Given as goal

-- what is made and what is left
abbrev pub invariant-loop-local : goal.invariant-loop-local
invariant-loop-local l = l.known.items ++ map known_as (given_ready l.left (drop l._local-index l.f.locals.items)) ≡ entry_known (function_of l.f)
