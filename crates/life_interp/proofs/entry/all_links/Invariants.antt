use Rattle.std.proofs.Common.{◌≡◌, map, take}
use Rattle.life_core.specs.Function.{function_of}
use Rattle.life_core.specs.Linked.{code_of}
use Rattle.life_interp.specs.Runs.{links_seen}
use Rattle.life_interp.proofs.entry.all_links.Given as goal

-- the points of the functions that were passed
abbrev pub invariant-loop-f : goal.invariant-loop-f
invariant-loop-f l = map links_seen l.code.items ≡ map code_of (map function_of (take l.f-index l.f-items))
