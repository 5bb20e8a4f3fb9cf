use Rattle.life_calls.specs.Breaks.{with_breaks}
use Rattle.std.proofs.Common.{◌≡◌, take}
use Rattle.life_calls.proofs.found.add_all.Given as goal

-- those so far were added
abbrev pub invariant-loop-one : goal.invariant-loop-one
invariant-loop-one l =
    l.found ≡ with_breaks l.fn.found (take l.one-index l.breaks)
