use Rattle.std.proofs.Common.{◌≡◌, ◌+◌, drop}
use Rattle.std.specs.List.{prefix_len}
use Rattle.life_psets.specs.SetTexts.{is_own}
use Rattle.life_psets.proofs.report.leading.Given as goal

-- those so far are the function's
abbrev pub invariant-loop-index : goal.invariant-loop-index
invariant-loop-index l =
    l.index + prefix_len (is_own l.function) (drop l.index l.sets) ≡ prefix_len (is_own l.function) l.sets
