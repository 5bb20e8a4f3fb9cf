use Rattle.std.proofs.Common.{◌≡◌, ◌++◌, map, take}
use Rattle.life_core.specs.Function.{function_of}
use Rattle.life_rules.specs.Lines.{line_of}
use Rattle.life_rules.specs.Texts.{naming_of}
use Rattle.life_fix.specs.Candidates.{candidate_seen, lined}
use Rattle.life_fix.proofs.listing.push_candidates.Given as goal

-- those so far stand with their lines behind what was there
abbrev pub invariant-loop-diag : goal.invariant-loop-diag
invariant-loop-diag l = map candidate_seen l.out.items ≡ map candidate_seen l.fn.out.items ++ map (lined (line_of (naming_of l.names l.sigs) l.types (function_of l.f))) (take l.diag-index l.found)
