use Rattle.std.proofs.Common.{◌≡◌, ◌++◌, drop, map}
use Rattle.std.specs.List.{flat_map}
use Rattle.life_core.specs.Function.{function_of}
use Rattle.life_rules.specs.Texts.{naming_of}
use Rattle.life_psets.specs.SetTexts.{set_text}
use Rattle.life_psets.specs.Sets.{set_seen}
use Rattle.life_psets.proofs.report.push_sets.Given as goal

-- the lines that are left make the text whole
abbrev pub invariant-loop-set : goal.invariant-loop-set
invariant-loop-set l =
    let line = set_text (naming_of l.names l.sigs) l.types (function_of l.f) in
    l.out.items ++ flat_map line (map set_seen (drop l.set-index l.sets)) ≡ l.fn.out.items ++ flat_map line (map set_seen l.sets)
