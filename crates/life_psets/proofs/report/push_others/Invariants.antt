use Rattle.std.proofs.Common.{◌≡◌, ◌++◌, drop, map}
use Rattle.std.specs.List.{flat_map}
use Rattle.life_psets.specs.SetTexts.{behind_text, shown_seen}
use Rattle.life_psets.proofs.report.push_others.Given as goal

-- the texts that are left make the text whole
abbrev pub invariant-loop-text : goal.invariant-loop-text
invariant-loop-text l = l.out.items ++ flat_map behind_text (map shown_seen (drop l.text-index l.texts)) ≡ l.fn.out.items ++ flat_map behind_text (map shown_seen l.texts)
