use Rattle.std.proofs.Common.{◌≡◌, ◌++◌, drop}
use Rattle.std.specs.List.{flat_map}
use Rattle.life_report.specs.Reports.{listed_text}
use Rattle.life_report.proofs.text.push_lines.Given as goal

-- the lines that are left make the text whole
abbrev pub invariant-loop-listed : goal.invariant-loop-listed
invariant-loop-listed l = l.out.items ++ flat_map listed_text (drop l.listed-index l.found) ≡ l.fn.out.items ++ flat_map listed_text l.found
