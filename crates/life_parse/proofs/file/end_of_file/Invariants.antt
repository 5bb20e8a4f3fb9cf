use Rattle.std.proofs.Common.{◌≡◌, ◌+◌, ◌≤◌, fold, take}
use Rattle.life_lex.specs.Places.{line_after, column_after}
use Rattle.life_parse.proofs.file.end_of_file.Given as goal

abbrev pub invariant-loop-b : goal.invariant-loop-b
invariant-loop-b l =
    (l.line ≡ fold line_after 1 (take l.b-index l.source)) × (l.column ≡ fold column_after 1 (take l.b-index l.source))
    × (l.line ≤ l.b-index + 1) × (l.column ≤ l.b-index + 1)
