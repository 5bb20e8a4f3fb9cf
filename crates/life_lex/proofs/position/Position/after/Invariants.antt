use Rattle.std.proofs.Common.{◌≡◌, ◌+◌, ◌≤◌, take, fold}
use Rattle.life_lex.specs.Places.{line_after, column_after, blank_after}
use Rattle.life_lex.proofs.position.Position.after.Given as goal

abbrev pub invariant-loop-b : goal.invariant-loop-b
invariant-loop-b l = record {
  line : l.line ≡ fold line_after l.fn.self.line (take l.b-index l.bytes);
  line_bound : l.line ≤ l.fn.self.offset + l.b-index + 1;
  column : l.column ≡ fold column_after l.fn.self.column (take l.b-index l.bytes);
  column_bound : l.column ≤ l.fn.self.offset + l.b-index + 1;
  line_blank : l.line_blank ≡ fold blank_after l.fn.self.line_blank (take l.b-index l.bytes);
}
