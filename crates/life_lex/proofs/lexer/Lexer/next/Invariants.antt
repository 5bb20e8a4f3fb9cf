use Rattle.std.proofs.Common.{◌≡◌, ◌≤◌, ◌-◌, length}
use Rattle.life_lex.specs.Answers.{ReadsAlike}
use Rattle.life_lex.proofs.lexer.Lexer.next.Given as goal

abbrev pub invariant-loop-len : goal.invariant-loop-len
invariant-loop-len l = record {
  alike : ReadsAlike l.initial.self l.self;
  source : l.self.source ≡ l.initial.self.source;
  behind : l.initial.self.offset ≤ l.self.offset;
}

abbrev pub decreases-loop-len : goal.decreases-loop-len
decreases-loop-len l = length l.self.source - l.self.offset
