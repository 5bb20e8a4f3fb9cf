use Rattle.std.proofs.Common.{◌-◌, length, map}
use Rattle.life_lex.specs.Answers.{lexeme, ReadsFirst}
use Rattle.life_lex.specs.Cursors.{start}
use Rattle.life_lex.proofs.token_list.tokens_of_file.Given as goal

abbrev pub invariant-loop-token : goal.invariant-loop-token
invariant-loop-token l = ReadsFirst (start l.source) (map lexeme l.tokens.items) l.lexer

abbrev pub decreases-loop-token : goal.decreases-loop-token
decreases-loop-token l = length l.lexer.source - l.lexer.offset
