use Rattle.std.proofs.Common.{◌≡◌, ◌+◌, length}
use Rattle.life_lex.specs.Comments.{close_len}
use Rattle.life_lex.specs.Lengths.{plus}
use Rattle.life_lex.proofs.comment.close_len.Given as goal

abbrev pub invariant-loop-rest : goal.invariant-loop-rest
invariant-loop-rest l = record {
  found : close_len l.bytes ≡ plus l.len (close_len l.rest);
  passed : l.len + length l.rest ≡ length l.bytes;
}

abbrev pub decreases-loop-rest : goal.decreases-loop-rest
decreases-loop-rest l = length l.rest
