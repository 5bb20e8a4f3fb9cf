use Rattle.std.proofs.Common.{ap, ◌∙◌, arith}
use Rattle.life_lex.specs.Cursors.{Cursor}
use Rattle.life_lex.proofs.Steps.{gap_passed, token_taken, end_reached, fault_reached}
use Rattle.life_lex.proofs.lexer.Lexer.next.Goals as goal

pub returns-in-End-clause-reading : goal.returns-in-End-clause-reading
returns-in-End-clause-reading c = end_reached c.args.self.now c.loop-len.self c.loop-len.invariant.alike c.in-End.ensures.value

pub loop-len-preserved : goal.loop-len-preserved
loop-len-preserved c = record {
  alike = gap_passed c.args.self.now c.loop-len.self c.advance.new.self c.in-Gap.len c.loop-len.invariant.alike c.in-Gap.ensures.value c.advance.ensures;
  source = ap (λ (x : Cursor). x.source) c.advance.ensures ∙ c.loop-len.invariant.source;
  behind = let e = ap (λ (x : Cursor). x.offset) c.advance.ensures in omega arith;
}

pub returns-in-Token-clause-reading : goal.returns-in-Token-clause-reading
returns-in-Token-clause-reading c =
    token_taken c.args.self.now c.loop-len.self c.take_token.new.self c.in-Token.len _ c.loop-len.invariant.alike c.in-Token.ensures.value c.take_token.ensures.token c.take_token.ensures.point

pub returns-in-Fault-clause-reading : goal.returns-in-Fault-clause-reading
returns-in-Fault-clause-reading c =
    fault_reached c.args.self.now c.loop-len.self c.in-Fault.kind c.fault.result c.loop-len.invariant.alike c.in-Fault.ensures.value c.fault.ensures
