use Rattle.life_lex.proofs.Positions.{position_first}
use Rattle.life_lex.proofs.lexer.Lexer.new.Goals as goal

pub invariant_of-result : goal.invariant_of-result
invariant_of-result c =
    let first = c.first.ensures in
    position_first c.args.source.now c.first.result c.byte_order_mark_len.result c.requires c.byte_order_mark_len.ensures.value c.byte_order_mark_len.ensures.bound first.offset first.line first.column first.line_blank
