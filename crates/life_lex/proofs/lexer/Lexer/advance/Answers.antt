use Rattle.std.proofs.Common.{sym, ap, ◌∙◌}
use Rattle.life_lex.specs.Cursors.{rest_of}
use Rattle.life_lex.proofs.Positions.{position_after}
use Rattle.life_lex.proofs.lexer.Lexer.advance.Goals as goal

pub invariant_of-self : goal.invariant_of-self
invariant_of-self c =
    let after = c.after-self-inside.ensures in
    position_after c.self.inside.source.now c.rest-rest.result.now c.self.inside.position c.after-self-inside.result c.args.len c.self.invariant
    (c.rest-rest.ensures ∙ ap rest_of (sym c.self.view_is)) (rw c.rest-rest.ensures c.requires) after.offset after.line after.column after.line_blank
