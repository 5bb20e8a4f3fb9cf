use Rattle.std.proofs.Common.{◌≡◌, true}
use Rattle.life_stmt.proofs.StatementReads.{sentence_print}
use Rattle.life_stmt.proofs.sentences.sentence.Goals as goal
use Rattle.life_expr.specs.Readers.{below, begins_as, print_fronts}

pub returns-then-starts_std : goal.returns-then-starts_std
returns-then-starts_std c =
    let h : begins_as print_fronts c.args.tokens.now ≡ true = cc in
    rw (sentence_print c.args.left (below c.args.left) c.args.tokens.now h) c.print.ensures
