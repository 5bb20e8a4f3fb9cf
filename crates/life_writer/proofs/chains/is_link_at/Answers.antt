use Rattle.life_writer.proofs.Following.{follows_at, linked_at}
use Rattle.life_writer.specs.Parts.{inside}
use Rattle.std.proofs.Common.{◌+◌, take}
use Rattle.life_writer.proofs.chains.is_link_at.Goals as goal

pub returns-in-Some-clause-link : goal.returns-in-Some-clause-link
returns-in-Some-clause-link c =
    linked_at c.args.chain c.opened.result c.in-Some.part (inside (take (c.args.number + 1) c.args.operands.now)) c.is_link.result
    c.in-Some.ensures.form c.opened.ensures.node c.is_link.ensures

pub returns-in-Some-clause-follows : goal.returns-in-Some-clause-follows
returns-in-Some-clause-follows c = λ is.
    follows_at c.args.chain c.opened.result c.in-Some.part c.args.operands.now c.args.number c.is_link.result
    c.requires c.in-Some.ensures.form c.in-Some.ensures.within c.opened.ensures.node c.opened.ensures.left c.is_link.ensures is
