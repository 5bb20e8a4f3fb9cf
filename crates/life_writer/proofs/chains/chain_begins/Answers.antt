use Rattle.std.proofs.Common.{◌-◌, arith}
use Rattle.life_writer.proofs.Following.{runs_more}
use Rattle.life_writer.proofs.chains.chain_begins.Goals as goal

pub links-init : goal.links-init
links-init c = record {
  few = omega arith;
  links = λ k after within. absurd (omega arith);
}

pub links-preserved : goal.links-preserved
links-preserved c = record {
  few = omega arith;
  links = runs_more c.args.chain c.args.operands.now (c.links.from - 1) c.links.from (omega arith) (c.is_link_at.ensures.follows c.if-not-is_link_at.false) c.links.invariant.links;
}
