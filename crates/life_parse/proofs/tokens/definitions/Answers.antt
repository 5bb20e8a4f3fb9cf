use Rattle.std.proofs.Common.{arith}
use Rattle.std.proofs.lemmas.List.{nil_from_length}
use Rattle.life_parse.specs.ParsesTokens.{definitions_tree}
use Rattle.life_parse.proofs.Spelled.{spelled, spelled_less, spelled_refused, spelled_deep}
use Rattle.life_parse.proofs.tokens.definitions.Goals as goal

pub returns-in-Err-Refused-clause-fault : goal.returns-in-Err-Refused-clause-fault
unfolding Rattle.life_expr.specs.Readers.rule_with
returns-in-Err-Refused-clause-fault c =
    rw c.saturating_sub.ensures (spelled_refused c.args.tokens.now c.in-Err-Refused.rest.now (rw c.in-Err-Refused.field-0-is at c.in-Err-Refused.ensures))

pub returns-in-Err-Deep-clause-fault : goal.returns-in-Err-Deep-clause-fault
unfolding Rattle.life_expr.specs.Readers.rule_with
returns-in-Err-Deep-clause-fault c =
    rw c.saturating_sub-in-Err-Deep.ensures (spelled_deep c.args.tokens.now c.in-Err-Deep.rest.now (rw c.in-Err-Deep.field-0-is at c.in-Err-Deep.ensures))

pub returns-in-empty-clause-tree : goal.returns-in-empty-clause-tree
unfolding Rattle.life_expr.specs.Readers.rule_with
returns-in-empty-clause-tree c =
    spelled c.args.tokens.now (definitions_tree c.in-Ok.read.0.items) c.in-Ok.read.1.now c.in-Ok.ensures (nil_from_length _ (omega (arith, c.in-empty.len_below)))

pub returns-in-len1-up-clause-fault : goal.returns-in-len1-up-clause-fault
unfolding Rattle.life_expr.specs.Readers.rule_with
returns-in-len1-up-clause-fault c =
    rw c.saturating_sub-in-len1-up.ensures (spelled_less c.args.tokens.now (definitions_tree c.in-Ok.read.0.items) c.in-Ok.read.1.now c.in-Ok.ensures (omega (arith, c.in-len1-up.len_at_least)))
