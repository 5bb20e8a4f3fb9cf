use Rattle.std.proofs.Common.{◌∙◌, map, ap, sym, subst}
use Rattle.life_lex.specs.Answers.{lexeme, LexesOnly}
use Rattle.life_parse.specs.Ends.{place_of_token}
use Rattle.life_parse.proofs.FileEnds.{broken_ends, refused_ends, deep_ends, tree_ends}
use Rattle.life_parse.proofs.file.tree_or_fault.Goals as goal

pub returns-in-Err-Fault : goal.returns-in-Err-Fault
returns-in-Err-Fault c = rw c.in-Err-Fault.fault-is (broken_ends c.args.source.now c.in-Err-Fault.fault (rw c.in-Err-Fault.field-0-is at c.in-Err-Fault.ensures.fault))

pub returns-in-Ok-definitions : goal.returns-in-Ok-definitions
returns-in-Ok-definitions c =
    tree_ends c.args.source.now (map lexeme c.deref.result.now) c.deref-2.result.now _
    (subst (λ ls. LexesOnly c.args.source.now (map lexeme ls)) (sym c.deref.ensures.value) c.in-Ok.ensures.tokens)
    (c.deref-2.ensures.value ∙ c.in_ok-keyed.ensures.tokens) c.in-Ok-definitions.ensures.tree c.in_ok-keyed.ensures.names c.in_ok-keyed.ensures.texts

pub returns-in-Err-Refused : goal.returns-in-Err-Refused
returns-in-Err-Refused c =
    refused_ends c.args.source.now (map lexeme c.deref.result.now) c.deref-2.result.now c.in-Err-Refused.at c.place_of.result
    (subst (λ ls. LexesOnly c.args.source.now (map lexeme ls)) (sym c.deref.ensures.value) c.in-Ok.ensures.tokens)
    (c.deref-2.ensures.value ∙ c.in_ok-keyed.ensures.tokens) (rw c.in-Err-Refused.field-0-is at c.in-Err-Refused.ensures.fault)
    (c.place_of.ensures ∙ ap (λ ls. place_of_token c.args.source.now (map lexeme ls) c.in-Err-Refused.at) (c.deref-in-Err-Refused.ensures.value ∙ sym c.deref.ensures.value))

pub returns-in-Err-Deep : goal.returns-in-Err-Deep
returns-in-Err-Deep c =
    deep_ends c.args.source.now (map lexeme c.deref.result.now) c.deref-2.result.now c.in-Err-Deep.at c.place_of-in-Err-Deep.result
    (subst (λ ls. LexesOnly c.args.source.now (map lexeme ls)) (sym c.deref.ensures.value) c.in-Ok.ensures.tokens)
    (c.deref-2.ensures.value ∙ c.in_ok-keyed.ensures.tokens) (rw c.in-Err-Deep.field-0-is at c.in-Err-Deep.ensures.fault)
    (c.place_of-in-Err-Deep.ensures ∙ ap (λ ls. place_of_token c.args.source.now (map lexeme ls) c.in-Err-Deep.at) (c.deref-in-Err-Deep.ensures.value ∙ sym c.deref.ensures.value))
