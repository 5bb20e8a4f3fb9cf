use Rattle.std.proofs.Common.{◌≡◌, ◌∙◌, List, ap, map, subst}
use Rattle.std.specs.Prelude.{filter, IfOk}
use Rattle.life_pset.specs.declared.element.Fact.{Fact}
use Rattle.life_rules.specs.Deriving.{entry_facts}
use Rattle.life_calls.specs.Facts.{fact_of, head_function, is_of}
use Rattle.life_calls.proofs.entering.pre_of.Goals as goal

pub returns : goal.returns
returns c =
    let same : c.deref.result.now ≡ entry_facts c.args.types.now (head_function c.args.sig.now)
    = c.deref.ensures.value ∙ c.in_ok-facts.ensures ∙ ap (entry_facts c.args.types.now) c.in_ok-head.ensures.head in
    subst (λ (facts : List Fact). IfOk c.facts_of.result (λ all. map fact_of all.items ≡ filter (is_of c.args.parameter) facts)) same c.facts_of.ensures
