use Rattle.std.proofs.Common.{◌≡◌, ◌++◌, ◌∙◌, List, ap, sym}
use Rattle.std.proofs.lemmas.Bool.{eqb-true}
use Rattle.std.specs.Prelude.{vec_len}
use Rattle.life_pset.specs.declared.element.Fact.{Fact}
use Rattle.life_rules.specs.Carrying.{none_at}
use Rattle.life_plan.specs.Crossing.{crossing_in}
use Rattle.life_plan.proofs.Stillness.{bears_still, empty_list}
use Rattle.life_plan.proofs.still.bears_no_location.Goals as goal

pub returns : goal.returns
returns c =
    let x = crossing_in c.args.context.now in
    let made = none_at x.sigs x.types x.f x.spot in
    let all : c.push_none.new.out.items ≡ made = c.in_ok-push_none.ensures x.sigs c.args.context.now.called ∙ ap (λ (xs : List Fact). xs ++ made) c.new-born.ensures.items in
    λ t. bears_still x (sym all ∙ empty_list c.push_none.new.out.items (sym c.push_none.new.out.ok.0 ∙ eqb-true (vec_len c.push_none.new.out) 0 (sym c.is_empty.ensures ∙ t))) (c.writes_some.ensures c.if-writes_some.false) c.requires
