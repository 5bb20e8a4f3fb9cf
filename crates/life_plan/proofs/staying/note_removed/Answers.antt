use Rattle.std.proofs.Common.{◌∙◌, ◌≡◌, ◌⊎◌, ◌↔◌, ◌++◌, ℕ, List, ap, subst}
use Rattle.std.specs.Prelude.{Contains, IsTrue}
use Rattle.life_pset.specs.declared.element.Element.{Element}
use Rattle.life_rules.specs.Staying.{staying}
use Rattle.life_plan.specs.Crossing.{crossing_in}
use Rattle.life_plan.specs.Noting.{NamesOther}
use Rattle.life_plan.specs.Numbered.{Becomes}
use Rattle.life_plan.proofs.Changing.{noted_more}
use Rattle.life_plan.proofs.staying.note_removed.Goals as goal

pub returns-clause-noted : goal.returns-clause-noted
returns-clause-noted c =
    let x = crossing_in c.args.context.now in
    let y = c.args.element.now in
    let stays : List Element = staying x.types x.f x.spot y in
    let now = c.note_changes.new.becoming.items in
    let pushed = c.in_ok-push_staying.ensures ∙ ap (λ (ys : List Element). ys ++ stays) c.new-stays.ensures.items in
    let before = c.args.becoming.now.items in
    noted_more x c.args.e y c.is_among.result c.args.gone.now c.insert_if.new.set before now c.requires.at c.requires.noted
    (subst (λ (ys : List Element). IsTrue c.is_among.result ↔ Contains ys y) (c.deref.ensures.value ∙ pushed) c.is_among.ensures) c.insert_if.ensures.added
    (subst (λ (ys : List Element). (d m : ℕ) → Becomes now d m ↔ (Becomes before d m ⊎ ((d ≡ c.args.e) × NamesOther x.table y ys m))) (c.deref-2.ensures.value ∙ pushed) c.in_ok-note_changes.ensures.noted) c.in_ok-note_changes.ensures.sized
