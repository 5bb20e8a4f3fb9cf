use Rattle.std.proofs.Common.{◌∙◌, ℕ, ap, length, nat_eq}
use Rattle.smallvec.proofs.SmallVecLemmas.{items-with_items}
use Rattle.smallvec.specs.SmallVec.{with_items}
use Rattle.life_sets.proofs.NumberLemmas.{added_in}
use Rattle.life_sets.proofs.number_set.NumberSet.insert.Goals as goal

pub returns-clause-added : goal.returns-clause-added
returns-clause-added c =
    let inside = c.self.inside in
    let new = c.set_pair.new.words in
    rw (← c.self.view_is) (
    added_in inside.limit (λ (m : ℕ). nat_eq m c.args.n) c.deref_mut.result.now inside.words.items new (with_items inside.words new).items
    (items-with_items inside.words new (c.set_pair.auto.words ∙ ap length c.deref_mut.ensures.value)) c.deref_mut.ensures.value c.set_pair.ensures.added
    )
