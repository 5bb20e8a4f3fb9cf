use Rattle.std.proofs.Common.{◌∙◌, ap, length, sym}
use Rattle.smallvec.proofs.SmallVecLemmas.{items-with_items}
use Rattle.smallvec.specs.SmallVec.{with_items}
use Rattle.life_sets.specs.NumberSets.{Numbers}
use Rattle.life_sets.proofs.NumberLemmas.{set_added_in, more_in}
use Rattle.life_sets.proofs.number_set.NumberSet.add_all.Goals as goal

pub returns-clause-added : goal.returns-clause-added
returns-clause-added c =
    let mine = c.self.inside in
    let other = c.other.inside in
    let new = c.join_words_at.new.into in
    rw (← c.self.view_is, ← c.other.view_is) (
    set_added_in mine.limit other.limit c.deref.result.now other.words.items c.deref_mut.result.now mine.words.items new (with_items mine.words new).items
    (ap (λ (s : Numbers). s.limit) c.other.view_is ∙ c.requires ∙ sym (ap (λ (s : Numbers). s.limit) c.self.view_is))
    c.deref.ensures
    (items-with_items mine.words new (c.join_words_at.auto.into ∙ ap length c.deref_mut.ensures.value)) c.deref_mut.ensures.value c.join_words_at.ensures.joined
    )

pub returns-clause-gained : goal.returns-clause-gained
returns-clause-gained c =
    let mine = c.self.inside in
    let new = c.join_words_at.new.into in
    rw (← c.self.view_is) (
    more_in mine.limit c.deref_mut.result.now mine.words.items new (with_items mine.words new).items c.join_words_at.result
    (items-with_items mine.words new (c.join_words_at.auto.into ∙ ap length c.deref_mut.ensures.value)) c.deref_mut.ensures.value c.join_words_at.ensures.gained
    )
