use Rattle.std.proofs.Common.{◌∙◌, ap, length, sym}
use Rattle.smallvec.proofs.SmallVecLemmas.{items-with_items}
use Rattle.smallvec.specs.SmallVec.{with_items}
use Rattle.life_sets.specs.NumberSets.{Numbers}
use Rattle.life_sets.proofs.NumberLemmas.{cut_in}
use Rattle.life_sets.proofs.number_set.NumberSet.remove_all.Goals as goal

pub invariant_of-self : goal.invariant_of-self
invariant_of-self c =
    let mine = c.self.inside in
    let other = c.other.inside in
    let new = c.cut_words.new.into in
    (cut_in mine.limit other.limit c.deref.result.now other.words.items c.deref_mut.result.now mine.words.items new (with_items mine.words new).items
    (ap (λ (s : Numbers). s.limit) c.other.view_is ∙ c.requires ∙ sym (ap (λ (s : Numbers). s.limit) c.self.view_is))
    c.deref.ensures
    (items-with_items mine.words new (c.cut_words.auto.into ∙ ap length c.deref_mut.ensures.value)) c.deref_mut.ensures.value c.cut_words.auto.into c.self.invariant c.cut_words.ensures.from_words c.cut_words.ensures.each).laid_out

pub returns-clause-left : goal.returns-clause-left
returns-clause-left c =
    let mine = c.self.inside in
    let other = c.other.inside in
    let new = c.cut_words.new.into in
    rw (← c.self.view_is, ← c.other.view_is) ((cut_in mine.limit other.limit c.deref.result.now other.words.items c.deref_mut.result.now mine.words.items new (with_items mine.words new).items
    (ap (λ (s : Numbers). s.limit) c.other.view_is ∙ c.requires ∙ sym (ap (λ (s : Numbers). s.limit) c.self.view_is))
    c.deref.ensures
    (items-with_items mine.words new (c.cut_words.auto.into ∙ ap length c.deref_mut.ensures.value)) c.deref_mut.ensures.value c.cut_words.auto.into c.self.invariant c.cut_words.ensures.from_words c.cut_words.ensures.each).left)
