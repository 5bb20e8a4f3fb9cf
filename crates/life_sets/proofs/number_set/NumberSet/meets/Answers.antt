use Rattle.std.proofs.Common.{◌∙◌, ap, sym}
use Rattle.life_sets.specs.NumberSets.{Numbers}
use Rattle.life_sets.proofs.NumberLemmas.{common_in}
use Rattle.life_sets.proofs.number_set.NumberSet.meets.Goals as goal

pub returns : goal.returns
returns c =
    let mine = c.self.inside in
    let other = c.other.inside in
    rw (← c.self.view_is, ← c.other.view_is) (
    common_in mine.limit other.limit c.deref.result.now mine.words.items c.deref-2.result.now other.words.items c.meet_words.result
    (ap (λ (s : Numbers). s.limit) c.other.view_is ∙ c.requires ∙ sym (ap (λ (s : Numbers). s.limit) c.self.view_is))
    c.deref.ensures c.deref-2.ensures c.self.invariant c.other.invariant c.meet_words.ensures.words c.meet_words.ensures.tells
    )
