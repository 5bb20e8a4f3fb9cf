use Rattle.std.proofs.Common.{◌∙◌, ℕ, List, sym, subst}
use Rattle.life_sets.specs.BitSets.{contains_bit, IsClean}
use Rattle.life_sets.proofs.BitSetLemmas.{pair_set, clean_set, stored}
use Rattle.life_sets.proofs.bit_pairs.set_pair.Goals as goal

pub returns-clause-added : goal.returns-clause-added
returns-clause-added c =
    let a = c.args in
    let is = stored a.elements a.words.now a.l a.e c.word_of-k.result c.set_bit.result c.word_of-k.ensures c.set_bit.ensures in
    λ x y. (λ i. contains_bit a.locations a.elements (is i) x y) ∙ pair_set a.locations a.elements a.words.now a.l a.e x y c.requires.filled c.requires.location c.requires.element

pub returns-clause-clean : goal.returns-clause-clean
returns-clause-clean c =
    let a = c.args in
    let is = stored a.elements a.words.now a.l a.e c.word_of-k.result c.set_bit.result c.word_of-k.ensures c.set_bit.ensures in
    subst (λ (ws : List ℕ). IsClean a.elements ws) (sym is) (clean_set a.locations a.elements a.words.now a.l a.e c.requires.filled c.requires.clean c.requires.location c.requires.element)
