use Rattle.std.proofs.Common.{◌≡◌, ◌∙◌, ℕ, ap, sym, subst, arith}
use Rattle.std.specs.Prelude.{slice_index}
use Rattle.life_sets.specs.BitSets.{contains_bit}
use Rattle.life_sets.specs.Listed.{IsListed}
use Rattle.life_sets.proofs.BitSetLemmas.{none_in_word}
use Rattle.life_sets.proofs.ListedLemmas.{listed_gap, listed_more}
use Rattle.life_sets.proofs.bit_rows.push_word.Goals as goal

pub returns-then-words-word_of-eq0 : goal.returns-then-words-word_of-eq0
returns-then-words-word_of-eq0 c =
    let a = c.args in
    let none = ap (slice_index a.words.now) (sym c.word_of.ensures) ∙ c.if-words-word_of-eq0.true in
    listed_gap (contains_bit a.locations a.elements a.words.now) a.l a.start a.end a.all.now.items c.requires.listed (omega (arith, c.requires.some)) (λ y ge lt.
    none_in_word a.locations a.elements a.words.now a.l a.start y none c.requires.first ge (omega (arith, lt, c.requires.last)))

pub loop-e-preserved : goal.loop-e-preserved
loop-e-preserved c =
    let a = c.args in
    listed_more (contains_bit a.locations a.elements a.words.now) a.l c.loop-e.e c.loop-e.all.items c.push_where.new.all.items c.test_pair.result c.loop-e.invariant c.test_pair.ensures c.in_ok-push_where.ensures

pub returns : goal.returns
returns c =
    let a = c.args in
    let ended : c.loop-e.e ≡ a.end = omega (arith, c.loop-e-test.false, c.loop-e.auto.e-end, c.requires.some) in
    subst (λ (e : ℕ). IsListed (contains_bit a.locations a.elements a.words.now) a.l e c.loop-e.all.items) ended c.loop-e.invariant
