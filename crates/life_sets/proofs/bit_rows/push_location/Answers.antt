use Rattle.std.proofs.Common.{◌≡◌, ◌*◌, ℕ, min, subst, arith}
use Rattle.life_sets.specs.BitSets.{contains_bit}
use Rattle.life_sets.specs.Listed.{IsListed}
use Rattle.life_sets.proofs.BitSetLemmas.{set_within}
use Rattle.life_sets.proofs.ListedLemmas.{listed_row}
use Rattle.life_sets.proofs.bit_rows.push_location.Goals as goal

pub returns : goal.returns
returns c =
    let a = c.args in
    let has = contains_bit a.locations a.elements a.words.now in
    let ended : min (c.loop-k.k * 64) a.elements ≡ a.elements = omega (arith, c.loop-k-test.false, c.words_for-k-end.ensures) in
    listed_row has a.l a.elements c.loop-k.all.items (λ x y h. (set_within a.locations a.elements a.words.now x y h).1)
    (subst (λ (e : ℕ). IsListed has a.l e c.loop-k.all.items) ended c.loop-k.invariant)
