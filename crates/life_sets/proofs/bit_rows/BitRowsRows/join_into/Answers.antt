use Rattle.std.proofs.Common.{◌∙◌, ap, length, sym}
use Rattle.smallvec.proofs.SmallVecLemmas.{items-with_items}
use Rattle.smallvec.specs.SmallVec.{with_items}
use Rattle.life_sets.specs.BitSets.{BitSet}
use Rattle.life_sets.specs.contracts.bit_rows.BitRows.{the_view}
use Rattle.life_sets.proofs.BitJoin.{RowJoin, joined_row}
use Rattle.life_sets.proofs.bit_rows.BitRowsRows.join_into.Goals as goal

row : (c : goal.After-into-1) → RowJoin (the_view c.self.inside) (the_view c.into.inside) (with_items c.into.inside.words c.join_words-gained.new.into).items c.join_words-gained.result
row c =
    let from = the_view c.self.inside in
    let into = the_view c.into.inside in
    let new = c.join_words-gained.new.into in
    let known = c.join_words-gained.ensures in
    let same_length = c.join_words-gained.auto.into in
    joined_row from into (with_items c.into.inside.words new).items c.deref.result.now c.deref_mut.result.now new c.join_words-gained.result
    (ap (λ (s : BitSet). s.locations) c.self.view_is ∙ c.requires.locations ∙ sym (ap (λ (s : BitSet). s.locations) c.into.view_is))
    (ap (λ (s : BitSet). s.elements) c.self.view_is ∙ c.requires.elements ∙ sym (ap (λ (s : BitSet). s.elements) c.into.view_is))
    c.deref.ensures c.deref_mut.ensures.value
    (items-with_items c.into.inside.words new (same_length ∙ ap length c.deref_mut.ensures.value))
    same_length c.self.invariant c.into.invariant known.each known.from_words known.into_words known.tells

pub invariant_of-into : goal.invariant_of-into
invariant_of-into c = (row c).laid_out

pub returns-clause-joined : goal.returns-clause-joined
returns-clause-joined c = rw (← c.self.view_is, ← c.into.view_is) (row c).joined

pub returns-clause-gained : goal.returns-clause-gained
returns-clause-gained c = rw (← c.into.view_is) (row c).tells

pub returns-clause-between : goal.returns-clause-between
returns-clause-between c = rw (← c.self.view_is, ← c.into.view_is) (row c).between
