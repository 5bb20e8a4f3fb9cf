use Rattle.std.proofs.Common.{◌∙◌, ap, length}
use Rattle.smallvec.proofs.SmallVecLemmas.{items-with_items}
use Rattle.smallvec.specs.SmallVec.{with_items}
use Rattle.life_sets.proofs.BitJoin.{gained_in}
use Rattle.life_sets.proofs.bit_rows.BitRowsRows.join_at.Goals as goal

pub returns-clause-gained : goal.returns-clause-gained
returns-clause-gained c =
    let mine = c.self.inside in
    let new = c.join_words_at-gained.new.into in
    rw (← c.self.view_is) (
    gained_in mine.locations mine.elements c.deref_mut.result.now mine.words.items new (with_items mine.words new).items c.join_words_at-gained.result
    (items-with_items mine.words new (c.join_words_at-gained.auto.into ∙ ap length c.deref_mut.ensures.value)) c.deref_mut.ensures.value c.join_words_at-gained.ensures.gained
    )
