use Rattle.std.proofs.Common.{◌<◌, ◌∙◌, ℕ, ap, length, subst, sym}
use Rattle.smallvec.proofs.SmallVecLemmas.{items-with_items}
use Rattle.smallvec.specs.SmallVec.{with_items}
use Rattle.life_sets.specs.BitSets.{BitSet, IsLaidOut, contains_bit}
use Rattle.life_sets.specs.Pairs.{pairs_from}
use Rattle.life_sets.proofs.BitJoin.{between_from, gained_in}
use Rattle.life_sets.proofs.BitSetLemmas.{set_within}
use Rattle.life_sets.proofs.LocationWords.{joined_from}
use Rattle.life_sets.proofs.bit_rows.BitRowsRows.join_from.Goals as goal

pub words_at-requires-clause-location : goal.words_at-requires-clause-location
words_at-requires-clause-location c =
    subst (λ (n : ℕ). c.args.location < n) (sym (ap (λ (s : BitSet). s.locations) c.other.view_is ∙ c.requires.locations)) c.requires.location

pub join_words_at-gained-requires-clause-from : goal.join_words_at-gained-requires-clause-from
join_words_at-gained-requires-clause-from c =
    subst (λ (n : ℕ). IsLaidOut 1 n c.words_at.result.now)
    (ap (λ (s : BitSet). s.elements) c.other.view_is ∙ c.requires.elements ∙ sym (ap (λ (s : BitSet). s.elements) c.self.view_is)) c.words_at.ensures.laid_out

pub returns-clause-joined : goal.returns-clause-joined
returns-clause-joined c =
    let mine = c.self.inside in
    let other = c.other.inside in
    let new = c.join_words_at-gained.new.into in
    rw (← c.self.view_is, ← c.other.view_is) (
    joined_from mine.locations mine.elements other.locations other.elements c.args.location c.words_at.result.now c.deref.result.now other.words.items c.deref_mut.result.now mine.words.items new (with_items mine.words new).items
    (ap (λ (s : BitSet). s.elements) c.other.view_is ∙ c.requires.elements ∙ sym (ap (λ (s : BitSet). s.elements) c.self.view_is))
    c.deref.ensures c.deref_mut.ensures.value (items-with_items mine.words new (c.join_words_at-gained.auto.into ∙ ap length c.deref_mut.ensures.value)) c.words_at.ensures.each c.join_words_at-gained.ensures.joined
    )

pub returns-clause-gained : goal.returns-clause-gained
returns-clause-gained c =
    let mine = c.self.inside in
    let new = c.join_words_at-gained.new.into in
    rw (← c.self.view_is) (
    gained_in mine.locations mine.elements c.deref_mut.result.now mine.words.items new (with_items mine.words new).items c.join_words_at-gained.result
    (items-with_items mine.words new (c.join_words_at-gained.auto.into ∙ ap length c.deref_mut.ensures.value)) c.deref_mut.ensures.value c.join_words_at-gained.ensures.gained
    )

pub returns-clause-between : goal.returns-clause-between
returns-clause-between c =
    let mine = c.self.inside in
    let other = c.other.inside in
    let new = c.join_words_at-gained.new.into in
    rw (← c.self.view_is, ← c.other.view_is) (
    between_from (pairs_from (contains_bit other.locations other.elements other.words.items) c.args.location) (contains_bit mine.locations mine.elements mine.words.items) (contains_bit mine.locations mine.elements (with_items mine.words new).items) (
    joined_from mine.locations mine.elements other.locations other.elements c.args.location c.words_at.result.now c.deref.result.now other.words.items c.deref_mut.result.now mine.words.items new (with_items mine.words new).items
    (ap (λ (s : BitSet). s.elements) c.other.view_is ∙ c.requires.elements ∙ sym (ap (λ (s : BitSet). s.elements) c.self.view_is))
    c.deref.ensures c.deref_mut.ensures.value (items-with_items mine.words new (c.join_words_at-gained.auto.into ∙ ap length c.deref_mut.ensures.value)) c.words_at.ensures.each c.join_words_at-gained.ensures.joined
    ))

pub returns-clause-within : goal.returns-clause-within
returns-clause-within c =
    let other = c.other.inside in
    rw (← c.other.view_is) (λ e h. (set_within other.locations other.elements other.words.items c.args.location e h).1)
