use Rattle.std.proofs.Common.{refl, rules}
use Rattle.life_sets.proofs.LocationWords.{joined_at_width}
use Rattle.life_sets.proofs.words.join_words_at.Goals as goal

pub returns-clause-joined : goal.returns-clause-joined
returns-clause-joined c =
    let a = c.args in
    (joined_at_width a.locations a.elements a.l c.words_for-width.result a.from.now a.into.now c.join_words.new.into _ c.join_words.result c.words_for-width.ensures refl c.join_words.auto.into c.requires.from c.requires.into c.requires.location c.join_words.ensures.from_words (search rules) c.join_words.ensures.each c.join_words.ensures.tells).joined

pub returns-clause-gained : goal.returns-clause-gained
returns-clause-gained c =
    let a = c.args in
    (joined_at_width a.locations a.elements a.l c.words_for-width.result a.from.now a.into.now c.join_words.new.into _ c.join_words.result c.words_for-width.ensures refl c.join_words.auto.into c.requires.from c.requires.into c.requires.location c.join_words.ensures.from_words (search rules) c.join_words.ensures.each c.join_words.ensures.tells).tells

pub returns-clause-laid_out : goal.returns-clause-laid_out
returns-clause-laid_out c =
    let a = c.args in
    (joined_at_width a.locations a.elements a.l c.words_for-width.result a.from.now a.into.now c.join_words.new.into _ c.join_words.result c.words_for-width.ensures refl c.join_words.auto.into c.requires.from c.requires.into c.requires.location c.join_words.ensures.from_words (search rules) c.join_words.ensures.each c.join_words.ensures.tells).laid_out
