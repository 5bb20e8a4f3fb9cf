use Rattle.life_sets.proofs.LocationWords.{laid_out_at_width}
use Rattle.life_sets.proofs.words.words_at.Goals as goal

pub returns-clause-laid_out : goal.returns-clause-laid_out
returns-clause-laid_out c =
    let a = c.args in
    laid_out_at_width a.locations a.elements a.l c.words_for-width.result a.words.now c.words_for-width.ensures c.requires.laid_out c.requires.location
