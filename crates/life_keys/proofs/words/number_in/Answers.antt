use Rattle.std.proofs.Common.{◌≡◌, ◌∙◌, ap, sym, Some, None, true, false, map, ℕ, List}
use Rattle.std.specs.Prelude.{slice_get, option_map}
use Rattle.std.specs.Str.{bytes_eq}
use Rattle.std.proofs.lemmas.Option.{slice_get-get_or, slice_get-map}
use Rattle.life_keys.proofs.WordNumbers.{number_here, number_past, word_view}
use Rattle.life_keys.proofs.words.number_in.Goals as goal

pub returns-then-eq : goal.returns-then-eq
returns-then-eq c =
    let here = slice_get-map word_view c.args.words.now c.loop-word.word-index ∙ ap (option_map word_view) (slice_get-get_or c.args.words.now c.loop-word.word-index _ c.loop-word-test.true) in
    sym (number_here (map word_view c.args.words.now) c.loop-word.word-index _ c.args.text.now here (sym c.eq.ensures ∙ c.if-eq.true) c.loop-word.invariant)

pub loop-word-preserved : goal.loop-word-preserved
loop-word-preserved c =
    let here = slice_get-map word_view c.args.words.now c.loop-word.word-index ∙ ap (option_map word_view) (slice_get-get_or c.args.words.now c.loop-word.word-index _ c.loop-word-test.true) in
    number_past (map word_view c.args.words.now) c.loop-word.word-index _ c.args.text.now here (sym c.eq.ensures ∙ c.if-eq.false) c.loop-word.invariant
