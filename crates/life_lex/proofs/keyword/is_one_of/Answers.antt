use Rattle.std.proofs.Common.{◌∙◌, ap, arith, sym}
use Rattle.std.proofs.lemmas.List.Folds.{list_any_at}
use Rattle.std.proofs.lemmas.List.{take_all}
use Rattle.std.specs.List.{list_any}
use Rattle.std.specs.Str.{bytes_eq}
use Rattle.life_lex.proofs.Lists.{list_any-map}
use Rattle.life_lex.proofs.keyword.is_one_of.Goals as goal

pub returns-then-is_same : goal.returns-then-is_same
returns-then-is_same c =
    let here = list_any_at (λ w. bytes_eq w.now c.args.word.now) c.args.words.now c.loop-other.other-index _ c.loop-other-test.true (sym c.is_same.ensures ∙ c.if-is_same.true) in
    sym (list_any-map (λ w. bytes_eq w c.args.word.now) (λ w. w.now) c.args.words.now ∙ here)

pub returns : goal.returns
returns c =
    let all = take_all c.loop-other.other-index c.args.words.now (omega (arith, c.loop-other-test.false)) in
    sym (list_any-map (λ w. bytes_eq w c.args.word.now) (λ w. w.now) c.args.words.now ∙ ap (list_any (λ w. bytes_eq w.now c.args.word.now)) (sym all) ∙ c.loop-other.invariant)
