use Rattle.std.proofs.Common.{◌<◌, length, refl, arith}
use Rattle.std.proofs.lemmas.Bool.{false≢true}
use Rattle.std.proofs.lemmas.Option.{slice_get_read}
use Rattle.life_proper_check.proofs.Changed.{none_beyond, unset, was_set}
use Rattle.life_proper_check.proofs.results.set_result.Goals as goal

pub returns-in-Some : goal.returns-in-Some
returns-in-Some c =
    let all = c.args.functions.now.items in
    let within : c.args.number < length all = omega (arith, c.in-Some.ensures.variant.0 refl, c.args.functions.now.ok.0) in
    let there = slice_get_read all (length all) c.args.number c.in-Some.function.now refl within c.in-Some.ensures.value in
    was_set all c.args.number c.in-Some.function.now _ c.args.given there refl

pub returns-in-None : goal.returns-in-None
returns-in-None c =
    let all = c.args.functions.now.items in
    unset all c.args.number c.args.given (none_beyond all c.args.number (λ lt. false≢true (c.in-None.ensures.variant.1 (omega (arith, lt, c.args.functions.now.ok.0)))))
