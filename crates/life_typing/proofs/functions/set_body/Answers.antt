use Rattle.std.proofs.Common.{◌<◌, length, refl, arith}
use Rattle.std.proofs.lemmas.Option.{slice_get_read}
use Rattle.life_typed.specs.TypedStatement.{block_view}
use Rattle.life_typed.specs.Programs.{FunctionForm, function_view}
use Rattle.life_typing.proofs.Changed.{changed_view}
use Rattle.life_typing.proofs.functions.set_body.Goals as goal

pub returns-in-Some : goal.returns-in-Some
returns-in-Some c =
    let all = c.args.functions.now.items in
    let within : c.args.number < length all = omega (arith, c.in-Some.ensures.variant.0 refl, c.args.functions.now.ok.0) in
    let there = slice_get_read all (length all) c.args.number c.in-Some.function.now refl within c.in-Some.ensures.value in
    changed_view function_view (λ (f : FunctionForm). record f { place = c.args.place; locals = c.args.locals.items; body = block_view c.args.body }) c.args.number c.in-Some.function.now _ all there refl
