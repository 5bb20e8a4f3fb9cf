use Rattle.std.proofs.Common.{◌<◌, true, length, refl, arith}
use Rattle.std.proofs.lemmas.Option.{slice_get_read}
use Rattle.life_typing.specs.Names.{DeclaredView, declared_view}
use Rattle.life_typing.proofs.Changed.{changed_view}
use Rattle.life_typing.proofs.functions.note_body.Goals as goal

pub returns-in-Some : goal.returns-in-Some
returns-in-Some c =
    let all = c.args.declared.now.items in
    let within : c.args.number < length all = omega (arith, c.in-Some.ensures.variant.0 refl, c.args.declared.now.ok.0) in
    let there = slice_get_read all (length all) c.args.number c.in-Some.declared.now refl within c.in-Some.ensures.value in
    changed_view declared_view (λ (d : DeclaredView). record d { has_body = true }) c.args.number c.in-Some.declared.now _ all there refl
