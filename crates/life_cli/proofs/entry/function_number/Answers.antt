use Rattle.std.proofs.Common.{◌≡◌, ◌∙◌, ap, sym, map, Some, true, false}
use Rattle.std.specs.Prelude.{slice_get}
use Rattle.std.proofs.lemmas.Option.{slice_get-get_or}
use Rattle.life_core.specs.Function.{function_of, name_bytes}
use Rattle.life_cli.proofs.Entries.{named_here, named_past}
use Rattle.life_cli.specs.Entry.{is_named}
use Rattle.life_cli.proofs.entry.function_number.Goals as goal

pub returns-then-is_named-clause-number : goal.returns-then-is_named-clause-number
returns-then-is_named-clause-number c =
    let names = map name_bytes c.args.names.now.texts.items in
    let f = c.index-functions-number.result in
    let here : slice_get c.args.functions.now c.loop-number.number ≡ Some f = slice_get-get_or c.args.functions.now c.loop-number.number f c.loop-number-test.true ∙ ap Some (sym c.index-functions-number.is) in
    let same : is_named names c.args.name.now (function_of f) ≡ true = cc (c.is_named.ensures, c.if-is_named.true) in
    named_here names c.args.name.now c.args.functions.now c.loop-number.number f here same c.loop-number.invariant

pub loop-number-preserved : goal.loop-number-preserved
loop-number-preserved c =
    let names = map name_bytes c.args.names.now.texts.items in
    let f = c.index-functions-number.result in
    let here : slice_get c.args.functions.now c.loop-number.number ≡ Some f = slice_get-get_or c.args.functions.now c.loop-number.number f c.loop-number-test.true ∙ ap Some (sym c.index-functions-number.is) in
    let other : is_named names c.args.name.now (function_of f) ≡ false = cc (c.is_named.ensures, c.if-is_named.false) in
    named_past names c.args.name.now c.args.functions.now c.loop-number.number f here other c.loop-number.invariant
