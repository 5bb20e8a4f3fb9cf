use Rattle.std.proofs.Common.{◌≡◌, ◌<◌, List, None, Some, length, map, ap, sym, subst, ◌∙◌, arith}
use Rattle.std.specs.Prelude.{option_map, slice_get}
use Rattle.std.proofs.lemmas.Option.{slice_get-map, slice_get_read}
use Rattle.life_core.specs.Function.{function_of, program_of}
use Rattle.life_core.specs.declared.program.CoreFn.{CoreFn}
use Rattle.life_cli.proofs.Entries.{entry_found}
use Rattle.life_cli.specs.Entry.{entry_numbered, function_number, number_from}
use Rattle.life_cli.proofs.entry.find_entry.Goals as goal

pub returns-in-Some : goal.returns-in-Some
returns-in-Some c =
    let functions = c.args.program.now.functions in
    let p = program_of c.args.program.now in
    let name = c.args.name.now in
    let i = c.in-Some.number in
    let number : Some i ≡ function_number p name =
    c.in-Some.ensures.number ∙ ap (λ (fs : List CoreFn). number_from p.names name 0 (map function_of fs)) c.deref.ensures.value in
    let within : i < length functions.items = subst (λ (fs : List CoreFn). i < length fs) c.deref.ensures.value c.in-Some.ensures.within in
    let there : slice_get p.functions i ≡ Some (function_of c.index-f.result.now) =
    slice_get-map function_of functions.items i
    ∙ ap (option_map function_of) (slice_get_read functions.items functions.len i c.index-f.result.now functions.ok.0 (omega (arith, within, functions.ok.0)) c.index-f.ensures) in
    entry_found p name i (function_of c.index-f.result.now) c.entry_at.result number there c.entry_at.ensures

pub returns-in-None : goal.returns-in-None
returns-in-None c =
    let p = program_of c.args.program.now in
    let name = c.args.name.now in
    let number : None ≡ function_number p name =
    c.in-None.ensures.number ∙ ap (λ (fs : List CoreFn). number_from p.names name 0 (map function_of fs)) c.deref.ensures.value in
    ap (entry_numbered p) (sym number)
