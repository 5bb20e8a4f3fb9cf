use Rattle.std.proofs.Common.{List, ap, refl, sym, ◌∙◌}
use Rattle.std.proofs.lemmas.Option.{slice_get-map, slice_get_read}
use Rattle.std.specs.Prelude.{slice_get, option_map}
use Rattle.life_core.specs.declared.program.CoreFn.{CoreFn}
use Rattle.life_core.specs.Function.{function_of, program_of}
use Rattle.life_interp.proofs.CodeLists.{few_at}
use Rattle.life_interp.proofs.entry.all_links.Goals as goal

pub links-requires : goal.links-requires
links-requires c =
    let items = c.deref-f-items.result.now in
    let there = slice_get_read items _ c.loop-f.f-index c.f-item.result refl c.loop-f-test.true c.f-item.is in
    let seen = ap (λ (xs : List CoreFn). slice_get xs c.loop-f.f-index) (sym c.deref-f-items.ensures.value) ∙ there in
    few_at (program_of c.args.p.now) c.requires.limits c.loop-f.f-index (function_of c.f-item.result) (slice_get-map function_of c.args.p.now.functions.items c.loop-f.f-index ∙ ap (option_map function_of) seen)
