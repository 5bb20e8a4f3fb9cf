use Rattle.std.proofs.Common.{◌∙◌, List, ap, map, sym}
use Rattle.std.specs.List.{list_all}
use Rattle.life_core.specs.declared.program.CoreFn.{CoreFn}
use Rattle.life_core.specs.Function.{function_of, program_of}
use Rattle.life_core_served.specs.ProperPrograms.{has_own_breaks}
use Rattle.life_proper_check.proofs.Parts.{parts_proper}
use Rattle.life_proper_check.proofs.check.first_unmet.Goals as goal

pub returns : goal.returns
returns c none results =
    let all = c.first_of.ensures none in
    let breaks = ap (λ (fs : List CoreFn). list_all has_own_breaks (map function_of fs)) (sym c.deref.ensures.value) ∙ sym c.have_own_breaks.ensures in
    parts_proper (program_of c.args.p.now) (c.has_types.ensures all.0) (c.in_ok-once.ensures all.1.0) (c.in_ok-formed.ensures all.1.1.0) (sym c.in_ok-given.ensures ∙ all.1.1.1.0) (breaks ∙ all.1.1.1.1.0)
    (c.in_ok-limits.ensures all.1.1.1.1.1.0) (sym c.in_ok-ready.ensures ∙ all.1.1.1.1.1.1) results
