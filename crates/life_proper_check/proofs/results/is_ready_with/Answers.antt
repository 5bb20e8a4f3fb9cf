use Rattle.std.proofs.Common.{◌∙◌, List, ap, subst}
use Rattle.std.specs.Prelude.{◌≡◌, IfOk}
use Rattle.std.specs.List.{list_all}
use Rattle.life_core.specs.Function.{Function, program_of}
use Rattle.life_proper.specs.Checking.{is_checked}
use Rattle.life_proper_check.specs.Results.{result_set}
use Rattle.life_proper_check.proofs.Written.{set_back}
use Rattle.life_proper_check.proofs.results.is_ready_with.Goals as goal

pub returns-clause-same : goal.returns-clause-same
returns-clause-same c =
    let p = program_of c.args.p.now in
    ap (λ (gs : List Function). record p { functions = gs })
    (c.set_result-2.ensures ∙ ap (result_set c.args.number c.args.own) c.set_result.ensures ∙ set_back c.args.pointer c.args.own c.args.number p.functions c.requires.own)

pub returns-clause-ready : goal.returns-clause-ready
returns-clause-ready c =
    let p = program_of c.args.p.now in
    subst (λ (gs : List Function). IfOk c.is_proper-answer.result (λ answer. answer ≡ list_all (is_checked p.types) gs)) c.set_result.ensures c.is_proper-answer.ensures
