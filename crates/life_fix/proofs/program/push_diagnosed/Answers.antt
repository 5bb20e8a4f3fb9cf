use Rattle.std.proofs.Common.{◌↔◌, Contains, List, map, subst, sym}
use Rattle.std.proofs.lemmas.Result.{IfOk-weaker}
use Rattle.life_core.specs.Function.{function_of}
use Rattle.life_rules.specs.Diagnosing.{IsDiagnosed}
use Rattle.life_rules.specs.Texts.{naming_of}
use Rattle.life_rules.specs.declared.diag.Diag.{Diag}
use Rattle.life_fix.specs.Candidates.{candidate_seen}
use Rattle.life_fix.specs.Programs.{AddsDiagnosed}
use Rattle.life_fix.proofs.program.push_diagnosed.Goals as goal

pub returns-clause-adds : goal.returns-clause-adds
returns-clause-adds g c =
    let all = subst (λ (ds : List Diag). (d : Diag) → Contains ds d ↔ IsDiagnosed c.args.sigs.now c.args.types.now c.args.id.0 (function_of c.args.f.now) d)
    (sym c.deref.ensures.value) c.in_ok-found.ensures.found in
    IfOk-weaker c.push_candidates.result _
    (λ u. AddsDiagnosed (naming_of c.args.names.now c.args.sigs.now) c.args.types.now c.args.id.0 (function_of c.args.f.now) (map candidate_seen c.args.out.now.items) (map candidate_seen c.push_candidates.new.out.items))
    (λ u behind. record { found = c.deref.result.now; all = all; behind = behind }) c.push_candidates.ensures
