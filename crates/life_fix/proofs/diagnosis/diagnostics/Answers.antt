use Rattle.std.proofs.Common.{◌≡◌, ◌↔◌, ◌++◌, Contains, List, ap, map, subst, sym, ◌∙◌}
use Rattle.life_core.specs.Function.{function_of}
use Rattle.life_rules.specs.Diagnosing.{IsDiagnosed}
use Rattle.life_rules.specs.Lines.{line_of}
use Rattle.life_rules.specs.Texts.{naming_of}
use Rattle.life_rules.specs.declared.diag.Diag.{Diag}
use Rattle.life_fix.proofs.Finding.{same_wrongs}
use Rattle.life_fix.specs.Candidates.{candidate_seen, lined}
use Rattle.life_rules.specs.declared.diag.ListedDiag.{ListedDiag}
use Rattle.life_fix.proofs.diagnosis.diagnostics.Goals as goal

pub returns-clause-listed : goal.returns-clause-listed
returns-clause-listed g c =
    let line = line_of (naming_of c.args.names.now c.args.sigs.now) c.args.types.now (function_of c.args.f.now) in
    let same = subst (λ (ds : List Diag). (d : Diag) → Contains ds d ↔ IsDiagnosed c.args.sigs.now c.args.types.now c.args.id.0 (function_of c.args.f.now) d)
    (sym c.deref-2.ensures.value) c.in_ok-found.ensures in
    let before : map candidate_seen c.push_candidates.new.out.items ≡ map (lined line) c.deref-2.result.now =
    c.in_ok-push_candidates.ensures ∙ ap (λ (cs : List ListedDiag). map candidate_seen cs ++ map (lined line) c.deref-2.result.now) c.new-candidates.ensures.items in
    same_wrongs same (c.listed.ensures.listed line c.deref-2.result.now before)

pub returns-clause-lines : goal.returns-clause-lines
returns-clause-lines g c =
    let line = line_of (naming_of c.args.names.now c.args.sigs.now) c.args.types.now (function_of c.args.f.now) in
    let before : map candidate_seen c.push_candidates.new.out.items ≡ map (lined line) c.deref-2.result.now =
    c.in_ok-push_candidates.ensures ∙ ap (λ (cs : List ListedDiag). map candidate_seen cs ++ map (lined line) c.deref-2.result.now) c.new-candidates.ensures.items in
    c.listed.ensures.lines line c.deref-2.result.now before
