use Rattle.std.proofs.Common.{List, [], map, refl, subst, sym}
use Rattle.life_check.specs.CheckedText.{ComesTo, Listed}
use Rattle.life_core.specs.Function.{program_of}
use Rattle.life_core.specs.declared.program.CoreProgram.{CoreProgram}
use Rattle.life_rules.specs.Listing.{listed_diag}
use Rattle.life_rules.specs.declared.diag.ListedDiag.{ListedDiag}
use Rattle.life_cli.proofs.Leaves.{checked_file, faulty_file}
use Rattle.life_cli.specs.Words.{job_seen}
use Rattle.life_cli.proofs.work.serve_bytes.Goals as goal

pub serve_accepted-requires-clause-proper : goal.serve_accepted-requires-clause-proper
serve_accepted-requires-clause-proper g c =
    let is = rw c.in-Ok-Accepted.field-0-is at c.in-Ok-Accepted.ensures in
    rw c.program.ensures.program is.1.0.proper

pub serve_accepted-requires-clause-listed : goal.serve_accepted-requires-clause-listed
serve_accepted-requires-clause-listed g c =
    let is = rw c.in-Ok-Accepted.field-0-is at c.in-Ok-Accepted.ensures in
    rw c.program.ensures.program is.1.0.listed

pub returns-in-Ok-Accepted : goal.returns-in-Ok-Accepted
returns-in-Ok-Accepted g c =
    let is = rw c.in-Ok-Accepted.field-0-is at c.in-Ok-Accepted.ensures in
    let file = subst (λ (p : CoreProgram). ComesTo c.args.bytes.now (Listed (program_of p) [])) (sym c.program.ensures.program) is.0.is in
    checked_file (job_seen c.args.job) c.args.bytes.now _ _ _ _ _ (program_of c.program.result.now) [] file _ c.serve_accepted.result c.serve_accepted.ensures

pub serve_rejected-requires-clause-proper : goal.serve_rejected-requires-clause-proper
serve_rejected-requires-clause-proper g c =
    let is = rw c.in-Ok-Refused.field-0-is at c.in-Ok-Refused.ensures in is.1.0.proper

pub serve_rejected-requires-clause-listed : goal.serve_rejected-requires-clause-listed
serve_rejected-requires-clause-listed g c =
    let is = rw c.in-Ok-Refused.field-0-is at c.in-Ok-Refused.ensures in
    rw c.deref.ensures.value is.1.0.listed

pub serve_rejected-requires-clause-some : goal.serve_rejected-requires-clause-some
serve_rejected-requires-clause-some g c =
    let is = rw c.in-Ok-Refused.field-0-is at c.in-Ok-Refused.ensures in
    rw c.deref.ensures.value is.1.1

pub serve_rejected-requires-clause-lines : goal.serve_rejected-requires-clause-lines
serve_rejected-requires-clause-lines g c =
    let is = rw c.in-Ok-Refused.field-0-is at c.in-Ok-Refused.ensures in
    rw c.deref.ensures.value is.1.2

pub returns-in-Ok-Refused : goal.returns-in-Ok-Refused
returns-in-Ok-Refused g c =
    let is = rw c.in-Ok-Refused.field-0-is at c.in-Ok-Refused.ensures in
    let file = subst (λ (xs : List ListedDiag). ComesTo c.args.bytes.now (Listed (program_of c.in-Ok-Refused.program) (map listed_diag xs))) (sym c.deref.ensures.value) is.0.is in
    checked_file (job_seen c.args.job) c.args.bytes.now _ _ _ _ _ (program_of c.in-Ok-Refused.program) (map listed_diag c.deref.result.now) file _ c.serve_rejected.result c.serve_rejected.ensures

pub returns-in-Err : goal.returns-in-Err
returns-in-Err g c = faulty_file (job_seen c.args.job) c.args.bytes.now _ _ _ _ _ c.in-Err.fault c.refuse_text.result c.in-Err.ensures refl c.refuse_text.ensures
