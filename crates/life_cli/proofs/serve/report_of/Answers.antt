use Rattle.std.proofs.Common.{◌≡◌, ◌∙◌, arith, map}
use Rattle.std.proofs.lemmas.Result.{IfOk-weaker}
use Rattle.life_core.specs.Function.{program_of}
use Rattle.life_report.proofs.ListedReports.{report_is}
use Rattle.life_report.specs.Reports.{report_text}
use Rattle.life_rules.specs.Listing.{listed_diag}
use Rattle.life_cli.proofs.Functions.{count_seen}
use Rattle.life_cli.proofs.serve.report_of.Goals as goal

pub returns : goal.returns
returns c =
    let p = program_of c.args.program.now in
    let functions = c.args.program.now.functions in
    let count = count_seen functions.items c.len.result (omega (arith, c.len.ensures, functions.ok.0)) in
    IfOk-weaker c.text_report.result _ (λ text. text.items ≡ report_text p (map listed_diag c.args.found.now))
    (λ text is. is ∙ report_is p c.len.result c.args.found.now count c.requires) c.text_report.ensures
