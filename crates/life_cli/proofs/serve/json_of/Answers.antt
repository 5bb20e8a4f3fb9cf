use Rattle.std.proofs.Common.{◌≡◌, ◌∙◌, arith, map}
use Rattle.std.proofs.lemmas.Result.{IfOk-weaker}
use Rattle.life_core.specs.Function.{program_of}
use Rattle.life_json.proofs.ListedJson.{json_is}
use Rattle.life_json.specs.JsonReports.{json_report}
use Rattle.life_rules.specs.Listing.{listed_diag}
use Rattle.life_cli.proofs.Functions.{count_seen}
use Rattle.life_cli.proofs.serve.json_of.Goals as goal

pub returns : goal.returns
returns c =
    let p = program_of c.args.program.now in
    let functions = c.args.program.now.functions in
    let count = count_seen functions.items c.len.result (omega (arith, c.len.ensures, functions.ok.0)) in
    IfOk-weaker c.json_report.result _ (λ text. text.items ≡ json_report p (map listed_diag c.args.found.now))
    (λ text is. is ∙ json_is p c.len.result c.args.found.now count c.requires) c.json_report.ensures
