use Rattle.std.proofs.Common.{◌∙◌, ◌≡◌, ap, false}
use Rattle.std.proofs.lemmas.Result.{IfOk-weaker}
use Rattle.serde_json.specs.View.{view}
use Rattle.serde_json.specs.Written.{compact_text, has_float}
use Rattle.life_json.specs.JsonReports.{listed_report_data}
use Rattle.life_json.proofs.NoFloats.{report_has_none}
use Rattle.life_json.proofs.json.report_text.Goals as goal

pub returns : goal.returns
returns c =
    let value = c.in_ok-report_value.field-0 in
    let is : view value ≡ listed_report_data c.args.functions c.args.found.now = c.in_ok-report_value.ensures in
    let none : has_float (view value) ≡ false = ap has_float is ∙ report_has_none c.args.functions c.args.found.now in
    IfOk-weaker c.to_string.result _ _ (λ text h. h none ∙ ap compact_text is) c.to_string.ensures.text
