use Rattle.std.proofs.Common.{ap₂, refl, ◌∙◌, ◌≡◌, codes}
use Rattle.std.proofs.lemmas.Result.{IfOk-weaker}
use Rattle.clap.specs.Words.{app_of, rule_of, with_rule}
use Rattle.life_job.specs.Command.{flag_rule}
use Rattle.life_job.proofs.command.add_flags.Goals as goal

pub returns : goal.returns
returns c =
    let unchecked : rule_of c.flag.result ≡ flag_rule (codes "unchecked") = c.flag.ensures.rule in
    let json : rule_of c.flag-2.result ≡ flag_rule (codes "json") = c.flag-2.ensures.rule in
    let first : app_of c.in_ok-command.command ≡ with_rule (app_of c.args.command) (flag_rule (codes "unchecked")) =
    c.in_ok-command.ensures.shape c.flag.ensures.local ∙ ap₂ with_rule refl unchecked in
    IfOk-weaker c.arg-2.result _ _ (λ r h. h.shape c.flag-2.ensures.local ∙ ap₂ with_rule first json) c.arg-2.ensures
