use Rattle.std.proofs.Common.{ap, ◌∙◌, ◌≡◌, codes}
use Rattle.std.proofs.lemmas.Result.{IfOk-weaker}
use Rattle.clap.specs.Words.{app_of, new_app}
use Rattle.life_job.specs.Command.{lifecheck, with_entry, with_flags, with_limits, with_version, with_words}
use Rattle.life_job.proofs.command.lifecheck_command.Goals as goal

pub returns : goal.returns
unfolding lifecheck
returns c =
    let new = with_version (new_app (codes "lifecheck")) in
    let words : app_of c.in_ok-command.command ≡ with_words new = c.in_ok-command.ensures ∙ ap with_words c.new_command.ensures in
    let entry : app_of c.in_ok-command-2.command ≡ with_entry (with_words new) = c.in_ok-command-2.ensures ∙ ap with_entry words in
    let limits : app_of c.in_ok-command-3.command ≡ with_limits (with_entry (with_words new)) = c.in_ok-command-3.ensures ∙ ap with_limits entry in
    IfOk-weaker c.add_flags.result _ _ (λ r h. h ∙ ap with_flags limits) c.add_flags.ensures
