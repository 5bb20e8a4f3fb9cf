use Rattle.std.proofs.Common.{◌≡◌, ◌∙◌, sym}
use Rattle.life_cli.proofs.Served.{reply_serves}
use Rattle.life_cli.specs.Answer.{line}
use Rattle.life_cli.specs.Usage.{usage}
use Rattle.life_cli.specs.declared.status.Status.TheVariants.{Usage}
use Rattle.life_cli.proofs.usage.show.Goals as goal

pub returns : goal.returns
returns g c =
    reply_serves (λ a. a ≡ record { status = Usage; out = c.args.text.now; err = line usage }) c.in_ok-reply.reply _ _ c.hand_out.result c.in_ok-reply.ensures
    (λ a is. is ∙ sym c.in_ok-reply.ensures) c.hand_out.ensures
