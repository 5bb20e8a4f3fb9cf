use Rattle.life_core.specs.Function.{program_of}
use Rattle.life_cli.proofs.Served.{summary_serves}
use Rattle.life_cli.proofs.summary.sum_up.Goals as goal

pub returns : goal.returns
returns g c = summary_serves c.args.bytes (program_of c.args.program.now) c.in_ok-reply.reply _ _ c.hand_out.result c.in_ok-reply.ensures c.hand_out.ensures
