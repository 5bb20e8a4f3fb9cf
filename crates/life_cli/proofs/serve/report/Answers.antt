use Rattle.std.proofs.Common.{map}
use Rattle.life_core.specs.Function.{program_of}
use Rattle.life_rules.specs.Listing.{listed_diag}
use Rattle.life_cli.proofs.Served.{report_serves}
use Rattle.life_cli.proofs.serve.report.Goals as goal

pub returns : goal.returns
returns g c = report_serves c.args.json (program_of c.args.program.now) (map listed_diag c.args.found.now) c.in_ok-reply.reply _ _ c.hand_out.result c.in_ok-reply.ensures c.hand_out.ensures
