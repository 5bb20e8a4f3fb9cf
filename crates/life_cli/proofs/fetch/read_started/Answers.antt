use Rattle.life_cli.proofs.Fetching.{read_fetches}
use Rattle.life_cli.proofs.fetch.read_started.Goals as goal

pub returns-in-Ok-clause-fetches : goal.returns-in-Ok-clause-fetches
returns-in-Ok-clause-fetches g c =
    (c.in-Ok.ensures.cause.quiet, (read_fetches _ c.in-Ok.bytes.items c.limited.result c.in-Ok.ensures.whole c.limited.ensures.text, c.limited.ensures.short))
