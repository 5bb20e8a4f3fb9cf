use Rattle.std.proofs.Common.{ap, sym}
use Rattle.life_types.specs.Facts.{facts}
use Rattle.life_types.proofs.FactLemmas.{void_at}
use Rattle.life_types.proofs.table.TypeTable.facts_at.Goals as goal

pub returns-in-None : goal.returns-in-None
returns-in-None c =
    let inside = c.self.inside in
    rw (← c.self.view_is) (sym (ap facts (void_at inside.types.entries inside.structs.items c.args.id (sym c.in-None.ensures.entry))))
