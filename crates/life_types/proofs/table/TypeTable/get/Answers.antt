use Rattle.std.proofs.Common.{sym}
use Rattle.life_types.proofs.FactLemmas.{type_at, no_type_at}
use Rattle.life_types.proofs.table.TypeTable.get.Goals as goal

pub returns-in-Some : goal.returns-in-Some
returns-in-Some c = rw (← c.self.view_is) (sym (type_at c.self.inside.types.entries c.args.id.0 _ (sym c.in-Some.ensures.entry)))

pub returns-in-None : goal.returns-in-None
returns-in-None c = rw (← c.self.view_is) (sym (no_type_at c.self.inside.types.entries c.args.id.0 (sym c.in-None.ensures.entry)))
