use Rattle.std.proofs.Common.{sym, ap, ◌∙◌, map}
use Rattle.std.specs.Prelude.{option_and_then}
use Rattle.life_core.specs.Link.{link_seen}
use Rattle.life_core.specs.Linked.{numbered}
use Rattle.life_interp.proofs.CodeLists.{numbered_is}
use Rattle.life_interp.proofs.links.link_at.Goals as goal

pub returns-else-number-eq0 : goal.returns-else-number-eq0
returns-else-number-eq0 c =
    numbered_is c.args.code.now c.in-Some.number c.nth.result c.if-number-eq0.false c.nth.ensures
    ∙ ap (option_and_then (numbered (map link_seen c.args.code.now))) (sym c.in-Some.is)
