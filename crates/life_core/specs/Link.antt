-- References to points that know where they lead, as what they refer to.
use Rattle.std.specs.Prelude.{List, []}
use Rattle.life_core.specs.declared.link.Leads.{Leads}
use Rattle.life_core.specs.declared.link.Leads.TheVariants as reference
use Rattle.life_core.specs.declared.link.LinkRef.{LinkRef}
use Rattle.life_core.specs.Linked.{Lead, Linked, goes, parts}
use Rattle.life_core.specs.Node.{spot_seen}

-- the ways on
abbrev pub leads_seen : Leads → List Lead
leads_seen reference.Nowhere = []
leads_seen (reference.On next) = goes next
leads_seen (reference.Parts held failed) = parts held failed

-- the point
abbrev pub link_seen : LinkRef → Linked
link_seen l = record { spot = spot_seen l.spot; leads = leads_seen l.leads }
