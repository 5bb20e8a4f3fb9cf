use Rattle.std.proofs.Common.{◌≡◌, map, take}
use Rattle.life_core.specs.Link.{link_seen}
use Rattle.life_interp.specs.Flats.{table_in}
use Rattle.life_interp.proofs.flat.table_of.Given as goal

-- the points that were passed
abbrev pub invariant-loop-link : goal.invariant-loop-link
invariant-loop-link l = l.table.items ≡ table_in (map link_seen (take l.link-index l.links))
