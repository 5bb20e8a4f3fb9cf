use Rattle.std.proofs.Common.{◌≡◌, map, take}
use Rattle.life_interp.specs.Flats.{table_in}
use Rattle.life_interp.specs.Runs.{links_seen, table_seen}
use Rattle.life_interp.proofs.flat.all_flat.Given as goal

-- the points of the functions that were passed
abbrev pub invariant-loop-links : goal.invariant-loop-links
invariant-loop-links l = map table_seen l.tables.items ≡ map table_in (map links_seen (take l.links-index l.code))
