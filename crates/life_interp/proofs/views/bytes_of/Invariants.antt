use Rattle.std.proofs.Common.{◌≡◌, map, take}
use Rattle.life_core.specs.Function.{name_bytes}
use Rattle.life_pointers.specs.Bytes.{stored_bytes}
use Rattle.life_interp.proofs.views.bytes_of.Given as goal

-- those before the position
abbrev pub invariant-loop-position : goal.invariant-loop-position
invariant-loop-position g l = l.bytes.items ≡ take l.position (stored_bytes (map name_bytes l.texts) (g.S.Store.content l.store) (g.S.Store.rows l.store) l.view)
