use Rattle.std.proofs.Common.{◌≡◌, drop, map}
use Rattle.life_core.specs.Function.{name_bytes}
use Rattle.life_store.specs.Views.{are_same}
use Rattle.life_pointers.specs.Bytes.{stored_bytes}
use Rattle.life_pointers.proofs.bytes.same_bytes.Given as goal

-- what is left decides
abbrev pub invariant-loop-index : goal.invariant-loop-index
invariant-loop-index g l =
    are_same
    (stored_bytes (map name_bytes l.texts) (g.S.Store.content l.store) (g.S.Store.rows l.store) l.left)
    (stored_bytes (map name_bytes l.texts) (g.S.Store.content l.store) (g.S.Store.rows l.store) l.right)
    ≡ are_same
    (drop l.index (stored_bytes (map name_bytes l.texts) (g.S.Store.content l.store) (g.S.Store.rows l.store) l.left))
    (drop l.index (stored_bytes (map name_bytes l.texts) (g.S.Store.content l.store) (g.S.Store.rows l.store) l.right))
