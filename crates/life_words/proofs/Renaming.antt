-- What lives gets another number.
use Rattle.std.proofs.Common.{◌≡◌, Option, Some, None, IsSome, IfSome}
use Rattle.life_store.specs.Cells.{set, unset}
use Rattle.life_store.specs.Content.{Object, Content, with_rename}
use Rattle.life_store.specs.References.{Rows}
use Rattle.life_store.specs.declared.object.ObjRef.{ObjRef}
use Rattle.life_seen.specs.Housed.{Later}
use Rattle.life_seen.proofs.Calls.{later_rename}

pub none_is : IsSome (let x : Option Object = None in x) → ⊥
none_is e = cc

pub later_renamed : (c d : Content) (rows new : Rows) (r q : ObjRef) (x : Option Object) → IsSome x → IfSome x (λ o. d ≡ with_rename r.birth o c) → q.birth ≡ c.births → new ≡ set (unset rows r.birth) q.birth q.row → Later c d rows new
later_renamed c d rows new r q None some is number placed = absurd (none_is some)
later_renamed c d rows new r q (Some o) some is number placed = later_rename c rows d new r q o number is placed
