-- Pointers fit later, too, and can be written where births can be counted.
use Rattle.std.proofs.Common.{arith}
use Rattle.life_store.specs.Content.{CanCount, Content}
use Rattle.life_store.specs.References.{Rows}
use Rattle.life_seen.specs.Housed.{Later}
use Rattle.life_seen.proofs.References.{ref_later}
use Rattle.life_pointers.specs.Pointers.{CanStore, PointerFits}
use Rattle.life_pointers.specs.declared.pointer.Pointer.{Pointer}
use Rattle.life_pointers.specs.declared.pointer.Pointer.TheVariants as leads

pub pointer_later : (c d : Content) (rows new : Rows) → Later c d rows new → (p : Pointer) → PointerFits c rows p → PointerFits d new p
pointer_later c d rows new later leads.Null fits = tt
pointer_later c d rows new later leads.Wild fits = tt
pointer_later c d rows new later (leads.To index count word object moment) fits = (ref_later c d rows new object later fits.0, fits.1)
pointer_later c d rows new later (leads.Static s) fits = fits

pub can_store : (c : Content) (rows : Rows) → CanCount c → (p : Pointer) → PointerFits c rows p → CanStore p
can_store c rows can leads.Null fits = tt
can_store c rows can leads.Wild fits = tt
can_store c rows can (leads.To index count word object moment) fits = (let below = can.births in let born = fits.0.born in omega (arith, below, born), fits.1)
can_store c rows can (leads.Static s) fits = tt
