-- What the plain store keeps.
use Rattle.std.specs.Prelude.{◌≡◌, ◌≤◌, ◌<◌, ◌^◌}
use Rattle.life_store.specs.PlainRows.{Table, cost_in, AreNumbered, ArePast, AreTaken}
use Rattle.life_store.specs.declared.plain.PlainStore.TheInside.{Inside}

abbrev pub table_in : Inside → Table
table_in a = record { rows = a.rows.items; births = a.births; clock = a.clock; limit = a.limit }

pub record IsSound (a : Inside) : Type 0 where
  pub numbered : AreNumbered a.births a.rows.items
  pub past : ArePast a.clock a.rows.items
  pub live : a.live ≡ cost_in a.rows.items
  pub within : a.live ≤ a.limit
  pub small : a.limit < 2 ^ 32
  pub taken : AreTaken a.lowest a.rows.items
