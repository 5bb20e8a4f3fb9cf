-- The layouts that the machine keeps of a program's types.
use Rattle.std.specs.Prelude.{◌<◌, ◌≤◌, ◌^◌, Bool, nat_le, length}
use Rattle.life_types.specs.Types.{Types}
use Rattle.life_types.specs.declared.ty.TyId.{TyId}
use Rattle.life_store.specs.Parts.{width_at}
use Rattle.life_values.specs.Layouts.{AreLaid}
use Rattle.life_values.specs.declared.layout.Layout.{Layout}
use Rattle.life_interp.specs.declared.layouts.Layouts.{Layouts}

-- the words of a value have numbers of 32 bits
abbrev pub is_narrow : Layout → Bool
is_narrow l = nat_le l.width (2 ^ 32)

-- one for each type of the table, and more steps of owning than there are types, and no value has more words than can be numbered
pub record AreReady (types : Types) (layouts : Layouts) : Type 0 where
  pub laid : AreLaid types layouts.all.items
  pub deep : length types.types < layouts.depth
  pub narrow : (ty : TyId) → width_at types ty ≤ 2 ^ 32
