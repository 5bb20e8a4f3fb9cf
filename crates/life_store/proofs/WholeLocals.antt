-- A location without members is its local.
use Rattle.std.proofs.Common.{◌≡◌, [], ap}
use Rattle.life_types.specs.Types.{Types}
use Rattle.life_core.specs.Function.{Function}
use Rattle.life_core.specs.Operands.{Location}
use Rattle.life_store.specs.Doing.{Next, cell, put_cell, location_cell, member_cell, pointed, member_pointed}
use Rattle.life_store.specs.State.{Pointer, Points, State}

module _ (types : Types) (f : Function) (l : Location) (st : State) (whole : l.members ≡ []) where
  pub whole_cell : location_cell types f l st ≡ cell st l.local
  whole_cell = ap (λ ms. member_cell types f l.local ms (cell st l.local) st.world.content) whole

  pub whole_pointed : (p : Pointer) → pointed types f l p st ≡ Next (put_cell l.local (Points p) st)
  whole_pointed p = ap (λ ms. member_pointed types f l.local ms (cell st l.local) p st) whole
