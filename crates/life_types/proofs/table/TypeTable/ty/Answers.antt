use Rattle.std.proofs.Common.{◌≡◌, Some, slice_get, sym}
use Rattle.life_types.proofs.FactLemmas.{made_of_parts, type_at}
use Rattle.life_types.proofs.table.TypeTable.ty.Goals as goal

pub returns-clause-ty : goal.returns-clause-ty
returns-clause-ty c = rw (← c.self.view_is) (type_at c.self.inside.types.entries c.args.id.0 _ (sym c.in-Some.ensures.entry))

pub returns-clause-made : goal.returns-clause-made
returns-clause-made c =
    let here : slice_get c.args.self.now.types c.args.id.0 ≡ Some c.in-Some.ty.now = returns-clause-ty c in
    made_of_parts c.self.inside.types.entries c.self.inside.structs.items c.self.invariant c.args.self.now c.self.view_is c.args.id c.in-Some.ty.now here
