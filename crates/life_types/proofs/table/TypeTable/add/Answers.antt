use Rattle.std.proofs.Common.{[], sym}
use Rattle.life_types.specs.contracts.ty.TyPartialEq.TheImpl.{ghosts as compared}
use Rattle.life_types.proofs.FactLemmas.{made_of_parts}
use Rattle.life_types.proofs.Numbers.{each_once, found_at, none_at, unchanged}
use Rattle.life_types.proofs.table.TypeTable.add.Goals as goal

pub push-requires-clause-absent : goal.push-requires-clause-absent
push-requires-clause-absent c = rw (← c.self.view_is) (none_at (compared.eq c.args.ty) _ (sym c.in-None.ensures.index))

pub returns-in-Some-clause-number : goal.returns-in-Some-clause-number
returns-in-Some-clause-number c = rw (← c.self.view_is) (found_at _ c.args.ty c.in-Some.number (sym c.in-Some.ensures.index)).there

pub returns-in-Some-clause-grown : goal.returns-in-Some-clause-grown
returns-in-Some-clause-grown c =
    unchanged c.args.self.now c.args.ty
    (rw (← c.self.view_is) (found_at _ c.args.ty c.in-Some.number (sym c.in-Some.ensures.index)).same)

pub returns-in-Some-clause-made : goal.returns-in-Some-clause-made
returns-in-Some-clause-made c =
    made_of_parts c.self.inside.types.entries c.self.inside.structs.items c.self.invariant c.args.self.now c.self.view_is (record { 0 = c.in-Some.number }) c.args.ty
    (rw (← c.self.view_is) (found_at _ c.args.ty c.in-Some.number (sym c.in-Some.ensures.index)).there)

pub returns-in-Some-clause-once : goal.returns-in-Some-clause-once
returns-in-Some-clause-once c = rw (← c.self.view_is) (each_once _ [] c.get_index_of.ensures.unique)
