use Rattle.life_types.proofs.FactLemmas.{added_struct}
use Rattle.life_types.proofs.table.TypeTable.add_struct.Goals as goal

pub invariant_of-self-2 : goal.invariant_of-self-2
invariant_of-self-2 c =
    (added_struct c.self.inside.types.entries c.self.inside.structs.items c.self.invariant c.args.members c.args.self.now c.self.view_is c.requires.parts c.requires.room c.push.new.self.items c.in_ok-push.ensures.items).kept

pub returns-clause-trees : goal.returns-clause-trees
returns-clause-trees c =
    (added_struct c.self.inside.types.entries c.self.inside.structs.items c.self.invariant c.args.members c.args.self.now c.self.view_is c.requires.parts c.requires.room c.push.new.self.items c.in_ok-push.ensures.items).trees
