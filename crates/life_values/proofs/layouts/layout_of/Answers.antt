use Rattle.life_values.proofs.Joining.{has_struct, members_below, struct_laid}
use Rattle.life_values.proofs.layouts.layout_of.Goals as goal

pub members-requires : goal.members-requires
members-requires c = has_struct c.args.types.now c.in-Struct.ensures.ordered c.args.id c.in-Struct.number c.in-Struct.ensures.ty

pub joined-requires : goal.joined-requires
joined-requires c =
    members_below c.args.types.now c.in-Struct.ensures.ordered c.args.id c.in-Struct.number c.in-Struct.ensures.ty _ c.requires.before.0 c.members.result.now c.members.ensures

pub returns-in-Struct : goal.returns-in-Struct
returns-in-Struct c =
    struct_laid c.args.types.now c.in-Struct.ensures.ordered c.args.id c.in-Struct.number c.in-Struct.ensures.ty c.args.before.now c.requires.before c.members.result.now c.members.ensures c.joined.result c.joined.ensures
