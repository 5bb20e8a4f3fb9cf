use Rattle.std.proofs.Common.{drop_of_length-le}
use Rattle.life_pset.proofs.CandidateLemmas.{pointers_pushed}
use Rattle.life_pset.proofs.location_list.+push_pointers.Goals as goal

pub returns-after-loop-m : goal.returns-after-loop-m
returns-after-loop-m t c =
    let ids = c.members_of-member-items.result.now in
    pointers_pushed c.args.at c.args.types.now c.args.id c.in-Struct.number c.loop-m.m ids c.loop-m.all.items c.args.all.now.items
    c.in-Struct.ensures.made c.members_of-member-items.ensures.members (drop_of_length-le ids c.loop-m-test.false) c.loop-m.invariant.added
