use Rattle.std.proofs.Common.{drop_of_length-le}
use Rattle.life_pset.proofs.CandidateLemmas.{places_pushed}
use Rattle.life_pset.proofs.place_list.+push_places.Goals as goal

pub returns-after-loop-m : goal.returns-after-loop-m
returns-after-loop-m t c =
    let ids = c.members_of-member-items.result.now in
    places_pushed c.args.at c.args.types.now c.args.id c.in-Struct.number c.loop-m.m ids c.loop-m.all.items c.args.all.now.items
    c.in-Struct.ensures.made c.members_of-member-items.ensures.members (drop_of_length-le ids c.loop-m-test.false) c.push.new.self.items c.in_ok-push.ensures.items c.loop-m.invariant.added
