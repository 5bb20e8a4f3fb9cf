use Rattle.std.proofs.Common.{length, refl}
use Rattle.std.proofs.lemmas.Option.{slice_get-get_or, slice_get_read}
use Rattle.life_values.proofs.Joining.{below_at, joining_next}
use Rattle.life_values.proofs.layouts.joined.Goals as goal

pub bounds-before-member : goal.bounds-before-member
bounds-before-member c =
    let here = slice_get-get_or c.args.members.now c.loop-member.member-index (record { 0 = 0 }) c.loop-member-test.true in
    below_at (length c.args.before.now) c.args.members.now c.loop-member.member-index _ c.requires here

pub loop-member-preserved : goal.loop-member-preserved
loop-member-preserved c =
    let here = slice_get-get_or c.args.members.now c.loop-member.member-index (record { 0 = 0 }) c.loop-member-test.true in
    let lt = below_at (length c.args.before.now) c.args.members.now c.loop-member.member-index _ c.requires here in
    joining_next c.args.before.now c.args.members.now c.loop-member.layout c.loop-member.member-index c.loop-member.invariant _ here c.index-before-member.result
    (slice_get_read c.args.before.now _ _ c.index-before-member.result refl lt c.index-before-member.is)
    c.append.new.self c.in_ok-append.ensures.width c.in_ok-append.ensures.leaves c.in_ok-append.ensures.owners
