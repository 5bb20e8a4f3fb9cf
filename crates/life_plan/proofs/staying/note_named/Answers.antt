use Rattle.std.proofs.lemmas.Result.{on_ok_weaker}
use Rattle.life_plan.proofs.Changing.{becomes_named}
use Rattle.life_plan.proofs.staying.note_named.Goals as goal

pub returns-in-Some-clause-noted : goal.returns-in-Some-clause-noted
returns-in-Some-clause-noted c =
    on_ok_weaker c.note_change.result
    (becomes_named c.args.table.now.elements c.args.other.now c.in-Some.m c.number.result c.in-Some.is c.in-Some.ensures.some c.number.ensures.each c.args.becoming.now.items c.note_change.new.becoming.items c.args.e)
    c.note_change.ensures.noted
