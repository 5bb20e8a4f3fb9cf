use Rattle.std.proofs.Common.{arith, sym, ap, ◌∙◌, ◌<◌, ◌+◌, ◌-◌, length}
use Rattle.std.proofs.lemmas.Option.{slice_get_read}
use Rattle.life_store.specs.Content.{Object, are_settled}
use Rattle.life_store.proofs.Ascending.{end_tells, slot_tells, past_tells}
use Rattle.life_store.proofs.plain_object.PlainObject.are_settled.Goals as goal

pub returns-then-last-len : goal.returns-then-last-len
returns-then-last-len c =
    let last = c.args.first + (c.args.count - 1) in
    sym (end_tells c.self.inside c.self.invariant c.args.moment c.args.first c.args.count last (omega (arith, c.if-count-eq0.false)) (omega (arith, c.if-count-eq0.false))
    (omega (arith, c.if-last-len.true, c.len.ensures, c.self.inside.stamps.ok.0)))
    ∙ ap (λ (o : Object). are_settled o c.args.first c.args.count c.args.moment) c.self.view_is

pub returns-then-last-len-2 : goal.returns-then-last-len-2
returns-then-last-len-2 c =
    let last = c.args.first + (c.args.count - 1) in
    let stamps = c.self.inside.stamps in
    let read = slice_get_read stamps.items stamps.len last c.index.result.now stamps.ok.0 (omega (arith, c.if-last-len-2.true, c.len-else-last-len.ensures)) c.index.ensures in
    sym (slot_tells c.self.inside c.self.invariant c.args.moment c.args.first c.args.count last (omega (arith, c.if-count-eq0.false)) (omega (arith, c.if-count-eq0.false)) c.index.result.now read)
    ∙ ap (λ (o : Object). are_settled o c.args.first c.args.count c.args.moment) c.self.view_is

pub returns-else-last-len-2 : goal.returns-else-last-len-2
returns-else-last-len-2 c =
    let last = c.args.first + (c.args.count - 1) in
    let past : length c.self.inside.stamps.items < last = omega (arith, c.if-last-len.false, c.if-last-len-2.false, c.len.ensures, c.len-else-last-len.ensures, c.self.inside.stamps.ok.0) in
    sym (past_tells c.self.inside c.self.invariant c.args.moment c.args.first c.args.count last (omega (arith, c.if-count-eq0.false)) (omega (arith, c.if-count-eq0.false)) past)
    ∙ ap (λ (o : Object). are_settled o c.args.first c.args.count c.args.moment) c.self.view_is
