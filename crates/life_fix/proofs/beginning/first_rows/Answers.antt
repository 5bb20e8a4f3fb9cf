use Rattle.std.proofs.Common.{◌≡◌, ◌∙◌, ap, arith, drop, length}
use Rattle.std.proofs.lemmas.List.{take_at}
use Rattle.life_core.specs.Function.{function_of}
use Rattle.life_core.specs.Linked.{points_of}
use Rattle.life_fix.proofs.Starting.{start_is}
use Rattle.life_fix.proofs.beginning.first_rows.Goals as goal

pub returns-clause-start : goal.returns-clause-start
returns-clause-start g c =
    let flow = c.args.flow.now in
    let rows = c.in_ok-rows.rows in
    let count : length c.deref_mut.result.now ≡ points_of (function_of flow.f.now) = omega (arith, c.deref_mut.ensures.len, c.in_ok-rows.ensures.count, c.requires.count, ap length c.deref_mut.ensures.value) in
    let back = take_at c.start.new.rows (drop (length c.start.new.rows) rows.items) rows.len (c.start.auto.rows ∙ c.deref_mut.ensures.len) in
    rw back (start_is g.R.Rows.has flow.types.now (function_of flow.f.now) flow.table.now c.deref.result.now c.start.new.rows (length c.deref_mut.result.now) c.requires.table
    (c.deref.ensures.value ∙ c.in_ok-facts.ensures) count c.in_ok-start.ensures.starts)
