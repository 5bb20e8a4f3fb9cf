use Rattle.std.proofs.Common.{Err, ap, arith}
use Rattle.life_store.specs.Content.{Content}
use Rattle.life_values.proofs.Beginning.{first_born, first_fails, ok_err}
use Rattle.life_values.proofs.fresh_value.buffer_word.Goals as goal

pub returns-in-Err-clause-first : goal.returns-in-Err-clause-first
returns-in-Err-clause-first g c kinds s housed cells =
    first_fails kinds s (g.S.Store.content c.args.store.now) (g.S.Store.rows c.args.store.now) c.args.ty c.args.width (g.S.Store.limit c.args.store.now) cells c.in-Err.fault (λ e. c.in-Err.ensures.cells.0 (ap Err e))
    (g.S.Store.content c.born.new.store) (g.S.Store.rows c.born.new.store)

pub returns-in-Ok-clause-first : goal.returns-in-Ok-clause-first
returns-in-Ok-clause-first g c kinds s housed cells =
    first_born kinds s (g.S.Store.content c.args.store.now) (g.S.Store.rows c.args.store.now) c.args.ty c.args.width (g.S.Store.limit c.args.store.now) cells (λ full. ok_err (c.in-Ok.ensures.cells.1 full))
    (g.S.Store.content c.born.new.store) (g.S.Store.rows c.born.new.store) c.in-Ok.buffer c.in-Ok.ensures.number c.in-Ok.ensures.placed (c.in-Ok.ensures.shows kinds housed) _ (omega arith)

pub returns-in-Ok-clause-births : goal.returns-in-Ok-clause-births
returns-in-Ok-clause-births g c = let e = ap (λ (x : Content). x.births) c.in-Ok.ensures.born in omega (arith, e)

pub returns-in-Ok-clause-clock : goal.returns-in-Ok-clause-clock
returns-in-Ok-clause-clock g c = ap (λ (x : Content). x.clock) c.in-Ok.ensures.born

pub returns-in-Ok-clause-rowed : goal.returns-in-Ok-clause-rowed
returns-in-Ok-clause-rowed g c kinds rowed = c.in-Ok.ensures.rowed kinds rowed
