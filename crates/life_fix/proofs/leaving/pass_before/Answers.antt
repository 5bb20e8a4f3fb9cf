use Rattle.std.proofs.Common.{None, arith, get_or}
use Rattle.std.proofs.lemmas.Option.{slice_get-get_or, slice_get_within}
use Rattle.life_core.specs.declared.stmt.Edge.{Edge}
use Rattle.life_fix.proofs.PutBack.{begins_at, begins_later, begins_past}
use Rattle.life_fix.proofs.leaving.pass_before.Goals as goal

-- an edge that no list is read at
abbrev no_edge : Edge
no_edge = record { from = record { 0 = 0 }; to = record { 0 = 0 }; branch = None }

pub loop-k-preserved : goal.loop-k-preserved
loop-k-preserved c = begins_later c.args.edges.now c.args.point c.loop-k.k no_edge c.loop-k.invariant c.if-edges-k.false

pub returns-then-edges-k : goal.returns-then-edges-k
returns-then-edges-k c =
    let edges = c.args.edges.now in
    begins_at edges c.args.point c.loop-k.k (get_or edges c.loop-k.k no_edge) c.requires.ascending (slice_get-get_or edges c.loop-k.k no_edge c.loop-k-test.true) c.if-edges-k.true c.loop-k.invariant

pub returns : goal.returns
returns c = begins_past c.args.edges.now c.args.point (λ k edge at. c.loop-k.invariant k edge at (omega (arith, slice_get_within c.args.edges.now k edge at, c.loop-k-test.false)))
