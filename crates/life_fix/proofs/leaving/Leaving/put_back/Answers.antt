use Rattle.std.proofs.Common.{◌<◌, ◌+◌, None, arith, get_or, length, subst}
use Rattle.std.proofs.lemmas.Grind.{common_steps}
use Rattle.std.proofs.lemmas.Option.{get_or_from_slice_get, slice_get-get_or}
use Rattle.life_core.specs.declared.stmt.Edge.{Edge}
use Rattle.life_sets.specs.NumberSets.{holds}
use Rattle.life_fix.specs.Solving.{set_at, IsPutBack}
use Rattle.life_fix.proofs.PutBack.{before_next, begins, leave_between, put_all}
use Rattle.life_fix.proofs.leaving.Leaving.put_back.Goals as goal

-- an edge that no list is read at
abbrev no_edge : Edge
no_edge = record { from = record { 0 = 0 }; to = record { 0 = 0 }; branch = None }

pub add_between-requires-clause-order : goal.add_between-requires-clause-order
add_between-requires-clause-order c =
    let edges = c.args.edges.now in
    let firsts = c.args.self.now.firsts.items in
    let edge = get_or edges c.args.k no_edge in
    let reach : edge.to.0 + 1 < length firsts = c.requires.leaving.reach c.args.k edge (slice_get-get_or edges c.args.k no_edge c.requires.k) in
    let before = begins edges firsts _ c.requires.leaving.each edge.to.0 c.index-first.result.now (omega (arith, reach)) c.index-first.ensures in
    let by = begins edges firsts _ c.requires.leaving.each (edge.to.0 + 1) c.index-past.result.now reach c.index-past.ensures in
    before_next edges edge.to.0 c.index-first.result.now c.index-past.result.now before by

pub add_between-requires-clause-past : goal.add_between-requires-clause-past
add_between-requires-clause-past c =
    let edges = c.args.edges.now in
    let firsts = c.args.self.now.firsts.items in
    let edge = get_or edges c.args.k no_edge in
    let reach : edge.to.0 + 1 < length firsts = c.requires.leaving.reach c.args.k edge (slice_get-get_or edges c.args.k no_edge c.requires.k) in
    let before = begins edges firsts _ c.requires.leaving.each edge.to.0 c.index-first.result.now (omega (arith, reach)) c.index-first.ensures in
    let by = begins edges firsts _ c.requires.leaving.each (edge.to.0 + 1) c.index-past.result.now reach c.index-past.ensures in
    grind (arith, common_steps, by.0, c.requires.count)

pub returns-clause-put : goal.returns-clause-put
returns-clause-put c =
    let edges = c.args.edges.now in
    let firsts = c.args.self.now.firsts.items in
    let edge = get_or edges c.args.k no_edge in
    let reach : edge.to.0 + 1 < length firsts = c.requires.leaving.reach c.args.k edge (slice_get-get_or edges c.args.k no_edge c.requires.k) in
    let before = begins edges firsts _ c.requires.leaving.each edge.to.0 c.index-first.result.now (omega (arith, reach)) c.index-first.ensures in
    let by = begins edges firsts _ c.requires.leaving.each (edge.to.0 + 1) c.index-past.result.now reach c.index-past.ensures in
    let within : c.args.k < length c.args.dues.now = omega (arith, c.requires.k, c.requires.count) in
    λ other at.
    subst (λ (e : Edge). IsPutBack edges c.args.k e.to.0 (holds c.args.gained.now) (set_at c.args.dues.now) (set_at c.add_between.new.dues)) (get_or_from_slice_get edges c.args.k other no_edge at)
    (put_all edges c.args.k edge.to.0 c.index-first.result.now c.index-past.result.now (holds c.args.gained.now) c.args.dues.now c.clear.new.self (set_at c.add_between.new.dues) within c.clear.ensures.none
    (leave_between edges edge.to.0 c.index-first.result.now c.index-past.result.now before by) c.add_between.ensures.adds)
