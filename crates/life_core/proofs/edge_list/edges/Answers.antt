use Rattle.std.proofs.Common.{sym, subst}
use Rattle.life_core.specs.Function.{function_of}
use Rattle.life_core.specs.Linked.{points_of, AllJoin, AreAscending}
use Rattle.life_core.proofs.EdgeLemmas.{edges_of_is, all_join, ascending}
use Rattle.life_core.proofs.edge_list.edges.Goals as goal

pub returns-clause-all : goal.returns-clause-all
returns-clause-all c = rw (c.in_ok-push_edges.ensures, c.new-edges.ensures.items) (edges_of_is (function_of c.args.f.now))

pub returns-clause-join : goal.returns-clause-join
returns-clause-join c =
    let f = function_of c.args.f.now in
    subst (AllJoin (points_of f)) (sym (returns-clause-all c)) (all_join f)

pub returns-clause-ascending : goal.returns-clause-ascending
returns-clause-ascending c = subst AreAscending (sym (returns-clause-all c)) (ascending (function_of c.args.f.now))
