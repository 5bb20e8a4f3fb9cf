use Rattle.std.proofs.Common.{◌≡◌, length, subst}
use Rattle.std.specs.Prelude.{IfSome}
use Rattle.life_core.specs.Function.{function_of}
use Rattle.life_pset.specs.Table.{table_of}
use Rattle.life_fix.proofs.PointRows.{limit_at}
use Rattle.life_core_rows.proofs.derive.push_carried.Goals as goal

pub push_from-requires-clause-locations : goal.push_from-requires-clause-locations
push_from-requires-clause-locations g c =
    let t = table_of c.args.given.types.now (function_of c.args.given.f.now) in
    let limit = g.R.Rows.location_limit in
    subst (λ row. IfSome row (λ r. limit r.now ≡ length t.locations)) c.in-Some.is (limit_at limit (length t.locations) c.args.sol.now.rows c.args.edge.from.0 c.row.result c.row.ensures c.requires.locations)

pub push_from-requires-clause-elements : goal.push_from-requires-clause-elements
push_from-requires-clause-elements g c =
    let t = table_of c.args.given.types.now (function_of c.args.given.f.now) in
    let limit = g.R.Rows.element_limit in
    subst (λ row. IfSome row (λ r. limit r.now ≡ length t.elements)) c.in-Some.is (limit_at limit (length t.elements) c.args.sol.now.rows c.args.edge.from.0 c.row.result c.row.ensures c.requires.elements)
