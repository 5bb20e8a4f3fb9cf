use Rattle.std.proofs.Common.{length, subst}
use Rattle.life_pset.specs.Table.{Table}
use Rattle.life_fix.specs.Solution.{AllLimited}
use Rattle.life_core_rows.proofs.derive.found_by.Goals as goal

pub push_all_carried-requires-clause-locations : goal.push_all_carried-requires-clause-locations
push_all_carried-requires-clause-locations g c =
    let solves = c.in_ok-sol.ensures.solution in
    subst (λ (t : Table). AllLimited g.R.Rows.location_limit (length t.locations) c.in_ok-sol.sol.rows) solves.table solves.locations

pub push_all_carried-requires-clause-elements : goal.push_all_carried-requires-clause-elements
push_all_carried-requires-clause-elements g c =
    let solves = c.in_ok-sol.ensures.solution in
    subst (λ (t : Table). AllLimited g.R.Rows.element_limit (length t.elements) c.in_ok-sol.sol.rows) solves.table solves.elements
