use Rattle.life_core.specs.Function.{function_of}
use Rattle.life_fix.proofs.Solved.{solution_of}
use Rattle.life_fix.proofs.solver.solve_listed.Goals as goal

pub returns-clause-solution : goal.returns-clause-solution
returns-clause-solution g c =
    let rows = c.in_ok-rows.ensures in
    solution_of g.R.Rows.has g.R.Rows.location_limit g.R.Rows.element_limit c.args.sigs.now c.args.types.now (function_of c.args.f.now) c.new.result c.in_ok-table.table c.in_ok-rows.rows.items
    c.new.ensures.table c.new.ensures.rows c.in_ok-table.ensures rows.count rows.solved rows.locations rows.elements
