use Rattle.std.proofs.Common.{◌+◌, ◌<◌, ◌≡◌, arith, get_or, length, refl}
use Rattle.std.proofs.lemmas.Option.{slice_get-get_or}
use Rattle.life_core.specs.Function.{function_of}
use Rattle.life_sets.specs.NumberSets.{holds}
use Rattle.life_plan.specs.Crossing.{crossing_of}
use Rattle.life_fix.proofs.EdgeRuns.{carried_rows, edge_runs, limited_as}
use Rattle.life_fix.proofs.Halves.{at_before, at_behind, write_before, write_behind}
use Rattle.life_fix.proofs.flow.run_edge.Goals as goal

pub returns-in_err-run_row-clause-locations : goal.returns-in_err-run_row-clause-locations
returns-in_err-run_row-clause-locations g c =
    let rows = c.args.rows.now in
    let parts = c.split_at_mut-front in
    let front = parts.result.0.now in
    let back = parts.result.1.now in
    let n = c.row_index-to.result in
    let within : n < length rows = omega (arith, c.row_index-to.ensures, c.requires.join.3) in
    limited_as g.R.Rows.location_limit (length c.args.flow.now.table.now.locations) rows _ n (get_or back 0 c.index-back-0.result) c.run_row.new.into (write_behind rows front back n parts.ensures.value parts.ensures.front_len c.run_row.new.into)
    (at_behind rows front back n parts.ensures.value parts.ensures.front_len c.index-back-0.result parts.ensures.back_len within) c.run_row.ensures.locations c.requires.locations

pub returns-in_err-run_row-clause-elements : goal.returns-in_err-run_row-clause-elements
returns-in_err-run_row-clause-elements g c =
    let rows = c.args.rows.now in
    let parts = c.split_at_mut-front in
    let front = parts.result.0.now in
    let back = parts.result.1.now in
    let n = c.row_index-to.result in
    let within : n < length rows = omega (arith, c.row_index-to.ensures, c.requires.join.3) in
    limited_as g.R.Rows.element_limit (length c.args.flow.now.table.now.elements) rows _ n (get_or back 0 c.index-back-0.result) c.run_row.new.into (write_behind rows front back n parts.ensures.value parts.ensures.front_len c.run_row.new.into)
    (at_behind rows front back n parts.ensures.value parts.ensures.front_len c.index-back-0.result parts.ensures.back_len within) c.run_row.ensures.elements c.requires.elements

pub run_row-requires-clause-carried : goal.run_row-requires-clause-carried
run_row-requires-clause-carried g c =
    let rows = c.args.rows.now in
    let parts = c.split_at_mut-front in
    let front = parts.result.0.now in
    let back = parts.result.1.now in
    let n = c.row_index-to.result in
    let i = c.row_index-from.result in
    let within : n < length rows = omega (arith, c.row_index-to.ensures, c.requires.join.3) in
    let lt : i < n = omega (arith, c.if-from-to.true) in
    let behind = at_behind rows front back n parts.ensures.value parts.ensures.front_len c.index-back-0.result parts.ensures.back_len within in
    let before = at_before rows front back n parts.ensures.value parts.ensures.front_len i c.index-front-from.result lt in
    carried_rows g.R.Rows.has (crossing_of c.args.flow.now.sigs.now c.args.flow.now.types.now (function_of c.args.flow.now.f.now) c.args.edge) c.args.edge c.args.plan.now (holds c.args.due.now) rows i n (get_or front i c.index-front-from.result) (get_or back 0 c.index-back-0.result) c.row_index-from.ensures c.row_index-to.ensures before behind c.requires.carried

pub run_row-requires-then-to-from-clause-carried : goal.run_row-requires-then-to-from-clause-carried
run_row-requires-then-to-from-clause-carried g c =
    let rows = c.args.rows.now in
    let parts = c.split_at_mut-front-then-to-from in
    let front = parts.result.0.now in
    let back = parts.result.1.now in
    let n = c.row_index-from.result in
    let i = c.row_index-to.result in
    let within : n < length rows = omega (arith, c.row_index-from.ensures, c.requires.join.1) in
    let lt : i < n = omega (arith, c.if-to-from.true) in
    let behind = at_behind rows front back n parts.ensures.value parts.ensures.front_len c.index-back-0-then-to-from.result parts.ensures.back_len within in
    let before = at_before rows front back n parts.ensures.value parts.ensures.front_len i c.index-front-to.result lt in
    carried_rows g.R.Rows.has (crossing_of c.args.flow.now.sigs.now c.args.flow.now.types.now (function_of c.args.flow.now.f.now) c.args.edge) c.args.edge c.args.plan.now (holds c.args.due.now) rows n i (get_or back 0 c.index-back-0-then-to-from.result) (get_or front i c.index-front-to.result) c.row_index-from.ensures c.row_index-to.ensures behind before c.requires.carried

pub returns-in_err-run_row-2-clause-locations : goal.returns-in_err-run_row-2-clause-locations
returns-in_err-run_row-2-clause-locations g c =
    let rows = c.args.rows.now in
    let parts = c.split_at_mut-front-then-to-from in
    let front = parts.result.0.now in
    let back = parts.result.1.now in
    let n = c.row_index-from.result in
    let i = c.row_index-to.result in
    let lt : i < n = omega (arith, c.if-to-from.true) in
    limited_as g.R.Rows.location_limit (length c.args.flow.now.table.now.locations) rows _ i (get_or front i c.index-front-to.result) c.run_row-then-to-from.new.into (write_before rows front back n parts.ensures.value parts.ensures.front_len i c.run_row-then-to-from.new.into lt)
    (at_before rows front back n parts.ensures.value parts.ensures.front_len i c.index-front-to.result lt) c.run_row-then-to-from.ensures.locations c.requires.locations

pub returns-in_err-run_row-2-clause-elements : goal.returns-in_err-run_row-2-clause-elements
returns-in_err-run_row-2-clause-elements g c =
    let rows = c.args.rows.now in
    let parts = c.split_at_mut-front-then-to-from in
    let front = parts.result.0.now in
    let back = parts.result.1.now in
    let n = c.row_index-from.result in
    let i = c.row_index-to.result in
    let lt : i < n = omega (arith, c.if-to-from.true) in
    limited_as g.R.Rows.element_limit (length c.args.flow.now.table.now.elements) rows _ i (get_or front i c.index-front-to.result) c.run_row-then-to-from.new.into (write_before rows front back n parts.ensures.value parts.ensures.front_len i c.run_row-then-to-from.new.into lt)
    (at_before rows front back n parts.ensures.value parts.ensures.front_len i c.index-front-to.result lt) c.run_row-then-to-from.ensures.elements c.requires.elements

pub run_around-requires-clause-carried : goal.run_around-requires-clause-carried
run_around-requires-clause-carried g c =
    let rows = c.args.rows.now in
    let i = c.row_index-to.result in
    let row = get_or rows i c.index-rows-to.result in
    let within : i < length rows = omega (arith, c.row_index-to.ensures, c.requires.join.3) in
    let from_is : i + 1 ≡ c.args.edge.from.0 = omega (arith, c.row_index-from.ensures, c.if-from-to.false, c.if-to-from.false) in
    let at = slice_get-get_or rows i c.index-rows-to.result within in
    carried_rows g.R.Rows.has (crossing_of c.args.flow.now.sigs.now c.args.flow.now.types.now (function_of c.args.flow.now.f.now) c.args.edge) c.args.edge c.args.plan.now (holds c.args.due.now) rows i i row row from_is c.row_index-to.ensures at at c.requires.carried

pub returns-in_ok-run_row-clause-runs : goal.returns-in_ok-run_row-clause-runs
returns-in_ok-run_row-clause-runs g c =
    let rows = c.args.rows.now in
    let parts = c.split_at_mut-front in
    let front = parts.result.0.now in
    let back = parts.result.1.now in
    let n = c.row_index-to.result in
    let i = c.row_index-from.result in
    let within : n < length rows = omega (arith, c.row_index-to.ensures, c.requires.join.3) in
    let lt : i < n = omega (arith, c.if-from-to.true) in
    let behind = at_behind rows front back n parts.ensures.value parts.ensures.front_len c.index-back-0.result parts.ensures.back_len within in
    let before = at_before rows front back n parts.ensures.value parts.ensures.front_len i c.index-front-from.result lt in
    edge_runs g.R.Rows.has c.args.flow.now.sigs.now c.args.flow.now.types.now (function_of c.args.flow.now.f.now) c.args.edge c.run_row.new.plan (holds c.run_row.new.gained) rows _ i n (get_or front i c.index-front-from.result) (get_or back 0 c.index-back-0.result) c.run_row.new.into c.row_index-from.ensures c.row_index-to.ensures
    before behind (write_behind rows front back n parts.ensures.value parts.ensures.front_len c.run_row.new.into) c.in_ok-run_row.ensures.runs

pub returns-in_ok-run_row-clause-locations : goal.returns-in_ok-run_row-clause-locations
returns-in_ok-run_row-clause-locations g c =
    let rows = c.args.rows.now in
    let parts = c.split_at_mut-front in
    let front = parts.result.0.now in
    let back = parts.result.1.now in
    let n = c.row_index-to.result in
    let within : n < length rows = omega (arith, c.row_index-to.ensures, c.requires.join.3) in
    limited_as g.R.Rows.location_limit (length c.args.flow.now.table.now.locations) rows _ n (get_or back 0 c.index-back-0.result) c.run_row.new.into (write_behind rows front back n parts.ensures.value parts.ensures.front_len c.run_row.new.into)
    (at_behind rows front back n parts.ensures.value parts.ensures.front_len c.index-back-0.result parts.ensures.back_len within) c.run_row.ensures.locations c.requires.locations

pub returns-in_ok-run_row-clause-elements : goal.returns-in_ok-run_row-clause-elements
returns-in_ok-run_row-clause-elements g c =
    let rows = c.args.rows.now in
    let parts = c.split_at_mut-front in
    let front = parts.result.0.now in
    let back = parts.result.1.now in
    let n = c.row_index-to.result in
    let within : n < length rows = omega (arith, c.row_index-to.ensures, c.requires.join.3) in
    limited_as g.R.Rows.element_limit (length c.args.flow.now.table.now.elements) rows _ n (get_or back 0 c.index-back-0.result) c.run_row.new.into (write_behind rows front back n parts.ensures.value parts.ensures.front_len c.run_row.new.into)
    (at_behind rows front back n parts.ensures.value parts.ensures.front_len c.index-back-0.result parts.ensures.back_len within) c.run_row.ensures.elements c.requires.elements

pub returns-in_ok-run_row-2-clause-runs : goal.returns-in_ok-run_row-2-clause-runs
returns-in_ok-run_row-2-clause-runs g c =
    let rows = c.args.rows.now in
    let parts = c.split_at_mut-front-then-to-from in
    let front = parts.result.0.now in
    let back = parts.result.1.now in
    let n = c.row_index-from.result in
    let i = c.row_index-to.result in
    let within : n < length rows = omega (arith, c.row_index-from.ensures, c.requires.join.1) in
    let lt : i < n = omega (arith, c.if-to-from.true) in
    let behind = at_behind rows front back n parts.ensures.value parts.ensures.front_len c.index-back-0-then-to-from.result parts.ensures.back_len within in
    let before = at_before rows front back n parts.ensures.value parts.ensures.front_len i c.index-front-to.result lt in
    edge_runs g.R.Rows.has c.args.flow.now.sigs.now c.args.flow.now.types.now (function_of c.args.flow.now.f.now) c.args.edge c.run_row-then-to-from.new.plan (holds c.run_row-then-to-from.new.gained) rows _ n i (get_or back 0 c.index-back-0-then-to-from.result) (get_or front i c.index-front-to.result) c.run_row-then-to-from.new.into c.row_index-from.ensures c.row_index-to.ensures
    behind before (write_before rows front back n parts.ensures.value parts.ensures.front_len i c.run_row-then-to-from.new.into lt) c.in_ok-run_row-2.ensures.runs

pub returns-in_ok-run_row-2-clause-locations : goal.returns-in_ok-run_row-2-clause-locations
returns-in_ok-run_row-2-clause-locations g c =
    let rows = c.args.rows.now in
    let parts = c.split_at_mut-front-then-to-from in
    let front = parts.result.0.now in
    let back = parts.result.1.now in
    let n = c.row_index-from.result in
    let i = c.row_index-to.result in
    let lt : i < n = omega (arith, c.if-to-from.true) in
    limited_as g.R.Rows.location_limit (length c.args.flow.now.table.now.locations) rows _ i (get_or front i c.index-front-to.result) c.run_row-then-to-from.new.into (write_before rows front back n parts.ensures.value parts.ensures.front_len i c.run_row-then-to-from.new.into lt)
    (at_before rows front back n parts.ensures.value parts.ensures.front_len i c.index-front-to.result lt) c.run_row-then-to-from.ensures.locations c.requires.locations

pub returns-in_ok-run_row-2-clause-elements : goal.returns-in_ok-run_row-2-clause-elements
returns-in_ok-run_row-2-clause-elements g c =
    let rows = c.args.rows.now in
    let parts = c.split_at_mut-front-then-to-from in
    let front = parts.result.0.now in
    let back = parts.result.1.now in
    let n = c.row_index-from.result in
    let i = c.row_index-to.result in
    let lt : i < n = omega (arith, c.if-to-from.true) in
    limited_as g.R.Rows.element_limit (length c.args.flow.now.table.now.elements) rows _ i (get_or front i c.index-front-to.result) c.run_row-then-to-from.new.into (write_before rows front back n parts.ensures.value parts.ensures.front_len i c.run_row-then-to-from.new.into lt)
    (at_before rows front back n parts.ensures.value parts.ensures.front_len i c.index-front-to.result lt) c.run_row-then-to-from.ensures.elements c.requires.elements

pub returns-in_ok-run_around-clause-runs : goal.returns-in_ok-run_around-clause-runs
returns-in_ok-run_around-clause-runs g c =
    let rows = c.args.rows.now in
    let i = c.row_index-to.result in
    let row = get_or rows i c.index-rows-to.result in
    let within : i < length rows = omega (arith, c.row_index-to.ensures, c.requires.join.3) in
    let from_is : i + 1 ≡ c.args.edge.from.0 = omega (arith, c.row_index-from.ensures, c.if-from-to.false, c.if-to-from.false) in
    let at = slice_get-get_or rows i c.index-rows-to.result within in
    edge_runs g.R.Rows.has c.args.flow.now.sigs.now c.args.flow.now.types.now (function_of c.args.flow.now.f.now) c.args.edge c.run_around.new.plan (holds c.run_around.new.gained) rows _ i i row row c.run_around.new.row from_is c.row_index-to.ensures at at refl c.in_ok-run_around.ensures.runs
