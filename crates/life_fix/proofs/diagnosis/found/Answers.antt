use Rattle.std.proofs.Common.{◌≡◌, ◌+◌, ◌⊎◌, ◌↔◌, ◌∙◌, Contains, Some, length, slice_get, ap, subst, sym}
use Rattle.std.specs.Option.{option_copied}
use Rattle.std.proofs.lemmas.Option.{slice_get-get_or}
use Rattle.life_core.specs.Function.{function_of}
use Rattle.life_core.specs.Node.{spot_seen}
use Rattle.life_pset.specs.Table.{Table}
use Rattle.life_rules.specs.declared.diag.Diag.{Diag}
use Rattle.life_fix.specs.Finding.{IsWrongIn}
use Rattle.life_fix.specs.Solution.{AllLimited}
use Rattle.life_fix.proofs.Finding.{found_all, found_more}
use Rattle.life_fix.proofs.PointRows.{limit_at}
use Rattle.life_fix.proofs.diagnosis.found.Goals as goal

pub push_row-requires-clause-locations : goal.push_row-requires-clause-locations
push_row-requires-clause-locations g c =
    let limit = g.R.Rows.location_limit in
    let rows = c.args.sol.now.rows in
    limit_at limit (length c.table-table.result.now.locations) rows (c.loop-index.index + 1) c.row.result c.row.ensures
    (subst (λ (t : Table). AllLimited limit (length t.locations) rows) (sym c.table-table.ensures) c.requires.solution.locations)

pub push_row-requires-clause-elements : goal.push_row-requires-clause-elements
push_row-requires-clause-elements g c =
    let limit = g.R.Rows.element_limit in
    let rows = c.args.sol.now.rows in
    limit_at limit (length c.table-table.result.now.elements) rows (c.loop-index.index + 1) c.row.result c.row.ensures
    (subst (λ (t : Table). AllLimited limit (length t.elements) rows) (sym c.table-table.ensures) c.requires.solution.elements)

pub loop-index-preserved : goal.loop-index-preserved
loop-index-preserved g c =
    let rows = g.R.Rows in
    let f = function_of c.args.f.now in
    let refs = c.args.spots.now in
    let k = c.loop-index.index in
    let spot = c.index-spots-index.result in
    let row = option_copied c.row.result in
    let at : slice_get refs k ≡ Some spot = slice_get-get_or refs k spot c.loop-index-test.true ∙ ap Some (sym c.index-spots-index.is) in
    let more = subst (λ (t : Table). (d : Diag) → Contains c.push_row.new.out.items d
    ↔ (Contains c.loop-index.all.items d ⊎ IsWrongIn c.args.sigs.now c.args.types.now c.args.id.0 f t rows.has (spot_seen spot) row d)) c.table-table.ensures c.in_ok-push_row.ensures.wrong in record {
      found =
          found_more rows.has rows.location_limit rows.element_limit c.args.sigs.now c.args.types.now c.args.id.0 f c.args.sol.now refs k spot row
          c.loop-index.all.items c.push_row.new.out.items c.requires.solution c.requires.spots c.requires.count at c.row.ensures more c.loop-index.invariant.found;
      limit = c.push_row.ensures.limit ∙ c.loop-index.invariant.limit;
    }

pub returns : goal.returns
returns g c =
    found_all c.args.sigs.now c.args.types.now c.args.id.0 (function_of c.args.f.now) c.args.spots.now c.loop-index.index c.loop-index.all.items c.requires.spots c.loop-index-test.false c.loop-index.invariant.found
