use Rattle.std.proofs.Common.{◌≡◌, ◌+◌, ◌++◌, ◌∙◌, List, Some, ap, arith, map, slice_get, sym}
use Rattle.std.specs.Option.{option_copied}
use Rattle.std.specs.Prelude.{option_map}
use Rattle.std.proofs.lemmas.Option.{slice_get-get_or, slice_get-map}
use Rattle.life_core.specs.Node.{spot_seen}
use Rattle.life_pset.specs.Table.{Table}
use Rattle.life_fix.specs.Solving.{pairs_in}
use Rattle.life_psets.specs.Sets.{SetAt, set_seen, sets_at, sets_before}
use Rattle.life_psets.proofs.Adding.{row_sets}
use Rattle.life_psets.proofs.InTurn.{turn_all, turn_more}
use Rattle.life_psets.proofs.sets.push_solved.Goals as goal

pub loop-index-preserved : goal.loop-index-preserved
loop-index-preserved g c =
    let has = g.R.Rows.has in
    let function = c.args.function in
    let solution = c.args.solution.now in
    let refs = c.args.spots.now in
    let k = c.loop-index.index in
    let spot = c.index-spots-index.result in
    let at : slice_get (map spot_seen refs) k ≡ Some (spot_seen spot) =
    slice_get-map spot_seen refs k ∙ ap (option_map spot_seen) (slice_get-get_or refs k spot c.loop-index-test.true ∙ ap Some (sym c.index-spots-index.is)) in
    let more = ap (λ (t : Table). map set_seen c.loop-index.out.items ++ sets_before (record { function = function; point = record { 0 = k + 1 }; place = spot.place }) t (pairs_in has (option_copied c.row.result))) c.table.ensures
    ∙ ap (λ (xs : List SetAt). map set_seen c.loop-index.out.items ++ xs) (row_sets has function k solution.table solution.rows (spot_seen spot) (map spot_seen refs) (option_copied c.row.result) at c.row.ensures) in
    record {
      within = omega (arith, c.loop-index-test.true);
      are =
          turn_more (λ n. sets_at function solution.table n (slice_get (map spot_seen refs) n) (pairs_in has (slice_get solution.rows n)))
          (map set_seen c.args.out.now.items) (map set_seen c.loop-index.out.items) (map set_seen c.push_before.new.out.items) k c.loop-index.invariant.are (c.in_ok-push_before.ensures ∙ more);
    }

pub returns : goal.returns
returns g c =
    turn_all (λ n. sets_at c.args.function c.args.solution.now.table n (slice_get (map spot_seen c.args.spots.now) n) (pairs_in g.R.Rows.has (slice_get c.args.solution.now.rows n)))
    (map set_seen c.args.out.now.items) (map set_seen c.loop-index.out.items) c.loop-index.index _
    c.loop-index.invariant.within (omega (arith, c.loop-index-test.false)) c.loop-index.invariant.are
