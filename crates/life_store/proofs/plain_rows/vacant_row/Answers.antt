use Rattle.std.proofs.Common.{refl, ap, ◌∙◌, arith, Some}
use Rattle.std.proofs.lemmas.Option.{slice_get_read}
use Rattle.life_store.specs.PlainRows.{Row}
use Rattle.life_store.proofs.RowLemmas.{taken_within, taken_more}
use Rattle.life_store.proofs.plain_rows.vacant_row.Goals as goal

pub loop-row-init : goal.loop-row-init
loop-row-init c = record { within = taken_within c.args.from c.args.rows.now c.requires; taken = c.requires }

pub loop-row-preserved : goal.loop-row-preserved
loop-row-preserved c =
    let row = c.loop-row.row in
    let there = slice_get_read c.args.rows.now _ row c.index-rows-row.result refl c.loop-row-test.true c.index-rows-row.is ∙ ap (λ (r : Row). Some r) c.in-Some.is in
    record {
      within = omega (arith, c.loop-row-test.true);
      taken = taken_more row c.args.rows.now c.in-Some.field-0 c.loop-row.invariant.taken there;
    }
