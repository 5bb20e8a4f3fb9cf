use Rattle.std.proofs.Common.{◌≤◌, get_or, length, rules}
use Rattle.std.proofs.lemmas.Option.{slice_get-get_or}
use Rattle.life_fix.proofs.Starting.{starts_at}
use Rattle.life_fix.proofs.beginning.start.Goals as goal

pub returns-clause-starts : goal.returns-clause-starts
returns-clause-starts g c =
    let rows = c.args.rows.now in
    let some : 1 ≤ length rows = search rules in
    let row = get_or rows 0 c.index-rows-0.result in
    starts_at g.R.Rows.has c.args.table.now c.args.facts.now rows row c.add_facts.new.row (slice_get-get_or rows 0 _ some) some c.requires.none c.in_ok-add_facts.ensures.added
