use Rattle.std.proofs.Common.{◌≡◌, ◌++◌, ◌∙◌, List, None, ap, append-nil, map, sym}
use Rattle.std.specs.Option.{option_copied}
use Rattle.life_fix.specs.Solving.{pairs_in}
use Rattle.life_psets.specs.Sets.{SetAt, set_seen, sets_before}
use Rattle.life_psets.proofs.Adding.{nothing_before}
use Rattle.life_psets.proofs.sets.push_before.Goals as goal

pub returns-in-None : goal.returns-in-None
returns-in-None g c =
    let was = map set_seen c.args.out.now.items in
    let none : option_copied c.args.row ≡ None = ap option_copied c.in-None.is in
    sym (ap (λ row. was ++ sets_before c.args.before c.args.table.now (pairs_in g.R.Rows.has row)) none
    ∙ ap (λ (xs : List SetAt). was ++ xs) (nothing_before c.args.before c.args.table.now) ∙ append-nil was)
