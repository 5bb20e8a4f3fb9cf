use Rattle.std.proofs.Common.{map, subst, sym, List}
use Rattle.life_fix.specs.Candidates.{KeepsLines, Lined, candidate_seen}
use Rattle.life_fix.proofs.Listed.{kept}
use Rattle.life_fix.proofs.listing.keep_lines.Goals as goal

pub returns : goal.returns
returns c =
    let before = map candidate_seen c.args.candidates.now.items in
    subst (λ (after : List Lined). KeepsLines before after) (sym c.keep_first_of_each_run.ensures) (kept before _ c.sort.ensures)
