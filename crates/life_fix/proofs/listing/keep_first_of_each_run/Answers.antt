use Rattle.std.proofs.Common.{ap, map, rules, ◌∙◌}
use Rattle.std.proofs.lemmas.Fn.{dedup_same}
use Rattle.life_fix.specs.Candidates.{candidate_seen, is_same_line}
use Rattle.life_rules.specs.contracts.diag.PrintedLinePartialEq.TheImpl.{ghosts as printed_eq}
use Rattle.life_rules.specs.declared.diag.ListedDiag.{ListedDiag}
use Rattle.life_fix.proofs.Candidates.{map_dedup, same_printed}
use Rattle.life_fix.proofs.listing.keep_first_of_each_run.Goals as goal

pub returns : goal.returns
returns c =
    let same = λ (later kept : ListedDiag). printed_eq.eq later.line kept.line in
    let left = dedup_same _ same _ (λ x y b f' x' y' k. search rules) _ _ c.dedup_by.ensures.filtered in
    ap (map candidate_seen) left ∙ map_dedup candidate_seen same is_same_line same_printed c.args.candidates.now.items
