-- Whether an operand ends in arguments, part by part.
use Rattle.std.proofs.Common.{◌≡◌, Bool, true, false, ◌&&◌, ◌||◌, List, [], ◌∷◌, map, fold, refl, ◌∙◌}
use Rattle.life_stmt.specs.Simples.{call_after}
use Rattle.life_tree.specs.Grammar.{ends_in_arguments}
use Rattle.life_tree.specs.Tree.{is_empty}
use Rattle.life_tree.specs.Views.{list_tree, postfix_part_tree}
use Rattle.life_tree.specs.declared.primary.PostfixPart.{PostfixPart}

regroup : (later none_later here none_here before : Bool) → (later || (none_later && (here || (none_here && before)))) ≡ ((later || (none_later && here)) || ((none_here && none_later) && before))
regroup true e p m b = refl
regroup false true true m b = refl
regroup false true false true b = refl
regroup false true false false b = refl
regroup false false p true b = refl
regroup false false p false b = refl

pub call_parts : (before : Bool) (parts : List PostfixPart)
    → fold call_after before parts ≡ (ends_in_arguments (list_tree (map postfix_part_tree parts)) || (is_empty (list_tree (map postfix_part_tree parts)) && before))
call_parts before [] = refl
call_parts before (p ∷ ps) =
    let later = list_tree (map postfix_part_tree ps) in
    let here = postfix_part_tree p in
    call_parts (call_after before p) ps ∙ regroup (ends_in_arguments later) (is_empty later) (ends_in_arguments here) (is_empty here) before
