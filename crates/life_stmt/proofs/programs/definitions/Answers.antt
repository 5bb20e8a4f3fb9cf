use Rattle.std.proofs.Common.{◌≡◌, ◌++◌, ◌∷◌, [], map, true, false, Ok, ap, ◌∙◌}
use Rattle.std.proofs.lemmas.List.{map_push}
use Rattle.std.proofs.lemmas.Result.{err_from_is_err_and}
use Rattle.life_stmt.proofs.LoopReads.{goes_on, fails, ends, before_nothing, before_more}
use Rattle.life_stmt.proofs.ShrinksReads.{shrinks}
use Rattle.life_stmt.proofs.ShrinksRules.{Takes-below, Takes-definition}
use Rattle.life_stmt.specs.Fronts.{before}
use Rattle.life_expr.specs.Heads.{heads_of}
use Rattle.life_expr.specs.Read.{as_many, starts}
use Rattle.life_expr.specs.Readers as readers
use Rattle.life_tree.specs.Rules as rules
use Rattle.life_tree.specs.Tree.{Tree}
use Rattle.life_tree.specs.Views.{definition_tree}
use Rattle.life_stmt.proofs.programs.definitions.Goals as goal

pub returns-in_err-next : goal.returns-in_err-next
returns-in_err-next c =
    let e = err_from_is_err_and c.from_residual.result c.from_residual.ensures.1 in
    let h : starts (heads_of rules.definition) c.list.rest.now ≡ true = cc in
    rw (e.1, e.2) (fails (heads_of rules.definition) (readers.definition_with c.args.left (readers.below c.args.left)) (Takes-definition c.args.left (readers.below c.args.left) (Takes-below c.args.left)) c.in_err-next.field-0.0 (before (map definition_tree c.list.list.items)) c.list.rest.now (as_many (heads_of rules.definition) (readers.definition_with c.args.left (readers.below c.args.left)) c.args.tokens.now) h c.in_err-next.ensures c.list.invariant)

pub list-smaller : goal.list-smaller
list-smaller c = shrinks (readers.definition_with c.args.left (readers.below c.args.left)) (Takes-definition c.args.left (readers.below c.args.left) (Takes-below c.args.left)) c.list.rest.now (definition_tree c.in_ok-next.next) c.in_ok-next.after.now c.in_ok-next.ensures

pub list-preserved : goal.list-preserved
list-preserved c =
    let h : starts (heads_of rules.definition) c.list.rest.now ≡ true = cc in
    let e : map definition_tree c.push.new.self.items ≡ map definition_tree c.list.list.items ++ definition_tree c.in_ok-next.next ∷ [] = rw c.in_ok-push.ensures.items (map_push _ c.list.list.items c.in_ok-next.next) in
    rw e (goes_on (heads_of rules.definition) (readers.definition_with c.args.left (readers.below c.args.left)) (Takes-definition c.args.left (readers.below c.args.left) (Takes-below c.args.left)) (before (map definition_tree c.list.list.items)) (before (map definition_tree c.list.list.items ++ definition_tree c.in_ok-next.next ∷ [])) c.list.rest.now (definition_tree c.in_ok-next.next) c.in_ok-next.after.now (as_many (heads_of rules.definition) (readers.definition_with c.args.left (readers.below c.args.left)) c.args.tokens.now) (λ u. before_more (map definition_tree c.list.list.items) (definition_tree c.in_ok-next.next) u) h c.in_ok-next.ensures c.list.invariant)

pub returns : goal.returns
returns c =
    let h : starts (heads_of rules.definition) c.list.rest.now ≡ false = cc in
    ends (heads_of rules.definition) (readers.definition_with c.args.left (readers.below c.args.left)) (Takes-definition c.args.left (readers.below c.args.left) (Takes-below c.args.left)) (before (map definition_tree c.list.list.items)) c.list.rest.now (as_many (heads_of rules.definition) (readers.definition_with c.args.left (readers.below c.args.left)) c.args.tokens.now) h c.list.invariant ∙ ap (λ (t : Tree). Ok (t, c.list.rest.now)) (before_nothing (map definition_tree c.list.list.items))
