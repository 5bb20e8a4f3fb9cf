use Rattle.std.proofs.Common.{◌≡◌, ◌++◌, ◌∷◌, [], map, true, false, Ok, ap, ◌∙◌}
use Rattle.std.proofs.lemmas.List.{map_push}
use Rattle.std.proofs.lemmas.Result.{err_from_is_err_and}
use Rattle.life_stmt.proofs.LoopReads.{goes_on, fails, ends, before_nothing, before_more}
use Rattle.life_stmt.proofs.ShrinksReads.{shrinks}
use Rattle.life_stmt.proofs.ShrinksRules.{Takes-below}
use Rattle.life_stmt.specs.Fronts.{mapped, before}
use Rattle.life_expr.specs.Heads.{heads_of}
use Rattle.life_expr.specs.Read.{as_many, starts}
use Rattle.life_expr.specs.Readers as readers
use Rattle.life_tree.specs.Rules as rules
use Rattle.life_tree.specs.Tree.{Tree}
use Rattle.life_tree.specs.Views.{member_tree}
use Rattle.life_stmt.proofs.programs.more_members.Goals as goal

pub returns-in_err-next : goal.returns-in_err-next
returns-in_err-next c =
    let e = err_from_is_err_and c.from_residual.result c.from_residual.ensures.1 in
    let h : starts (heads_of rules.member) c.list.rest.now ≡ true = cc in
    rw (e.1, e.2) (fails (heads_of rules.member) (readers.below c.args.left rules.member) (Takes-below c.args.left rules.member) c.in_err-next.field-0.0 (before (map member_tree c.list.list.items)) c.list.rest.now (mapped (before (map member_tree c.args.before.items)) (as_many (heads_of rules.member) (readers.below c.args.left rules.member) c.args.tokens.now)) h c.in_err-next.ensures c.list.invariant)

pub list-smaller : goal.list-smaller
list-smaller c = shrinks (readers.below c.args.left rules.member) (Takes-below c.args.left rules.member) c.list.rest.now (member_tree c.in_ok-next.next) c.in_ok-next.after.now c.in_ok-next.ensures

pub list-preserved : goal.list-preserved
list-preserved c =
    let h : starts (heads_of rules.member) c.list.rest.now ≡ true = cc in
    let e : map member_tree c.push.new.self.items ≡ map member_tree c.list.list.items ++ member_tree c.in_ok-next.next ∷ [] = rw c.in_ok-push.ensures.items (map_push _ c.list.list.items c.in_ok-next.next) in
    rw e (goes_on (heads_of rules.member) (readers.below c.args.left rules.member) (Takes-below c.args.left rules.member) (before (map member_tree c.list.list.items)) (before (map member_tree c.list.list.items ++ member_tree c.in_ok-next.next ∷ [])) c.list.rest.now (member_tree c.in_ok-next.next) c.in_ok-next.after.now (mapped (before (map member_tree c.args.before.items)) (as_many (heads_of rules.member) (readers.below c.args.left rules.member) c.args.tokens.now)) (λ u. before_more (map member_tree c.list.list.items) (member_tree c.in_ok-next.next) u) h c.in_ok-next.ensures c.list.invariant)

pub returns : goal.returns
returns c =
    let h : starts (heads_of rules.member) c.list.rest.now ≡ false = cc in
    ends (heads_of rules.member) (readers.below c.args.left rules.member) (Takes-below c.args.left rules.member) (before (map member_tree c.list.list.items)) c.list.rest.now (mapped (before (map member_tree c.args.before.items)) (as_many (heads_of rules.member) (readers.below c.args.left rules.member) c.args.tokens.now)) h c.list.invariant ∙ ap (λ (t : Tree). Ok (t, c.list.rest.now)) (before_nothing (map member_tree c.list.list.items))
