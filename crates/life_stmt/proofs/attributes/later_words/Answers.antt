use Rattle.std.proofs.Common.{◌≡◌, ◌∷◌, [], map, true, false, Ok, ap, ◌∙◌}
use Rattle.std.proofs.lemmas.Result.{err_from_is_err_and}
use Rattle.life_stmt.proofs.LoopReads.{reads_on, fails, ends, before_nothing}
use Rattle.life_stmt.proofs.ShrinksReads.{shrinks}
use Rattle.life_stmt.proofs.ShrinksRules.{Takes-below, Takes-later}
use Rattle.life_stmt.specs.Fronts.{before}
use Rattle.life_expr.specs.Heads.{quoted_kind}
use Rattle.life_stmt.specs.Definitions as spec
use Rattle.life_expr.specs.Read.{as_many, starts}
use Rattle.life_expr.specs.Readers as readers
use Rattle.life_tree.proofs.SeparatedTrees.{as_many_more, one_more}
use Rattle.life_tree.specs.Rules as rules
use Rattle.life_tree.specs.Tree.{Tree, ◌⨾◌}
use Rattle.life_tree.specs.Views.{at, later_trees, word_tree}
use Rattle.life_tree.specs.declared.fixed.TheConstants.{COMMA}
use Rattle.life_stmt.proofs.attributes.later_words.Goals as goal

pub returns-in_err-next : goal.returns-in_err-next
returns-in_err-next c =
    let e = err_from_is_err_and c.from_residual.result c.from_residual.ensures.1 in
    let h : starts (quoted_kind COMMA ∷ []) c.list.rest.now ≡ true = cc in
    rw (e.1, e.2) (fails (quoted_kind COMMA ∷ []) (spec.later_with (readers.below c.args.left) rules.word) (Takes-later (readers.below c.args.left) (Takes-below c.args.left) rules.word) c.in_err-next.field-0.0 (before (later_trees c.list.commas.items (map word_tree c.list.list.items))) c.list.rest.now (as_many (quoted_kind COMMA ∷ []) (spec.later_with (readers.below c.args.left) rules.word) c.args.tokens.now) h c.in_err-next.ensures c.list.invariant.reads)

pub list-smaller : goal.list-smaller
list-smaller c = shrinks (spec.later_with (readers.below c.args.left) rules.word) (Takes-later (readers.below c.args.left) (Takes-below c.args.left) rules.word) c.list.rest.now (at COMMA c.in_ok-next.comma ⨾ word_tree c.in_ok-next.next) c.in_ok-next.after.now c.in_ok-next.ensures

pub list-preserved : goal.list-preserved
list-preserved c =
    let h : starts (quoted_kind COMMA ∷ []) c.list.rest.now ≡ true = cc in
    let commas = c.in_ok-push.ensures.items in
    let items = c.in_ok-push-2.ensures.items in
    record {
      even = as_many_more word_tree _ _ _ _ _ _ commas items c.list.invariant.even;
      reads = reads_on (quoted_kind COMMA ∷ []) (spec.later_with (readers.below c.args.left) rules.word) (Takes-later (readers.below c.args.left) (Takes-below c.args.left) rules.word) _ _ c.list.rest.now (at COMMA c.in_ok-next.comma ⨾ word_tree c.in_ok-next.next) c.in_ok-next.after.now (as_many (quoted_kind COMMA ∷ []) (spec.later_with (readers.below c.args.left) rules.word) c.args.tokens.now)
          (one_more word_tree _ _ _ _ _ _ commas items c.list.invariant.even) h c.in_ok-next.ensures c.list.invariant.reads;
    }

pub returns : goal.returns
returns c =
    let h : starts (quoted_kind COMMA ∷ []) c.list.rest.now ≡ false = cc in
    ends (quoted_kind COMMA ∷ []) (spec.later_with (readers.below c.args.left) rules.word) (Takes-later (readers.below c.args.left) (Takes-below c.args.left) rules.word) (before (later_trees c.list.commas.items (map word_tree c.list.list.items))) c.list.rest.now (as_many (quoted_kind COMMA ∷ []) (spec.later_with (readers.below c.args.left) rules.word) c.args.tokens.now) h c.list.invariant.reads ∙ ap (λ (t : Tree). Ok (t, c.list.rest.now)) (before_nothing (later_trees c.list.commas.items (map word_tree c.list.list.items)))
