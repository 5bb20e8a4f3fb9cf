-- The readers of expressions, and of what declarations begin with, are good.
use Rattle.std.proofs.Common.{ℕ, refl}
use Rattle.life_expr.specs.Readers.{Readers, args_with, both_with, condition_with, equal_with, expr_with, initial_parts, initial_with, initializer_parts, initializer_with, list_with, order_with, part_with, postfix_parts, postfix_with, primary_parts, primary_with, sum_with, target_with, term_with, unary_with}
use Rattle.life_parse.proofs.GoodDerived.{good_derived}
use Rattle.life_parse.proofs.GoodReads.{InsideGood}
use Rattle.life_parse.proofs.GoodTypes.{good_argument}
use Rattle.life_parse.proofs.Laws.{Good}
use Rattle.life_tree.specs.Grammar.{rule}
use Rattle.life_tree.specs.Rules as rules

pub good_args : (n : ℕ) (inside : Readers) → InsideGood n inside → Good (args_with n inside) (rule rules.args) n
unfolding args_with
good_args n inside i = good_derived n inside inside rules.args refl i tt

pub good_list : (n : ℕ) (inside : Readers) → InsideGood n inside → Good (list_with n inside) (rule rules.list) n
unfolding list_with
good_list n inside i = good_derived n inside inside rules.list refl i tt

pub good_primary : (n : ℕ) (inside : Readers) → InsideGood n inside → Good (primary_with n inside) (rule rules.primary) n
unfolding primary_with
good_primary n inside i = let a0 = good_args n inside i in let l1 = good_list n inside i in let a2 = good_argument n inside i in good_derived n inside (primary_parts n inside) rules.primary refl i assumption

pub good_part : (n : ℕ) (inside : Readers) → InsideGood n inside → Good (part_with n inside) (rule rules.part) n
unfolding part_with
good_part n inside i = let a0 = good_args n inside i in good_derived n inside (λ r. args_with n inside) rules.part refl i assumption

pub good_postfix : (n : ℕ) (inside : Readers) → InsideGood n inside → Good (postfix_with n inside) (rule rules.postfix) n
unfolding postfix_with
good_postfix n inside i = let p0 = good_primary n inside i in let p1 = good_part n inside i in good_derived n inside (postfix_parts n inside) rules.postfix refl i assumption

pub good_unary : (n : ℕ) (inside : Readers) → InsideGood n inside → Good (unary_with n inside) (rule rules.unary) n
unfolding unary_with
good_unary n inside i = let p0 = good_postfix n inside i in good_derived n inside (λ r. postfix_with n inside) rules.unary refl i assumption

pub good_term : (n : ℕ) (inside : Readers) → InsideGood n inside → Good (term_with n inside) (rule rules.term) n
unfolding term_with
good_term n inside i = let u0 = good_unary n inside i in good_derived n inside (λ r. unary_with n inside) rules.term refl i assumption

pub good_sum : (n : ℕ) (inside : Readers) → InsideGood n inside → Good (sum_with n inside) (rule rules.sum) n
unfolding sum_with
good_sum n inside i = let t0 = good_term n inside i in good_derived n inside (λ r. term_with n inside) rules.sum refl i assumption

pub good_order : (n : ℕ) (inside : Readers) → InsideGood n inside → Good (order_with n inside) (rule rules.order) n
unfolding order_with
good_order n inside i = let s0 = good_sum n inside i in good_derived n inside (λ r. sum_with n inside) rules.order refl i assumption

pub good_equal : (n : ℕ) (inside : Readers) → InsideGood n inside → Good (equal_with n inside) (rule rules.equal) n
unfolding equal_with
good_equal n inside i = let o0 = good_order n inside i in good_derived n inside (λ r. order_with n inside) rules.equal refl i assumption

pub good_both : (n : ℕ) (inside : Readers) → InsideGood n inside → Good (both_with n inside) (rule rules.both) n
unfolding both_with
good_both n inside i = let e0 = good_equal n inside i in good_derived n inside (λ r. equal_with n inside) rules.both refl i assumption

pub good_expr : (n : ℕ) (inside : Readers) → InsideGood n inside → Good (expr_with n inside) (rule rules.expr) n
unfolding expr_with
good_expr n inside i = let b0 = good_both n inside i in good_derived n inside (λ r. both_with n inside) rules.expr refl i assumption

pub good_condition : (n : ℕ) (inside : Readers) → InsideGood n inside → Good (condition_with n inside) (rule rules.condition) n
unfolding condition_with
good_condition n inside i = good_derived n inside inside rules.condition refl i tt

pub good_initial : (n : ℕ) (inside : Readers) → InsideGood n inside → Good (initial_with n inside) (rule rules.initial) n
unfolding initial_with
good_initial n inside i = let e0 = good_expr n inside i in let l1 = good_list n inside i in good_derived n inside (initial_parts n inside) rules.initial refl i assumption

pub good_initializer : (n : ℕ) (inside : Readers) → InsideGood n inside → Good (initializer_with n inside) (rule rules.initializer) n
unfolding initializer_with
good_initializer n inside i = let i0 = good_initial n inside i in let l1 = good_list n inside i in good_derived n inside (initializer_parts n inside) rules.initializer refl i assumption

pub good_target : (n : ℕ) (inside : Readers) → InsideGood n inside → Good (target_with n inside) (rule rules.target) n
unfolding target_with
good_target n inside i = let p0 = good_postfix n inside i in good_derived n inside (λ r. postfix_with n inside) rules.target refl i assumption
