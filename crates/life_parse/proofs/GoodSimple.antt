-- The readers of simple statements and of declarations are good.
use Rattle.std.proofs.Common.{◌≡◌, ℕ, Bool, true, false, refl, cond}
use Rattle.life_expr.specs.Read.{reads}
use Rattle.life_expr.specs.Readers.{Readers, derived, simple_parts, simple_with, declaration_parts, declaration_with, for_rest_parts, for_rest_with}
use Rattle.life_parse.proofs.GoodBelow.{GoodBelow, below, all_below}
use Rattle.life_parse.proofs.GoodChoice.{good_or}
use Rattle.life_parse.proofs.GoodDecides.{Second, good_decides}
use Rattle.life_parse.proofs.GoodDerived.{good_made, good_derived}
use Rattle.life_parse.proofs.GoodExprs.{good_expr, good_initial, good_initializer, good_target}
use Rattle.life_parse.proofs.GoodReads.{checked, Each, AllBelow, InsideGood, good_reads}
use Rattle.life_parse.proofs.GoodTypes.{good_declared_type}
use Rattle.life_parse.proofs.Laws.{Good}
use Rattle.life_tree.specs.Grammar.{Form, none, ◌or◌, ◌decides◌, opens, rule, form_of, assignment, step, ending, is_starred, ends_in_arguments}
use Rattle.life_tree.specs.Rules as rules
use Rattle.life_tree.specs.Rules.{Rule}
use Rattle.life_tree.specs.Tree.{Tree}
use Rattle.life_tree.specs.declared.fixed.TheConstants as fixed

-- ---- what ends an assignment, a step or a call

abbrev ending_by : Bool → Bool → Form
ending_by starred called = cond starred assignment (cond called (assignment or step or none) (assignment or step))

second_by : (starred called : Bool) → Second (rule rules.target) (ending_by starred called)
second_by true called = record { is_sane = refl; apart = refl; tails = refl }
second_by false true = record { is_sane = refl; apart = refl; tails = refl }
second_by false false = record { is_sane = refl; apart = refl; tails = refl }

checked_by : (starred called : Bool) → checked (ending_by starred called) ≡ true
checked_by true called = refl
checked_by false true = refl
checked_by false false = refl

each_by : (P : Rule → Type 0) → P rules.initial → P rules.expr → (starred called : Bool) → Each P (ending_by starred called)
each_by P a b true called = assumption
each_by P a b false true = assumption
each_by P a b false false = assumption

-- ---- simple statements

-- a step before its target
abbrev steps : ℕ → Form
steps mark = opens mark (rule rules.target)

-- what a target decides on
abbrev ended : Form
ended = rule rules.target decides ending

pub good_simple : (n : ℕ) (inside : Readers) → InsideGood n inside → Good (simple_with n inside) (rule rules.simple) n
unfolding simple_with
good_simple n inside i = all_below (derived n inside (simple_parts n inside) rules.simple) (rule rules.simple) n (λ limit. good_made limit n (λ ts. reads n inside (simple_parts n inside) (form_of rules.simple) ts) rules.simple (form limit))
  where
    one : (limit mark : ℕ) → GoodBelow limit (λ ts. reads n inside (simple_parts n inside) (steps mark) ts) (steps mark) n
    one limit mark = good_reads (steps mark) limit n inside (simple_parts n inside) refl i tt

    each : (limit : ℕ) (a : Tree) → Each (AllBelow limit (simple_parts n inside) n) (ending a)
    each limit a = each_by (AllBelow limit (simple_parts n inside) n) (below (simple_parts n inside rules.initial) (rule rules.initial) n (good_initial n inside i) limit) (below (simple_parts n inside rules.expr) (rule rules.expr) n (good_expr n inside i) limit) (is_starred a) (ends_in_arguments a)

    last : (limit : ℕ) → GoodBelow limit (λ ts. reads n inside (simple_parts n inside) ended ts) ended n
    last limit = good_decides limit n (simple_parts n inside rules.target) (λ a us. reads n inside (simple_parts n inside) (ending a) us) (rule rules.target) ending refl (λ a. second_by (is_starred a) (ends_in_arguments a))
        (below (simple_parts n inside rules.target) (rule rules.target) n (good_target n inside i) limit)
        (λ a. good_reads (ending a) limit n inside (simple_parts n inside) (checked_by (is_starred a) (ends_in_arguments a)) i (each limit a))

    form : (limit : ℕ) → GoodBelow limit (λ ts. reads n inside (simple_parts n inside) (form_of rules.simple) ts) (form_of rules.simple) n
    form limit =
        good_or limit n (λ ts. reads n inside (simple_parts n inside) (steps fixed.PLUS_PLUS) ts) (λ ts. reads n inside (simple_parts n inside) (steps fixed.MINUS_MINUS or ended) ts) (steps fixed.PLUS_PLUS) (steps fixed.MINUS_MINUS or ended) refl refl refl refl refl
        (one limit fixed.PLUS_PLUS)
        (good_or limit n (λ ts. reads n inside (simple_parts n inside) (steps fixed.MINUS_MINUS) ts) (λ ts. reads n inside (simple_parts n inside) ended ts) (steps fixed.MINUS_MINUS) ended refl refl refl refl refl (one limit fixed.MINUS_MINUS) (last limit))

-- ---- what holds declarations and simple statements

pub good_declaration : (n : ℕ) (inside : Readers) → InsideGood n inside → Good (declaration_with n inside) (rule rules.declaration) n
unfolding declaration_with
good_declaration n inside i = let d0 = good_declared_type n inside i in let i1 = good_initializer n inside i in good_derived n inside (declaration_parts n inside) rules.declaration refl i assumption

pub good_for_rest : (n : ℕ) (inside : Readers) → InsideGood n inside → Good (for_rest_with n inside) (rule rules.for_rest) n
unfolding for_rest_with
good_for_rest n inside i = let e0 = good_expr n inside i in let s1 = good_simple n inside i in good_derived n inside (for_rest_parts n inside) rules.for_rest refl i assumption
