-- The readers of expressions and simple statements take a name, or `std`, `::` and `string`.
use Rattle.std.proofs.Common.{ℕ, ◌≤◌, ◌∷◌, refl, le_trans}
use Rattle.life_expr.specs.Heads.{rule_may_be_empty}
use Rattle.life_expr.specs.Read.{reads}
use Rattle.life_expr.specs.Readers.{Readers, primary_parts, primary_with, postfix_parts, postfix_with, unary_with, term_with, sum_with, target_with, simple_parts, simple_with}
use Rattle.life_parse.proofs.Left.{left, derived_left, then_left, both_left}
use Rattle.life_parse.proofs.LooksForms.{Laws, Law-any}
use Rattle.life_parse.proofs.LooksExprs.{primary_laws, postfix_laws, Law-unary, Law-term}
use Rattle.life_parse.proofs.LooksSimple.{Looks-ending}
use Rattle.life_parse.proofs.Namespaced.{Passes-namespaced, behind_scope}
use Rattle.life_parse.proofs.Passes.{Passes, PassesScope, Passes-as, a_name, a_mark}
use Rattle.life_tree.specs.Grammar.{Form, quoted, ◌then◌, ◌or◌, many, optional, parenthesized, rule, name, namespaced, ending, ◌decides◌}
use Rattle.life_tree.specs.Rules as rules
use Rattle.life_tree.specs.Tree.{◌⨾◌, Tokens}
use Rattle.life_tree.specs.declared.fixed.TheConstants as fixed

-- what stands behind `std` and `::`
abbrev std_primary : Form
std_primary =
    (quoted fixed.MOVE then parenthesized name) or (quoted fixed.STRING then parenthesized (rule rules.expr))
    or (quoted fixed.MAKE_UNIQUE then rule rules.argument then rule rules.args)

module _ (n : ℕ) (inside : Readers) (i : Laws inside) where
  as_form : PassesScope (reads n inside (primary_parts n inside) (namespaced fixed.STD std_primary))
  as_form = Passes-namespaced n inside (primary_parts n inside) i (primary_laws n inside i) std_primary refl

  Passes-primary : Passes (primary_with n inside)
  unfolding primary_with
  Passes-primary = record {
    scoped = record {
      std = λ a ts. le_trans (derived_left n inside (primary_parts n inside) rules.primary (a_mark fixed.STD a ∷ ts)) (as_form.std a ts);
      scope = λ a b ts. le_trans (derived_left n inside (primary_parts n inside) rules.primary (a_mark fixed.STD a ∷ a_mark fixed.SCOPE b ∷ ts)) (as_form.scope a b ts);
    };
    named = λ id a ts.
        le_trans (derived_left n inside (primary_parts n inside) rules.primary (a_name id a ∷ ts))
        (then_left n inside (primary_parts n inside) i (primary_laws n inside i) name (optional (rule rules.args or rule rules.list)) refl (a_name id a ∷ ts));
    string = λ a b c ts.
        le_trans (derived_left n inside (primary_parts n inside) rules.primary (a_mark fixed.STD a ∷ a_mark fixed.SCOPE b ∷ a_mark fixed.STRING c ∷ ts))
        (le_trans (behind_scope n inside (primary_parts n inside) i (primary_laws n inside i) std_primary a b (a_mark fixed.STRING c ∷ ts))
        (then_left n inside (primary_parts n inside) i (primary_laws n inside i) (quoted fixed.STRING) (parenthesized (rule rules.expr)) refl (a_mark fixed.STRING c ∷ ts)));
  }

  postfix_left : (ts : Tokens) → left (postfix_with n inside ts) ≤ left (primary_with n inside ts)
  unfolding postfix_with
  postfix_left ts =
      le_trans (derived_left n inside (postfix_parts n inside) rules.postfix ts)
      (then_left n inside (postfix_parts n inside) i (postfix_laws n inside i) (rule rules.primary) (many (rule rules.part)) refl ts)

  Passes-postfix : Passes (postfix_with n inside)
  Passes-postfix = Passes-as _ _ (record { named = λ id a ts. postfix_left (a_name id a ∷ ts); std = λ a ts. postfix_left (a_mark fixed.STD a ∷ ts) }) Passes-primary

  Passes-unary : Passes (unary_with n inside)
  unfolding unary_with
  Passes-unary = Passes-as _ _ (record {
    named = λ id a ts. derived_left n inside (λ r. postfix_with n inside) rules.unary (a_name id a ∷ ts);
    std = λ a ts. derived_left n inside (λ r. postfix_with n inside) rules.unary (a_mark fixed.STD a ∷ ts);
  }) Passes-postfix

  term_left : (ts : Tokens) → left (term_with n inside ts) ≤ left (unary_with n inside ts)
  unfolding term_with
  term_left ts =
      le_trans (derived_left n inside (λ r. unary_with n inside) rules.term ts)
      (then_left n inside (λ r. unary_with n inside) i (λ r. Law-any (rule_may_be_empty r) _ (Law-unary n inside i)) (rule rules.unary)
      (many ((quoted fixed.STAR or quoted fixed.SLASH or quoted fixed.PERCENT) then rule rules.unary)) refl ts)

  sum_left : (ts : Tokens) → left (sum_with n inside ts) ≤ left (term_with n inside ts)
  unfolding sum_with
  sum_left ts =
      le_trans (derived_left n inside (λ r. term_with n inside) rules.sum ts)
      (then_left n inside (λ r. term_with n inside) i (λ r. Law-any (rule_may_be_empty r) _ (Law-term n inside i)) (rule rules.term)
      (many ((quoted fixed.PLUS or quoted fixed.MINUS) then rule rules.term)) refl ts)

  pub Passes-sum : Passes (sum_with n inside)
  Passes-sum = Passes-as _ _ (record {
    named = λ id a ts. le_trans (sum_left (a_name id a ∷ ts)) (term_left (a_name id a ∷ ts));
    std = λ a ts. le_trans (sum_left (a_mark fixed.STD a ∷ ts)) (term_left (a_mark fixed.STD a ∷ ts));
  }) Passes-unary

  Passes-target : Passes (target_with n inside)
  unfolding target_with
  Passes-target = Passes-as _ _ (record {
    named = λ id a ts. derived_left n inside (λ r. postfix_with n inside) rules.target (a_name id a ∷ ts);
    std = λ a ts. derived_left n inside (λ r. postfix_with n inside) rules.target (a_mark fixed.STD a ∷ ts);
  }) Passes-postfix

  targeted_left : (ts : Tokens) → left (reads n inside (simple_parts n inside) (rule rules.target decides ending) ts) ≤ left (target_with n inside ts)
  targeted_left ts = both_left (target_with n inside) (λ t. reads n inside (simple_parts n inside) (ending t)) ◌⨾◌ (Looks-ending n inside i) ts

  pub Passes-simple : Passes (simple_with n inside)
  unfolding simple_with
  Passes-simple = Passes-as _ _ (record {
    named = λ id a ts. le_trans (derived_left n inside (simple_parts n inside) rules.simple (a_name id a ∷ ts)) (targeted_left (a_name id a ∷ ts));
    std = λ a ts. le_trans (derived_left n inside (simple_parts n inside) rules.simple (a_mark fixed.STD a ∷ ts)) (targeted_left (a_mark fixed.STD a ∷ ts));
  }) Passes-target
