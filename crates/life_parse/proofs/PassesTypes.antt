-- The readers of types and declarations take a name, or `std`, `::` and `string`.
use Rattle.std.proofs.Common.{ℕ, ◌≤◌, ◌∷◌, length, refl, le_refl, le_trans}
use Rattle.life_expr.specs.Heads.{rule_may_be_empty}
use Rattle.life_expr.specs.Read.{reads}
use Rattle.life_expr.specs.Readers.{Readers, argument_with, base_with, unqualified_with, declared_type_with, declaration_parts, declaration_with}
use Rattle.life_parse.proofs.Left.{left, part_left, derived_left, then_left}
use Rattle.life_parse.proofs.LooksForms.{Laws, Law-any}
use Rattle.life_parse.proofs.LooksExprs.{Law-argument, Law-base}
use Rattle.life_parse.proofs.LooksSimple.{declaration_laws}
use Rattle.life_parse.proofs.Namespaced.{Passes-namespaced}
use Rattle.life_parse.proofs.Passes.{Passes, PassesScope, Passes-as, a_name, a_mark}
use Rattle.life_tree.specs.Grammar.{Form, quoted, ◌then◌, ◌or◌, optional, rule, name, namespaced}
use Rattle.life_tree.specs.Rules as rules
use Rattle.life_tree.specs.Tree.{nothing, Tokens}
use Rattle.life_tree.specs.declared.fixed.TheConstants as fixed

-- what stands behind `std` and `::`
abbrev std_base : Form
std_base =
    quoted fixed.SIZE_T or quoted fixed.STRING or quoted fixed.STRING_VIEW
    or (quoted fixed.VECTOR then rule rules.argument then optional (quoted fixed.SCOPE then (quoted fixed.ITERATOR or quoted fixed.CONST_ITERATOR)))
    or (quoted fixed.UNIQUE_PTR then rule rules.argument)

module _ (n : ℕ) (inside : Readers) (i : Laws inside) where
  base_laws : Laws (λ r. argument_with n inside)
  base_laws r = Law-any (rule_may_be_empty r) (argument_with n inside) (Law-argument n inside i)

  as_form : PassesScope (reads n inside (λ r. argument_with n inside) (namespaced fixed.STD std_base))
  as_form = Passes-namespaced n inside (λ r. argument_with n inside) i base_laws std_base refl

  Passes-base : Passes (base_with n inside)
  unfolding base_with
  Passes-base = record {
    scoped = record {
      std = λ a ts. le_trans (derived_left n inside (λ r. argument_with n inside) rules.base (a_mark fixed.STD a ∷ ts)) (as_form.std a ts);
      scope = λ a b ts. le_trans (derived_left n inside (λ r. argument_with n inside) rules.base (a_mark fixed.STD a ∷ a_mark fixed.SCOPE b ∷ ts)) (as_form.scope a b ts);
    };
    named = λ id a ts. le_refl (length ts);
    string = λ a b c ts. le_refl (length ts);
  }

  unqualified_left : (ts : Tokens) → left (unqualified_with n inside ts) ≤ left (base_with n inside ts)
  unfolding unqualified_with
  unqualified_left ts =
      le_trans (derived_left n inside (λ r. base_with n inside) rules.unqualified ts)
      (then_left n inside (λ r. base_with n inside) i (λ r. Law-any (rule_may_be_empty r) _ (Law-base n inside i)) (rule rules.base) (optional (quoted fixed.STAR or quoted fixed.AMPERSAND)) refl ts)

  Passes-unqualified : Passes (unqualified_with n inside)
  Passes-unqualified = Passes-as _ _ (record { named = λ id a ts. unqualified_left (a_name id a ∷ ts); std = λ a ts. unqualified_left (a_mark fixed.STD a ∷ ts) }) Passes-base

  pub Passes-declared_type : Passes (declared_type_with n inside)
  unfolding declared_type_with
  Passes-declared_type = Passes-as _ _ (record {
    named = λ id a ts. le_trans (derived_left n inside (λ r. unqualified_with n inside) rules.declared_type (a_name id a ∷ ts)) (part_left nothing (unqualified_with n inside (a_name id a ∷ ts)));
    std = λ a ts. le_trans (derived_left n inside (λ r. unqualified_with n inside) rules.declared_type (a_mark fixed.STD a ∷ ts)) (part_left nothing (unqualified_with n inside (a_mark fixed.STD a ∷ ts)));
  }) Passes-unqualified

  declaration_left : (ts : Tokens) → left (declaration_with n inside ts) ≤ left (declared_type_with n inside ts)
  unfolding declaration_with
  declaration_left ts =
      le_trans (derived_left n inside (declaration_parts n inside) rules.declaration ts)
      (then_left n inside (declaration_parts n inside) i (declaration_laws n inside i) (rule rules.declared_type) (name then rule rules.initializer) refl ts)

  pub Passes-declaration : Passes (declaration_with n inside)
  Passes-declaration = Passes-as _ _ (record { named = λ id a ts. declaration_left (a_name id a ∷ ts); std = λ a ts. declaration_left (a_mark fixed.STD a ∷ ts) }) Passes-declared_type
