-- The readers of declarations and simple statements look at no token but the next, if those inside a construct do.
use Rattle.std.proofs.Common.{ℕ, Bool, true, false, refl}
use Rattle.std.proofs.Common.{[], ◌∷◌, if◌then◌else◌}
use Rattle.life_expr.specs.Heads.{quoted_kind, rule_may_be_empty}
use Rattle.life_expr.specs.Read.{reads}
use Rattle.life_expr.specs.Readers.{Readers, condition_with, initial_parts, initial_with, initializer_parts, initializer_with, declared_type_with, declaration_parts, declaration_with, target_with, simple_parts, simple_with}
use Rattle.life_parse.proofs.Looks.{Looks, Law}
use Rattle.life_parse.proofs.LooksOn.{Law-both, Law-when, Law-made}
use Rattle.life_parse.proofs.LooksForms.{Laws, Law-any, Law-no_reader, Law-derived, reads_law}
use Rattle.life_parse.proofs.LooksExprs.{Law-list, Law-expr, Law-unqualified, Law-postfix}
use Rattle.life_tree.specs.Grammar.{form_of, ending, assignment, step, is_starred, ends_in_arguments, none, ◌or◌, ◌decides◌, opens, rule}
use Rattle.life_tree.specs.Tree.{Tree, node, ◌⨾◌}
use Rattle.life_tree.specs.declared.fixed.TheConstants as fixed
use Rattle.life_tree.specs.Rules as rules

module _ (n : ℕ) (inside : Readers) (i : Laws inside) where
  pub Law-condition : Law false (condition_with n inside)
  unfolding condition_with
  Law-condition = Law-derived n inside inside i i rules.condition refl

  initial_laws : Laws (initial_parts n inside)
  initial_laws rules.expr = Law-expr n inside i
  initial_laws rules.list = Law-list n inside i
  initial_laws _ = Law-no_reader _

  pub Law-initial : Law false (initial_with n inside)
  unfolding initial_with
  Law-initial = Law-derived n inside (initial_parts n inside) i initial_laws rules.initial refl

  initializer_laws : Laws (initializer_parts n inside)
  initializer_laws rules.initial = Law-initial
  initializer_laws rules.list = Law-list n inside i
  initializer_laws _ = Law-no_reader _

  pub Law-initializer : Law true (initializer_with n inside)
  unfolding initializer_with
  Law-initializer = Law-derived n inside (initializer_parts n inside) i initializer_laws rules.initializer refl

  pub Law-declared_type : Law false (declared_type_with n inside)
  unfolding declared_type_with
  Law-declared_type = Law-derived n inside _ i (λ r. Law-any (rule_may_be_empty r) _ (Law-unqualified n inside i)) rules.declared_type refl

  pub declaration_laws : Laws (declaration_parts n inside)
  declaration_laws rules.declared_type = Law-declared_type
  declaration_laws rules.initializer = Law-initializer
  declaration_laws _ = Law-no_reader _

  pub Law-declaration : Law false (declaration_with n inside)
  unfolding declaration_with
  Law-declaration = Law-derived n inside (declaration_parts n inside) i declaration_laws rules.declaration refl

  pub Law-target : Law false (target_with n inside)
  unfolding target_with
  Law-target = Law-derived n inside _ i (λ r. Law-any (rule_may_be_empty r) _ (Law-postfix n inside i)) rules.target refl

  pub simple_laws : Laws (simple_parts n inside)
  simple_laws rules.target = Law-target
  simple_laws rules.initial = Law-initial
  simple_laws rules.expr = Law-expr n inside i
  simple_laws _ = Law-no_reader _

  ending_looks : (b c : Bool) → Looks (reads n inside (simple_parts n inside) (if b then assignment else if c then (assignment or step or none) else (assignment or step)))
  ending_looks true c = (reads_law n inside (simple_parts n inside) i simple_laws assignment refl).looks
  ending_looks false true = (reads_law n inside (simple_parts n inside) i simple_laws (assignment or step or none) refl).looks
  ending_looks false false = (reads_law n inside (simple_parts n inside) i simple_laws (assignment or step) refl).looks

  pub Looks-ending : (t : Tree) → Looks (reads n inside (simple_parts n inside) (ending t))
  Looks-ending t = ending_looks (is_starred t) (ends_in_arguments t)

  targeted : Law false (reads n inside (simple_parts n inside) (rule rules.target decides ending))
  targeted = Law-both false true (target_with n inside) (λ t. reads n inside (simple_parts n inside) (ending t)) ◌⨾◌ Law-target (λ t. record { looks = Looks-ending t; shrinks = λ h. absurd cc })

  pub Law-simple : Law false (simple_with n inside)
  unfolding simple_with
  Law-simple =
      Law-made false (node rules.simple) (reads n inside (simple_parts n inside) (form_of rules.simple))
      (Law-when false false (quoted_kind fixed.PLUS_PLUS ∷ []) _ _ (reads_law n inside (simple_parts n inside) i simple_laws (opens fixed.PLUS_PLUS (rule rules.target)) refl)
      (Law-when false false (quoted_kind fixed.MINUS_MINUS ∷ []) _ _ (reads_law n inside (simple_parts n inside) i simple_laws (opens fixed.MINUS_MINUS (rule rules.target)) refl) targeted))
