-- Where more may be open, the readers of declarations and simple statements read the same, if those inside a construct do.
use Rattle.std.proofs.Common.{ℕ, ◌≤◌}
use Rattle.life_expr.specs.Readers.{Readers, no_reader, condition_with, initial_parts, initial_with, initializer_parts, initializer_with, declared_type_with, declaration_parts, declaration_with, target_with, simple_parts, simple_with}
use Rattle.life_parse.proofs.Agrees.{Agrees, AllAgree, Agrees-self, Agrees-derived}
use Rattle.life_parse.proofs.AgreesExprs.{Agrees-unqualified, Agrees-list, Agrees-postfix, Agrees-expr}
use Rattle.life_tree.specs.Rules as rules

module _ (n k : ℕ) (inside inside' : Readers) (le : n ≤ k) (i : AllAgree inside inside') where
  pub Agrees-condition : Agrees (condition_with n inside) (condition_with k inside')
  unfolding condition_with
  Agrees-condition = Agrees-derived n k inside inside' inside inside' le i i rules.condition

  initial_agree : AllAgree (initial_parts n inside) (initial_parts k inside')
  initial_agree rules.expr = Agrees-expr n k inside inside' le i
  initial_agree rules.list = Agrees-list n k inside inside' le i
  initial_agree _ = Agrees-self no_reader

  pub Agrees-initial : Agrees (initial_with n inside) (initial_with k inside')
  unfolding initial_with
  Agrees-initial = Agrees-derived n k inside inside' (initial_parts n inside) (initial_parts k inside') le i initial_agree rules.initial

  initializer_agree : AllAgree (initializer_parts n inside) (initializer_parts k inside')
  initializer_agree rules.initial = Agrees-initial
  initializer_agree rules.list = Agrees-list n k inside inside' le i
  initializer_agree _ = Agrees-self no_reader

  pub Agrees-initializer : Agrees (initializer_with n inside) (initializer_with k inside')
  unfolding initializer_with
  Agrees-initializer = Agrees-derived n k inside inside' (initializer_parts n inside) (initializer_parts k inside') le i initializer_agree rules.initializer

  pub Agrees-declared_type : Agrees (declared_type_with n inside) (declared_type_with k inside')
  unfolding declared_type_with
  Agrees-declared_type = Agrees-derived n k inside inside' _ _ le i (λ r. Agrees-unqualified n k inside inside' le i) rules.declared_type

  declaration_agree : AllAgree (declaration_parts n inside) (declaration_parts k inside')
  declaration_agree rules.declared_type = Agrees-declared_type
  declaration_agree rules.initializer = Agrees-initializer
  declaration_agree _ = Agrees-self no_reader

  pub Agrees-declaration : Agrees (declaration_with n inside) (declaration_with k inside')
  unfolding declaration_with
  Agrees-declaration = Agrees-derived n k inside inside' (declaration_parts n inside) (declaration_parts k inside') le i declaration_agree rules.declaration

  pub Agrees-target : Agrees (target_with n inside) (target_with k inside')
  unfolding target_with
  Agrees-target = Agrees-derived n k inside inside' _ _ le i (λ r. Agrees-postfix n k inside inside' le i) rules.target

  simple_agree : AllAgree (simple_parts n inside) (simple_parts k inside')
  simple_agree rules.target = Agrees-target
  simple_agree rules.initial = Agrees-initial
  simple_agree rules.expr = Agrees-expr n k inside inside' le i
  simple_agree _ = Agrees-self no_reader

  pub Agrees-simple : Agrees (simple_with n inside) (simple_with k inside')
  unfolding simple_with
  Agrees-simple = Agrees-derived n k inside inside' (simple_parts n inside) (simple_parts k inside') le i simple_agree rules.simple
