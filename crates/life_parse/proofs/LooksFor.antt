-- The readers of the heads of `for` look at no token but the next.
use Rattle.std.proofs.Common.{ℕ, false, refl, le_refl}
use Rattle.life_expr.specs.Read.{reads}
use Rattle.life_expr.specs.Readers.{Readers, declaration_fronts, for_rest_parts, for_rest_with, for_parts, for_clauses_with, for_head_with, simple_with}
use Rattle.life_parse.proofs.Choice.{Law-selected, Ready-declaration, selected}
use Rattle.life_parse.proofs.Looks.{Law}
use Rattle.life_parse.proofs.LooksExprs.{Law-expr}
use Rattle.life_parse.proofs.LooksForms.{Laws, Law-no_reader, Law-derived, reads_law}
use Rattle.life_parse.proofs.LooksOn.{Law-made}
use Rattle.life_parse.proofs.LooksSimple.{Law-declared_type, Law-initializer, Law-simple}
use Rattle.life_parse.proofs.Passes.{Passes, Passes-as}
use Rattle.life_parse.proofs.PassesExprs.{Passes-simple}
use Rattle.life_parse.proofs.PassesThen.{Passes-then}
use Rattle.life_parse.proofs.PassesTypes.{Passes-declared_type}
use Rattle.life_tree.specs.Grammar.{Form, quoted, name, ◌then◌, ◌or◌, optional, rule}
use Rattle.life_tree.specs.Rules as rules
use Rattle.life_tree.specs.Tree.{node}
use Rattle.life_tree.specs.declared.fixed.TheConstants as fixed

module _ (n : ℕ) (inside : Readers) (i : Laws inside) where
  for_rest_laws : Laws (for_rest_parts n inside)
  for_rest_laws rules.expr = Law-expr n inside i
  for_rest_laws rules.simple = Law-simple n inside i
  for_rest_laws _ = Law-no_reader _

  pub Law-for_rest : Law false (for_rest_with n inside)
  unfolding for_rest_with
  Law-for_rest = Law-derived n inside (for_rest_parts n inside) i for_rest_laws rules.for_rest refl

  pub for_laws : Laws (for_parts n inside)
  for_laws rules.declared_type = Law-declared_type n inside i
  for_laws rules.initializer = Law-initializer n inside i
  for_laws rules.expr = Law-expr n inside i
  for_laws rules.simple = Law-simple n inside i
  for_laws rules.for_rest = Law-for_rest
  for_laws _ = Law-no_reader _

  abbrev declared : Form
  declared = rule rules.declared_type then name then ((quoted fixed.COLON then rule rules.expr) or (rule rules.initializer then rule rules.for_rest))

  abbrev undeclared : Form
  undeclared = optional (rule rules.simple) then rule rules.for_rest

  Passes-declared : Passes (reads n inside (for_parts n inside) declared)
  Passes-declared = Passes-then n inside (for_parts n inside) i for_laws (rule rules.declared_type) (name then ((quoted fixed.COLON then rule rules.expr) or (rule rules.initializer then rule rules.for_rest))) refl (Passes-declared_type n inside i)

  Passes-optional : Passes (reads n inside (for_parts n inside) (optional (rule rules.simple)))
  Passes-optional = Passes-as _ (simple_with n inside) (record { named = λ id a ts. le_refl _; std = λ a ts. le_refl _ }) (Passes-simple n inside i)

  Passes-undeclared : Passes (reads n inside (for_parts n inside) undeclared)
  Passes-undeclared = Passes-then n inside (for_parts n inside) i for_laws (optional (rule rules.simple)) (rule rules.for_rest) refl Passes-optional

  pub Law-for_clauses : Law false (for_clauses_with n inside)
  unfolding for_clauses_with
  Law-for_clauses =
      Law-made false (node rules.for_clauses) (selected declaration_fronts (reads n inside (for_parts n inside) declared) (reads n inside (for_parts n inside) undeclared))
      (Law-selected declaration_fronts (reads n inside (for_parts n inside) declared) (reads n inside (for_parts n inside) undeclared)
      (reads_law n inside (for_parts n inside) i for_laws declared refl) (reads_law n inside (for_parts n inside) i for_laws undeclared refl)
      (Ready-declaration _ Passes-declared) (Ready-declaration _ Passes-undeclared))

  pub Law-for_head : Law false (for_head_with n inside)
  unfolding for_head_with
  Law-for_head = Law-derived n inside inside i i rules.for_head refl
