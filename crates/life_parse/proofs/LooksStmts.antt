-- The readers of statements look at no token but the next, if those inside a construct do.
use Rattle.std.proofs.Common.{ℕ, true, false, ◌∷◌, refl}
use Rattle.life_expr.specs.Read.{reads}
use Rattle.life_expr.specs.Readers.{Readers, declaration_fronts, sentence_with, block_with, plain_parts, plain_with, branches_with, statement_parts, statement_with, else_part_with, block_item_parts, block_item_with}
use Rattle.life_parse.proofs.Choice.{Law-selected, Ready-declaration, selected}
use Rattle.life_parse.proofs.Left.{derived_left}
use Rattle.life_parse.proofs.Looks.{Law}
use Rattle.life_parse.proofs.LooksElse.{Law-else_part}
use Rattle.life_parse.proofs.LooksExprs.{Law-expr}
use Rattle.life_parse.proofs.LooksForms.{Laws, Law-no_reader, Law-derived, reads_law}
use Rattle.life_parse.proofs.LooksOn.{Law-made}
use Rattle.life_parse.proofs.LooksPrint.{Law-sentence, Passes-sentence}
use Rattle.life_parse.proofs.LooksSimple.{Law-condition, Law-declaration}
use Rattle.life_parse.proofs.Passes.{Passes, Passes-as, a_name, a_mark}
use Rattle.life_parse.proofs.PassesThen.{Passes-then}
use Rattle.life_parse.proofs.PassesTypes.{Passes-declaration}
use Rattle.life_tree.specs.Grammar.{quoted, ◌then◌, rule}
use Rattle.life_tree.specs.Rules as rules
use Rattle.life_tree.specs.Tree.{node}
use Rattle.life_tree.specs.declared.fixed.TheConstants as fixed

module _ (n : ℕ) (inside : Readers) (i : Laws inside) where
  pub Law-block : Law false (block_with n inside)
  unfolding block_with
  Law-block = Law-derived n inside inside i i rules.block refl

  plain_laws : Laws (plain_parts n inside)
  plain_laws rules.block = Law-block
  plain_laws rules.expr = Law-expr n inside i
  plain_laws rules.condition = Law-condition n inside i
  plain_laws rules.sentence = Law-sentence n inside i
  plain_laws _ = Law-no_reader _

  pub Law-plain : Law false (plain_with n inside)
  unfolding plain_with
  Law-plain = Law-derived n inside (plain_parts n inside) i plain_laws rules.plain refl

  Passes-plain : Passes (plain_with n inside)
  unfolding plain_with
  Passes-plain = Passes-as _ (sentence_with n inside) (record {
    named = λ id a ts. derived_left n inside (plain_parts n inside) rules.plain (a_name id a ∷ ts);
    std = λ a ts. derived_left n inside (plain_parts n inside) rules.plain (a_mark fixed.STD a ∷ ts);
  }) (Passes-sentence n inside i)

  pub Law-branches : Law false (branches_with n inside)
  unfolding branches_with
  Law-branches = Law-derived n inside inside i i rules.branches refl

  statement_laws : Laws (statement_parts n inside)
  statement_laws rules.branches = Law-branches
  statement_laws rules.plain = Law-plain
  statement_laws _ = Law-no_reader _

  pub Law-statement : Law false (statement_with n inside)
  unfolding statement_with
  Law-statement = Law-derived n inside (statement_parts n inside) i statement_laws rules.statement refl

  Passes-statement : Passes (statement_with n inside)
  unfolding statement_with
  Passes-statement = Passes-as _ (plain_with n inside) (record {
    named = λ id a ts. derived_left n inside (statement_parts n inside) rules.statement (a_name id a ∷ ts);
    std = λ a ts. derived_left n inside (statement_parts n inside) rules.statement (a_mark fixed.STD a ∷ ts);
  }) Passes-plain

  pub Law-else : Law true (else_part_with n inside)
  Law-else = Law-else_part n inside i (Law-condition n inside i) Law-statement Law-plain

  pub block_item_laws : Laws (block_item_parts n inside)
  block_item_laws rules.declaration = Law-declaration n inside i
  block_item_laws rules.statement = Law-statement
  block_item_laws _ = Law-no_reader _

  Passes-declared_item : Passes (reads n inside (block_item_parts n inside) (rule rules.declaration then quoted fixed.SEMICOLON))
  Passes-declared_item = Passes-then n inside (block_item_parts n inside) i block_item_laws (rule rules.declaration) (quoted fixed.SEMICOLON) refl (Passes-declaration n inside i)

  pub Law-block_item : Law false (block_item_with n inside)
  unfolding block_item_with
  Law-block_item =
      Law-made false (node rules.block_item) (selected declaration_fronts (reads n inside (block_item_parts n inside) (rule rules.declaration then quoted fixed.SEMICOLON)) (statement_with n inside))
      (Law-selected declaration_fronts (reads n inside (block_item_parts n inside) (rule rules.declaration then quoted fixed.SEMICOLON)) (statement_with n inside)
      (reads_law n inside (block_item_parts n inside) i block_item_laws (rule rules.declaration then quoted fixed.SEMICOLON) refl) Law-statement
      (Ready-declaration _ Passes-declared_item) (Ready-declaration _ Passes-statement))
