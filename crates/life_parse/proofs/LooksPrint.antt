-- The readers of what is printed, and of simple statements with their semicolon, look at no token but the next.
use Rattle.std.proofs.Common.{ℕ, ◌≤◌, false, ◌∷◌, length, refl, le_trans}
use Rattle.life_expr.specs.Heads.{rule_may_be_empty}
use Rattle.life_expr.specs.Read.{Reader, reads}
use Rattle.life_expr.specs.Readers.{Readers, begins_as, print_fronts, end_of_line_fronts, sum_with, item_with, print_part_with, sentence_parts, sentence_with}
use Rattle.life_parse.proofs.Choice.{Law-selected, Ready-print, Ready-end_of_line, selected}
use Rattle.life_parse.proofs.Left.{left, node_left, cond_left}
use Rattle.life_parse.proofs.Looks.{Law}
use Rattle.life_parse.proofs.LooksExprs.{Law-sum}
use Rattle.life_parse.proofs.LooksForms.{Laws, Law-any, Law-no_reader, Law-derived, reads_law}
use Rattle.life_parse.proofs.LooksOn.{Law-made}
use Rattle.life_parse.proofs.LooksSimple.{Law-simple}
use Rattle.life_parse.proofs.Namespaced.{Passes-namespaced}
use Rattle.life_parse.proofs.Passes.{Passes, PassesScope, a_name, a_mark}
use Rattle.life_parse.proofs.PassesExprs.{Passes-simple, Passes-sum}
use Rattle.life_parse.proofs.PassesThen.{Passes-then}
use Rattle.life_tree.specs.Grammar.{quoted, ◌then◌, some, rule, namespaced}
use Rattle.life_tree.specs.Rules as rules
use Rattle.life_tree.specs.Tree.{node, Tokens}
use Rattle.life_tree.specs.declared.fixed.TheConstants as fixed

module _ (n : ℕ) (inside : Readers) (i : Laws inside) where
  item_laws : Laws (λ r. sum_with n inside)
  item_laws r = Law-any (rule_may_be_empty r) (sum_with n inside) (Law-sum n inside i)

  abbrev end_of_line : Reader
  end_of_line = reads n inside (λ r. sum_with n inside) (namespaced fixed.STD (quoted fixed.ENDL))

  pub Law-item : Law false (item_with n inside)
  unfolding item_with
  Law-item =
      Law-made false (node rules.item) (selected end_of_line_fronts end_of_line (sum_with n inside))
      (Law-selected end_of_line_fronts end_of_line (sum_with n inside) (reads_law n inside (λ r. sum_with n inside) i item_laws (namespaced fixed.STD (quoted fixed.ENDL)) refl) (Law-sum n inside i)
      (Ready-end_of_line end_of_line (Passes-namespaced n inside (λ r. sum_with n inside) i item_laws (quoted fixed.ENDL) refl)) (Ready-end_of_line (sum_with n inside) (Passes-sum n inside i).scoped))

  pub Law-print_part : Law false (print_part_with n inside)
  unfolding print_part_with
  Law-print_part = Law-derived n inside _ i (λ r. Law-any (rule_may_be_empty r) _ Law-item) rules.print_part refl

  pub sentence_laws : Laws (sentence_parts n inside)
  sentence_laws rules.print_part = Law-print_part
  sentence_laws rules.simple = Law-simple n inside i
  sentence_laws _ = Law-no_reader _

  abbrev printing : Reader
  printing = reads n inside (sentence_parts n inside) (namespaced fixed.STD (quoted fixed.COUT then some (rule rules.print_part) then quoted fixed.SEMICOLON))

  abbrev ended : Reader
  ended = reads n inside (sentence_parts n inside) (rule rules.simple then quoted fixed.SEMICOLON)

  Passes-printing : PassesScope printing
  Passes-printing = Passes-namespaced n inside (sentence_parts n inside) i sentence_laws (quoted fixed.COUT then some (rule rules.print_part) then quoted fixed.SEMICOLON) refl

  Passes-ended : Passes ended
  Passes-ended = Passes-then n inside (sentence_parts n inside) i sentence_laws (rule rules.simple) (quoted fixed.SEMICOLON) refl (Passes-simple n inside i)

  pub Law-sentence : Law false (sentence_with n inside)
  unfolding sentence_with
  Law-sentence =
      Law-made false (node rules.sentence) (selected print_fronts printing ended)
      (Law-selected print_fronts printing ended
      (reads_law n inside (sentence_parts n inside) i sentence_laws (namespaced fixed.STD (quoted fixed.COUT then some (rule rules.print_part) then quoted fixed.SEMICOLON)) refl)
      (reads_law n inside (sentence_parts n inside) i sentence_laws (rule rules.simple then quoted fixed.SEMICOLON) refl)
      (Ready-print printing Passes-printing) (Ready-print ended Passes-ended.scoped))

  either_left : (ts : Tokens) (m : ℕ) → left (printing ts) ≤ m → left (ended ts) ≤ m → left (sentence_with n inside ts) ≤ m
  unfolding sentence_with
  either_left ts m g h = le_trans (node_left rules.sentence (selected print_fronts printing ended ts)) (cond_left (begins_as print_fronts ts) (printing ts) (ended ts) m g h)

  pub Passes-sentence : Passes (sentence_with n inside)
  unfolding sentence_with
  Passes-sentence = record {
    scoped = record {
      std = λ a ts. either_left (a_mark fixed.STD a ∷ ts) (length ts) (Passes-printing.std a ts) (Passes-ended.scoped.std a ts);
      scope = λ a b ts. either_left (a_mark fixed.STD a ∷ a_mark fixed.SCOPE b ∷ ts) (length ts) (Passes-printing.scope a b ts) (Passes-ended.scoped.scope a b ts);
    };
    named = λ id a ts. le_trans (node_left rules.sentence (ended (a_name id a ∷ ts))) (Passes-ended.named id a ts);
    string = λ a b c ts. le_trans (node_left rules.sentence (ended (a_mark fixed.STD a ∷ a_mark fixed.SCOPE b ∷ a_mark fixed.STRING c ∷ ts))) (Passes-ended.string a b c ts);
  }
