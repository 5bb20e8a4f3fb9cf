-- The readers of sentences, of what is printed, and of what stands in the head of a `for`, are good.
use Rattle.std.proofs.Common.{ℕ, refl}
use Rattle.life_expr.specs.Readers.{Readers, declaration_fronts, print_fronts, end_of_line_fronts, for_parts, for_clauses_with, for_head_with, item_with, sum_with, print_part_with, sentence_parts, sentence_with}
use Rattle.life_parse.proofs.GoodChosen.{good_chosen}
use Rattle.life_parse.proofs.GoodDerived.{good_derived}
use Rattle.life_parse.proofs.GoodExprs.{good_expr, good_sum, good_initializer}
use Rattle.life_parse.proofs.GoodReads.{InsideGood}
use Rattle.life_parse.proofs.GoodSimple.{good_simple, good_for_rest}
use Rattle.life_parse.proofs.GoodTypes.{good_declared_type}
use Rattle.life_parse.proofs.Laws.{Good}
use Rattle.life_tree.specs.Grammar.{rule}
use Rattle.life_tree.specs.Rules as rules

pub good_for_clauses : (n : ℕ) (inside : Readers) → InsideGood n inside → Good (for_clauses_with n inside) (rule rules.for_clauses) n
unfolding for_clauses_with
good_for_clauses n inside i = let d0 = good_declared_type n inside i in let i1 = good_initializer n inside i in let e2 = good_expr n inside i in let s3 = good_simple n inside i in let f4 = good_for_rest n inside i in good_chosen 60 n inside (for_parts n inside) declaration_fronts rules.for_clauses refl refl refl refl refl i assumption

pub good_for_head : (n : ℕ) (inside : Readers) → InsideGood n inside → Good (for_head_with n inside) (rule rules.for_head) n
unfolding for_head_with
good_for_head n inside i = good_derived n inside inside rules.for_head refl i tt

pub good_item : (n : ℕ) (inside : Readers) → InsideGood n inside → Good (item_with n inside) (rule rules.item) n
unfolding item_with
good_item n inside i = let s0 = good_sum n inside i in good_chosen 60 n inside (λ r. sum_with n inside) end_of_line_fronts rules.item refl refl refl refl refl i assumption

pub good_print_part : (n : ℕ) (inside : Readers) → InsideGood n inside → Good (print_part_with n inside) (rule rules.print_part) n
unfolding print_part_with
good_print_part n inside i = let i0 = good_item n inside i in good_derived n inside (λ r. item_with n inside) rules.print_part refl i assumption

pub good_sentence : (n : ℕ) (inside : Readers) → InsideGood n inside → Good (sentence_with n inside) (rule rules.sentence) n
unfolding sentence_with
good_sentence n inside i = let p0 = good_print_part n inside i in let s1 = good_simple n inside i in good_chosen 60 n inside (sentence_parts n inside) print_fronts rules.sentence refl refl refl refl refl i assumption
