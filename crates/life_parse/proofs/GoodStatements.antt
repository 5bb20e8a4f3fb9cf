-- The readers of statements are good.
use Rattle.std.proofs.Common.{ℕ, refl}
use Rattle.life_expr.specs.Readers.{Readers, declaration_fronts, block_item_parts, block_item_with, block_with, branches_with, plain_parts, plain_with, statement_parts, statement_with}
use Rattle.life_parse.proofs.GoodChosen.{good_chosen}
use Rattle.life_parse.proofs.GoodDerived.{good_derived}
use Rattle.life_parse.proofs.GoodReads.{InsideGood}
use Rattle.life_parse.proofs.GoodExprs.{good_expr, good_condition}
use Rattle.life_parse.proofs.GoodSentences.{good_sentence}
use Rattle.life_parse.proofs.GoodSimple.{good_declaration}
use Rattle.life_parse.proofs.Laws.{Good}
use Rattle.life_tree.specs.Grammar.{rule}
use Rattle.life_tree.specs.Rules as rules

pub good_block : (n : ℕ) (inside : Readers) → InsideGood n inside → Good (block_with n inside) (rule rules.block) n
unfolding block_with
good_block n inside i = good_derived n inside inside rules.block refl i tt

pub good_plain : (n : ℕ) (inside : Readers) → InsideGood n inside → Good (plain_with n inside) (rule rules.plain) n
unfolding plain_with
good_plain n inside i = let b0 = good_block n inside i in let c1 = good_condition n inside i in let e2 = good_expr n inside i in let s3 = good_sentence n inside i in good_derived n inside (plain_parts n inside) rules.plain refl i assumption

pub good_branches : (n : ℕ) (inside : Readers) → InsideGood n inside → Good (branches_with n inside) (rule rules.branches) n
unfolding branches_with
good_branches n inside i = good_derived n inside inside rules.branches refl i tt

pub good_statement : (n : ℕ) (inside : Readers) → InsideGood n inside → Good (statement_with n inside) (rule rules.statement) n
unfolding statement_with
good_statement n inside i = let b0 = good_branches n inside i in let p1 = good_plain n inside i in good_derived n inside (statement_parts n inside) rules.statement refl i assumption

pub good_block_item : (n : ℕ) (inside : Readers) → InsideGood n inside → Good (block_item_with n inside) (rule rules.block_item) n
unfolding block_item_with
good_block_item n inside i = let d = good_declaration n inside i in let s = good_statement n inside i in good_chosen 60 n inside (block_item_parts n inside) declaration_fronts rules.block_item refl refl refl refl refl i assumption
