-- The readers of functions, definitions and programs are good.
use Rattle.std.proofs.Common.{ℕ, refl}
use Rattle.life_expr.specs.Readers.{Readers, definition_parts, definition_with, function_parts, function_with, program_with}
use Rattle.life_parse.proofs.GoodDerived.{good_derived}
use Rattle.life_parse.proofs.GoodReads.{InsideGood}
use Rattle.life_parse.proofs.GoodStatements.{good_block}
use Rattle.life_parse.proofs.GoodTypes.{good_attribute, good_type, good_structure}
use Rattle.life_parse.proofs.Laws.{Good}
use Rattle.life_tree.specs.Grammar.{rule}
use Rattle.life_tree.specs.Rules as rules

pub good_function : (n : ℕ) (inside : Readers) → InsideGood n inside → Good (function_with n inside) (rule rules.function) n
unfolding function_with
good_function n inside i = let a0 = good_attribute n inside i in let t1 = good_type n inside i in let b2 = good_block n inside i in good_derived n inside (function_parts n inside) rules.function refl i assumption

pub good_definition : (n : ℕ) (inside : Readers) → InsideGood n inside → Good (definition_with n inside) (rule rules.definition) n
unfolding definition_with
good_definition n inside i = let s0 = good_structure n inside i in let f1 = good_function n inside i in good_derived n inside (definition_parts n inside) rules.definition refl i assumption

pub good_program : (n : ℕ) (inside : Readers) → InsideGood n inside → Good (program_with n inside) (rule rules.program) n
unfolding program_with
good_program n inside i = let d0 = good_definition n inside i in good_derived n inside (λ r. definition_with n inside) rules.program refl i assumption
