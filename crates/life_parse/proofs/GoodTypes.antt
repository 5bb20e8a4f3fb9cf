-- The readers of types, attributes, parameters and structs are good.
use Rattle.std.proofs.Common.{ℕ, refl}
use Rattle.life_expr.specs.Readers.{Readers, argument_with, attribute_with, base_with, declared_type_with, member_with, no_reader, parameter_parts, parameter_with, structure_with, type_with, unqualified_with, word_with}
use Rattle.life_parse.proofs.GoodDerived.{good_derived}
use Rattle.life_parse.proofs.GoodReads.{InsideGood}
use Rattle.life_parse.proofs.Laws.{Good}
use Rattle.life_tree.specs.Grammar.{rule}
use Rattle.life_tree.specs.Rules as rules

pub good_argument : (n : ℕ) (inside : Readers) → InsideGood n inside → Good (argument_with n inside) (rule rules.argument) n
unfolding argument_with
good_argument n inside i = good_derived n inside inside rules.argument refl i tt

pub good_base : (n : ℕ) (inside : Readers) → InsideGood n inside → Good (base_with n inside) (rule rules.base) n
unfolding base_with
good_base n inside i = let a0 = good_argument n inside i in good_derived n inside (λ r. argument_with n inside) rules.base refl i assumption

pub good_unqualified : (n : ℕ) (inside : Readers) → InsideGood n inside → Good (unqualified_with n inside) (rule rules.unqualified) n
unfolding unqualified_with
good_unqualified n inside i = let b0 = good_base n inside i in good_derived n inside (λ r. base_with n inside) rules.unqualified refl i assumption

pub good_type : (n : ℕ) (inside : Readers) → InsideGood n inside → Good (type_with n inside) (rule rules.type_name) n
unfolding type_with
good_type n inside i = let u0 = good_unqualified n inside i in good_derived n inside (λ r. unqualified_with n inside) rules.type_name refl i assumption

pub good_declared_type : (n : ℕ) (inside : Readers) → InsideGood n inside → Good (declared_type_with n inside) (rule rules.declared_type) n
unfolding declared_type_with
good_declared_type n inside i = let u0 = good_unqualified n inside i in good_derived n inside (λ r. unqualified_with n inside) rules.declared_type refl i assumption

pub good_word : (n : ℕ) (inside : Readers) → InsideGood n inside → Good (word_with n inside) (rule rules.word) n
unfolding word_with
good_word n inside i = good_derived n inside (λ r. no_reader) rules.word refl i assumption

pub good_attribute : (n : ℕ) (inside : Readers) → InsideGood n inside → Good (attribute_with n inside) (rule rules.attribute) n
unfolding attribute_with
good_attribute n inside i = good_derived n inside (λ r. no_reader) rules.attribute refl i assumption

pub good_parameter : (n : ℕ) (inside : Readers) → InsideGood n inside → Good (parameter_with n inside) (rule rules.parameter) n
unfolding parameter_with
good_parameter n inside i = let a0 = good_attribute n inside i in let t1 = good_type n inside i in good_derived n inside (parameter_parts n inside) rules.parameter refl i assumption

pub good_member : (n : ℕ) (inside : Readers) → InsideGood n inside → Good (member_with n inside) (rule rules.member) n
unfolding member_with
good_member n inside i = let t0 = good_type n inside i in good_derived n inside (λ r. type_with n inside) rules.member refl i assumption

pub good_structure : (n : ℕ) (inside : Readers) → InsideGood n inside → Good (structure_with n inside) (rule rules.structure) n
unfolding structure_with
good_structure n inside i = good_derived n inside (λ r. no_reader) rules.structure refl i assumption
