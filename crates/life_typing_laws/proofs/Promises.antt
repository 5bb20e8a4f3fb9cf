-- What a header promises: something of each of its parameters, and of its result nothing but what its parameters hold.
use Rattle.std.proofs.Common.{◌≡◌, ℕ, suc, Bool, true, false, Option, Some, None, List, [], ◌∷◌, length, nat_lt, slice_get, refl, sym, ap, subst, ◌∙◌, if◌then◌else◌, lt-ltb}
use Rattle.std.specs.Prelude.{codes, unwrap_or}
use Rattle.std.specs.List.{list_all}
use Rattle.std.specs.Str.{bytes_eq}
use Rattle.std.proofs.lemmas.Bool.{and_from}
use Rattle.std.proofs.lemmas.List.Folds.{list_all-append}
use Rattle.std.proofs.lemmas.Option.{slice_get_within}
use Rattle.life_tree.specs.declared.attribute.Attribute.{Attribute}
use Rattle.life_tree.specs.declared.attribute.AttributeArguments.{AttributeArguments}
use Rattle.life_tree.specs.declared.attribute.AttributeWord.{AttributeWord}
use Rattle.life_tree.specs.declared.attribute.AttributeWord.TheVariants as word
use Rattle.life_tree.specs.declared.function.Parameter.{Parameter}
use Rattle.life_tree.specs.declared.identifier.Identifier.{Identifier}
use Rattle.life_typed.specs.Programs.{default, listed}
use Rattle.life_names.specs.Environment.{Scope, meaning, text}
use Rattle.life_names.specs.declared.environment.Entity.{Entity}
use Rattle.life_names.specs.declared.environment.Entity.TheVariants as entity
use Rattle.life_typing.specs.Attributes.{is_null_word, life_attribute, life_name}
use Rattle.life_typing.specs.Promises.{Words, named_number, named_numbers, no_words, none_named, parameter_promises, promised, result_promise, with_arguments, with_attribute_named, with_attributes, with_meaning, with_name, with_named, with_word, with_words}
use Rattle.life_well_typed.specs.Functions.{lists_parameters}
use Rattle.life_typing_laws.proofs.Domains.{LifeAttribute}
use Rattle.life_typing_laws.proofs.Scopes.{set_length}

-- ---- one for each parameter

pub promises_count : (scope : Scope) (ps : List Parameter) → length (parameter_promises scope ps) ≡ length ps
promises_count scope [] = refl
promises_count scope (q ∷ ps) = ap suc (promises_count scope ps)

none_count : (ps : List Parameter) → length (none_named ps) ≡ length ps
none_count [] = refl
none_count (q ∷ ps) = ap suc (none_count ps)

-- ---- of each it is told whether it is named, whatever words come

abbrev size : Words → ℕ
size words = length words.named

meaning_size : (e : Entity) (words : Words) → size (with_meaning e words) ≡ size words
meaning_size entity.Unseen words = refl
meaning_size (entity.Structure number) words = refl
meaning_size (entity.Function number) words = refl
meaning_size (entity.Local number) words = set_length words.named number true

name_size : (scope : Scope) (name : Identifier) (words : Words) → size (with_name scope name words) ≡ size words
name_size scope name words = go (is_null_word scope name.id)
  where
    go : (b : Bool) → size (if b then record words { null = true } else with_meaning (meaning scope name.id) words) ≡ size words
    go true = refl
    go false = meaning_size (meaning scope name.id) words

word_size : (scope : Scope) (w : AttributeWord) (words : Words) → size (with_word scope w words) ≡ size words
word_size scope (word.Static place) words = refl
word_size scope (word.Name name) words = name_size scope name words

words_size : (scope : Scope) (ws : List AttributeWord) (words : Words) → size (with_words scope ws words) ≡ size words
words_size scope [] words = refl
words_size scope (w ∷ ws) words = words_size scope ws (with_word scope w words) ∙ word_size scope w words

arguments_size : (scope : Scope) (arguments : Option AttributeArguments) (words : Words) → size (with_arguments scope arguments words) ≡ size words
arguments_size scope None words = refl
arguments_size scope (Some a) words = words_size scope a.words.items words

abbrev SizeStays : Scope → Option AttributeArguments → Words → LifeAttribute → Type 0
SizeStays scope arguments words attribute = size (with_named scope attribute arguments words) ≡ size words

either : {A : Type 0} (Holds : A → Type 0) (b : Bool) (x y : A) → Holds x → Holds y → Holds (if b then x else y)
either Holds true x y first second = first
either Holds false x y first second = second

named_size : (scope : Scope) (name : List ℕ) (arguments : Option AttributeArguments) (words : Words) → SizeStays scope arguments words (life_attribute name)
named_size scope name arguments words =
    either (SizeStays scope arguments words) (bytes_eq name (codes "nonnull")) (life_attribute (codes "nonnull")) _ refl
    (either (SizeStays scope arguments words) (bytes_eq name (codes "keeps")) (life_attribute (codes "keeps")) _ refl
    (either (SizeStays scope arguments words) (bytes_eq name (codes "ret")) (life_attribute (codes "ret")) (life_attribute []) (arguments_size scope arguments (record words { listed = true })) refl))

attribute_size : (name : Option Identifier) (scope : Scope) (a : Attribute) (words : Words) → size (with_attribute_named name scope a words) ≡ size words
attribute_size None scope a words = refl
attribute_size (Some name) scope a words = named_size scope (text scope name.id) a.arguments words

attributes_size : (scope : Scope) (attributes : List Attribute) (words : Words) → size (with_attributes scope attributes words) ≡ size words
attributes_size scope [] words = refl
attributes_size scope (a ∷ others) words =
    attributes_size scope others (with_attribute_named (life_name scope a) scope a words) ∙ attribute_size (life_name scope a) scope a words

-- ---- so what is listed is numbers of parameters

abbrev Below : ℕ → List ℕ → Type 0
Below n numbers = list_all (λ (x : ℕ). nat_lt x n) numbers ≡ true

number_below : (named : List Bool) (e : Entity) → Below (length named) (named_number named e)
number_below named entity.Unseen = refl
number_below named (entity.Structure number) = refl
number_below named (entity.Function number) = refl
number_below named (entity.Local number) = go (slice_get named number) refl
  where
    go : (o : Option Bool) → slice_get named number ≡ o → Below (length named) (if unwrap_or o false then number ∷ [] else [])
    go None is = refl
    go (Some false) is = refl
    go (Some true) is = and_from (nat_lt number (length named)) true (lt-ltb number (length named) (slice_get_within named number true is)) refl

numbers_below : (scope : Scope) (named : List Bool) (ps : List Parameter) → Below (length named) (named_numbers scope named ps)
numbers_below scope named [] = refl
numbers_below scope named (p ∷ ps) =
    list_all-append (λ (x : ℕ). nat_lt x (length named)) (named_number named (meaning scope p.name.id)) (named_numbers scope named ps)
    ∙ and_from (list_all (λ (x : ℕ). nat_lt x (length named)) (named_number named (meaning scope p.name.id))) _ (number_below named (meaning scope p.name.id)) (numbers_below scope named ps)

promised_lists : (scope : Scope) (words : Words) (ps : List Parameter) (n : ℕ) → size words ≡ n → lists_parameters n (promised scope words ps) ≡ true
promised_lists scope words ps n counted = go words.listed
  where
    go : (b : Bool) → lists_parameters n (if b then listed (named_numbers scope words.named ps) words.fixed words.null else default) ≡ true
    go true = subst (λ (m : ℕ). Below m (named_numbers scope words.named ps)) counted (numbers_below scope words.named ps)
    go false = refl

pub promise_lists : (scope : Scope) (attributes : List Attribute) (ps : List Parameter) → lists_parameters (length (parameter_promises scope ps)) (result_promise scope attributes ps) ≡ true
promise_lists scope attributes ps =
    promised_lists scope (with_attributes scope attributes (no_words ps)) ps (length (parameter_promises scope ps))
    (attributes_size scope attributes (no_words ps) ∙ none_count ps ∙ sym (promises_count scope ps))
