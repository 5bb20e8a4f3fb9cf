-- What the attributes of a function promise.
use Rattle.std.specs.Prelude.{ℕ, Bool, true, false, List, [], ◌∷◌, ◌++◌, Option, Some, None, slice_get, slice_set, unwrap_or, if◌then◌else◌}
use Rattle.life_tree.specs.declared.attribute.Attribute.{Attribute}
use Rattle.life_tree.specs.declared.attribute.AttributeArguments.{AttributeArguments}
use Rattle.life_tree.specs.declared.attribute.AttributeWord.{AttributeWord}
use Rattle.life_tree.specs.declared.attribute.AttributeWord.TheVariants as word
use Rattle.life_tree.specs.declared.function.Parameter.{Parameter}
use Rattle.life_tree.specs.declared.identifier.Identifier.{Identifier}
use Rattle.life_typed.specs.declared.typed_program.ParameterPromise.{ParameterPromise}
use Rattle.life_typing.specs.Attributes.{is_null_word, life_attribute, life_name}
use Rattle.life_names.specs.Environment.{Scope, meaning, text}
use Rattle.life_typed.specs.Programs.{PromiseForm, default, listed}
use Rattle.life_typing.specs.declared.attributes.LifeAttribute.{LifeAttribute}
use Rattle.life_typing.specs.declared.attributes.LifeAttribute.TheVariants as life
use Rattle.life_names.specs.declared.environment.Entity.{Entity}
use Rattle.life_names.specs.declared.environment.Entity.TheVariants as entity
use Rattle.life_typing.specs.declared.promises.RetWords.{RetWords}

-- ---- of the result

-- the words of all attributes `ret` together: whether there is one, which parameters are named, and whether `static` and `null` are among them
pub record Words : Type 0 where
  pub listed : Bool
  pub named : List Bool
  pub fixed : Bool
  pub null : Bool

abbrev pub ret_words : RetWords → Words
ret_words w = record { listed = w.listed; named = w.named.items; fixed = w.fixed; null = w.null }

abbrev pub with_meaning : Entity → Words → Words
with_meaning entity.Unseen words = words
with_meaning (entity.Structure number) words = words
with_meaning (entity.Function number) words = words
with_meaning (entity.Local number) words = record words { named = slice_set words.named number true }

abbrev pub with_name : Scope → Identifier → Words → Words
with_name scope name words = if is_null_word scope name.id then record words { null = true } else with_meaning (meaning scope name.id) words

abbrev pub with_word : Scope → AttributeWord → Words → Words
with_word scope (word.Static place) words = record words { fixed = true }
with_word scope (word.Name name) words = with_name scope name words

abbrev pub with_words : Scope → List AttributeWord → Words → Words
with_words scope [] words = words
with_words scope (w ∷ ws) words = with_words scope ws (with_word scope w words)

abbrev pub with_arguments : Scope → Option AttributeArguments → Words → Words
with_arguments scope None words = words
with_arguments scope (Some a) words = with_words scope a.words.items words

abbrev pub with_named : Scope → LifeAttribute → Option AttributeArguments → Words → Words
with_named scope life.Nonnull arguments words = words
with_named scope life.Keeps arguments words = words
with_named scope life.Ret arguments words = with_arguments scope arguments (record words { listed = true })
with_named scope life.Unknown arguments words = words

abbrev pub with_attribute_named : Option Identifier → Scope → Attribute → Words → Words
with_attribute_named None scope a words = words
with_attribute_named (Some name) scope a words = with_named scope (life_attribute (text scope name.id)) a.arguments words

abbrev pub with_attribute : Scope → Attribute → Words → Words
with_attribute scope a words = with_attribute_named (life_name scope a) scope a words

abbrev pub with_attributes : Scope → List Attribute → Words → Words
with_attributes scope [] words = words
with_attributes scope (a ∷ others) words = with_attributes scope others (with_attribute scope a words)

abbrev pub none_named : List Parameter → List Bool
none_named [] = []
none_named (p ∷ ps) = false ∷ none_named ps

abbrev pub no_words : List Parameter → Words
no_words ps = record { listed = false; named = none_named ps; fixed = false; null = false }

abbrev pub is_named : List Bool → ℕ → Bool
is_named named number = unwrap_or (slice_get named number) false

-- the number of what a name means, if that is a parameter that is named
abbrev pub named_number : List Bool → Entity → List ℕ
named_number named entity.Unseen = []
named_number named (entity.Structure number) = []
named_number named (entity.Function number) = []
named_number named (entity.Local number) = if is_named named number then number ∷ [] else []

-- the numbers of the parameters that are named, in their order
abbrev pub named_numbers : Scope → List Bool → List Parameter → List ℕ
named_numbers scope named [] = []
named_numbers scope named (p ∷ ps) = named_number named (meaning scope p.name.id) ++ named_numbers scope named ps

abbrev pub promised : Scope → Words → List Parameter → PromiseForm
promised scope words ps = if words.listed then listed (named_numbers scope words.named ps) words.fixed words.null else default

-- the parameters are visible
abbrev pub result_promise : Scope → List Attribute → List Parameter → PromiseForm
result_promise scope attributes ps = promised scope (with_attributes scope attributes (no_words ps)) ps

-- ---- of parameters

abbrev pub promise_with_named : ParameterPromise → LifeAttribute → ParameterPromise
promise_with_named promise life.Nonnull = record promise { nonnull = true }
promise_with_named promise life.Keeps = record promise { keeps = true }
promise_with_named promise life.Ret = promise
promise_with_named promise life.Unknown = promise

abbrev pub promise_with_name : Scope → ParameterPromise → Option Identifier → ParameterPromise
promise_with_name scope promise None = promise
promise_with_name scope promise (Some name) = promise_with_named promise (life_attribute (text scope name.id))

abbrev pub promise_with : Scope → ParameterPromise → Attribute → ParameterPromise
promise_with scope promise a = promise_with_name scope promise (life_name scope a)

abbrev pub promise_with_all : Scope → ParameterPromise → List Attribute → ParameterPromise
promise_with_all scope promise [] = promise
promise_with_all scope promise (a ∷ others) = promise_with_all scope (promise_with scope promise a) others

abbrev pub parameter_promise : Scope → List Attribute → ParameterPromise
parameter_promise scope attributes = promise_with_all scope (record { nonnull = false; keeps = false }) attributes

abbrev pub parameter_promises : Scope → List Parameter → List ParameterPromise
parameter_promises scope [] = []
parameter_promises scope (p ∷ ps) = parameter_promise scope p.attributes.items ∷ parameter_promises scope ps
