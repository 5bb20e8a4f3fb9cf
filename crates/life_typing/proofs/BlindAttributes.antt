-- What attributes say is the same when they are settled.
use Rattle.std.proofs.Common.{◌≡◌, List, [], ◌∷◌, ◌++◌, Option, None, Some, map, refl, ap, ◌∙◌}
use Rattle.std.specs.Prelude.{option_map}
use Rattle.life_tree.specs.declared.attribute.Attribute.{Attribute}
use Rattle.life_tree.specs.declared.attribute.AttributeArguments.{AttributeArguments}
use Rattle.life_tree.specs.declared.identifier.Identifier.{Identifier}
use Rattle.life_typed.specs.declared.typed_program.ParameterPromise.{ParameterPromise}
use Rattle.life_names.specs.Environment.{Scope, text}
use Rattle.life_typing.specs.Attributes.{fits_function_as, fits_parameter_as, function_attribute_named, function_attributes, kept, life_attribute, life_name, parameter_attribute_named, parameter_attributes}
use Rattle.life_typing.specs.Pieces.{arguments_pieces, attributes_pieces, named_pieces}
use Rattle.life_typing.specs.Promises.{Words, parameter_promise, promise_with, promise_with_all, with_attribute, with_attribute_named, with_attributes, with_named}
use Rattle.life_typing.specs.declared.attributes.LifeAttribute.{LifeAttribute}
use Rattle.life_typing.specs.declared.attributes.LifeAttribute.TheVariants as life
use Rattle.life_typing.specs.declared.pointing.Pointing.{Pointing}
use Rattle.life_typing.specs.declared.pointing.Reach.{Reach}
use Rattle.life_unique.specs.SettledPrograms.{settled_attribute, settled_words}
use Rattle.life_typing.proofs.BlindSteps.{then_as}

pub life_name_blind : (scope : Scope) (a : Attribute) → life_name scope (settled_attribute a) ≡ life_name scope a
life_name_blind scope a = refl

-- ---- where they may stand

fits_blind : (l : LifeAttribute) (scope : Scope) (returned : Option Pointing) (parameters : List Reach) (a : Option AttributeArguments) →
    fits_function_as l scope returned parameters (option_map settled_words a) ≡ fits_function_as l scope returned parameters a
fits_blind life.Nonnull scope returned parameters a = refl
fits_blind life.Keeps scope returned parameters a = refl
fits_blind life.Ret scope returned parameters None = refl
fits_blind life.Ret scope returned parameters (Some a) = refl
fits_blind life.Unknown scope returned parameters a = refl

named_blind : (name : Option Identifier) (scope : Scope) (returned : Option Pointing) (parameters : List Reach) (a : Attribute) →
    function_attribute_named name scope returned parameters (settled_attribute a) ≡ function_attribute_named name scope returned parameters a
named_blind None scope returned parameters a = refl
named_blind (Some name) scope returned parameters a =
    ap (λ fits. kept fits name) (fits_blind (life_attribute (text scope name.id)) scope returned parameters a.arguments)

pub function_attributes_blind : (scope : Scope) (returned : Option Pointing) (parameters : List Reach) (all : List Attribute) →
    function_attributes scope returned parameters (map settled_attribute all) ≡ function_attributes scope returned parameters all
function_attributes_blind scope returned parameters [] = refl
function_attributes_blind scope returned parameters (a ∷ others) =
    then_as (named_blind (life_name scope a) scope returned parameters a) (λ _. function_attributes_blind scope returned parameters others)

fits_parameter_blind : (l : LifeAttribute) (reach : Option Reach) (a : Option AttributeArguments) →
    fits_parameter_as l reach (option_map settled_words a) ≡ fits_parameter_as l reach a
fits_parameter_blind life.Nonnull reach None = refl
fits_parameter_blind life.Nonnull reach (Some a) = refl
fits_parameter_blind life.Keeps reach None = refl
fits_parameter_blind life.Keeps reach (Some a) = refl
fits_parameter_blind life.Ret reach a = refl
fits_parameter_blind life.Unknown reach a = refl

parameter_named_blind : (name : Option Identifier) (scope : Scope) (reach : Option Reach) (a : Attribute) →
    parameter_attribute_named name scope reach (settled_attribute a) ≡ parameter_attribute_named name scope reach a
parameter_named_blind None scope reach a = refl
parameter_named_blind (Some name) scope reach a =
    ap (λ fits. kept fits name) (fits_parameter_blind (life_attribute (text scope name.id)) reach a.arguments)

pub parameter_attributes_blind : (scope : Scope) (reach : Option Reach) (all : List Attribute) →
    parameter_attributes scope reach (map settled_attribute all) ≡ parameter_attributes scope reach all
parameter_attributes_blind scope reach [] = refl
parameter_attributes_blind scope reach (a ∷ others) =
    then_as (parameter_named_blind (life_name scope a) scope reach a) (λ _. parameter_attributes_blind scope reach others)

-- ---- which pieces they are

arguments_pieces_blind : (a : Option AttributeArguments) → arguments_pieces (option_map settled_words a) ≡ arguments_pieces a
arguments_pieces_blind None = refl
arguments_pieces_blind (Some a) = refl

named_pieces_blind : (name : Option Identifier) (a : Attribute) → named_pieces name (settled_attribute a) ≡ named_pieces name a
named_pieces_blind None a = refl
named_pieces_blind (Some name) a = rw (arguments_pieces_blind a.arguments) refl

pub attributes_pieces_blind : (scope : Scope) (all : List Attribute) → attributes_pieces scope (map settled_attribute all) ≡ attributes_pieces scope all
attributes_pieces_blind scope [] = refl
attributes_pieces_blind scope (a ∷ others) = λ i. named_pieces_blind (life_name scope a) a i ++ attributes_pieces_blind scope others i

-- ---- what they promise

with_named_blind : (l : LifeAttribute) (scope : Scope) (a : Option AttributeArguments) (words : Words) →
    with_named scope l (option_map settled_words a) words ≡ with_named scope l a words
with_named_blind life.Nonnull scope a words = refl
with_named_blind life.Keeps scope a words = refl
with_named_blind life.Ret scope None words = refl
with_named_blind life.Ret scope (Some a) words = refl
with_named_blind life.Unknown scope a words = refl

with_attribute_blind : (name : Option Identifier) (scope : Scope) (a : Attribute) (words : Words) →
    with_attribute_named name scope (settled_attribute a) words ≡ with_attribute_named name scope a words
with_attribute_blind None scope a words = refl
with_attribute_blind (Some name) scope a words = with_named_blind (life_attribute (text scope name.id)) scope a.arguments words

pub with_attributes_blind : (scope : Scope) (all : List Attribute) (words : Words) →
    with_attributes scope (map settled_attribute all) words ≡ with_attributes scope all words
with_attributes_blind scope [] words = refl
with_attributes_blind scope (a ∷ others) words =
    with_attributes_blind scope others (with_attribute scope (settled_attribute a) words)
    ∙ ap (with_attributes scope others) (with_attribute_blind (life_name scope a) scope a words)

promise_blind : (scope : Scope) (promise : ParameterPromise) (all : List Attribute) →
    promise_with_all scope promise (map settled_attribute all) ≡ promise_with_all scope promise all
promise_blind scope promise [] = refl
promise_blind scope promise (a ∷ others) = promise_blind scope (promise_with scope promise a) others

pub parameter_promise_blind : (scope : Scope) (all : List Attribute) → parameter_promise scope (map settled_attribute all) ≡ parameter_promise scope all
parameter_promise_blind scope all = promise_blind scope _ all
