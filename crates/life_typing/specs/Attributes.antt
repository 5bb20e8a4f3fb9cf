-- Attributes of the namespace `life`: where each may stand. All others are without effect.
use Rattle.std.specs.Prelude.{ℕ, Bool, true, false, ◌&&◌, List, [], ◌∷◌, Option, Some, None, Ok, Err, codes, slice_get, if◌then◌else◌}
use Rattle.std.specs.Str.{bytes_eq}
use Rattle.life_types.specs.declared.ty.NameId.{NameId}
use Rattle.life_tree.specs.declared.attribute.Attribute.{Attribute}
use Rattle.life_tree.specs.declared.attribute.AttributeArguments.{AttributeArguments}
use Rattle.life_tree.specs.declared.attribute.AttributeScope.{AttributeScope}
use Rattle.life_tree.specs.declared.attribute.AttributeWord.{AttributeWord}
use Rattle.life_tree.specs.declared.attribute.AttributeWord.TheVariants as word
use Rattle.life_tree.specs.declared.identifier.Identifier.{Identifier}
use Rattle.life_typing.specs.Answers.{Kept, ◌>>◌, ill}
use Rattle.life_names.specs.Environment.{Scope, meaning, text}
use Rattle.life_typing.specs.declared.attributes.LifeAttribute.{LifeAttribute}
use Rattle.life_typing.specs.declared.attributes.LifeAttribute.TheVariants as life
use Rattle.life_names.specs.declared.environment.Entity.{Entity}
use Rattle.life_names.specs.declared.environment.Entity.TheVariants as entity
use Rattle.life_names.specs.declared.fault.IllKind.TheVariants as kinds
use Rattle.life_typing.specs.declared.pointing.Pointing.{Pointing}
use Rattle.life_typing.specs.declared.pointing.Reach.{Reach}

-- ---- which attributes

abbrev pub life_name_with : Scope → Attribute → Option AttributeScope → Option Identifier
life_name_with scope a None = None
life_name_with scope a (Some s) = if bytes_eq (text scope a.name.id) (codes "life") then Some s.name else None

-- the name behind `life::`, where the attribute is of that namespace
abbrev pub life_name : Scope → Attribute → Option Identifier
life_name scope a = life_name_with scope a a.scope

abbrev pub life_attribute : List ℕ → LifeAttribute
life_attribute name =
    if bytes_eq name (codes "nonnull") then life.Nonnull
    else (if bytes_eq name (codes "keeps") then life.Keeps else (if bytes_eq name (codes "ret") then life.Ret else life.Unknown))

-- `null` is that word also where a parameter has the name
abbrev pub is_null_word : Scope → NameId → Bool
is_null_word scope name = bytes_eq (text scope name) (codes "null")

-- ---- before a function. What its result and its parameters hold of pointers is given as far as their types are known: what needs one that isn't breaks no rule

abbrev pub result_points : Option Pointing → Bool
result_points None = true
result_points (Some p) = p.pointer

abbrev pub result_points_raw : Option Pointing → Bool
result_points_raw None = true
result_points_raw (Some p) = p.raw

abbrev pub known_points : Option Reach → Bool
known_points None = true
known_points (Some r) = r.pointing.pointer

abbrev pub parameter_points : List Reach → ℕ → Bool
parameter_points parameters number = known_points (slice_get parameters number)

-- a name is that of a parameter that has a pointer
abbrev pub means_pointer : List Reach → Entity → Bool
means_pointer parameters entity.Unseen = false
means_pointer parameters (entity.Structure number) = false
means_pointer parameters (entity.Function number) = false
means_pointer parameters (entity.Local number) = parameter_points parameters number

-- a word of `ret`; the parameters are visible
abbrev pub word_fits : Scope → Option Pointing → List Reach → AttributeWord → Bool
word_fits scope returned parameters (word.Static place) = true
word_fits scope returned parameters (word.Name name) =
    if is_null_word scope name.id then result_points_raw returned else means_pointer parameters (meaning scope name.id)

abbrev pub words_fit : Scope → Option Pointing → List Reach → List AttributeWord → Bool
words_fit scope returned parameters [] = true
words_fit scope returned parameters (w ∷ ws) =
    word_fits scope returned parameters w && words_fit scope returned parameters ws

abbrev pub ret_fits : Scope → Option Pointing → List Reach → Option AttributeArguments → Bool
ret_fits scope returned parameters None = false
ret_fits scope returned parameters (Some a) =
    result_points returned && words_fit scope returned parameters a.words.items

abbrev pub fits_function_as : LifeAttribute → Scope → Option Pointing → List Reach → Option AttributeArguments → Bool
fits_function_as life.Nonnull scope returned parameters arguments = false
fits_function_as life.Keeps scope returned parameters arguments = false
fits_function_as life.Ret scope returned parameters arguments = ret_fits scope returned parameters arguments
fits_function_as life.Unknown scope returned parameters arguments = false

abbrev pub fits_function : Scope → Option Pointing → List Reach → Identifier → Option AttributeArguments → Bool
fits_function scope returned parameters name arguments =
    fits_function_as (life_attribute (text scope name.id)) scope returned parameters arguments

-- the rule that an attribute stands where it may; it is broken at its second name
abbrev pub kept : Bool → Identifier → Kept
kept true name = Ok tt
kept false name = Err (ill kinds.BadAttribute name.place)

abbrev pub function_attribute_named : Option Identifier → Scope → Option Pointing → List Reach → Attribute → Kept
function_attribute_named None scope returned parameters a = Ok tt
function_attribute_named (Some name) scope returned parameters a =
    kept (fits_function scope returned parameters name a.arguments) name

abbrev pub function_attribute : Scope → Option Pointing → List Reach → Attribute → Kept
function_attribute scope returned parameters a = function_attribute_named (life_name scope a) scope returned parameters a

abbrev pub function_attributes : Scope → Option Pointing → List Reach → List Attribute → Kept
function_attributes scope returned parameters [] = Ok tt
function_attributes scope returned parameters (a ∷ others) =
    function_attribute scope returned parameters a >> λ _. function_attributes scope returned parameters others

-- ---- before a parameter

abbrev pub is_bare : Option AttributeArguments → Bool
is_bare None = true
is_bare (Some a) = false

abbrev pub takes_null : Option Reach → Bool
takes_null None = true
takes_null (Some r) = r.raw_pointer

abbrev pub takes_an_owner : Option Reach → Bool
takes_an_owner None = true
takes_an_owner (Some r) = r.owner

abbrev pub fits_parameter_as : LifeAttribute → Option Reach → Option AttributeArguments → Bool
fits_parameter_as life.Nonnull reach arguments = is_bare arguments && takes_null reach
fits_parameter_as life.Keeps reach arguments = is_bare arguments && takes_an_owner reach
fits_parameter_as life.Ret reach arguments = false
fits_parameter_as life.Unknown reach arguments = false

abbrev pub fits_parameter : Scope → Option Reach → Identifier → Option AttributeArguments → Bool
fits_parameter scope reach name arguments = fits_parameter_as (life_attribute (text scope name.id)) reach arguments

abbrev pub parameter_attribute_named : Option Identifier → Scope → Option Reach → Attribute → Kept
parameter_attribute_named None scope reach a = Ok tt
parameter_attribute_named (Some name) scope reach a = kept (fits_parameter scope reach name a.arguments) name

abbrev pub parameter_attribute : Scope → Option Reach → Attribute → Kept
parameter_attribute scope reach a = parameter_attribute_named (life_name scope a) scope reach a

abbrev pub parameter_attributes : Scope → Option Reach → List Attribute → Kept
parameter_attributes scope reach [] = Ok tt
parameter_attributes scope reach (a ∷ others) = parameter_attribute scope reach a >> λ _. parameter_attributes scope reach others
