-- What parameters say is the same when they are settled.
use Rattle.std.proofs.Common.{◌≡◌, ℕ, ◌+◌, Bool, List, [], ◌∷◌, ◌++◌, Option, None, Some, length, map, refl, ap, ◌∙◌}
use Rattle.std.specs.Prelude.{false, nat_lt, slice_get, if◌then◌else◌, Ok}
use Rattle.life_types.specs.Types.{Types}
use Rattle.life_types.specs.declared.ty.TyId.{TyId}
use Rattle.life_tree.specs.declared.attribute.Attribute.{Attribute}
use Rattle.life_tree.specs.declared.function.Parameter.{Parameter}
use Rattle.life_names.specs.Checked.{Checked}
use Rattle.life_names.specs.Environment as environment
use Rattle.life_names.specs.Environment.{Scope, meaning, seen_as}
use Rattle.life_names.specs.declared.environment.Entity.TheVariants as entity
use Rattle.life_typing.specs.Headers.{Header, Known, parameter_types, with_next}
use Rattle.life_typing.specs.Parameters.{declared_behind, is_seen, known_or_void, parameter_local, parameter_rules, parameter_with, parameters_declared, parameters_forgotten}
use Rattle.life_typing.specs.Pieces.{parameters_pieces}
use Rattle.life_typing.specs.Promises.{named_number, named_numbers, no_words, none_named, parameter_promises, promised, result_promise, with_attributes, Words}
use Rattle.life_typing.specs.declared.headers.Returned.{Returned}
use Rattle.life_typing.specs.declared.pointing.Pointing.{Pointing}
use Rattle.life_typing.specs.declared.pointing.Reach.{Reach}
use Rattle.life_unique.specs.SettledPrograms.{settled_attribute, settled_parameter}
use Rattle.life_typing.proofs.BlindAttributes.{attributes_pieces_blind, parameter_attributes_blind, parameter_promise_blind, with_attributes_blind}
use Rattle.life_typing.proofs.BlindSteps.{then_as}
use Rattle.life_typing.proofs.BlindTypes.{const_blind, written_blind}

-- ---- their types

next_as : (structs : List Pointing) (returned : Returned) (before : Known) {c d : Checked TyId} {f g : Known → Types → Header} →
    c ≡ d → ((k : Known) (types : Types) → f k types ≡ g k types) → with_next structs returned before c f ≡ with_next structs returned before d g
next_as structs returned before e h = λ i. with_next structs returned before (e i) (λ k types. h k types i)

pub parameter_types_blind : (structs : List Pointing) (returned : Returned) (before : Known) (ps : List Parameter) (scope : Scope) (types : Types) →
    parameter_types structs returned before (map settled_parameter ps) scope types ≡ parameter_types structs returned before ps scope types
parameter_types_blind structs returned before [] scope types = refl
parameter_types_blind structs returned before (p ∷ ps) scope types =
    next_as structs returned before (written_blind p.ty p.name.place scope types) (λ known after. parameter_types_blind structs returned known ps scope after)

-- ---- their names

local_of_blind : (p : Parameter) (id : TyId) → parameter_local (settled_parameter p) id ≡ parameter_local p id
local_of_blind p id = rw (const_blind p.ty) refl

declared_blind : (hides : List Bool) (known : List TyId) (ps : List Parameter) (scope : Scope) →
    declared_behind hides known (map settled_parameter ps) scope ≡ declared_behind hides known ps scope
declared_blind hides known [] scope = refl
declared_blind hides known (p ∷ ps) scope =
    then_as (ap (λ l. environment.declared l scope) (local_of_blind p (known_or_void known (length hides))))
    (λ x. declared_blind (hides ++ is_seen scope p.name.id ∷ []) known ps x.1)

pub parameters_declared_blind : (known : List TyId) (ps : List Parameter) (scope : Scope) →
    parameters_declared known (map settled_parameter ps) scope ≡ parameters_declared known ps scope
parameters_declared_blind known ps scope = declared_blind [] known ps scope

pub forgotten_blind : (ps : List Parameter) (scope : Scope) → parameters_forgotten (map settled_parameter ps) scope ≡ parameters_forgotten ps scope
forgotten_blind [] scope = refl
forgotten_blind (p ∷ ps) scope = forgotten_blind ps (seen_as p.name.id entity.Unseen scope)

-- ---- their rules

parameter_with_blind : (scope : Scope) (p : Parameter) (reach : Option Reach) (hides : Option Bool) →
    parameter_with scope (settled_parameter p) reach hides ≡ parameter_with scope p reach hides
parameter_with_blind scope p None hides = parameter_attributes_blind scope None p.attributes.items
parameter_with_blind scope p (Some reach) hides = then_as (parameter_attributes_blind scope (Some reach) p.attributes.items) (λ _. refl)

if_as : {A : Type 0} (b : Bool) (x : A) {y z : A} → y ≡ z → (if b then x else y) ≡ (if b then x else z)
if_as b x e = λ i. if b then x else e i

pub parameter_rules_blind : (scope : Scope) (known : List Reach) (hides : List Bool) (index : ℕ) (ps : List Parameter) →
    parameter_rules scope known hides index (map settled_parameter ps) ≡ parameter_rules scope known hides index ps
parameter_rules_blind scope known hides index [] = refl
parameter_rules_blind scope known hides index (p ∷ ps) = if_as (nat_lt (length known) index) (Ok tt)
    (then_as (parameter_with_blind scope p (slice_get known index) (slice_get hides index)) (λ _. parameter_rules_blind scope known hides (index + 1) ps))

-- ---- their pieces, and what they promise

pub parameters_pieces_blind : (scope : Scope) (ps : List Parameter) → parameters_pieces scope (map settled_parameter ps) ≡ parameters_pieces scope ps
parameters_pieces_blind scope [] = refl
parameters_pieces_blind scope (p ∷ ps) = rw (attributes_pieces_blind scope p.attributes.items, parameters_pieces_blind scope ps) refl

pub promises_blind : (scope : Scope) (ps : List Parameter) → parameter_promises scope (map settled_parameter ps) ≡ parameter_promises scope ps
promises_blind scope [] = refl
promises_blind scope (p ∷ ps) = λ i. parameter_promise_blind scope p.attributes.items i ∷ promises_blind scope ps i

none_blind : (ps : List Parameter) → none_named (map settled_parameter ps) ≡ none_named ps
none_blind [] = refl
none_blind (p ∷ ps) = ap (λ named. false ∷ named) (none_blind ps)

numbers_blind : (scope : Scope) (named : List Bool) (ps : List Parameter) → named_numbers scope named (map settled_parameter ps) ≡ named_numbers scope named ps
numbers_blind scope named [] = refl
numbers_blind scope named (p ∷ ps) = ap (λ numbers. named_number named (meaning scope p.name.id) ++ numbers) (numbers_blind scope named ps)

promised_blind : (scope : Scope) (words : Words) (ps : List Parameter) → promised scope words (map settled_parameter ps) ≡ promised scope words ps
promised_blind scope words ps = rw (numbers_blind scope words.named ps) refl

no_words_blind : (ps : List Parameter) → no_words (map settled_parameter ps) ≡ no_words ps
no_words_blind ps = rw (none_blind ps) refl

pub result_promise_blind : (scope : Scope) (all : List Attribute) (ps : List Parameter) →
    result_promise scope (map settled_attribute all) (map settled_parameter ps) ≡ result_promise scope all ps
result_promise_blind scope all ps =
    promised_blind scope _ ps ∙ ap (λ words. promised scope words ps) (with_attributes_blind scope all _ ∙ ap (with_attributes scope all) (no_words_blind ps))
