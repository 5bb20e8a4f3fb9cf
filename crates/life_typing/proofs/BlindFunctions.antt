-- What a function says is the same when it is settled.
use Rattle.std.proofs.Common.{◌≡◌, ℕ, Bool, List, [], ◌∷◌, ◌++◌, Option, None, Some, refl, ap, ◌∙◌}
use Rattle.std.specs.Prelude.{Ok, Err}
use Rattle.std.proofs.lemmas.List.{length-map}
use Rattle.life_types.specs.Types.{Types}
use Rattle.life_types.specs.declared.place.Place.{Place}
use Rattle.life_types.specs.declared.ty.TyId.{TyId}
use Rattle.life_tree.specs.declared.function.Function.{Function}
use Rattle.life_tree.specs.declared.function.FunctionBody.{FunctionBody}
use Rattle.life_tree.specs.declared.function.FunctionBody.TheVariants as function_body
use Rattle.life_tree.specs.declared.function.ResultType.{ResultType}
use Rattle.life_tree.specs.declared.function.ResultType.TheVariants as result_type_of
use Rattle.life_names.specs.Checked.{Checked}
use Rattle.life_names.specs.Environment.{Scope, function_declared, meaning}
use Rattle.life_names.specs.declared.environment.Entity.{Entity}
use Rattle.life_names.specs.declared.environment.Entity.TheVariants as entity
use Rattle.life_names.specs.declared.fault.IllKind.{IllKind}
use Rattle.life_typing.specs.Functions as spec
use Rattle.life_typing.specs.Functions.{PartsView, behind_header, behind_header_as, checked_with, declared, declared_and_checked, declared_first, header, header_rules, header_with, result_pointing, with_first, with_function, without_body}
use Rattle.life_typing.specs.Headers as headers
use Rattle.life_typing.specs.Headers.{function_seen, header_types, nothing_known, result_type, returned_as, seen_unless}
use Rattle.life_typing.specs.Names.{DeclaredView, has_body, name_fault, unless_broken}
use Rattle.life_typing.specs.Pieces.{pieces}
use Rattle.life_typing.specs.Progress.{ProgressView}
use Rattle.life_typing.specs.declared.headers.Returned.{Returned}
use Rattle.life_typing.specs.declared.pieces.Piece.{Piece}
use Rattle.life_typing.specs.declared.pointing.Pointing.{Pointing}
use Rattle.life_unique.specs.SettledPrograms.{settled_body, settled_function, settled_parameter, settled_result}
use Rattle.life_typing.proofs.BlindAttributes.{attributes_pieces_blind, function_attributes_blind}
use Rattle.life_typing.proofs.BlindParameters.{forgotten_blind, parameter_rules_blind, parameter_types_blind, parameters_declared_blind, parameters_pieces_blind, promises_blind, result_promise_blind}
use Rattle.life_typing.proofs.BlindStatements.{body_blind}
use Rattle.life_typing.proofs.BlindSteps.{bind_as, then_as}
use Rattle.life_typing.proofs.BlindTypes.{const_blind, written_blind}

-- ---- the types of its header

result_blind : (r : ResultType) (place : Place) (scope : Scope) (types : Types) → result_type (settled_result r) place scope types ≡ result_type r place scope types
result_blind (result_type_of.Void at) place scope types = refl
result_blind (result_type_of.Type ty) place scope types = bind_as (written_blind ty place scope types) (λ x. rw (const_blind ty) refl)

behind_blind : (structs : List Pointing) (c : Checked TyId) (f : Function) (scope : Scope) →
    headers.behind_result structs c (settled_function f) scope ≡ headers.behind_result structs c f scope
behind_blind structs (Ok x) f scope = parameter_types_blind structs (returned_as x.1 structs x.0) nothing_known f.parameters.items scope x.1
behind_blind structs (Err e) f scope = refl

unless_seen : (e : Entity) (f : Function) (scope : Scope) → seen_unless e (settled_function f) scope ≡ seen_unless e f scope
unless_seen entity.Unseen f scope = refl
unless_seen (entity.Structure number) f scope = refl
unless_seen (entity.Function number) f scope = refl
unless_seen (entity.Local number) f scope = refl

seen_blind : (f : Function) (scope : Scope) → function_seen (settled_function f) scope ≡ function_seen f scope
seen_blind f scope = unless_seen (meaning scope f.name.id) f scope

header_types_blind : (structs : List Pointing) (f : Function) (scope : Scope) (types : Types) →
    header_types structs (settled_function f) scope types ≡ header_types structs f scope types
header_types_blind structs f scope types =
    behind_blind structs (result_type (settled_result f.returned) f.name.place scope types) f (function_seen (settled_function f) scope)
    ∙ (λ i. headers.behind_result structs (result_blind f.returned f.name.place scope types i) f (seen_blind f scope i))

-- ---- the rules on its header

pub body_known : (b : FunctionBody) → has_body (settled_body b) ≡ has_body b
body_known (function_body.Block b) = refl
body_known (function_body.Declared place) = refl

fault_blind : (scope : Scope) (all : List DeclaredView) (bodies : List Bool) (before : Entity) (f : Function) (returned : TyId) (parameters : List TyId) (said : List Piece) →
    name_fault scope all bodies before (settled_function f) returned parameters said ≡ name_fault scope all bodies before f returned parameters said
fault_blind scope all bodies before f returned parameters said = rw (body_known f.body, length-map f.parameters.items settled_parameter) refl

unless_blind : (f : Function) (kind : Option IllKind) → unless_broken (settled_function f) kind ≡ unless_broken f kind
unless_blind f None = refl
unless_blind f (Some kind) = refl

behind_result_blind : (scope : Scope) (all : List DeclaredView) (bodies : List Bool) (before : Entity) (f : Function) (returned : Option Returned)
    (known : headers.Known) (said : List Piece) (hides : List Bool) →
    spec.behind_result scope all bodies before (settled_function f) returned known said hides ≡ spec.behind_result scope all bodies before f returned known said hides
behind_result_blind scope all bodies before f None known said hides = refl
behind_result_blind scope all bodies before f (Some returned) known said hides =
    then_as (unless_blind f _ ∙ ap (unless_broken f) (fault_blind scope all bodies before f returned.ty known.types said))
    (λ _. parameter_rules_blind scope known.reaches hides 0 f.parameters.items)

rules_blind : (scope : Scope) (all : List DeclaredView) (bodies : List Bool) (before : Entity) (f : Function) (returned : Option Returned)
    (known : headers.Known) (said : List Piece) (hides : List Bool) →
    header_rules scope all bodies before (settled_function f) returned known said hides ≡ header_rules scope all bodies before f returned known said hides
rules_blind scope all bodies before f returned known said hides =
    then_as (function_attributes_blind scope (result_pointing returned) known.reaches f.attributes.items)
    (λ _. behind_result_blind scope all bodies before f returned known said hides)

pieces_blind : (scope : Scope) (f : Function) → pieces scope (settled_function f) ≡ pieces scope f
pieces_blind scope f = λ i. attributes_pieces_blind scope f.attributes.items i ++ parameters_pieces_blind scope f.parameters.items i

checked_blind : (all : List DeclaredView) (bodies : List Bool) (before : Entity) (f : Function) (returned : Option Returned) (known : headers.Known) (hides : List Bool) (scope : Scope) →
    checked_with all bodies before (settled_function f) returned known hides scope ≡ checked_with all bodies before f returned known hides scope
checked_blind all bodies before f returned known hides scope =
    then_as (rules_blind scope all bodies before f returned known (pieces scope (settled_function f)) hides
    ∙ ap (λ said. header_rules scope all bodies before f returned known said hides) (pieces_blind scope f))
    (λ _. ap (λ said. Ok (said, scope)) (pieces_blind scope f))

declared_and_checked_blind : (all : List DeclaredView) (bodies : List Bool) (before : Entity) (f : Function) (returned : Option Returned) (known : headers.Known) (scope : Scope) →
    declared_and_checked all bodies before (settled_function f) returned known scope ≡ declared_and_checked all bodies before f returned known scope
declared_and_checked_blind all bodies before f returned known scope =
    then_as (parameters_declared_blind known.types f.parameters.items scope) (λ x. checked_blind all bodies before f returned known x.0 x.1)

header_with_blind : (bodies : List Bool) (before : Entity) (f : Function) (p : ProgressView) (h : headers.Header) →
    header_with bodies before (settled_function f) p h ≡ header_with bodies before f p h
header_with_blind bodies before f p (headers.sound returned known types) =
    then_as (declared_and_checked_blind p.declared bodies before f (Some returned) known p.scope) (λ x. refl)
header_with_blind bodies before f p (headers.ill_at returned known fault) =
    then_as (declared_and_checked_blind p.declared bodies before f returned known p.scope) (λ x. refl)

header_blind : (bodies : List Bool) (before : Entity) (f : Function) (p : ProgressView) → header bodies before (settled_function f) p ≡ header bodies before f p
header_blind bodies before f p =
    header_with_blind bodies before f (record p { scope = function_seen (settled_function f) p.scope }) (header_types p.pointing (settled_function f) p.scope p.types)
    ∙ (λ i. header_with bodies before f (record p { scope = seen_blind f p.scope i }) (header_types_blind p.pointing f p.scope p.types i))

-- ---- what is declared

without_body_blind : (f : Function) (returned : TyId) (scope : Scope) → without_body (settled_function f) returned scope ≡ without_body f returned scope
without_body_blind f returned scope = λ i. record (without_body f returned scope) {
  parameters = promises_blind scope f.parameters.items i;
  promise = result_promise_blind scope f.attributes.items f.parameters.items i;
}

with_first_blind : (f : Function) (h : PartsView) (p : ProgressView) → with_first (settled_function f) h p ≡ with_first f h p
with_first_blind f h p = λ i. record (with_first f h p) { functions = p.functions ++ without_body_blind f h.returned p.scope i ∷ [] }

first_blind : (f : Function) (h : PartsView) (p : ProgressView) → declared_first (settled_function f) h p ≡ declared_first f h p
first_blind f h p =
    then_as {m = function_declared f.name.id f.name.place (record { result = h.returned; parameters = h.parameters }) p.scope} refl
    (λ x. ap (λ (q : ProgressView). Ok (x.0, record q { scope = x.1 })) (with_first_blind f h p))

declared_blind : (before : Entity) (f : Function) (h : PartsView) (p : ProgressView) → declared before (settled_function f) h p ≡ declared before f h p
declared_blind entity.Unseen f h p = first_blind f h p
declared_blind (entity.Structure number) f h p = first_blind f h p
declared_blind (entity.Function number) f h p = refl
declared_blind (entity.Local number) f h p = first_blind f h p

-- ---- its body

behind_header_blind : (b : FunctionBody) (f : Function) (number : ℕ) (returned : TyId) (p : ProgressView) →
    behind_header_as (settled_body b) (settled_function f) number returned p ≡ behind_header_as b f number returned p
behind_header_blind (function_body.Block b) f number returned p = then_as (body_blind returned _ b p.scope p.types) (λ x. refl)
behind_header_blind (function_body.Declared place) f number returned p = refl

-- ---- the whole

pub function_blind : (bodies : List Bool) (f : Function) (p : ProgressView) → with_function bodies (settled_function f) p ≡ with_function bodies f p
function_blind bodies f p =
    then_as (header_blind bodies (meaning p.scope f.name.id) f p) (λ x.
    then_as (declared_blind (meaning p.scope f.name.id) f x.0 x.1) (λ y.
    then_as (behind_header_blind f.body f y.0 x.0.returned y.1) (λ z.
    ap (λ scope. Ok (record z { scope = scope })) (forgotten_blind f.parameters.items z.scope))))
