-- A header whose rules are kept, part by part.
use Rattle.std.proofs.Common.{◌≡◌, Bool, Option, None, Some, Ok, Err, List, [], refl, ap, ◌∙◌}
use Rattle.life_types.specs.Types.{Types}
use Rattle.life_tree.specs.declared.function.Function.{Function}
use Rattle.life_names.specs.Environment.{Scope}
use Rattle.life_names.specs.declared.environment.Entity.{Entity}
use Rattle.life_names.specs.declared.fault.IllKind.{IllKind}
use Rattle.life_typing.specs.Answers.{Answer}
use Rattle.life_typing.specs.Attributes.{function_attributes}
use Rattle.life_typing.specs.Functions.{PartsView, behind_result, checked_with, declared_and_checked, header, header_rules, header_with, result_pointing, sound_header}
use Rattle.life_typing.specs.Headers.{Header, Known, function_seen, header_types, ill_at, sound}
use Rattle.life_typing.specs.Names.{name_fault, name_rules, unless_broken}
use Rattle.life_typing.specs.Parameters.{declared_behind, parameter_rules, parameters_declared}
use Rattle.life_typing.specs.Pieces.{pieces}
use Rattle.life_typing.specs.Progress.{ProgressView}
use Rattle.life_typing_laws.proofs.Domains.{Piece, Returned}
use Rattle.life_typing_laws.proofs.Steps.{answered}

-- its types, with its parameters declared, and what is visible then
pub record HeaderIs (bodies : List Bool) (before : Entity) (f : Function) (p : ProgressView) (x : PartsView × ProgressView) : Type 0 where
  pub returned : Returned
  pub known : Known
  pub types : Types
  pub hides : List Bool
  pub scope : Scope
  pub kept : Unit {0}
  pub read : header_types p.pointing f p.scope p.types ≡ sound returned known types
  pub declares : declared_behind [] known.types f.parameters.items (function_seen f p.scope) ≡ Ok (hides, scope)
  pub names : name_fault scope p.declared bodies before f returned.ty known.types (pieces scope f) ≡ None
  pub parameters : parameter_rules scope known.reaches hides 0 f.parameters.items ≡ Ok kept
  pub is : ◌≡◌ {A = PartsView × ProgressView} (record { returned = returned.ty; parameters = known.types; pieces = pieces scope f }, record p { scope = scope; types = types }) x

no_broken : (f : Function) (fault : Option IllKind) (u : Unit {0}) → unless_broken f fault ≡ Ok u → fault ≡ None
no_broken f None u e = refl
no_broken f (Some kind) u e = absurd (cc)

module _ (bodies : List Bool) (before : Entity) (f : Function) (p : ProgressView) where
  abbrev seen : Scope
  seen = function_seen f p.scope

  -- the rules on it
  checked_is : (returned : Returned) (known : Known) (hides : List Bool) (scope : Scope) (x : List Piece × Scope) → checked_with p.declared bodies before f (Some returned) known hides scope ≡ Ok x
      → (name_fault scope p.declared bodies before f returned.ty known.types (pieces scope f) ≡ None)
      × ((u : Unit {0}) × (parameter_rules scope known.reaches hides 0 f.parameters.items ≡ Ok u))
      × (◌≡◌ {A = List Piece × Scope} (pieces scope f, scope) x)
  checked_is returned known hides scope x e =
      let rules = answered (header_rules scope p.declared bodies before f (Some returned) known (pieces scope f) hides) (λ _. Ok (pieces scope f, scope)) x e in
      let attributes = answered (function_attributes scope (result_pointing (Some returned)) known.reaches f.attributes.items)
      (λ _. behind_result scope p.declared bodies before f (Some returned) known (pieces scope f) hides) rules.value rules.gave in
      let names = answered (name_rules scope p.declared bodies before f returned.ty known.types (pieces scope f))
      (λ _. parameter_rules scope known.reaches hides 0 f.parameters.items) rules.value attributes.behind in
      (no_broken f (name_fault scope p.declared bodies before f returned.ty known.types (pieces scope f)) names.value names.gave, (rules.value, names.behind), same rules.behind)
    where
      same : ◌≡◌ {A = Answer (List Piece × Scope)} (Ok (pieces scope f, scope)) (Ok x) → ◌≡◌ {A = List Piece × Scope} (pieces scope f, scope) x
      same h = cc

  sound_is : (returned : Returned) (known : Known) (types : Types) (x : PartsView × ProgressView) → header_types p.pointing f p.scope p.types ≡ sound returned known types
      → header_with bodies before f (record p { scope = seen }) (sound returned known types) ≡ Ok x → HeaderIs bodies before f p x
  sound_is returned known types x read e =
      let whole = answered (declared_and_checked p.declared bodies before f (Some returned) known seen)
      (λ y. Ok (sound_header returned known types (record p { scope = seen }) y)) x e in
      let declares = answered (parameters_declared known.types f.parameters.items seen)
      (λ y. checked_with p.declared bodies before f (Some returned) known y.0 y.1) whole.value whole.gave in
      let rules = checked_is returned known declares.value.0 declares.value.1 whole.value declares.behind in
      record {
        returned = returned;
        known = known;
        types = types;
        hides = declares.value.0;
        scope = declares.value.1;
        kept = rules.1.0;
        read = read;
        declares = declares.gave;
        names = rules.0;
        parameters = rules.1.1;
        is = ap (λ (y : List Piece × Scope). sound_header returned known types (record p { scope = seen }) y) rules.2 ∙ same whole.value whole.behind;
      }
    where
      same : (y : List Piece × Scope) → ◌≡◌ {A = Answer (PartsView × ProgressView)} (Ok (sound_header returned known types (record p { scope = seen }) y)) (Ok x)
          → sound_header returned known types (record p { scope = seen }) y ≡ x
      same y h = cc

  pub header_is : (x : PartsView × ProgressView) → header bodies before f p ≡ Ok x → HeaderIs bodies before f p x
  header_is x e = go (header_types p.pointing f p.scope p.types) refl e
    where
      go : (h : Header) → header_types p.pointing f p.scope p.types ≡ h → header_with bodies before f (record p { scope = seen }) h ≡ Ok x → HeaderIs bodies before f p x
      go (sound returned known types) read e = sound_is returned known types x read e
      go (ill_at returned known fault) read e =
          let step = answered (declared_and_checked p.declared bodies before f returned known seen) (λ _. Err fault) x e in
          absurd (never step.behind)
        where
          never : ◌≡◌ {A = Answer (PartsView × ProgressView)} (Err fault) (Ok x) → ⊥
          never h = cc
