-- Behind a header whose rules are kept names of functions mean what they meant: none of its parameters has one.
use Rattle.std.proofs.Common.{◌≡◌, ℕ, ◌+◌, Bool, false, Some, Ok, Err, List, [], ◌∷◌, ◌++◌, length, refl, ap, subst, arith, length-append}
use Rattle.life_types.specs.Types.{Types}
use Rattle.life_types.specs.declared.ty.TyId.{TyId}
use Rattle.life_types.proofs.TreeLemmas.{last_in, stays_in}
use Rattle.life_tree.specs.declared.function.Function.{Function}
use Rattle.life_tree.specs.declared.function.Parameter.{Parameter}
use Rattle.life_typed.specs.declared.typed_program.TypedLocal.{TypedLocal}
use Rattle.life_names.specs.Checked.{Checked}
use Rattle.life_names.specs.Environment.{Scope, declared, meaning}
use Rattle.life_names.specs.WrittenTypes.{written}
use Rattle.life_names.specs.declared.environment.Entity.{Entity}
use Rattle.life_names.specs.declared.environment.Entity.TheVariants as entity
use Rattle.life_typing.specs.Functions.{PartsView}
use Rattle.life_typing.specs.Headers.{Header, Known, behind_result, function_seen, header_types, ill_at, nothing_known, parameter_types, result_type, returned_as, seen_unless, sound, with_known, with_next}
use Rattle.life_typing.specs.Parameters.{declared_behind, is_seen, known_or_void, parameter_local}
use Rattle.life_typing.specs.Pointing.{reach_at}
use Rattle.life_typing.specs.Progress.{ProgressView}
use Rattle.life_typing_laws.proofs.Domains.{Pointing, Reach, Returned}
use Rattle.life_typing_laws.proofs.Headers.{HeaderIs}
use Rattle.life_typing_laws.proofs.Parameters.{HideNothing, hides_count, names_of, nothing_hidden}
use Rattle.life_typing_laws.proofs.Scopes.{set_length}
use Rattle.life_typing_laws.proofs.Staying.{Stays, declared_stays, free_not_seen, free_unseen, seen_keeps, stays_not, stays_on}
use Rattle.life_typing_laws.proofs.Steps.{answered}
use Rattle.life_typing_laws.specs.Sound.{Keeps}

-- ---- the function's name

pub function_seen_stays : (f : Function) (scope : Scope) → Stays [] scope (function_seen f scope)
function_seen_stays f scope = of (meaning scope f.name.id) refl
  where
    of : (e : Entity) → meaning scope f.name.id ≡ e → Stays [] scope (seen_unless e f scope)
    of entity.Unseen unseen = record {
      keeps = λ k n e. (λ none. none, (seen_keeps f.name.id (entity.Function 0) scope (free_unseen f.name.id scope unseen) k n e).1);
      functions = refl;
      size = set_length scope.visible f.name.id.0 (entity.Function 0);
    }
    of (entity.Structure number) is = stays_not scope
    of (entity.Function number) is = stays_not scope
    of (entity.Local number) is = stays_not scope

-- ---- the parameters, where they hide nothing

abbrev more_hides : Parameter → List Bool → Scope → List Bool
more_hides q hides scope = hides ++ is_seen scope q.name.id ∷ []

parameters_stay : (known : List TyId) (ps : List Parameter) (hides : List Bool) (scope : Scope) (x : List Bool × Scope) → declared_behind hides known ps scope ≡ Ok x
    → Keeps hides x.0 × (HideNothing x.0 → Stays (names_of ps) scope x.1)
parameters_stay known [] hides scope x e =
    let same : ◌≡◌ {A = List Bool × Scope} (hides, scope) x = cc in
    subst (λ (y : List Bool × Scope). Keeps hides y.0 × (HideNothing y.0 → Stays [] scope y.1)) same (λ k b there. there, λ nothing. stays_not scope)
parameters_stay known (q ∷ ps) hides scope x e =
    let l : TypedLocal = parameter_local q (known_or_void known (length hides)) in
    let step = answered (declared l scope) (λ (y : ℕ × Scope). declared_behind (more_hides q hides scope) known ps y.1) x e in
    let rest = parameters_stay known ps (more_hides q hides scope) step.value.1 x step.behind in (
      λ k b there. rest.0 k b (stays_in hides (is_seen scope q.name.id ∷ []) k b there),
      λ nothing.
          let unseen : is_seen scope q.name.id ≡ false = nothing (length hides) (is_seen scope q.name.id) (rest.0 (length hides) (is_seen scope q.name.id) (last_in hides (is_seen scope q.name.id))) in
          stays_on (Some q.name.id) (names_of ps) scope step.value.1 x.1 (declared_stays l scope (free_not_seen q.name.id scope unseen) step.value step.gave) (rest.1 nothing),
    )

-- ---- the rules speak of each parameter

abbrev reaches_in : Header → List Reach
reaches_in (sound returned known types) = known.reaches
reaches_in (ill_at returned known fault) = []

-- a type that is known is followed by the others
record IsNext (structs : List Pointing) (before : Known) (more : Known → Types → Header) (h : Header) : Type 0 where
  x : TyId × Types
  is : more (with_known x.1 structs x.0 before) x.1 ≡ h

next_is : (structs : List Pointing) (returned first : Returned) (before known : Known) (types : Types) (c : Checked TyId) (more : Known → Types → Header) → with_next structs first before c more ≡ sound returned known types
    → IsNext structs before more (sound returned known types)
next_is structs returned first before known types (Ok x) more e = record { x = x; is = e }
next_is structs returned first before known types (Err fault) more e = absurd (cc)

parameters_count : (structs : List Pointing) (returned first : Returned) (known : Known) (after : Types) (scope : Scope) (ps : List Parameter) (before : Known) (types : Types)
    → parameter_types structs first before ps scope types ≡ sound returned known after → length known.reaches ≡ length before.reaches + length ps
parameters_count structs returned first known after scope [] before types e =
    let same : length before.reaches ≡ length known.reaches = ap (λ (h : Header). length (reaches_in h)) e in omega (arith, same)
parameters_count structs returned first known after scope (p ∷ ps) before types e =
    let next = next_is structs returned first before known after (written p.ty p.name.place scope types) (λ k t. parameter_types structs first k ps scope t) e in
    let rest = parameters_count structs returned first known after scope ps (with_known next.x.1 structs next.x.0 before) next.x.1 next.is in
    let one : length (before.reaches ++ reach_at next.x.1 structs next.x.0 ∷ []) ≡ length before.reaches + 1 = length-append before.reaches (reach_at next.x.1 structs next.x.0 ∷ []) in
    omega (arith, rest, one)

header_count : (structs : List Pointing) (f : Function) (scope : Scope) (types : Types) (returned : Returned) (known : Known) (after : Types) → header_types structs f scope types ≡ sound returned known after
    → length known.reaches ≡ length f.parameters.items
header_count structs f scope types returned known after e = of (result_type f.returned f.name.place scope types) e
  where
    of : (c : Checked TyId) → behind_result structs c f (function_seen f scope) ≡ sound returned known after → length known.reaches ≡ length f.parameters.items
    of (Ok x) h =
        let count : length known.reaches ≡ 0 + length f.parameters.items =
        parameters_count structs returned (returned_as x.1 structs x.0) known after (function_seen f scope) f.parameters.items nothing_known x.1 h in
        omega (arith, count)
    of (Err fault) h = absurd (cc)

-- ---- behind all of it

pub header_stays : (bodies : List Bool) (before : Entity) (f : Function) (p : ProgressView) (x : PartsView × ProgressView) (h : HeaderIs bodies before f p x)
    → Stays (names_of f.parameters.items) (function_seen f p.scope) h.scope
header_stays bodies before f p x h =
    let all : length h.hides ≡ 0 + length f.parameters.items = hides_count h.known.types f.parameters.items [] (function_seen f p.scope) (h.hides, h.scope) h.declares in
    (parameters_stay h.known.types f.parameters.items [] (function_seen f p.scope) (h.hides, h.scope) h.declares).1
    (nothing_hidden h.scope h.known.reaches h.hides f.parameters.items h.kept (header_count p.pointing f p.scope p.types h.returned h.known h.types h.read) (omega (arith, all)) h.parameters)
