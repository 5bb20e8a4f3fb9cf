-- What is visible behind a header: its parameters, and the functions that were visible before it.
use Rattle.std.proofs.Common.{◌≡◌, ⊎_elim, ℕ, ◌+◌, Bool, Some, List, [], ◌∷◌, ◌++◌, Contains, length, map, slice_get, refl, ap, subst, ◌∙◌, arith}
use Rattle.life_types.specs.Types.{Types, HasType, HasTypes}
use Rattle.life_types.specs.declared.ty.NameId.{NameId}
use Rattle.life_tree.specs.declared.function.Function.{Function}
use Rattle.life_typed.specs.declared.typed_program.TypedLocal.{TypedLocal}
use Rattle.life_names.specs.Environment.{Scope, seen_as}
use Rattle.life_names.specs.declared.environment.Entity.{Entity}
use Rattle.life_names.specs.declared.environment.Entity.TheVariants as entity
use Rattle.life_typing.specs.Functions.{PartsView}
use Rattle.life_typing.specs.Headers.{Known, function_seen}
use Rattle.life_typing.specs.Progress.{ProgressView}
use Rattle.life_well_typed.specs.Expressions.{type_of}
use Rattle.life_well_typed.specs.Results.{HaveMembers}
use Rattle.life_well_typed.specs.Visible.{Visible, with_parameters}
use Rattle.life_typing_laws.proofs.Domains.{Returned}
use Rattle.life_typing_laws.proofs.Growing.{objects_there}
use Rattle.life_typing_laws.proofs.HeaderTypes.{HeaderRead, header_read, by_seen}
use Rattle.life_typing_laws.proofs.Headers.{HeaderIs}
use Rattle.life_typing_laws.proofs.Known.{AreKnown}
use Rattle.life_typing_laws.proofs.FunctionNames.{AreNamed}
use Rattle.life_typing_laws.proofs.Parameters.{AreParameters, HideNothing, hides_count, ids_known, names_of, nothing_hidden, parameter_ids, parameters_are}
use Rattle.life_typing_laws.proofs.Scopes.{IsIn, KeepsFunctions, MeansNoMore, set_length, set_other, sound_now}
use Rattle.life_typing_laws.specs.Sound.{Grows, IsSound}

-- ---- between functions

-- so far, where there are bodies of these names
pub record IsUnderway (bodies : List Bool) (p : ProgressView) : Type 0 where
  pub sound : IsSound (with_parameters 0) p.scope p.types
  pub known : AreKnown p.scope.names p.types p.scope.functions p.functions p.declared
  pub named : AreNamed p.scope p.functions
  pub size : length p.scope.visible ≡ length bodies
  pub structs : HaveMembers p.structs p.types.structs

-- ---- the function's name means a function

-- what a name means is no variable
pub seen_sound : (name : NameId) (number : ℕ) (v : Visible) (scope : Scope) (types : Types) → IsSound v scope types → IsSound v (seen_as name (entity.Function number) scope) types
seen_sound name number v scope types sound = record {
  ordered = sound.ordered;
  based = sound.based;
  structs_there = sound.structs_there;
  structs_count = sound.structs_count;
  locals_there = sound.locals_there;
  results_there = sound.results_there;
  parameters_there = sound.parameters_there;
  declared = sound.declared;
  visible = λ k n e. ⊎_elim (λ here. absurd (never n here.1)) (λ old. sound.visible k n old) (set_other scope.visible name.0 k (entity.Function number) (entity.Local n) e);
}
  where
    never : (n : ℕ) → entity.Function number ≡ entity.Local n → ⊥
    never n e = cc

pub record IsSeen (f : Function) (v : Visible) (scope after : Scope) (types : Types) : Type 0 where
  pub sound : IsSound v after types
  pub functions : after.functions ≡ scope.functions
  pub texts : after.names ≡ scope.names
  pub size : length after.visible ≡ length scope.visible

function_is_seen : (f : Function) (v : Visible) (scope : Scope) (types : Types) → IsSound v scope types → IsSeen f v scope (function_seen f scope) types
function_is_seen f v scope types sound =
    by_seen f scope (λ (s : Scope). IsSeen f v scope s types)
    (record { sound = sound; functions = refl; texts = refl; size = refl })
    (record { sound = seen_sound f.name.id 0 v scope types sound; functions = refl; texts = refl; size = set_length scope.visible f.name.id.0 (entity.Function 0) })

-- ---- the parameters are visible

none_in : (n : ℕ) → Contains {X = ℕ} [] n → ⊥
none_in n c = omega (arith, c.1)

no_items : {A : Type 0} (xs : List A) → length xs ≡ 0 → xs ≡ []
no_items [] e = refl
no_items (x ∷ xs) e = absurd (omega (arith, e))

pub record AreVisible (f : Function) (p : ProgressView) (returned : Returned) (known : Known) (types : Types) (scope : Scope) : Type 0 where
  pub grows : Grows p.types types
  pub structs : types.structs ≡ p.types.structs
  pub sound : IsSound (with_parameters (length f.parameters.items)) scope types
  pub result : HasType types returned.ty
  pub there : HasTypes types known.types
  pub count : length known.types ≡ length f.parameters.items
  pub ids : map type_of scope.locals ≡ known.types
  pub functions : scope.functions ≡ p.scope.functions
  pub shows : (k n : ℕ) → slice_get scope.visible k ≡ Some (entity.Local n) → IsIn (names_of f.parameters.items) k
  pub keeps : KeepsFunctions (names_of f.parameters.items) (function_seen f p.scope) scope
  pub means : MeansNoMore (function_seen f p.scope) scope
  pub texts : scope.names ≡ p.scope.names
  pub size : length scope.visible ≡ length p.scope.visible

pub header_visible : (bodies : List Bool) (before : Entity) (f : Function) (p : ProgressView) (x : PartsView × ProgressView) (h : HeaderIs bodies before f p x) → IsUnderway bodies p
    → AreVisible f p h.returned h.known h.types h.scope
header_visible bodies before f p x h under =
    let read : HeaderRead f.parameters.items p.types h.returned h.known h.types =
    header_read p.pointing f p.scope p.types h.returned h.known h.types under.sound.ordered under.sound.based under.sound.structs_there h.read in
    let seen : IsSeen f (with_parameters 0) p.scope (function_seen f p.scope) h.types =
    function_is_seen f (with_parameters 0) p.scope h.types (sound_now (with_parameters 0) p.scope p.types h.types under.sound read.grown) in
    let all : length h.hides ≡ 0 + length f.parameters.items = hides_count h.known.types f.parameters.items [] (function_seen f p.scope) (h.hides, h.scope) h.declares in
    let hidden : HideNothing h.hides = nothing_hidden h.scope h.known.reaches h.hides f.parameters.items h.kept read.reaches_count (omega (arith, all)) h.parameters in
    let them : AreParameters h.known.types 0 f.parameters.items (function_seen f p.scope) h.types (h.hides, h.scope) =
    parameters_are h.known.types h.types read.objects f.parameters.items [] (function_seen f p.scope) (h.hides, h.scope) seen.sound hidden (omega (arith, read.types_count)) h.declares in
    let none : 0 + length f.parameters.items ≡ length f.parameters.items = omega arith in
    let no_locals : (function_seen f p.scope).locals ≡ [] = no_items (function_seen f p.scope).locals seen.sound.declared in
    record {
      grows = read.grown.grows;
      structs = read.grown.structs;
      sound = subst (λ (n : ℕ). IsSound (with_parameters n) h.scope h.types) none them.sound;
      result = read.result;
      there = objects_there h.types h.known.types read.objects;
      count = read.types_count;
      ids = them.ids ∙ ap (λ (ls : List TypedLocal). map type_of ls ++ parameter_ids h.known.types 0 f.parameters.items) no_locals ∙ ids_known h.known.types f.parameters.items read.types_count;
      functions = them.moves.functions ∙ seen.functions;
      shows = λ k n e. ⊎_elim (λ among. among) (λ old. absurd (none_in n (seen.sound.visible k n old))) (them.moves.shows k n e);
      keeps = them.moves.keeps;
      means = them.moves.means;
      texts = them.moves.texts ∙ seen.texts;
      size = them.moves.size ∙ seen.size;
    }
