-- Expressions of a list, read one after the other.
use Rattle.std.proofs.Common.{◌≡◌, Option, None, List, [], ◌∷◌, ◌++◌, Ok, length, refl, sym, ap, subst, ◌∙◌, append_assoc}
use Rattle.life_types.specs.Types.{Types}
use Rattle.life_types.specs.declared.place.Place.{Place}
use Rattle.life_typed.specs.Programs.{ProgramForm}
use Rattle.life_typed.specs.TypedForm.{Typed, forms}
use Rattle.life_typed.specs.declared.typed_program.TypedLocal.{TypedLocal}
use Rattle.life_names.specs.Checked.{Checked}
use Rattle.life_names.specs.Environment.{Scope}
use Rattle.life_names.specs.Found.{Found, given}
use Rattle.life_names.specs.declared.fault.IllKind.{IllKind}
use Rattle.life_type_expr.specs.Lists.{Meaning, Targets, count_fault, fitting, is_taken, lower_kind, misfits, passed, read_onto, target_at}
use Rattle.life_type_expr.specs.Operands.{literal_allowed}
use Rattle.life_well_typed.specs.Expressions.{AreExpressions}
use Rattle.life_well_typed.specs.Visible.{Visible}
use Rattle.life_typing_laws.proofs.Each.{EachHolds}
use Rattle.life_typing_laws.specs.Sound.{IsFinal, IsSound}
use Rattle.life_typing_laws.proofs.Growing.{IsGrown, grown_not, grown_on}
use Rattle.life_typing_laws.proofs.Scopes.{final_then, sound_now}
use Rattle.life_typing_laws.proofs.Steps.{allowed_ok, bound, given_ok, same_value}
use Rattle.life_typing_laws.proofs.Typed.{Good, PlaceThere, place_stays}

-- the type of each is there that is a place
abbrev pub PlacesThere : Types → List Typed → Type 0
PlacesThere types es = EachHolds (λ (e : Typed). PlaceThere types e.category) es

-- what was read behind those that were there: the table has grown, and each is well typed
pub record IsRead (v : Visible) (done : List Typed) (scope : Scope) (types : Types) (x : List Typed × Types) : Type 0 where
  pub more : List Typed
  pub all : x.0 ≡ done ++ more
  pub grown : IsGrown types x.1
  pub are : (p : ProgramForm) (locals : List TypedLocal) → IsFinal p locals scope x.1 → AreExpressions p locals v.visible (forms more)
  pub places : (p : ProgramForm) (locals : List TypedLocal) → IsFinal p locals scope x.1 → PlacesThere x.1 more

pub append_none : {A : Type 0} (xs : List A) → xs ++ [] ≡ xs
append_none [] = refl
append_none (x ∷ xs) = ap (λ ys. x ∷ ys) (append_none xs)

-- a string literal that isn't converted is told
abbrev taken : Targets → List Typed → Typed × Types → Found (Unit {0})
taken targets done x = literal_allowed (is_taken x.1 (target_at targets x.1 (length done)) x.0) x.0

abbrev behind_one : Targets → List Typed → List Meaning → Scope → Typed × Types → Checked (List Typed)
behind_one targets done ms scope x = given (taken targets done x) (λ _. read_onto targets (done ++ x.0 ∷ []) ms scope x.1)

all_read : (targets : Targets) (done : List Typed) (ms : List Meaning) (v : Visible) (scope : Scope) (types : Types) (x : List Typed × Types) → EachHolds Good ms → read_onto targets done ms scope types ≡ Ok x
    → IsSound v scope types → IsRead v done scope types x
all_read targets done [] v scope types x good e sound =
    let whole : ◌≡◌ {A = List Typed × Types} (done, types) x = same_value {A = List Typed} (done, types) x e in
    subst (IsRead v done scope types) whole (record { more = []; all = sym (append_none done); grown = grown_not types sound.ordered; are = λ p locals final. tt; places = λ p locals final. tt })
all_read targets done (m ∷ ms) v scope types x good e sound =
    let step = bound (m scope types) (behind_one targets done ms scope) x e in
    let literal = given_ok (taken targets done step.value) (λ _. read_onto targets (done ++ step.value.0 ∷ []) ms scope step.value.1) x step.behind in
    let one = good.0 v scope types step.value step.gave sound in
    let rest = all_read targets (done ++ step.value.0 ∷ []) ms v scope step.value.1 x good.1 literal.behind (sound_now v scope types step.value.1 sound one.grown) in
    record {
      more = step.value.0 ∷ rest.more;
      all = rest.all ∙ append_assoc done (step.value.0 ∷ []) rest.more;
      grown = grown_on types step.value.1 x.1 one.grown rest.grown;
      are = λ p locals final. ((one.is p locals (final_then p locals scope step.value.1 x.1 rest.grown final)).is, rest.are p locals final);
      places = λ p locals final. (
        place_stays step.value.1 x.1 rest.grown.grows step.value.0.category (one.is p locals (final_then p locals scope step.value.1 x.1 rest.grown final)).place,
        rest.places p locals final,
      );
    }

-- arguments that are passed: as many as there are parameters, each of which fits
pub record IsPassed (v : Visible) (general : IllKind) (other : Option IllKind) (targets : Targets) (scope : Scope) (types : Types) (x : List Typed × Types) : Type 0 where
  pub read : IsRead v [] scope types x
  pub fine : misfits general targets x.1 (lower_kind other (count_fault general targets (length x.0))) 0 x.0 ≡ None

abbrev fault_of : IllKind → Option IllKind → Targets → List Typed × Types → Option IllKind
fault_of general other targets y = misfits general targets y.1 (lower_kind other (count_fault general targets (length y.0))) 0 y.0

pub passed_is : (general : IllKind) (other : Option IllKind) (place : Place) (targets : Targets) (ms : List Meaning) (v : Visible) (scope : Scope) (types : Types) (x : List Typed × Types) → EachHolds Good ms
    → passed general other place targets ms scope types ≡ Ok x → IsSound v scope types → IsPassed v general other targets scope types x
unfolding passed
passed_is general other place targets ms v scope types x good e sound =
    let step = bound (read_onto targets [] ms scope types) (λ y. fitting (fault_of general other targets y) place y) x e in
    let fits = allowed_ok (fault_of general other targets step.value) place (λ _. Ok step.value) x step.behind in
    let same : step.value ≡ x = same_value step.value x fits.1 in
    subst (IsPassed v general other targets scope types) same (record { read = all_read targets [] ms v scope types step.value good step.gave sound; fine = fits.0 })
