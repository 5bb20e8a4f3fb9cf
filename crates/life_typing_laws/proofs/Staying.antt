-- What stays as checking goes on, whatever is checked: what means a function means it still, and there are the functions that there were.
use Rattle.std.proofs.Common.{◌≡◌, inl, ⊎_elim, ℕ, false, Option, None, Some, List, [], ◌∷◌, length, slice_get, refl, sym, subst, ◌∙◌}
use Rattle.life_types.specs.declared.place.Place.{Place}
use Rattle.life_types.specs.declared.ty.NameId.{NameId}
use Rattle.life_typed.specs.declared.typed_program.TypedLocal.{TypedLocal}
use Rattle.life_names.specs.Environment.{Scope, declared, forgotten, meaning, seen_as}
use Rattle.life_names.specs.Found.{allowed}
use Rattle.life_names.specs.declared.environment.Entity.{Entity}
use Rattle.life_names.specs.declared.environment.Entity.TheVariants as entity
use Rattle.life_names.specs.declared.fault.IllKind.{IllKind}
use Rattle.life_type_stmt.specs.Declarations.{redeclared, visible_fault}
use Rattle.life_type_stmt.specs.Statements.{name_before}
use Rattle.life_typing.specs.Parameters.{is_seen, is_something}
use Rattle.life_typing_laws.proofs.Scopes.{IsDeclared, IsFree, KeepsFunctions, declared_is, forgotten_functions, forgotten_keeps, forgotten_size, set_else, set_length}
use Rattle.life_typing_laws.proofs.Steps.{no_fault}
use Rattle.life_typing_laws.proofs.Yields.{Finds}

-- ---- what stays, where these names were declared

pub record Stays (names : List NameId) (before after : Scope) : Type 0 where
  pub keeps : KeepsFunctions names before after
  pub functions : after.functions ≡ before.functions
  pub size : length after.visible ≡ length before.visible

-- .. of what a step gives beside a scope
abbrev pub StaysIn : {A : Type 0} → List NameId → Scope → A × Scope → Type 0
StaysIn names before x = Stays names before x.1

pub stays_not : (scope : Scope) → Stays [] scope scope
stays_not scope = record { keeps = λ k n e. (λ none. none, e); functions = refl; size = refl }

-- ---- two steps

pub stays_on : (declares : Option NameId) (names : List NameId) (a b c : Scope) → Stays (name_before declares []) a b → Stays names b c → Stays (name_before declares names) a c
stays_on None names a b c first second = record {
  keeps = λ k n e. second.keeps k n (first.keeps k n e).1;
  functions = second.functions ∙ first.functions;
  size = second.size ∙ first.size;
}
stays_on (Some name) names a b c first second = record {
  keeps = λ k n e.
      let early = first.keeps k n e in
      let late = second.keeps k n early.1 in (λ among. ⊎_elim (λ here. early.0 (inl here)) (λ there. late.0 there) among, late.1);
  functions = second.functions ∙ first.functions;
  size = second.size ∙ first.size;
}

-- the second declares nothing that is visible behind it
pub stays_then : (names : List NameId) (a b c : Scope) → Stays names a b → Stays [] b c → Stays names a c
stays_then names a b c first second = record {
  keeps = λ k n e. let early = first.keeps k n e in (early.0, (second.keeps k n early.1).1);
  functions = second.functions ∙ first.functions;
  size = second.size ∙ first.size;
}

-- behind a block
pub stays_behind : (names : List NameId) (a b : Scope) → Stays names a b → Stays [] a (forgotten names b)
stays_behind names a b s = record {
  keeps = λ k n e. let kept = s.keeps k n e in (λ none. none, forgotten_keeps names b k kept.0 ∙ kept.1);
  functions = forgotten_functions names b ∙ s.functions;
  size = forgotten_size names b ∙ s.size;
}

-- ---- names that mean no function

-- .. by what a test says of what they mean
free_by : {A : Type 0} (test : Entity → A) (said : A) (name : NameId) (scope : Scope) → ((n : ℕ) → test (entity.Function n) ≡ said → ⊥) → test (meaning scope name) ≡ said → IsFree name scope
free_by test said name scope never e n there = never n (rw there at e)

pub free_unseen : (name : NameId) (scope : Scope) → meaning scope name ≡ entity.Unseen → IsFree name scope
free_unseen name scope e = free_by (λ (m : Entity). m) entity.Unseen name scope never e
  where
    never : (n : ℕ) → entity.Function n ≡ entity.Unseen → ⊥
    never n h = cc

pub free_not_seen : (name : NameId) (scope : Scope) → is_seen scope name ≡ false → IsFree name scope
free_not_seen name scope e = free_by is_something false name scope never e
  where
    never : (n : ℕ) → is_something (entity.Function n) ≡ false → ⊥
    never n h = cc

pub free_to_declare : (name : NameId) (scope : Scope) → redeclared scope name ≡ None → IsFree name scope
free_to_declare name scope e = free_by visible_fault None name scope never e
  where
    never : (n : ℕ) → visible_fault (entity.Function n) ≡ None → ⊥
    never n h = cc

-- a rule on one was kept
pub finds_allowed : (fault : Option IllKind) (place : Place) → Finds (λ _. fault ≡ None) (allowed fault place)
finds_allowed fault place u e = no_fault fault place u e

-- ---- one of them means something from here on

pub seen_keeps : (name : NameId) (e : Entity) (scope : Scope) → IsFree name scope → KeepsFunctions (name ∷ []) scope (seen_as name e scope)
seen_keeps name m scope free k n e = (λ among. ⊎_elim (λ here. taken here) (λ none. none) among, set_else scope.visible name.0 k m taken ∙ e)
  where
    taken : name.0 ≡ k → ⊥
    taken here = free n (subst (λ (i : ℕ). slice_get scope.visible i ≡ Some (entity.Function n)) (sym here) e)

pub declared_stays : (l : TypedLocal) (scope : Scope) → IsFree l.name scope → Finds (StaysIn (l.name ∷ []) scope) (declared l scope)
declared_stays l scope free x e =
    let d : IsDeclared l scope x = declared_is l scope x e in
    subst (Stays (l.name ∷ []) scope) (sym d.behind) (record {
      keeps = seen_keeps l.name (entity.Local (length scope.locals)) scope free;
      functions = refl;
      size = set_length scope.visible l.name.0 (entity.Local (length scope.locals));
    })
