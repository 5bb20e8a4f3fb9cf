-- What is known of what a step gives, and of the scope behind it.
use Rattle.std.proofs.Common.{ℕ, List, [], ◌∷◌, sym, subst, ◌≡◌, ◌-◌, ◌^◌, true, ◌++◌, length, nat_lt, refl, ◌∙◌}
use Rattle.life_types.specs.declared.ty.NameId.{NameId}
use Rattle.life_typed.specs.declared.typed_program.TypedLocal.{TypedLocal}
use Rattle.life_names.specs.Environment.{Scope, declared, forgotten}
use Rattle.life_typing_laws.proofs.Scopes.{IsFree, forgotten_locals}
use Rattle.life_typing_laws.proofs.Staying.{Stays, declared_stays}
use Rattle.life_typing_laws.proofs.Yields.{Finds, finds_if}
use Rattle.std.proofs.lemmas.Bool.{and_from}
use Rattle.std.proofs.lemmas.List.Folds.{list_all-append}
use Rattle.std.specs.List.{list_all}
use Rattle.life_well_typed.specs.Names.{is_local_named}

-- ---- names in a table of so many

abbrev pub LocalsNamed : ℕ → List TypedLocal → Type 0
LocalsNamed names locals = list_all (is_local_named names) locals ≡ true

-- all variables are so behind what is made
abbrev pub NamedBehind : (A : Type 0) → ℕ → A × Scope → Type 0
NamedBehind A names x = LocalsNamed names x.1.locals

more_named : (names : ℕ) (locals : List TypedLocal) (l : TypedLocal) → LocalsNamed names locals → nat_lt l.name.0 names ≡ true → LocalsNamed names (locals ++ l ∷ [])
more_named names locals l all one =
    list_all-append (is_local_named names) locals (l ∷ []) ∙ and_from (list_all (is_local_named names) locals) (list_all (is_local_named names) (l ∷ [])) all (and_from (is_local_named names l) true one refl)

-- a variable or a parameter
pub local_named : (names : ℕ) (l : TypedLocal) (scope : Scope) → nat_lt l.name.0 names ≡ true → LocalsNamed names scope.locals → Finds (NamedBehind ℕ names) (declared l scope)
local_named names l scope named all = finds_if (NamedBehind ℕ names) (nat_lt (length scope.locals) (2 ^ 32 - 1)) _ _ (more_named names scope.locals l all named)

-- ---- behind a step

-- what is visible of functions stays, where these names are declared; the names of all variables are in each table in which the names at hand are; and so much holds of what is given
pub record Behind (A : Type 0) (Is : A → Type 0) (Named : ℕ → Type 0) (names : List NameId) (scope : Scope) (x : A × Scope) : Type 0 where
  pub stays : Stays names scope x.1
  pub named : (n : ℕ) → Named n → LocalsNamed n scope.locals → LocalsNamed n x.1.locals
  pub is : Is x.0

-- .. where nothing more is known of it
abbrev pub MadeBehind : (A : Type 0) → (ℕ → Type 0) → List NameId → Scope → A × Scope → Type 0
MadeBehind A = Behind A (λ x. Unit {0})

-- a variable
abbrev pub VariableBehind : (A : Type 0) → NameId → Scope → A × Scope → Type 0
VariableBehind A name scope = MadeBehind A (λ n. nat_lt name.0 n ≡ true) (name ∷ []) scope

abbrev pub LocalBehind : NameId → Scope → ℕ × Scope → Type 0
LocalBehind = VariableBehind ℕ

pub local_behind : (l : TypedLocal) (scope : Scope) → IsFree l.name scope → Finds (LocalBehind l.name scope) (declared l scope)
local_behind l scope free x e = record { stays = declared_stays l scope free x e; named = λ n named all. local_named n l scope named all x e; is = tt }

-- names are forgotten
pub still_named : (n : ℕ) (gone : List NameId) (scope : Scope) → LocalsNamed n scope.locals → LocalsNamed n (forgotten gone scope).locals
still_named n gone scope all = subst (LocalsNamed n) (sym (forgotten_locals gone scope)) all
