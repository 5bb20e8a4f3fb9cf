-- A function that is declared without a body has it further on in the file.
use Rattle.std.proofs.Common.{◌≡◌, ◌⊎◌, inl, inr, ⊎_elim, ℕ, zero, suc, Bool, true, false, Some, List, [], ◌∷◌, length, slice_get, slice_set, refl, sym, subst, ◌∙◌, if◌then◌else◌}
use Rattle.life_tree.specs.declared.function.Function.{Function}
use Rattle.life_tree.specs.declared.program.Definition.{Definition}
use Rattle.life_tree.specs.declared.program.Definition.TheVariants as definition
use Rattle.life_names.specs.declared.environment.Entity.TheVariants as entity
use Rattle.life_typing.specs.Names.{DeclaredView, has_body}
use Rattle.life_typing.specs.Progress.{ProgressView}
use Rattle.life_typing.specs.Resolves.{no_flags, with_all_noted, with_definition_noted, with_function_noted}
use Rattle.life_typing_laws.proofs.Steps.{same_number, same_some, not_both}
use Rattle.life_typing_laws.proofs.Entered.{IsBegun}
use Rattle.life_typing_laws.proofs.Scopes.{set_length, set_other}
use Rattle.life_typing_laws.proofs.Went.{Went}

-- ---- definitions with a body of a name

abbrev pub IsBodyOf : ℕ → Definition → Type 0
IsBodyOf k (definition.Struct s) = ⊥
IsBodyOf k (definition.Function f) = (f.name.id.0 ≡ k) × (has_body f.body ≡ true)

abbrev pub Comes : ℕ → List Definition → Type 0
Comes k [] = ⊥
Comes k (d ∷ ds) = IsBodyOf k d ⊎ Comes k ds

-- what is flagged has a body in the file
function_flag : (f : Function) (flags : List Bool) (k : ℕ) → slice_get (with_function_noted f flags) k ≡ Some true → (slice_get flags k ≡ Some true) ⊎ ((f.name.id.0 ≡ k) × (has_body f.body ≡ true))
function_flag f flags k e = go (has_body f.body) refl e
  where
    go : (b : Bool) → has_body f.body ≡ b → slice_get (if b then slice_set flags f.name.id.0 true else flags) k ≡ Some true → (slice_get flags k ≡ Some true) ⊎ ((f.name.id.0 ≡ k) × (has_body f.body ≡ true))
    go true is e = ⊎_elim (λ here. inr (here.0, is)) (λ old. inl old) (set_other flags f.name.id.0 k true true e)
    go false is e = inl e

definition_flag : (d : Definition) (flags : List Bool) (k : ℕ) → slice_get (with_definition_noted d flags) k ≡ Some true → (slice_get flags k ≡ Some true) ⊎ IsBodyOf k d
definition_flag (definition.Struct s) flags k e = inl e
definition_flag (definition.Function f) flags k e = function_flag f flags k e

pub flag_comes : (ds : List Definition) (flags : List Bool) (k : ℕ) → slice_get (with_all_noted ds flags) k ≡ Some true → (slice_get flags k ≡ Some true) ⊎ Comes k ds
flag_comes [] flags k e = inl e
flag_comes (d ∷ ds) flags k e =
    ⊎_elim (λ noted. ⊎_elim (λ old. inl old) (λ here. inr (inl here)) (definition_flag d flags k noted)) (λ later. inr (inr later)) (flag_comes ds (with_definition_noted d flags) k e)

pub no_flag : (names : List (List ℕ)) (k : ℕ) → slice_get (no_flags names) k ≡ Some true → ⊥
no_flag [] k e = cc
no_flag (name ∷ names) zero e = cc
no_flag (name ∷ names) (suc k) e = no_flag names k e

function_flags_size : (f : Function) (flags : List Bool) → length (with_function_noted f flags) ≡ length flags
function_flags_size f flags = go (has_body f.body)
  where
    go : (b : Bool) → length (if b then slice_set flags f.name.id.0 true else flags) ≡ length flags
    go true = set_length flags f.name.id.0 true
    go false = refl

flags_size : (d : Definition) (flags : List Bool) → length (with_definition_noted d flags) ≡ length flags
flags_size (definition.Struct s) flags = refl
flags_size (definition.Function f) flags = function_flags_size f flags

pub all_flags_size : (ds : List Definition) (flags : List Bool) → length (with_all_noted ds flags) ≡ length flags
all_flags_size [] flags = refl
all_flags_size (d ∷ ds) flags = all_flags_size ds (with_definition_noted d flags) ∙ flags_size d flags

-- ---- before these definitions

-- a function without a body has a name, and one with a body that has that name is to come
pub record IsPending (p : ProgressView) (ds : List Definition) (m : ℕ) : Type 0 where
  pub name : ℕ
  pub means : slice_get p.scope.visible name ≡ Some (entity.Function m)
  pub comes : Comes name ds

pub record BodiesCome (bodies : List Bool) (p : ProgressView) (ds : List Definition) : Type 0 where
  pub flagged : (k : ℕ) → slice_get bodies k ≡ Some true → ((n : ℕ) × (slice_get p.scope.visible k ≡ Some (entity.Function n))) ⊎ Comes k ds
  pub pending : (m : ℕ) (d : DeclaredView) → slice_get p.declared m ≡ Some d → d.has_body ≡ false → IsPending p ds m

-- .. and behind the first of them
module _ (bodies : List Bool) (f : Function) (ds : List Definition) (p q : ProgressView) (b : BodiesCome bodies p (definition.Function f ∷ ds)) (went : Went bodies f p q) where
  named_at : (k : ℕ) → f.name.id.0 ≡ k → slice_get q.scope.visible k ≡ Some (entity.Function went.number)
  named_at k same = subst (λ (i : ℕ). slice_get q.scope.visible i ≡ Some (entity.Function went.number)) same went.named

  still_pending : (m : ℕ) (d : DeclaredView) → slice_get q.declared m ≡ Some d → d.has_body ≡ false → IsPending p (definition.Function f ∷ ds) m → IsPending q ds m
  still_pending m d e none old =
      ⊎_elim (λ here. not_both d.has_body (noted here.0 here.1) none) (λ later. record { name = old.name; means = went.keeps old.name m old.means; comes = later }) old.comes
    where
      noted : f.name.id.0 ≡ old.name → has_body f.body ≡ true → d.has_body ≡ true
      noted same bodied =
          let number : m ≡ went.number = same_number m went.number (same_some (entity.Function m) (entity.Function went.number) (sym (went.keeps old.name m old.means) ∙ named_at old.name same)) in
          went.noted bodied d (subst (λ (i : ℕ). slice_get q.declared i ≡ Some d) number e)

  now_pending : (m : ℕ) → IsBegun bodies f p went.number m → has_body f.body ≡ false → IsPending q ds m
  now_pending m begun bodiless =
      ⊎_elim (λ old. absurd (begun.free old.0 old.1))
      (λ comes. ⊎_elim (λ here. not_both (has_body f.body) here.1 bodiless)
      (λ later. record { name = f.name.id.0; means = subst (λ (n : ℕ). slice_get q.scope.visible f.name.id.0 ≡ Some (entity.Function n)) (sym begun.is) went.named; comes = later }) comes)
      (b.flagged f.name.id.0 begun.flagged)

  pub bodies_come_on : BodiesCome bodies q ds
  bodies_come_on = record {
    flagged = λ k e.
        ⊎_elim (λ old. inl (old.0, went.keeps k old.0 old.1))
        (λ comes. ⊎_elim (λ here. inl (went.number, named_at k here.0)) (λ later. inr later) comes) (b.flagged k e);
    pending = λ m d e none.
        ⊎_elim (λ old. still_pending m d e none (b.pending m d old none)) (λ begun. now_pending m begun.0 begun.1) (went.came m d e none);
  }
