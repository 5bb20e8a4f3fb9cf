-- What is wrong at the points of a function, by the rows of a solution.
use Rattle.std.specs.List.{flat_map}
use Rattle.std.specs.Prelude.{ℕ, ◌++◌, Bool, List, Option, Some, None, Contains}
use Rattle.life_types.specs.Types.{Types}
use Rattle.life_core.specs.Function.{Function}
use Rattle.life_core.specs.Tree.{Spot}
use Rattle.life_contract.specs.Signatures.{Signature}
use Rattle.life_pset.specs.Table.{Table}
use Rattle.life_pset.specs.declared.element.Fact.{Fact}
use Rattle.life_rules.specs.Diagnosing.{diags_at, diags_of_two, Tells}
use Rattle.life_rules.specs.FactSets.{Holds}
use Rattle.life_rules.specs.declared.diag.Diag.{Diag}

-- all that facts make wrong, each one and each two
abbrev pub all_wrong : List Signature → Types → ℕ → Function → Spot → List Fact → List Diag
all_wrong sigs types function f spot facts =
    flat_map (diags_at sigs types function f (Some spot)) facts ++ flat_map (λ a. flat_map (diags_of_two sigs types function f (Some spot) a) facts) facts

-- these facts are of the set
abbrev pub AllHold : Table → (ℕ → ℕ → Bool) → List Fact → Type 0
AllHold t has facts = (x : Fact) → Contains facts x → Holds t has x

-- some facts of the set make it wrong at the spot
abbrev pub IsWrongBy : List Signature → Types → ℕ → Function → Table → (ℕ → ℕ → Bool) → Spot → Diag → Type 0
IsWrongBy sigs types function f t has spot d = (facts : List Fact) × (AllHold t has facts × Tells sigs types function f (Some spot) facts d)

-- .. of the row, if there is one
abbrev pub IsWrongIn : {R : Type 0} → List Signature → Types → ℕ → Function → Table → (R → ℕ → ℕ → Bool) → Spot → Option R → Diag → Type 0
IsWrongIn sigs types function f t has spot None d = ⊥
IsWrongIn sigs types function f t has spot (Some row) d = IsWrongBy sigs types function f t (has row) spot d
