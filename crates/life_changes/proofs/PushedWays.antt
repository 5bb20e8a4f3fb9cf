-- How a register's value is added, or what else a local holds.
use Rattle.std.proofs.Common.{◌≡◌, ⊎_elim, ℕ, List, [], ◌∷◌, Option, Some, None, Err, refl, sym, ap, ◌∙◌}
use Rattle.std.proofs.lemmas.Option.{slice_get-map}
use Rattle.std.specs.Prelude.{ℤ, option_map, slice_get}
use Rattle.life_types.specs.Types.{Types}
use Rattle.life_types.specs.declared.ty.TyId.{TyId}
use Rattle.life_core.specs.Function.{Function}
use Rattle.life_core.specs.Step.{PushBack}
use Rattle.life_store.specs.Content.{Content}
use Rattle.life_store.specs.Doing.{edits, pushes}
use Rattle.life_store.specs.Edits.{Push}
use Rattle.life_store.specs.Effects.{Setting, Strays, cell, word_of_number}
use Rattle.life_store.specs.Parts.{Parts, Text, Vector, parts_at}
use Rattle.life_store.specs.State as state
use Rattle.life_forest.proofs.StandingSteps.{IsTypedChange}
use Rattle.life_pointers.specs.Owned.{spot_seen}
use Rattle.life_pointers.specs.declared.owned.Spot.{Spot}
use Rattle.life_cells.specs.Cells.{cell_seen, cells_seen, number_in, object_in, state_of}
use Rattle.life_cells.specs.declared.cell.Cell.{Cell}
use Rattle.life_changes.specs.Edits.{IsFor}
use Rattle.life_changes.specs.Steps.{Goes}
use Rattle.life_changes.specs.declared.edit.Edit.TheVariants as editing
use Rattle.life_changes.specs.declared.failure.Failure.TheVariants as failure
use Rattle.life_pointers.specs.declared.stop.Stop.TheVariants as stop

pub seen_there : (cells : List Cell) (x : ℕ) (v : Option Cell) → v ≡ slice_get cells x → slice_get (cells_seen cells) x ≡ option_map cell_seen v
seen_there cells x v is = slice_get-map cell_seen cells x ∙ ap (option_map cell_seen) (sym is)

-- ---- a number

-- its vector has elements that are numbers
pub number_fits : (types : Types) (f : Function) (st : state.State) (ty : TyId) (x : ℕ) (z : ℤ) (n : ℕ) → IsTypedChange types f st ty (PushBack x) → cell st x ≡ Some (state.Number z) → IsFor types ty (editing.Push n)
number_fits types f st ty x z n typed holds id element is =
    ⊎_elim (λ t. absurd (unlike element t.0 id (sym t.1 ∙ is)))
    (λ t. sym (same t.0 id (parts_at types t.0) element (sym t.1 ∙ is)) ∙ t.2.0 z holds) typed
  where
    unlike : (element : Parts) (k id : TyId) → Text k ≡ Vector id element → ⊥
    unlike element k id e = cc

    same : (k id : TyId) (a b : Parts) → Vector k a ≡ Vector id b → a ≡ b
    same k id a b e = cc

module _ (s : Setting) (types : Types) (f : Function) (p : Parts) (spot : Spot) (x : ℕ) (m : Content) (cells : List Cell) where
  pub pushes_number : (z : ℤ) → slice_get (cells_seen cells) x ≡ Some (state.Number z)
      → (output : List ℕ) (input : List ℤ) → pushes s types f p (spot_seen spot) x (cell (state_of m cells output input) x) (state_of m cells output input) ≡ edits s p (spot_seen spot) (Push (λ c. (word_of_number z ∷ [], c))) (state_of m cells output input)
  pushes_number z there output input = ap (λ (v : Option state.Cell). pushes s types f p (spot_seen spot) x v (state_of m cells output input)) there

  -- ---- nothing that can be added

  pub pushes_lost : (v : Option state.Cell) → slice_get (cells_seen cells) x ≡ v → None ≡ number_in v → None ≡ object_in v → (d : Content) (new : List Cell)
      → Goes {A = Unit {0}} (λ st. pushes s types f p (spot_seen spot) x (cell st x) st) m cells d new (Err (failure.Stopped stop.Lost))
  pushes_lost v there no_number no_object d new = λ output input. ap (λ (w : Option state.Cell). pushes s types f p (spot_seen spot) x w (state_of m cells output input)) there ∙ lost output input v no_number no_object
    where
      lost : (output : List ℕ) (input : List ℤ) (w : Option state.Cell) → None ≡ number_in w → None ≡ object_in w → pushes s types f p (spot_seen spot) x w (state_of m cells output input) ≡ Strays
      lost output input None a b = refl
      lost output input (Some state.Empty) a b = refl
      lost output input (Some (state.Points q)) a b = refl
      lost output input (Some (state.Number z)) a b = absurd (unlike a)
        where
          unlike : None ≡ Some z → ⊥
          unlike e = cc
      lost output input (Some (state.Named n)) a b = absurd (unlike b)
        where
          unlike : None ≡ Some n → ⊥
          unlike e = cc
