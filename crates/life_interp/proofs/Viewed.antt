-- What a view sees, written out, is what the meaning writes.
use Rattle.std.proofs.Common.{◌≡◌, ℕ, zero, suc, ◌+◌, ◌++◌, List, [], ◌∷◌, take, Option, Some, None, Ok, Err, sym, ap, ◌∙◌, arith}
use Rattle.std.proofs.lemmas.Option.{none-some, same_Some}
use Rattle.std.specs.Prelude.{ℤ, slice_get}
use Rattle.life_types.specs.Types.{Types}
use Rattle.life_core.specs.Function.{Function}
use Rattle.life_core.specs.Operands.{Location}
use Rattle.life_core.specs.Step.{WritesView}
use Rattle.life_store.specs.Content.{Content}
use Rattle.life_store.specs.Doing.{Setting, Effect, Next, Strays, port, with_output}
use Rattle.life_store.specs.Effects.{Attempt, on_got}
use Rattle.life_store.specs.Places.{location_cell}
use Rattle.life_store.specs.State as state
use Rattle.life_store.specs.Views.{seen_bytes, usable, used}
use Rattle.life_pointers.specs.Attempts.{tried}
use Rattle.life_pointers.specs.Pointers.{pointer_seen}
use Rattle.life_pointers.specs.declared.pointer.Pointer.{Pointer}
use Rattle.life_pointers.specs.declared.stop.Stop.{Stop}
use Rattle.life_pointers.specs.declared.stop.Stop.TheVariants as stop
use Rattle.life_cells.specs.Cells.{pointer_in, state_in, state_of}
use Rattle.life_cells.specs.declared.cell.Cell.{Cell}
use Rattle.life_cells.proofs.CellLemmas.{no_view, points}
use Rattle.life_interp.specs.Steps.{ended_as}
use Rattle.life_interp.specs.Walking.{StepEnds, Sunk, Takes}

module _ (s : Setting) (types : Types) (f : Function) (l : Location) (c : Content) (cells : List Cell) (ins : List ℤ) where
  -- what the location holds
  abbrev held : Option state.Cell
  held = location_cell types f l (state_in c cells)

  abbrev written : List ℕ → state.Pointer → Effect
  written output p = Next (with_output (seen_bytes s.texts c p) (state_of c cells output ins))

  -- it holds no pointer
  pub view_lost : None ≡ pointer_in held → (output : List ℕ) → port s types f (WritesView l) (state_of c cells output ins) ≡ Strays
  view_lost none output = ap (λ (a : Attempt state.Pointer). on_got a (written output)) (no_view c held none)

  module _ (p : Pointer) (holds : Some (pointer_seen p) ≡ pointer_in held) where
    asked : (output : List ℕ) → port s types f (WritesView l) (state_of c cells output ins) ≡ on_got (usable c (pointer_seen p)) (written output)
    asked output = ap (λ (v : Option state.Cell). on_got (used c v) (written output)) (points held (pointer_seen p) holds)

    -- one that may not be used
    pub view_stops : (k : Sunk) → Takes k [] → (e : Stop) → tried pointer_seen (Err e) ≡ usable c (pointer_seen p) → StepEnds (port s types f (WritesView l)) c cells ins k (ended_as e)
    view_stops k takes (stop.Trap kind) is = (takes, λ output. asked output ∙ ap (λ (a : Attempt state.Pointer). on_got a (written output)) (sym is))
    view_stops k takes (stop.Fault kind) is = (takes, λ output. asked output ∙ ap (λ (a : Attempt state.Pointer). on_got a (written output)) (sym is))
    view_stops k takes stop.Lost is = (takes, λ output. asked output ∙ ap (λ (a : Attempt state.Pointer). on_got a (written output)) (sym is))

    -- .. and one that may
    pub view_seen : (v : Pointer) → tried pointer_seen (Ok v) ≡ usable c (pointer_seen p) → (bytes : List ℕ) → bytes ≡ seen_bytes s.texts c (pointer_seen v) → (output : List ℕ)
        → port s types f (WritesView l) (state_of c cells output ins) ≡ Next (state_of c cells (output ++ bytes) ins)
    view_seen v is bytes same output =
        asked output
        ∙ ap (λ (a : Attempt state.Pointer). on_got a (written output)) (sym is)
        ∙ ap (λ (bs : List ℕ). Next (state_of c cells (output ++ bs) ins)) (sym same)

-- ---- one after the other

pub take_next : (xs : List ℕ) (i x : ℕ) → slice_get xs i ≡ Some x → take (i + 1) xs ≡ take i xs ++ x ∷ []
take_next [] i x e = absurd (none-some x e)
take_next (y ∷ ys) zero x e = let z : zero + 1 ≡ 1 = omega arith in ap (λ k. take k (y ∷ ys)) z ∙ ap (λ k. k ∷ []) (same_Some y x e)
take_next (y ∷ ys) (suc i) x e = let z : suc i + 1 ≡ suc (i + 1) = omega arith in ap (λ k. take k (y ∷ ys)) z ∙ ap (λ zs. y ∷ zs) (take_next ys i x e)
