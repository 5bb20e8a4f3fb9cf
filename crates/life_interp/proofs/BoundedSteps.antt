-- What lives stays within the limit behind what the machine's functions do.
use Rattle.std.proofs.Common.{◌≡◌, ℕ, List, [], ◌∷◌, Result, Ok, Err, OnOk, sym, subst, ◌∙◌, arith}
use Rattle.std.specs.Prelude.{ℤ, slice_get}
use Rattle.life_types.specs.Types.{Types}
use Rattle.life_core.specs.declared.operation.Operation.{Operation}
use Rattle.life_core.specs.declared.operation.Operation.TheVariants as operation
use Rattle.life_core.specs.Function.{Function}
use Rattle.life_core.specs.Step.{Step, Live, End, Eval, Load, Save, Copy, Move, Aim, Repoint, Element, Cursor, Advance, Cut, Size, Same, Changes, Make, Call, Port, Ports, Writes, WritesView, Takes}
use Rattle.life_store.specs.Cells.{at-none}
use Rattle.life_store.specs.Content.{Content, cost, empty_content}
use Rattle.life_store.specs.Doing.{Setting, Effect, Next, cell, computed_into, does, evaluated, input_taken, port, type_of, with_output}
use Rattle.life_store.specs.Meaning.{frame}
use Rattle.life_store.specs.Numbers.{Computed, combined, is_zero, negated, truth}
use Rattle.life_store.specs.State as state
use Rattle.life_store.specs.Places.{location_cell}
use Rattle.life_store.specs.State.{State}
use Rattle.life_store.specs.Views.{seen_bytes, used}
use Rattle.life_store.proofs.CellLemmas.{none_some}
use Rattle.life_store.proofs.MapLemmas.{sum-none}
use Rattle.life_pointers.specs.declared.stop.Stop.{Stop}
use Rattle.life_cells.specs.Cells.{state_of}
use Rattle.life_cells.specs.Steps.{Comes}
use Rattle.life_cells.specs.declared.cell.Cell.{Cell}
use Rattle.life_changes.specs.Bounded.{IsBounded}
use Rattle.life_interp.specs.Accessed.{StaysPut}
use Rattle.life_interp.specs.Cells.{world_of}
use Rattle.life_store.specs.Calls.{parameters_given}
use Rattle.life_interp.specs.Steps.{LeavesBoth, settled_as}
use Rattle.life_interp.specs.declared.ending.Ending.{Ending}
use Rattle.life_interp.proofs.AccessBounds.{access_bounds, cursor_bounds, number_bounds}
use Rattle.life_interp.proofs.Bounding.{Bounds, ends_bound, got_bounds, live_bounds, parameters_bound}

-- a run begins with nothing
pub empty_bounded : (limit : ℕ) → IsBounded limit empty_content
empty_bounded limit = record {
  within = let s = sum-none cost in omega (arith, s);
  roomy = λ n o e. absurd (none_some (sym (at-none n) ∙ e));
}

pub next_bounded : (limit : ℕ) (e : Effect) (st : State) → Bounds limit e → e ≡ Next st → IsBounded limit st.world.content
next_bounded limit e st h is = subst (Bounds limit) is h

pub leaves_bounded : {A : Type 0} (limit : ℕ) (effect : State → Effect) (c d : Content) (cells new : List Cell) (r : Result A Ending) → Bounds limit (effect (state_of c cells [] [])) → LeavesBoth effect c cells d new r → OnOk r (IsBounded limit d)
leaves_bounded limit effect c d cells new (Ok a) h leaves = next_bounded limit (effect (state_of c cells [] [])) (state_of d new [] []) h (leaves [] [])
leaves_bounded limit effect c d cells new (Err e) h leaves = tt

pub comes_bounded : {A : Type 0} (limit : ℕ) (effect : State → Effect) (c d : Content) (cells new : List Cell) (r : Result A Stop) → Bounds limit (effect (state_of c cells [] [])) → Comes effect c cells d new r → OnOk (settled_as r) (IsBounded limit d)
comes_bounded limit effect c d cells new (Ok a) h comes = next_bounded limit (effect (state_of c cells [] [])) (state_of d new [] []) h (comes [] [])
comes_bounded limit effect c d cells new (Err e) h comes = tt

-- a frame whose parameters were given
pub given_bounded : (limit : ℕ) (s : Setting) → s.given.cells ≡ limit → (types : Types) (f : Function) (vs : List state.Cell) (c d : Content) (cells : List Cell) → IsBounded limit c
    → parameters_given s types f 0 vs (frame f (world_of c [] [])) ≡ Next (state_of d cells [] []) → IsBounded limit d
given_bounded limit s cells_is types f vs c d cells h is =
    next_bounded limit (parameters_given s types f 0 vs (frame f (world_of c [] []))) (state_of d cells [] []) (parameters_bound limit s cells_is types f 0 vs (frame f (world_of c [] [])) h) is

-- ---- all kinds

module _ (limit : ℕ) (s : Setting) (cells_is : s.given.cells ≡ limit) (types : Types) (f : Function) (st : State) (h : IsBounded limit st.world.content) where
  computed_bounds : (r : ℕ) (x : Computed) → Bounds limit (computed_into r x st)
  computed_bounds r (Ok z) = h
  computed_bounds r (Err kind) = tt

  evaluated_bounds : (r : ℕ) (o : Operation) → Bounds limit (evaluated types f r o st)
  evaluated_bounds r (operation.Number z) = h
  evaluated_bounds r (operation.Convert q) = number_bounds limit (cell st q) _ (λ z. h)
  evaluated_bounds r (operation.Negate q) = number_bounds limit (cell st q) _ (λ z. computed_bounds r (negated (type_of types f r) z))
  evaluated_bounds r (operation.IsZero q) = number_bounds limit (cell st q) _ (λ z. computed_bounds r (truth (is_zero z)))
  evaluated_bounds r (operation.Binary operator a b) = number_bounds limit (cell st a) _ (λ x. number_bounds limit (cell st b) _ (λ y. computed_bounds r (combined (type_of types f a) operator x y)))

  taken_bounds : (r : ℕ) (input : List ℤ) → Bounds limit (input_taken r input st)
  taken_bounds r [] = tt
  taken_bounds r (z ∷ zs) = h

  port_bounds : (p : Port) → Bounds limit (port s types f p st)
  port_bounds (Writes r) = number_bounds limit (cell st r) _ (λ z. h)
  port_bounds (WritesView l) = got_bounds limit (used st.world.content (location_cell types f l st)) (λ p. Next (with_output (seen_bytes s.texts st.world.content p) st)) (λ p. h)
  port_bounds (Takes r) = taken_bounds r st.world.input

  pub does_bounds : (i : Step) → StaysPut i → Bounds limit (does s types f i st)
  does_bounds (Live x form) stays = live_bounds limit s cells_is types f (slice_get f.locals x) form x st h
  does_bounds (End xs) stays = ends_bound limit types f xs st h
  does_bounds (Eval r o) stays = evaluated_bounds r o
  does_bounds (Ports p) stays = port_bounds p
  does_bounds (Copy to from) stays = absurd stays
  does_bounds (Move to y) stays = absurd stays
  does_bounds (Load r o) stays = access_bounds limit s types f st h (Load r o) tt
  does_bounds (Save o r) stays = access_bounds limit s types f st h (Save o r) tt
  does_bounds (Aim p x) stays = access_bounds limit s types f st h (Aim p x) tt
  does_bounds (Repoint p q) stays = access_bounds limit s types f st h (Repoint p q) tt
  does_bounds (Element p b w) stays = access_bounds limit s types f st h (Element p b w) tt
  does_bounds (Cursor p b end) stays = cursor_bounds limit s types f st h p b end
  does_bounds (Advance p q r direction) stays = access_bounds limit s types f st h (Advance p q r direction) tt
  does_bounds (Cut p q r count) stays = access_bounds limit s types f st h (Cut p q r count) tt
  does_bounds (Size r b) stays = access_bounds limit s types f st h (Size r b) tt
  does_bounds (Same r a b equal) stays = access_bounds limit s types f st h (Same r a b equal) tt
  does_bounds (Changes o change) stays = absurd stays
  does_bounds (Make u m) stays = absurd stays
  does_bounds (Call target g xs) stays = tt

  pub does_bounded : {A : Type 0} (i : Step) → StaysPut i → (c d : Content) (cells new : List Cell) (r : Result A Ending) → st ≡ state_of c cells [] [] → LeavesBoth (does s types f i) c cells d new r → OnOk r (IsBounded limit d)
  does_bounded i stays c d cells new r is leaves = leaves_bounded limit (does s types f i) c d cells new r (subst (λ (x : State). Bounds limit (does s types f i x)) is (does_bounds i stays)) leaves
