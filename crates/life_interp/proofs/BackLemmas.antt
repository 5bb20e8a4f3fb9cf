-- A function is left, and the frame that waits for it goes on.
use Rattle.std.proofs.Common.{◌≡◌, ℕ, zero, suc, ◌+◌, List, [], ◌∷◌, ◌++◌, length, map, Option, refl, ap, ◌∙◌}
use Rattle.std.specs.Prelude.{ℤ, option_map, slice_get}
use Rattle.life_types.specs.Types.{Types}
use Rattle.life_core.specs.Function.{Function, Program}
use Rattle.life_core.specs.Holdings.{result_sort}
use Rattle.life_core.specs.Operands.{argument_of, location_of}
use Rattle.life_store.specs.Doing.{Setting, Next, cell}
use Rattle.life_store.specs.Calls.{given_back, results, slot_back, slot_count, slots_back, taken_back}
use Rattle.life_store.specs.State as state
use Rattle.life_store.specs.State.{State}
use Rattle.life_store.specs.Content.{Content}
use Rattle.life_store.specs.Meaning.{Back}
use Rattle.life_interp.specs.Cells.{one_seen, world_of}
use Rattle.life_cells.specs.Cells.{cells_seen, state_of}
use Rattle.life_interp.specs.Frames.{function_at, stack_seen}
use Rattle.life_interp.specs.Returning.{back_given}
use Rattle.life_interp.specs.Steps.{TellsEnd}
use Rattle.life_interp.specs.Walk.{Go, back, moved}
use Rattle.life_interp.specs.Walking.{halt_of, here, returns, Halts}
use Rattle.life_interp.specs.declared.ending.Ending.{Ending}
use Rattle.life_interp.specs.declared.ending.Ending.TheVariants as ending
use Rattle.life_interp.specs.declared.frames.Frames.{Frames}
use Rattle.life_interp.specs.declared.frames.Waiting.{Waiting}
use Rattle.life_cells.specs.declared.cell.Cell.{Cell}
use Rattle.life_interp.proofs.FrameLemmas.{stack_push}
use Rattle.life_interp.proofs.SlotReturns.{IsFor, taken_is}

-- the result, as the machine has it
pub back_is : (types : Types) (f : Function) (c : Content) (seen cells : List Cell) (given : Option Cell) → seen ≡ cells
    → one_seen given ≡ given_back (slice_get types.types f.result.0) (result_sort types f) (slice_get (cells_seen seen) f.parameters) → (output : List ℕ) (ins : List ℤ) → one_seen given ≡ given_back (slice_get types.types f.result.0) (result_sort types f) (cell (state_of c cells output ins) f.parameters)
back_is types f c seen cells given same is output ins =
    is ∙ ap (λ (cs : List Cell). given_back (slice_get types.types f.result.0) (result_sort types f) (slice_get (cells_seen cs) f.parameters)) same

-- what was written doesn't matter to it
slots_alike : (types : Types) (f : Function) (x n : ℕ) (st st' : State) → st.cells ≡ st'.cells → slots_back types f x n st ≡ slots_back types f x n st'
slots_alike types f x zero st st' same = refl
slots_alike types f x (suc n) st st' same =
    let more = slots_alike types f (x + 1) n st st' same in
    λ i. slot_back types (slice_get f.locals x) (slice_get (same i) x) ++ more i

results_alike : (types : Types) (f : Function) (c : Content) (cells : List Cell) (output : List ℕ) (ins : List ℤ) → results types f (state_of c cells output ins) ≡ results types f (state_of c cells [] ins)
results_alike types f c cells output ins =
    ap (λ (vs : List state.Cell). given_back (slice_get types.types f.result.0) (result_sort types f) (slice_get (cells_seen cells) f.parameters) ++ vs)
    (slots_alike types f 0 f.parameters (state_of c cells output ins) (state_of c cells [] ins) refl)

module _ (s : Setting) (p : Program) (frames : Frames) (c : Content) (ins : List ℤ) (f : Function) (is : function_at p.functions frames.function ≡ f) where
  -- the entry is left
  pub leaves_last : frames.waiting.items ≡ [] → (go : Go) (n : ℕ) (output : List ℕ) → returns s p frames c ins go n output ≡ Back n (world_of c output ins) (results p.types f (state_of c frames.cells.items [] ins))
  leaves_last none go n output =
      ap (λ (k : Function). back s p go (stack_seen p.functions frames.waiting.items) n (world_of c output ins) (results p.types k (here s p frames c ins output))) is
      ∙ ap (λ (ws : List Waiting). back s p go (stack_seen p.functions ws) n (world_of c output ins) (results p.types f (here s p frames c ins output))) none
      ∙ ap (λ (vs : List state.Cell). Back n (world_of c output ins) vs) (results_alike p.types f c frames.cells.items output ins)

  module _ (first others : List state.Cell) (gives : (output : List ℕ) → results p.types f (here s p frames c ins output) ≡ first ++ others)
      (ws : List Waiting) (w : Waiting) (stacked : frames.waiting.items ≡ ws ++ w ∷ []) (k : Function) (there : function_at p.functions w.function ≡ k) (many : length others ≡ slot_count (map argument_of w.arguments.now)) (one : IsFor (option_map location_of w.target.now) first) where
    comes_to : (go : Go) (n : ℕ) (output : List ℕ) → returns s p frames c ins go n output
        ≡ moved (go (stack_seen p.functions ws) (function_at p.functions w.function) w.to) w.place (world_of c output ins)
        (back_given s p.types k (map argument_of w.arguments.now) others (option_map location_of w.target.now) first (state_of c w.cells.items output ins))
    comes_to go n output =
        ap (λ (h : Function). back s p go (stack_seen p.functions frames.waiting.items) n (world_of c output ins) (results p.types h (here s p frames c ins output))) is
        ∙ ap (back s p go (stack_seen p.functions frames.waiting.items) n (world_of c output ins)) (gives output)
        ∙ ap (λ (vs : List Waiting). back s p go (stack_seen p.functions vs) n (world_of c output ins) (first ++ others)) stacked
        ∙ ap (λ vs. back s p go vs n (world_of c output ins) (first ++ others)) (stack_push p.functions ws w)
        ∙ ap (λ (h : Function). moved (go (stack_seen p.functions ws) (function_at p.functions w.function) w.to) w.place (world_of c output ins)
        (taken_back s p.types h (option_map location_of w.target.now) (map argument_of w.arguments.now) (first ++ others) (state_of c w.cells.items output ins))) there
        ∙ ap (moved (go (stack_seen p.functions ws) (function_at p.functions w.function) w.to) w.place (world_of c output ins))
        (taken_is s p.types k (option_map location_of w.target.now) (map argument_of w.arguments.now) first others (state_of c w.cells.items output ins) many one)

    pub back_halts : (e : Ending) → ((output : List ℕ) (input : List ℤ) → TellsEnd (back_given s p.types k (map argument_of w.arguments.now) others (option_map location_of w.target.now) first (state_of c w.cells.items output input)) e)
        → Halts (returns s p frames c ins) c ins (halt_of w.place e)
    back_halts (ending.Trap kind) h = λ go n output. comes_to go n output ∙ ap (moved (go (stack_seen p.functions ws) (function_at p.functions w.function) w.to) w.place (world_of c output ins)) (h output ins)
    back_halts (ending.Fault kind) h = λ go n output. comes_to go n output ∙ ap (moved (go (stack_seen p.functions ws) (function_at p.functions w.function) w.to) w.place (world_of c output ins)) (h output ins)
    back_halts ending.Stray h = λ go n output. comes_to go n output ∙ ap (moved (go (stack_seen p.functions ws) (function_at p.functions w.function) w.to) w.place (world_of c output ins)) (h output ins)
    back_halts ending.NoMemory h = tt
    back_halts ending.WriteFault h = h [] []

    pub back_goes : (d : Content) (cells : List Cell)
        → ((output : List ℕ) (input : List ℤ) → back_given s p.types k (map argument_of w.arguments.now) others (option_map location_of w.target.now) first (state_of c w.cells.items output input) ≡ Next (state_of d cells output input))
        → (go : Go) (n : ℕ) (output : List ℕ) → returns s p frames c ins go n output ≡ go (stack_seen p.functions ws) (function_at p.functions w.function) w.to (state_of d cells output ins)
    back_goes d cells h go n output =
        comes_to go n output ∙ ap (moved (go (stack_seen p.functions ws) (function_at p.functions w.function) w.to) w.place (world_of c output ins)) (h output ins)
