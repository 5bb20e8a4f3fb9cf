-- A call at a point of the frame at hand.
use Rattle.std.proofs.Common.{◌≡◌, ℕ, ◌+◌, ◌<◌, ◌≤◌, List, [], ◌∷◌, map, length, Option, Some, Result, Ok, Err, OnOk, cond, sym, ap, subst, ◌∙◌, arith}
use Rattle.std.proofs.lemmas.Bool.{le-ltb, lt-ltb}
use Rattle.std.proofs.lemmas.List.{length-map, length-reverse}
use Rattle.std.specs.Prelude.{ℤ, slice_get, IfErr}
use Rattle.life_core.specs.Function.{Function, Program}
use Rattle.life_core.specs.Linked.{enter, no_exits}
use Rattle.life_core.specs.Operands.{Argument, Location}
use Rattle.life_core.specs.Step.{Call}
use Rattle.life_core.specs.declared.program.FnId.{FnId}
use Rattle.life_types.specs.declared.place.Place.{Place}
use Rattle.life_store.specs.Doing.{Setting}
use Rattle.life_store.specs.Calls.{all_handed, lent}
use Rattle.life_store.specs.Content.{Content}
use Rattle.life_store.specs.Meaning.{Trapped, Called, Quit}
use Rattle.life_store.specs.State as state
use Rattle.life_store.specs.State.{State}
use Rattle.life_store.specs.declared.run.TrapKind.TheVariants as trap
use Rattle.life_cells.specs.Cells.{cells_seen, state_of}
use Rattle.life_interp.specs.Cells.{world_of}
use Rattle.life_interp.specs.Frames.{function_at, stack_seen, waiting_seen}
use Rattle.life_interp.specs.Steps.{TellsNone}
use Rattle.life_interp.specs.Walk as walk
use Rattle.life_interp.specs.Walk.{Go, called_in, entered_in}
use Rattle.life_interp.specs.Walking.{acts, halt_of, here, Halts, Moves}
use Rattle.life_interp.specs.declared.ending.Ending.{Ending}
use Rattle.life_interp.specs.declared.ending.Ending.TheVariants as ending
use Rattle.life_interp.specs.declared.ending.Halt.{Halt}
use Rattle.life_interp.specs.declared.ending.Halt.TheVariants as halt
use Rattle.life_interp.specs.declared.frames.Frames.{Frames}
use Rattle.life_interp.specs.declared.frames.Waiting.{Waiting}
use Rattle.life_cells.specs.declared.cell.Cell.{Cell}

pub stack_length : (fs : List Function) (ws : List Waiting) → length (stack_seen fs ws) ≡ length ws
stack_length fs ws = length-reverse (map (waiting_seen fs) ws) ∙ length-map ws (waiting_seen fs)

module _ (s : Setting) (p : Program) (frames : Frames) (c : Content) (ins : List ℤ) (target : Option Location) (g : FnId) (xs : List Argument) (place : Place) (to : Option ℕ) where
  abbrev function : Function
  function = function_at p.functions frames.function

  abbrev stack : List walk.Waiting
  stack = stack_seen p.functions frames.waiting.items

  -- what is called, with these values, where the frame waits that has what it lends no more
  abbrev calls : State → Go → List ℕ → Option (List state.Cell) → Called
  calls st go output values =
      called_in s p go stack (record { function = function_at p.functions frames.function; cells = st.cells; place = place; to = to; target = target; arguments = xs }) (world_of c output ins) st.world (slice_get p.functions g.0) values

  -- nothing is handed over
  pub unhanded : (e : Ending) → ((output : List ℕ) → TellsNone (all_handed p.types (function_at p.functions frames.function) (here s p frames c ins output) xs) e) → Halts (acts s p frames c ins (Call target g xs) place to) c ins (halt_of place e)
  unhanded (ending.Trap kind) h = absurd (h [])
  unhanded (ending.Fault kind) h = absurd (h [])
  unhanded ending.Stray h = λ go n output. ap (calls (lent p.types function xs (here s p frames c ins output)) go output) (h output)
  unhanded ending.NoMemory h = tt
  unhanded ending.WriteFault h = h []

  module _ (values : List state.Cell) (handed : (output : List ℕ) → all_handed p.types (function_at p.functions frames.function) (here s p frames c ins output) xs ≡ Some values) where
    pub too_deep : s.given.depth ≤ length frames.waiting.items + 1 → Halts (acts s p frames c ins (Call target g xs) place to) c ins (halt.Trap trap.Depth place)
    too_deep le go n output =
        let st = lent p.types function xs (here s p frames c ins output) in
        let w : walk.Waiting = record { function = function; cells = st.cells; place = place; to = to; target = target; arguments = xs } in
        ap (calls st go output) (handed output)
        ∙ ap (λ b. cond b (entered_in s p go (w ∷ stack) place (world_of c output ins) st.world (slice_get p.functions g.0) values) (Quit (Trapped trap.Depth place) (world_of c output ins)))
        (le-ltb (length (w ∷ stack)) s.given.depth (omega (arith, le, stack_length p.functions frames.waiting.items)))

    module _ (b : Content) (left : List Cell) (lends : (output : List ℕ) → lent p.types (function_at p.functions frames.function) xs (here s p frames c ins output) ≡ state_of b left output ins) (lt : length frames.waiting.items + 1 < s.given.depth) where
      abbrev pub waits : walk.Waiting
      waits = record { function = function_at p.functions frames.function; cells = cells_seen left; place = place; to = to; target = target; arguments = xs }

      pub reaches : (go : Go) (n : ℕ) (output : List ℕ) → acts s p frames c ins (Call target g xs) place to go n output
          ≡ entered_in s p go (waits ∷ stack) place (world_of c output ins) (world_of b output ins) (slice_get p.functions g.0) values
      reaches go n output =
          ap (λ (st : State). calls st go output (all_handed p.types function (here s p frames c ins output) xs)) (lends output)
          ∙ ap (calls (state_of b left output ins) go output) (handed output)
          ∙ ap (λ x. cond x (entered_in s p go (waits ∷ stack) place (world_of c output ins) (world_of b output ins) (slice_get p.functions g.0) values) (Quit (Trapped trap.Depth place) (world_of c output ins)))
          (lt-ltb (length (waits ∷ stack)) s.given.depth (omega (arith, lt, stack_length p.functions frames.waiting.items)))

      -- control doesn't enter
      pub unentered : (h : Halt) → ((ws : List walk.Waiting) (a : Content) (ins : List ℤ) → Halts (λ go n output. entered_in s p go ws place (world_of a output ins) (world_of b output ins) (slice_get p.functions g.0) values) a ins h)
          → Halts (acts s p frames c ins (Call target g xs) place to) c ins h
      unentered (halt.Returned z) k = let stop = k (waits ∷ stack) c ins in (stop.0, stop.1, λ go n output. reaches go n output ∙ stop.2 go n output)
      unentered (halt.Trap kind at) k = λ go n output. reaches go n output ∙ k (waits ∷ stack) c ins go n output
      unentered (halt.Fault kind at) k = λ go n output. reaches go n output ∙ k (waits ∷ stack) c ins go n output
      unentered halt.OutOfSteps k = k (waits ∷ stack) c ins
      unentered halt.Stray k = λ go n output. reaches go n output ∙ k (waits ∷ stack) c ins go n output
      unentered halt.WriteFault k = k (waits ∷ stack) c ins
      unentered halt.NoMemory k = tt

      -- .. or it does
      pub enters : {A : Type 0} (d : Content) (cells : List Cell) (new : Frames) (result : Result A Halt)
          → ((go : Go) (ws : List walk.Waiting) (a : Content) (output : List ℕ) (ins : List ℤ) → entered_in s p go ws place (world_of a output ins) (world_of b output ins) (slice_get p.functions g.0) values
          ≡ go ws (function_at p.functions g.0) (enter (function_at p.functions g.0).body 1 no_exits) (state_of d cells output ins))
          → enter (function_at p.functions g.0).body 1 no_exits ≡ Some 1
          → OnOk result (new.function ≡ g.0) → OnOk result (new.point ≡ Some 1) → OnOk result (new.cells.items ≡ cells)
          → OnOk result ((fs : List Function) → stack_seen fs new.waiting.items
          ≡ record { function = function_at fs frames.function; cells = cells_seen left; place = place; to = to; target = target; arguments = xs } ∷ stack_seen fs frames.waiting.items)
          → IfErr result (λ h. h ≡ halt.NoMemory) → Moves (acts s p frames c ins (Call target g xs) place to) p.functions c new d ins result
      enters d cells new (Err h) goes first number point same stacked memory = subst (Halts (acts s p frames c ins (Call target g xs) place to) c ins) (sym memory) tt
      enters d cells new (Ok a) goes first number point same stacked memory = λ go n output.
          reaches go n output
          ∙ goes go (waits ∷ stack) c output ins
          ∙ ap (λ q. go (waits ∷ stack) (function_at p.functions g.0) q (state_of d cells output ins)) (first ∙ sym point)
          ∙ ap (λ k. go (waits ∷ stack) (function_at p.functions k) new.point (state_of d cells output ins)) (sym number)
          ∙ ap (λ (cs : List Cell). go (waits ∷ stack) (function_at p.functions new.function) new.point (state_of d cs output ins)) (sym same)
          ∙ ap (λ ws. go ws (function_at p.functions new.function) new.point (state_of d new.cells.items output ins)) (sym (stacked p.functions))
