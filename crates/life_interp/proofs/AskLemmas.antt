-- What a test answers of the pointer that it asks.
use Rattle.std.proofs.Common.{◌≡◌, ◌⊎◌, inl, inr, ℕ, Bool, true, false, List, Option, Some, None, refl, sym, ap, ◌∙◌}
use Rattle.std.proofs.lemmas.Option.{none-some}
use Rattle.std.specs.Prelude.{ℤ}
use Rattle.life_core.specs.Function.{Function, Program}
use Rattle.life_core.specs.Linked.{Lead}
use Rattle.life_core.specs.Step.{Test}
use Rattle.life_store.specs.Content.{Content}
use Rattle.life_store.specs.Doing.{Setting}
use Rattle.life_store.specs.Meaning.{Cut, Quit, Stray, by_pointer, pointer_test, test_at}
use Rattle.life_store.specs.State.{Pointer, Null, Wild, To, Static, Cell, Empty, Named, Number, Points, State}
use Rattle.life_cells.specs.Cells.{pointer_in, state_of}
use Rattle.life_cells.proofs.CellLemmas.{points}
use Rattle.life_interp.specs.Accessed.{is_leading}
use Rattle.life_interp.specs.Cells.{world_of}
use Rattle.life_interp.specs.Frames.{function_at, stack_seen}
use Rattle.life_interp.specs.Walk.{Go, chosen, first_way, second_way, way_on}
use Rattle.life_interp.specs.Walking.{asks, from, verdict}
use Rattle.life_interp.specs.declared.frames.Frames.{Frames}

pub none_asked : (o : Option Cell) (n : ℕ) (st : State) → None ≡ pointer_in o → pointer_test o n st ≡ Cut Stray st.world
none_asked None n st e = refl
none_asked (Some Empty) n st e = refl
none_asked (Some (Named m)) n st e = refl
none_asked (Some (Number z)) n st e = refl
none_asked (Some (Points p)) n st e = absurd (none-some p e)

by_leading : (p : Pointer) (n : ℕ) (st : State) → by_pointer p n st ≡ verdict (is_leading p) n st
by_leading Null n st = refl
by_leading Wild n st = refl
by_leading (To t) n st = refl
by_leading (Static c) n st = refl

pub pointer_asked : (o : Option Cell) (p : Pointer) (b : Bool) (n : ℕ) (st : State) → Some p ≡ pointer_in o → b ≡ is_leading p → pointer_test o n st ≡ verdict b n st
pointer_asked o p b n st e is = ap (λ (v : Option Cell). pointer_test v n st) (points o p e) ∙ by_leading p n st ∙ ap (λ x. verdict x n st) (sym is)

-- ---- a test of the frame at hand

module _ (s : Setting) (p : Program) (frames : Frames) (c : Content) (ins : List ℤ) (t : Test) (ls : List Lead) (f : Function) (is : function_at p.functions frames.function ≡ f) where
  asked_by : (go : Go) (n : ℕ) (output : List ℕ) → asks s p frames c ins t ls go n output
      ≡ chosen (go (stack_seen p.functions frames.waiting.items) (function_at p.functions frames.function)) (first_way ls) (second_way ls) (test_at p.types f t n (state_of c frames.cells.items output ins))
  asked_by go n output =
      ap (λ (g : Function). chosen (go (stack_seen p.functions frames.waiting.items) (function_at p.functions frames.function)) (first_way ls) (second_way ls) (test_at p.types g t n (state_of c frames.cells.items output ins))) is

  pub asks_nothing : ((n : ℕ) (output : List ℕ) (input : List ℤ) → test_at p.types f t n (state_of c frames.cells.items output input) ≡ Cut Stray (world_of c output input))
      → (go : Go) (n : ℕ) (output : List ℕ) → asks s p frames c ins t ls go n output ≡ Quit Stray (world_of c output ins)
  asks_nothing h go n output =
      asked_by go n output
      ∙ ap (chosen (go (stack_seen p.functions frames.waiting.items) (function_at p.functions frames.function)) (first_way ls) (second_way ls)) (h n output ins)

  module _ (to : Option ℕ) where
    abbrev gone : Frames
    gone = record frames { point = to }

    asks_first : ((n : ℕ) (output : List ℕ) (input : List ℤ) → test_at p.types f t n (state_of c frames.cells.items output input) ≡ verdict true n (state_of c frames.cells.items output input)) → to ≡ first_way ls
        → (go : Go) (n : ℕ) (output : List ℕ) → asks s p frames c ins t ls go n output ≡ from p.functions gone c ins go n output
    asks_first h e go n output =
        asked_by go n output
        ∙ ap (chosen (go (stack_seen p.functions frames.waiting.items) (function_at p.functions frames.function)) (first_way ls) (second_way ls)) (h n output ins)
        ∙ ap (λ (q : Option ℕ). go (stack_seen p.functions frames.waiting.items) (function_at p.functions frames.function) q (state_of c frames.cells.items output ins)) (sym e)

    asks_second : ((n : ℕ) (output : List ℕ) (input : List ℤ) → test_at p.types f t n (state_of c frames.cells.items output input) ≡ verdict false n (state_of c frames.cells.items output input)) → to ≡ second_way ls
        → (go : Go) (n : ℕ) (output : List ℕ) → asks s p frames c ins t ls go n output ≡ from p.functions gone c ins go n output
    asks_second h e go n output =
        asked_by go n output
        ∙ ap (chosen (go (stack_seen p.functions frames.waiting.items) (function_at p.functions frames.function)) (first_way ls) (second_way ls)) (h n output ins)
        ∙ ap (λ (q : Option ℕ). go (stack_seen p.functions frames.waiting.items) (function_at p.functions frames.function) q (state_of c frames.cells.items output ins)) (sym e)

    pub asks_on : (b : Bool) → ((n : ℕ) (output : List ℕ) (input : List ℤ) → test_at p.types f t n (state_of c frames.cells.items output input) ≡ verdict b n (state_of c frames.cells.items output input)) → to ≡ way_on b ls
        → (go : Go) (n : ℕ) (output : List ℕ) → asks s p frames c ins t ls go n output ≡ from p.functions gone c ins go n output
    asks_on true h e = asks_first h e
    asks_on false h e = asks_second h e

-- ---- it leads on by one of two ways

pub led_on : (b : Bool) (ls : List Lead) (to : Option ℕ) → to ≡ way_on b ls → (to ≡ first_way ls) ⊎ (to ≡ second_way ls)
led_on true ls to e = inl e
led_on false ls to e = inr e
