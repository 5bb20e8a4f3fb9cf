-- What is told of a step that is done at once, or not at all.
use Rattle.std.specs.Prelude.{◌≡◌, ℕ, ℤ, Bool, true, false, List}
use Rattle.std.specs.declared.alloc.Global.{Global}
use Rattle.std.specs.declared.vec.Vec.{Vec}
use Rattle.life_types.specs.Types.{Types}
use Rattle.life_core.specs.Function.{Function, Program}
use Rattle.life_core.specs.Step.{Step}
use Rattle.life_store.specs.Content.{Content}
use Rattle.life_store.specs.Doing.{Setting, does}
use Rattle.life_store.specs.Effects.{Effect, Next}
use Rattle.life_store.specs.References.{Rows}
use Rattle.life_store.specs.State.{State}
use Rattle.life_seen.specs.Housed.{Later}
use Rattle.life_cells.specs.Cells.{state_of}
use Rattle.life_cells.specs.Fits.{meant, IsFit}
use Rattle.life_cells.specs.Scopes.{function_in, texts_in, types_in}
use Rattle.life_cells.specs.declared.cell.Cell.{Cell}
use Rattle.life_cells.specs.declared.scope.Scope.{Scope}
use Rattle.life_interp.specs.Accessed.{StaysPut}
use Rattle.life_interp.specs.Fits.{most_births, Grows}
use Rattle.life_interp.specs.Frames.{function_at}
use Rattle.life_interp.specs.Steps.{IsSet}
use Rattle.life_interp.specs.Walk.{walk, Go}
use Rattle.life_interp.specs.Walking.{from, Doing, IsOwn}
use Rattle.life_interp.specs.declared.frames.Frames.{Frames}

-- what holds where it was done, and where it wasn't
abbrev pub Whether : Bool → Type 0 → Type 0 → Type 0
Whether true done left = done
Whether false done left = left

abbrev pub WhereDone : Bool → Type 0 → Type 0
WhereDone true done = done
WhereDone false done = Unit {0}

-- what is in scope is the program's and that of its function with this number
pub record IsScopeOf (p : Program) (n : ℕ) (s : Scope) : Type 0 where
  pub types : types_in s ≡ p.types
  pub texts : texts_in s ≡ p.texts
  pub function : function_in s ≡ function_at p.functions n

-- an instruction comes to the next state, whatever was written and is to be read
abbrev pub DoesTo : (State → Effect) → Content → List Cell → Content → List Cell → Type 0
DoesTo effect c cells d new = (output : List ℕ) (input : List ℤ) → effect (state_of c cells output input) ≡ Next (state_of d new output input)

-- the cells of a frame and the store are as they were
pub record AreLeft (c d : Content) (before later : Rows) (old new : Vec Cell Global) : Type 0 where
  pub content : d ≡ c
  pub rows : later ≡ before
  pub cells : new ≡ old

-- an instruction is done at once, by a run that is given these limits and texts, or leaves all as it was
pub record Attempts (types : Types) (f : Function) (limit : ℕ) (stand : List (List ℕ)) (i : Step) (c d : Content) (before after : Rows) (old new : Vec Cell Global) (done : Bool) : Type 0 where
  pub step : (s : Setting) → IsSet s limit stand → Whether done (DoesTo (does s types f i) (meant types c before) old.items (meant types d after) new.items) (AreLeft c d before after old new)
  pub fits : IsFit types d after new.items
  pub later : Later c d before after
  pub grows : Grows most_births c d

-- no frame waits for the instruction, and no value goes to another place
pub record IsPlainStep (i : Step) : Type 0 where
  pub own : IsOwn i
  pub stays : StaysPut i

-- a point at which nothing goes in or out is passed
abbrev pub PassesTo : Doing → List Function → Frames → Content → List ℤ → Type 0
PassesTo at fs new d ins = (go : Go) (n : ℕ) (output : List ℕ) → at go n output ≡ from fs new d ins go n output

-- the frames and the store are as they were
pub record FramesLeft (c d : Content) (before later : Rows) (old new : Frames) : Type 0 where
  pub content : d ≡ c
  pub rows : later ≡ before
  pub frames : new ≡ old

-- what is left of a walk goes on from other frames, with fewer steps
abbrev pub WalksOn : Setting → Program → ℕ → Frames → Content → ℕ → Frames → Content → Type 0
WalksOn s p steps frames c left new d =
    (ins : List ℤ) (output : List ℕ) → from p.functions frames c ins (walk s p steps) steps output ≡ from p.functions new d ins (walk s p left) left output
