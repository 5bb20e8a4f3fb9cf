-- What is done at a point is what the walk does there.
use Rattle.std.proofs.Common.{◌≡◌, ◌<◌, ℕ, List, [], ◌++◌, length, map, Option, Some, Result, Ok, Err, refl, sym, ap, ◌∙◌, append-nil}
use Rattle.std.specs.declared.alloc.Global.{Global}
use Rattle.std.specs.declared.vec.Vec.{Vec}
use Rattle.std.specs.Prelude.{ℤ, option_and_then, option_map, slice_get}
use Rattle.life_core.specs.Function.{Function, Program, function_of}
use Rattle.life_core.specs.Link.{link_seen}
use Rattle.life_core.specs.Linked.{Linked, code_of, numbered}
use Rattle.life_core.specs.Tree.{Node}
use Rattle.life_core.specs.declared.link.LinkRef.{LinkRef}
use Rattle.life_core.specs.declared.program.CoreFn.{CoreFn}
use Rattle.life_core.specs.Step.{Step, Live, End, Eval, Load, Save, Copy, Move, Aim, Repoint, Element, Cursor, Advance, Cut, Size, Same, Changes, Make, Call, Ports, step_of}
use Rattle.life_core.specs.declared.instr.Instr.{Instr}
use Rattle.life_core.specs.declared.instr.Instr.TheVariants as instrs
use Rattle.life_core.specs.declared.operand.Argument.{Argument}
use Rattle.life_core.specs.declared.operand.Location.{Location}
use Rattle.life_core.specs.declared.program.FnId.{FnId}
use Rattle.life_types.specs.declared.place.Place.{Place}
use Rattle.life_store.specs.Content.{Content}
use Rattle.life_store.specs.Doing.{Setting, Next, does}
use Rattle.life_cells.specs.Cells.{state_of}
use Rattle.life_interp.specs.Cells.{world_of}
use Rattle.life_interp.specs.Frames.{function_at, point_at, stack_seen}
use Rattle.life_interp.specs.Runs.{links_seen}
use Rattle.life_interp.specs.Walk.{Go, at_node, at_point, moved}
use Rattle.life_interp.specs.Walking.{acts, from, halt_of, here, passes, Doing, IsOwn, Moves, PointEnds, PointLeads, StepEnds, Sunk, Takes}
use Rattle.life_interp.specs.declared.ending.Ending.{Ending}
use Rattle.life_interp.specs.declared.ending.Ending.TheVariants as ending
use Rattle.life_interp.specs.declared.ending.Halt.{Halt}
use Rattle.life_interp.specs.declared.ending.Halt.TheVariants as halt
use Rattle.life_interp.specs.declared.frames.Frames.{Frames}
use Rattle.life_cells.specs.declared.cell.Cell.{Cell}
use Rattle.life_interp.proofs.CodeLists.{code_at, there_at}

-- what isn't a call
pub own_else : (i : Instr) → ((target : Option Location) (f : FnId) (xs : Vec Argument Global) → i ≡ instrs.Call target f xs → ⊥) → IsOwn (step_of i)
own_else (instrs.Live x form) h = tt
own_else (instrs.End xs) h = tt
own_else (instrs.Eval r operation) h = tt
own_else (instrs.Load r o) h = tt
own_else (instrs.Save o r) h = tt
own_else (instrs.Copy to from) h = tt
own_else (instrs.Move to y) h = tt
own_else (instrs.Aim p s) h = tt
own_else (instrs.Repoint p q) h = tt
own_else (instrs.Element p b which) h = tt
own_else (instrs.Cursor p b end) h = tt
own_else (instrs.Advance p q r direction) h = tt
own_else (instrs.Cut p q r count) h = tt
own_else (instrs.Size r b) h = tt
own_else (instrs.Same r a b equal) h = tt
own_else (instrs.Change o c) h = tt
own_else (instrs.Make u made) h = tt
own_else (instrs.Call target f xs) h = h target f xs refl
own_else (instrs.Port port) h = tt

-- a point at which nothing goes in or out
pub leads_quiet : {A : Type 0} (at : Doing) (fs : List Function) (c : Content) (ins : List ℤ) (new : Frames) (d : Content) (k : Sunk) (result : Result A Halt) → Takes k [] → Moves at fs c new d ins result
    → PointLeads at fs c ins new d ins k result
leads_quiet at fs c ins new d k (Ok a) takes h = ([], takes, λ go n output. h go n output ∙ ap (λ o. from fs new d ins go n o) (sym (append-nil output)))
leads_quiet at fs c ins new d k (Err (halt.Returned z)) takes h = (takes, h)
leads_quiet at fs c ins new d k (Err (halt.Trap kind place)) takes h = (takes, h)
leads_quiet at fs c ins new d k (Err (halt.Fault kind place)) takes h = (takes, h)
leads_quiet at fs c ins new d k (Err halt.OutOfSteps) takes h = h
leads_quiet at fs c ins new d k (Err halt.Stray) takes h = (takes, h)
leads_quiet at fs c ins new d k (Err halt.WriteFault) takes h = absurd h
leads_quiet at fs c ins new d k (Err halt.NoMemory) takes h = takes

module _ (s : Setting) (p : Program) (frames : Frames) (c : Content) (ins : List ℤ) (place : Place) (to : Option ℕ) where
  own_acts : (i : Step) → IsOwn i → (go : Go) (n : ℕ) (output : List ℕ) → acts s p frames c ins i place to go n output
      ≡ moved (go (stack_seen p.functions frames.waiting.items) (function_at p.functions frames.function) to) place (world_of c output ins) (does s p.types (function_at p.functions frames.function) i (here s p frames c ins output))
  own_acts (Live x form) own go n output = refl
  own_acts (End xs) own go n output = refl
  own_acts (Eval r operation) own go n output = refl
  own_acts (Load r o) own go n output = refl
  own_acts (Save o r) own go n output = refl
  own_acts (Copy a b) own go n output = refl
  own_acts (Move a y) own go n output = refl
  own_acts (Aim q source) own go n output = refl
  own_acts (Repoint q r) own go n output = refl
  own_acts (Element q b which) own go n output = refl
  own_acts (Cursor q b end) own go n output = refl
  own_acts (Advance q r k direction) own go n output = refl
  own_acts (Cut q r k count) own go n output = refl
  own_acts (Size r b) own go n output = refl
  own_acts (Same r a b equal) own go n output = refl
  own_acts (Changes o change) own go n output = refl
  own_acts (Make u made) own go n output = refl
  own_acts (Ports gate) own go n output = refl
  own_acts (Call target g xs) own go n output = absurd own

  module _ (i : Step) (own : IsOwn i) (f : Function) (is : function_at p.functions frames.function ≡ f) where
    goes_by : (go : Go) (n : ℕ) (output : List ℕ) → acts s p frames c ins i place to go n output
        ≡ moved (go (stack_seen p.functions frames.waiting.items) (function_at p.functions frames.function) to) place (world_of c output ins) (does s p.types f i (here s p frames c ins output))
    goes_by go n output =
        own_acts i own go n output
        ∙ ap (λ k. moved (go (stack_seen p.functions frames.waiting.items) (function_at p.functions frames.function) to) place (world_of c output ins) (does s p.types k i (here s p frames c ins output))) is

    pub act_goes : (d : Content) (new : List Cell) (rest : List ℤ) (text : List ℕ) → ((output : List ℕ) → does s p.types f i (state_of c frames.cells.items output ins) ≡ Next (state_of d new (output ++ text) rest))
        → (go : Go) (n : ℕ) (output : List ℕ) → acts s p frames c ins i place to go n output
        ≡ go (stack_seen p.functions frames.waiting.items) (function_at p.functions frames.function) to (state_of d new (output ++ text) rest)
    act_goes d new rest text h go n output =
        goes_by go n output ∙ ap (moved (go (stack_seen p.functions frames.waiting.items) (function_at p.functions frames.function) to) place (world_of c output ins)) (h output)

    pub act_ends : (k : Sunk) (e : Ending) → StepEnds (does s p.types f i) c frames.cells.items ins k e → PointEnds (acts s p frames c ins i place to) p.functions c ins k (halt_of place e)
    act_ends k (ending.Trap kind) h = (h.0, λ go n output. goes_by go n output ∙ ap (moved (go (stack_seen p.functions frames.waiting.items) (function_at p.functions frames.function) to) place (world_of c output ins)) (h.1 output))
    act_ends k (ending.Fault kind) h = (h.0, λ go n output. goes_by go n output ∙ ap (moved (go (stack_seen p.functions frames.waiting.items) (function_at p.functions frames.function) to) place (world_of c output ins)) (h.1 output))
    act_ends k ending.Stray h = (h.0, λ go n output. goes_by go n output ∙ ap (moved (go (stack_seen p.functions frames.waiting.items) (function_at p.functions frames.function) to) place (world_of c output ins)) (h.1 output))
    act_ends k ending.NoMemory h = h
    act_ends k ending.WriteFault h = (h.0, record frames { point = to }, h.1, act_goes c frames.cells.items ins h.0 h.2)

-- ---- the point of the frame at hand

-- what is done is another thing
pub leads_as : {A : Type 0} (at other : Doing) (fs : List Function) (c : Content) (ins : List ℤ) (new : Frames) (d : Content) (rest : List ℤ) (k : Sunk) (result : Result A Halt)
    → ((go : Go) (n : ℕ) (output : List ℕ) → at go n output ≡ other go n output) → PointLeads other fs c ins new d rest k result → PointLeads at fs c ins new d rest k result
leads_as at other fs c ins new d rest k (Ok a) e h = (h.0, h.1, λ go n output. e go n output ∙ h.2 go n output)
leads_as at other fs c ins new d rest k (Err (halt.Returned z)) e h = (h.0, (h.1.0, h.1.1, λ go n output. e go n output ∙ h.1.2 go n output))
leads_as at other fs c ins new d rest k (Err (halt.Trap kind place)) e h = (h.0, λ go n output. e go n output ∙ h.1 go n output)
leads_as at other fs c ins new d rest k (Err (halt.Fault kind place)) e h = (h.0, λ go n output. e go n output ∙ h.1 go n output)
leads_as at other fs c ins new d rest k (Err halt.OutOfSteps) e h = h
leads_as at other fs c ins new d rest k (Err halt.Stray) e h = (h.0, λ go n output. e go n output ∙ h.1 go n output)
leads_as at other fs c ins new d rest k (Err halt.WriteFault) e h = (h.0, h.1, h.2, λ go n output. e go n output ∙ h.3 go n output)
leads_as at other fs c ins new d rest k (Err halt.NoMemory) e h = h

module _ (p : Program) (frames : Frames) (codes : List (Vec LinkRef Global)) (functions : List CoreFn) (linked : map links_seen codes ≡ map code_of (map function_of functions)) (fs : p.functions ≡ map function_of functions)
    (lt : frames.function < length p.functions) (v : Vec LinkRef Global) (there : slice_get codes frames.function ≡ Some v) (links : List LinkRef) (value : links ≡ v.items) where
  pub code_seen : map link_seen links ≡ code_of (function_at p.functions frames.function)
  code_seen =
      ap (λ (ls : List LinkRef). map link_seen ls) value
      ∙ code_at codes p.functions frames.function v (function_at p.functions frames.function) (linked ∙ ap (λ (gs : List Function). map code_of gs) (sym fs)) there (there_at p.functions frames.function lt)

  pub point_seen : (found : Option LinkRef) → option_map link_seen found ≡ option_and_then (numbered (map link_seen links)) frames.point → point_at p.functions frames ≡ option_map link_seen found
  point_seen found e = sym (e ∙ ap (λ (code : List Linked). option_and_then (numbered code) frames.point) code_seen)

module _ (s : Setting) (p : Program) (frames : Frames) (c : Content) (ins : List ℤ) where
  pub passes_at : (o : Option Linked) → point_at p.functions frames ≡ o → (go : Go) (n : ℕ) (output : List ℕ)
      → passes s p frames c ins go n output ≡ at_point s p go (stack_seen p.functions frames.waiting.items) (function_at p.functions frames.function) o n (here s p frames c ins output)
  passes_at o e go n output = ap (λ q. at_point s p go (stack_seen p.functions frames.waiting.items) (function_at p.functions frames.function) q n (here s p frames c ins output)) e

  pub passes_node : (l : Linked) (node : Node) → point_at p.functions frames ≡ Some l → l.spot.node ≡ node → (go : Go) (n : ℕ) (output : List ℕ)
      → passes s p frames c ins go n output ≡ at_node s p go (stack_seen p.functions frames.waiting.items) (function_at p.functions frames.function) node l.spot.place l.leads n (here s p frames c ins output)
  passes_node l node e is go n output =
      passes_at (Some l) e go n output
      ∙ ap (λ x. at_node s p go (stack_seen p.functions frames.waiting.items) (function_at p.functions frames.function) x l.spot.place l.leads n (here s p frames c ins output)) is
