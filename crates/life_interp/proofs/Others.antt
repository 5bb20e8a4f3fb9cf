-- Which instructions reach what lies in a store, and which leave values where they are.
use Rattle.std.proofs.Common.{◌≡◌, ℕ, Bool, Option, refl}
use Rattle.std.specs.declared.alloc.Global.{Global}
use Rattle.std.specs.declared.vec.Vec.{Vec}
use Rattle.life_types.specs.Types.{Types}
use Rattle.life_core.specs.Function.{Function}
use Rattle.life_core.specs.Step.{step_of}
use Rattle.life_core.specs.declared.instr.Change.{Change}
use Rattle.life_core.specs.declared.instr.Direction.{Direction}
use Rattle.life_core.specs.declared.instr.Form.{Form}
use Rattle.life_core.specs.declared.instr.Instr.{Instr}
use Rattle.life_core.specs.declared.instr.Instr.TheVariants as instrs
use Rattle.life_core.specs.declared.instr.Made.{Made}
use Rattle.life_core.specs.declared.instr.Port.{Port}
use Rattle.life_core.specs.declared.operand.Base.{Base}
use Rattle.life_core.specs.declared.operand.Location.{Location}
use Rattle.life_core.specs.declared.operand.Operand.{Operand}
use Rattle.life_core.specs.declared.operand.RangeEnd.{RangeEnd}
use Rattle.life_core.specs.declared.operand.Source.{Source}
use Rattle.life_core.specs.declared.operand.Which.{Which}
use Rattle.life_core.specs.declared.operation.Operation.{Operation}
use Rattle.life_store.specs.Doing.{Setting, Strays, does}
use Rattle.life_store.specs.State.{State}
use Rattle.life_interp.specs.Accessed.{IsAccess, StaysPut}

module _ (s : Setting) (types : Types) (f : Function) (st : State) where
  pub others_stray : (i : Instr) → IsAccess (step_of i)
      → ((r : ℕ) (o : Operand) → i ≡ instrs.Load r o → ⊥)
      → ((o : Operand) (r : ℕ) → i ≡ instrs.Save o r → ⊥)
      → ((p : Location) (x : Source) → i ≡ instrs.Aim p x → ⊥)
      → ((p q : Location) → i ≡ instrs.Repoint p q → ⊥)
      → ((p : Location) (b : Base) (which : Which) → i ≡ instrs.Element p b which → ⊥)
      → ((p q : Location) (r : ℕ) (direction : Direction) → i ≡ instrs.Advance p q r direction → ⊥)
      → ((p q : Location) (r : ℕ) (count : Option ℕ) → i ≡ instrs.Cut p q r count → ⊥)
      → ((r : ℕ) (b : Base) → i ≡ instrs.Size r b → ⊥)
      → ((r : ℕ) (a b : Location) (equal : Bool) → i ≡ instrs.Same r a b equal → ⊥)
      → does s types f (step_of i) st ≡ Strays
  others_stray (instrs.Live x form) access load save aim repoint element advance cut size same = absurd access
  others_stray (instrs.End xs) access load save aim repoint element advance cut size same = absurd access
  others_stray (instrs.Eval r operation) access load save aim repoint element advance cut size same = absurd access
  others_stray (instrs.Load r o) access load save aim repoint element advance cut size same = absurd (load r o refl)
  others_stray (instrs.Save o r) access load save aim repoint element advance cut size same = absurd (save o r refl)
  others_stray (instrs.Copy to from) access load save aim repoint element advance cut size same = absurd access
  others_stray (instrs.Move to y) access load save aim repoint element advance cut size same = absurd access
  others_stray (instrs.Aim p x) access load save aim repoint element advance cut size same = absurd (aim p x refl)
  others_stray (instrs.Repoint p q) access load save aim repoint element advance cut size same = absurd (repoint p q refl)
  others_stray (instrs.Element p b which) access load save aim repoint element advance cut size same = absurd (element p b which refl)
  others_stray (instrs.Cursor p b end) access load save aim repoint element advance cut size same = absurd access
  others_stray (instrs.Advance p q r direction) access load save aim repoint element advance cut size same = absurd (advance p q r direction refl)
  others_stray (instrs.Cut p q r count) access load save aim repoint element advance cut size same = absurd (cut p q r count refl)
  others_stray (instrs.Size r b) access load save aim repoint element advance cut size same = absurd (size r b refl)
  others_stray (instrs.Same r a b equal) access load save aim repoint element advance cut size same = absurd (same r a b equal refl)
  others_stray (instrs.Change o change) access load save aim repoint element advance cut size same = absurd access
  others_stray (instrs.Make u made) access load save aim repoint element advance cut size same = absurd access
  others_stray (instrs.Call target g xs) access load save aim repoint element advance cut size same = refl
  others_stray (instrs.Port port) access load save aim repoint element advance cut size same = absurd access

-- what the machine does by a function of its own
pub access_else : (i : Instr) → ((x : ℕ) (form : Form) → i ≡ instrs.Live x form → ⊥) → ((xs : Vec ℕ Global) → i ≡ instrs.End xs → ⊥) → ((r : ℕ) (operation : Operation) → i ≡ instrs.Eval r operation → ⊥) → ((port : Port) → i ≡ instrs.Port port → ⊥) → ((to from : Operand) → i ≡ instrs.Copy to from → ⊥) → ((to : Operand) (y : ℕ) → i ≡ instrs.Move to y → ⊥) → ((p : Location) (b : Base) (end : RangeEnd) → i ≡ instrs.Cursor p b end → ⊥) → ((u : Location) (m : Made) → i ≡ instrs.Make u m → ⊥) → ((o : Operand) (c : Change) → i ≡ instrs.Change o c → ⊥) → IsAccess (step_of i)
access_else (instrs.Live x form) live end eval ports copy move cursor make change = live x form refl
access_else (instrs.End xs) live end eval ports copy move cursor make change = end xs refl
access_else (instrs.Eval r operation) live end eval ports copy move cursor make change = eval r operation refl
access_else (instrs.Load r o) live end eval ports copy move cursor make change = tt
access_else (instrs.Save o r) live end eval ports copy move cursor make change = tt
access_else (instrs.Copy to from) live end eval ports copy move cursor make change = absurd (copy to from refl)
access_else (instrs.Move to y) live end eval ports copy move cursor make change = absurd (move to y refl)
access_else (instrs.Aim p x) live end eval ports copy move cursor make change = tt
access_else (instrs.Repoint p q) live end eval ports copy move cursor make change = tt
access_else (instrs.Element p b which) live end eval ports copy move cursor make change = tt
access_else (instrs.Cursor p b last) live end eval ports copy move cursor make change = absurd (cursor p b last refl)
access_else (instrs.Advance p q r direction) live end eval ports copy move cursor make change = tt
access_else (instrs.Cut p q r count) live end eval ports copy move cursor make change = tt
access_else (instrs.Size r b) live end eval ports copy move cursor make change = tt
access_else (instrs.Same r a b equal) live end eval ports copy move cursor make change = tt
access_else (instrs.Change o c) live end eval ports copy move cursor make change = absurd (change o c refl)
access_else (instrs.Make u made) live end eval ports copy move cursor make change = absurd (make u made refl)
access_else (instrs.Call target g xs) live end eval ports copy move cursor make change = tt
access_else (instrs.Port port) live end eval ports copy move cursor make change = ports port refl

-- what is no copy, no move and no change of what an owner owns leaves values where they are
pub stays_else : (i : Instr) → ((to from : Operand) → i ≡ instrs.Copy to from → ⊥) → ((to : Operand) (y : ℕ) → i ≡ instrs.Move to y → ⊥) → ((u : Location) (m : Made) → i ≡ instrs.Make u m → ⊥) → ((o : Operand) (c : Change) → i ≡ instrs.Change o c → ⊥) → StaysPut (step_of i)
stays_else (instrs.Live x form) copy move make change = tt
stays_else (instrs.End xs) copy move make change = tt
stays_else (instrs.Eval r operation) copy move make change = tt
stays_else (instrs.Load r o) copy move make change = tt
stays_else (instrs.Save o r) copy move make change = tt
stays_else (instrs.Copy to from) copy move make change = absurd (copy to from refl)
stays_else (instrs.Move to y) copy move make change = absurd (move to y refl)
stays_else (instrs.Aim p x) copy move make change = tt
stays_else (instrs.Repoint p q) copy move make change = tt
stays_else (instrs.Element p b which) copy move make change = tt
stays_else (instrs.Cursor p b last) copy move make change = tt
stays_else (instrs.Advance p q r direction) copy move make change = tt
stays_else (instrs.Cut p q r count) copy move make change = tt
stays_else (instrs.Size r b) copy move make change = tt
stays_else (instrs.Same r a b equal) copy move make change = tt
stays_else (instrs.Change o c) copy move make change = absurd (change o c refl)
stays_else (instrs.Make u made) copy move make change = absurd (make u made refl)
stays_else (instrs.Call target g xs) copy move make change = tt
stays_else (instrs.Port port) copy move make change = tt
