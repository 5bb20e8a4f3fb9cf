-- No run of a program uses what is null, dangling or moved from.
use Rattle.std.specs.Prelude.{◌≡◌, ℕ, ℤ, List, Some, slice_get}
use Rattle.life_core.specs.Function.{Function, Program}
use Rattle.life_store.specs.Doing.{Given}
use Rattle.life_store.specs.Meaning.{Outcome, Ended, Trap, Fault, OutOfSteps, Lost, IsAdmitted, run_of}

abbrev pub IsNoFault : Outcome → Type 0
IsNoFault (Ended value content) = Unit {0}
IsNoFault (Trap kind place) = Unit {0}
IsNoFault (Fault kind place) = ⊥
IsNoFault (OutOfSteps content) = Unit {0}
IsNoFault Lost = ⊥

-- whatever the entry that is admitted, the input, the growth policy, the limits and the number of steps
abbrev pub NoFault : Program → Type 0
NoFault p = (given : Given) (entry : ℕ) (f : Function) (input : List ℤ) (n : ℕ) → slice_get p.functions entry ≡ Some f → IsAdmitted p f input
    → IsNoFault (run_of given p entry f input n).outcome
