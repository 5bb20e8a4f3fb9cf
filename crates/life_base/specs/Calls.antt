-- Calls that are numbered from 0, of which those with some numbers fail.
use Rattle.std.specs.Prelude.{◌≡◌, ◌+◌, ◌-◌, ◌^◌, ℕ, List, Contains, min}

-- the number of the next call, the numbers of those that fail, and how often one has failed
pub record Calls : Type 0 where
  pub next : ℕ
  pub failing : List ℕ
  pub faults : ℕ

-- before the first call
abbrev pub no_calls : List ℕ → Calls
no_calls failing = record { next = 0; failing = failing; faults = 0 }

-- the next call is one of those that fail
abbrev pub IsNextFailing : Calls → Type 0
IsNextFailing calls = Contains calls.failing calls.next

-- a call was counted, and the number stays at the last one once it is there
pub record CountsCall (old new : Calls) : Type 0 where
  pub counted : new.next ≡ min (old.next + 1) (2 ^ 64 - 1)
  pub kept : new.failing ≡ old.failing
