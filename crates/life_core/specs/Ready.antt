-- Which locals are there: a bit for each, in the order of their numbers. An object is there from its birth to its end, and a register from where it is
-- written on. What it holds then hangs on its type and its kind alone.
use Rattle.std.specs.Prelude.{◌≡◌, ℕ, zero, suc, Bool, true, false, List, [], ◌∷◌, Some, slice_get, slice_set}
use Rattle.life_core.specs.declared.program.Local.{Local}
use Rattle.life_core.specs.Function.{Function}

abbrev pub Ready : Type 0
Ready = List Bool

-- at the entry: so many parameters are there, and nothing else is
abbrev pub given_ready : ℕ → List Local → Ready
given_ready n [] = []
given_ready zero (l ∷ ls) = false ∷ given_ready zero ls
given_ready (suc n) (l ∷ ls) = true ∷ given_ready n ls

abbrev pub entry_ready : Function → Ready
entry_ready f = given_ready f.parameters f.locals

-- ---- what is asked of them

-- the local is there, or isn't
abbrev pub IsBit : Ready → ℕ → Bool → Type 0
IsBit bits x there = slice_get bits x ≡ Some there

abbrev pub IsThere : Ready → ℕ → Type 0
IsThere bits x = IsBit bits x true

-- all of them are, or none is
abbrev pub AreBits : Bool → Ready → List ℕ → Type 0
AreBits there bits [] = Unit {0}
AreBits there bits (x ∷ xs) = IsBit bits x there × AreBits there bits xs

-- one after the other: none goes twice, and none that isn't there
abbrev pub CanLeave : Ready → List ℕ → Type 0
CanLeave bits [] = Unit {0}
CanLeave bits (x ∷ xs) = IsThere bits x × CanLeave (slice_set bits x false) xs

-- ---- what becomes of them

abbrev pub set_bits : Bool → List ℕ → Ready → Ready
set_bits there [] bits = bits
set_bits there (x ∷ xs) bits = set_bits there xs (slice_set bits x there)
