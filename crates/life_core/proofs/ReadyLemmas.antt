-- Lists of locals in two parts, and what is there behind what goes in or out.
use Rattle.std.proofs.Common.{◌≡◌, ℕ, Bool, true, List, [], ◌∷◌, ◌++◌, slice_set, refl}
use Rattle.std.proofs.lemmas.Bool.{false≢true}
use Rattle.life_core.specs.Ready.{Ready, AreBits}
use Rattle.life_core.specs.Step.{Port, Takes}

-- ---- two lists

pub bits_left : (there : Bool) (bits : Ready) (xs ys : List ℕ) → AreBits there bits (xs ++ ys) → AreBits there bits xs
bits_left there bits [] ys h = tt
bits_left there bits (x ∷ xs) ys h = (h.0, bits_left there bits xs ys h.1)

pub bits_right : (there : Bool) (bits : Ready) (xs ys : List ℕ) → AreBits there bits (xs ++ ys) → AreBits there bits ys
bits_right there bits [] ys h = h
bits_right there bits (x ∷ xs) ys h = bits_right there bits xs ys h.1

-- ---- what goes in or out

abbrev pub port_behind : Port → Ready → Ready
port_behind (Takes r) bits = slice_set bits r true
port_behind _ bits = bits
