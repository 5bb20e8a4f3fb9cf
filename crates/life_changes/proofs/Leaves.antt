-- A value has no more parts than words.
use Rattle.std.proofs.Common.{ℕ, ◌+◌, ◌≤◌, length, arith, length-append}
use Rattle.life_store.specs.Parts.{Parts, Single, Raw, Iterates, Views, Text, Vector, Unique, Member, NoMember, width}
use Rattle.life_values.specs.Layouts.{flat}

pub flat_short : (p : Parts) (w : ℕ) → length (flat w p) ≤ width p
flat_short Single w = omega arith
flat_short Raw w = omega arith
flat_short Iterates w = omega arith
flat_short Views w = omega arith
flat_short (Text ty) w = omega arith
flat_short (Vector ty element) w = omega arith
flat_short (Unique ty target) w = omega arith
flat_short (Member first others) w =
    let a = length-append (flat w first) (flat (w + width first) others) in
    let i = flat_short first w in
    let k = flat_short others (w + width first) in omega (arith, a, i, k)
flat_short NoMember w = omega arith
