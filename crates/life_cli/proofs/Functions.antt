-- The functions of a program, and how many they are.
use Rattle.std.proofs.Common.{◌≡◌, ◌<◌, ◌≤◌, ◌^◌, ℕ, List, length, map, arith, sym, ◌∙◌}
use Rattle.std.proofs.lemmas.List.{length-map}
use Rattle.life_core.specs.Function.{function_of}
use Rattle.life_core.specs.declared.program.CoreFn.{CoreFn}

-- as many as are seen
pub count_seen : (fs : List CoreFn) (count : ℕ) → count ≡ length fs → count ≡ length (map function_of fs)
count_seen fs count same = same ∙ sym (length-map fs function_of)

-- the numbers tell the functions apart
pub few_functions : (fs : List CoreFn) → length (map function_of fs) ≤ 1024 → length fs < 2 ^ 32
few_functions fs few = omega (arith, length-map fs function_of, few)
