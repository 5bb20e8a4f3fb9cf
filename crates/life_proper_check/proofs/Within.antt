-- Programs each of whose functions passes no limit.
use Rattle.std.proofs.Common.{◌≡◌, ◌≤◌, ℕ, zero, suc, Bool, ◌&&◌, List, [], ◌∷◌, length, map, Some, slice_get, sym, subst}
use Rattle.std.proofs.lemmas.Bool.{and_parts}
use Rattle.std.proofs.lemmas.List.{length-map}
use Rattle.std.proofs.lemmas.Option.{none-some, same_Some}
use Rattle.std.specs.Prelude.{IsTrue}
use Rattle.life_types.specs.Types.{Types}
use Rattle.life_core.specs.declared.program.CoreProgram.{CoreProgram}
use Rattle.life_core.specs.Function.{Function, function_of, program_of}
use Rattle.life_pset.specs.Elements.{IsWithinLimits}
use Rattle.life_pset.specs.Limits.{IsProgramWithinLimits}
use Rattle.life_proper_check.specs.Deciding.{AreWithin}

all_within : (types : Types) (fs : List Function) → AreWithin types fs → (i : ℕ) (f : Function) → slice_get fs i ≡ Some f → IsWithinLimits types f
all_within types [] within i f e = absurd (none-some f e)
all_within types (g ∷ fs) within zero f e = subst (IsWithinLimits types) (same_Some g f e) within.0
all_within types (g ∷ fs) within (suc i) f e = all_within types fs within.1 i f e

pub within_program : (p : CoreProgram) (each few : Bool) → (IsTrue each → AreWithin p.types (map function_of p.functions.items)) → (IsTrue few → length p.functions.items ≤ 1024) → IsTrue (each && few)
    → IsProgramWithinLimits (program_of p)
within_program p each few within are_few e =
    let both = and_parts each few e in
    record {
      few = subst (λ (n : ℕ). n ≤ 1024) (sym (length-map p.functions.items function_of)) (are_few both.1);
      each = all_within p.types (map function_of p.functions.items) (within both.0);
    }
