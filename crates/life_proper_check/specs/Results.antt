-- Functions with another result: a return of one that isn't a value asks for it to be there, so the ways of such a function tell that a result was written.
use Rattle.std.specs.Prelude.{◌≡◌, ℕ, zero, suc, false, List, [], ◌∷◌, Some, slice_get}
use Rattle.life_types.specs.Types.{Types}
use Rattle.life_types.specs.declared.ty.TyId.{TyId}
use Rattle.life_core.specs.Function.{Function}
use Rattle.life_proper.specs.ResultsWritten.{HasResultWritten, writes_result}

abbrev pub with_result : TyId → Function → Function
with_result result f = record f { result = result }

-- .. the function with this number
abbrev pub result_set : (number : ℕ) → TyId → List Function → List Function
result_set n result [] = []
result_set zero result (f ∷ fs) = with_result result f ∷ fs
result_set (suc n) result (f ∷ fs) = f ∷ result_set n result fs

-- ---- the function with this number, where there is one

-- .. gives a value of this type
abbrev pub GivesAt : List Function → ℕ → TyId → Type 0
GivesAt fs n own = (f : Function) → slice_get fs n ≡ Some f → f.result ≡ own

-- .. needn't write a result
abbrev pub IsUnaskedAt : List (List ℕ) → Types → List Function → ℕ → Type 0
IsUnaskedAt names types fs n = (f : Function) → slice_get fs n ≡ Some f → writes_result names types f ≡ false

-- .. writes its result on every way to a return
abbrev pub IsWrittenAt : List (List ℕ) → Types → List Function → ℕ → Type 0
IsWrittenAt names types fs n = (f : Function) → slice_get fs n ≡ Some f → HasResultWritten names types f
