-- A proper function: what a proper program says of each of its functions by itself, in one record.
use Rattle.std.specs.Prelude.{◌≡◌, ℕ, true, List, Some, slice_get}
use Rattle.life_types.specs.Types.{Types}
use Rattle.life_core.specs.Function.{Function}
use Rattle.life_core.specs.Proper.{HasReadyWays}
use Rattle.life_proper.specs.GivenOver.{all_keep_given}
use Rattle.life_proper.specs.WellFormedPrograms.{is_well_formed_function}

-- in a program with these types, so many texts and these functions
pub record IsProperFunction (types : Types) (texts : ℕ) (fs : List Function) (f : Function) : Type 0 where
  -- so many names are there
  pub names : ℕ
  pub formed : is_well_formed_function types names texts fs f ≡ true
  pub ready : HasReadyWays types f
  pub given : all_keep_given types f ≡ true

-- .. and so is each of them
abbrev pub AreProperFunctions : Types → ℕ → List Function → Type 0
AreProperFunctions types texts fs = (n : ℕ) (f : Function) → slice_get fs n ≡ Some f → IsProperFunction types texts fs f
