-- What typing gives beside well typed functions: `main` gives back an int (ISO/IEC 14882:2017 [basic.start.main]).
use Rattle.std.specs.Prelude.{◌≡◌, ℕ, true, List, [], ◌∷◌}
use Rattle.life_types.specs.Types.{Types}
use Rattle.life_types.specs.declared.ty.Ty.TheVariants as ty
use Rattle.life_typed.specs.BaseTypes.{type_at}
use Rattle.life_typed.specs.Programs.{FunctionForm, ProgramForm, is_main}

abbrev pub HaveIntMains : List (List ℕ) → Types → List FunctionForm → Type 0
HaveIntMains names types [] = Unit {0}
HaveIntMains names types (f ∷ fs) = (is_main names f.name ≡ true → type_at types f.result ≡ ty.Int) × HaveIntMains names types fs

abbrev pub HasIntMain : ProgramForm → Type 0
HasIntMain p = HaveIntMains p.names p.types p.functions
