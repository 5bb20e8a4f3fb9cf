-- Functions that write their results: on every way to a return what is given back was written, except that main may leave its int, which is then 0
-- (ISO/IEC 14882:2017 [basic.start.main]).
use Rattle.std.specs.Prelude.{◌≡◌, ℕ, Bool, true, false, codes, not, List, [], ◌∷◌, Option, Some, IsTrue, slice_get, unwrap_or}
use Rattle.std.specs.Str.{bytes_eq}
use Rattle.life_types.specs.Types.{Types}
use Rattle.life_types.specs.declared.ty.NameId.{NameId}
use Rattle.life_types.specs.declared.ty.Ty.{Ty}
use Rattle.life_types.specs.declared.ty.Ty.TheVariants as ty
use Rattle.life_core.specs.Function.{Function, Program}
use Rattle.life_core.specs.Linked.{Linked, code_of, numbered}
use Rattle.life_core.specs.Proper.{Reaches}
use Rattle.life_core.specs.Ready.{Ready, IsThere}
use Rattle.life_core.specs.Tree.{Return}

-- where names have these texts, whether it is `main`
abbrev pub is_main : List (List ℕ) → NameId → Bool
is_main names name = bytes_eq (unwrap_or (slice_get names name.0) []) (codes "main")

-- what a function of this type has to write: nothing where it is void, and main needn't where it is an int
abbrev pub is_written_by : (main : Bool) → Option Ty → Bool
is_written_by main (Some ty.Void) = false
is_written_by main (Some ty.Int) = not main
is_written_by main _ = true

abbrev pub writes_result : List (List ℕ) → Types → Function → Bool
writes_result names types f = is_written_by (is_main names f.name) (slice_get types.types f.result.0)

abbrev pub HasResultWritten : List (List ℕ) → Types → Function → Type 0
HasResultWritten names types f =
    IsTrue (writes_result names types f)
    → (p : ℕ) (bits : Ready) (l : Linked) → Reaches types f p bits → numbered (code_of f) p ≡ Some l → l.spot.node ≡ Return
    → IsThere bits f.parameters

abbrev pub HaveResultsWritten : List (List ℕ) → Types → List Function → Type 0
HaveResultsWritten names types [] = Unit {0}
HaveResultsWritten names types (f ∷ fs) = HasResultWritten names types f × HaveResultsWritten names types fs

abbrev pub WritesResults : Program → Type 0
WritesResults p = HaveResultsWritten p.names p.types p.functions
