-- The list of diagnostics: in the order of their lines, each line once.
use Rattle.std.specs.Prelude.{◌≡◌, ℕ, List, [], Option, Some, None, All, Contains, map, slice_get, true}
use Rattle.std.specs.List.Sorted.{IsStrictlySortedBy}
use Rattle.std.specs.Ordering.{is_le}
use Rattle.life_types.specs.Types.{Types}
use Rattle.life_core.specs.Function.{Function, Program}
use Rattle.life_contract.specs.Signatures.{signatures_of}
use Rattle.life_rules.specs.Diagnosing.{IsDiagnosed}
use Rattle.life_rules.specs.Lines.{Line, kind_number, line_of, line_cmp, line_seen}
use Rattle.life_rules.specs.Texts.{Naming, naming_in}
use Rattle.life_rules.specs.contracts.diag.DiagOrd.TheImpl.{ghosts as diag}
use Rattle.life_rules.specs.declared.diag.Diag.{Diag}
use Rattle.life_rules.specs.declared.diag.ListedDiag.{ListedDiag}

-- the diagnostic stands for itself: it prints the same line, and none before it in the order of its fields does
pub record Represents (line : Diag → Line) (e d : Diag) : Type 0 where
  pub same_line : line e ≡ line d
  pub first : is_le (diag.cmp e d) ≡ true

-- strictly in order, nothing else than these, and each of these by the first that prints its line
pub record IsListing (IsWrong : Diag → Type 0) (line : Diag → Line) (ds : List Diag) : Type 0 where
  pub sorted : IsStrictlySortedBy line_cmp (map line ds)
  pub only : (d : Diag) → Contains ds d → IsWrong d
  pub each : (d : Diag) → IsWrong d → (e : Diag) × (Contains ds e × Represents line e d)

abbrev pub listed_diag : ListedDiag → Diag
listed_diag x = x.diag

-- each has the line of its diagnostic
abbrev pub HaveLines : (Diag → Line) → List ListedDiag → Type 0
HaveLines line xs = All (λ (x : ListedDiag). line_seen x.line ≡ line x.diag) xs

-- the diagnostics of the function with this number
abbrev pub AreDiagnostics : Naming → Types → ℕ → Function → List Diag → Type 0
AreDiagnostics names types function f ds = IsListing (IsDiagnosed names.sigs types function f) (line_of names types f) ds

-- ---- the diagnostics of a whole program

-- the diagnostic is one of the function that it names
abbrev pub IsProgramDiagnosed : Program → Diag → Type 0
IsProgramDiagnosed p d = (f : Function) × ((slice_get p.functions d.function ≡ Some f) × IsDiagnosed (signatures_of p.functions) p.types d.function f d)

-- its line in that function
abbrev pub line_in : Program → Option Function → Diag → Line
line_in p None d = record { line = d.place.line; column = d.place.column; kind = kind_number d.kind; name = []; why = [] }
line_in p (Some f) d = line_of (naming_in p) p.types f d

abbrev pub program_line : Program → Diag → Line
program_line p d = line_in p (slice_get p.functions d.function) d

abbrev pub AreProgramDiagnostics : Program → List Diag → Type 0
AreProgramDiagnostics p ds = IsListing (IsProgramDiagnosed p) (program_line p) ds
