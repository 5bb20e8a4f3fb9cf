-- What a text comes to beside its diagnostics is the program of its bytes.
use Rattle.std.proofs.Common.{◌≡◌, ℕ, List, Option, None, Some, Result, Ok, Err, refl}
use Rattle.life_core.specs.Function.{Program}
use Rattle.life_elab.specs.Over.{over}
use Rattle.life_elab.specs.ProgramForms.{translated}
use Rattle.life_names.specs.Checked.{Ill as Broken}
use Rattle.life_parse.specs.Ends.{Ends as Parses}
use Rattle.life_parse.specs.declared.fault.ParseFault.{ParseFault}
use Rattle.life_rules.specs.declared.diag.Diag.{Diag}
use Rattle.life_tree.specs.declared.limit.LimitFault.{LimitFault}
use Rattle.life_tree.specs.declared.program.Program.{Program as Parsed}
use Rattle.life_typed.specs.Programs.{ProgramForm}
use Rattle.life_typing.specs.Resolves.{resolved}
use Rattle.life_check.specs.CheckedText.{ComesTo, Faulty, IsProgramOf, LimitedComesTo, Listed, ParsingComesTo, ResolvedComesTo}
use Rattle.life_check.specs.declared.fault.CheckFault.{CheckFault}

-- a program with its diagnostics is no fault
no_fault : {P : Type 0} (p : Program) (ds : List Diag) (fault : CheckFault) → Listed p ds ≡ Faulty fault → P
no_fault p ds fault e = absurd (clash e)
  where
    clash : Listed p ds ≡ Faulty fault → ⊥
    clash h = cc

the_program : (p q : Program) (ds es : List Diag) → Listed p ds ≡ Listed q es → p ≡ q
the_program p q ds es same = cc

of_limits : (passed : Option LimitFault) (typed : ProgramForm) (p : Program) (ds : List Diag) → LimitedComesTo passed typed (Listed p ds) → p ≡ translated typed
of_limits None typed p ds is = the_program p (translated typed) ds is.diagnostics is.is
of_limits (Some fault) typed p ds is = no_fault p ds _ is

of_resolved : (bytes : List ℕ) (tree : Parsed) → Parses bytes (Ok tree) → (r : Result ProgramForm Broken) → resolved tree ≡ r → (p : Program) (ds : List Diag) → ResolvedComesTo r (Listed p ds) → IsProgramOf bytes p
of_resolved bytes tree parsed (Ok typed) same p ds is =
    record { tree = tree; typed = typed; parsed = parsed; has_types = same; is = of_limits (over typed (translated typed)) typed p ds is }
of_resolved bytes tree parsed (Err e) same p ds is = no_fault p ds _ is

of_reason : (bytes : List ℕ) (reason : Option ParseFault) (p : Program) (ds : List Diag) → ParsingComesTo bytes reason (Listed p ds) → IsProgramOf bytes p
of_reason bytes None p ds is = of_resolved bytes is.tree is.parsed (resolved is.tree) refl p ds is.is
of_reason bytes (Some reason) p ds is = no_fault p ds _ is.is

pub listed_program : (bytes : List ℕ) (p : Program) (ds : List Diag) → ComesTo bytes (Listed p ds) → IsProgramOf bytes p
listed_program bytes p ds is = of_reason bytes is.reason p ds is.is
