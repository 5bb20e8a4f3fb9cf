-- What the text of a file comes to.
use Rattle.std.specs.Prelude.{◌≡◌, ◌≢◌, ℕ, List, Option, None, Some, Result, Ok, Err}
use Rattle.life_core.specs.Function.{Program}
use Rattle.life_elab.specs.Over.{over}
use Rattle.life_elab.specs.ProgramForms.{translated}
use Rattle.life_names.specs.Checked.{Ill as Broken}
use Rattle.life_parse.specs.Ends.{IsOnlyFault, Ends as Parses}
use Rattle.life_parse.specs.declared.fault.ParseFault.{ParseFault}
use Rattle.life_parse.specs.declared.fault.ParseFault.TheVariants as parsing
use Rattle.life_rules.specs.Listing.{AreProgramDiagnostics}
use Rattle.life_rules.specs.declared.diag.Diag.{Diag}
use Rattle.life_tree.specs.declared.limit.LimitFault.{LimitFault}
use Rattle.life_tree.specs.declared.program.Program.{Program as Parsed}
use Rattle.life_typed.specs.Programs.{ProgramForm}
use Rattle.life_typing.specs.Resolves.{resolved}
use Rattle.life_check.specs.Faults.{tree_fault}
use Rattle.life_check.specs.declared.fault.CheckFault.{CheckFault}
use Rattle.life_check.specs.declared.fault.CheckFault.TheVariants.{Ill, Limit}

-- a fault, or the text's program and what is diagnosed in it
pub data Finding : Type 0 where
  Faulty : CheckFault → Finding
  Listed : Program → List Diag → Finding

-- the program with its list of diagnostics
pub record IsListed (p : Program) (finding : Finding) : Type 0 where
  pub diagnostics : List Diag
  pub listed : AreProgramDiagnostics p diagnostics
  pub is : finding ≡ Listed p diagnostics

-- the core program of a typed program with its diagnostics, or the first limit that it passes
abbrev pub LimitedComesTo : Option LimitFault → ProgramForm → Finding → Type 0
LimitedComesTo None typed finding = IsListed (translated typed) finding
LimitedComesTo (Some fault) typed finding = finding ≡ Faulty (Limit fault)

abbrev pub TypedComesTo : ProgramForm → Finding → Type 0
TypedComesTo typed finding = LimitedComesTo (over typed (translated typed)) typed finding

-- the typed program of a tree that has types; else it is the first rule that the tree breaks
abbrev pub ResolvedComesTo : Result ProgramForm Broken → Finding → Type 0
ResolvedComesTo (Ok typed) finding = TypedComesTo typed finding
ResolvedComesTo (Err e) finding = finding ≡ Faulty (Ill e.kind e.place)

-- .. of the text's only tree
pub record TreeComesTo (bytes : List ℕ) (finding : Finding) : Type 0 where
  pub tree : Parsed
  pub parsed : Parses bytes (Ok tree)
  pub is : ResolvedComesTo (resolved tree) finding

-- the one reason for which the text has no tree
pub record HasNoTreeFor (bytes : List ℕ) (reason : ParseFault) (finding : Finding) : Type 0 where
  pub parsed : Parses bytes (Err reason)
  pub only : IsOnlyFault bytes reason
  pub told : reason ≢ parsing.NoMemory
  pub is : finding ≡ Faulty (tree_fault reason)

abbrev pub ParsingComesTo : List ℕ → Option ParseFault → Finding → Type 0
ParsingComesTo bytes None finding = TreeComesTo bytes finding
ParsingComesTo bytes (Some reason) finding = HasNoTreeFor bytes reason finding

-- a text of these bytes comes to this, by its tree or by why it has none
pub record ComesTo (bytes : List ℕ) (finding : Finding) : Type 0 where
  pub reason : Option ParseFault
  pub is : ParsingComesTo bytes reason finding

-- .. and to nothing else
pub record ComesOnlyTo (bytes : List ℕ) (finding : Finding) : Type 0 where
  pub is : ComesTo bytes finding
  pub only : (other : Finding) → ComesTo bytes other → other ≡ finding

-- the core program of the typed program of the only tree of these bytes
pub record IsProgramOf (bytes : List ℕ) (p : Program) : Type 0 where
  pub tree : Parsed
  pub typed : ProgramForm
  pub parsed : Parses bytes (Ok tree)
  pub has_types : resolved tree ≡ Ok typed
  pub is : p ≡ translated typed
