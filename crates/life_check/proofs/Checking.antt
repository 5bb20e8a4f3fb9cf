-- From what a part of the check finds to what the text comes to.
use Rattle.std.proofs.Common.{◌≡◌, ℕ, List, Option, None, Some, Result, Ok, Err, refl, sym, subst}
use Rattle.life_core.specs.Function.{Program}
use Rattle.life_elab.specs.Elaborated.{Elaborates}
use Rattle.life_elab.specs.Over.{over}
use Rattle.life_elab.specs.ProgramForms.{translated}
use Rattle.life_elab.specs.declared.fault.ElabFault.{ElabFault}
use Rattle.life_elab.specs.declared.fault.ElabFault.TheVariants as elab
use Rattle.life_names.specs.declared.fault.IllFault.{IllFault}
use Rattle.life_names.specs.declared.fault.IllFault.TheVariants as typing
use Rattle.life_parse.specs.Ends.{IsOnlyFault, Ends as Parses}
use Rattle.life_parse.specs.declared.fault.ParseFault.{ParseFault}
use Rattle.life_parse.specs.declared.fault.ParseFault.TheVariants as parsing
use Rattle.life_tree.specs.declared.limit.LimitFault.{LimitFault}
use Rattle.life_tree.specs.declared.program.Program.{Program as Parsed}
use Rattle.life_typed.specs.Programs.{ProgramForm}
use Rattle.life_typing.specs.Answers.{Tells}
use Rattle.life_typing.specs.Resolves.{resolved}
use Rattle.life_check.proofs.OneFinding.{comes_only}
use Rattle.life_check.specs.CheckedText.{ComesOnlyTo, Faulty, Finding, IsListed, LimitedComesTo, ResolvedComesTo, TypedComesTo}
use Rattle.life_check.specs.Faults.{limit_fault, tree_fault, type_fault}
use Rattle.life_check.specs.Findings.{Finds, finding_of}
use Rattle.life_check.specs.declared.checked.Checked.{Checked}
use Rattle.life_check.specs.declared.fault.CheckFault.{CheckFault}
use Rattle.life_check.specs.declared.fault.CheckFault.TheVariants as fault

-- what is such in one way is so in another
pub finds_as : (P Q : Finding → Type 0) (result : Result Checked CheckFault) → ((f : Finding) → P f → Q f) → Finds P result → Finds Q result
finds_as P Q (Ok checked) to found = (to (finding_of checked) found.0, found.1)
finds_as P Q (Err (fault.Lex reason)) to found = to (Faulty (fault.Lex reason)) found
finds_as P Q (Err (fault.Syntax at place)) to found = to (Faulty (fault.Syntax at place)) found
finds_as P Q (Err (fault.Ill kind place)) to found = to (Faulty (fault.Ill kind place)) found
finds_as P Q (Err (fault.Limit reason)) to found = to (Faulty (fault.Limit reason)) found
finds_as P Q (Err fault.NoMemory) to found = tt

-- ---- texts whose tree has types

module _ (typed : ProgramForm) where
  -- the first limit that is passed decides
  of_limits : (limit : Option LimitFault) → over typed (translated typed) ≡ limit → (f : Finding) → LimitedComesTo limit typed f → TypedComesTo typed f
  of_limits limit passed f is = subst (λ o. LimitedComesTo o typed f) (sym passed) is

  pub limited_finds : (reason : ElabFault) → Elaborates typed (Err reason) → Finds (TypedComesTo typed) (Err (limit_fault reason))
  limited_finds (elab.Limit passed) is = of_limits (Some passed) is (Faulty (fault.Limit passed)) refl
  limited_finds elab.NoMemory is = tt

  -- .. and where none is, what is diagnosed
  pub core_finds : over typed (translated typed) ≡ None → (core : Program) (result : Result Checked CheckFault) → core ≡ translated typed → Finds (IsListed core) result → Finds (TypedComesTo typed) result
  core_finds none core result is found = finds_as (IsListed core) (TypedComesTo typed) result (λ f listed. of_limits None none f (subst (λ c. IsListed c f) is listed)) found

-- ---- trees

module _ (tree : Parsed) where
  pub typed_finds : (typed : ProgramForm) (result : Result Checked CheckFault) → resolved tree ≡ Ok typed → Finds (TypedComesTo typed) result → Finds (ResolvedComesTo (resolved tree)) result
  typed_finds typed result is found = subst (λ r. Finds (ResolvedComesTo r) result) (sym is) found

  pub untyped_finds : (reason : IllFault) → Tells reason (resolved tree) → Finds (ResolvedComesTo (resolved tree)) (Err (type_fault reason))
  untyped_finds (typing.Ill kind place) is = subst (λ r. ResolvedComesTo r (Faulty (fault.Ill kind place))) (sym is) refl
  untyped_finds typing.NoMemory is = tt

-- ---- texts

module _ (bytes : List ℕ) where
  pub tree_finds : (tree : Parsed) (result : Result Checked CheckFault) → Parses bytes (Ok tree) → Finds (ResolvedComesTo (resolved tree)) result → Finds (ComesOnlyTo bytes) result
  tree_finds tree result parsed found =
      finds_as (ResolvedComesTo (resolved tree)) (ComesOnlyTo bytes) result
      (λ f is. comes_only bytes f (record { reason = None; is = record { tree = tree; parsed = parsed; is = is } })) found

  for_reason : (reason : ParseFault) → Parses bytes (Err reason) → IsOnlyFault bytes reason → (reason ≡ parsing.NoMemory → ⊥) → ComesOnlyTo bytes (Faulty (tree_fault reason))
  for_reason reason parsed only told =
      comes_only bytes (Faulty (tree_fault reason)) (record { reason = Some reason; is = record { parsed = parsed; only = only; told = told; is = refl } })

  pub unparsed_finds : (reason : ParseFault) → Parses bytes (Err reason) → IsOnlyFault bytes reason → Finds (ComesOnlyTo bytes) (Err (tree_fault reason))
  unparsed_finds (parsing.Lex lexical) parsed only = for_reason (parsing.Lex lexical) parsed only (λ e. cc)
  unparsed_finds (parsing.Refused at place) parsed only = for_reason (parsing.Refused at place) parsed only (λ e. cc)
  unparsed_finds (parsing.Limit passed) parsed only = for_reason (parsing.Limit passed) parsed only (λ e. cc)
  unparsed_finds parsing.NoMemory parsed only = tt
