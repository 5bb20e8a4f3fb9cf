-- A text comes to one thing.
use Rattle.std.proofs.Common.{◌≡◌, ℕ, List, Option, None, Some, Result, Ok, Err, refl, sym, ◌∙◌, ap, subst}
use Rattle.life_core.specs.Function.{Program}
use Rattle.life_elab.specs.Over.{over}
use Rattle.life_elab.specs.ProgramForms.{translated}
use Rattle.life_keys.specs.Keys.{file_tables}
use Rattle.life_lex.specs.Readings.{whole}
use Rattle.life_names.specs.Checked.{Ill as Broken}
use Rattle.life_parse.specs.Ends.{HasNoTree, IsOnlyFault, IsSource, Ends as Parses}
use Rattle.life_parse.specs.declared.fault.ParseFault.{ParseFault}
use Rattle.life_parse.specs.declared.fault.ParseFault.TheVariants as parsing
use Rattle.life_rules.proofs.Unique.{only_listing}
use Rattle.life_rules.specs.declared.diag.Diag.{Diag}
use Rattle.life_tree.specs.Views.{program_tree}
use Rattle.life_tree.specs.declared.limit.LimitFault.{LimitFault}
use Rattle.life_tree.specs.declared.program.Program.{Program as Parsed}
use Rattle.life_typed.specs.Programs.{ProgramForm}
use Rattle.life_typing.proofs.BlindPrograms.{types_of_trees}
use Rattle.life_typing.specs.Resolves.{resolved}
use Rattle.life_check.specs.CheckedText.{ComesOnlyTo, ComesTo, Faulty, Finding, HasNoTreeFor, IsListed, LimitedComesTo, Listed, ParsingComesTo, ResolvedComesTo, TreeComesTo}
use Rattle.life_check.specs.Faults.{tree_fault}

one_program : (p : Program) (a b : Finding) → IsListed p a → IsListed p b → a ≡ b
one_program p a b x y =
    let same : x.diagnostics ≡ y.diagnostics = only_listing x.listed y.listed in
    x.is ∙ ap (λ (ds : List Diag). Listed p ds) same ∙ sym y.is

one_of_limits : (passed : Option LimitFault) (typed : ProgramForm) (a b : Finding) → LimitedComesTo passed typed a → LimitedComesTo passed typed b → a ≡ b
one_of_limits None typed a b p q = one_program (translated typed) a b p q
one_of_limits (Some fault) typed a b p q = p ∙ sym q

one_resolved : (r : Result ProgramForm Broken) (a b : Finding) → ResolvedComesTo r a → ResolvedComesTo r b → a ≡ b
one_resolved (Ok typed) a b p q = one_of_limits (over typed (translated typed)) typed a b p q
one_resolved (Err e) a b p q = p ∙ sym q

-- the types of a text hang on its tokens alone
same_types : (bytes : List ℕ) (p q : Parsed) → Parses bytes (Ok p) → IsSource bytes q → resolved q ≡ resolved p
same_types bytes p q parsed other =
    let same : other.lexemes ≡ parsed.0.lexemes = (parsed.0.lexed.1 other.lexemes whole other.lexed.0).0 in
    types_of_trees q p (parsed.1 other.lexemes other.lexed.0 (program_tree q) other.fits.program other.spelled)
    (other.names ∙ ap (λ us. (file_tables us).names) same ∙ sym parsed.0.names)
    (other.texts ∙ ap (λ us. (file_tables us).texts) same ∙ sym parsed.0.texts)

-- so whatever stands for the text's tree, its types are those of the one that was read
of_tree : (bytes : List ℕ) (tree : Parsed) (a : Finding) → Parses bytes (Ok tree) → TreeComesTo bytes a → ResolvedComesTo (resolved tree) a
of_tree bytes tree a parsed is = subst (λ r. ResolvedComesTo r a) (same_types bytes tree is.tree parsed is.parsed.0) is.is

one_tree : (bytes : List ℕ) (a b : Finding) → TreeComesTo bytes a → TreeComesTo bytes b → a ≡ b
one_tree bytes a b p q = one_resolved (resolved p.tree) a b p.is (of_tree bytes p.tree b p.parsed q)

-- a text with a tree isn't one without
one_way : (bytes : List ℕ) (tree : Parsed) → Parses bytes (Ok tree) → HasNoTree bytes → ⊥
one_way bytes tree parsed none = none parsed.0.lexemes parsed.0.lexed.0 (program_tree tree) parsed.0.fits parsed.0.spelled

has_none : (bytes : List ℕ) (reason : ParseFault) → Parses bytes (Err reason) → (reason ≡ parsing.NoMemory → ⊥) → HasNoTree bytes
has_none bytes (parsing.Lex lexical) parsed told = parsed.1
has_none bytes (parsing.Refused at place) parsed told = parsed.1
has_none bytes (parsing.Limit passed) parsed told = parsed.1
has_none bytes parsing.NoMemory parsed told = absurd (told refl)

of_parsing : (bytes : List ℕ) (tree : Parsed) (reason : Option ParseFault) (a : Finding) → Parses bytes (Ok tree) → ParsingComesTo bytes reason a → ResolvedComesTo (resolved tree) a
of_parsing bytes tree None a parsed is = of_tree bytes tree a parsed is
of_parsing bytes tree (Some reason) a parsed is = absurd (one_way bytes tree parsed (has_none bytes reason is.parsed is.told))

-- so where a tree was read, it decides
pub of_only_tree : (bytes : List ℕ) (tree : Parsed) (a : Finding) → Parses bytes (Ok tree) → ComesTo bytes a → ResolvedComesTo (resolved tree) a
of_only_tree bytes tree a parsed is = of_parsing bytes tree is.reason a parsed is.is

only_reason : (bytes : List ℕ) (f g : ParseFault) → IsOnlyFault bytes f → (f ≡ parsing.NoMemory → ⊥) → Parses bytes (Err g) → (g ≡ parsing.NoMemory → ⊥) → g ≡ f
only_reason bytes (parsing.Lex lexical) g only had parsed told = only g parsed told
only_reason bytes (parsing.Refused at place) g only had parsed told = only g parsed told
only_reason bytes (parsing.Limit passed) g only had parsed told = only g parsed told
only_reason bytes parsing.NoMemory g only had parsed told = absurd (had refl)

one_reason : (bytes : List ℕ) (f g : ParseFault) (a b : Finding) → HasNoTreeFor bytes f a → HasNoTreeFor bytes g b → a ≡ b
one_reason bytes f g a b p q = p.is ∙ ap (λ (r : ParseFault). Faulty (tree_fault r)) (sym (only_reason bytes f g p.only p.told q.parsed q.told)) ∙ sym q.is

one_parsing : (bytes : List ℕ) (f g : Option ParseFault) (a b : Finding) → ParsingComesTo bytes f a → ParsingComesTo bytes g b → a ≡ b
one_parsing bytes None None a b p q = one_tree bytes a b p q
one_parsing bytes None (Some g) a b p q = absurd (one_way bytes p.tree p.parsed (has_none bytes g q.parsed q.told))
one_parsing bytes (Some f) None a b p q = absurd (one_way bytes q.tree q.parsed (has_none bytes f p.parsed p.told))
one_parsing bytes (Some f) (Some g) a b p q = one_reason bytes f g a b p q

pub one_finding : (bytes : List ℕ) (a b : Finding) → ComesTo bytes a → ComesTo bytes b → a ≡ b
one_finding bytes a b p q = one_parsing bytes p.reason q.reason a b p.is q.is

-- so what it comes to is the only thing
pub comes_only : (bytes : List ℕ) (finding : Finding) → ComesTo bytes finding → ComesOnlyTo bytes finding
comes_only bytes finding is = record { is = is; only = λ other comes. one_finding bytes other finding comes is }
