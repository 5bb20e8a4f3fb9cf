-- What an answer to a file's tokens says of the file.
use Rattle.std.proofs.Common.{◌≡◌, ◌∙◌, ℕ, List, Some, map, Ok, Err, refl, sym, ap, subst}
use Rattle.life_keys.specs.Keys.{file_tokens, file_tables}
use Rattle.life_lex.specs.Answers.{LexesOnly, FaultsOnly}
use Rattle.life_lex.specs.Readings.{Lexeme, whole, broken}
use Rattle.life_lex.specs.declared.fault.LexFault.{LexFault}
use Rattle.life_parse.specs.Ends.{Ends, HasNoTree, place_of_token}
use Rattle.life_parse.specs.ParsesTokens.{AreRefused, AreTooDeep, HaveNoTree, IsTheTree}
use Rattle.life_tree.specs.Tree.{Tokens}
use Rattle.life_parse.specs.declared.fault.ParseFault.TheVariants.{Lex, Refused, Limit}
use Rattle.life_tree.specs.Views.{program_tree}
use Rattle.life_tree.specs.declared.limit.LimitName.TheVariants.{Nesting}
use Rattle.life_tree.specs.declared.program.Program.{Program}
use Rattle.life_types.specs.declared.place.Place.{Place}

-- the file's one list of tokens has no tree, so the file has none
no_tree : (bytes : List ℕ) (ls : List Lexeme) → LexesOnly bytes ls → HaveNoTree (file_tokens ls) → HasNoTree bytes
no_tree bytes ls lexed none us reads u fits spelled = none u fits (ap file_tokens (sym (lexed.1 us whole reads).0) ∙ spelled)

pub broken_ends : (bytes : List ℕ) (fault : LexFault) → FaultsOnly bytes fault → Ends bytes (Err (Lex fault))
broken_ends bytes fault faults = (faults, λ ls reads u fits spelled. differs (faults.1.1 ls whole reads).1)
  where
    differs : whole ≡ broken fault → ⊥
    differs e = cc

pub refused_ends : (bytes : List ℕ) (ls : List Lexeme) (ts : Tokens) (k : ℕ) (place : Place) → LexesOnly bytes ls → ts ≡ file_tokens ls → AreRefused ts k
    → place ≡ place_of_token bytes ls k → Ends bytes (Err (Refused k place))
refused_ends bytes ls ts k place lexed is refused stands =
    let here = subst (λ (us : Tokens). AreRefused us k) is refused in
    (record { lexemes = ls; lexed = lexed; refused = here.refused; shallow = here.shallow; stands = stands }, no_tree bytes ls lexed here.none)

pub deep_ends : (bytes : List ℕ) (ls : List Lexeme) (ts : Tokens) (i : ℕ) (place : Place) → LexesOnly bytes ls → ts ≡ file_tokens ls → AreTooDeep ts i
    → place ≡ place_of_token bytes ls i → Ends bytes (Err (Limit (record { name = Nesting; place = Some place })))
deep_ends bytes ls ts i place lexed is deep stands =
    let here = subst (λ (us : Tokens). AreTooDeep us i) is deep in
    (record { lexemes = ls; lexed = lexed; at = i; deep = here.deep; first = here.first; named = rw stands refl }, no_tree bytes ls lexed here.none)

pub tree_ends : (bytes : List ℕ) (ls : List Lexeme) (ts : Tokens) (p : Program) → LexesOnly bytes ls → ts ≡ file_tokens ls → IsTheTree ts (program_tree p)
    → map (λ name. name.items) p.names.items ≡ (file_tables ls).names → map (λ text. text.items) p.texts.items ≡ (file_tables ls).texts → Ends bytes (Ok p)
tree_ends bytes ls ts p lexed is tree names texts =
    let here = subst (λ (us : Tokens). IsTheTree us (program_tree p)) is tree in (
      record { lexemes = ls; lexed = lexed; spelled = here.spelled; names = names; texts = texts; fits = here.fits },
      λ us reads u program spelled. here.only u program (ap file_tokens (sym (lexed.1 us whole reads).0) ∙ spelled),
    )
