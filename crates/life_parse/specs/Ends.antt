-- What an answer of the parser says of a file.
use Rattle.std.specs.Prelude.{◌≡◌, ℕ, ◌<◌, List, length, map, slice_get, Option, None, Some, Result, Ok, Err}
use Rattle.life_keys.specs.Keys.{file_tokens, file_tables}
use Rattle.life_lex.specs.Answers.{LexesOnly, FaultsOnly}
use Rattle.life_lex.specs.Places.{place_at}
use Rattle.life_lex.specs.Readings.{Lexeme, Lexes}
use Rattle.life_parse.specs.Source.{IsRefused, OpensTooMany, IsTooDeep}
use Rattle.life_parse.specs.declared.fault.ParseFault.{ParseFault}
use Rattle.life_parse.specs.declared.fault.ParseFault.TheVariants.{Lex, Refused, Limit, NoMemory}
use Rattle.life_tree.specs.Grammar.{IsProgram, Fits}
use Rattle.life_tree.specs.Tree.{Tree, tokens_of}
use Rattle.life_tree.specs.Views.{program_tree}
use Rattle.life_tree.specs.declared.limit.LimitFault.{LimitFault}
use Rattle.life_tree.specs.declared.limit.LimitName.TheVariants.{Nesting}
use Rattle.life_tree.specs.declared.program.Program.{Program}
use Rattle.life_types.specs.declared.place.Place.{Place}

-- The program is the tree of the file: its tokens are the file's, each where it stands, with names and texts in the order in which they first stand.
pub record IsSource (bytes : List ℕ) (p : Program) : Type 0 where
  pub lexemes : List Lexeme
  pub lexed : LexesOnly bytes lexemes
  pub spelled : file_tokens lexemes ≡ tokens_of (program_tree p)
  pub names : map (λ name. name.items) p.names.items ≡ (file_tables lexemes).names
  pub texts : map (λ text. text.items) p.texts.items ≡ (file_tables lexemes).texts
  pub fits : Fits (program_tree p)

-- No program, however deep, has other trees of the file's tokens.
abbrev pub IsOnlyTree : List ℕ → Tree → Type 0
IsOnlyTree bytes t = (ls : List Lexeme) → Lexes bytes ls → (u : Tree) → IsProgram u → file_tokens ls ≡ tokens_of u → u ≡ t

-- The file has no tree.
abbrev pub HasNoTree : List ℕ → Type 0
HasNoTree bytes = (ls : List Lexeme) → Lexes bytes ls → (u : Tree) → Fits u → file_tokens ls ≡ tokens_of u → ⊥

-- the place of a token; that of the end of the file is the place behind its last byte
abbrev pub place_or_end : List ℕ → Option Lexeme → Place
place_or_end bytes None = place_at bytes (length bytes)
place_or_end bytes (Some l) = l.place

abbrev pub place_of_token : List ℕ → List Lexeme → ℕ → Place
place_of_token bytes ls k = place_or_end bytes (slice_get ls k)

-- The token with number k is refused, and no construct before it is the 65th that is open.
pub record RefusesAt (bytes : List ℕ) (k : ℕ) (place : Place) : Type 0 where
  pub lexemes : List Lexeme
  pub lexed : LexesOnly bytes lexemes
  pub refused : IsRefused (file_tokens lexemes) k
  pub shallow : (j : ℕ) → j < k → OpensTooMany (file_tokens lexemes) j → ⊥
  pub stands : place ≡ place_of_token bytes lexemes k

-- A token opens the 65th construct that is open, and none before it is refused.
pub record IsTooDeepAt (bytes : List ℕ) (fault : LimitFault) : Type 0 where
  pub lexemes : List Lexeme
  pub lexed : LexesOnly bytes lexemes
  pub at : ℕ
  pub deep : IsTooDeep (file_tokens lexemes) at
  pub first : (k : ℕ) → IsRefused (file_tokens lexemes) k → at < k
  pub named : fault ≡ record { name = Nesting; place = Some (place_of_token bytes lexemes at) }

-- Want of memory says nothing of the file.
abbrev pub Ends : List ℕ → Result Program ParseFault → Type 0
Ends bytes (Ok p) = IsSource bytes p × IsOnlyTree bytes (program_tree p)
Ends bytes (Err (Lex fault)) = FaultsOnly bytes fault × HasNoTree bytes
Ends bytes (Err (Refused k place)) = RefusesAt bytes k place × HasNoTree bytes
Ends bytes (Err (Limit fault)) = IsTooDeepAt bytes fault × HasNoTree bytes
Ends bytes (Err NoMemory) = Unit {0}

-- It is the one reason for which the file has no tree, unless it is want of memory.
abbrev pub IsOnlyFault : List ℕ → ParseFault → Type 0
IsOnlyFault bytes NoMemory = Unit {0}
IsOnlyFault bytes fault = (other : ParseFault) → Ends bytes (Err other) → (other ≡ NoMemory → ⊥) → other ≡ fault
