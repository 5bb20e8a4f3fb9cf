-- The tokens of a file, and its first fault.
use Rattle.std.specs.Prelude.{◌≡◌, ℕ, List, [], ◌∷◌, take}
use Rattle.life_lex.specs.Begins.{Begins}
use Rattle.life_lex.specs.Cursors.{Cursor, start, advance, rest_of}
use Rattle.life_lex.specs.Kinds.{kind_of}
use Rattle.life_lex.specs.Places.{place_at, line_blank_at}
use Rattle.life_lex.specs.declared.fault.LexFault.{LexFault}
use Rattle.life_lex.specs.declared.fault.LexFaultKind.{LexFaultKind}
use Rattle.life_lex.specs.declared.scan.Scanned.{Scanned}
use Rattle.life_lex.specs.declared.scan.Scanned.TheVariants.{End, Gap, Token, Fault}
use Rattle.life_lex.specs.declared.token.TokenKind.{TokenKind}
use Rattle.life_types.specs.declared.place.Place.{Place}

-- a token: its kind, its text, and where that stands
pub record Lexeme : Type 0 where
  pub kind : TokenKind
  pub text : List ℕ
  pub offset : ℕ
  pub place : Place

-- the token of n bytes at a point
abbrev pub lexeme_at : ℕ → Cursor → Lexeme
lexeme_at n c = record {
  kind = kind_of (take n (rest_of c));
  text = take n (rest_of c);
  offset = c.offset;
  place = place_at c.source c.offset;
}

-- a fault of a kind at a point
abbrev pub fault_at : LexFaultKind → Cursor → LexFault
fault_at kind c = record { kind = kind; offset = c.offset; place = place_at c.source c.offset }

-- how a file ends: read to its end, or at a fault
pub data Ending : Type 0 where
  whole : Ending
  broken : LexFault → Ending

-- a gap or a token of a number of bytes
pub data Piece : Type 0 where
  gap : ℕ → Piece
  token : ℕ → Piece

-- What begins at a point.
abbrev pub BeginsAt : Cursor → Scanned → Type 0
BeginsAt c scanned = Begins (line_blank_at c.source c.offset) (rest_of c) scanned

-- The file ends so at a point.
abbrev pub EndsAt : Cursor → Ending → Type 0
EndsAt c whole = BeginsAt c End
EndsAt c (broken fault) = BeginsAt c (Fault fault.kind) × (fault ≡ fault_at fault.kind c)

-- From a point on the file is these pieces in turn, and then it ends so.
abbrev pub IsPieces : Cursor → List Piece → Ending → Type 0
IsPieces c [] e = EndsAt c e
IsPieces c (gap n ∷ ps) e = BeginsAt c (Gap n) × IsPieces (advance n c) ps e
IsPieces c (token n ∷ ps) e = BeginsAt c (Token n) × IsPieces (advance n c) ps e

-- the tokens among pieces that begin at a point
abbrev pub lexemes_of : Cursor → List Piece → List Lexeme
lexemes_of c [] = []
lexemes_of c (gap n ∷ ps) = lexemes_of (advance n c) ps
lexemes_of c (token n ∷ ps) = lexeme_at n c ∷ lexemes_of (advance n c) ps

-- From a point on the file is gaps and these tokens, and then it ends so.
abbrev pub Reads : Cursor → List Lexeme → Ending → Type 0
Reads c ts e = (ps : List Piece) × IsPieces c ps e × (ts ≡ lexemes_of c ps)

-- The whole file is gaps and these tokens.
abbrev pub Lexes : List ℕ → List Lexeme → Type 0
Lexes source ts = Reads (start source) ts whole

-- The file's first fault.
abbrev pub Faults : List ℕ → LexFault → Type 0
Faults source fault = (ts : List Lexeme) × Reads (start source) ts (broken fault)
