-- What the lexer's answers say of a file.
use Rattle.std.specs.Prelude.{◌≡◌, ℕ, ◌<◌, ◌^◌, ◌↔◌, List, [], ◌∷◌, ◌++◌, Option, Some, None, Result, Ok, Err}
use Rattle.life_lex.specs.Cursors.{Cursor, start}
use Rattle.life_lex.specs.Numbers.{value_of}
use Rattle.life_lex.specs.Readings.{Lexeme, Ending, whole, broken, Reads}
use Rattle.life_lex.specs.declared.fault.LexFault.{LexFault}
use Rattle.life_lex.specs.declared.fault.LexStop.{LexStop}
use Rattle.life_lex.specs.declared.fault.LexStop.TheVariants.{Fault, NoMemory}
use Rattle.life_lex.specs.declared.token.Token.{Token}
use Rattle.life_lex.specs.declared.token.TokenKind.TheVariants.{Number}

-- a token as the definitions have it
abbrev pub lexeme : Token → Lexeme
lexeme t = record { kind = t.kind; text = t.text.now; offset = t.offset; place = t.place }

-- A number is a long: at most 2^63 - 1.
abbrev pub NumberFits : Lexeme → Type 0
NumberFits t = t.kind ≡ Number → value_of t.text < 2 ^ 63

-- From both points on the file reads alike.
abbrev pub ReadsAlike : Cursor → Cursor → Type 0
ReadsAlike a b = (ts : List Lexeme) (e : Ending) → Reads a ts e ↔ Reads b ts e

-- From a on the file is these tokens, and then what it is from b on.
abbrev pub ReadsFirst : Cursor → List Lexeme → Cursor → Type 0
ReadsFirst a ts b = (us : List Lexeme) (e : Ending) → Reads a us e ↔ ((rest : List Lexeme) × (us ≡ ts ++ rest) × Reads b rest e)

-- From a on the file is these tokens and then ends so, and it reads in no other way.
abbrev pub ReadsOnly : Cursor → List Lexeme → Ending → Type 0
ReadsOnly a ts e = Reads a ts e × ((us : List Lexeme) (f : Ending) → Reads a us f → (us ≡ ts) × (f ≡ e))

-- What an answer says of the file, where a is the point before the call and b the point behind it.
abbrev pub Answers : Cursor → Result (Option Token) LexFault → Cursor → Type 0
Answers a (Ok (Some t)) b = ReadsFirst a (lexeme t ∷ []) b
Answers a (Ok None) b = ReadsOnly a [] whole × ReadsOnly b [] whole
Answers a (Err fault) b = ReadsOnly a [] (broken fault) × ReadsOnly b [] (broken fault)

-- The whole file is gaps and these tokens, and it reads in no other way.
abbrev pub LexesOnly : List ℕ → List Lexeme → Type 0
LexesOnly source ts = ReadsOnly (start source) ts whole

-- The file has this fault, and it reads in no other way.
abbrev pub FaultsOnly : List ℕ → LexFault → Type 0
FaultsOnly source fault = (ts : List Lexeme) × ReadsOnly (start source) ts (broken fault)

-- Why a file has no list of tokens; of memory nothing is said.
abbrev pub StopsOnly : List ℕ → LexStop → Type 0
StopsOnly source NoMemory = Unit {0}
StopsOnly source (Fault fault) = FaultsOnly source fault
