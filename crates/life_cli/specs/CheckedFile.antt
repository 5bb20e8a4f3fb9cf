-- How it is told why the text of a file has no program that is checked.
use Rattle.std.specs.Prelude.{◌≡◌, ◌++◌, ℕ, List, Option, None, Some, codes}
use Rattle.life_check.specs.declared.fault.CheckFault.{CheckFault}
use Rattle.life_check.specs.declared.fault.CheckFault.TheVariants as check
use Rattle.life_lex.specs.declared.fault.LexFault.{LexFault}
use Rattle.life_lex.specs.declared.fault.LexFaultKind.{LexFaultKind}
use Rattle.life_lex.specs.declared.fault.LexFaultKind.TheVariants.{BadByte, UnclosedText, UnclosedComment, NumberTooLarge}
use Rattle.life_tree.specs.declared.limit.LimitName.{LimitName}
use Rattle.life_tree.specs.declared.limit.LimitName.TheVariants as limits
use Rattle.life_types.specs.Places.{position_text}
use Rattle.life_types.specs.declared.place.Place.{Place}
use Rattle.life_cli.specs.Answer.{Answer, refusal}
use Rattle.life_cli.specs.IllFormed.{ill_text}
use Rattle.life_cli.specs.declared.status.Status.{Status}
use Rattle.life_cli.specs.declared.status.Status.TheVariants.{Ill, Limit, Syntax}

-- what a lexical fault is called
abbrev pub lex_fault_name : LexFaultKind → List ℕ
lex_fault_name BadByte = codes "bad byte"
lex_fault_name UnclosedText = codes "unclosed text"
lex_fault_name UnclosedComment = codes "unclosed comment"
lex_fault_name NumberTooLarge = codes "number too large"

abbrev pub lex_fault_text : LexFault → List ℕ
lex_fault_text fault = position_text fault.place ++ codes ": " ++ lex_fault_name fault.kind

-- what a limit is called
abbrev pub limit_name : LimitName → List ℕ
limit_name limits.File = codes "file"
limit_name limits.Input = codes "input"
limit_name limits.Size = codes "size"
limit_name limits.Nesting = codes "nesting"
limit_name limits.Functions = codes "functions"
limit_name limits.Fields = codes "fields"
limit_name limits.Path = codes "path"
limit_name limits.Locations = codes "locations"
limit_name limits.Points = codes "points"
limit_name limits.Elements = codes "elements"

abbrev pub limit_text : LimitName → Option Place → List ℕ
limit_text name None = codes "limit: " ++ limit_name name
limit_text name (Some place) = position_text place ++ codes ": limit: " ++ limit_name name

-- the status and the line that tell it; want of memory says nothing of the text
abbrev pub fault_line : CheckFault → Option (Status × List ℕ)
fault_line (check.Lex fault) = Some (Syntax, lex_fault_text fault)
fault_line (check.Syntax at place) = Some (Syntax, position_text place ++ codes ": syntax")
fault_line (check.Ill kind place) = Some (Ill, ill_text kind place)
fault_line (check.Limit fault) = Some (Limit, limit_text fault.name fault.place)
fault_line check.NoMemory = None

-- the answer is that line
abbrev pub IsLine : Option (Status × List ℕ) → Answer → Type 0
IsLine None answer = ⊥
IsLine (Some told) answer = answer ≡ refusal told.0 told.1
