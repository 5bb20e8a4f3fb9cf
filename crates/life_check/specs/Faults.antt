-- The faults of the parts of a check, as the check tells them.
use Rattle.life_elab.specs.declared.fault.ElabFault.{ElabFault}
use Rattle.life_elab.specs.declared.fault.ElabFault.TheVariants as elab
use Rattle.life_names.specs.declared.fault.IllFault.{IllFault}
use Rattle.life_names.specs.declared.fault.IllFault.TheVariants as typing
use Rattle.life_parse.specs.declared.fault.ParseFault.{ParseFault}
use Rattle.life_parse.specs.declared.fault.ParseFault.TheVariants as parsing
use Rattle.life_check.specs.declared.fault.CheckFault.{CheckFault}
use Rattle.life_check.specs.declared.fault.CheckFault.TheVariants.{Ill, Lex, Limit, NoMemory, Syntax}

-- why there is no tree
abbrev pub tree_fault : ParseFault → CheckFault
tree_fault (parsing.Lex fault) = Lex fault
tree_fault (parsing.Refused at place) = Syntax at place
tree_fault (parsing.Limit fault) = Limit fault
tree_fault parsing.NoMemory = NoMemory

-- .. why a tree has no types
abbrev pub type_fault : IllFault → CheckFault
type_fault (typing.Ill kind place) = Ill kind place
type_fault typing.NoMemory = NoMemory

-- .. why a typed program has no core program
abbrev pub limit_fault : ElabFault → CheckFault
limit_fault (elab.Limit fault) = Limit fault
limit_fault elab.NoMemory = NoMemory
