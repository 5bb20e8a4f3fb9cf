-- What is known of each part of a check by laws, so that the check needn't look for it.
use Rattle.std.specs.Prelude.{◌≡◌, length, true}
use Rattle.life_keys.specs.NamedTokens.{are_named}
use Rattle.life_tree.specs.Tree.{tokens_of}
use Rattle.life_tree.specs.Views.{program_tree}
use Rattle.life_tree.specs.declared.program.Program.{Program}
use Rattle.life_typed.specs.Programs.{ProgramForm}
use Rattle.life_well_typed.specs.Functions.{IsWellTyped}
use Rattle.life_well_typed.specs.Mains.{HasIntMain}
use Rattle.life_well_typed.specs.Names.{HasNames}
use Rattle.life_well_typed.specs.Results.{HasResults, HasTable}

-- a tree that was read from a text: its names are in its table
abbrev pub IsRead : Program → Type 0
IsRead tree = are_named (length tree.names.items) (tokens_of (program_tree tree)) ≡ true

-- a typed program of such a tree: it is well typed, its names are in its table, and no two functions have one
pub record IsTyped (p : ProgramForm) : Type 0 where
  pub well_typed : IsWellTyped p
  pub results : HasResults p
  pub mains : HasIntMain p
  pub table : HasTable p
  pub names : HasNames p
