-- How reading goes, which nobody need believe: what an answer says of the tokens of a file.
use Rattle.std.specs.Prelude.{◌≡◌, ℕ, ◌<◌, List, map}
use Rattle.life_parse.specs.Source.{IsRefused, OpensTooMany, IsTooDeep}
use Rattle.life_parse.specs.declared.tokens.TokensFault.{TokensFault}
use Rattle.life_parse.specs.declared.tokens.TokensFault.TheVariants.{Refused, Deep, NoMemory}
use Rattle.life_tree.specs.Grammar.{IsProgram, Fits}
use Rattle.life_tree.specs.Rules as rules
use Rattle.life_tree.specs.Tree.{Tree, node, tokens_of, Tokens}
use Rattle.life_tree.specs.Views.{list_tree, definition_tree}
use Rattle.life_tree.specs.declared.program.Definition.{Definition}

-- the tree of a program's definitions
abbrev pub definitions_tree : List Definition → Tree
definitions_tree ds = node rules.program (list_tree (map definition_tree ds))

-- No tree that fits has these tokens.
abbrev pub HaveNoTree : Tokens → Type 0
HaveNoTree ts = (u : Tree) → Fits u → ts ≡ tokens_of u → ⊥

-- The tree is the one of these tokens.
pub record IsTheTree (ts : Tokens) (t : Tree) : Type 0 where
  pub spelled : ts ≡ tokens_of t
  pub fits : Fits t
  pub only : (u : Tree) → IsProgram u → ts ≡ tokens_of u → u ≡ t

-- A token is refused before any is the 65th open opener.
pub record AreRefused (ts : Tokens) (k : ℕ) : Type 0 where
  pub refused : IsRefused ts k
  pub shallow : (j : ℕ) → j < k → OpensTooMany ts j → ⊥
  pub none : HaveNoTree ts

-- A token is the 65th open opener before any is refused.
pub record AreTooDeep (ts : Tokens) (i : ℕ) : Type 0 where
  pub deep : IsTooDeep ts i
  pub first : (k : ℕ) → IsRefused ts k → i < k
  pub none : HaveNoTree ts

abbrev pub FaultOf : Tokens → TokensFault → Type 0
FaultOf ts (Refused k) = AreRefused ts k
FaultOf ts (Deep i) = AreTooDeep ts i
FaultOf ts NoMemory = Unit {0}
