-- The tokens of branches and of what a `for` starts with, as they are written one part after the other.
use Rattle.std.specs.Prelude.{List, [], ◌∷◌, ◌++◌, Option, Some, None}
use Rattle.life_tree.specs.Tree.{Tree, nothing, keys_of}
use Rattle.life_tree.specs.Views.{BranchView, ElseIfView, declaration_tree, simple_tree}
use Rattle.life_tree.specs.declared.fixed.TheConstants.{ELSE, IF}
use Rattle.life_tree.specs.declared.key.TokenKey.{TokenKey}
use Rattle.life_tree.specs.declared.key.TokenKey.TheVariants.{Fixed}
use Rattle.life_tree.specs.declared.stmt.ForStart.{ForStart}
use Rattle.life_tree.specs.declared.stmt.ForStart.TheVariants.{Declaration, Simple}

-- the tokens of a branch
abbrev pub branch_keys : BranchView → List TokenKey
branch_keys b = Fixed IF ∷ keys_of b.condition ++ keys_of b.body

-- .. of those behind `else`
abbrev pub else_if_keys : List ElseIfView → List TokenKey
else_if_keys [] = []
else_if_keys (e ∷ es) = (Fixed ELSE ∷ branch_keys e.branch) ++ else_if_keys es

-- what a `for` starts with, alone
abbrev pub start_tree : Option ForStart → Tree
start_tree None = nothing
start_tree (Some (Declaration d)) = declaration_tree d.value
start_tree (Some (Simple s)) = simple_tree s.value
