use Rattle.std.proofs.Common.{◌≡◌, ◌++◌, map, drop}
use Rattle.life_tree.specs.Tree.{keys_of}
use Rattle.life_tree.specs.Views.{list_tree, member_tree}
use Rattle.life_tree_tokens.proofs.program.write_members.Given as goal

abbrev pub invariant-members : goal.invariant-members
invariant-members l =
    l.keys.items ++ keys_of (list_tree (map member_tree (drop l.member-index l.members.items)))
    ≡ l.initial.keys.items ++ keys_of (list_tree (map member_tree l.members.items))
