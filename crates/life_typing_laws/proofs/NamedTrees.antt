-- What is known of a tree whose names are in a table of so many names: each name in it has a number below that.
use Rattle.std.proofs.Common.{◌≡◌, ℕ, true, sym, ◌∙◌}
use Rattle.std.proofs.lemmas.Bool.{and_parts}
use Rattle.std.proofs.lemmas.List.Folds.{list_all-append}
use Rattle.life_keys.specs.NamedTokens.{are_named, is_key_named, is_named}
use Rattle.life_tree.specs.Tree.{Tree, nothing, without_else, token, ◌⨾◌, construct, node, tokens_of}

abbrev pub IsNamedTree : ℕ → Tree → Type 0
IsNamedTree names nothing = Unit {0}
IsNamedTree names without_else = Unit {0}
IsNamedTree names (token key place) = is_key_named names key ≡ true
IsNamedTree names (a ⨾ b) = IsNamedTree names a × IsNamedTree names b
IsNamedTree names (construct n place t) = IsNamedTree names t
IsNamedTree names (node r t) = IsNamedTree names t

pub tree_named : (names : ℕ) (t : Tree) → are_named names (tokens_of t) ≡ true → IsNamedTree names t
tree_named names nothing named = tt
tree_named names without_else named = tt
tree_named names (token key place) named = (and_parts (is_key_named names key) true named).0
tree_named names (a ⨾ b) named =
    let both = and_parts (are_named names (tokens_of a)) (are_named names (tokens_of b)) (sym (list_all-append (is_named names) (tokens_of a) (tokens_of b)) ∙ named) in
    (tree_named names a both.0, tree_named names b both.1)
tree_named names (construct n place t) named = tree_named names t named
tree_named names (node r t) named = tree_named names t named
