-- Tokens whose names are in a table: the number of each is below how many names there are.
use Rattle.std.specs.Prelude.{ℕ, Bool, true, nat_lt, List}
use Rattle.std.specs.List.{list_all}
use Rattle.life_tree.specs.declared.key.TokenKey.{TokenKey}
use Rattle.life_tree.specs.declared.key.TokenKey.TheVariants.{Name}
use Rattle.life_tree.specs.declared.token.TreeToken.{TreeToken}

abbrev pub is_key_named : ℕ → TokenKey → Bool
is_key_named names (Name name) = nat_lt name.0 names
is_key_named names _ = true

-- a name of the table, or a token that is no name
abbrev pub is_named : ℕ → TreeToken → Bool
is_named names t = is_key_named names t.key

-- all tokens of a list are such
abbrev pub are_named : ℕ → List TreeToken → Bool
are_named names = list_all (is_named names)
