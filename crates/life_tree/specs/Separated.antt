-- The tokens of a list with commas between, as they are written one part after the other.
use Rattle.std.specs.Prelude.{Bool, true, List, [], ◌∷◌, ◌++◌}
use Rattle.life_types.specs.declared.place.Place.{Place}
use Rattle.life_tree.specs.Tree.{Tree, keys_of}
use Rattle.life_tree.specs.declared.fixed.TheConstants.{COMMA}
use Rattle.life_tree.specs.declared.key.TokenKey.{TokenKey}
use Rattle.life_tree.specs.declared.key.TokenKey.TheVariants.{Fixed}

-- the next of these commas, but none before the first part
abbrev pub separator : Bool → List Place → List TokenKey
separator true (comma ∷ commas) = Fixed COMMA ∷ []
separator _ commas = []

-- .. and those behind it
abbrev pub commas_behind : Bool → List Place → List Place
commas_behind true (comma ∷ commas) = commas
commas_behind _ commas = commas

-- as many commas as are left
abbrev pub comma_keys : List Place → List TokenKey
comma_keys [] = []
comma_keys (comma ∷ commas) = Fixed COMMA ∷ comma_keys commas

-- the tokens of parts, where others stand before them or not
abbrev pub separated_keys : Bool → List Place → List Tree → List TokenKey
separated_keys started commas [] = comma_keys commas
separated_keys started commas (t ∷ ts) = separator started commas ++ keys_of t ++ separated_keys true (commas_behind started commas) ts
