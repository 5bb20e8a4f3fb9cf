-- What tokens say: where they stand, and which number or name they have.
use Rattle.std.proofs.Common.{◌≡◌, ℕ, Bool, true, false, Option, None, Some, refl}
use Rattle.life_types.specs.declared.ty.NameId.{NameId}
use Rattle.life_types.specs.declared.place.Place.{Place}
use Rattle.life_tree.specs.Rules as rules
use Rattle.life_tree.specs.Tree.{Tree, nothing, token, ◌⨾◌, construct, node, nowhere}
use Rattle.life_tree.specs.declared.key.TokenKey.{TokenKey}
use Rattle.life_tree.specs.declared.key.TokenKey.TheVariants.{Fixed, Name}
use Rattle.life_tree.specs.Views.{at, optional_tree}
use Rattle.life_tree.specs.declared.identifier.Identifier.{Identifier}
use Rattle.life_tree.specs.declared.identifier.Qualified.{Qualified}

abbrev pub place_of : Tree → Place
place_of (token key place) = place
place_of (construct n place t) = place
place_of _ = nowhere

-- the number of a quoted token
abbrev pub key_number : TokenKey → ℕ
key_number (Fixed n) = n
key_number _ = 0

abbrev pub number_of : Tree → ℕ
number_of (token key place) = key_number key
number_of (construct n place t) = n
number_of _ = 0

-- the token of a name, as a name
abbrev pub key_name : TokenKey → NameId
key_name (Name id) = id
key_name _ = record { 0 = 0 }

abbrev pub name_of : Tree → Identifier
name_of (token key place) = record { id = key_name key; place = place }
name_of _ = record { id = record { 0 = 0 }; place = nowhere }

abbrev pub qualified : Tree → Tree → Tree → Qualified
qualified namespace scope word = record { namespace = place_of namespace; scope = place_of scope; word = place_of word }

-- where a token stands that may be missing
abbrev pub place_if : Tree → Option Place
place_if (token key place) = Some place
place_if _ = None

pub place_if_is : (n : ℕ) (o : Option Place) → place_if (optional_tree (at n) o) ≡ o
place_if_is n None = refl
place_if_is n (Some place) = refl

-- a part that is left out
abbrev pub is_nothing : Tree → Bool
is_nothing nothing = true
is_nothing _ = false

-- a list in braces
abbrev pub is_list : Tree → Bool
is_list (node rules.list t) = true
is_list _ = false

abbrev pub is_node : Tree → Bool
is_node (node rule t) = true
is_node _ = false

abbrev pub is_pair : Tree → Bool
is_pair (a ⨾ b) = true
is_pair _ = false

-- the first part, and what is behind it
abbrev pub front : Tree → Tree
front (a ⨾ b) = a
front _ = nothing

abbrev pub behind : Tree → Tree
behind (a ⨾ b) = b
behind _ = nothing

-- what a construct opens
abbrev pub inside : Tree → Tree
inside (construct n place t) = t
inside _ = nothing

-- what a rule derives
abbrev pub derived : Tree → Tree
derived (node rule t) = t
derived _ = nothing
