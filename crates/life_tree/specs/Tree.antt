-- Trees as plain data: what a rule of the grammar derives, with its tokens as leaves.
use Rattle.std.specs.Prelude.{ℕ, ◌+◌, max, Bool, true, false, ◌&&◌, List, [], ◌∷◌, ◌++◌}
use Rattle.life_types.specs.declared.place.Place.{Place}
use Rattle.life_tree.specs.Rules.{Rule}
use Rattle.life_tree.specs.declared.key.TokenKey.{TokenKey}
use Rattle.life_tree.specs.declared.key.TokenKey.TheVariants.{Fixed}
use Rattle.life_tree.specs.declared.token.TreeToken.{TreeToken}

infixr 30 ◌⨾◌
pub data Tree : Type 0 where
  -- no token
  nothing : Tree
  -- no token, where an `else` may stand and doesn't
  without_else : Tree
  -- a token, and where it stands
  token : TokenKey → Place → Tree
  -- one part and then the next; a list of parts ends in nothing
  ◌⨾◌ : Tree → Tree → Tree
  -- a construct: the quoted token that opens it, where that stands, and what is in it, up to its last token
  construct : ℕ → Place → Tree → Tree
  -- what a rule derives
  node : Rule → Tree → Tree

-- a place that no token of a file has
abbrev pub nowhere : Place
nowhere = record { line = 0; column = 0 }

abbrev pub Tokens : Type 0
Tokens = List TreeToken

-- the tokens of a tree in their order
abbrev pub tokens_of : Tree → Tokens
tokens_of nothing = []
tokens_of without_else = []
tokens_of (token key place) = record { key = key; place = place } ∷ []
tokens_of (a ⨾ b) = tokens_of a ++ tokens_of b
tokens_of (construct n place t) = record { key = Fixed n; place = place } ∷ tokens_of t
tokens_of (node rule t) = tokens_of t

-- .. without their places
abbrev pub keys_of : Tree → List TokenKey
keys_of nothing = []
keys_of without_else = []
keys_of (token key place) = key ∷ []
keys_of (a ⨾ b) = keys_of a ++ keys_of b
keys_of (construct n place t) = Fixed n ∷ keys_of t
keys_of (node rule t) = keys_of t

-- how many constructs are open at each of its tokens, where so many are open around it
abbrev pub open_at : ℕ → Tree → List ℕ
open_at n nothing = []
open_at n without_else = []
open_at n (token key place) = n ∷ []
open_at n (a ⨾ b) = open_at n a ++ open_at n b
open_at n (construct m place t) = (n + 1) ∷ open_at (n + 1) t
open_at n (node rule t) = open_at n t

-- the most that are open at one of its tokens
abbrev pub depth : Tree → ℕ
depth nothing = 0
depth without_else = 0
depth (token key place) = 0
depth (a ⨾ b) = max (depth a) (depth b)
depth (construct n place t) = depth t + 1
depth (node rule t) = depth t

-- a part that may be left out
abbrev pub is_empty : Tree → Bool
is_empty nothing = true
is_empty without_else = true
is_empty (token key place) = false
is_empty (a ⨾ b) = is_empty a && is_empty b
is_empty (construct n place t) = false
is_empty (node rule t) = is_empty t
