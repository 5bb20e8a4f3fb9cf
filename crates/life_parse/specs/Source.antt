-- What the tree of a file is, and where a file has none.
use Rattle.std.specs.Prelude.{◌≡◌, ℕ, ◌<◌, [], ◌∷◌, ◌++◌, length, slice_get, Some}
use Rattle.life_tree.specs.Grammar.{IsProgram}
use Rattle.life_tree.specs.Tree.{Tree, tokens_of, open_at, Tokens}
use Rattle.life_tree.specs.declared.token.TreeToken.{TreeToken}

-- the same token in front, the end of the file being one too
abbrev pub SameFront : Tokens → Tokens → Type 0
SameFront [] [] = Unit {0}
SameFront [] (l ∷ ls) = ⊥
SameFront (k ∷ ks) [] = ⊥
SameFront (k ∷ ks) (l ∷ ls) = k ≡ l

-- Some program, however deep, begins with these tokens.
pub record IsBegun (ts : Tokens) : Type 0 where
  pub tree : Tree
  pub program : IsProgram tree
  pub more : Tokens
  pub spelled : tokens_of tree ≡ ts ++ more

-- The token with number k is refused: no program begins with the tokens up to it, and some program with those before it.
pub record IsRefused (ts : Tokens) (k : ℕ) : Type 0 where
  pub before : Tokens
  pub rest : Tokens
  pub split : ts ≡ before ++ rest
  pub as_far : length before ≡ k
  pub begun : IsBegun before
  pub ended : (t : Tree) → IsProgram t → (other : Tokens) → SameFront rest other → tokens_of t ≡ before ++ other → ⊥

-- Some program begins with the tokens up to the one with number i, at which 65 constructs are open.
pub record OpensTooMany (ts : Tokens) (i : ℕ) : Type 0 where
  pub before : Tokens
  pub opener : TreeToken
  pub behind : Tokens
  pub split : ts ≡ before ++ opener ∷ behind
  pub as_far : length before ≡ i
  pub tree : Tree
  pub program : IsProgram tree
  pub more : Tokens
  pub spelled : tokens_of tree ≡ before ++ opener ∷ more
  pub counted : slice_get (open_at 0 tree) i ≡ Some 65

-- .. and none before it is such a one.
pub record IsTooDeep (ts : Tokens) (i : ℕ) : Type 0 where
  pub opens : OpensTooMany ts i
  pub least : (j : ℕ) → j < i → OpensTooMany ts j → ⊥
