-- What is shown of each reader.
use Rattle.std.proofs.Common.{◌≡◌, ℕ, ◌≤◌, ◌+◌, Bool, true, false, List, [], ◌∷◌, ◌++◌, length, Ok, Err, ◌⊎◌}
use Rattle.life_expr.specs.Read.{refused, deep, Reader, starts}
use Rattle.life_parse.specs.Source.{SameFront}
use Rattle.life_parse.specs.Tails.{tails}
use Rattle.life_tree.specs.Grammar.{Form, Conforms, ElsesAreNearest, ends_open, is_else}
use Rattle.life_tree.specs.Tree.{Tree, tokens_of, depth, open_at, Tokens}
use Rattle.life_tree.specs.declared.token.TreeToken.{TreeToken}

-- an `else` stands in front
abbrev pub else_in_front : Tokens → Bool
else_in_front [] = false
else_in_front (k ∷ ks) = is_else k.key

-- a tree of this form, however deep
pub record IsTree (t : Tree) (f : Form) : Type 0 where
  pub conforms : Conforms t f
  pub elses : ElsesAreNearest t

-- nothing stands behind it that would go on with it
pub record Stops (t : Tree) (f : Form) (rest : Tokens) : Type 0 where
  pub tails : starts (tails f) rest ≡ false
  pub elses : else_in_front rest ≡ true → ends_open t ≡ false

-- p reads the trees of form f in which at most n constructs are open, and nothing else
pub record Good (p : Reader) (f : Form) (n : ℕ) : Type 0 where
  pub sound : (ts : Tokens) (t : Tree) (rest : Tokens) → p ts ≡ Ok (t, rest)
      → (ts ≡ tokens_of t ++ rest) × IsTree t f × (depth t ≤ n) × (else_in_front rest ≡ true → ends_open t ≡ false)
  pub again : (t : Tree) (rest : Tokens) → IsTree t f → depth t ≤ n → Stops t f rest → p (tokens_of t ++ rest) ≡ Ok (t, rest)

-- Where p stops, it has looked at no token but the next; q, which is p at another nesting, does the same on what begins so.
pub record Near (p q : Reader) : Type 0 where
  pub reads : (ts : Tokens) (t : Tree) (rest : Tokens) → p ts ≡ Ok (t, rest)
      → (pre : Tokens) × (ts ≡ pre ++ rest) × ((other : Tokens) → SameFront rest other → q (pre ++ other) ≡ Ok (t, other))
  pub refuses : (ts rest : Tokens) → p ts ≡ Err (refused rest)
      → (pre : Tokens) × (ts ≡ pre ++ rest) × ((other : Tokens) → SameFront rest other → q (pre ++ other) ≡ Err (refused other))
  -- and so it does itself where it goes too deep
  pub deepens : (ts rest : Tokens) → p ts ≡ Err (deep rest)
      → (pre : Tokens) × (ts ≡ pre ++ rest) × ((other : Tokens) → SameFront rest other → p (pre ++ other) ≡ Err (deep other))

-- what was read before p stopped is the beginning of a tree
pub record Closing (f : Form) (ts rest : Tokens) : Type 0 where
  pub before : Tokens
  pub closing : Tokens
  pub tree : Tree
  pub split : ts ≡ before ++ rest
  pub spelled : before ++ closing ≡ tokens_of tree
  pub fits : IsTree tree f

-- .. with the token in front, at which more than n are open
pub record Deepening (n : ℕ) (f : Form) (ts rest : Tokens) : Type 0 where
  pub before : Tokens
  pub closing : Tokens
  pub tree : Tree
  pub opener : TreeToken
  pub behind : Tokens
  pub split : ts ≡ before ++ rest
  pub front : rest ≡ opener ∷ behind
  pub spelled : before ++ opener ∷ closing ≡ tokens_of tree
  pub fits : IsTree tree f
  -- how many are open at the tokens of the tree, the opener among them
  pub counts : List ℕ
  pub later : List ℕ
  pub counted : open_at 0 tree ≡ counts ++ (n + 1) ∷ later
  pub as_far : length counts ≡ length before

pub record Closes (p : Reader) (f : Form) (n : ℕ) : Type 0 where
  pub refuses : (ts rest : Tokens) → p ts ≡ Err (refused rest) → Closing f ts rest
  pub deepens : (ts rest : Tokens) → p ts ≡ Err (deep rest) → Deepening n f ts rest

abbrev pub AllUpTo : ℕ → List ℕ → Type 0
AllUpTo n [] = Unit {0}
AllUpTo n (x ∷ xs) = (x ≤ n) × AllUpTo n xs

-- the first place where more than n are open, among these numbers of open constructs
pub record IsOver (n : ℕ) (counts : List ℕ) (place : ℕ) : Type 0 where
  pub low : List ℕ
  pub more : ℕ
  pub high : List ℕ
  pub split : counts ≡ low ++ more ∷ high
  pub as_far : length low ≡ place
  pub above : n + 1 ≤ more
  pub below : AllUpTo n low

-- p at n, where q at another nesting reads a tree: it reads the same tree, or goes too deep at the first token at which more than n are open
pub record Slow (p q : Reader) (n : ℕ) : Type 0 where
  pub slow : (ts : Tokens) (t : Tree) (rest : Tokens) → q ts ≡ Ok (t, rest)
      → ((p ts ≡ Ok (t, rest)) × (depth t ≤ n))
      ⊎ ((pre : Tokens) × (at : Tokens) × (ts ≡ pre ++ at) × (p ts ≡ Err (deep at)) × IsOver n (open_at 0 t) (length pre))
