-- How reading goes, which nobody need believe: what was read before, in front of what is read next.
use Rattle.std.specs.Prelude.{List, [], ◌∷◌, Ok}
use Rattle.life_expr.specs.Read.{Read, ◌>>=◌}
use Rattle.life_tree.specs.Tree.{Tree, ◌⨾◌}

abbrev pub mapped : (Tree → Tree) → Read → Read
mapped f read = read >>= λ x. Ok (f x.0, x.1)

abbrev pub behind : Tree → Read → Read
behind t = mapped (λ u. t ⨾ u)

-- these trees, and then another
abbrev pub before : List Tree → Tree → Tree
before [] t = t
before (x ∷ xs) t = x ⨾ before xs t
