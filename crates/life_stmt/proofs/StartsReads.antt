-- Which tokens are in front, by two lists of kinds.
use Rattle.std.proofs.Common.{◌≡◌, Bool, true, false, ◌||◌, List, [], ◌∷◌, ◌++◌, refl}
use Rattle.life_expr.specs.Heads.{Kind, is_of}
use Rattle.life_expr.specs.Read.{is_in, starts}
use Rattle.life_tree.specs.Tree.{Tokens}
use Rattle.life_tree.specs.declared.token.TreeToken.{TreeToken}

or_assoc : (a b c : Bool) → (a || (b || c)) ≡ ((a || b) || c)
or_assoc true b c = refl
or_assoc false b c = refl

in_both : (xs ys : List Kind) (k : TreeToken) → is_in (xs ++ ys) k ≡ (is_in xs k || is_in ys k)
in_both [] ys k = refl
in_both (x ∷ xs) ys k = rw (in_both xs ys k) (or_assoc (is_of x k) (is_in xs k) (is_in ys k))

starts_both : (xs ys : List Kind) (ts : Tokens) → starts (xs ++ ys) ts ≡ (starts xs ts || starts ys ts)
starts_both xs ys [] = refl
starts_both xs ys (k ∷ ks) = in_both xs ys k

pub starts_front : (xs ys : List Kind) (ts : Tokens) → starts xs ts ≡ true → starts (xs ++ ys) ts ≡ true
starts_front xs ys ts h = rw (starts_both xs ys ts, h) refl

pub starts_behind : (xs ys : List Kind) (ts : Tokens) → starts xs ts ≡ false → starts (xs ++ ys) ts ≡ starts ys ts
starts_behind xs ys ts h = rw (starts_both xs ys ts, h) refl
