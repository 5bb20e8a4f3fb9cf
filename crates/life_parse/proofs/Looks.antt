-- A reader stops where it has looked at no token but the next: where that is the same, it stops so too.
use Rattle.std.proofs.Common.{◌≡◌, ◌<◌, Bool, false, List, [], ◌∷◌, ◌++◌, length, Result, Ok, Err, refl, sym, ap, subst, ◌∙◌}
use Rattle.life_expr.specs.Heads.{Kind}
use Rattle.life_expr.specs.Read.{Stop, refused, deep, starts, is_in}
use Rattle.life_tree.specs.Tree.{Tokens}
use Rattle.life_parse.specs.Source.{SameFront}

-- what reading answers, with the tokens from where it stopped
abbrev pub Answer : Type 0 → Type 0
Answer A = Result (A × Tokens) Stop

abbrev pub rest_of : {A : Type 0} → Answer A → Tokens
rest_of (Ok x) = x.1
rest_of (Err (refused ts)) = ts
rest_of (Err (deep ts)) = ts

-- the same answer, with other tokens there
abbrev pub instead : {A : Type 0} → Answer A → Tokens → Answer A
instead (Ok x) ts = Ok (x.0, ts)
instead (Err (refused us)) ts = Err (refused ts)
instead (Err (deep us)) ts = Err (deep ts)

abbrev pub LooksAt : {A : Type 0} → (Tokens → Answer A) → Tokens → Answer A → Type 0
LooksAt p ts r = (pre : Tokens) × (ts ≡ pre ++ rest_of r) × ((other : Tokens) → SameFront (rest_of r) other → p (pre ++ other) ≡ instead r other)

pub record Looks {A : Type 0} (p : Tokens → Answer A) : Type 0 where
  pub looks : (ts : Tokens) → LooksAt p ts (p ts)

-- where it reads something, it takes a token
pub record Shrinks {A : Type 0} (p : Tokens → Answer A) : Type 0 where
  pub shrinks : (ts : Tokens) (x : A) (rest : Tokens) → p ts ≡ Ok (x, rest) → length rest < length ts

-- both, where `empty` tells that it may take none
pub record Law {A : Type 0} (empty : Bool) (p : Tokens → Answer A) : Type 0 where
  pub looks : Looks p
  pub shrinks : empty ≡ false → Shrinks p

-- ---- the same token in front

pub same_behind : (pre rest other : Tokens) → SameFront rest other → SameFront (pre ++ rest) (pre ++ other)
same_behind [] rest other s = s
same_behind (k ∷ ks) rest other s = refl

pub starts_same : (kinds : List Kind) (rest other : Tokens) → SameFront rest other → starts kinds rest ≡ starts kinds other
starts_same kinds [] [] s = refl
starts_same kinds [] (l ∷ ls) s = absurd s
starts_same kinds (k ∷ ks) [] s = absurd s
starts_same kinds (k ∷ ks) (l ∷ ls) s = ap (is_in kinds) s

-- the test sees the same in front of pre and other as in front of ts
pub still : (kinds : List Kind) (ts pre rest other : Tokens) → ts ≡ pre ++ rest → SameFront rest other → starts kinds (pre ++ other) ≡ starts kinds ts
still kinds ts pre rest other e s = sym (starts_same kinds (pre ++ rest) (pre ++ other) (same_behind pre rest other s)) ∙ ap (starts kinds) (sym e)

-- what stops at once, having looked at the first token
pub stands : {A : Type 0} (p : Tokens → Answer A) (ts : Tokens) (r : Answer A) → rest_of r ≡ ts → ((other : Tokens) → SameFront ts other → p other ≡ instead r other) → LooksAt p ts r
stands p ts r e h = ([], sym e, λ other s. h other (subst (λ (v : Tokens). SameFront v other) e s))
