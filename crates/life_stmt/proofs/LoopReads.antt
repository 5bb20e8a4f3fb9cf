-- Reading as many as there are, one after the other, as a loop does.
use Rattle.std.proofs.Common.{◌≡◌, ℕ, zero, suc, ◌<◌, true, false, cond, List, [], ◌∷◌, ◌++◌, length, Ok, Err, refl, sym, ap, ◌∙◌, arith}
use Rattle.life_expr.specs.declared.stop.Stop.{Stop as Fault}
use Rattle.life_expr.specs.declared.stop.Stop.TheVariants as faults
use Rattle.life_stmt.specs.Fronts.{mapped, behind, before}
use Rattle.life_expr.specs.Gives.{Fails}
use Rattle.life_expr.specs.Heads.{Kind}
use Rattle.life_expr.specs.Read.{Stop, ◌>>=◌, Read, Reader, starts, many_below, as_many}
use Rattle.life_stmt.proofs.ShrinksReads.{Takes, shrinks}
use Rattle.life_tree.specs.Tree.{Tree, nothing, ◌⨾◌, Tokens}
use Rattle.life_tree.specs.Views.{list_tree}

-- ---- what stands in front

pub before_nothing : (xs : List Tree) → before xs nothing ≡ list_tree xs
before_nothing [] = refl
before_nothing (x ∷ xs) = ap (λ (t : Tree). x ⨾ t) (before_nothing xs)

pub before_more : (xs : List Tree) (x t : Tree) → before xs (x ⨾ t) ≡ before (xs ++ x ∷ []) t
before_more [] x t = refl
before_more (y ∷ ys) x t = ap (λ (u : Tree). y ⨾ u) (before_more ys x t)

-- ---- the loop

pub mapped_same : (f g : Tree → Tree) → ((t : Tree) → f t ≡ g t) → (read : Read) → mapped f read ≡ mapped g read
mapped_same f g same (Ok x) = ap (λ (t : Tree). Ok (t, x.1)) (same x.0)
mapped_same f g same (Err s) = refl

mapped_twice : (f : Tree → Tree) (t : Tree) (read : Read) → mapped f (behind t read) ≡ mapped (λ u. f (t ⨾ u)) read
mapped_twice f t (Ok x) = refl
mapped_twice f t (Err s) = refl

-- one, and then as many as there are
pub some_reads : (kinds : List Kind) (p : Reader) (ts : Tokens) (t : Tree) (rest : Tokens) (front : List Tree) → front ≡ t ∷ [] → p ts ≡ Ok (t, rest)
    → (p ts >>= λ x. behind x.0 (as_many kinds p x.1)) ≡ mapped (before front) (as_many kinds p rest)
some_reads kinds p ts t rest front alone e = rw (alone, e) refl

module _ (kinds : List Kind) (p : Reader) (s : Takes false p) where
  fuel : (n m : ℕ) (ts : Tokens) → length ts < n → length ts < m → many_below n kinds p ts ≡ many_below m kinds p ts
  fuel zero m ts h k = absurd (omega arith)
  fuel (suc n) zero ts h k = absurd (omega arith)
  fuel (suc n) (suc m) ts h k = ap (λ (r : Read). cond (starts kinds ts) r (Ok (nothing, ts))) (go (p ts) refl (fuel n))
    where
      go : (r : Read) → p ts ≡ r → ((m : ℕ) (us : Tokens) → length us < n → length us < m → many_below n kinds p us ≡ many_below m kinds p us)
          → (r >>= λ x. behind x.0 (many_below n kinds p x.1)) ≡ (r >>= λ x. behind x.0 (many_below m kinds p x.1))
      go (Err e) is ih = refl
      go (Ok x) is ih = let less = shrinks p s ts x.0 x.1 is in ap (behind x.0) (ih m x.1 (omega arith) (omega arith))

  pub many_more : (ts : Tokens) (t : Tree) (rest : Tokens) → starts kinds ts ≡ true → p ts ≡ Ok (t, rest) → as_many kinds p ts ≡ behind t (as_many kinds p rest)
  unfolding as_many
  many_more ts t rest h e = rw (h, e) (ap (behind t) (fuel (length ts) (suc (length rest)) rest (shrinks p s ts t rest e) (omega arith)))

  pub many_fails : (ts : Tokens) (why : Stop) → starts kinds ts ≡ true → p ts ≡ Err why → as_many kinds p ts ≡ Err why
  unfolding as_many
  many_fails ts why h e = rw (h, e) refl

  pub many_ends : (ts : Tokens) → starts kinds ts ≡ false → as_many kinds p ts ≡ Ok (nothing, ts)
  unfolding as_many
  many_ends ts h = rw h refl

  pub goes_on : (front front' : Tree → Tree) (ts : Tokens) (t : Tree) (rest : Tokens) (total : Read) → ((u : Tree) → front (t ⨾ u) ≡ front' u)
      → starts kinds ts ≡ true → p ts ≡ Ok (t, rest) → mapped front (as_many kinds p ts) ≡ total → mapped front' (as_many kinds p rest) ≡ total
  goes_on front front' ts t rest total same h e so_far =
      sym (mapped_same (λ u. front (t ⨾ u)) front' same (as_many kinds p rest)) ∙ sym (mapped_twice front t (as_many kinds p rest)) ∙ ap (mapped front) (sym (many_more ts t rest h e)) ∙ so_far

  -- .. where these trees stand in front
  pub reads_on : (front more : List Tree) (ts : Tokens) (t : Tree) (rest : Tokens) (total : Read) → more ≡ front ++ t ∷ [] → starts kinds ts ≡ true
      → p ts ≡ Ok (t, rest) → mapped (before front) (as_many kinds p ts) ≡ total → mapped (before more) (as_many kinds p rest) ≡ total
  reads_on front more ts t rest total one h e so_far =
      rw one (goes_on (before front) (before (front ++ t ∷ [])) ts t rest total (λ u. before_more front t u) h e so_far)

  pub fails : (e : Fault) (front : Tree → Tree) (ts : Tokens) (total : Read) → starts kinds ts ≡ true → Fails e (p ts) → mapped front (as_many kinds p ts) ≡ total → Fails e total
  fails faults.Memory front ts total h f so_far = tt
  fails (faults.Refused r) front ts total h f so_far = sym so_far ∙ ap (mapped front) (many_fails ts _ h f)
  fails (faults.Deep r) front ts total h f so_far = sym so_far ∙ ap (mapped front) (many_fails ts _ h f)

  pub ends : (front : Tree → Tree) (ts : Tokens) (total : Read) → starts kinds ts ≡ false → mapped front (as_many kinds p ts) ≡ total → total ≡ Ok (front nothing, ts)
  ends front ts total h so_far = sym so_far ∙ ap (mapped front) (many_ends ts h)
