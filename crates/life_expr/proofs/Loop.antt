-- Reading as many as there are, one after the other, as a loop does.
use Rattle.std.proofs.Common.{◌≡◌, ℕ, zero, suc, ◌<◌, true, false, cond, List, [], ◌∷◌, ◌++◌, length, map, Ok, Err, refl, sym, ap, ◌∙◌, arith}
use Rattle.std.proofs.lemmas.List.{map_push}
use Rattle.life_expr.specs.declared.stop.Stop.{Stop as Fault}
use Rattle.life_expr.specs.declared.stop.Stop.TheVariants as faults
use Rattle.life_expr.specs.Gives.{Fails}
use Rattle.life_expr.specs.Heads.{Kind}
use Rattle.life_expr.specs.Read.{Stop, ◌>>=◌, Read, Reader, starts, many_below, as_many}
use Rattle.life_tree.specs.Tree.{Tree, nothing, ◌⨾◌, Tokens}
use Rattle.life_tree.specs.Views.{list_tree}

-- these trees, one after the other, and then t
abbrev pub onto : List Tree → Tree → Tree
onto [] t = t
onto (x ∷ xs) t = x ⨾ onto xs t

-- what was read before, and what is still read
abbrev pub with_front : List Tree → Read → Read
with_front front read = read >>= λ x. Ok (onto front x.0, x.1)

abbrev pub behind : Tree → Read → Read
behind t read = read >>= λ y. Ok (t ⨾ y.0, y.1)

-- each tree that p reads has a token
pub record Shrinks (p : Reader) : Type 0 where
  pub shrinks : (ts : Tokens) (t : Tree) (rest : Tokens) → p ts ≡ Ok (t, rest) → length rest < length ts

onto_more : (front : List Tree) (x t : Tree) → onto front (x ⨾ t) ≡ onto (front ++ x ∷ []) t
onto_more [] x t = refl
onto_more (y ∷ ys) x t = ap (λ (z : Tree). y ⨾ z) (onto_more ys x t)

onto_nothing : (front : List Tree) → onto front nothing ≡ list_tree front
onto_nothing [] = refl
onto_nothing (y ∷ ys) = ap (λ (z : Tree). y ⨾ z) (onto_nothing ys)

regroup : (front : List Tree) (x : Tree) (read : Read) → with_front front (behind x read) ≡ with_front (front ++ x ∷ []) read
regroup front x (Ok y) = ap (λ (t : Tree). Ok (t, y.1)) (onto_more front x y.0)
regroup front x (Err why) = refl

module _ (kinds : List Kind) {p : Reader} (s : Shrinks p) where
  fuel : (n m : ℕ) (ts : Tokens) → length ts < n → length ts < m → many_below n kinds p ts ≡ many_below m kinds p ts
  fuel zero m ts h k = absurd (omega arith)
  fuel (suc n) zero ts h k = absurd (omega arith)
  fuel (suc n) (suc m) ts h k = ap (λ (r : Read). cond (starts kinds ts) r (Ok (nothing, ts))) (go (p ts) refl (fuel n))
    where
      go : (r : Read) → p ts ≡ r → ((m : ℕ) (us : Tokens) → length us < n → length us < m → many_below n kinds p us ≡ many_below m kinds p us)
          → (r >>= λ x. behind x.0 (many_below n kinds p x.1)) ≡ (r >>= λ x. behind x.0 (many_below m kinds p x.1))
      go (Err e) is ih = refl
      go (Ok x) is ih = let less = s.shrinks ts x.0 x.1 is in ap (behind x.0) (ih m x.1 (omega arith) (omega arith))

  pub many_more : (ts : Tokens) (x : Tree) (rest : Tokens) → starts kinds ts ≡ true → p ts ≡ Ok (x, rest) → as_many kinds p ts ≡ behind x (as_many kinds p rest)
  unfolding as_many
  many_more ts x rest h e = rw (h, e) (ap (behind x) (fuel (length ts) (suc (length rest)) rest (s.shrinks ts x rest e) (omega arith)))

  pub many_fails : (ts : Tokens) (why : Stop) → starts kinds ts ≡ true → p ts ≡ Err why → as_many kinds p ts ≡ Err why
  unfolding as_many
  many_fails ts why h e = rw (h, e) refl

  pub many_ends : (ts : Tokens) → starts kinds ts ≡ false → as_many kinds p ts ≡ Ok (nothing, ts)
  unfolding as_many
  many_ends ts h = rw h refl

  -- one more
  pub reads_on : (front more : List Tree) (x : Tree) (ts rest : Tokens) (total : Read) → more ≡ front ++ x ∷ []
      → with_front front (as_many kinds p ts) ≡ total → starts kinds ts ≡ true → p ts ≡ Ok (x, rest) → with_front more (as_many kinds p rest) ≡ total
  reads_on front more x ts rest total pushed so_far h e =
      rw pushed (sym (regroup front x (as_many kinds p rest)) ∙ ap (with_front front) (sym (many_more ts x rest h e)) ∙ so_far)

  pub goes_on : {A : Type 0} (view : A → Tree) (items more : List A) (x : A) (ts rest : Tokens) (total : Read) → more ≡ items ++ x ∷ []
      → with_front (map view items) (as_many kinds p ts) ≡ total → starts kinds ts ≡ true → p ts ≡ Ok (view x, rest) → with_front (map view more) (as_many kinds p rest) ≡ total
  goes_on view items more x ts rest total pushed so_far h e =
      reads_on (map view items) (map view more) (view x) ts rest total (ap (map view) pushed ∙ map_push view items x) so_far h e

  -- the next can't be read
  pub fails : (front : List Tree) (ts : Tokens) (total : Read) (e : Fault) → with_front front (as_many kinds p ts) ≡ total
      → starts kinds ts ≡ true → Fails e (p ts) → Fails e total
  fails front ts total faults.Memory so_far h f = tt
  fails front ts total (faults.Refused r) so_far h f = sym so_far ∙ ap (with_front front) (many_fails ts _ h f)
  fails front ts total (faults.Deep r) so_far h f = sym so_far ∙ ap (with_front front) (many_fails ts _ h f)

  -- there is no other
  pub ends : (front : List Tree) (ts : Tokens) (total : Read) → with_front front (as_many kinds p ts) ≡ total → starts kinds ts ≡ false → total ≡ Ok (list_tree front, ts)
  ends front ts total so_far h = sym so_far ∙ ap (with_front front) (many_ends ts h) ∙ ap (λ (t : Tree). Ok (t, ts)) (onto_nothing front)
