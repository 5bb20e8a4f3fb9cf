-- Good readers of any number of trees of a form, one after the other.
use Rattle.std.proofs.Common.{◌≡◌, ℕ, zero, suc, ◌<◌, ◌≤◌, Bool, true, false, cond, ◌++◌, length, Ok, refl, ap, subst, ◌∙◌, ⊎_elim, length-append, arith}
use Rattle.life_expr.specs.Heads.{heads, may_be_empty}
use Rattle.life_expr.specs.Read.{Read, Reader, ◌>>=◌, starts, many_below, as_many}
use Rattle.life_parse.specs.Tails.{tails}
use Rattle.life_parse.proofs.Binds.{bind_ok, ok_is}
use Rattle.life_parse.proofs.Elses.{second_closed}
use Rattle.life_parse.proofs.FirstTokens.{sane, begins_surely, has_tokens}
use Rattle.life_parse.proofs.GoodBelow.{Found, Sound, GoodBelow}
use Rattle.life_parse.proofs.GoodParts.{found_joined, append_parts, stops_first, shorter, shorter_rest}
use Rattle.life_parse.proofs.Laws.{IsTree, Stops}
use Rattle.life_parse.proofs.Parts.{many_parts}
use Rattle.life_parse.proofs.TokenKinds.{starts_parts, disjoint}
use Rattle.life_tree.specs.Grammar.{Form, many}
use Rattle.life_tree.specs.Tree.{Tree, nothing, ◌⨾◌, tokens_of, depth, Tokens}

many_sound : (k n : ℕ) (p : Reader) (f : Form) → Sound p f n → Sound (many_below k (heads f) p) (many f) n
many_sound zero n p f x ts t rest e = absurd cc
many_sound (suc k) n p f x ts t rest e = go (many_sound k n p f x) (starts (heads f) ts) e
  where
    go : Sound (many_below k (heads f) p) (many f) n → (b : Bool)
        → cond {A = Read} b (p ts >>= λ x. many_below k (heads f) p x.1 >>= λ y. Ok (x.0 ⨾ y.0, y.1)) (Ok (nothing, ts)) ≡ Ok (t, rest) → Found (many f) n ts t rest
    go more true e =
        let a = bind_ok (p ts) (λ x. many_below k (heads f) p x.1 >>= λ y. Ok (x.0 ⨾ y.0, y.1)) (t, rest) e in
        let m = bind_ok (many_below k (heads f) p a.0.1) (λ y. Ok (a.0.0 ⨾ y.0, y.1)) (t, rest) a.2 in
        subst (λ (y : Tree × Tokens). Found (many f) n ts y.0 y.1) (ok_is (a.0.0 ⨾ m.0.0, m.0.1) (t, rest) m.2)
        (found_joined f (many f) (many f) n ts a.0.1 m.0.1 a.0.0 m.0.0 (λ u v. (u, v)) (x ts a.0.0 a.0.1 a.1) (more a.0.1 m.0.0 m.0.1 m.1))
    go more false e = subst (λ (y : Tree × Tokens). Found (many f) n ts y.0 y.1) (ok_is (nothing, ts) (t, rest) e)
        (refl, record { conforms = tt; elses = tt }, omega arith, λ i. refl)

module _ (limit n : ℕ) (p : Reader) (f : Form) (s : sane f ≡ true) (m : may_be_empty f ≡ false) (d : disjoint (heads f) (tails f) ≡ true) (x : GoodBelow limit p f n) where
  -- of lists with fewer than k tokens
  abbrev AgainUpTo : ℕ → Tree → Tokens → Type 0
  AgainUpTo k t rest = length (tokens_of t ++ rest) < k → length (tokens_of t ++ rest) < limit → IsTree t (many f) → depth t ≤ n → Stops t (many f) rest → many_below k (heads f) p (tokens_of t ++ rest) ≡ Ok (t, rest)

  one_more : (k : ℕ) (a b : Tree) (rest : Tokens) → AgainUpTo k b rest → AgainUpTo (suc k) (a ⨾ b) rest
  one_more k a b rest ih short l i deep stops =
      let parts = starts_parts (heads f) (tails f) rest stops.tails in
      let first = x.again a (tokens_of b ++ rest) (shorter a b rest limit l) (record { conforms = i.conforms.0; elses = i.elses.0 }) (omega (arith, deep))
      (stops_first f (many f) (many f) a b rest s d (λ e. parts.1) i.elses i.conforms.1 stops) in
      let begun : starts (heads f) (tokens_of (a ⨾ b) ++ rest) ≡ true = ap (starts (heads f)) (append_parts a b rest) ∙ begins_surely a f (tokens_of b ++ rest) s m i.conforms.0 in
      let front : p (tokens_of (a ⨾ b) ++ rest) ≡ Ok (a, tokens_of b ++ rest) = ap p (append_parts a b rest) ∙ first in
      let some = has_tokens a f s m i.conforms.0 in
      let whole : length (tokens_of (a ⨾ b) ++ rest) ≡ length (tokens_of a ++ (tokens_of b ++ rest)) = ap length (append_parts a b rest) in
      let long : length (tokens_of a) ≡ suc (length some.1) = ap length some.2 in
      let fewer : length (tokens_of b ++ rest) < k = omega (arith, short, whole, long, length-append (tokens_of a) (tokens_of b ++ rest)) in
      rw (begun, front, ih fewer (shorter_rest a b rest limit l) (record { conforms = i.conforms.1; elses = i.elses.1 }) (omega (arith, deep)) (record { tails = stops.tails; elses = second_closed a b rest stops.elses })) refl

  many_again : (k : ℕ) (t : Tree) (rest : Tokens) → AgainUpTo k t rest
  many_again zero t rest short l i deep stops = absurd (omega (arith, short))
  many_again (suc k) t rest short l i deep stops = ⊎_elim (λ e. none t e stops) (λ e. some t e.0 e.1 (many_again k e.1 rest) e.2 short l i deep stops) (many_parts t f i.conforms)
    where
      none : (t : Tree) → t ≡ nothing → Stops t (many f) rest → many_below (suc k) (heads f) p (tokens_of t ++ rest) ≡ Ok (t, rest)
      none t e = rw e (λ (q : Stops nothing (many f) rest). rw ((starts_parts (heads f) (tails f) rest q.tails).0) refl)

      some : (t a b : Tree) → AgainUpTo k b rest → t ≡ a ⨾ b → AgainUpTo (suc k) t rest
      some t a b ih e = rw e (one_more k a b rest ih)

pub good_many : (limit n : ℕ) (p : Reader) (f : Form) → sane f ≡ true → may_be_empty f ≡ false → disjoint (heads f) (tails f) ≡ true → GoodBelow limit p f n
    → GoodBelow limit (as_many (heads f) p) (many f) n
unfolding as_many
good_many limit n p f s m d x = record {
  sound = λ ts t rest e. many_sound (suc (length ts)) n p f x.sound ts t rest e;
  again = λ t rest l i k stops. many_again limit n p f s m d x (suc (length (tokens_of t ++ rest))) t rest (omega arith) l i k stops;
}
