-- Reading as many as there are looks at no token but the next. How often it may be read is counted by the tokens, and enough is enough.
use Rattle.std.proofs.Common.{◌≡◌, ℕ, zero, suc, ◌<◌, ◌+◌, true, false, cond, List, ◌++◌, length, Result, Ok, Err, refl, sym, ap, subst, ◌∙◌, arith}
use Rattle.std.proofs.lemmas.List.{append_cancel_right}
use Rattle.life_expr.specs.Heads.{Kind}
use Rattle.life_expr.specs.Read.{Stop, ◌>>=◌, Reader, starts, many_below, as_many}
use Rattle.life_parse.specs.Source.{SameFront}
use Rattle.life_parse.proofs.Looks.{Answer, rest_of, instead, LooksAt, Looks, Shrinks, Law}
use Rattle.life_parse.proofs.LooksOn.{Looks-done, Looks-refused, Looks-both, Looks-when}
use Rattle.life_tree.specs.Tree.{Tree, nothing, ◌⨾◌, Tokens}

-- ---- a reader that is given a number which is large enough where it passes the number of tokens

module _ {A : Type 0} (p : ℕ → Tokens → Answer A) (g : (n : ℕ) → Looks (p n)) (enough : (n m : ℕ) (ts : Tokens) → length ts < n → length ts < m → p n ts ≡ p m ts) where
  abbrev numbered : Tokens → Answer A
  numbered ts = p (suc (length ts)) ts

  pub Looks-numbered : Looks numbered
  Looks-numbered = record { looks = λ ts. go ts ((g (suc (length ts))).looks ts) }
    where
      by : (ts : Tokens) (n : ℕ) (other pre : Tokens) → length ts < n → ts ≡ pre ++ rest_of (numbered ts) → SameFront (rest_of (numbered ts)) other → p n (pre ++ other) ≡ instead (numbered ts) other
      by ts n other pre l e s =
          let is : p n ts ≡ numbered ts = enough n (suc (length ts)) ts l (omega arith) in
          let more = subst (λ (r : Answer A). LooksAt (p n) ts r) is ((g n).looks ts) in
          let front : pre ≡ more.0 = append_cancel_right pre more.0 (rest_of (numbered ts)) (sym e ∙ more.1) in
          ap (λ (v : Tokens). p n (v ++ other)) front ∙ more.2 other s

      go : (ts : Tokens) → LooksAt (p (suc (length ts))) ts (numbered ts) → LooksAt numbered ts (numbered ts)
      go ts l = (
        l.0,
        l.1,
        λ other s.
            enough (suc (length (l.0 ++ other))) (length ts + suc (length (l.0 ++ other))) (l.0 ++ other) (omega arith) (omega arith)
            ∙ by ts (length ts + suc (length (l.0 ++ other))) other l.0 (omega arith) l.1 s,
      )

-- ---- as many as there are

pub Looks-many_below : (n : ℕ) (kinds : List Kind) (p : Reader) → Looks p → Looks (many_below n kinds p)
Looks-many_below zero kinds p g = Looks-refused
Looks-many_below (suc n) kinds p g = Looks-when kinds _ _ (Looks-both p (λ x. many_below n kinds p) ◌⨾◌ g (λ x. Looks-many_below n kinds p g)) (Looks-done nothing)

abbrev behind : Tree → Result (Tree × Tokens) Stop → Result (Tree × Tokens) Stop
behind x r = r >>= λ y. Ok (x ⨾ y.0, y.1)

pub many_enough : (kinds : List Kind) (p : Reader) → Shrinks p → (n m : ℕ) (ts : Tokens) → length ts < n → length ts < m → many_below n kinds p ts ≡ many_below m kinds p ts
many_enough kinds p s zero m ts h k = absurd (omega arith)
many_enough kinds p s (suc n) zero ts h k = absurd (omega arith)
many_enough kinds p s (suc n) (suc m) ts h k = ap (λ (r : Answer Tree). cond (starts kinds ts) r (Ok (nothing, ts))) (go (p ts) refl (many_enough kinds p s n))
  where
    go : (r : Answer Tree) → p ts ≡ r → ((m : ℕ) (us : Tokens) → length us < n → length us < m → many_below n kinds p us ≡ many_below m kinds p us)
        → (r >>= λ x. behind x.0 (many_below n kinds p x.1)) ≡ (r >>= λ x. behind x.0 (many_below m kinds p x.1))
    go (Err e) is ih = refl
    go (Ok x) is ih = let less = s.shrinks ts x.0 x.1 is in ap (behind x.0) (ih m x.1 (omega arith) (omega arith))

pub Law-many : (kinds : List Kind) (p : Reader) → Law false p → Law true (as_many kinds p)
unfolding as_many
Law-many kinds p g = record {
  looks = Looks-numbered (λ n. many_below n kinds p) (λ n. Looks-many_below n kinds p g.looks) (many_enough kinds p (g.shrinks refl));
  shrinks = λ e. absurd cc;
}
