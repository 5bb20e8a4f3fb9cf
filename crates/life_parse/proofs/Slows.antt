-- A reader against itself at another nesting, built from such parts.
use Rattle.std.proofs.Common.{◌≡◌, ℕ, zero, suc, ◌+◌, ◌≤◌, Bool, true, false, List, [], ◌++◌, length, Ok, Err, if◌then◌else◌, ◌⊎◌, inl, inr, refl, sym, ap, subst, ◌∙◌, append_assoc, arith}
use Rattle.std.proofs.lemmas.List.{length-append}
use Rattle.life_parse.proofs.Binds.{bind_ok, ok_is, err_no_ok}
use Rattle.life_parse.proofs.Counts.{counts_length, counts_low, over_left, over_right}
use Rattle.life_parse.proofs.Laws.{IsOver, Slow}
use Rattle.life_expr.specs.Heads.{Kind}
use Rattle.life_expr.specs.Read.{deep, ◌>>=◌, Reader, starts, pair, made, many_below, as_many}
use Rattle.life_tree.specs.Rules.{Rule}
use Rattle.life_tree.specs.Tree.{Tree, nothing, ◌⨾◌, node, tokens_of, depth, open_at, Tokens}

-- where p goes too deep
abbrev pub TooDeep : Reader → ℕ → Tokens → Tree → Type 0
TooDeep p n ts t = (pre : Tokens) × (at : Tokens) × (ts ≡ pre ++ at) × (p ts ≡ Err (deep at)) × IsOver n (open_at 0 t) (length pre)

abbrev pub Outcome : Reader → ℕ → Tokens → Tree → Tokens → Type 0
Outcome p n ts t rest = ((p ts ≡ Ok (t, rest)) × (depth t ≤ n)) ⊎ TooDeep p n ts t

-- p against q, where fewer than n may be open at p; and the trees of q have the tokens that q took
pub record Follows (p q : Reader) (n : ℕ) : Type 0 where
  pub slow : (k : ℕ) → n ≡ suc k → (ts : Tokens) (t : Tree) (rest : Tokens) → q ts ≡ Ok (t, rest) → Outcome p k ts t rest
  pub spells : (ts : Tokens) (t : Tree) (rest : Tokens) → q ts ≡ Ok (t, rest) → ts ≡ tokens_of t ++ rest

pub Slow-follows : (p q : Reader) (n : ℕ) → Follows p q (suc n) → Slow p q n
Slow-follows p q n f = record { slow = f.slow n refl }

pub Follows-pair : (p p' : Reader) (q q' : Tree → Reader) (n : ℕ) → Follows p p' n → ((t : Tree) → Follows (q t) (q' t) n) → Follows (pair p q) (pair p' q') n
Follows-pair p p' q q' n f g = record {
  slow = λ k is ts t rest e.
      let a = bind_ok (p' ts) (λ x. q' x.0 x.1 >>= λ y. Ok (x.0 ⨾ y.0, y.1)) (t, rest) e in
      let b = bind_ok (q' a.0.0 a.0.1) (λ y. Ok (a.0.0 ⨾ y.0, y.1)) (t, rest) a.2 in
      let same = ok_is (a.0.0 ⨾ b.0.0, b.0.1) (t, rest) b.2 in
      subst (λ (y : Tree × Tokens). Outcome (pair p q) k ts y.0 y.1) same
      (go k ts a.0.0 a.0.1 b.0.0 b.0.1 (f.spells ts a.0.0 a.0.1 a.1) (f.slow k is ts a.0.0 a.0.1 a.1) ((g a.0.0).slow k is a.0.1 b.0.0 b.0.1 b.1));
  spells = λ ts t rest e.
      let a = bind_ok (p' ts) (λ x. q' x.0 x.1 >>= λ y. Ok (x.0 ⨾ y.0, y.1)) (t, rest) e in
      let b = bind_ok (q' a.0.0 a.0.1) (λ y. Ok (a.0.0 ⨾ y.0, y.1)) (t, rest) a.2 in
      let same = ok_is (a.0.0 ⨾ b.0.0, b.0.1) (t, rest) b.2 in
      subst (λ (y : Tree × Tokens). ts ≡ tokens_of y.0 ++ y.1) same
      (f.spells ts a.0.0 a.0.1 a.1 ∙ ap (λ (u : Tokens). tokens_of a.0.0 ++ u) ((g a.0.0).spells a.0.1 b.0.0 b.0.1 b.1) ∙ sym (append_assoc (tokens_of a.0.0) (tokens_of b.0.0) b.0.1));
}
  where
    go : (k : ℕ) (ts : Tokens) (x : Tree) (mid : Tokens) (y : Tree) (rest : Tokens) → ts ≡ tokens_of x ++ mid → Outcome p k ts x mid → Outcome (q x) k mid y rest → Outcome (pair p q) k ts (x ⨾ y) rest
    go k ts x mid y rest w (inr u) v = inr (u.0, u.1, u.2, rw u.3 refl, over_left k (open_at 0 x) (open_at 0 y) (length u.0) u.4)
    go k ts x mid y rest w (inl u) (inl v) = let a = u.1 in let b = v.1 in inl (rw (u.0, v.0) refl, omega arith)
    go k ts x mid y rest w (inl u) (inr v) =
        let far : length (open_at 0 x) + length v.0 ≡ length (tokens_of x ++ v.0) = ap (λ (j : ℕ). j + length v.0) (counts_length 0 x) ∙ sym (length-append (tokens_of x) v.0) in
        let le = u.1 in
        inr (
          tokens_of x ++ v.0,
          v.1,
          w ∙ ap (λ (r : Tokens). tokens_of x ++ r) v.2 ∙ sym (append_assoc (tokens_of x) v.0 v.1),
          rw (u.0, v.3) refl,
          subst (IsOver k (open_at 0 x ++ open_at 0 y)) far (over_right k (open_at 0 x) (open_at 0 y) (length v.0) (counts_low k 0 x (omega arith)) v.4),
        )

pub Follows-node : (r : Rule) (p q : Reader) (n : ℕ) → Follows p q n → Follows (made (node r) p) (made (node r) q) n
Follows-node r p q n f = record {
  slow = λ k is ts t rest e.
      let a = bind_ok (q ts) (λ x. Ok (node r x.0, x.1)) (t, rest) e in
      subst (λ (y : Tree × Tokens). Outcome (made (node r) p) k ts y.0 y.1) (ok_is (node r a.0.0, a.0.1) (t, rest) a.2)
      (go k ts a.0.0 a.0.1 (f.slow k is ts a.0.0 a.0.1 a.1));
  spells = λ ts t rest e.
      let a = bind_ok (q ts) (λ x. Ok (node r x.0, x.1)) (t, rest) e in
      subst (λ (y : Tree × Tokens). ts ≡ tokens_of y.0 ++ y.1) (ok_is (node r a.0.0, a.0.1) (t, rest) a.2) (f.spells ts a.0.0 a.0.1 a.1);
}
  where
    go : (k : ℕ) (ts : Tokens) (x : Tree) (rest : Tokens) → Outcome p k ts x rest → Outcome (made (node r) p) k ts (node r x) rest
    go k ts x rest (inl u) = inl (rw u.0 refl, u.1)
    go k ts x rest (inr u) = inr (u.0, u.1, u.2, rw u.3 refl, u.4)

-- the same choice on both sides
pub Follows-if : (c : Tokens → Bool) (p p' q q' : Reader) (n : ℕ) → Follows p p' n → Follows q q' n → Follows (λ ts. if c ts then p ts else q ts) (λ ts. if c ts then p' ts else q' ts) n
Follows-if c p p' q q' n f g = record {
  slow = λ k is ts t rest e. slow (c ts) k is ts t rest e;
  spells = λ ts t rest e. spells (c ts) ts t rest e;
}
  where
    -- the test is the same on both sides
    slow : (b : Bool) (k : ℕ) → n ≡ suc k → (ts : Tokens) (t : Tree) (rest : Tokens) → (if b then p' ts else q' ts) ≡ Ok (t, rest)
        → (((if b then p ts else q ts) ≡ Ok (t, rest)) × (depth t ≤ k)) ⊎ ((pre : Tokens) × (at : Tokens) × (ts ≡ pre ++ at) × ((if b then p ts else q ts) ≡ Err (deep at)) × IsOver k (open_at 0 t) (length pre))
    slow true k is ts t rest e = f.slow k is ts t rest e
    slow false k is ts t rest e = g.slow k is ts t rest e

    spells : (b : Bool) (ts : Tokens) (t : Tree) (rest : Tokens) → (if b then p' ts else q' ts) ≡ Ok (t, rest) → ts ≡ tokens_of t ++ rest
    spells true ts t rest e = f.spells ts t rest e
    spells false ts t rest e = g.spells ts t rest e

-- a reader of trees without constructs
pub Follows-itself : (q : Reader) (n : ℕ) → ((ts : Tokens) (t : Tree) (rest : Tokens) → q ts ≡ Ok (t, rest) → (ts ≡ tokens_of t ++ rest) × (depth t ≡ 0)) → Follows q q n
Follows-itself q n h = record {
  slow = λ k is ts t rest e. let flat = (h ts t rest e).1 in inl (e, omega arith);
  spells = λ ts t rest e. (h ts t rest e).0;
}

-- what reads nothing
pub Follows-none : (p q : Reader) (n : ℕ) → ((ts : Tokens) (t : Tree) (rest : Tokens) → q ts ≡ Ok (t, rest) → ⊥) → Follows p q n
Follows-none p q n h = record { slow = λ k is ts t rest e. absurd (h ts t rest e); spells = λ ts t rest e. absurd (h ts t rest e) }

pub Follows-empty : (t : Tree) (n : ℕ) → tokens_of t ≡ [] → depth t ≡ 0 → Follows (λ ts. Ok (t, ts)) (λ ts. Ok (t, ts)) n
Follows-empty t n none flat = Follows-itself (λ ts. Ok (t, ts)) n (λ ts u rest e. subst (λ (y : Tree × Tokens). (ts ≡ tokens_of y.0 ++ y.1) × (depth y.0 ≡ 0)) (ok_is (t, ts) (u, rest) e) (rw none refl, flat))

pub Follows-below : (kinds : List Kind) (p q : Reader) (n : ℕ) → Follows p q n → (k : ℕ) → Follows (many_below k kinds p) (many_below k kinds q) n
Follows-below kinds p q n f zero = Follows-none _ _ n (λ ts t rest e. err_no_ok _ _ e)
Follows-below kinds p q n f (suc k) =
    let more = Follows-below kinds p q n f k in
    Follows-if (starts kinds) (pair p (λ t. many_below k kinds p)) (pair q (λ t. many_below k kinds q)) (λ ts. Ok (nothing, ts)) (λ ts. Ok (nothing, ts)) n
    (Follows-pair p q (λ t. many_below k kinds p) (λ t. many_below k kinds q) n f (λ t. more)) (Follows-empty nothing n refl refl)

pub Follows-many : (kinds : List Kind) (p q : Reader) (n : ℕ) → Follows p q n → Follows (as_many kinds p) (as_many kinds q) n
unfolding as_many
Follows-many kinds p q n f = record {
  slow = λ k is ts t rest e. (Follows-below kinds p q n f (suc (length ts))).slow k is ts t rest e;
  spells = λ ts t rest e. (Follows-below kinds p q n f (suc (length ts))).spells ts t rest e;
}
