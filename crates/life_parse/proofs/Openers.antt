-- Reading the token that opens a construct, and then what is in it.
use Rattle.std.proofs.Common.{◌≡◌, ℕ, suc, Bool, true, false, [], ◌∷◌, Result, Ok, Err, if◌then◌else◌, nat_lt, inl, inr, ◌⊎◌, refl, ap, subst, arith, lt-ltb, ltb-false}
use Rattle.life_parse.proofs.Binds.{bind_ok, ok_is, err_no_ok}
use Rattle.life_parse.proofs.Takes.{quoted_token}
use Rattle.life_expr.specs.Heads.{quoted_kind, is_of}
use Rattle.life_expr.specs.Read.{Stop, refused, deep, ◌>>=◌, Read, Reader, opener}
use Rattle.life_tree.specs.Tree.{Tree, construct, Tokens}
use Rattle.life_tree.specs.declared.key.TokenKey.TheVariants as keys
use Rattle.life_tree.specs.declared.token.TreeToken.{TreeToken}
use Rattle.life_types.specs.declared.place.Place.{Place}

-- what passing an opener says
pub record Passed (n m : ℕ) (ts : Tokens) (place : Place) (rest : Tokens) : Type 0 where
  pub front : ts ≡ record { key = keys.Fixed m; place = place } ∷ rest
  pub full : opener 0 m ts ≡ Err (deep ts)
  pub room : (k : ℕ) → opener (suc k) m ts ≡ Ok (place, rest)
  pub more : nat_lt 0 n ≡ true

pub passed : (n m : ℕ) (ts : Tokens) (place : Place) (rest : Tokens) → opener n m ts ≡ Ok (place, rest) → Passed n m ts place rest
passed n m [] place rest e = absurd (err_no_ok _ _ e)
passed n m (k ∷ ks) place rest e = go (is_of (quoted_kind m) k) refl (nat_lt 0 n) refl e
  where
    go : (b : Bool) → is_of (quoted_kind m) k ≡ b → (c : Bool) → nat_lt 0 n ≡ c
        → (◌≡◌ {A = Result (Place × Tokens) Stop} (if b then (if c then Ok (k.place, ks) else Err (deep (k ∷ ks))) else Err (refused (k ∷ ks))) (Ok (place, rest)))
        → Passed n m (k ∷ ks) place rest
    go true is true has e =
        let same = ok_is (k.place, ks) (place, rest) e in
        subst (λ (x : Place × Tokens). Passed n m (k ∷ ks) x.0 x.1) same (record {
          front = ap (λ (l : TreeToken). l ∷ ks) (quoted_token m k is);
          full = rw is refl;
          room = λ j. rw (is, lt-ltb 0 (suc j) (omega arith)) refl;
          more = has;
        })
    go true is false has e = absurd (err_no_ok _ _ e)
    go false is c has e = absurd (err_no_ok _ _ e)

-- what not passing an opener says
pub unopened : (n m : ℕ) (ts : Tokens) (s : Stop) → opener n m ts ≡ Err s
    → (s ≡ refused ts) ⊎ ((n ≡ 0) × (s ≡ deep ts) × (place : Place) × (mid : Tokens) × (ts ≡ record { key = keys.Fixed m; place = place } ∷ mid))
unopened n m [] s e = inl cc
unopened n m (k ∷ ks) s e = go (is_of (quoted_kind m) k) refl (nat_lt 0 n) refl e
  where
    go : (b : Bool) → is_of (quoted_kind m) k ≡ b → (c : Bool) → nat_lt 0 n ≡ c
        → (◌≡◌ {A = Result (Place × Tokens) Stop} (if b then (if c then Ok (k.place, ks) else Err (deep (k ∷ ks))) else Err (refused (k ∷ ks))) (Err s))
        → (s ≡ refused (k ∷ ks)) ⊎ ((n ≡ 0) × (s ≡ deep (k ∷ ks)) × (place : Place) × (mid : Tokens) × (k ∷ ks ≡ record { key = keys.Fixed m; place = place } ∷ mid))
    go true is true has h = absurd cc
    go true is false has h = let none = ltb-false 0 n has in inr (omega arith, cc, k.place, ks, ap (λ (l : TreeToken). l ∷ ks) (quoted_token m k is))
    go false is c has h = inl cc

-- the construct m at place, and what was read in it
abbrev pub enclosed : ℕ → Place → Read → Read
enclosed m place read = read >>= λ y. Ok (construct m place y.0, y.1)

-- an opener and then what p reads
abbrev pub opened : ℕ → ℕ → Reader → Reader
opened n m p ts = opener n m ts >>= λ x. p x.1 >>= λ y. Ok (construct m x.0 y.0, y.1)

-- what was read of a construct
pub record Construct (b m : ℕ) (q : Reader) (ts : Tokens) (t : Tree) (rest : Tokens) : Type 0 where
  pub place : Place
  pub mid : Tokens
  pub inner : Tree
  pub passing : Passed b m ts place mid
  pub reading : q mid ≡ Ok (inner, rest)
  pub is : construct m place inner ≡ t

pub construct_read : (b m : ℕ) (q : Reader) (ts : Tokens) (t : Tree) (rest : Tokens) → opened b m q ts ≡ Ok (t, rest) → Construct b m q ts t rest
construct_read b m q ts t rest e =
    let a = bind_ok (opener b m ts) (λ x. q x.1 >>= λ y. Ok (construct m x.0 y.0, y.1)) (t, rest) e in
    let c = bind_ok (q a.0.1) (λ y. Ok (construct m a.0.0 y.0, y.1)) (t, rest) a.2 in
    let same = ok_is (construct m a.0.0 c.0.0, c.0.1) (t, rest) c.2 in
    record {
      place = a.0.0;
      mid = a.0.1;
      inner = c.0.0;
      passing = passed b m ts a.0.0 a.0.1 a.1;
      reading = subst (λ (r : Tokens). q a.0.1 ≡ Ok (c.0.0, r)) (ap (λ (x : Tree × Tokens). x.1) same) c.1;
      is = ap (λ (x : Tree × Tokens). x.0) same;
    }
