-- One token, one reader after another, and one of two, look at no token but the next.
use Rattle.std.proofs.Common.{◌≡◌, ℕ, suc, ◌<◌, ◌≤◌, nat_lt, Bool, true, false, cond, ◌&&◌, ◌||◌, List, [], ◌∷◌, ◌++◌, length, Result, Ok, Err, refl, sym, ap, subst, ◌∙◌, append_assoc, arith}
use Rattle.std.proofs.lemmas.List.{length-append}
use Rattle.life_expr.specs.Heads.{Kind, is_of, quoted_kind}
use Rattle.life_expr.specs.Read.{Stop, refused, deep, ◌>>=◌, starts, the_token, opener}
use Rattle.life_parse.specs.Source.{SameFront}
use Rattle.life_parse.proofs.Binds.{bind_ok, ok_is}
use Rattle.life_parse.proofs.Looks.{Answer, rest_of, LooksAt, Looks, Shrinks, Law, same_behind, still, stands}
use Rattle.life_tree.specs.Tree.{Tree, Tokens}
use Rattle.life_tree.specs.declared.token.TreeToken.{TreeToken}
use Rattle.life_types.specs.declared.place.Place.{Place}

abbrev fine : {A : Type 0} → A → Result A Stop
fine x = Ok x

pub rest_is : {A : Type 0} (x y : A × Tokens) → fine x ≡ fine y → length x.1 ≡ length y.1
rest_is x y e = ap (λ (z : _ × Tokens). length z.1) (ok_is x y e)

-- what is left is no more than there was
pub keeps : {A : Type 0} (p : Tokens → Answer A) → Looks p → (ts : Tokens) → length (rest_of (p ts)) ≤ length ts
keeps p g ts = let l = g.looks ts in omega (arith, ap length l.1, length-append l.0 (rest_of (p ts)))

pub keeps_ok : {A : Type 0} (p : Tokens → Answer A) → Looks p → (ts : Tokens) (x : A) (rest : Tokens) → p ts ≡ Ok (x, rest) → length rest ≤ length ts
keeps_ok {A} p g ts x rest e = subst (λ (r : Answer A). length (rest_of r) ≤ length ts) e (keeps p g ts)

-- ---- no token

pub Looks-done : {A : Type 0} (x : A) → Looks (λ ts. Ok (x, ts))
Looks-done x = record { looks = λ ts. stands (λ us. Ok (x, us)) ts (Ok (x, ts)) refl (λ other s. refl) }

pub Looks-refused : {A : Type 0} → Looks {A = A} (λ ts. Err (refused ts))
Looks-refused {A} = record { looks = λ ts. stands {A = A} (λ us. Err (refused us)) ts (Err (refused ts)) refl (λ other s. refl) }

pub Looks-deep : {A : Type 0} → Looks {A = A} (λ ts. Err (deep ts))
Looks-deep {A} = record { looks = λ ts. stands {A = A} (λ us. Err (deep us)) ts (Err (deep ts)) refl (λ other s. refl) }

-- ---- one token

token_looks : (kind : Kind) (f : TreeToken → Tree) (ts : Tokens) → LooksAt (the_token kind f) ts (the_token kind f ts)
token_looks kind f [] = stands (the_token kind f) [] (Err (refused [])) refl at_end
  where
    at_end : (other : Tokens) → SameFront [] other → the_token kind f other ≡ Err (refused other)
    at_end [] s = refl
    at_end (l ∷ ls) s = absurd s
token_looks kind f (k ∷ ks) = go (is_of kind k) refl
  where
    not_it : is_of kind k ≡ false → (other : Tokens) → SameFront (k ∷ ks) other → the_token kind f other ≡ Err (refused other)
    not_it is [] s = absurd s
    not_it is (l ∷ ls) s = let h : is_of kind l ≡ false = ap (is_of kind) (sym s) ∙ is in rw h refl

    go : (b : Bool) → is_of kind k ≡ b → LooksAt (the_token kind f) (k ∷ ks) (cond b (Ok (f k, ks)) (Err (refused (k ∷ ks))))
    go true is = (k ∷ [], refl, λ other s. rw is refl)
    go false is = stands (the_token kind f) (k ∷ ks) (Err (refused (k ∷ ks))) refl (not_it is)

token_shrinks : (kind : Kind) (f : TreeToken → Tree) (ts : Tokens) (x : Tree) (rest : Tokens) → the_token kind f ts ≡ Ok (x, rest) → length rest < length ts
token_shrinks kind f [] x rest e = absurd cc
token_shrinks kind f (k ∷ ks) x rest e = go (is_of kind k) e
  where
    go : (b : Bool) → ◌≡◌ {A = Answer Tree} (cond b (Ok (f k, ks)) (Err (refused (k ∷ ks)))) (Ok (x, rest)) → length rest < suc (length ks)
    go true h = let same = rest_is (f k, ks) (x, rest) h in omega arith
    go false h = absurd cc

pub Law-token : (empty : Bool) (kind : Kind) (f : TreeToken → Tree) → Law empty (the_token kind f)
Law-token empty kind f = record { looks = record { looks = token_looks kind f }; shrinks = λ h. record { shrinks = token_shrinks kind f } }

opener_looks : (n m : ℕ) (ts : Tokens) → LooksAt (opener n m) ts (opener n m ts)
opener_looks n m [] = stands (opener n m) [] (Err (refused [])) refl at_end
  where
    at_end : (other : Tokens) → SameFront [] other → opener n m other ≡ Err (refused other)
    at_end [] s = refl
    at_end (l ∷ ls) s = absurd s
opener_looks n m (k ∷ ks) = go (is_of (quoted_kind m) k) refl (nat_lt 0 n) refl
  where
    not_it : is_of (quoted_kind m) k ≡ false → (other : Tokens) → SameFront (k ∷ ks) other → opener n m other ≡ Err (refused other)
    not_it is [] s = absurd s
    not_it is (l ∷ ls) s = let h : is_of (quoted_kind m) l ≡ false = ap (is_of (quoted_kind m)) (sym s) ∙ is in rw h refl

    too_deep : is_of (quoted_kind m) k ≡ true → nat_lt 0 n ≡ false → (other : Tokens) → SameFront (k ∷ ks) other → opener n m other ≡ Err (deep other)
    too_deep is has [] s = absurd s
    too_deep is has (l ∷ ls) s = let h : is_of (quoted_kind m) l ≡ true = ap (is_of (quoted_kind m)) (sym s) ∙ is in rw (h, has) refl

    go : (b : Bool) → is_of (quoted_kind m) k ≡ b → (c : Bool) → nat_lt 0 n ≡ c → LooksAt (opener n m) (k ∷ ks) (cond b (cond c (Ok (k.place, ks)) (Err (deep (k ∷ ks)))) (Err (refused (k ∷ ks))))
    go true is true has = (k ∷ [], refl, λ other s. rw (is, has) refl)
    go true is false has = stands (opener n m) (k ∷ ks) (Err (deep (k ∷ ks))) refl (too_deep is has)
    go false is c has = stands (opener n m) (k ∷ ks) (Err (refused (k ∷ ks))) refl (not_it is)

opener_shrinks : (n m : ℕ) (ts : Tokens) (x : Place) (rest : Tokens) → opener n m ts ≡ Ok (x, rest) → length rest < length ts
opener_shrinks n m [] x rest e = absurd cc
opener_shrinks n m (k ∷ ks) x rest e = go (is_of (quoted_kind m) k) (nat_lt 0 n) e
  where
    go : (b c : Bool) → ◌≡◌ {A = Answer Place} (cond b (cond c (Ok (k.place, ks)) (Err (deep (k ∷ ks)))) (Err (refused (k ∷ ks)))) (Ok (x, rest)) → length rest < suc (length ks)
    go true true h = let same = rest_is (k.place, ks) (x, rest) h in omega arith
    go true false h = absurd cc
    go false c h = absurd cc

pub Law-opener : (empty : Bool) (n m : ℕ) → Law empty (opener n m)
Law-opener empty n m = record { looks = record { looks = opener_looks n m }; shrinks = λ h. record { shrinks = opener_shrinks n m } }

-- ---- one after the other

abbrev pub both : {A B C : Type 0} → (Tokens → Answer A) → (A → Tokens → Answer B) → (A → B → C) → Tokens → Answer C
both p q f ts = p ts >>= λ x. q x.0 x.1 >>= λ y. Ok (f x.0 y.0, y.1)

module _ {A B C : Type 0} (p : Tokens → Answer A) (q : A → Tokens → Answer B) (f : A → B → C) (g : Looks p) (h : (x : A) → Looks (q x)) where
  abbrev after : A → B × Tokens → Answer C
  after a y = Ok (f a y.0, y.1)

  abbrev next : A × Tokens → Answer C
  next x = q x.0 x.1 >>= after x.0

  join : (ts : Tokens) (a : A) (mid : Tokens) → LooksAt p ts (Ok (a, mid)) → (pre rest : Tokens) → mid ≡ pre ++ rest
      → (v : Tokens) × (ts ≡ v ++ rest) × ((other : Tokens) → SameFront rest other → p (v ++ other) ≡ Ok (a, pre ++ other))
  join ts a mid l pre rest e = (
    l.0 ++ pre,
    l.1 ∙ ap (λ (w : Tokens). l.0 ++ w) e ∙ sym (append_assoc l.0 pre rest),
    λ other s. ap p (append_assoc l.0 pre other) ∙ l.2 (pre ++ other) (subst (λ (w : Tokens). SameFront w (pre ++ other)) (sym e) (same_behind pre rest other s)),
  )

  second : (ts : Tokens) (a : A) (mid : Tokens) → LooksAt p ts (Ok (a, mid)) → (r : Answer B) → LooksAt (q a) mid r → LooksAt (both p q f) ts (r >>= after a)
  second ts a mid l (Ok y) m = let j = join ts a mid l m.0 y.1 m.1 in (j.0, j.1, λ other s. rw (j.2 other s, m.2 other s) refl)
  second ts a mid l (Err (refused us)) m = let j = join ts a mid l m.0 us m.1 in (j.0, j.1, λ other s. rw (j.2 other s, m.2 other s) refl)
  second ts a mid l (Err (deep us)) m = let j = join ts a mid l m.0 us m.1 in (j.0, j.1, λ other s. rw (j.2 other s, m.2 other s) refl)

  first : (ts : Tokens) (r : Answer A) → LooksAt p ts r → LooksAt (both p q f) ts (r >>= next)
  first ts (Ok x) l = second ts x.0 x.1 l (q x.0 x.1) ((h x.0).looks x.1)
  first ts (Err (refused us)) l = (l.0, l.1, λ other s. rw (l.2 other s) refl)
  first ts (Err (deep us)) l = (l.0, l.1, λ other s. rw (l.2 other s) refl)

  pub Looks-both : Looks (both p q f)
  Looks-both = record { looks = λ ts. first ts (p ts) (g.looks ts) }

  both_shrinks : (a b : Bool) → (a ≡ false → Shrinks p) → (b ≡ false → (x : A) → Shrinks (q x)) → a && b ≡ false → (ts : Tokens) (x : C) (rest : Tokens) → both p q f ts ≡ Ok (x, rest) → length rest < length ts
  both_shrinks a b sp sq no_token ts x rest e =
      let u = bind_ok (p ts) next (x, rest) e in
      let m = bind_ok (q u.0.0 u.0.1) (after u.0.0) (x, rest) u.2 in
      let less = keeps_ok p g ts u.0.0 u.0.1 u.1 in
      let later = keeps_ok (q u.0.0) (h u.0.0) u.0.1 m.0.0 m.0.1 m.1 in
      let same = rest_is (f u.0.0 m.0.0, m.0.1) (x, rest) m.2 in
      go a b sp sq no_token u.0.0 u.0.1 m.0.0 m.0.1 u.1 m.1 less later same
    where
      go : (a b : Bool) → (a ≡ false → Shrinks p) → (b ≡ false → (x : A) → Shrinks (q x)) → a && b ≡ false
          → (y : A) (mid : Tokens) (z : B) (end : Tokens) → p ts ≡ Ok (y, mid) → q y mid ≡ Ok (z, end) → length mid ≤ length ts → length end ≤ length mid → length end ≡ length rest → length rest < length ts
      go false b sp sq no_token y mid z end e f less later same = let k = (sp refl).shrinks ts y mid e in omega arith
      go true false sp sq no_token y mid z end e f less later same = let k = (sq refl y).shrinks mid z end f in omega arith
      go true true sp sq no_token y mid z end e f less later same = absurd cc

pub Law-both : {A B C : Type 0} (a b : Bool) (p : Tokens → Answer A) (q : A → Tokens → Answer B) (f : A → B → C) → Law a p → ((x : A) → Law b (q x)) → Law (a && b) (both p q f)
Law-both a b p q f g h = record {
  looks = Looks-both p q f g.looks (λ x. (h x).looks);
  shrinks = λ no_token. record { shrinks = both_shrinks p q f g.looks (λ x. (h x).looks) a b g.shrinks (λ k x. (h x).shrinks k) no_token };
}

-- ---- one or the other

abbrev pub when : {A : Type 0} → List Kind → (Tokens → Answer A) → (Tokens → Answer A) → Tokens → Answer A
when kinds p q ts = cond (starts kinds ts) (p ts) (q ts)

pub Looks-when : {A : Type 0} (kinds : List Kind) (p q : Tokens → Answer A) → Looks p → Looks q → Looks (when kinds p q)
Looks-when {A} kinds p q g h = record { looks = λ ts. go ts (starts kinds ts) refl }
  where
    go : (ts : Tokens) (b : Bool) → starts kinds ts ≡ b → LooksAt (when kinds p q) ts (cond b (p ts) (q ts))
    go ts true is = let l = g.looks ts in (l.0, l.1, λ other s. rw (still kinds ts l.0 (rest_of (p ts)) other l.1 s ∙ is) (l.2 other s))
    go ts false is = let l = h.looks ts in (l.0, l.1, λ other s. rw (still kinds ts l.0 (rest_of (q ts)) other l.1 s ∙ is) (l.2 other s))

pub or_false : (a b : Bool) → a || b ≡ false → (a ≡ false) × (b ≡ false)
or_false false false h = (refl, refl)
or_false false true h = absurd cc
or_false true b h = absurd cc

pub Law-when : {A : Type 0} (a b : Bool) (kinds : List Kind) (p q : Tokens → Answer A) → Law a p → Law b q → Law (a || b) (when kinds p q)
Law-when {A} a b kinds p q g h = record {
  looks = Looks-when kinds p q g.looks h.looks;
  shrinks = λ k. record { shrinks = λ ts x rest e. go ts x rest (g.shrinks (or_false a b k).0) (h.shrinks (or_false a b k).1) (starts kinds ts) e };
}
  where
    go : (ts : Tokens) (x : A) (rest : Tokens) → Shrinks p → Shrinks q → (c : Bool) → cond c (p ts) (q ts) ≡ Ok (x, rest) → length rest < length ts
    go ts x rest sp sq true e = sp.shrinks ts x rest e
    go ts x rest sp sq false e = sq.shrinks ts x rest e

-- ---- with the tree made into another

abbrev pub turned : {A B : Type 0} → (A → B) → A × Tokens → Answer B
turned f x = Ok (f x.0, x.1)

abbrev pub as_made : {A B : Type 0} → (A → B) → (Tokens → Answer A) → Tokens → Answer B
as_made f p ts = p ts >>= turned f

pub Looks-made : {A B : Type 0} (f : A → B) (p : Tokens → Answer A) → Looks p → Looks (as_made f p)
Looks-made {A} {B} f p g = record { looks = λ ts. go ts (p ts) (g.looks ts) }
  where
    go : (ts : Tokens) (r : Answer A) → LooksAt p ts r → LooksAt (as_made f p) ts (r >>= turned f)
    go ts (Ok x) l = (l.0, l.1, λ other s. rw (l.2 other s) refl)
    go ts (Err (refused us)) l = (l.0, l.1, λ other s. rw (l.2 other s) refl)
    go ts (Err (deep us)) l = (l.0, l.1, λ other s. rw (l.2 other s) refl)

pub Law-made : {A B : Type 0} (a : Bool) (f : A → B) (p : Tokens → Answer A) → Law a p → Law a (as_made f p)
Law-made a f p g = record {
  looks = Looks-made f p g.looks;
  shrinks = λ k. record {
    shrinks = λ ts x rest e.
        let u = bind_ok (p ts) (turned f) (x, rest) e in
        let less = (g.shrinks k).shrinks ts u.0.0 u.0.1 u.1 in
        let same = rest_is (f u.0.0, u.0.1) (x, rest) u.2 in
        omega arith;
  };
}
