-- Reading a form leaves no more tokens than there were, and fewer where the form has one.
use Rattle.std.proofs.Common.{◌≡◌, ℕ, zero, suc, ◌+◌, ◌≤◌, ◌<◌, nat_lt, Bool, true, false, cond, ◌&&◌, ◌||◌, not, List, [], ◌∷◌, length, Result, Ok, Err, refl, ap, arith}
use Rattle.life_stmt.specs.Fronts.{mapped, behind}
use Rattle.life_expr.specs.Heads.{Kind, is_of, quoted_kind, name_kind, number_kind, character_kind, text_kind, heads, may_be_empty, rule_may_be_empty}
use Rattle.life_expr.specs.Read.{Stop, refused, deep, ◌>>=◌, Read, Reader, starts, the_token, as_it_stands, opener, many_below, as_many, reads}
use Rattle.life_expr.specs.Readers.{Readers, no_reader, derived, begins_as, choose, chosen}
use Rattle.life_tree.specs.Grammar.{Form, form_of, none, no_else, quoted, name, number, character, text, ◌then◌, ◌decides◌, ◌or◌, many, opens, rule}
use Rattle.life_tree.specs.Rules.{Rule}
use Rattle.life_tree.specs.Tree.{Tree, ◌⨾◌, construct, node, nothing, token, without_else, Tokens}
use Rattle.life_tree.specs.declared.key.TokenKey.TheVariants as keys
use Rattle.life_tree.specs.declared.token.TreeToken.{TreeToken}
use Rattle.life_types.specs.declared.place.Place.{Place}

-- how many tokens are taken at least
abbrev pub least : Bool → ℕ
least true = 0
least false = 1

-- p takes at least one token, unless it may take none
pub record Takes (may : Bool) (p : Reader) : Type 0 where
  pub takes : (ts : Tokens) (t : Tree) (rest : Tokens) → p ts ≡ Ok (t, rest) → length rest + least may ≤ length ts

pub shrinks : (p : Reader) → Takes false p → (ts : Tokens) (t : Tree) (rest : Tokens) → p ts ≡ Ok (t, rest) → length rest < length ts
shrinks p s ts t rest e = let h = s.takes ts t rest e in omega arith

-- where p takes one, that is said whether or not it must
pub Takes-any : (p : Reader) (may : Bool) → Takes false p → Takes may p
Takes-any p true s = record { takes = λ ts t rest e. let h = s.takes ts t rest e in omega arith }
Takes-any p false s = s

pub Takes-none : (may : Bool) → Takes may no_reader
Takes-none may = record { takes = λ ts t rest e. absurd cc }

abbrev pub TakesAll : Readers → Type 0
TakesAll readers = (r : Rule) → Takes (rule_may_be_empty r) (readers r)

pub bind_ok : {A B : Type 0} (r : Result A Stop) (f : A → Result B Stop) (y : B) → (r >>= f) ≡ Ok y → (x : A) × (r ≡ Ok x) × (f x ≡ Ok y)
bind_ok (Ok x) f y e = (x, refl, e)
bind_ok (Err d) f y e = absurd cc

abbrev fine : {A : Type 0} → A → Result A Stop
fine x = Ok x

pub ok_is : {A : Type 0} (x y : A) → fine x ≡ fine y → x ≡ y
ok_is x y e = cc

rest_is : (a b : Tree × Tokens) → fine a ≡ fine b → length a.1 ≡ length b.1
rest_is a b e = ap (λ (y : Tree × Tokens). length y.1) (ok_is a b e)

-- ---- one token

Takes-token : (kind : Kind) (f : TreeToken → Tree) → Takes false (the_token kind f)
Takes-token kind f = record { takes = go }
  where
    go : (ts : Tokens) (t : Tree) (rest : Tokens) → the_token kind f ts ≡ Ok (t, rest) → length rest + 1 ≤ length ts
    go [] t rest e = absurd cc
    go (k ∷ ks) t rest e = test (is_of kind k) e
      where
        test : (b : Bool) → cond {A = Read} b (Ok (f k, ks)) (Err (refused (k ∷ ks))) ≡ Ok (t, rest) → length rest + 1 ≤ suc (length ks)
        test true h = let same = rest_is (f k, ks) (t, rest) h in omega arith
        test false h = absurd cc

pub opener_takes : (n m : ℕ) (ts : Tokens) (place : Place) (rest : Tokens) → opener n m ts ≡ Ok (place, rest) → length rest + 1 ≤ length ts
opener_takes n m [] place rest e = absurd cc
opener_takes n m (k ∷ ks) place rest e = test (is_of (quoted_kind m) k) (nat_lt 0 n) e
  where
    test : (b c : Bool) → cond {A = Result (Place × Tokens) Stop} b (cond c (Ok (k.place, ks)) (Err (deep (k ∷ ks)))) (Err (refused (k ∷ ks))) ≡ Ok (place, rest) → length rest + 1 ≤ suc (length ks)
    test true true h = let same = ap (λ (y : Place × Tokens). length y.1) (ok_is (k.place, ks) (place, rest) h) in omega arith
    test true false h = absurd cc
    test false c h = absurd cc

-- ---- one after the other

least_both : (a b : Bool) → least (a && b) ≤ least a + least b
least_both true b = omega arith
least_both false true = omega arith
least_both false false = omega arith

-- p and then what depends on its tree
Takes-then : (may may' : Bool) (p : Reader) (q : Tree → Reader) → Takes may p → ((t : Tree) → Takes may' (q t))
    → (ts : Tokens) (t : Tree) (rest : Tokens) → (p ts >>= λ x. behind x.0 (q x.0 x.1)) ≡ Ok (t, rest) → length rest + (least may + least may') ≤ length ts
Takes-then may may' p q g h ts t rest e =
    let a = bind_ok (p ts) (λ x. behind x.0 (q x.0 x.1)) (t, rest) e in
    let m = bind_ok (q a.0.0 a.0.1) (λ y. Ok (a.0.0 ⨾ y.0, y.1)) (t, rest) a.2 in
    let k = g.takes ts a.0.0 a.0.1 a.1 in
    let l = (h a.0.0).takes a.0.1 m.0.0 m.0.1 m.1 in
    let same = rest_is (a.0.0 ⨾ m.0.0, m.0.1) (t, rest) m.2 in
    omega arith

Takes-made : (may : Bool) (f : Tree → Tree) (p : Reader) → Takes may p
    → (ts : Tokens) (t : Tree) (rest : Tokens) → mapped f (p ts) ≡ Ok (t, rest) → length rest + least may ≤ length ts
Takes-made may f p g ts t rest e =
    let a = bind_ok (p ts) (λ x. Ok (f x.0, x.1)) (t, rest) e in
    let k = g.takes ts a.0.0 a.0.1 a.1 in
    let same = rest_is (f a.0.0, a.0.1) (t, rest) a.2 in
    omega arith

least_or_left : (a b : Bool) → least (a || b) ≤ least a
least_or_left true b = omega arith
least_or_left false true = omega arith
least_or_left false false = omega arith

least_or_right : (a b : Bool) → least (a || b) ≤ least b
least_or_right true b = omega arith
least_or_right false true = omega arith
least_or_right false false = omega arith

Takes-or : (may may' : Bool) (p q : Reader) → Takes may p → Takes may' q → (b : Bool) (ts : Tokens) (t : Tree) (rest : Tokens) → cond b (p ts) (q ts) ≡ Ok (t, rest) → length rest + least (may || may') ≤ length ts
Takes-or may may' p q g h true ts t rest e = let k = g.takes ts t rest e in let l = least_or_left may may' in omega arith
Takes-or may may' p q g h false ts t rest e = let k = h.takes ts t rest e in let l = least_or_right may may' in omega arith

-- ---- as many as there are

many_takes : (may : Bool) (kinds : List Kind) (p : Reader) → Takes may p → (n : ℕ) (ts : Tokens) (t : Tree) (rest : Tokens) → many_below n kinds p ts ≡ Ok (t, rest) → length rest + 0 ≤ length ts
many_takes may kinds p g zero ts t rest e = absurd cc
many_takes may kinds p g (suc n) ts t rest e = go (many_takes may kinds p g n) (starts kinds ts) e
  where
    go : ((us : Tokens) (u : Tree) (r : Tokens) → many_below n kinds p us ≡ Ok (u, r) → length r + 0 ≤ length us)
        → (b : Bool) → cond b (p ts >>= λ x. behind x.0 (many_below n kinds p x.1)) (Ok (nothing, ts)) ≡ Ok (t, rest) → length rest + 0 ≤ length ts
    go ih false h = let same = rest_is (nothing, ts) (t, rest) h in omega arith
    go ih true h =
        let e = Takes-then may true p (λ x. many_below n kinds p) g (λ x. record { takes = ih }) ts t rest h in
        omega arith

Takes-many : (may : Bool) (kinds : List Kind) (p : Reader) → Takes may p → Takes true (as_many kinds p)
unfolding as_many
Takes-many may kinds p g = record { takes = λ ts t rest e. many_takes may kinds p g (suc (length ts)) ts t rest e }

-- ---- a form

-- what decides on the rest has a token
abbrev pub firm : Form → Bool
firm (f then g) = firm f && firm g
firm (f decides g) = not (may_be_empty f) && firm f
firm (f or g) = firm f && firm g
firm _ = true

both_firm : (a b : Bool) → (a && b) ≡ true → (a ≡ true) × (b ≡ true)
both_firm true true e = (refl, refl)
both_firm true false e = absurd cc
both_firm false b e = absurd cc

not_true : (a : Bool) → not a ≡ true → a ≡ false
not_true true e = absurd cc
not_true false e = refl

Takes-loose : (p : Reader) (may : Bool) → Takes may p → Takes true p
Takes-loose p true s = s
Takes-loose p false s = Takes-any p true s

keeps_reads : (n : ℕ) (inside same : Readers) → TakesAll inside → TakesAll same → (f : Form) (ts : Tokens) (t : Tree) (rest : Tokens) → reads n inside same f ts ≡ Ok (t, rest) → length rest + 0 ≤ length ts
keeps_reads n inside same hi hs none ts t rest e = let h = rest_is (nothing, ts) (t, rest) e in omega arith
keeps_reads n inside same hi hs no_else ts t rest e = let h = rest_is (without_else, ts) (t, rest) e in omega arith
keeps_reads n inside same hi hs (quoted m) ts t rest e = let h = (Takes-token (quoted_kind m) (λ k. token (keys.Fixed m) k.place)).takes ts t rest e in omega arith
keeps_reads n inside same hi hs name ts t rest e = let h = (Takes-token name_kind as_it_stands).takes ts t rest e in omega arith
keeps_reads n inside same hi hs number ts t rest e = let h = (Takes-token number_kind as_it_stands).takes ts t rest e in omega arith
keeps_reads n inside same hi hs character ts t rest e = let h = (Takes-token character_kind as_it_stands).takes ts t rest e in omega arith
keeps_reads n inside same hi hs text ts t rest e = let h = (Takes-token text_kind as_it_stands).takes ts t rest e in omega arith
keeps_reads n inside same hi hs (f then g) ts t rest e =
    Takes-then true true (reads n inside same f) (λ x. reads n inside same g) (record { takes = keeps_reads n inside same hi hs f }) (λ x. record { takes = keeps_reads n inside same hi hs g }) ts t rest e
keeps_reads n inside same hi hs (f decides g) ts t rest e =
    Takes-then true true (reads n inside same f) (λ x. reads n inside same (g x)) (record { takes = keeps_reads n inside same hi hs f }) (λ x. record { takes = keeps_reads n inside same hi hs (g x) }) ts t rest e
keeps_reads n inside same hi hs (f or g) ts t rest e =
    Takes-or true true (reads n inside same f) (reads n inside same g) (record { takes = keeps_reads n inside same hi hs f }) (record { takes = keeps_reads n inside same hi hs g }) (starts (heads f) ts) ts t rest e
keeps_reads n inside same hi hs (many f) ts t rest e =
    (Takes-many true (heads f) (λ us. reads n inside same f us) (record { takes = keeps_reads n inside same hi hs f })).takes ts t rest e
keeps_reads n inside same hi hs (opens m f) ts t rest e =
    let a = bind_ok (opener n m ts) (λ x. mapped (λ u. construct m x.0 u) (reads 0 inside inside f x.1)) (t, rest) e in
    let k = opener_takes n m ts a.0.0 a.0.1 a.1 in
    let l = Takes-made true (λ y. construct m a.0.0 y) (reads 0 inside inside f) (record { takes = keeps_reads 0 inside inside hi hi f }) a.0.1 t rest a.2 in
    omega arith
keeps_reads n inside same hi hs (rule r) ts t rest e = (Takes-loose (same r) (rule_may_be_empty r) (hs r)).takes ts t rest e

pub Keeps-reads : (n : ℕ) (inside same : Readers) → TakesAll inside → TakesAll same → (f : Form) → Takes true (reads n inside same f)
Keeps-reads n inside same hi hs f = record { takes = keeps_reads n inside same hi hs f }

module _ (n : ℕ) (inside same : Readers) (hi : TakesAll inside) (hs : TakesAll same) where
  takes_reads : (f : Form) → firm f ≡ true → (ts : Tokens) (t : Tree) (rest : Tokens) → reads n inside same f ts ≡ Ok (t, rest) → length rest + least (may_be_empty f) ≤ length ts
  takes_reads none h ts t rest e = keeps_reads n inside same hi hs none ts t rest e
  takes_reads no_else h ts t rest e = keeps_reads n inside same hi hs no_else ts t rest e
  takes_reads (quoted m) h ts t rest e = (Takes-token (quoted_kind m) (λ k. token (keys.Fixed m) k.place)).takes ts t rest e
  takes_reads name h ts t rest e = (Takes-token name_kind as_it_stands).takes ts t rest e
  takes_reads number h ts t rest e = (Takes-token number_kind as_it_stands).takes ts t rest e
  takes_reads character h ts t rest e = (Takes-token character_kind as_it_stands).takes ts t rest e
  takes_reads text h ts t rest e = (Takes-token text_kind as_it_stands).takes ts t rest e
  takes_reads (f then g) h ts t rest e =
      let b = both_firm (firm f) (firm g) h in
      let k = Takes-then (may_be_empty f) (may_be_empty g) (reads n inside same f) (λ x. reads n inside same g) (record { takes = takes_reads f b.0 }) (λ x. record { takes = takes_reads g b.1 }) ts t rest e in
      let l = least_both (may_be_empty f) (may_be_empty g) in
      omega arith
  takes_reads (f decides g) h ts t rest e =
      let b = both_firm (not (may_be_empty f)) (firm f) h in
      let k = Takes-then (may_be_empty f) true (reads n inside same f) (λ x. reads n inside same (g x)) (record { takes = takes_reads f b.1 }) (λ x. Keeps-reads n inside same hi hs (g x)) ts t rest e in
      let l = ap least (not_true (may_be_empty f) b.0) in
      omega arith
  takes_reads (f or g) h ts t rest e =
      let b = both_firm (firm f) (firm g) h in
      Takes-or (may_be_empty f) (may_be_empty g) (reads n inside same f) (reads n inside same g) (record { takes = takes_reads f b.0 }) (record { takes = takes_reads g b.1 }) (starts (heads f) ts) ts t rest e
  takes_reads (many f) h ts t rest e = keeps_reads n inside same hi hs (many f) ts t rest e
  takes_reads (opens m f) h ts t rest e =
      let a = bind_ok (opener n m ts) (λ x. mapped (λ u. construct m x.0 u) (reads 0 inside inside f x.1)) (t, rest) e in
      let k = opener_takes n m ts a.0.0 a.0.1 a.1 in
      let l = Takes-made true (λ y. construct m a.0.0 y) (reads 0 inside inside f) (Keeps-reads 0 inside inside hi hi f) a.0.1 t rest a.2 in
      omega arith
  takes_reads (rule r) h ts t rest e = (hs r).takes ts t rest e

  pub Takes-reads : (f : Form) → firm f ≡ true → Takes (may_be_empty f) (reads n inside same f)
  Takes-reads f h = record { takes = takes_reads f h }

  pub Takes-derived : (r : Rule) → firm (form_of r) ≡ true → Takes (may_be_empty (form_of r)) (derived n inside same r)
  Takes-derived r h = record { takes = λ ts t rest e. Takes-made (may_be_empty (form_of r)) (λ y. node r y) (reads n inside same (form_of r)) (Takes-reads (form_of r) h) ts t rest e }

  choose_takes : (fronts : List (List Kind)) (f : Form) → firm f ≡ true → Takes (may_be_empty f) (choose fronts n inside same f)
  choose_takes fronts (f or g) h =
      let b = both_firm (firm f) (firm g) h in
      record { takes = λ ts t rest e. Takes-or (may_be_empty f) (may_be_empty g) (reads n inside same f) (reads n inside same g) (Takes-reads f b.0) (Takes-reads g b.1) (begins_as fronts ts) ts t rest e }
  choose_takes fronts none h = Takes-reads none h
  choose_takes fronts no_else h = Takes-reads no_else h
  choose_takes fronts (quoted m) h = Takes-reads (quoted m) h
  choose_takes fronts name h = Takes-reads name h
  choose_takes fronts number h = Takes-reads number h
  choose_takes fronts character h = Takes-reads character h
  choose_takes fronts text h = Takes-reads text h
  choose_takes fronts (f then g) h = Takes-reads (f then g) h
  choose_takes fronts (f decides g) h = Takes-reads (f decides g) h
  choose_takes fronts (many f) h = Takes-reads (many f) h
  choose_takes fronts (opens m f) h = Takes-reads (opens m f) h
  choose_takes fronts (rule r) h = Takes-reads (rule r) h

  pub Takes-chosen : (fronts : List (List Kind)) (r : Rule) → firm (form_of r) ≡ true → Takes (may_be_empty (form_of r)) (chosen fronts n inside same r)
  Takes-chosen fronts r h = record { takes = λ ts t rest e. Takes-made (may_be_empty (form_of r)) (λ y. node r y) (choose fronts n inside same (form_of r)) (choose_takes fronts (form_of r) h) ts t rest e }
