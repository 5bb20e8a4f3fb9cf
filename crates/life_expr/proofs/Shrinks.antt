-- What is read is gone, and there is some where the form has a token.
use Rattle.std.proofs.Common.{◌≡◌, ℕ, zero, suc, ◌≤◌, ◌+◌, nat_lt, Bool, true, false, ◌&&◌, ◌||◌, cond, List, [], ◌∷◌, length, Result, Ok, Err, refl, ap, arith}
use Rattle.life_expr.specs.Heads.{Kind, is_of, quoted_kind, name_kind, number_kind, character_kind, text_kind, heads, may_be_empty, rule_may_be_empty}
use Rattle.life_expr.specs.Read.{Stop, refused, deep, ◌>>=◌, Read, Reader, starts, the_token, as_it_stands, opener, many_below, as_many, reads}
use Rattle.life_expr.specs.Readers.{Readers, derived}
use Rattle.life_expr.proofs.Loop.{Shrinks, behind}
use Rattle.life_tree.specs.Grammar.{Form, form_of, none, no_else, quoted, name, number, character, text, ◌then◌, ◌decides◌, ◌or◌, many, opens, rule}
use Rattle.life_tree.specs.Rules.{Rule}
use Rattle.life_tree.specs.Tree.{Tree, nothing, token, ◌⨾◌, construct, node, Tokens}
use Rattle.life_tree.specs.declared.key.TokenKey.TheVariants as keys
use Rattle.life_tree.specs.declared.token.TreeToken.{TreeToken}
use Rattle.life_types.specs.declared.place.Place.{Place}

-- how many tokens there are at least
abbrev pub least : Bool → ℕ
least true = 0
least false = 1

-- what p reads is gone; it is no token only where that may be
abbrev pub Takes : Bool → Reader → Type 0
Takes empty p = (ts : Tokens) (t : Tree) (rest : Tokens) → p ts ≡ Ok (t, rest) → length rest + least empty ≤ length ts

-- so it is of each rule in a form
abbrev pub AllTake : Readers → Readers → Form → Type 0
AllTake inside same (f then g) = AllTake inside same f × AllTake inside same g
AllTake inside same (f decides g) = (may_be_empty f ≡ false) × AllTake inside same f × ((t : Tree) → AllTake inside same (g t))
AllTake inside same (f or g) = AllTake inside same f × AllTake inside same g
AllTake inside same (many f) = AllTake inside same f
AllTake inside same (opens m f) = AllTake inside inside f
AllTake inside same (rule r) = Takes (rule_may_be_empty r) (same r)
AllTake inside same _ = Unit {0}

bind_ok : {A B : Type 0} (r : Result A Stop) (f : A → Result B Stop) (y : B) → (r >>= f) ≡ Ok y → (x : A) × (r ≡ Ok x) × (f x ≡ Ok y)
bind_ok (Ok x) f y e = (x, refl, e)
bind_ok (Err d) f y e = absurd cc

rest_is : {A : Type 0} (a b : A × Tokens) → ◌≡◌ {A = Result (A × Tokens) Stop} (Ok a) (Ok b) → a.1 ≡ b.1
rest_is a b e = cc

least_and : (a b : Bool) → least (a && b) ≤ least a + least b
least_and true b = omega arith
least_and false b = omega arith

least_or : (a b : Bool) → (least (a || b) ≤ least a) × (least (a || b) ≤ least b)
least_or true b = (omega arith, omega arith)
least_or false true = (omega arith, omega arith)
least_or false false = (omega arith, omega arith)

token_takes : (kind : Kind) (f : TreeToken → Tree) → Takes false (the_token kind f)
token_takes kind f [] t rest e = absurd cc
token_takes kind f (k ∷ ks) t rest e = test (is_of kind k) e
  where
    test : (b : Bool) → cond {A = Read} b (Ok (f k, ks)) (Err (refused (k ∷ ks))) ≡ Ok (t, rest) → length rest + 1 ≤ suc (length ks)
    test true h = let same = ap length (rest_is (f k, ks) (t, rest) h) in omega arith
    test false h = absurd cc

opener_takes : (n m : ℕ) (ts : Tokens) (place : Place) (rest : Tokens) → opener n m ts ≡ Ok (place, rest) → length rest + 1 ≤ length ts
opener_takes n m [] place rest e = absurd cc
opener_takes n m (k ∷ ks) place rest e = test (is_of (quoted_kind m) k) (nat_lt 0 n) e
  where
    test : (b c : Bool) → cond {A = Result (Place × Tokens) Stop} b (cond c (Ok (k.place, ks)) (Err (deep (k ∷ ks)))) (Err (refused (k ∷ ks))) ≡ Ok (place, rest) → length rest + 1 ≤ suc (length ks)
    test true true h = let same = ap length (rest_is (k.place, ks) (place, rest) h) in omega arith
    test true false h = absurd cc
    test false c h = absurd cc

many_takes : (n : ℕ) (kinds : List Kind) (empty : Bool) (p : Reader) → Takes empty p → Takes true (many_below n kinds p)
many_takes zero kinds empty p h ts t rest e = absurd cc
many_takes (suc n) kinds empty p h ts t rest e = go (many_takes n kinds empty p h) (starts kinds ts) e
  where
    go : Takes true (many_below n kinds p) → (b : Bool) → cond b (p ts >>= λ x. behind x.0 (many_below n kinds p x.1)) (Ok (nothing, ts)) ≡ Ok (t, rest) → length rest + 0 ≤ length ts
    go ih false k = let same = ap length (rest_is (nothing, ts) (t, rest) k) in omega arith
    go ih true k =
        let a = bind_ok (p ts) (λ x. behind x.0 (many_below n kinds p x.1)) (t, rest) k in
        let b = bind_ok (many_below n kinds p a.0.1) (λ y. Ok (a.0.0 ⨾ y.0, y.1)) (t, rest) a.2 in
        let one = h ts a.0.0 a.0.1 a.1 in
        let more = ih a.0.1 b.0.0 b.0.1 b.1 in
        let same = ap length (rest_is (a.0.0 ⨾ b.0.0, b.0.1) (t, rest) b.2) in
        omega arith

pub form_takes : (n : ℕ) (inside same : Readers) (f : Form) → AllTake inside same f → Takes (may_be_empty f) (reads n inside same f)
unfolding as_many
form_takes n inside same none h ts t rest e = let s = ap length (rest_is (_, ts) (t, rest) e) in omega arith
form_takes n inside same no_else h ts t rest e = let s = ap length (rest_is (_, ts) (t, rest) e) in omega arith
form_takes n inside same (quoted m) h ts t rest e = token_takes (quoted_kind m) (λ k. token (keys.Fixed m) k.place) ts t rest e
form_takes n inside same name h ts t rest e = token_takes name_kind as_it_stands ts t rest e
form_takes n inside same number h ts t rest e = token_takes number_kind as_it_stands ts t rest e
form_takes n inside same character h ts t rest e = token_takes character_kind as_it_stands ts t rest e
form_takes n inside same text h ts t rest e = token_takes text_kind as_it_stands ts t rest e
form_takes n inside same (f then g) h ts t rest e =
    let a = bind_ok (reads n inside same f ts) (λ x. reads n inside same g x.1 >>= λ y. Ok (x.0 ⨾ y.0, y.1)) (t, rest) e in
    let b = bind_ok (reads n inside same g a.0.1) (λ y. Ok (a.0.0 ⨾ y.0, y.1)) (t, rest) a.2 in
    let first = form_takes n inside same f h.0 ts a.0.0 a.0.1 a.1 in
    let second = form_takes n inside same g h.1 a.0.1 b.0.0 b.0.1 b.1 in
    let s = ap length (rest_is (a.0.0 ⨾ b.0.0, b.0.1) (t, rest) b.2) in
    let l = least_and (may_be_empty f) (may_be_empty g) in
    omega arith
form_takes n inside same (f decides g) h ts t rest e =
    let a = bind_ok (reads n inside same f ts) (λ x. reads n inside same (g x.0) x.1 >>= λ y. Ok (x.0 ⨾ y.0, y.1)) (t, rest) e in
    let b = bind_ok (reads n inside same (g a.0.0) a.0.1) (λ y. Ok (a.0.0 ⨾ y.0, y.1)) (t, rest) a.2 in
    let first = form_takes n inside same f h.1 ts a.0.0 a.0.1 a.1 in
    let second = form_takes n inside same (g a.0.0) (h.2 a.0.0) a.0.1 b.0.0 b.0.1 b.1 in
    let s = ap length (rest_is (a.0.0 ⨾ b.0.0, b.0.1) (t, rest) b.2) in
    let l = ap least h.0 in
    omega arith
form_takes n inside same (f or g) h ts t rest e = go (form_takes n inside same f h.0) (form_takes n inside same g h.1) (starts (heads f) ts) e
  where
    go : Takes (may_be_empty f) (reads n inside same f) → Takes (may_be_empty g) (reads n inside same g) → (b : Bool)
        → cond b (reads n inside same f ts) (reads n inside same g ts) ≡ Ok (t, rest) → length rest + least (may_be_empty f || may_be_empty g) ≤ length ts
    go a b true k = let l = least_or (may_be_empty f) (may_be_empty g) in let taken = a ts t rest k in omega arith
    go a b false k = let l = least_or (may_be_empty f) (may_be_empty g) in let taken = b ts t rest k in omega arith
form_takes n inside same (many f) h ts t rest e =
    many_takes (suc (length ts)) (heads f) (may_be_empty f) (λ us. reads n inside same f us) (form_takes n inside same f h) ts t rest e
form_takes n inside same (opens m f) h ts t rest e =
    let a = bind_ok (opener n m ts) (λ x. reads 0 inside inside f x.1 >>= λ y. Ok (construct m x.0 y.0, y.1)) (t, rest) e in
    let b = bind_ok (reads 0 inside inside f a.0.1) (λ y. Ok (construct m a.0.0 y.0, y.1)) (t, rest) a.2 in
    let first = opener_takes n m ts a.0.0 a.0.1 a.1 in
    let second = form_takes 0 inside inside f h a.0.1 b.0.0 b.0.1 b.1 in
    let s = ap length (rest_is (construct m a.0.0 b.0.0, b.0.1) (t, rest) b.2) in
    omega arith
form_takes n inside same (rule r) h ts t rest e = h ts t rest e

pub derived_takes : (n : ℕ) (inside same : Readers) (r : Rule) → AllTake inside same (form_of r) → Takes (may_be_empty (form_of r)) (derived n inside same r)
derived_takes n inside same r h ts t rest e =
    let a = bind_ok (reads n inside same (form_of r) ts) (λ x. Ok (node r x.0, x.1)) (t, rest) e in
    let taken = form_takes n inside same (form_of r) h ts a.0.0 a.0.1 a.1 in
    let s = ap length (rest_is (node r a.0.0, a.0.1) (t, rest) a.2) in
    omega arith

pub takes_shrinks : (p : Reader) → Takes false p → Shrinks p
takes_shrinks p h = record { shrinks = λ ts t rest e. let taken = h ts t rest e in omega arith }
