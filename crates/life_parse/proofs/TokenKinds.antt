-- Kinds of tokens: which have no token in common, and which lists have all of another's.
use Rattle.std.proofs.Common.{◌≡◌, ℕ, ◌+◌, Bool, true, false, not, ◌&&◌, ◌||◌, ◌==◌, List, [], ◌∷◌, ◌++◌, refl, sym, ap, subst, ◌∙◌, inl, inr, true≢false}
use Rattle.std.proofs.lemmas.Bool.Decides.{eqb_tells}
use Rattle.std.proofs.lemmas.Bool.{eqb-true, and_parts}
use Rattle.life_expr.specs.Heads.{Kind, quoted_kind, name_kind, number_kind, character_kind, text_kind, key_is_of, is_of}
use Rattle.life_expr.specs.Read.{is_in, starts}
use Rattle.life_tree.specs.Tree.{Tokens}
use Rattle.life_tree.specs.declared.key.TokenKey.{TokenKey}
use Rattle.life_tree.specs.declared.key.TokenKey.TheVariants as keys
use Rattle.life_tree.specs.declared.token.TreeToken.{TreeToken}

-- ---- truths of Bool

pub both_false : (a b : Bool) → (a || b) ≡ false → (a ≡ false) × (b ≡ false)
both_false true b e = absurd cc
both_false false b e = (refl, e)

-- ---- kinds by number

-- a number for each kind
abbrev pub number_of : Kind → ℕ
number_of name_kind = 0
number_of number_kind = 1
number_of character_kind = 2
number_of text_kind = 3
number_of (quoted_kind n) = 4 + n

abbrev pub key_number : TokenKey → ℕ
key_number (keys.Name id) = 0
key_number (keys.Number n) = 1
key_number (keys.Char c) = 2
key_number (keys.Text n) = 3
key_number (keys.Fixed n) = 4 + n

number_key : (x : Kind) (key : TokenKey) → key_is_of x key ≡ true → key_number key ≡ number_of x
number_key (quoted_kind n) (keys.Fixed m) e = ap (λ (i : ℕ). 4 + i) (eqb-true m n e)
number_key name_kind (keys.Name id) e = refl
number_key number_kind (keys.Number n) e = refl
number_key character_kind (keys.Char c) e = refl
number_key text_kind (keys.Text n) e = refl
number_key _ _ e = absurd cc

pub kind_number_is : (x : Kind) (k : TreeToken) → is_of x k ≡ true → key_number k.key ≡ number_of x
kind_number_is x k e = number_key x k.key e

-- ---- kinds without a common token

abbrev pub apart : Kind → Kind → Bool
apart x y = not (number_of x == number_of y)

pub apart_is : (x y : Kind) (k : TreeToken) → apart x y ≡ true → is_of x k ≡ true → is_of y k ≡ false
apart_is x y k a e = go (is_of y k) refl
  where
    go : (b : Bool) → is_of y k ≡ b → b ≡ false
    go false h = refl
    go true h =
        let same : number_of x ≡ number_of y = sym (kind_number_is x k e) ∙ kind_number_is y k h in
        elim (eqb_tells (number_of x) (number_of y)) [
          | inl t ↦ absurd (true≢false (sym (subst (λ b. not b ≡ true) t.0 a)))
          | inr t ↦ absurd (t.1 same)
        ]

abbrev pub apart_from : Kind → List Kind → Bool
apart_from x [] = true
apart_from x (y ∷ ys) = apart x y && apart_from x ys

abbrev pub disjoint : List Kind → List Kind → Bool
disjoint [] ys = true
disjoint (x ∷ xs) ys = apart_from x ys && disjoint xs ys

pub apart_from_is : (x : Kind) (ys : List Kind) (k : TreeToken) → apart_from x ys ≡ true → is_of x k ≡ true → is_in ys k ≡ false
apart_from_is x [] k a e = refl
apart_from_is x (y ∷ ys) k a e = let p = and_parts (apart x y) (apart_from x ys) a in rw (apart_is x y k p.0 e) (apart_from_is x ys k p.1 e)

pub disjoint_is : (xs ys : List Kind) (k : TreeToken) → disjoint xs ys ≡ true → is_in xs k ≡ true → is_in ys k ≡ false
disjoint_is [] ys k d e = absurd cc
disjoint_is (x ∷ xs) ys k d e = go (disjoint_is xs ys k) (is_of x k) refl e
  where
    go : (disjoint xs ys ≡ true → is_in xs k ≡ true → is_in ys k ≡ false) → (b : Bool) → is_of x k ≡ b → (b || is_in xs k) ≡ true → is_in ys k ≡ false
    go more true h i = apart_from_is x ys k (and_parts (apart_from x ys) (disjoint xs ys) d).0 h
    go more false h i = more (and_parts (apart_from x ys) (disjoint xs ys) d).1 i

-- ---- lists that have all of another's kinds

abbrev pub same_kind : Kind → Kind → Bool
same_kind (quoted_kind n) (quoted_kind m) = n == m
same_kind name_kind name_kind = true
same_kind number_kind number_kind = true
same_kind character_kind character_kind = true
same_kind text_kind text_kind = true
same_kind _ _ = false

pub same_kind_is : (x y : Kind) → same_kind x y ≡ true → x ≡ y
same_kind_is (quoted_kind n) (quoted_kind m) e = ap quoted_kind (eqb-true n m e)
same_kind_is name_kind name_kind e = refl
same_kind_is number_kind number_kind e = refl
same_kind_is character_kind character_kind e = refl
same_kind_is text_kind text_kind e = refl
same_kind_is _ _ e = absurd cc

abbrev pub has_kind : Kind → List Kind → Bool
has_kind x [] = false
has_kind x (y ∷ ys) = same_kind x y || has_kind x ys

-- each of the first is among the second
abbrev pub covers : List Kind → List Kind → Bool
covers [] ys = true
covers (x ∷ xs) ys = has_kind x ys && covers xs ys

pub has_kind_is : (x : Kind) (ys : List Kind) (k : TreeToken) → has_kind x ys ≡ true → is_of x k ≡ true → is_in ys k ≡ true
has_kind_is x [] k h e = absurd cc
has_kind_is x (y ∷ ys) k h e = go (has_kind_is x ys k) (same_kind x y) refl h
  where
    or_true : (a b : Bool) → b ≡ true → (a || b) ≡ true
    or_true true b e = refl
    or_true false b e = e

    go : (has_kind x ys ≡ true → is_of x k ≡ true → is_in ys k ≡ true) → (b : Bool) → same_kind x y ≡ b → (b || has_kind x ys) ≡ true → (is_of y k || is_in ys k) ≡ true
    go more true s i = let f : is_of y k ≡ true = subst (λ (z : Kind). is_of z k ≡ true) (same_kind_is x y s) e in rw f refl
    go more false s i = or_true (is_of y k) (is_in ys k) (more i e)

pub covers_is : (xs ys : List Kind) (k : TreeToken) → covers xs ys ≡ true → is_in xs k ≡ true → is_in ys k ≡ true
covers_is [] ys k c e = absurd cc
covers_is (x ∷ xs) ys k c e = go (covers_is xs ys k) (is_of x k) refl e
  where
    go : (covers xs ys ≡ true → is_in xs k ≡ true → is_in ys k ≡ true) → (b : Bool) → is_of x k ≡ b → (b || is_in xs k) ≡ true → is_in ys k ≡ true
    go more true h i = has_kind_is x ys k (and_parts (has_kind x ys) (covers xs ys) c).0 h
    go more false h i = more (and_parts (has_kind x ys) (covers xs ys) c).1 i

pub covers_not : (xs ys : List Kind) (rest : Tokens) → covers xs ys ≡ true → starts ys rest ≡ false → starts xs rest ≡ false
covers_not xs ys [] c e = refl
covers_not xs ys (k ∷ ks) c e = go (is_in xs k) refl
  where
    go : (b : Bool) → is_in xs k ≡ b → b ≡ false
    go false h = refl
    go true h = let i = covers_is xs ys k c h in absurd cc

-- ---- one list and then another

pub is_in-append : (xs ys : List Kind) (k : TreeToken) → is_in (xs ++ ys) k ≡ (is_in xs k || is_in ys k)
is_in-append [] ys k = refl
is_in-append (x ∷ xs) ys k = rw (is_in-append xs ys k) (go (is_of x k) (is_in xs k) (is_in ys k))
  where
    go : (a b c : Bool) → (a || (b || c)) ≡ ((a || b) || c)
    go true b c = refl
    go false b c = refl

pub in_first : (xs ys : List Kind) (k : TreeToken) → is_in xs k ≡ true → is_in (xs ++ ys) k ≡ true
in_first xs ys k e = rw (is_in-append xs ys k, e) refl

pub in_second : (xs ys : List Kind) (k : TreeToken) → is_in ys k ≡ true → is_in (xs ++ ys) k ≡ true
in_second xs ys k e = rw (is_in-append xs ys k, e) (go (is_in xs k))
  where
    go : (b : Bool) → (b || true) ≡ true
    go true = refl
    go false = refl

-- what starts as neither, starts as none of them
pub starts_parts : (xs ys : List Kind) (rest : Tokens) → starts (xs ++ ys) rest ≡ false → (starts xs rest ≡ false) × (starts ys rest ≡ false)
starts_parts xs ys [] e = (refl, refl)
starts_parts xs ys (k ∷ ks) e = both_false (is_in xs k) (is_in ys k) (sym (is_in-append xs ys k) ∙ e)
