-- How the trees of a form begin, some tokens far: as one of given fronts, or as none.
use Rattle.std.proofs.Common.{◌≡◌, ℕ, zero, suc, Bool, true, false, cond, ◌&&◌, ◌||◌, List, [], ◌∷◌, ◌++◌, Option, Some, None, refl, sym, ap, ◌∙◌, inl, inr, ⊎_elim, append_assoc}
use Rattle.std.proofs.lemmas.Bool.{eq-eqb, and_parts}
use Rattle.life_expr.specs.Heads.{Kind, quoted_kind, name_kind, number_kind, character_kind, text_kind, is_of}
use Rattle.life_expr.specs.Read.{as_it_stands}
use Rattle.life_expr.specs.Readers.{begins, begins_as}
use Rattle.life_parse.proofs.GoodBelow.{OneToken, one_quoted, one_name, one_number, one_character, one_text}
use Rattle.life_parse.proofs.Parts.{or_fits, fits_or, then_parts, many_parts, opens_parts, rule_parts, decides_parts, none_is, no_else_is}
use Rattle.life_parse.proofs.TokenKinds.{same_kind, same_kind_is, apart, apart_is}
use Rattle.life_tree.specs.Grammar.{Form, none, no_else, quoted, name, number, character, text, ◌then◌, ◌decides◌, ◌or◌, many, opens, rule, form_of, assignment, step, ending, is_starred, ends_in_arguments, Conforms}
use Rattle.life_tree.specs.Rules as rules
use Rattle.life_tree.specs.Rules.{Rule}
use Rattle.life_tree.specs.Tree.{Tree, token, ◌⨾◌, tokens_of, Tokens}
use Rattle.life_tree.specs.declared.fixed.TheConstants as fixed
use Rattle.life_tree.specs.declared.key.TokenKey.TheVariants as keys
use Rattle.life_tree.specs.declared.token.TreeToken.{TreeToken}

abbrev pub Fronts : Type 0
Fronts = List (List Kind)

-- ---- one token further

-- what is left of the fronts that begin with this kind
abbrev pub advance : Kind → Fronts → Fronts
advance x [] = []
advance x ([] ∷ fs) = advance x fs
advance x ((y ∷ ys) ∷ fs) = cond (same_kind x y) (ys ∷ advance x fs) (advance x fs)

-- each front begins with just this kind, or with one that has no token in common
abbrev pub clear : Kind → Fronts → Bool
clear x [] = true
clear x ([] ∷ fs) = false
clear x ((y ∷ ys) ∷ fs) = (same_kind x y || apart x y) && clear x fs

advance_is : (x : Kind) (fs : Fronts) (k : TreeToken) (ks : Tokens) → clear x fs ≡ true → is_of x k ≡ true → begins_as fs (k ∷ ks) ≡ begins_as (advance x fs) ks
advance_is x [] k ks c e = refl
advance_is x ([] ∷ fs) k ks c e = absurd cc
advance_is x ((y ∷ ys) ∷ fs) k ks c e =
    let p = and_parts (same_kind x y || apart x y) (clear x fs) c in
    go (same_kind x y) refl p.0 (advance_is x fs k ks p.1 e)
  where
    go : (b : Bool) → same_kind x y ≡ b → (b || apart x y) ≡ true → begins_as fs (k ∷ ks) ≡ begins_as (advance x fs) ks
        → ((is_of y k && begins ys ks) || begins_as fs (k ∷ ks)) ≡ begins_as (cond b (ys ∷ advance x fs) (advance x fs)) ks
    go true h i ih = let same : is_of y k ≡ true = ap (λ (z : Kind). is_of z k) (sym (same_kind_is x y h)) ∙ e in rw (same, ih) refl
    go false h i ih = rw (apart_is x y k i e) ih

-- ---- what the fronts tell already

abbrev pub some_ended : Fronts → Bool
some_ended [] = false
some_ended ([] ∷ fs) = true
some_ended ((y ∷ ys) ∷ fs) = some_ended fs

abbrev pub verdict : Fronts → Option Bool
verdict [] = Some false
verdict (f ∷ fs) = cond (some_ended (f ∷ fs)) (Some true) None

abbrev Tells : Option Bool → Fronts → Type 0
Tells (Some b) fs = (ts : Tokens) → begins_as fs ts ≡ b
Tells None fs = Unit {0}

ended_is : (fs : Fronts) (ts : Tokens) → some_ended fs ≡ true → begins_as fs ts ≡ true
ended_is [] ts e = absurd cc
ended_is ([] ∷ fs) ts e = refl
ended_is ((y ∷ ys) ∷ fs) ts e = rw (ended_is fs ts e) (go (begins (y ∷ ys) ts))
  where
    go : (b : Bool) → (b || true) ≡ true
    go true = refl
    go false = refl

verdict_is : (fs : Fronts) → Tells (verdict fs) fs
verdict_is [] = λ ts. refl
verdict_is (f ∷ fs) = go (some_ended (f ∷ fs)) refl
  where
    go : (b : Bool) → some_ended (f ∷ fs) ≡ b → Tells (cond b (Some true) None) (f ∷ fs)
    go true h = λ ts. ended_is (f ∷ fs) ts h
    go false h = tt

-- ---- forms without what a tree decides

abbrev wide_ending : Form
wide_ending = assignment or step or none

-- the form of a rule, where simple statements may end in any way
abbrev pub wide_form : Rule → Form
wide_form rules.simple = opens fixed.PLUS_PLUS (rule rules.target) or opens fixed.MINUS_MINUS (rule rules.target) or (rule rules.target then wide_ending)
wide_form r = form_of r

ending_fits : (starred called : Bool) (t : Tree) → Conforms t (cond starred assignment (cond called (assignment or step or none) (assignment or step))) → Conforms t wide_ending
ending_fits true called t c = fits_or t assignment (step or none) (inl c)
ending_fits false true t c = c
ending_fits false false t c = fits_or t assignment (step or none) (⊎_elim (λ d. inl d) (λ d. inr (fits_or t step none (inl d))) (or_fits t assignment step c))

abbrev wide_third : Form
wide_third = rule rules.target then wide_ending

third_fits : (t : Tree) → Conforms t (rule rules.target decides ending) → Conforms t wide_third
third_fits t c = let p = decides_parts t (rule rules.target) ending c in at t p.0 p.1 p.2 p.3 p.4
  where
    at : (t a b : Tree) → t ≡ a ⨾ b → Conforms a (rule rules.target) → Conforms b (ending a) → Conforms t wide_third
    at t a b e x y = rw e (x, ending_fits (is_starred a) (ends_in_arguments a) b y)

-- a form or another, of which the second is made wider
or_wider : (f g h : Form) → ((t : Tree) → Conforms t g → Conforms t h) → (t : Tree) → Conforms t (f or g) → Conforms t (f or h)
or_wider f g h w t c = fits_or t f h (⊎_elim (λ d. inl d) (λ d. inr (w t d)) (or_fits t f g c))

simple_fits : (t : Tree) → Conforms t (form_of rules.simple) → Conforms t (wide_form rules.simple)
simple_fits =
    or_wider (opens fixed.PLUS_PLUS (rule rules.target)) (opens fixed.MINUS_MINUS (rule rules.target) or (rule rules.target decides ending)) (opens fixed.MINUS_MINUS (rule rules.target) or wide_third)
    (or_wider (opens fixed.MINUS_MINUS (rule rules.target)) (rule rules.target decides ending) wide_third third_fits)

wide_fits : (r : Rule) (t : Tree) → Conforms t (form_of r) → Conforms t (wide_form r)
wide_fits rules.simple t c = simple_fits t c
wide_fits _ t c = c

-- ---- the check

-- Whether all trees of the forms, one behind the other, begin as one of the fronts, if this is wanted, and else as none; with so many steps.
abbrev pub settled : ℕ → Option Bool → Bool → List Form → Fronts → Bool
settled zero v want fs fronts = false
settled (suc k) (Some b) want fs fronts = cond want b (cond b false true)
settled (suc k) None want [] fronts = false
settled (suc k) None want (none ∷ fs) fronts = settled k None want fs fronts
settled (suc k) None want (no_else ∷ fs) fronts = settled k None want fs fronts
settled (suc k) None want (quoted m ∷ fs) fronts = clear (quoted_kind m) fronts && settled k (verdict (advance (quoted_kind m) fronts)) want fs (advance (quoted_kind m) fronts)
settled (suc k) None want (name ∷ fs) fronts = clear name_kind fronts && settled k (verdict (advance name_kind fronts)) want fs (advance name_kind fronts)
settled (suc k) None want (number ∷ fs) fronts = clear number_kind fronts && settled k (verdict (advance number_kind fronts)) want fs (advance number_kind fronts)
settled (suc k) None want (character ∷ fs) fronts = clear character_kind fronts && settled k (verdict (advance character_kind fronts)) want fs (advance character_kind fronts)
settled (suc k) None want (text ∷ fs) fronts = clear text_kind fronts && settled k (verdict (advance text_kind fronts)) want fs (advance text_kind fronts)
settled (suc k) None want ((f then g) ∷ fs) fronts = settled k None want (f ∷ g ∷ fs) fronts
settled (suc k) None want ((f decides g) ∷ fs) fronts = false
settled (suc k) None want ((f or g) ∷ fs) fronts = settled k None want (f ∷ fs) fronts && settled k None want (g ∷ fs) fronts
settled (suc k) None want (many f ∷ fs) fronts = settled k None want fs fronts && settled k None want (f ∷ many f ∷ fs) fronts
settled (suc k) None want (opens m f ∷ fs) fronts = clear (quoted_kind m) fronts && settled k (verdict (advance (quoted_kind m) fronts)) want (f ∷ fs) (advance (quoted_kind m) fronts)
settled (suc k) None want (rule r ∷ fs) fronts = settled k None want (wide_form r ∷ fs) fronts

-- ---- what it says

abbrev Fit : List Tree → List Form → Type 0
Fit [] [] = Unit {0}
Fit (t ∷ ts) (f ∷ fs) = Conforms t f × Fit ts fs
Fit _ _ = ⊥

-- the tokens of trees, and the rest
abbrev spelled : List Tree → Tokens → Tokens
spelled [] rest = rest
spelled (t ∷ ts) rest = tokens_of t ++ spelled ts rest

abbrev Settles : ℕ → Option Bool → Bool → List Form → Fronts → Type 0
Settles k v want fs fronts = settled k v want fs fronts ≡ true → Tells v fronts → (ts : List Tree) → Fit ts fs → (rest : Tokens) → begins_as fronts (spelled ts rest) ≡ want

wanted : (want b : Bool) → cond want b (cond b false true) ≡ true → b ≡ want
wanted true b e = e
wanted false true e = absurd cc
wanted false false e = refl

one_token : (k : ℕ) (want : Bool) (fs : List Form) (fronts : Fronts) (kind : Kind) (f : TreeToken → Tree) (form : Form) → OneToken kind f form
    → Settles k (verdict (advance kind fronts)) want fs (advance kind fronts)
    → (clear kind fronts && settled k (verdict (advance kind fronts)) want fs (advance kind fronts)) ≡ true → (ts : List Tree) → Fit ts (form ∷ fs) → (rest : Tokens) → begins_as fronts (spelled ts rest) ≡ want
one_token k want fs fronts kind f form o ih s [] fit rest = absurd fit
one_token k want fs fronts kind f form o ih s (t ∷ ts) fit rest =
    let p = and_parts (clear kind fronts) (settled k (verdict (advance kind fronts)) want fs (advance kind fronts)) s in
    let b = o.back t fit.0 in
    ap (λ (us : Tokens). begins_as fronts (us ++ spelled ts rest)) b.2 ∙ advance_is kind fronts b.0 (spelled ts rest) p.0 b.3 ∙ ih p.1 (verdict_is (advance kind fronts)) ts fit.1 rest

settled_is : (k : ℕ) (v : Option Bool) (want : Bool) (fs : List Form) (fronts : Fronts) → Settles k v want fs fronts
settled_is zero v want fs fronts s h ts fit rest = absurd cc
settled_is (suc k) (Some b) want fs fronts s h ts fit rest = h (spelled ts rest) ∙ wanted want b s
settled_is (suc k) None want [] fronts s h ts fit rest = absurd cc
settled_is (suc k) None want (none ∷ fs) fronts s h [] fit rest = absurd fit
settled_is (suc k) None want (none ∷ fs) fronts s h (t ∷ ts) fit rest =
    ap (λ (u : Tree). begins_as fronts (tokens_of u ++ spelled ts rest)) (none_is t fit.0) ∙ settled_is k None want fs fronts s tt ts fit.1 rest
settled_is (suc k) None want (no_else ∷ fs) fronts s h [] fit rest = absurd fit
settled_is (suc k) None want (no_else ∷ fs) fronts s h (t ∷ ts) fit rest =
    ap (λ (u : Tree). begins_as fronts (tokens_of u ++ spelled ts rest)) (no_else_is t fit.0) ∙ settled_is k None want fs fronts s tt ts fit.1 rest
settled_is (suc k) None want (quoted m ∷ fs) fronts s h ts fit rest =
    one_token k want fs fronts (quoted_kind m) (λ i. token (keys.Fixed m) i.place) (quoted m) (one_quoted m) (settled_is k (verdict (advance (quoted_kind m) fronts)) want fs (advance (quoted_kind m) fronts)) s ts fit rest
settled_is (suc k) None want (name ∷ fs) fronts s h ts fit rest =
    one_token k want fs fronts name_kind as_it_stands name one_name (settled_is k (verdict (advance name_kind fronts)) want fs (advance name_kind fronts)) s ts fit rest
settled_is (suc k) None want (number ∷ fs) fronts s h ts fit rest =
    one_token k want fs fronts number_kind as_it_stands number one_number (settled_is k (verdict (advance number_kind fronts)) want fs (advance number_kind fronts)) s ts fit rest
settled_is (suc k) None want (character ∷ fs) fronts s h ts fit rest =
    one_token k want fs fronts character_kind as_it_stands character one_character (settled_is k (verdict (advance character_kind fronts)) want fs (advance character_kind fronts)) s ts fit rest
settled_is (suc k) None want (text ∷ fs) fronts s h ts fit rest =
    one_token k want fs fronts text_kind as_it_stands text one_text (settled_is k (verdict (advance text_kind fronts)) want fs (advance text_kind fronts)) s ts fit rest
settled_is (suc k) None want ((f then g) ∷ fs) fronts s h [] fit rest = absurd fit
settled_is (suc k) None want ((f then g) ∷ fs) fronts s h (t ∷ ts) fit rest =
    let p = then_parts t f g fit.0 in
    ap (λ (u : Tree). begins_as fronts (tokens_of u ++ spelled ts rest)) p.2
    ∙ ap (begins_as fronts) (append_assoc (tokens_of p.0) (tokens_of p.1) (spelled ts rest))
    ∙ settled_is k None want (f ∷ g ∷ fs) fronts s tt (p.0 ∷ p.1 ∷ ts) (p.3, (p.4, fit.1)) rest
settled_is (suc k) None want ((f decides g) ∷ fs) fronts s h ts fit rest = absurd cc
settled_is (suc k) None want ((f or g) ∷ fs) fronts s h [] fit rest = absurd fit
settled_is (suc k) None want ((f or g) ∷ fs) fronts s h (t ∷ ts) fit rest =
    let p = and_parts (settled k None want (f ∷ fs) fronts) (settled k None want (g ∷ fs) fronts) s in
    ⊎_elim
    (λ c. settled_is k None want (f ∷ fs) fronts p.0 tt (t ∷ ts) (c, fit.1) rest)
    (λ c. settled_is k None want (g ∷ fs) fronts p.1 tt (t ∷ ts) (c, fit.1) rest)
    (or_fits t f g fit.0)
settled_is (suc k) None want (many f ∷ fs) fronts s h [] fit rest = absurd fit
settled_is (suc k) None want (many f ∷ fs) fronts s h (t ∷ ts) fit rest =
    let p = and_parts (settled k None want fs fronts) (settled k None want (f ∷ many f ∷ fs) fronts) s in
    ⊎_elim
    (λ e. ap (λ (u : Tree). begins_as fronts (tokens_of u ++ spelled ts rest)) e ∙ settled_is k None want fs fronts p.0 tt ts fit.1 rest)
    (λ e. ap (λ (u : Tree). begins_as fronts (tokens_of u ++ spelled ts rest)) e.2
    ∙ ap (begins_as fronts) (append_assoc (tokens_of e.0) (tokens_of e.1) (spelled ts rest))
    ∙ settled_is k None want (f ∷ many f ∷ fs) fronts p.1 tt (e.0 ∷ e.1 ∷ ts) (e.3, (e.4, fit.1)) rest)
    (many_parts t f fit.0)
settled_is (suc k) None want (opens m f ∷ fs) fronts s h [] fit rest = absurd fit
settled_is (suc k) None want (opens m f ∷ fs) fronts s h (t ∷ ts) fit rest =
    let p = and_parts (clear (quoted_kind m) fronts) (settled k (verdict (advance (quoted_kind m) fronts)) want (f ∷ fs) (advance (quoted_kind m) fronts)) s in
    let o = opens_parts t m f fit.0 in
    ap (λ (u : Tree). begins_as fronts (tokens_of u ++ spelled ts rest)) o.2
    ∙ advance_is (quoted_kind m) fronts (record { key = keys.Fixed m; place = o.0 }) (tokens_of o.1 ++ spelled ts rest) p.0 (eq-eqb m m refl)
    ∙ settled_is k (verdict (advance (quoted_kind m) fronts)) want (f ∷ fs) (advance (quoted_kind m) fronts) p.1 (verdict_is (advance (quoted_kind m) fronts)) (o.1 ∷ ts) (o.3, fit.1) rest
settled_is (suc k) None want (rule r ∷ fs) fronts s h [] fit rest = absurd fit
settled_is (suc k) None want (rule r ∷ fs) fronts s h (t ∷ ts) fit rest =
    let o = rule_parts t r fit.0 in
    ap (λ (u : Tree). begins_as fronts (tokens_of u ++ spelled ts rest)) o.1
    ∙ settled_is k None want (wide_form r ∷ fs) fronts s tt (o.0 ∷ ts) (wide_fits r o.0 o.2, fit.1) rest

pub front_is : (k : ℕ) (want : Bool) (f : Form) (fronts : Fronts) → settled k None want (f ∷ []) fronts ≡ true → (t : Tree) (rest : Tokens) → Conforms t f → begins_as fronts (tokens_of t ++ rest) ≡ want
front_is k want f fronts s t rest c = settled_is k None want (f ∷ []) fronts s tt (t ∷ []) (c, tt) rest
