-- The reader of a form that passes a check is good, if those of the rules in it are.
use Rattle.std.proofs.Common.{◌≡◌, ℕ, zero, suc, ◌<◌, ◌≤◌, ◌+◌, nat_lt, Bool, true, false, not, ◌&&◌, ◌||◌, ◌∷◌, ◌++◌, length, Ok, refl, sym, ap, subst, ◌∙◌, arith, true≢false}
use Rattle.std.proofs.lemmas.Bool.{lt-ltb, eq-eqb, and_parts, not-true}
use Rattle.life_expr.specs.Heads.{quoted_kind, name_kind, number_kind, character_kind, text_kind, heads, may_be_empty}
use Rattle.life_expr.specs.Read.{Reader, ◌>>=◌, opener, reads, as_it_stands}
use Rattle.life_expr.specs.Readers.{Readers}
use Rattle.life_parse.specs.Tails.{tails}
use Rattle.life_parse.proofs.Binds.{bind_ok, ok_is}
use Rattle.life_parse.proofs.FirstTokens.{sane}
use Rattle.life_parse.proofs.GoodBelow.{Found, Sound, GoodBelow, below, good_none, good_token, one_quoted, one_name, one_number, one_character, one_text}
use Rattle.life_parse.proofs.GoodChoice.{good_or, is_no_else}
use Rattle.life_parse.proofs.GoodMany.{good_many}
use Rattle.life_parse.proofs.GoodParts.{good_then, shorter_rest}
use Rattle.life_parse.proofs.Laws.{Good, IsTree, Stops}
use Rattle.life_parse.proofs.Openers.{opened, passed}
use Rattle.life_parse.proofs.Parts.{opens_parts}
use Rattle.life_parse.proofs.TokenKinds.{disjoint}
use Rattle.life_tree.specs.Grammar.{Form, none, no_else, quoted, name, number, character, text, ◌then◌, ◌decides◌, ◌or◌, many, opens, rule}
use Rattle.life_tree.specs.Rules.{Rule}
use Rattle.life_tree.specs.Tree.{Tree, token, construct, tokens_of, depth, Tokens}
use Rattle.life_tree.specs.declared.key.TokenKey.{TokenKey}
use Rattle.life_tree.specs.declared.key.TokenKey.TheVariants as keys
use Rattle.life_tree.specs.declared.token.TreeToken.{TreeToken}
use Rattle.life_types.specs.declared.place.Place.{Place}

-- ---- constructs

abbrev token_at : TokenKey → Place → TreeToken
token_at key place = record { key = key; place = place }

opener_ok : (n m : ℕ) (ts : Tokens) (x : Place × Tokens) → opener n m ts ≡ Ok x → (ts ≡ token_at (keys.Fixed m) x.0 ∷ x.1) × (k : ℕ) × (n ≡ suc k)
opener_ok n m ts x e = let p = passed n m ts x.0 x.1 e in let s = some n p.more in (p.front, s.0, s.1)
  where
    some : (n : ℕ) → nat_lt 0 n ≡ true → (k : ℕ) × (n ≡ suc k)
    some zero h = absurd cc
    some (suc k) h = (k, refl)

pub good_opens : (limit n m : ℕ) (p : Reader) (f : Form) → ((k : ℕ) → n ≡ suc k → GoodBelow limit p f k) → GoodBelow limit (opened n m p) (opens m f) n
good_opens limit n m p f g = record { sound = sound; again = λ t rest l i d s. let o = opens_parts t m f i.conforms in again t rest o.0 o.1 o.2 l i d s }
  where
    sound : Sound (opened n m p) (opens m f) n
    sound ts t rest e =
        let a = bind_ok (opener n m ts) (λ x. p x.1 >>= λ y. Ok (construct m x.0 y.0, y.1)) (t, rest) e in
        let o = opener_ok n m ts a.0 a.1 in
        let b = bind_ok (p a.0.1) (λ y. Ok (construct m a.0.0 y.0, y.1)) (t, rest) a.2 in
        let x = (g o.1 o.2).sound a.0.1 b.0.0 b.0.1 b.1 in
        subst (λ (y : Tree × Tokens). Found (opens m f) n ts y.0 y.1) (ok_is (construct m a.0.0 b.0.0, b.0.1) (t, rest) b.2)
        (o.0 ∙ ap (λ (us : Tokens). token_at (keys.Fixed m) a.0.0 ∷ us) x.0, record { conforms = (refl, x.1.conforms); elses = x.1.elses }, omega (arith, x.2, o.2), x.3)

    at : (place : Place) (u : Tree) (rest : Tokens) (k : ℕ) → n ≡ suc k → length (tokens_of (construct m place u) ++ rest) < limit → IsTree (construct m place u) (opens m f) → depth (construct m place u) ≤ n → Stops (construct m place u) (opens m f) rest
        → opened n m p (tokens_of (construct m place u) ++ rest) ≡ Ok (construct m place u, rest)
    at place u rest k is l i d s =
        let read = (g k is).again u rest (omega (arith, l)) (record { conforms = i.conforms.1; elses = i.elses }) (omega (arith, d, is)) (record { tails = s.tails; elses = s.elses }) in
        rw (eq-eqb m m refl, lt-ltb 0 n (omega (arith, is)), read) refl

    some : (n : ℕ) (u : Tree) → depth u + 1 ≤ n → (k : ℕ) × (n ≡ suc k)
    some zero u d = absurd (omega (arith, d))
    some (suc k) u d = (k, refl)

    again : (t : Tree) (rest : Tokens) (place : Place) (u : Tree) → t ≡ construct m place u → length (tokens_of t ++ rest) < limit → IsTree t (opens m f) → depth t ≤ n → Stops t (opens m f) rest → opened n m p (tokens_of t ++ rest) ≡ Ok (t, rest)
    again t rest place u e = rw e (λ l i (d : depth u + 1 ≤ n) s. let k = some n u d in at place u rest k.0 k.1 l i d s)

-- ---- the check

abbrev pub has_construct : Form → Bool
has_construct (f then g) = has_construct f || has_construct g
has_construct (f decides g) = true
has_construct (f or g) = has_construct f || has_construct g
has_construct (many f) = has_construct f
has_construct (opens n f) = true
has_construct _ = false

-- Each first token tells what is read. (What a tree decides is not seen through, and what may be left out before an `else` has a lemma of its own.)
abbrev pub checked : Form → Bool
checked no_else = false
checked (f then g) = checked f && checked g && sane g && disjoint (heads g) (tails f)
checked (f decides g) = false
checked (f or g) = checked f && checked g && sane f && sane g && not (may_be_empty f) && not (is_no_else g) && disjoint (heads g) (heads f)
checked (many f) = checked f && sane f && not (may_be_empty f) && disjoint (heads f) (tails f)
checked (opens n f) = checked f && not (has_construct f)
checked _ = true

-- something of each rule that stands in a form, outside of constructs
abbrev pub Each : (Rule → Type 0) → Form → Type 0
Each P (f then g) = Each P f × Each P g
Each P (f or g) = Each P f × Each P g
Each P (many f) = Each P f
Each P (rule r) = P r
Each P _ = Unit {0}

pub each_of_all : (P : Rule → Type 0) → ((r : Rule) → P r) → (f : Form) → Each P f
each_of_all P h (f then g) = (each_of_all P h f, each_of_all P h g)
each_of_all P h (f or g) = (each_of_all P h f, each_of_all P h g)
each_of_all P h (many f) = each_of_all P h f
each_of_all P h (rule r) = h r
each_of_all P h _ = tt

-- the readers of rules, each of lists with fewer tokens than the limit
abbrev pub AllBelow : ℕ → Readers → ℕ → Rule → Type 0
AllBelow limit same n r = GoodBelow limit (same r) (rule r) n

-- those that read inside a construct, where n more may be open outside
abbrev pub InsideGood : ℕ → Readers → Type 0
InsideGood n inside = (k : ℕ) → n ≡ suc k → (r : Rule) → Good (inside r) (rule r) k

-- where constructs may stand, the opener's number is that of the law
abbrev Opened : ℕ → ℕ → Readers → Form → Type 0
Opened a n inside f = has_construct f ≡ true → (a ≡ n) × InsideGood n inside

left_of : (a n : ℕ) (inside : Readers) (x y : Bool) → ((x || y) ≡ true → (a ≡ n) × InsideGood n inside) → x ≡ true → (a ≡ n) × InsideGood n inside
left_of a n inside x y h e = h (rw e refl)

right_of : (a n : ℕ) (inside : Readers) (x y : Bool) → ((x || y) ≡ true → (a ≡ n) × InsideGood n inside) → y ≡ true → (a ≡ n) × InsideGood n inside
right_of a n inside true y h e = h refl
right_of a n inside false y h e = h e

good_checked : (f : Form) (limit a n : ℕ) (inside same : Readers) → checked f ≡ true → Opened a n inside f → Each (AllBelow limit same n) f → GoodBelow limit (λ ts. reads a inside same f ts) f n
good_checked none limit a n inside same c o e = good_none limit n
good_checked no_else limit a n inside same c o e = absurd cc
good_checked (quoted m) limit a n inside same c o e = good_token limit n (quoted_kind m) (λ k. token (keys.Fixed m) k.place) (quoted m) (one_quoted m)
good_checked name limit a n inside same c o e = good_token limit n name_kind as_it_stands name one_name
good_checked number limit a n inside same c o e = good_token limit n number_kind as_it_stands number one_number
good_checked character limit a n inside same c o e = good_token limit n character_kind as_it_stands character one_character
good_checked text limit a n inside same c o e = good_token limit n text_kind as_it_stands text one_text
good_checked (f then g) limit a n inside same c o e =
    let d = and_parts (checked f && checked g && sane g) (disjoint (heads g) (tails f)) c in
    let s = and_parts (checked f && checked g) (sane g) d.0 in
    let p = and_parts (checked f) (checked g) s.0 in
    good_then limit limit n (λ ts. reads a inside same f ts) (λ ts. reads a inside same g ts) f g s.1 d.1 (λ x y rest u l. shorter_rest x y rest limit l)
    (good_checked f limit a n inside same p.0 (left_of a n inside (has_construct f) (has_construct g) o) e.0)
    (good_checked g limit a n inside same p.1 (right_of a n inside (has_construct f) (has_construct g) o) e.1)
good_checked (f decides g) limit a n inside same c o e = absurd cc
good_checked (f or g) limit a n inside same c o e =
    let d = and_parts (checked f && checked g && sane f && sane g && not (may_be_empty f) && not (is_no_else g)) (disjoint (heads g) (heads f)) c in
    let i = and_parts (checked f && checked g && sane f && sane g && not (may_be_empty f)) (not (is_no_else g)) d.0 in
    let m = and_parts (checked f && checked g && sane f && sane g) (not (may_be_empty f)) i.0 in
    let t = and_parts (checked f && checked g && sane f) (sane g) m.0 in
    let s = and_parts (checked f && checked g) (sane f) t.0 in
    let p = and_parts (checked f) (checked g) s.0 in
    good_or limit n (λ ts. reads a inside same f ts) (λ ts. reads a inside same g ts) f g s.1 t.1 (not-true (may_be_empty f) m.1) (not-true (is_no_else g) i.1) d.1
    (good_checked f limit a n inside same p.0 (left_of a n inside (has_construct f) (has_construct g) o) e.0)
    (good_checked g limit a n inside same p.1 (right_of a n inside (has_construct f) (has_construct g) o) e.1)
good_checked (many f) limit a n inside same c o e =
    let d = and_parts (checked f && sane f && not (may_be_empty f)) (disjoint (heads f) (tails f)) c in
    let m = and_parts (checked f && sane f) (not (may_be_empty f)) d.0 in
    let s = and_parts (checked f) (sane f) m.0 in
    good_many limit n (λ ts. reads a inside same f ts) f s.1 (not-true (may_be_empty f) m.1) d.1 (good_checked f limit a n inside same s.0 o e)
good_checked (opens m f) limit a n inside same c o e =
    let s = and_parts (checked f) (not (has_construct f)) c in
    let h = o refl in
    subst (λ (i : ℕ). GoodBelow limit (opened i m (λ us. reads 0 inside inside f us)) (opens m f) n) (sym h.0)
    (good_opens limit n m (λ us. reads 0 inside inside f us) f (λ k is. good_checked f limit 0 k inside inside s.0
    (λ has. absurd (true≢false (sym has ∙ not-true (has_construct f) s.1)))
    (each_of_all (AllBelow limit inside k) (λ r. below (inside r) (rule r) k (h.1 k is r) limit) f)))
good_checked (rule r) limit a n inside same c o e = e

pub good_reads : (f : Form) (limit n : ℕ) (inside same : Readers) → checked f ≡ true → InsideGood n inside → Each (AllBelow limit same n) f → GoodBelow limit (λ ts. reads n inside same f ts) f n
good_reads f limit n inside same c i e = good_checked f limit n n inside same c (λ h. (refl, i)) e
