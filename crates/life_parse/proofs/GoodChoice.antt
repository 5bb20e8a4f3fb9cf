-- Good readers of one form or another.
use Rattle.std.proofs.Common.{◌≡◌, ℕ, ◌==◌, ◌<◌, ◌≤◌, Bool, true, false, cond, ◌||◌, List, [], ◌∷◌, ◌++◌, length, Ok, refl, sym, ap, subst, ◌∙◌, inl, inr, ⊎_elim, arith, if◌then◌else◌, true≢false}
use Rattle.life_expr.specs.Heads.{Kind, quoted_kind, key_is_of, heads, may_be_empty}
use Rattle.life_expr.specs.Read.{Reader, starts}
use Rattle.life_parse.specs.Tails.{tails, skipped}
use Rattle.life_parse.proofs.Binds.{ok_is}
use Rattle.life_parse.proofs.Elses.{Closed}
use Rattle.life_parse.proofs.FirstTokens.{sane, begins_surely, starts_not}
use Rattle.life_parse.proofs.GoodBelow.{Found, Sound, GoodBelow}
use Rattle.life_parse.proofs.Laws.{IsTree, Stops, else_in_front}
use Rattle.life_parse.proofs.Parts.{or_fits, fits_or, no_else_is}
use Rattle.life_parse.proofs.TokenKinds.{starts_parts, disjoint}
use Rattle.life_tree.specs.Grammar.{Form, none, no_else, ◌then◌, ◌or◌, Conforms, is_else}
use Rattle.life_tree.specs.Tree.{Tree, without_else, tokens_of, depth, Tokens}
use Rattle.life_tree.specs.declared.fixed.TheConstants as fixed
use Rattle.life_tree.specs.declared.key.TokenKey.{TokenKey}
use Rattle.life_tree.specs.declared.key.TokenKey.TheVariants as keys

-- which of two readers reads, by a test of the tokens
abbrev pub either : (Tokens → Bool) → Reader → Reader → Reader
either test p q ts = if test ts then p ts else q ts

pub found_left : (f g : Form) (n : ℕ) (ts rest : Tokens) (t : Tree) → Found f n ts t rest → Found (f or g) n ts t rest
found_left f g n ts rest t x = (x.0, record { conforms = fits_or t f g (inl x.1.conforms); elses = x.1.elses }, x.2, x.3)

pub found_right : (f g : Form) (n : ℕ) (ts rest : Tokens) (t : Tree) → Found g n ts t rest → Found (f or g) n ts t rest
found_right f g n ts rest t x = (x.0, record { conforms = fits_or t f g (inr x.1.conforms); elses = x.1.elses }, x.2, x.3)

pub sound_either : (test : Tokens → Bool) (p q : Reader) (f g : Form) (n : ℕ) → Sound p f n → ((ts : Tokens) (t : Tree) (rest : Tokens) → test ts ≡ false → q ts ≡ Ok (t, rest) → Found g n ts t rest)
    → Sound (either test p q) (f or g) n
sound_either test p q f g n x y ts t rest e = go (test ts) refl e
  where
    go : (b : Bool) → test ts ≡ b → cond b (p ts) (q ts) ≡ Ok (t, rest) → Found (f or g) n ts t rest
    go true h i = found_left f g n ts rest t (x ts t rest i)
    go false h i = found_right f g n ts rest t (y ts t rest h i)

tails_or : (f g : Form) (t : Tree) (rest : Tokens) → Stops t (f or g) rest → (starts (skipped f g) rest ≡ false) × Stops t f rest × Stops t g rest
tails_or f g t rest s =
    let a = starts_parts (skipped f g ++ tails f) (tails g) rest s.tails in
    let b = starts_parts (skipped f g) (tails f) rest a.0 in
    (b.0, record { tails = b.1; elses = s.elses }, record { tails = a.1; elses = s.elses })

-- the test tells apart the trees of the two forms, before what may follow them
pub good_either : (limit n : ℕ) (test : Tokens → Bool) (p q : Reader) (f g : Form)
    → ((t : Tree) (rest : Tokens) → Conforms t f → Stops t (f or g) rest → test (tokens_of t ++ rest) ≡ true)
    → ((t : Tree) (rest : Tokens) → Conforms t g → Stops t (f or g) rest → test (tokens_of t ++ rest) ≡ false)
    → ((ts : Tokens) (t : Tree) (rest : Tokens) → test ts ≡ false → q ts ≡ Ok (t, rest) → Found g n ts t rest)
    → ((t : Tree) (rest : Tokens) → length (tokens_of t ++ rest) < limit → IsTree t g → depth t ≤ n → Stops t g rest → q (tokens_of t ++ rest) ≡ Ok (t, rest))
    → GoodBelow limit p f n → GoodBelow limit (either test p q) (f or g) n
good_either limit n test p q f g first second sound again x = record {
  sound = sound_either test p q f g n x.sound sound;
  again = λ t rest l i k s.
      let stops = tails_or f g t rest s in
      ⊎_elim
      (λ c. rw (first t rest c s) (x.again t rest l (record { conforms = c; elses = i.elses }) k stops.1))
      (λ c. rw (second t rest c s) (again t rest l (record { conforms = c; elses = i.elses }) k stops.2))
      (or_fits t f g i.conforms);
}

-- ---- by the first token

abbrev pub is_no_else : Form → Bool
is_no_else no_else = true
is_no_else _ = false

skipped_is : (f g : Form) → is_no_else g ≡ false → may_be_empty g ≡ true → skipped f g ≡ heads f
skipped_is f no_else h m = absurd (true≢false h)
skipped_is f none h m = refl
skipped_is f g h m = ap (λ (b : Bool). cond b (heads f) []) m

pub good_or : (limit n : ℕ) (p q : Reader) (f g : Form) → sane f ≡ true → sane g ≡ true → may_be_empty f ≡ false → is_no_else g ≡ false → disjoint (heads g) (heads f) ≡ true
    → GoodBelow limit p f n → GoodBelow limit q g n → GoodBelow limit (either (starts (heads f)) p q) (f or g) n
good_or limit n p q f g sf sg m other d x y =
    good_either limit n (starts (heads f)) p q f g
    (λ t rest c s. begins_surely t f rest sf m c)
    (λ t rest c s. starts_not t g (heads f) rest sg d c (λ empty. subst (λ (kinds : List Kind). starts kinds rest ≡ false) (skipped_is f g other empty) (tails_or f g t rest s).0))
    (λ ts t rest h e. y.sound ts t rest e)
    y.again
    x

-- ---- an `else`, or none

else_kind : (key : TokenKey) → (key_is_of (quoted_kind fixed.ELSE) key || false) ≡ is_else key
else_kind (keys.Fixed n) = go (n == fixed.ELSE)
  where
    go : (b : Bool) → (b || false) ≡ b
    go true = refl
    go false = refl
else_kind (keys.Name n) = refl
else_kind (keys.Number n) = refl
else_kind (keys.Char n) = refl
else_kind (keys.Text n) = refl

starts_else : (ts : Tokens) → starts (quoted_kind fixed.ELSE ∷ []) ts ≡ else_in_front ts
starts_else [] = refl
starts_else (k ∷ ks) = else_kind k.key

abbrev pub else_left_out : Reader
else_left_out ts = Ok (without_else, ts)

not_in_front : (rest : Tokens) → Closed without_else rest → else_in_front rest ≡ false
not_in_front rest c = go (else_in_front rest) refl
  where
    go : (b : Bool) → else_in_front rest ≡ b → b ≡ false
    go true h = absurd (true≢false (c h))
    go false h = refl

pub good_or_no_else : (limit n : ℕ) (p : Reader) (f : Form) → sane f ≡ true → may_be_empty f ≡ false → heads f ≡ quoted_kind fixed.ELSE ∷ []
    → GoodBelow limit p f n → GoodBelow limit (either (starts (heads f)) p else_left_out) (f or no_else) n
good_or_no_else limit n p f sf m only x =
    good_either limit n (starts (heads f)) p else_left_out f no_else
    (λ t rest c s. begins_surely t f rest sf m c)
    (λ t rest c s. second t rest (no_else_is t c) s.elses)
    (λ ts t rest h e. subst (λ (y : Tree × Tokens). Found no_else n ts y.0 y.1) (ok_is (without_else, ts) (t, rest) e)
    (refl, record { conforms = tt; elses = tt }, omega arith, λ i. absurd (true≢false (sym i ∙ sym (tells ts) ∙ h))))
    (λ t rest l i k s. back t rest (no_else_is t i.conforms))
    x
  where
    tells : (ts : Tokens) → starts (heads f) ts ≡ else_in_front ts
    tells ts = ap (λ (kinds : List Kind). starts kinds ts) only ∙ starts_else ts

    second : (t : Tree) (rest : Tokens) → t ≡ without_else → Closed t rest → starts (heads f) (tokens_of t ++ rest) ≡ false
    second t rest e = rw e (λ c. tells rest ∙ not_in_front rest c)

    back : (t : Tree) (rest : Tokens) → t ≡ without_else → else_left_out (tokens_of t ++ rest) ≡ Ok (t, rest)
    back t rest e = rw e refl
