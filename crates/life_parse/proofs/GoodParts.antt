-- Good readers of forms that are made of forms.
use Rattle.std.proofs.Common.{◌≡◌, ℕ, ◌<◌, ◌≤◌, Bool, true, false, ◌++◌, length, Ok, refl, sym, ap, subst, ◌∙◌, arith, append_assoc, length-append, true≢false, if◌then◌else◌}
use Rattle.life_expr.specs.Heads.{heads, may_be_empty}
use Rattle.life_expr.specs.Read.{Reader, ◌>>=◌, starts, pair}
use Rattle.life_parse.specs.Tails.{tails}
use Rattle.life_parse.proofs.Binds.{bind_ok, ok_is}
use Rattle.life_parse.proofs.Elses.{Closed, joined_elses, joined_closed, first_closed, second_closed}
use Rattle.life_parse.proofs.FirstTokens.{sane, starts_not}
use Rattle.life_parse.proofs.GoodBelow.{Found, Sound, GoodBelow}
use Rattle.life_parse.proofs.Laws.{IsTree, Stops}
use Rattle.life_parse.proofs.Parts.{then_parts}
use Rattle.life_parse.proofs.TokenKinds.{starts_parts, disjoint}
use Rattle.life_tree.specs.Grammar.{Form, ◌then◌, Conforms, ElsesAreNearest}
use Rattle.life_tree.specs.Tree.{Tree, ◌⨾◌, tokens_of, depth, Tokens}

-- ---- one and then another, of a form that may depend on the first

-- what is found of the parts is found of both
pub found_joined : (f g h : Form) (n : ℕ) (ts mid rest : Tokens) (a b : Tree) → (Conforms a f → Conforms b g → Conforms (a ⨾ b) h) → Found f n ts a mid → Found g n mid b rest → Found h n ts (a ⨾ b) rest
found_joined f g h n ts mid rest a b to x y =
    let closed : Closed a (tokens_of b ++ rest) = subst (λ (us : Tokens). Closed a us) y.0 x.3 in (
      x.0 ∙ ap (λ (us : Tokens). tokens_of a ++ us) y.0 ∙ sym (append_assoc (tokens_of a) (tokens_of b) rest),
      record { conforms = to x.1.conforms y.1.conforms; elses = joined_elses a b rest x.1.elses y.1.elses closed },
      omega (arith, x.2, y.2),
      joined_closed a b rest closed y.3,
    )

pub sound_pair : (p : Reader) (q : Tree → Reader) (f : Form) (g : Tree → Form) (h : Form) (n : ℕ) → ((a b : Tree) → Conforms a f → Conforms b (g a) → Conforms (a ⨾ b) h)
    → Sound p f n → ((a : Tree) → Sound (q a) (g a) n) → Sound (pair p q) h n
sound_pair p q f g h n to sp sq ts t rest e =
    let a = bind_ok (p ts) (λ x. q x.0 x.1 >>= λ y. Ok (x.0 ⨾ y.0, y.1)) (t, rest) e in
    let m = bind_ok (q a.0.0 a.0.1) (λ y. Ok (a.0.0 ⨾ y.0, y.1)) (t, rest) a.2 in
    subst (λ (y : Tree × Tokens). Found h n ts y.0 y.1) (ok_is (a.0.0 ⨾ m.0.0, m.0.1) (t, rest) m.2)
    (found_joined f (g a.0.0) h n ts a.0.1 m.0.1 a.0.0 m.0.0 (to a.0.0 m.0.0) (sp ts a.0.0 a.0.1 a.1) (sq a.0.0 a.0.1 m.0.0 m.0.1 m.1))

-- the readers of the parts read both
pub again_pair : (p : Reader) (q : Tree → Reader) (a b : Tree) (rest : Tokens) → p (tokens_of a ++ (tokens_of b ++ rest)) ≡ Ok (a, tokens_of b ++ rest) → q a (tokens_of b ++ rest) ≡ Ok (b, rest)
    → pair p q (tokens_of (a ⨾ b) ++ rest) ≡ Ok (a ⨾ b, rest)
again_pair p q a b rest x y =
    let e : p ((tokens_of a ++ tokens_of b) ++ rest) ≡ Ok (a, tokens_of b ++ rest) = ap p (append_assoc (tokens_of a) (tokens_of b) rest) ∙ x in
    rw (e, y) refl

-- where the second begins, the first does not go on
pub stops_first : (f g h : Form) (a b : Tree) (rest : Tokens) → sane g ≡ true → disjoint (heads g) (tails f) ≡ true → (may_be_empty g ≡ true → starts (tails f) rest ≡ false)
    → ElsesAreNearest (a ⨾ b) → Conforms b g → Stops (a ⨾ b) h rest → Stops a f (tokens_of b ++ rest)
stops_first f g h a b rest s d empty elses c stops = record {
  tails = starts_not b g (tails f) rest s d c empty;
  elses = first_closed a b rest elses stops.elses;
}

pub append_parts : (a b : Tree) (rest : Tokens) → tokens_of (a ⨾ b) ++ rest ≡ tokens_of a ++ (tokens_of b ++ rest)
append_parts a b rest = append_assoc (tokens_of a) (tokens_of b) rest

pub shorter : (a b : Tree) (rest : Tokens) (limit : ℕ) → length (tokens_of (a ⨾ b) ++ rest) < limit → length (tokens_of a ++ (tokens_of b ++ rest)) < limit
shorter a b rest limit l = subst (λ (us : Tokens). length us < limit) (append_assoc (tokens_of a) (tokens_of b) rest) l

pub shorter_rest : (a b : Tree) (rest : Tokens) (limit : ℕ) → length (tokens_of (a ⨾ b) ++ rest) < limit → length (tokens_of b ++ rest) < limit
shorter_rest a b rest limit l = omega (arith, shorter a b rest limit l, length-append (tokens_of a) (tokens_of b ++ rest))

tails_then : (f g : Form) (rest : Tokens) → starts (tails (f then g)) rest ≡ false → (may_be_empty g ≡ true → starts (tails f) rest ≡ false) × (starts (tails g) rest ≡ false)
tails_then f g rest e = go (may_be_empty g) refl e
  where
    go : (m : Bool) → may_be_empty g ≡ m → starts (if m then tails f ++ tails g else tails g) rest ≡ false → (may_be_empty g ≡ true → starts (tails f) rest ≡ false) × (starts (tails g) rest ≡ false)
    go true h i = let p = starts_parts (tails f) (tails g) rest i in (λ k. p.0, p.1)
    go false h i = (λ k. absurd (true≢false (sym k ∙ h)), i)

-- the second reads lists with fewer than `more` tokens, and those behind the first have so few
pub good_then : (limit more n : ℕ) (p q : Reader) (f g : Form) → sane g ≡ true → disjoint (heads g) (tails f) ≡ true
    → ((a b : Tree) (rest : Tokens) → Conforms a f → length (tokens_of (a ⨾ b) ++ rest) < limit → length (tokens_of b ++ rest) < more)
    → GoodBelow limit p f n → GoodBelow more q g n → GoodBelow limit (pair p (λ a. q)) (f then g) n
good_then limit more n p q f g s d fewer x y = record {
  sound = sound_pair p (λ a. q) f (λ a. g) (f then g) n (λ a b u v. (u, v)) x.sound (λ a. y.sound);
  again = again;
}
  where
    at : (a b : Tree) (rest : Tokens) → length (tokens_of (a ⨾ b) ++ rest) < limit → IsTree (a ⨾ b) (f then g) → depth (a ⨾ b) ≤ n → Stops (a ⨾ b) (f then g) rest → pair p (λ a. q) (tokens_of (a ⨾ b) ++ rest) ≡ Ok (a ⨾ b, rest)
    at a b rest l i k stops =
        let free = tails_then f g rest stops.tails in
        again_pair p (λ a. q) a b rest
        (x.again a (tokens_of b ++ rest) (shorter a b rest limit l) (record { conforms = i.conforms.0; elses = i.elses.0 }) (omega (arith, k))
        (stops_first f g (f then g) a b rest s d free.0 i.elses i.conforms.1 stops))
        (y.again b rest (fewer a b rest i.conforms.0 l) (record { conforms = i.conforms.1; elses = i.elses.1 }) (omega (arith, k)) (record { tails = free.1; elses = second_closed a b rest stops.elses }))

    again : (t : Tree) (rest : Tokens) → length (tokens_of t ++ rest) < limit → IsTree t (f then g) → depth t ≤ n → Stops t (f then g) rest → pair p (λ a. q) (tokens_of t ++ rest) ≡ Ok (t, rest)
    again t rest l i k stops =
        let m = then_parts t f g i.conforms in
        go t m.0 m.1 m.2 l i k stops
      where
        go : (t a b : Tree) → t ≡ a ⨾ b → length (tokens_of t ++ rest) < limit → IsTree t (f then g) → depth t ≤ n → Stops t (f then g) rest → pair p (λ a. q) (tokens_of t ++ rest) ≡ Ok (t, rest)
        go t a b e = rw e (at a b rest)
