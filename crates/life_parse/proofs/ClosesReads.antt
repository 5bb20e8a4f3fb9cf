-- Where reading a form stops, what was read is the beginning of a tree of the form.
use Rattle.std.proofs.Common.{◌≡◌, ℕ, zero, suc, ◌==◌, Bool, true, false, MatchBool, [], ◌∷◌, ◌++◌, Ok, Err, inl, inr, ◌⊎◌, refl, sym, ap, subst, ◌∙◌, add-one}
use Rattle.life_parse.proofs.Binds.{bind_err, ok_no_err}
use Rattle.life_parse.proofs.Begun.{Sample, Over, begun_nothing, begun_inside, over_inside, over_at_opener}
use Rattle.life_parse.proofs.Closed.{Stopped, Closed, Closed-pair, Closed-or, Closed-empty, Closed-many}
use Rattle.life_parse.proofs.Laws.{IsTree}
use Rattle.life_parse.proofs.Openers.{Passed, passed, unopened, opened, enclosed, construct_read}
use Rattle.life_parse.proofs.Takes.{takes, refuses, quoted_token}
use Rattle.life_parse.proofs.Wholes.{Whole, whole_construct}
use Rattle.life_expr.specs.Heads.{Kind, quoted_kind, name_kind, number_kind, character_kind, text_kind, key_is_of, is_of, heads}
use Rattle.life_expr.specs.Read.{Stop, refused, deep, ◌>>=◌, Read, Reader, the_token, as_it_stands, opener, starts, reads}
use Rattle.life_expr.specs.Readers.{Readers}
use Rattle.life_tree.specs.Grammar.{Form, none, no_else, quoted, name, number, character, text, ◌then◌, ◌decides◌, ◌or◌, many, opens, rule, Conforms, ends_open}
use Rattle.life_tree.specs.Rules.{Rule}
use Rattle.life_tree.specs.Tree.{Tree, nothing, token, construct, tokens_of, nowhere, Tokens}
use Rattle.life_tree.specs.declared.fixed.TheConstants as fixed
use Rattle.life_tree.specs.declared.key.TokenKey.{TokenKey}
use Rattle.life_tree.specs.declared.key.TokenKey.TheVariants as keys
use Rattle.life_tree.specs.declared.token.TreeToken.{TreeToken}
use Rattle.life_types.specs.declared.place.Place.{Place}

-- ---- what is asked of the parts of a form

-- the token is no `else`
abbrev pub NotElse : ℕ → Type 0
NotElse n = MatchBool (n == fixed.ELSE) ⊥ (Unit {0})

not_else : (n : ℕ) → NotElse n → n == fixed.ELSE ≡ false
not_else n h = go (n == fixed.ELSE) h
  where
    go : (b : Bool) → MatchBool b ⊥ (Unit {0}) → b ≡ false
    go true h = absurd h
    go false h = refl

-- P of each rule in it, O of each construct, and there is no `else` in it
abbrev pub Parts : (Rule → Type 0) → (ℕ → Form → Type 0) → Form → Type 0
Parts P O no_else = ⊥
Parts P O (quoted n) = NotElse n
Parts P O (f then g) = Parts P O f × Parts P O g
Parts P O (f decides g) = Parts P O f × ((t : Tree) → Parts P O (g t))
Parts P O (f or g) = Parts P O f × Parts P O g
Parts P O (many f) = Parts P O f
Parts P O (opens n f) = O n f
Parts P O (rule r) = P r
Parts P O _ = Unit {0}

-- no construct is in it
abbrev pub Flat : Form → Type 0
Flat = Parts (λ r. Unit {0}) (λ n f. ⊥)

-- no construct is in one of its constructs
abbrev pub Needs : (Rule → Type 0) → Form → Type 0
Needs P = Parts P (λ n f. NotElse n × Flat f)

-- ---- one token

token_sample : (key : TokenKey) (f : Form) → Conforms (token key nowhere) f → key_is_of (quoted_kind fixed.ELSE) key ≡ false → Sample f
token_sample (keys.Fixed n) f h e = record { tree = token (keys.Fixed n) nowhere; fits = record { conforms = h; elses = tt }; later = e }
token_sample (keys.Name n) f h e = record { tree = token (keys.Name n) nowhere; fits = record { conforms = h; elses = tt }; later = refl }
token_sample (keys.Number n) f h e = record { tree = token (keys.Number n) nowhere; fits = record { conforms = h; elses = tt }; later = refl }
token_sample (keys.Char n) f h e = record { tree = token (keys.Char n) nowhere; fits = record { conforms = h; elses = tt }; later = refl }
token_sample (keys.Text n) f h e = record { tree = token (keys.Text n) nowhere; fits = record { conforms = h; elses = tt }; later = refl }

whole_token : (kind : Kind) (g : TreeToken → Tree) (f : Form) → ((k : TreeToken) → is_of kind k ≡ true → (k ∷ [] ≡ tokens_of (g k)) × IsTree (g k) f × (ends_open (g k) ≡ false))
    → (ts : Tokens) (t : Tree) (rest : Tokens) → the_token kind g ts ≡ Ok (t, rest) → Whole f ts t rest
whole_token kind g f keeps ts t rest e =
    let a = takes kind g ts t rest e in
    let k = keeps a.0 a.2 in
    subst (λ (u : Tree). Whole f ts u rest) a.3 (record { spelled = a.1 ∙ ap (λ (l : Tokens). l ++ rest) k.0; fits = k.1; elses = λ front. k.2 })

Closed-token : (kind : Kind) (g : TreeToken → Tree) (f : Form) (n : ℕ) → Sample f → ((k : TreeToken) → is_of kind k ≡ true → (k ∷ [] ≡ tokens_of (g k)) × IsTree (g k) f × (ends_open (g k) ≡ false)) → Closed (the_token kind g) f n
Closed-token kind g f n s keeps = record {
  missing = s;
  reads = whole_token kind g f keeps;
  stops = λ ts d e. subst (λ (c : Stop). Stopped f n ts c) (refuses kind g ts d e) (begun_nothing f ts s);
}

name_fits : (key : TokenKey) (place : Place) → key_is_of name_kind key ≡ true → Conforms (token key place) name
name_fits (keys.Fixed n) place h = absurd cc
name_fits (keys.Name n) place h = tt
name_fits (keys.Number n) place h = absurd cc
name_fits (keys.Char n) place h = absurd cc
name_fits (keys.Text n) place h = absurd cc

number_fits : (key : TokenKey) (place : Place) → key_is_of number_kind key ≡ true → Conforms (token key place) number
number_fits (keys.Fixed n) place h = absurd cc
number_fits (keys.Name n) place h = absurd cc
number_fits (keys.Number n) place h = tt
number_fits (keys.Char n) place h = absurd cc
number_fits (keys.Text n) place h = absurd cc

character_fits : (key : TokenKey) (place : Place) → key_is_of character_kind key ≡ true → Conforms (token key place) character
character_fits (keys.Fixed n) place h = absurd cc
character_fits (keys.Name n) place h = absurd cc
character_fits (keys.Number n) place h = absurd cc
character_fits (keys.Char n) place h = tt
character_fits (keys.Text n) place h = absurd cc

text_fits : (key : TokenKey) (place : Place) → key_is_of text_kind key ≡ true → Conforms (token key place) text
text_fits (keys.Fixed n) place h = absurd cc
text_fits (keys.Name n) place h = absurd cc
text_fits (keys.Number n) place h = absurd cc
text_fits (keys.Char n) place h = absurd cc
text_fits (keys.Text n) place h = tt

pub Whole-quoted : (m : ℕ) (ts : Tokens) (t : Tree) (rest : Tokens) → the_token (quoted_kind m) (λ k. token (keys.Fixed m) k.place) ts ≡ Ok (t, rest) → Whole (quoted m) ts t rest
Whole-quoted m = whole_token (quoted_kind m) (λ k. token (keys.Fixed m) k.place) (quoted m) (λ k is. (ap (λ (x : TreeToken). x ∷ []) (quoted_token m k is), record { conforms = refl; elses = tt }, refl))

Closed-quoted : (m n : ℕ) → NotElse m → Closed (the_token (quoted_kind m) (λ k. token (keys.Fixed m) k.place)) (quoted m) n
Closed-quoted m n h =
    Closed-token (quoted_kind m) (λ k. token (keys.Fixed m) k.place) (quoted m) n (token_sample (keys.Fixed m) (quoted m) refl (not_else m h))
    (λ k is. (ap (λ (x : TreeToken). x ∷ []) (quoted_token m k is), record { conforms = refl; elses = tt }, refl))

-- ---- a construct

stopped_inside : (n m : ℕ) (f : Form) (ts : Tokens) (place : Place) (mid : Tokens) (s : Stop) → Passed n m ts place mid → Stopped f n mid s → Stopped (opens m f) (suc n) ts s
stopped_inside n m f ts place mid (refused rest) d b = begun_inside m f ts place mid rest d.front b
stopped_inside zero m f ts place mid (deep rest) d b = λ k is. let some = d.more in absurd cc
stopped_inside (suc n) m f ts place mid (deep rest) d b = λ k is. subst (λ (j : ℕ). Over j (opens m f) ts rest) (add-one (suc n)) (over_inside (suc n) m f ts place mid rest d.front (b n refl))

stopped_outside : (n m : ℕ) (f : Form) (ts : Tokens) (s : Stop) → Sample f → Sample (opens m f)
    → (s ≡ refused ts) ⊎ ((n ≡ 0) × (s ≡ deep ts) × (place : Place) × (mid : Tokens) × (ts ≡ record { key = keys.Fixed m; place = place } ∷ mid)) → Stopped (opens m f) (suc n) ts s
stopped_outside n m f ts s inner whole (inl e) = subst (λ (d : Stop). Stopped (opens m f) (suc n) ts d) (sym e) (begun_nothing (opens m f) ts whole)
stopped_outside n m f ts s inner whole (inr h) =
    subst (λ (d : Stop). Stopped (opens m f) (suc n) ts d) (sym h.1) (λ k is.
    subst (λ (j : ℕ). Over (suc j) (opens m f) ts ts) (sym h.0) (over_at_opener m f ts h.2 h.3 h.4 inner))

sample_opened : (m : ℕ) (f : Form) → NotElse m → Sample f → Sample (opens m f)
sample_opened m f h s = record { tree = construct m nowhere s.tree; fits = record { conforms = (refl, s.fits.conforms); elses = s.fits.elses }; later = not_else m h }

Closed-opened : (n m : ℕ) (p : Reader) (f : Form) → NotElse m → Closed p f n → Closed (opened n m p) (opens m f) (suc n)
Closed-opened n m p f h c = record {
  missing = sample_opened m f h c.missing;
  reads = λ ts t rest e.
      let d = construct_read n m p ts t rest e in
      subst (λ (u : Tree). Whole (opens m f) ts u rest) d.is (whole_construct m f ts d.place d.mid d.inner rest d.passing.front (c.reads d.mid d.inner rest d.reading));
  stops = λ ts s e. first ts s (bind_err (opener n m ts) (λ x. p x.1 >>= λ y. Ok (construct m x.0 y.0, y.1)) s e);
}
  where
    second : (ts : Tokens) (x : Place × Tokens) (s : Stop) → opener n m ts ≡ Ok x → (p x.1 ≡ Err s) ⊎ ((y : Tree × Tokens) × (p x.1 ≡ Ok y) × (◌≡◌ {A = Read} (Ok (construct m x.0 y.0, y.1)) (Err s))) → Stopped (opens m f) (suc n) ts s
    second ts x s e (inl u) = stopped_inside n m f ts x.0 x.1 s (passed n m ts x.0 x.1 e) (c.stops x.1 s u)
    second ts x s e (inr u) = absurd (ok_no_err _ _ u.2)

    first : (ts : Tokens) (s : Stop) → (opener n m ts ≡ Err s) ⊎ ((x : Place × Tokens) × (opener n m ts ≡ Ok x) × (enclosed m x.0 (p x.1) ≡ Err s)) → Stopped (opens m f) (suc n) ts s
    first ts s (inl e) = stopped_outside n m f ts s c.missing (sample_opened m f h c.missing) (unopened n m ts s e)
    first ts s (inr u) = second ts u.0 s u.1 (bind_err (p u.0.1) (λ y. Ok (construct m u.0.0 y.0, y.1)) s u.2)

pub closed_parts : (a n : ℕ) (inside same : Readers) (P : Rule → Type 0) (O : ℕ → Form → Type 0) → ((r : Rule) → P r → Closed (same r) (rule r) n)
    → ((m : ℕ) (f : Form) → O m f → Closed (opened a m (reads 0 inside inside f)) (opens m f) n) → (f : Form) → Parts P O f → Closed (reads a inside same f) f n
closed_parts a n i s P O g o none h =
    Closed-empty nothing none n refl refl (record { tree = nothing; fits = record { conforms = tt; elses = tt }; later = refl }) (record { conforms = tt; elses = tt })
closed_parts a n i s P O g o no_else h = absurd h
closed_parts a n i s P O g o (quoted m) h = Closed-quoted m n h
closed_parts a n i s P O g o name h =
    Closed-token name_kind as_it_stands name n (token_sample (keys.Name (record { 0 = 0 })) name tt refl) (λ k is. (refl, record { conforms = name_fits k.key k.place is; elses = tt }, refl))
closed_parts a n i s P O g o number h =
    Closed-token number_kind as_it_stands number n (token_sample (keys.Number 0) number tt refl) (λ k is. (refl, record { conforms = number_fits k.key k.place is; elses = tt }, refl))
closed_parts a n i s P O g o character h =
    Closed-token character_kind as_it_stands character n (token_sample (keys.Char 0) character tt refl) (λ k is. (refl, record { conforms = character_fits k.key k.place is; elses = tt }, refl))
closed_parts a n i s P O g o text h =
    Closed-token text_kind as_it_stands text n (token_sample (keys.Text 0) text tt refl) (λ k is. (refl, record { conforms = text_fits k.key k.place is; elses = tt }, refl))
closed_parts a n i s P O g o (f then f') h =
    Closed-pair (reads a i s f) (λ t. reads a i s f') f (λ t. f') (f then f') n (λ x y u v. (u, v)) (closed_parts a n i s P O g o f h.0) (λ t. closed_parts a n i s P O g o f' h.1)
closed_parts a n i s P O g o (f decides f') h =
    Closed-pair (reads a i s f) (λ t. reads a i s (f' t)) f f' (f decides f') n (λ x y u v. (u, v)) (closed_parts a n i s P O g o f h.0) (λ t. closed_parts a n i s P O g o (f' t) (h.1 t))
closed_parts a n i s P O g o (f or f') h =
    Closed-or (starts (heads f)) (reads a i s f) (reads a i s f') f f' n (closed_parts a n i s P O g o f h.0) (closed_parts a n i s P O g o f' h.1)
closed_parts a n i s P O g o (many f) h = Closed-many (heads f) (λ us. reads a i s f us) f n (closed_parts a n i s P O g o f h)
closed_parts a n i s P O g o (opens m f) h = o m f h
closed_parts a n i s P O g o (rule r) h = g r h

-- inside a construct
closed_flat : (n : ℕ) (inside : Readers) → ((r : Rule) → Closed (inside r) (rule r) n) → (f : Form) → Flat f → Closed (reads 0 inside inside f) f n
closed_flat n i g f h = closed_parts 0 n i i (λ r. Unit {0}) (λ m f. ⊥) (λ r u. g r) (λ m f bad. absurd bad) f h

pub closed_reads : (n : ℕ) (inside same : Readers) → ((r : Rule) → Closed (inside r) (rule r) n) → (f : Form) → Needs (λ r. Closed (same r) (rule r) (suc n)) f → Closed (reads n inside same f) f (suc n)
closed_reads n i s g f h =
    closed_parts n (suc n) i s (λ r. Closed (s r) (rule r) (suc n)) (λ m f. NotElse m × Flat f) (λ r c. c) (λ m f o. Closed-opened n m (reads 0 i i f) f o.0 (closed_flat n i g f o.1)) f h
