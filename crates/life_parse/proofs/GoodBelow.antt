-- Good readers of short lists, and of single tokens.
use Rattle.std.proofs.Common.{◌≡◌, ℕ, suc, ◌<◌, ◌≤◌, Bool, true, false, cond, [], ◌∷◌, ◌++◌, length, Ok, Err, refl, sym, ap, subst, arith}
use Rattle.std.proofs.lemmas.Bool.{eq-eqb}
use Rattle.life_expr.specs.Heads.{Kind, quoted_kind, name_kind, number_kind, character_kind, text_kind, is_of}
use Rattle.life_expr.specs.Read.{refused, Read, Reader, the_token, as_it_stands}
use Rattle.life_parse.proofs.Binds.{ok_is}
use Rattle.life_parse.proofs.Elses.{Closed}
use Rattle.life_parse.proofs.Laws.{Good, IsTree, Stops}
use Rattle.life_parse.proofs.Parts.{quoted_is, name_is, number_is, character_is, text_is, none_is}
use Rattle.life_parse.proofs.Takes.{quoted_token}
use Rattle.life_tree.specs.Grammar.{Form, none, quoted, name, number, character, text, Conforms, TokenFits}
use Rattle.life_tree.specs.Tree.{Tree, nothing, token, tokens_of, depth, Tokens}
use Rattle.life_tree.specs.declared.key.TokenKey.{TokenKey}
use Rattle.life_tree.specs.declared.key.TokenKey.TheVariants as keys
use Rattle.life_tree.specs.declared.token.TreeToken.{TreeToken}
use Rattle.life_types.specs.declared.place.Place.{Place}

-- what the first half of Good says of one reading
abbrev pub Found : Form → ℕ → Tokens → Tree → Tokens → Type 0
Found f n ts t rest = (ts ≡ tokens_of t ++ rest) × IsTree t f × (depth t ≤ n) × Closed t rest

abbrev pub Sound : Reader → Form → ℕ → Type 0
Sound p f n = (ts : Tokens) (t : Tree) (rest : Tokens) → p ts ≡ Ok (t, rest) → Found f n ts t rest

-- .. and the second, of lists with fewer tokens than the limit
abbrev pub AgainBelow : ℕ → Reader → Form → ℕ → Type 0
AgainBelow limit p f n = (t : Tree) (rest : Tokens) → length (tokens_of t ++ rest) < limit → IsTree t f → depth t ≤ n → Stops t f rest → p (tokens_of t ++ rest) ≡ Ok (t, rest)

pub record GoodBelow (limit : ℕ) (p : Reader) (f : Form) (n : ℕ) : Type 0 where
  pub sound : Sound p f n
  pub again : AgainBelow limit p f n

pub below : (p : Reader) (f : Form) (n : ℕ) → Good p f n → (limit : ℕ) → GoodBelow limit p f n
below p f n g limit = record { sound = g.sound; again = λ t rest l i d s. g.again t rest i d s }

pub all_below : (p : Reader) (f : Form) (n : ℕ) → ((limit : ℕ) → GoodBelow limit p f n) → Good p f n
all_below p f n g = record {
  sound = (g 0).sound;
  again = λ t rest i d s. (g (suc (length (tokens_of t ++ rest)))).again t rest (omega arith) i d s;
}

abbrev read_as : Tree × Tokens → Read
read_as x = Ok x

-- ---- no token

pub good_none : (limit n : ℕ) → GoodBelow limit (λ ts. Ok (nothing, ts)) none n
good_none limit n = record {
  sound = λ ts t rest e. subst (λ (y : Tree × Tokens). Found none n ts y.0 y.1) (ok_is (nothing, ts) (t, rest) e)
      (refl, record { conforms = tt; elses = tt }, omega arith, λ i. refl);
  again = λ t rest l i d s. let e = none_is t i.conforms in rw e refl;
}

-- ---- one token

-- f makes the trees of the form of tokens of the kind
pub record OneToken (kind : Kind) (f : TreeToken → Tree) (form : Form) : Type 0 where
  pub made : (k : TreeToken) → is_of kind k ≡ true → (key : TokenKey) × (place : Place) × (f k ≡ token key place) × (k ≡ record { key = key; place = place }) × TokenFits key place form
  pub back : (t : Tree) → Conforms t form → (k : TreeToken) × (t ≡ f k) × (tokens_of t ≡ k ∷ []) × (is_of kind k ≡ true)

pub good_token : (limit n : ℕ) (kind : Kind) (f : TreeToken → Tree) (form : Form) → OneToken kind f form → GoodBelow limit (the_token kind f) form n
good_token limit n kind f form o = record {
  sound = sound;
  again = λ t rest l i d s. let b = o.back t i.conforms in again t rest b.0 b.1 b.2 b.3;
}
  where
    again : (t : Tree) (rest : Tokens) (k : TreeToken) → t ≡ f k → tokens_of t ≡ k ∷ [] → is_of kind k ≡ true → the_token kind f (tokens_of t ++ rest) ≡ Ok (t, rest)
    again t rest k made spelled h = rw (spelled, h) (ap (λ (u : Tree). read_as (u, rest)) (sym made))

    at : (k : TreeToken) (ks : Tokens) → is_of kind k ≡ true → Found form n (k ∷ ks) (f k) ks
    at k ks h =
        let m = o.made k h in
        rw m.2 (ap (λ (i : TreeToken). i ∷ ks) m.3, record { conforms = m.4; elses = tt }, omega arith, λ i. refl)

    go : (k : TreeToken) (ks : Tokens) (t : Tree) (rest : Tokens) (b : Bool) → is_of kind k ≡ b → cond {A = Read} b (Ok (f k, ks)) (Err (refused (k ∷ ks))) ≡ Ok (t, rest) → Found form n (k ∷ ks) t rest
    go k ks t rest true h e = subst (λ (y : Tree × Tokens). Found form n (k ∷ ks) y.0 y.1) (ok_is (f k, ks) (t, rest) e) (at k ks h)
    go k ks t rest false h e = absurd cc

    sound : (ts : Tokens) (t : Tree) (rest : Tokens) → the_token kind f ts ≡ Ok (t, rest) → Found form n ts t rest
    sound [] t rest e = absurd cc
    sound (k ∷ ks) t rest e = go k ks t rest (is_of kind k) refl e

-- ---- the kinds

abbrev token_at : TokenKey → Place → TreeToken
token_at key place = record { key = key; place = place }

pub one_quoted : (m : ℕ) → OneToken (quoted_kind m) (λ k. token (keys.Fixed m) k.place) (quoted m)
one_quoted m = record {
  made = λ k e. (keys.Fixed m, k.place, refl, quoted_token m k e, refl);
  back = λ t c. let q = quoted_is t m c in (token_at (keys.Fixed m) q.0, q.1, ap tokens_of q.1, eq-eqb m m refl);
}

-- a form of tokens that stand as they are
as_they_stand : (kind : Kind) (form : Form) → ((key : TokenKey) (place : Place) → is_of kind (token_at key place) ≡ true → TokenFits key place form)
    → ((t : Tree) → Conforms t form → (key : TokenKey) × (place : Place) × (t ≡ token key place) × (is_of kind (token_at key place) ≡ true)) → OneToken kind as_it_stands form
as_they_stand kind form fits back = record {
  made = λ k e. (k.key, k.place, refl, refl, fits k.key k.place e);
  back = λ t c. let b = back t c in (token_at b.0 b.1, b.2, ap tokens_of b.2, b.3);
}

pub one_name : OneToken name_kind as_it_stands name
one_name = as_they_stand name_kind name fits (λ t c. let b = name_is t c in (b.0, b.1, b.2, back b.0 b.1 b.3))
  where
    fits : (key : TokenKey) (place : Place) → is_of name_kind (token_at key place) ≡ true → TokenFits key place name
    fits (keys.Name n) place e = tt
    fits (keys.Fixed n) place e = absurd cc
    fits _ place e = absurd cc

    back : (key : TokenKey) (place : Place) → TokenFits key place name → is_of name_kind (token_at key place) ≡ true
    back (keys.Name n) place c = refl
    back (keys.Fixed n) place c = absurd c
    back _ place c = absurd c

pub one_number : OneToken number_kind as_it_stands number
one_number = as_they_stand number_kind number fits (λ t c. let b = number_is t c in (b.0, b.1, b.2, back b.0 b.1 b.3))
  where
    fits : (key : TokenKey) (place : Place) → is_of number_kind (token_at key place) ≡ true → TokenFits key place number
    fits (keys.Number n) place e = tt
    fits (keys.Fixed n) place e = absurd cc
    fits _ place e = absurd cc

    back : (key : TokenKey) (place : Place) → TokenFits key place number → is_of number_kind (token_at key place) ≡ true
    back (keys.Number n) place c = refl
    back (keys.Fixed n) place c = absurd c
    back _ place c = absurd c

pub one_character : OneToken character_kind as_it_stands character
one_character = as_they_stand character_kind character fits (λ t c. let b = character_is t c in (b.0, b.1, b.2, back b.0 b.1 b.3))
  where
    fits : (key : TokenKey) (place : Place) → is_of character_kind (token_at key place) ≡ true → TokenFits key place character
    fits (keys.Char n) place e = tt
    fits (keys.Fixed n) place e = absurd cc
    fits _ place e = absurd cc

    back : (key : TokenKey) (place : Place) → TokenFits key place character → is_of character_kind (token_at key place) ≡ true
    back (keys.Char n) place c = refl
    back (keys.Fixed n) place c = absurd c
    back _ place c = absurd c

pub one_text : OneToken text_kind as_it_stands text
one_text = as_they_stand text_kind text fits (λ t c. let b = text_is t c in (b.0, b.1, b.2, back b.0 b.1 b.3))
  where
    fits : (key : TokenKey) (place : Place) → is_of text_kind (token_at key place) ≡ true → TokenFits key place text
    fits (keys.Text n) place e = tt
    fits (keys.Fixed n) place e = absurd cc
    fits _ place e = absurd cc

    back : (key : TokenKey) (place : Place) → TokenFits key place text → is_of text_kind (token_at key place) ≡ true
    back (keys.Text n) place c = refl
    back (keys.Fixed n) place c = absurd c
    back _ place c = absurd c
