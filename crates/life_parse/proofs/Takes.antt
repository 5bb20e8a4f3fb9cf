-- What a reader of one token takes.
use Rattle.std.proofs.Common.{◌≡◌, ℕ, Bool, true, false, [], ◌∷◌, ◌++◌, Ok, Err, if◌then◌else◌, refl, ap, subst, ◌∙◌, eqb-true}
use Rattle.life_parse.proofs.Binds.{ok_is, err_no_ok}
use Rattle.life_expr.specs.Heads.{Kind, quoted_kind, key_is_of, is_of}
use Rattle.life_expr.specs.Read.{Stop, refused, Read, the_token}
use Rattle.life_tree.specs.Tree.{Tree, tokens_of, depth, Tokens}
use Rattle.life_tree.specs.declared.key.TokenKey.{TokenKey}
use Rattle.life_tree.specs.declared.key.TokenKey.TheVariants as keys
use Rattle.life_tree.specs.declared.token.TreeToken.{TreeToken}

-- one token of that kind, and its tree
pub takes : (kind : Kind) (f : TreeToken → Tree) (ts : Tokens) (t : Tree) (rest : Tokens) → the_token kind f ts ≡ Ok (t, rest)
    → (k : TreeToken) × (ts ≡ k ∷ rest) × (is_of kind k ≡ true) × (f k ≡ t)
takes kind f [] t rest e = absurd (err_no_ok _ _ e)
takes kind f (k ∷ ks) t rest e = go (is_of kind k) refl e
  where
    go : (b : Bool) → is_of kind k ≡ b → (◌≡◌ {A = Read} (if b then Ok (f k, ks) else Err (refused (k ∷ ks))) (Ok (t, rest)))
        → (l : TreeToken) × (k ∷ ks ≡ l ∷ rest) × (is_of kind l ≡ true) × (f l ≡ t)
    go true is h =
        let same = ok_is (f k, ks) (t, rest) h in
        (k, ap (λ (x : Tree × Tokens). k ∷ x.1) same, is, ap (λ (x : Tree × Tokens). x.0) same)
    go false is h = absurd (err_no_ok _ _ h)

-- .. or it refuses what stands there
pub refuses : (kind : Kind) (f : TreeToken → Tree) (ts : Tokens) (s : Stop) → the_token kind f ts ≡ Err s → refused ts ≡ s
refuses kind f [] s e = cc
refuses kind f (k ∷ ks) s e = go (is_of kind k) e
  where
    go : (b : Bool) → (◌≡◌ {A = Read} (if b then Ok (f k, ks) else Err (refused (k ∷ ks))) (Err s)) → refused (k ∷ ks) ≡ s
    go true h = absurd cc
    go false h = cc

pub quoted_key : (n : ℕ) (key : TokenKey) → key_is_of (quoted_kind n) key ≡ true → key ≡ keys.Fixed n
quoted_key n (keys.Fixed m) h = ap keys.Fixed (eqb-true m n h)
quoted_key n (keys.Name m) h = absurd cc
quoted_key n (keys.Number m) h = absurd cc
quoted_key n (keys.Char m) h = absurd cc
quoted_key n (keys.Text m) h = absurd cc

pub quoted_token : (n : ℕ) (k : TreeToken) → is_of (quoted_kind n) k ≡ true → k ≡ record { key = keys.Fixed n; place = k.place }
quoted_token n k h = ap (λ (key : TokenKey). record { key = key; place = k.place }) (quoted_key n k.key h)

-- the tree of a token has that token, where the reader keeps it as it is
pub takes_all : (kind : Kind) (f : TreeToken → Tree) → ((k : TreeToken) → is_of kind k ≡ true → (k ∷ [] ≡ tokens_of (f k)) × (depth (f k) ≡ 0))
    → (ts : Tokens) (t : Tree) (rest : Tokens) → the_token kind f ts ≡ Ok (t, rest) → (ts ≡ tokens_of t ++ rest) × (depth t ≡ 0)
takes_all kind f keeps ts t rest e =
    let a = takes kind f ts t rest e in
    let k = keeps a.0 a.2 in
    subst (λ (u : Tree). (ts ≡ tokens_of u ++ rest) × (depth u ≡ 0)) a.3 (a.1 ∙ ap (λ (l : Tokens). l ++ rest) k.0, k.1)
