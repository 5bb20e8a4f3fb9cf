-- Reading a form with n more open constructs, against reading it with another number of them.
use Rattle.std.proofs.Common.{◌≡◌, ℕ, zero, suc, true, List, [], ◌∷◌, ◌++◌, length, Ok, ◌⊎◌, inl, inr, refl, sym, ap, subst, ◌∙◌, arith}
use Rattle.life_parse.proofs.Counts.{counts_further, over_at_once, over_further}
use Rattle.life_parse.proofs.Laws.{IsOver}
use Rattle.life_parse.proofs.Openers.{Passed, opened, construct_read}
use Rattle.life_parse.proofs.Slows.{Outcome, TooDeep, Follows, Follows-pair, Follows-if, Follows-itself, Follows-none, Follows-empty, Follows-many}
use Rattle.life_parse.proofs.Takes.{takes_all, quoted_token}
use Rattle.life_expr.specs.Heads.{Kind, quoted_kind, name_kind, number_kind, character_kind, text_kind, is_of, heads}
use Rattle.life_expr.specs.Read.{Reader, the_token, as_it_stands, starts, reads}
use Rattle.life_expr.specs.Readers.{Readers}
use Rattle.life_tree.specs.Grammar.{Form, none, no_else, quoted, name, number, character, text, ◌then◌, ◌decides◌, ◌or◌, many, opens, rule}
use Rattle.life_tree.specs.Rules.{Rule}
use Rattle.life_tree.specs.Tree.{Tree, nothing, without_else, token, construct, tokens_of, depth, open_at, Tokens}
use Rattle.life_tree.specs.declared.key.TokenKey.TheVariants as keys
use Rattle.life_tree.specs.declared.token.TreeToken.{TreeToken}
use Rattle.life_types.specs.declared.place.Place.{Place}

Follows-token : (kind : Kind) (f : TreeToken → Tree) (n : ℕ) → ((k : TreeToken) → is_of kind k ≡ true → (k ∷ [] ≡ tokens_of (f k)) × (depth (f k) ≡ 0)) → Follows (the_token kind f) (the_token kind f) n
Follows-token kind f n keeps = Follows-itself (the_token kind f) n (takes_all kind f keeps)

-- where none may be open, the opener itself is too deep
too_deep_at_once : (b m : ℕ) (p : Reader) (ts : Tokens) (place : Place) (mid : Tokens) (t : Tree) → Passed b m ts place mid → TooDeep (opened 0 m p) 0 ts (construct m place t)
too_deep_at_once b m p ts place mid t c = ([], ts, refl, rw c.full refl, over_at_once (open_at 1 t))

opened_further : (n b m : ℕ) (p : Reader) (ts : Tokens) (place : Place) (mid : Tokens) (t : Tree) (rest : Tokens) → Passed b m ts place mid → Outcome p n mid t rest → Outcome (opened (suc n) m p) (suc n) ts (construct m place t) rest
opened_further n b m p ts place mid t rest c (inl h) = let le = h.1 in inl (rw (c.room n, h.0) refl, omega arith)
opened_further n b m p ts place mid t rest c (inr h) =
    let o = over_further n (open_at 0 t) (length h.0) h.4 in
    inr (
      record { key = keys.Fixed m; place = place } ∷ h.0,
      h.1,
      c.front ∙ ap (λ (r : Tokens). record { key = keys.Fixed m; place = place } ∷ r) h.2,
      rw (c.room n, h.3) refl,
      subst (λ (l : List ℕ). IsOver (suc n) (1 ∷ l) (suc (length h.0))) (sym (counts_further 0 t)) o,
    )

Follows-opened : (n b m : ℕ) (p q : Reader) → Follows p q n → Follows (opened n m p) (opened b m q) (suc n)
Follows-opened n b m p q f = record {
  slow = λ k is ts t rest e.
      let c = construct_read b m q ts t rest e in
      let same : n ≡ k = omega arith in
      subst (λ (j : ℕ). Outcome (opened n m p) j ts t rest) same (subst (λ (u : Tree). Outcome (opened n m p) n ts u rest) c.is (slow n f ts c.place c.mid c.inner rest c.passing c.reading));
  spells = λ ts t rest e.
      let c = construct_read b m q ts t rest e in
      subst (λ (u : Tree). ts ≡ tokens_of u ++ rest) c.is
      (c.passing.front ∙ ap (λ (r : Tokens). record { key = keys.Fixed m; place = c.place } ∷ r) (f.spells c.mid c.inner rest c.reading));
}
  where
    slow : (n : ℕ) → Follows p q n → (ts : Tokens) (place : Place) (mid : Tokens) (t : Tree) (rest : Tokens) → Passed b m ts place mid → q mid ≡ Ok (t, rest) → Outcome (opened n m p) n ts (construct m place t) rest
    slow zero f ts place mid t rest c e = inr (too_deep_at_once b m p ts place mid t c)
    slow (suc n) f ts place mid t rest c e = opened_further n b m p ts place mid t rest c (f.slow n refl mid t rest e)

-- none is opened
Follows-shut : (n m : ℕ) (p q : Reader) (k : ℕ) → Follows (opened n m p) (opened 0 m q) k
Follows-shut n m p q k = Follows-none _ _ k (λ ts t rest e. let c = construct_read 0 m q ts t rest e in let bad = c.passing.more in cc)

-- b constructs may be open, where fewer than k may be open on the other side: none at all, or the law holds inside
abbrev pub Inner : (n b k : ℕ) (inside inside' : Readers) → Type 0
Inner n b k inside inside' = (b ≡ 0) ⊎ ((k ≡ suc n) × ((r : Rule) → Follows (inside r) (inside' r) n))

pub follows_reads : (n b k : ℕ) (inside inside' same same' : Readers) → Inner n b k inside inside' → ((r : Rule) → Follows (same r) (same' r) k) → (f : Form)
    → Follows (reads n inside same f) (reads b inside' same' f) k
follows_reads n b k i i' s s' h g none = Follows-empty nothing k refl refl
follows_reads n b k i i' s s' h g no_else = Follows-empty without_else k refl refl
follows_reads n b k i i' s s' h g (quoted m) = Follows-token (quoted_kind m) (λ l. token (keys.Fixed m) l.place) k (λ l is. (ap (λ (x : TreeToken). x ∷ []) (quoted_token m l is), refl))
follows_reads n b k i i' s s' h g name = Follows-token name_kind as_it_stands k (λ l is. (refl, refl))
follows_reads n b k i i' s s' h g number = Follows-token number_kind as_it_stands k (λ l is. (refl, refl))
follows_reads n b k i i' s s' h g character = Follows-token character_kind as_it_stands k (λ l is. (refl, refl))
follows_reads n b k i i' s s' h g text = Follows-token text_kind as_it_stands k (λ l is. (refl, refl))
follows_reads n b k i i' s s' h g (f then f') =
    Follows-pair (reads n i s f) (reads b i' s' f) (λ t. reads n i s f') (λ t. reads b i' s' f') k (follows_reads n b k i i' s s' h g f) (λ t. follows_reads n b k i i' s s' h g f')
follows_reads n b k i i' s s' h g (f decides f') =
    Follows-pair (reads n i s f) (reads b i' s' f) (λ t. reads n i s (f' t)) (λ t. reads b i' s' (f' t)) k (follows_reads n b k i i' s s' h g f) (λ t. follows_reads n b k i i' s s' h g (f' t))
follows_reads n b k i i' s s' h g (f or f') =
    Follows-if (starts (heads f)) (reads n i s f) (reads b i' s' f) (reads n i s f') (reads b i' s' f') k (follows_reads n b k i i' s s' h g f) (follows_reads n b k i i' s s' h g f')
follows_reads n b k i i' s s' h g (many f) = Follows-many (heads f) (λ us. reads n i s f us) (λ us. reads b i' s' f us) k (follows_reads n b k i i' s s' h g f)
follows_reads n b k i i' s s' h g (opens m f) = go h (λ inner. follows_reads 0 0 n i i' i i' (inl refl) inner f)
  where
    go : Inner n b k i i' → (((r : Rule) → Follows (i r) (i' r) n) → Follows (reads 0 i i f) (reads 0 i' i' f) n) → Follows (opened n m (reads 0 i i f)) (opened b m (reads 0 i' i' f)) k
    go (inl shut) inner = rw shut (Follows-shut n m (reads 0 i i f) (reads 0 i' i' f) k)
    go (inr some) inner = rw some.0 (Follows-opened n b m (reads 0 i i f) (reads 0 i' i' f) (inner some.1))
follows_reads n b k i i' s s' h g (rule r) = g r
