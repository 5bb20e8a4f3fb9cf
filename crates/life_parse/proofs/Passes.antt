-- Readers that take a name, or `std`, `::` and `string`, where tokens begin so.
use Rattle.std.proofs.Common.{◌≡◌, ℕ, ◌≤◌, ◌+◌, Bool, true, false, ◌&&◌, List, [], ◌∷◌, length, refl, sym, ap, ap₂, subst, le_trans, true≢false, arith}
use Rattle.std.proofs.lemmas.Bool.{eqb-true}
use Rattle.life_expr.specs.Heads.{Kind, quoted_kind, name_kind, is_of}
use Rattle.life_expr.specs.Read.{Reader}
use Rattle.life_tree.specs.Tree.{Tokens}
use Rattle.life_expr.specs.Readers.{begins}
use Rattle.life_parse.proofs.Left.{left}
use Rattle.life_tree.specs.declared.fixed.TheConstants as fixed
use Rattle.life_tree.specs.declared.key.TokenKey.{TokenKey}
use Rattle.life_tree.specs.declared.key.TokenKey.TheVariants as keys
use Rattle.life_tree.specs.declared.token.TreeToken.{TreeToken}
use Rattle.life_types.specs.declared.place.Place.{Place}
use Rattle.life_types.specs.declared.ty.NameId.{NameId}

abbrev pub a_name : NameId → Place → TreeToken
a_name id place = record { key = keys.Name id; place = place }

abbrev pub a_mark : ℕ → Place → TreeToken
a_mark m place = record { key = keys.Fixed m; place = place }

-- `std` and `::` are taken
pub record PassesScope (p : Reader) : Type 0 where
  pub std : (a : Place) (ts : Tokens) → left (p (a_mark fixed.STD a ∷ ts)) ≤ length ts
  pub scope : (a b : Place) (ts : Tokens) → left (p (a_mark fixed.STD a ∷ a_mark fixed.SCOPE b ∷ ts)) ≤ length ts

-- .. and `string`, and a name
pub record Passes (p : Reader) : Type 0 where
  pub scoped : PassesScope p
  pub named : (id : NameId) (a : Place) (ts : Tokens) → left (p (a_name id a ∷ ts)) ≤ length ts
  pub string : (a b c : Place) (ts : Tokens) → left (p (a_mark fixed.STD a ∷ a_mark fixed.SCOPE b ∷ a_mark fixed.STRING c ∷ ts)) ≤ length ts

-- p leaves no more than q, where tokens begin with a name or with `std`
pub record Follows (p q : Reader) : Type 0 where
  pub named : (id : NameId) (a : Place) (ts : Tokens) → left (p (a_name id a ∷ ts)) ≤ left (q (a_name id a ∷ ts))
  pub std : (a : Place) (ts : Tokens) → left (p (a_mark fixed.STD a ∷ ts)) ≤ left (q (a_mark fixed.STD a ∷ ts))

pub Passes-as : (p q : Reader) → Follows p q → Passes q → Passes p
Passes-as p q f g = record {
  scoped = record {
    std = λ a ts. le_trans (f.std a ts) (g.scoped.std a ts);
    scope = λ a b ts. le_trans (f.std a _) (g.scoped.scope a b ts);
  };
  named = λ id a ts. le_trans (f.named id a ts) (g.named id a ts);
  string = λ a b c ts. le_trans (f.std a _) (g.string a b c ts);
}

-- ---- the same by kinds

-- where tokens begin with these kinds, p takes them
pub record Takes (kinds : List Kind) (p : Reader) : Type 0 where
  pub takes : (ts : Tokens) → begins kinds ts ≡ true → left (p ts) + length kinds ≤ length ts

key_marked : (m : ℕ) (key : TokenKey) (place : Place) → is_of (quoted_kind m) (record { key = key; place = place }) ≡ true → (a : Place) × (◌≡◌ {A = TreeToken} (record { key = key; place = place }) (a_mark m a))
key_marked m (keys.Fixed l) place h = (place, ap (λ (v : ℕ). a_mark v place) (eqb-true l m h))
key_marked m (keys.Name id) place h = absurd cc
key_marked m (keys.Number v) place h = absurd cc
key_marked m (keys.Char c) place h = absurd cc
key_marked m (keys.Text v) place h = absurd cc

pub marked : (m : ℕ) (k : TreeToken) → is_of (quoted_kind m) k ≡ true → (a : Place) × (k ≡ a_mark m a)
marked m k h = key_marked m k.key k.place h

key_named : (key : TokenKey) (place : Place) → is_of name_kind (record { key = key; place = place }) ≡ true → (id : NameId) × (a : Place) × (◌≡◌ {A = TreeToken} (record { key = key; place = place }) (a_name id a))
key_named (keys.Name id) place h = (id, place, refl)
key_named (keys.Fixed l) place h = absurd cc
key_named (keys.Number v) place h = absurd cc
key_named (keys.Char c) place h = absurd cc
key_named (keys.Text v) place h = absurd cc

pub named_token : (k : TreeToken) → is_of name_kind k ≡ true → (id : NameId) × (a : Place) × (k ≡ a_name id a)
named_token k h = key_named k.key k.place h

two : (a b : Bool) → a && b ≡ true → (a ≡ true) × (b ≡ true)
two true true h = (refl, refl)
two true false h = absurd cc
two false b h = absurd cc

in_front : {k l : TreeToken} {ks ls : Tokens} → k ≡ l → ks ≡ ls → k ∷ ks ≡ l ∷ ls
in_front {k} {l} {ks} {ls} e f = ap₂ (λ (x : TreeToken) (xs : Tokens). x ∷ xs) e f

again : (p : Reader) (n : ℕ) (ts us : Tokens) → ts ≡ us → left (p us) + n ≤ length us → left (p ts) + n ≤ length ts
again p n ts us e h = subst (λ (v : Tokens). left (p v) + n ≤ length v) (sym e) h

pub takes_name : (p : Reader) → Passes p → Takes (name_kind ∷ []) p
takes_name p g = record { takes = go }
  where
    go : (ts : Tokens) → begins (name_kind ∷ []) ts ≡ true → left (p ts) + 1 ≤ length ts
    go [] h = absurd cc
    go (k ∷ ks) h =
        let n = named_token k (two _ _ h).0 in
        let l = g.named n.0 n.1 ks in
        rw n.2 (omega arith)

pub takes_std : (p : Reader) → PassesScope p → Takes (quoted_kind fixed.STD ∷ []) p
takes_std p g = record { takes = go }
  where
    go : (ts : Tokens) → begins (quoted_kind fixed.STD ∷ []) ts ≡ true → left (p ts) + 1 ≤ length ts
    go [] h = absurd cc
    go (k ∷ ks) h =
        let n = marked fixed.STD k (two _ _ h).0 in
        let l = g.std n.0 ks in
        rw n.1 (omega arith)

pub takes_scope : (p : Reader) → PassesScope p → Takes (quoted_kind fixed.STD ∷ quoted_kind fixed.SCOPE ∷ []) p
takes_scope p g = record { takes = go }
  where
    go : (ts : Tokens) → begins (quoted_kind fixed.STD ∷ quoted_kind fixed.SCOPE ∷ []) ts ≡ true → left (p ts) + 2 ≤ length ts
    go [] h = absurd cc
    go (k ∷ []) h = absurd (true≢false (sym (two _ _ h).1))
    go (k ∷ k2 ∷ ks) h =
        let t = two _ _ h in
        let n = marked fixed.STD k t.0 in
        let n2 = marked fixed.SCOPE k2 (two _ _ t.1).0 in
        let l = g.scope n.0 n2.0 ks in
        again p 2 _ _ (in_front n.1 (in_front n2.1 refl)) (omega arith)

pub takes_string : (p : Reader) → Passes p → Takes (quoted_kind fixed.STD ∷ quoted_kind fixed.SCOPE ∷ quoted_kind fixed.STRING ∷ []) p
takes_string p g = record { takes = go }
  where
    go : (ts : Tokens) → begins (quoted_kind fixed.STD ∷ quoted_kind fixed.SCOPE ∷ quoted_kind fixed.STRING ∷ []) ts ≡ true → left (p ts) + 3 ≤ length ts
    go [] h = absurd cc
    go (k ∷ []) h = absurd (true≢false (sym (two _ _ h).1))
    go (k ∷ k2 ∷ []) h = absurd (true≢false (sym (two _ _ (two _ _ h).1).1))
    go (k ∷ k2 ∷ k3 ∷ ks) h =
        let t = two _ _ h in
        let u = two _ _ t.1 in
        let n = marked fixed.STD k t.0 in
        let n2 = marked fixed.SCOPE k2 u.0 in
        let n3 = marked fixed.STRING k3 (two _ _ u.1).0 in
        let l = g.string n.0 n2.0 n3.0 ks in
        again p 3 _ _ (in_front n.1 (in_front n2.1 (in_front n3.1 refl))) (omega arith)
