-- A tree has no token, where its form allows it, or begins with one of the form's first tokens.
use Rattle.std.proofs.Common.{◌≡◌, ℕ, Bool, true, false, not, ◌&&◌, ◌||◌, List, [], ◌∷◌, ◌++◌, if◌then◌else◌, inl, inr, refl, sym, ap, subst, ◌∙◌, ⊎_elim, true≢false}
use Rattle.life_expr.specs.Heads.{Kind, heads, heads_of, may_be_empty, rule_may_be_empty}
use Rattle.life_expr.specs.Read.{is_in, starts}
use Rattle.life_parse.proofs.Parts.{or_fits}
use Rattle.life_parse.proofs.TokenKinds.{covers, covers_is, in_first, in_second, disjoint, disjoint_is}
use Rattle.life_tree.specs.Grammar.{Form, none, no_else, quoted, name, number, character, text, ◌then◌, ◌decides◌, ◌or◌, many, opens, rule, form_of, Conforms, TokenFits, NothingFits, NoElseFits, PartsFit, ConstructFits, NodeFits}
use Rattle.life_tree.specs.Rules as rules
use Rattle.life_tree.specs.Rules.{Rule}
use Rattle.life_tree.specs.Tree.{Tree, nothing, without_else, token, ◌⨾◌, construct, node, tokens_of, Tokens}
use Rattle.life_tree.specs.declared.key.TokenKey.{TokenKey}
use Rattle.life_tree.specs.declared.key.TokenKey.TheVariants as keys
use Rattle.life_tree.specs.declared.token.TreeToken.{TreeToken}
use Rattle.std.proofs.lemmas.Bool.{eq-eqb, and_parts, not-true}
use Rattle.life_types.specs.declared.place.Place.{Place}

pub data Begins (f : Form) (ts : Tokens) : Type 0 where
  empty : ts ≡ [] → may_be_empty f ≡ true → Begins f ts
  with_head : (k : TreeToken) → (ks : Tokens) → ts ≡ k ∷ ks → is_in (heads f) k ≡ true → Begins f ts

-- what decides how a form goes on has a token
abbrev pub sane : Form → Bool
sane (f then g) = sane f && sane g
sane (f decides g) = sane f && not (may_be_empty f)
sane (f or g) = sane f && sane g
sane (many f) = sane f
sane _ = true

-- ---- the tables of the rules

pub sane_rule : (r : Rule) → sane (form_of r) ≡ true
sane_rule rules.program = refl
sane_rule _ = refl

pub heads_rule : (r : Rule) → covers (heads (form_of r)) (heads_of r) ≡ true
heads_rule rules.program = refl
heads_rule _ = refl

pub empty_rule : (r : Rule) → may_be_empty (form_of r) ≡ rule_may_be_empty r
empty_rule rules.program = refl
empty_rule _ = refl

-- ---- the forms

begins_left : (f g : Form) (ts : Tokens) → Begins f ts → Begins (f or g) ts
begins_left f g ts (empty e m) = empty e (rw m refl)
begins_left f g ts (with_head k ks e i) = with_head k ks e (in_first (heads f) (heads g) k i)

begins_right : (f g : Form) (ts : Tokens) → Begins g ts → Begins (f or g) ts
begins_right f g ts (empty e m) = empty e (go (may_be_empty f) (may_be_empty g) m)
  where
    go : (a b : Bool) → b ≡ true → (a || b) ≡ true
    go true b e = refl
    go false b e = e
begins_right f g ts (with_head k ks e i) = with_head k ks e (in_second (heads f) (heads g) k i)

begins_then : (f g : Form) (xs ys : Tokens) → Begins f xs → Begins g ys → Begins (f then g) (xs ++ ys)
begins_then f g xs ys (with_head k ks e i) b = with_head k (ks ++ ys) (ap (λ (us : Tokens). us ++ ys) e) (go (may_be_empty f))
  where
    go : (m : Bool) → is_in (if m then heads f ++ heads g else heads f) k ≡ true
    go true = in_first (heads f) (heads g) k i
    go false = i
begins_then f g xs ys (empty e m) (empty d n) = empty (ap (λ (us : Tokens). us ++ ys) e ∙ d) (rw (m, n) refl)
begins_then f g xs ys (empty e m) (with_head k ks d i) = with_head k ks (ap (λ (us : Tokens). us ++ ys) e ∙ d) (rw m (in_second (heads f) (heads g) k i))

begins_decides : (f : Form) (g : Tree → Form) (xs ys : Tokens) → may_be_empty f ≡ false → Begins f xs → Begins (f decides g) (xs ++ ys)
begins_decides f g xs ys s (with_head k ks e i) = with_head k (ks ++ ys) (ap (λ (us : Tokens). us ++ ys) e) i
begins_decides f g xs ys s (empty e m) = absurd (true≢false (sym m ∙ s))

begins_many : (f : Form) (xs ys : Tokens) → Begins f xs → Begins (many f) ys → Begins (many f) (xs ++ ys)
begins_many f xs ys (with_head k ks e i) b = with_head k (ks ++ ys) (ap (λ (us : Tokens). us ++ ys) e) i
begins_many f xs ys (empty e m) (empty d n) = empty (ap (λ (us : Tokens). us ++ ys) e ∙ d) refl
begins_many f xs ys (empty e m) (with_head k ks d i) = with_head k ks (ap (λ (us : Tokens). us ++ ys) e ∙ d) i

-- ---- the trees

begins_nothing : (f : Form) → NothingFits f → Begins f []
begins_nothing none c = empty refl refl
begins_nothing (many f) c = empty refl refl
begins_nothing (f or g) (inl c) = begins_left f g [] (begins_nothing f c)
begins_nothing (f or g) (inr c) = begins_right f g [] (begins_nothing g c)
begins_nothing _ c = absurd c

begins_without_else : (f : Form) → NoElseFits f → Begins f []
begins_without_else no_else c = empty refl refl
begins_without_else (f or g) (inl c) = begins_left f g [] (begins_without_else f c)
begins_without_else (f or g) (inr c) = begins_right f g [] (begins_without_else g c)
begins_without_else _ c = absurd c

abbrev token_at : TokenKey → Place → TreeToken
token_at key place = record { key = key; place = place }

begins_token : (f : Form) (key : TokenKey) (place : Place) → TokenFits key place f → Begins f (token_at key place ∷ [])
begins_token (quoted m) (keys.Fixed n) place c = with_head (token_at (keys.Fixed n) place) [] refl (rw (eq-eqb n m c) refl)
begins_token name (keys.Name id) place c = with_head (token_at (keys.Name id) place) [] refl refl
begins_token number (keys.Number n) place c = with_head (token_at (keys.Number n) place) [] refl refl
begins_token character (keys.Char n) place c = with_head (token_at (keys.Char n) place) [] refl refl
begins_token text (keys.Text n) place c = with_head (token_at (keys.Text n) place) [] refl refl
begins_token (f or g) key place c = ⊎_elim
    (λ d. begins_left f g (token_at key place ∷ []) (begins_token f key place d))
    (λ d. begins_right f g (token_at key place ∷ []) (begins_token g key place d))
    (or_fits (token key place) f g c)
begins_token _ (keys.Fixed n) place c = absurd c
begins_token _ (keys.Name n) place c = absurd c
begins_token _ (keys.Number n) place c = absurd c
begins_token _ (keys.Char n) place c = absurd c
begins_token _ (keys.Text n) place c = absurd c

abbrev Begun : Tree → Type 0
Begun t = (f : Form) → sane f ≡ true → Conforms t f → Begins f (tokens_of t)

begins_parts : (a b : Tree) → Begun a → Begun b → (f : Form) → sane f ≡ true → PartsFit a (Conforms a) (Conforms b) f → Begins f (tokens_of a ++ tokens_of b)
begins_parts a b A B (f then g) s c =
    let p = and_parts (sane f) (sane g) s in begins_then f g (tokens_of a) (tokens_of b) (A f p.0 c.0) (B g p.1 c.1)
begins_parts a b A B (f decides g) s c =
    let p = and_parts (sane f) (not (may_be_empty f)) s in begins_decides f g (tokens_of a) (tokens_of b) (not-true (may_be_empty f) p.1) (A f p.0 c.0)
begins_parts a b A B (many f) s c = begins_many f (tokens_of a) (tokens_of b) (A f s c.0) (B (many f) s c.1)
begins_parts a b A B (f or g) s (inl c) = begins_left f g (tokens_of a ++ tokens_of b) (begins_parts a b A B f (and_parts (sane f) (sane g) s).0 c)
begins_parts a b A B (f or g) s (inr c) = begins_right f g (tokens_of a ++ tokens_of b) (begins_parts a b A B g (and_parts (sane f) (sane g) s).1 c)
begins_parts a b A B _ s c = absurd c

begins_construct : (n : ℕ) (place : Place) (t : Tree) (f : Form) → ConstructFits n (Conforms t) f → Begins f (token_at (keys.Fixed n) place ∷ tokens_of t)
begins_construct n place t (opens m f) c = with_head (token_at (keys.Fixed n) place) (tokens_of t) refl (rw (eq-eqb n m c.0) refl)
begins_construct n place t (f or g) (inl c) = begins_left f g (token_at (keys.Fixed n) place ∷ tokens_of t) (begins_construct n place t f c)
begins_construct n place t (f or g) (inr c) = begins_right f g (token_at (keys.Fixed n) place ∷ tokens_of t) (begins_construct n place t g c)
begins_construct n place t _ c = absurd c

begins_rule : (r : Rule) (ts : Tokens) → Begins (form_of r) ts → Begins (rule r) ts
begins_rule r ts (empty e m) = empty e (sym (empty_rule r) ∙ m)
begins_rule r ts (with_head k ks e i) = with_head k ks e (covers_is (heads (form_of r)) (heads_of r) k (heads_rule r) i)

begins_node : (r : Rule) (t : Tree) → (Conforms t (form_of r) → Begins (form_of r) (tokens_of t)) → (f : Form) → NodeFits r (Conforms t (form_of r)) f → Begins f (tokens_of t)
begins_node r t A (rule s) c = subst (λ (i : Rule). Begins (rule i) (tokens_of t)) c.0 (begins_rule r (tokens_of t) (A c.1))
begins_node r t A (f or g) (inl c) = begins_left f g (tokens_of t) (begins_node r t A f c)
begins_node r t A (f or g) (inr c) = begins_right f g (tokens_of t) (begins_node r t A g c)
begins_node r t A _ c = absurd c

pub begins : (t : Tree) (f : Form) → sane f ≡ true → Conforms t f → Begins f (tokens_of t)
begins nothing f s c = begins_nothing f c
begins without_else f s c = begins_without_else f c
begins (token key place) f s c = begins_token f key place c
begins (a ⨾ b) f s c = begins_parts a b (begins a) (begins b) f s c
begins (construct n place t) f s c = begins_construct n place t f c
begins (node r t) f s c = begins_node r t (begins t (form_of r) (sane_rule r)) f c

-- ---- what follows from it

-- of a form that may not be empty, a tree stands where one of its first tokens does
pub begins_surely : (t : Tree) (f : Form) (rest : Tokens) → sane f ≡ true → may_be_empty f ≡ false → Conforms t f → starts (heads f) (tokens_of t ++ rest) ≡ true
begins_surely t f rest s m c = go (begins t f s c)
  where
    go : Begins f (tokens_of t) → starts (heads f) (tokens_of t ++ rest) ≡ true
    go (empty e n) = absurd (true≢false (sym n ∙ m))
    go (with_head k ks e i) = rw e i

pub has_tokens : (t : Tree) (f : Form) → sane f ≡ true → may_be_empty f ≡ false → Conforms t f → (k : TreeToken) × (ks : Tokens) × (tokens_of t ≡ k ∷ ks)
has_tokens t f s m c = go (begins t f s c)
  where
    go : Begins f (tokens_of t) → (k : TreeToken) × (ks : Tokens) × (tokens_of t ≡ k ∷ ks)
    go (empty e n) = absurd (true≢false (sym n ∙ m))
    go (with_head k ks e i) = (k, ks, e)

-- none of the kinds stands in front of a tree and what follows it, if none is a first token of it, and none stands there where it has no token
pub starts_not : (t : Tree) (f : Form) (kinds : List Kind) (rest : Tokens) → sane f ≡ true → disjoint (heads f) kinds ≡ true → Conforms t f
    → (may_be_empty f ≡ true → starts kinds rest ≡ false) → starts kinds (tokens_of t ++ rest) ≡ false
starts_not t f kinds rest s d c h = go (begins t f s c)
  where
    go : Begins f (tokens_of t) → starts kinds (tokens_of t ++ rest) ≡ false
    go (empty e m) = rw e (h m)
    go (with_head k ks e i) = rw e (disjoint_is (heads f) kinds k d i)
