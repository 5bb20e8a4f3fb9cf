-- Where an `else` stands in front.
use Rattle.std.proofs.Common.{◌≡◌, ◌==◌, Bool, true, false, ◌&&◌, ◌||◌, [], ◌++◌, refl, sym, ◌∙◌}
use Rattle.life_parse.proofs.Elses.{no_tokens_are, is_empty_is, else_goes_on, begins_with_else_is}
use Rattle.life_parse.proofs.Laws.{else_in_front}
use Rattle.life_parse.proofs.TokenKinds.{both_false}
use Rattle.life_expr.specs.Heads.{quoted_kind, key_is_of}
use Rattle.life_tree.specs.Grammar.{ElsesAreNearest, begins_with_else, ends_open, is_else}
use Rattle.life_tree.specs.Tree.{Tree, nothing, without_else, token, ◌⨾◌, construct, node, tokens_of, is_empty, Tokens}
use Rattle.life_tree.specs.declared.fixed.TheConstants as fixed
use Rattle.life_tree.specs.declared.key.TokenKey.{TokenKey}
use Rattle.life_tree.specs.declared.key.TokenKey.TheVariants as keys

pub else_key : (key : TokenKey) → is_else key ≡ key_is_of (quoted_kind fixed.ELSE) key
else_key (keys.Fixed m) = refl
else_key (keys.Name m) = refl
else_key (keys.Number m) = refl
else_key (keys.Char m) = refl
else_key (keys.Text m) = refl

pub empty_tokens : (t : Tree) → is_empty t ≡ true → tokens_of t ≡ []
empty_tokens t h = no_tokens_are (tokens_of t) (sym (is_empty_is t) ∙ h)

-- one of two tests passes
pub one_true : {C : Type 0} (a b : Bool) → a || b ≡ true → (a ≡ true → C) → (b ≡ true → C) → C
one_true true b h f g = f refl
one_true false b h f g = g h

pub else_first : (t : Tree) (rest : Tokens) → begins_with_else t ≡ true → else_in_front (tokens_of t ++ rest) ≡ true
else_first t rest h = else_goes_on (tokens_of t) rest (sym (begins_with_else_is t) ∙ h)

-- two parts: what the first needs of the tokens behind it
pub ends_open_pair : (a b : Tree) → ends_open b ≡ false → (is_empty b ≡ true → ends_open a ≡ false) → ends_open (a ⨾ b) ≡ false
ends_open_pair a b h k = rw h (go (is_empty b) refl)
  where
    go : (c : Bool) → is_empty b ≡ c → c && ends_open a ≡ false
    go true is = k is
    go false is = refl

-- ---- trees with no `else` in them

abbrev pub has_else : Tree → Bool
has_else nothing = false
has_else without_else = false
has_else (token key place) = is_else key
has_else (a ⨾ b) = has_else a || has_else b
has_else (construct n place t) = n == fixed.ELSE || has_else t
has_else (node r t) = has_else t

pub neither : (a b : Tree) → begins_with_else a ≡ false → begins_with_else b ≡ false → begins_with_else (a ⨾ b) ≡ false
neither a b h k = rw (h, k) (go (is_empty a))
  where
    go : (c : Bool) → c && false ≡ false
    go true = refl
    go false = refl

pub no_else_first : (t : Tree) → has_else t ≡ false → begins_with_else t ≡ false
no_else_first nothing h = refl
no_else_first without_else h = refl
no_else_first (token key place) h = h
no_else_first (a ⨾ b) h = let both = both_false (has_else a) (has_else b) h in neither a b (no_else_first a both.0) (no_else_first b both.1)
no_else_first (construct n place t) h = (both_false (n == fixed.ELSE) (has_else t) h).0
no_else_first (node r t) h = no_else_first t h

pub no_else_nearest : (t : Tree) → has_else t ≡ false → ElsesAreNearest t
no_else_nearest nothing h = tt
no_else_nearest without_else h = tt
no_else_nearest (token key place) h = tt
no_else_nearest (a ⨾ b) h =
    let both = both_false (has_else a) (has_else b) h in
    (no_else_nearest a both.0, no_else_nearest b both.1, λ first. let not_first = no_else_first b both.1 in absurd cc)
no_else_nearest (construct n place t) h = no_else_nearest t (both_false (n == fixed.ELSE) (has_else t) h).1
no_else_nearest (node r t) h = no_else_nearest t h
