-- How reading goes, from the front of a list of tokens; nobody need believe it, since what a file's tree is stands in the grammar. Every test looks
-- at one token.
use Rattle.std.specs.Prelude.{ℕ, zero, suc, Bool, false, nat_lt, ◌||◌, List, [], ◌∷◌, length, Result, Ok, Err, if◌then◌else◌}
use Rattle.life_tree.specs.Grammar.{Form, none, no_else, quoted, name, number, character, text, ◌then◌, ◌decides◌, ◌or◌, many, opens, rule, optional}
use Rattle.life_tree.specs.Rules.{Rule}
use Rattle.life_tree.specs.Tree.{Tokens, Tree, nothing, without_else, token, ◌⨾◌, construct}
use Rattle.life_tree.specs.declared.key.TokenKey.TheVariants as keys
use Rattle.life_tree.specs.declared.token.TreeToken.{TreeToken}
use Rattle.life_types.specs.declared.place.Place.{Place}
use Rattle.life_expr.specs.Heads.{Kind, is_of, quoted_kind, name_kind, number_kind, character_kind, text_kind, heads}

-- Why reading stopped, with the tokens from there on: the first is refused, or opens too much.
pub data Stop : Type 0 where
  refused : Tokens → Stop
  deep : Tokens → Stop

infixl 10 ◌>>=◌
abbrev pub ◌>>=◌ : {A B : Type 0} → Result A Stop → (A → Result B Stop) → Result B Stop
(Ok x) >>= f = f x
(Err e) >>= f = Err e

-- what was read, and the tokens behind it
abbrev pub Read : Type 0
Read = Result (Tree × Tokens) Stop

abbrev pub Reader : Type 0
Reader = Tokens → Read

-- a token of one of these kinds stands in front
abbrev pub is_in : List Kind → TreeToken → Bool
is_in [] k = false
is_in (x ∷ xs) k = is_of x k || is_in xs k

abbrev pub starts : List Kind → Tokens → Bool
starts kinds [] = false
starts kinds (k ∷ ks) = is_in kinds k

-- ---- one token

abbrev pub the_token : Kind → (TreeToken → Tree) → Reader
the_token kind f [] = Err (refused [])
the_token kind f (k ∷ ks) = if is_of kind k then Ok (f k, ks) else Err (refused (k ∷ ks))

abbrev pub as_it_stands : TreeToken → Tree
as_it_stands k = token k.key k.place

-- the token that a rule quotes
abbrev pub mark : ℕ → Reader
mark n = the_token (quoted_kind n) (λ k. token (keys.Fixed n) k.place)

abbrev pub name_mark : Reader
name_mark = the_token name_kind as_it_stands

-- the token that opens a construct, where n more may be open
abbrev pub opener : ℕ → ℕ → Tokens → Result (Place × Tokens) Stop
opener n m [] = Err (refused [])
opener n m (k ∷ ks) = if is_of (quoted_kind m) k then (if nat_lt 0 n then Ok (k.place, ks) else Err (deep (k ∷ ks))) else Err (refused (k ∷ ks))

-- ---- one after the other

abbrev pub pair : Reader → (Tree → Reader) → Reader
pair p q ts = p ts >>= λ x. q x.0 x.1 >>= λ y. Ok (x.0 ⨾ y.0, y.1)

abbrev pub made : (Tree → Tree) → Reader → Reader
made f p ts = p ts >>= λ x. Ok (f x.0, x.1)

-- as many as start so, but fewer than n
abbrev pub many_below : ℕ → List Kind → Reader → Reader
many_below zero kinds p ts = Err (refused ts)
many_below (suc n) kinds p ts = if starts kinds ts then (p ts >>= λ x. many_below n kinds p x.1 >>= λ y. Ok (x.0 ⨾ y.0, y.1)) else Ok (nothing, ts)

unfoldable pub as_many : List Kind → Reader → Reader
as_many kinds p ts = many_below (suc (length ts)) kinds p ts

-- ---- a form

-- n more constructs may be open. `same` reads what other rules derive, and `inside` does so one construct further in.
abbrev pub reads : ℕ → (Rule → Reader) → (Rule → Reader) → Form → Reader
reads n inside same none ts = Ok (nothing, ts)
reads n inside same no_else ts = Ok (without_else, ts)
reads n inside same (quoted m) ts = mark m ts
reads n inside same name ts = name_mark ts
reads n inside same number ts = the_token number_kind as_it_stands ts
reads n inside same character ts = the_token character_kind as_it_stands ts
reads n inside same text ts = the_token text_kind as_it_stands ts
reads n inside same (f then g) ts = reads n inside same f ts >>= λ x. reads n inside same g x.1 >>= λ y. Ok (x.0 ⨾ y.0, y.1)
reads n inside same (f decides g) ts = reads n inside same f ts >>= λ x. reads n inside same (g x.0) x.1 >>= λ y. Ok (x.0 ⨾ y.0, y.1)
reads n inside same (f or g) ts = if starts (heads f) ts then reads n inside same f ts else reads n inside same g ts
reads n inside same (many f) ts = as_many (heads f) (λ us. reads n inside same f us) ts
reads n inside same (opens m f) ts = opener n m ts >>= λ x. reads 0 inside inside f x.1 >>= λ y. Ok (construct m x.0 y.0, y.1)
reads n inside same (rule r) ts = same r ts

-- the token that a rule quotes, or none
abbrev pub optional_mark : ℕ → Reader
optional_mark m = reads 0 (λ r us. Err (refused us)) (λ r us. Err (refused us)) (optional (quoted m))
