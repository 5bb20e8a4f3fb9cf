-- Where an `else` may stand: what a tree's tokens tell of it.
use Rattle.std.proofs.Common.{◌≡◌, Bool, true, false, ◌&&◌, ◌||◌, [], ◌∷◌, ◌++◌, refl, sym, ap, ◌∙◌}
use Rattle.life_parse.proofs.Laws.{else_in_front}
use Rattle.life_tree.specs.Grammar.{ElsesAreNearest, ends_open, begins_with_else, is_else}
use Rattle.life_tree.specs.Tree.{Tree, nothing, without_else, token, ◌⨾◌, construct, node, tokens_of, is_empty, Tokens}

abbrev pub no_tokens : Tokens → Bool
no_tokens [] = true
no_tokens (k ∷ ks) = false

no_tokens-append : (xs ys : Tokens) → no_tokens (xs ++ ys) ≡ (no_tokens xs && no_tokens ys)
no_tokens-append [] ys = refl
no_tokens-append (x ∷ xs) ys = refl

pub is_empty_is : (t : Tree) → is_empty t ≡ no_tokens (tokens_of t)
is_empty_is nothing = refl
is_empty_is without_else = refl
is_empty_is (token key place) = refl
is_empty_is (a ⨾ b) = rw (is_empty_is a, is_empty_is b) (sym (no_tokens-append (tokens_of a) (tokens_of b)))
is_empty_is (construct n place t) = refl
is_empty_is (node r t) = is_empty_is t

pub no_tokens_are : (xs : Tokens) → no_tokens xs ≡ true → xs ≡ []
no_tokens_are [] e = refl
no_tokens_are (x ∷ xs) e = absurd cc

else_append : (xs ys : Tokens) → else_in_front (xs ++ ys) ≡ (else_in_front xs || (no_tokens xs && else_in_front ys))
else_append [] ys = refl
else_append (x ∷ xs) ys = go (is_else x.key)
  where
    go : (b : Bool) → b ≡ (b || false)
    go true = refl
    go false = refl

pub begins_with_else_is : (t : Tree) → begins_with_else t ≡ else_in_front (tokens_of t)
begins_with_else_is nothing = refl
begins_with_else_is without_else = refl
begins_with_else_is (token key place) = refl
begins_with_else_is (a ⨾ b) = rw (begins_with_else_is a, begins_with_else_is b, is_empty_is a) (sym (else_append (tokens_of a) (tokens_of b)))
begins_with_else_is (construct n place t) = refl
begins_with_else_is (node r t) = begins_with_else_is t

pub else_goes_on : (xs ys : Tokens) → else_in_front xs ≡ true → else_in_front (xs ++ ys) ≡ true
else_goes_on [] ys e = absurd cc
else_goes_on (x ∷ xs) ys e = e

-- ---- one part and then the next

-- no `else` that could belong to it follows the tree
abbrev pub Closed : Tree → Tokens → Type 0
Closed t rest = else_in_front rest ≡ true → ends_open t ≡ false

pub joined_elses : (a b : Tree) (rest : Tokens) → ElsesAreNearest a → ElsesAreNearest b → Closed a (tokens_of b ++ rest) → ElsesAreNearest (a ⨾ b)
joined_elses a b rest x y c = (x, y, λ e. c (else_goes_on (tokens_of b) rest (sym (begins_with_else_is b) ∙ e)))

pub joined_closed : (a b : Tree) (rest : Tokens) → Closed a (tokens_of b ++ rest) → Closed b rest → Closed (a ⨾ b) rest
joined_closed a b rest c d e = rw (d e) (go (is_empty b) refl)
  where
    go : (i : Bool) → is_empty b ≡ i → (i && ends_open a) ≡ false
    go false h = refl
    go true h = let none = no_tokens_are (tokens_of b) (sym (is_empty_is b) ∙ h) in c (ap (λ (us : Tokens). else_in_front (us ++ rest)) none ∙ e)

pub second_closed : (a b : Tree) (rest : Tokens) → Closed (a ⨾ b) rest → Closed b rest
second_closed a b rest c e = go (ends_open b) refl (c e)
  where
    go : (i : Bool) → ends_open b ≡ i → (i || (is_empty b && ends_open a)) ≡ false → i ≡ false
    go true h o = absurd cc
    go false h o = refl

pub first_closed : (a b : Tree) (rest : Tokens) → ElsesAreNearest (a ⨾ b) → Closed (a ⨾ b) rest → Closed a (tokens_of b ++ rest)
first_closed a b rest n c e = go (is_empty b) refl
  where
    open_a : (i : Bool) → ends_open b ≡ i → (i || (true && ends_open a)) ≡ false → ends_open a ≡ false
    open_a true h o = absurd cc
    open_a false h o = o

    back : (us : Tokens) → no_tokens us ≡ false → else_in_front (us ++ rest) ≡ true → else_in_front us ≡ true
    back [] h i = absurd cc
    back (x ∷ xs) h i = i

    go : (i : Bool) → is_empty b ≡ i → ends_open a ≡ false
    go true h =
        let none = no_tokens_are (tokens_of b) (sym (is_empty_is b) ∙ h) in
        let o : (ends_open b || (is_empty b && ends_open a)) ≡ false = c (sym (ap (λ (us : Tokens). else_in_front (us ++ rest)) none) ∙ e) in
        open_a (ends_open b) refl (rw h at o)
    go false h = n.2 (begins_with_else_is b ∙ back (tokens_of b) (sym (is_empty_is b) ∙ h) e)
