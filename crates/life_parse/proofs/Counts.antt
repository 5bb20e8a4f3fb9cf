-- How many constructs are open at the tokens of a tree.
use Rattle.std.proofs.Common.{◌≡◌, ℕ, zero, suc, ◌+◌, ◌<◌, ◌≤◌, List, [], ◌∷◌, ◌++◌, length, slice_get, Some, refl, sym, ap, subst, ◌∙◌, append_assoc, arith, ◌⊎◌, inl, inr}
use Rattle.std.proofs.lemmas.Bool.{cases_lt}
use Rattle.std.proofs.lemmas.List.{length-append}
use Rattle.life_parse.proofs.Laws.{AllUpTo, IsOver}
use Rattle.life_tree.specs.Tree.{Tree, nothing, without_else, token, ◌⨾◌, construct, node, tokens_of, depth, open_at}

pub counts_length : (n : ℕ) (t : Tree) → length (open_at n t) ≡ length (tokens_of t)
counts_length n nothing = refl
counts_length n without_else = refl
counts_length n (token key place) = refl
counts_length n (a ⨾ b) = rw (length-append (open_at n a) (open_at n b), length-append (tokens_of a) (tokens_of b), counts_length n a, counts_length n b) refl
counts_length n (construct m place t) = ap suc (counts_length (n + 1) t)
counts_length n (node r t) = counts_length n t

abbrev pub one_more : List ℕ → List ℕ
one_more [] = []
one_more (x ∷ xs) = (x + 1) ∷ one_more xs

pub one_more-append : (xs ys : List ℕ) → one_more (xs ++ ys) ≡ one_more xs ++ one_more ys
one_more-append [] ys = refl
one_more-append (x ∷ xs) ys = ap (λ (l : List ℕ). (x + 1) ∷ l) (one_more-append xs ys)

pub one_more-length : (xs : List ℕ) → length (one_more xs) ≡ length xs
one_more-length [] = refl
one_more-length (x ∷ xs) = ap suc (one_more-length xs)

-- one more around it is one more at each token
pub counts_further : (n : ℕ) (t : Tree) → open_at (n + 1) t ≡ one_more (open_at n t)
counts_further n nothing = refl
counts_further n without_else = refl
counts_further n (token key place) = refl
counts_further n (a ⨾ b) = rw (counts_further n a, counts_further n b) (sym (one_more-append (open_at n a) (open_at n b)))
counts_further n (construct m place t) = ap (λ (l : List ℕ). (n + 1 + 1) ∷ l) (counts_further (n + 1) t)
counts_further n (node r t) = counts_further n t

pub up_to_append : (n : ℕ) (xs ys : List ℕ) → AllUpTo n xs → AllUpTo n ys → AllUpTo n (xs ++ ys)
up_to_append n [] ys h k = k
up_to_append n (x ∷ xs) ys h k = (h.0, up_to_append n xs ys h.1 k)

pub up_to_more : (n : ℕ) (xs : List ℕ) → AllUpTo n xs → AllUpTo (suc n) (one_more xs)
up_to_more n [] h = h
up_to_more n (x ∷ xs) h = let le = h.0 in (omega arith, up_to_more n xs h.1)

-- nowhere in a tree are more open than its depth
pub counts_low : (n k : ℕ) (t : Tree) → k + depth t ≤ n → AllUpTo n (open_at k t)
counts_low n k nothing h = tt
counts_low n k without_else h = tt
counts_low n k (token key place) h = (omega arith, tt)
counts_low n k (a ⨾ b) h = up_to_append n (open_at k a) (open_at k b) (counts_low n k a (omega arith)) (counts_low n k b (omega arith))
counts_low n k (construct m place t) h = (omega arith, counts_low n (k + 1) t (omega arith))
counts_low n k (node r t) h = counts_low n k t h

-- ---- the first place where more than n are open

pub over_left : (n : ℕ) (xs ys : List ℕ) (place : ℕ) → IsOver n xs place → IsOver n (xs ++ ys) place
over_left n xs ys place o = record {
  low = o.low;
  more = o.more;
  high = o.high ++ ys;
  split = rw o.split (append_assoc o.low (o.more ∷ o.high) ys);
  as_far = o.as_far;
  above = o.above;
  below = o.below;
}

pub over_right : (n : ℕ) (xs ys : List ℕ) (place : ℕ) → AllUpTo n xs → IsOver n ys place → IsOver n (xs ++ ys) (length xs + place)
over_right n xs ys place h o = record {
  low = xs ++ o.low;
  more = o.more;
  high = o.high;
  split = ap (λ (l : List ℕ). xs ++ l) o.split ∙ sym (append_assoc xs o.low (o.more ∷ o.high));
  as_far = rw (length-append xs o.low, o.as_far) refl;
  above = o.above;
  below = up_to_append n xs o.low h o.below;
}

pub over_further : (n : ℕ) (xs : List ℕ) (place : ℕ) → IsOver n xs place → IsOver (suc n) (1 ∷ one_more xs) (suc place)
over_further n xs place o = record {
  low = 1 ∷ one_more o.low;
  more = o.more + 1;
  high = one_more o.high;
  split = rw o.split (ap (λ (l : List ℕ). 1 ∷ l) (one_more-append o.low (o.more ∷ o.high)));
  as_far = ap suc (one_more-length o.low ∙ o.as_far);
  above = let a = o.above in omega arith;
  below = (omega arith, up_to_more n o.low o.below);
}

-- the first token opens more than may be open
pub over_at_once : (xs : List ℕ) → IsOver 0 (1 ∷ xs) 0
over_at_once xs = record { low = []; more = 1; high = xs; split = refl; as_far = refl; above = omega arith; below = tt }

-- ---- the number at a place

pub get_low : (n : ℕ) (xs ys : List ℕ) (i x : ℕ) → AllUpTo n xs → i < length xs → slice_get (xs ++ ys) i ≡ Some x → x ≤ n
get_low n [] ys i x h l e = absurd (omega arith)
get_low n (y ∷ xs) ys zero x h l e = let le = h.0 in let same : y ≡ x = cc in omega arith
get_low n (y ∷ xs) ys (suc i) x h l e = get_low n xs ys i x h.1 (omega arith) e

pub get_behind : (xs ys : List ℕ) (x : ℕ) → slice_get (xs ++ x ∷ ys) (length xs) ≡ Some x
get_behind [] ys x = refl
get_behind (y ∷ xs) ys x = get_behind xs ys x

-- more than n are open at no place before the first of them
pub get_over : (n : ℕ) (xs : List ℕ) (place i : ℕ) → IsOver n xs place → slice_get xs i ≡ Some (suc n) → place ≤ i
get_over n xs place i o e = go (cases_lt i place)
  where
    go : (i < place) ⊎ (place ≤ i) → place ≤ i
    go (inr le) = le
    go (inl early) =
        let far = o.as_far in
        let le : suc n ≤ n = get_low n o.low (o.more ∷ o.high) i (suc n) o.below (omega arith) (subst (λ (l : List ℕ). slice_get l i ≡ Some (suc n)) o.split e) in
        absurd (omega arith)
