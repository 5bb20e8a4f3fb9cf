-- What is known of the locals of two lists, one after the other.
use Rattle.std.proofs.Common.{◌≡◌, ℕ, ◌&&◌, List, [], ◌∷◌, ◌++◌, slice_set, refl, sym, ap, ◌∙◌}
use Rattle.std.proofs.lemmas.List.Folds.{list_all-append}
use Rattle.life_proper.specs.declared.known.Known.{Known}
use Rattle.life_proper.specs.declared.known.Known.TheVariants as known
use Rattle.life_proper.specs.ReadyKnown.{are_known, can_leave, is_known, set_known}
use Rattle.life_proper.proofs.Joining.{and_assoc, and_true}

pub known_both : (a : Known) (k : List Known) (xs ys : List ℕ) → are_known a k (xs ++ ys) ≡ (are_known a k xs && are_known a k ys)
known_both a k xs ys = list_all-append (is_known a k) xs ys

pub known_one : (a : Known) (k : List Known) (x : ℕ) → are_known a k (x ∷ []) ≡ is_known a k x
known_one a k x = and_true (is_known a k x)

pub leave_both : (k : List Known) (xs ys : List ℕ) → can_leave k (xs ++ ys) ≡ (can_leave k xs && can_leave (set_known known.Blank xs k) ys)
leave_both k [] ys = refl
leave_both k (x ∷ xs) ys =
    let here = is_known known.Ready k x in
    let after = slice_set k x known.Blank in
    ap (λ b. here && b) (leave_both after xs ys) ∙ sym (and_assoc here (can_leave after xs) (can_leave (set_known known.Blank xs after) ys))

pub leave_one : (k : List Known) (x : ℕ) → can_leave k (x ∷ []) ≡ is_known known.Ready k x
leave_one k x = and_true (is_known known.Ready k x)

pub set_both : (a : Known) (xs ys : List ℕ) (k : List Known) → set_known a (xs ++ ys) k ≡ set_known a ys (set_known a xs k)
set_both a [] ys k = refl
set_both a (x ∷ xs) ys k = set_both a xs ys (slice_set k x a)
