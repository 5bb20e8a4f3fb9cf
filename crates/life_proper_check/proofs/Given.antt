-- What is given over, one after the other.
use Rattle.std.proofs.Common.{◌≡◌, ℕ, Bool, true, false, ◌||◌, not, List, [], ◌∷◌, Some, flat_map, refl, sym, ap}
use Rattle.std.proofs.lemmas.List.Folds.{list_any-append}
use Rattle.std.specs.List.{list_any}
use Rattle.std.specs.Prelude.{nat_eq}
use Rattle.life_core.specs.Operands.{Argument, Location}
use Rattle.life_core.specs.Touched.{by_members}
use Rattle.life_core.specs.Tree.{Spot}
use Rattle.life_proper.specs.WellFormed.{is_whole}
use Rattle.life_proper.specs.GivenOver.{given_argument, given_spot, is_handed_in, keeps_target}

or_false : (b : Bool) → b ≡ (b || false)
or_false true = refl
or_false false = refl

-- ---- one local, or several

pub alone : (x y : ℕ) → nat_eq x y ≡ list_any (nat_eq x) (y ∷ [])
alone x y = or_false (nat_eq x y)

pub handed_next : (x : ℕ) (y : Argument) (ys : List Argument) → is_handed_in (y ∷ ys) x ≡ (list_any (nat_eq x) (given_argument y) || is_handed_in ys x)
handed_next x y ys = list_any-append (nat_eq x) (given_argument y) (flat_map given_argument ys)

pub given_next : (x : ℕ) (s : Spot) (ss : List Spot) → list_any (nat_eq x) (flat_map given_spot (s ∷ ss)) ≡ (list_any (nat_eq x) (given_spot s) || list_any (nat_eq x) (flat_map given_spot ss))
given_next x s ss = list_any-append (nat_eq x) (given_spot s) (flat_map given_spot ss)

-- ---- where a result goes

pub target_kept : (xs : List Argument) (l : Location) → keeps_target (Some l) xs ≡ (is_whole l || not (is_handed_in xs l.local))
target_kept xs l = go l.members
  where
    go : (ms : List ℕ) → not (list_any (is_handed_in xs) (by_members ms [] (l.local ∷ []))) ≡ (is_whole (record { local = l.local; members = ms }) || not (is_handed_in xs l.local))
    go [] = refl
    go (m ∷ ms) = ap not (sym (or_false (is_handed_in xs l.local)))
