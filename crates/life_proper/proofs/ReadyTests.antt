-- What is ready by what is known: of one local, of two lists, and of an instruction.
use Rattle.std.proofs.Common.{◌≡◌, ℕ, true, ◌&&◌, List, [], ◌∷◌, ◌++◌, ◌∙◌}
use Rattle.std.proofs.lemmas.Bool.{and_from}
use Rattle.life_core.specs.Touched.{Touched, nothing}
use Rattle.life_proper.specs.declared.known.Known.{Known}
use Rattle.life_proper.specs.declared.known.Known.TheVariants as known
use Rattle.life_proper.specs.ReadyKnown.{are_known, are_ready, can_leave, is_known}
use Rattle.life_proper.proofs.Joining.{and_true}
use Rattle.life_proper.proofs.Lists.{known_both, known_one}

pub one_known : (a : Known) (k : List Known) (x : ℕ) → is_known a k x ≡ true → are_known a k (x ∷ []) ≡ true
one_known a k x e = known_one a k x ∙ e

pub both_known : (a : Known) (k : List Known) (xs ys : List ℕ) → are_known a k xs ≡ true → are_known a k ys ≡ true → are_known a k (xs ++ ys) ≡ true
both_known a k xs ys p q = known_both a k xs ys ∙ and_from (are_known a k xs) (are_known a k ys) p q

-- an instruction that reads and writes, and of which nothing is born or gone
pub uses_ready : (k : List Known) (uses writes : List ℕ) → are_known known.Ready k uses ≡ true → are_ready k (record nothing { uses = uses; writes = writes }) ≡ true
uses_ready k uses writes e = and_true (are_known known.Ready k uses) ∙ e

pub all_ready : (k : List Known) (t : Touched) → are_known known.Ready k t.uses ≡ true → can_leave k t.leaves ≡ true → are_known known.Blank k t.births ≡ true → are_ready k t ≡ true
all_ready k t used gone born =
    and_from (are_known known.Ready k t.uses) (can_leave k t.leaves && are_known known.Blank k t.births) used (and_from (can_leave k t.leaves) (are_known known.Blank k t.births) gone born)
