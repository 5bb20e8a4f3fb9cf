-- What is handed over, where all was looked at: as much as there are parameters, or not.
use Rattle.std.proofs.Common.{◌≡◌, ◌≤◌, ℕ, zero, suc, Bool, List, [], ◌∷◌, drop, length, map, nat_eq, refl, sym, ap, ◌∙◌, arith}
use Rattle.std.proofs.lemmas.Bool.Decides.{nat_tests}
use Rattle.life_types.specs.Types.{Types}
use Rattle.life_core.specs.declared.operand.Argument.{Argument}
use Rattle.life_core.specs.declared.program.Local.{Local}
use Rattle.life_core.specs.Function.{Function}
use Rattle.life_core.specs.Operands.{argument_of}
use Rattle.life_proper.specs.WellFormed.{are_arguments_for, local_type}

module _ (types : Types) (texts : ℕ) (fs : List Function) (f : Function) where
  none_left : (ls : List Local) (n : ℕ) → n ≤ length ls → nat_eq n (length ls) ≡ are_arguments_for types texts fs f (map local_type (drop n ls)) []
  none_left [] zero le = refl
  none_left [] (suc n) le = absurd (omega (arith, le))
  none_left (l ∷ ls) zero le = grind (arith, nat_tests)
  none_left (l ∷ ls) (suc n) le = same_next n (length ls) ∙ none_left ls n (omega (arith, le))
    where
      same_next : (a b : ℕ) → nat_eq (suc a) (suc b) ≡ nat_eq a b
      same_next a b = grind (arith, nat_tests)

  pub decided : (ls : List Local) (xs : List Argument) (n m : ℕ) (whole : Bool) → n ≤ length ls → length xs ≤ m
      → are_arguments_for types texts fs f (map local_type (drop n ls)) (map argument_of (drop m xs)) ≡ whole → nat_eq n (length ls) ≡ whole
  decided ls xs n m whole le over e =
      none_left ls n le ∙ ap (λ (ys : List Argument). are_arguments_for types texts fs f (map local_type (drop n ls)) (map argument_of ys)) (sym (all_gone xs m over)) ∙ e
    where
      all_gone : (ys : List Argument) (k : ℕ) → length ys ≤ k → drop k ys ≡ []
      all_gone [] zero le = refl
      all_gone [] (suc k) le = refl
      all_gone (y ∷ ys) zero le = absurd (omega (arith, le))
      all_gone (y ∷ ys) (suc k) le = all_gone ys k (omega (arith, le))
