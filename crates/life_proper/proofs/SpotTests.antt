-- A test of all spots of a tree: of its parts, and at a point.
use Rattle.std.proofs.Common.{◌≡◌, ℕ, zero, suc, Bool, true, ◌&&◌, List, [], ◌∷◌, ◌++◌, Some, slice_get, sym, ap, subst, ◌∙◌}
use Rattle.std.proofs.lemmas.Bool.{and_parts}
use Rattle.std.proofs.lemmas.List.Folds.{list_all-append, list_all-map}
use Rattle.std.proofs.lemmas.Option.{none-some, same_Some}
use Rattle.std.specs.List.{list_all}
use Rattle.life_core.specs.Function.{Function}
use Rattle.life_core.proofs.SpotLemmas.{code_spots}
use Rattle.life_core.specs.Linked.{Linked, code_of, numbered, spot_of_linked}
use Rattle.life_core.specs.Tree.{Spot, spots}

-- what all of a list pass, each does
pub all_at : {A : Type 0} (test : A → Bool) (xs : List A) (n : ℕ) (x : A) → list_all test xs ≡ true → slice_get xs n ≡ Some x → test x ≡ true
all_at test [] n x e at = absurd (none-some x at)
all_at test (y ∷ ys) zero x e at = subst (λ z. test z ≡ true) (same_Some y x at) (and_parts (test y) (list_all test ys) e).0
all_at test (y ∷ ys) (suc n) x e at = all_at test ys n x (and_parts (test y) (list_all test ys) e).1 at

module _ (test : Spot → Bool) where
  pub two_parts : (xs ys : List Spot) (a b : Bool) → list_all test xs ≡ a → list_all test ys ≡ b → list_all test (xs ++ ys) ≡ (a && b)
  two_parts xs ys a b p q = list_all-append test xs ys ∙ ap (λ (c : Bool). c && list_all test ys) p ∙ ap (λ (c : Bool). a && c) q

  pub three_parts : (xs ys zs : List Spot) (a b c : Bool) → list_all test xs ≡ a → list_all test ys ≡ b → list_all test zs ≡ c → list_all test (xs ++ (ys ++ zs)) ≡ (a && (b && c))
  three_parts xs ys zs a b c p q r = two_parts xs (ys ++ zs) a (b && c) p (two_parts ys zs b c q r)

  -- the points of a function have its spots
  pub points_tested : (f : Function) → list_all (λ (l : Linked). test l.spot) (code_of f) ≡ list_all test (spots f.body)
  points_tested f = sym (list_all-map test spot_of_linked (code_of f)) ∙ ap (list_all test) (code_spots f)

  numbered_tested : (code : List Linked) (p : ℕ) (l : Linked) → list_all (λ (m : Linked). test m.spot) code ≡ true → numbered code p ≡ Some l → test l.spot ≡ true
  numbered_tested code zero l e at = absurd (none-some l at)
  numbered_tested code (suc n) l e at = all_at (λ (m : Linked). test m.spot) code n l e at

  pub point_tested : (f : Function) (p : ℕ) (l : Linked) → list_all test (spots f.body) ≡ true → numbered (code_of f) p ≡ Some l → test l.spot ≡ true
  point_tested f p l e at = numbered_tested (code_of f) p l (points_tested f ∙ e) at
