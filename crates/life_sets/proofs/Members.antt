-- The members of a list that begins with an element.
use Rattle.std.proofs.Common.{◌≡◌, ◌⊎◌, inl, inr, refl, arith, List, [], ◌∷◌}
use Rattle.std.proofs.lemmas.List.Elements.{Contains-append_right, Contains-append_cases, Contains-push_cases}
use Rattle.std.specs.Prelude.{Contains}

pub none_in_empty : {A : Type 0} (x : A) → Contains [] x → ⊥
none_in_empty x h = omega (arith, h.1)

pub in_head : {A : Type 0} (y : A) (xs : List A) → Contains (y ∷ xs) y
in_head y xs = (0, omega arith, refl)

pub in_tail : {A : Type 0} (y : A) (xs : List A) (x : A) → Contains xs x → Contains (y ∷ xs) x
in_tail y xs x h = Contains-append_right (y ∷ []) xs x h

pub cons_cases : {A : Type 0} (y : A) (xs : List A) (x : A) → Contains (y ∷ xs) x → (y ≡ x) ⊎ Contains xs x
cons_cases y xs x h =
    elim (Contains-append_cases (y ∷ []) xs x h) [
      | inl one ↦ elim (Contains-push_cases [] y x one) [ inl none ↦ absurd (none_in_empty x none) | inr e ↦ inl e ]
      | inr more ↦ inr more
    ]
