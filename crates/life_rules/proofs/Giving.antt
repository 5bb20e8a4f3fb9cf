-- What lists contain, what comes of each element of a list, and which premises are among facts.
use Rattle.std.proofs.Common.{◌≡◌, List, [], ◌∷◌, ◌++◌, refl, sym, inl, inr, ◌⊎◌, arith, subst}
use Rattle.std.specs.Prelude.{Contains}
use Rattle.std.specs.List.{flat_map}
use Rattle.std.proofs.lemmas.Grind.{flat_map-append}
use Rattle.std.proofs.lemmas.List.Elements.{Contains-append_left, Contains-append_right, Contains-append_cases, Contains-push_cases}
use Rattle.life_pset.specs.declared.element.Fact.{Fact}
pub use Rattle.life_rules.proofs.Nothing.{cond_none, flat_map_empty}

pub none_in_empty : {A : Type 0} (x : A) → Contains [] x → ⊥
none_in_empty x h = omega (arith, h.1)

pub at_head : {A : Type 0} (x : A) (xs : List A) → Contains (x ∷ xs) x
at_head x xs = (0, omega arith, refl)

pub in_tail : {A : Type 0} (y : A) (xs : List A) (x : A) → Contains xs x → Contains (y ∷ xs) x
in_tail y xs x h = Contains-append_right (y ∷ []) xs x h

pub cons_cases : {A : Type 0} (y : A) (xs : List A) (x : A) → Contains (y ∷ xs) x → (y ≡ x) ⊎ Contains xs x
cons_cases y xs x h =
    elim (Contains-append_cases (y ∷ []) xs x h) [
      | inl one ↦ elim (Contains-push_cases [] y x one) [ inl none ↦ absurd (none_in_empty x none) | inr e ↦ inl e ]
      | inr more ↦ inr more
    ]

pub flat_map_from : {A B : Type 0} (g : A → List B) (xs : List A) (x : B) → Contains (flat_map g xs) x → (a : A) × (Contains xs a × Contains (g a) x)
flat_map_from g [] x h = absurd (none_in_empty x h)
flat_map_from g (y ∷ ys) x h =
    elim (Contains-append_cases (g y) (flat_map g ys) x h) [
      | inl here ↦ (y, (at_head y ys, here))
      | inr more ↦ let r = flat_map_from g ys x more in (r.0, (in_tail y ys r.0 r.1.0, r.1.1))
    ]

pub flat_map_into : {A B : Type 0} (g : A → List B) (xs : List A) (a : A) (x : B) → Contains xs a → Contains (g a) x → Contains (flat_map g xs) x
flat_map_into g [] a x h k = absurd (none_in_empty a h)
flat_map_into g (y ∷ ys) a x h k =
    elim (cons_cases y ys a h) [
      | inl e ↦ Contains-append_left (g y) (flat_map g ys) x (subst (λ z. Contains (g z) x) (sym e) k)
      | inr more ↦ Contains-append_right (g y) (flat_map g ys) x (flat_map_into g ys a x more k)
    ]

pub flat_map_both : {A B : Type 0} (g : A → List B) (xs ys : List A) → flat_map g (xs ++ ys) ≡ flat_map g xs ++ flat_map g ys
flat_map_both g xs ys = flat_map-append g xs ys

abbrev pub AllIn : List Fact → List Fact → Type 0
AllIn premises facts = (y : Fact) → Contains premises y → Contains facts y

pub no_premise : (facts : List Fact) → AllIn [] facts
no_premise facts y h = absurd (none_in_empty y h)

pub one_premise : (facts : List Fact) (a : Fact) → Contains facts a → AllIn (a ∷ []) facts
one_premise facts a h y k = elim (cons_cases a [] y k) [ inl e ↦ subst (Contains facts) e h | inr none ↦ absurd (none_in_empty y none) ]

pub two_premises : (facts : List Fact) (a b : Fact) → Contains facts a → Contains facts b → AllIn (a ∷ b ∷ []) facts
two_premises facts a b h g y k = elim (cons_cases a (b ∷ []) y k) [ inl e ↦ subst (Contains facts) e h | inr more ↦ one_premise facts b g y more ]
