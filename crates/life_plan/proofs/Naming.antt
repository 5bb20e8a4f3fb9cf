-- Facts by their numbers, and sets of numbers.
use Rattle.std.proofs.Common.{◌≡◌, ◌<◌, ℕ, zero, suc, Bool, true, false, List, [], ◌∷◌, cond, map, length, Option, Some, None, inl, inr, refl, ap, sym, ◌∙◌, subst, arith, nat_lt}
use Rattle.std.proofs.lemmas.Bool.{and_parts, ltb-true}
use Rattle.std.proofs.lemmas.List.{append-nil}
use Rattle.std.specs.List.{flat_map}
use Rattle.std.specs.Prelude.{Contains, IsTrue, slice_get}
use Rattle.life_pset.specs.Table.{Names}
use Rattle.life_pset.specs.declared.element.AbsPlace.{AbsPlace}
use Rattle.life_pset.specs.declared.element.Element.{Element}
use Rattle.life_pset.specs.declared.element.Fact.{Fact}
use Rattle.life_pset.proofs.Members.{none_in_empty, in_head, in_tail, cons_cases}
use Rattle.life_sets.specs.NumberSets.{Numbers, holds}
use Rattle.life_rules.specs.FactSets.{named_fact}
use Rattle.life_rules.specs.Matching.{fact_at}
use Rattle.life_plan.specs.Crossing.{Crossing}
use Rattle.life_plan.specs.Numbered.{made_by, made_facts}

-- a number of a set is below its limit
pub holds_within : (s : Numbers) (n : ℕ) → IsTrue (holds s n) → n < s.limit
holds_within s n h = ltb-true n s.limit (and_parts (nat_lt n s.limit) _ h).0

-- what stands at a number below the length
pub at_number : {A : Type 0} (xs : List A) (n : ℕ) → n < length xs → (x : A) × (slice_get xs n ≡ Some x)
at_number [] n lt = absurd (omega (arith, lt))
at_number (x ∷ xs) zero lt = (x, refl)
at_number (x ∷ xs) (suc n) lt = at_number xs n (omega (arith, lt))

pub same_item : {A : Type 0} (o : Option A) (x y : A) → o ≡ Some x → o ≡ Some y → x ≡ y
same_item o x y p q = cc

-- ---- lists of facts

pub map_from : {A B : Type 0} (g : A → B) (xs : List A) (y : B) → Contains (map g xs) y → (x : A) × (Contains xs x × (g x ≡ y))
map_from g [] y h = absurd (none_in_empty y h)
map_from g (x ∷ xs) y h =
    elim (cons_cases (g x) (map g xs) y h) [
      | inl is ↦ (x, (in_head x xs, is))
      | inr more ↦ let r = map_from g xs y more in (r.0, (in_tail x xs r.0 r.1.0, r.1.1))
    ]

pub map_into : {A B : Type 0} (g : A → B) (xs : List A) (x : A) → Contains xs x → Contains (map g xs) (g x)
map_into g [] x h = absurd (none_in_empty x h)
map_into g (z ∷ xs) x h =
    elim (cons_cases z xs x h) [
      | inl is ↦ subst (λ y. Contains (map g (z ∷ xs)) (g y)) is (in_head (g z) (map g xs))
      | inr more ↦ in_tail (g z) (map g xs) (g x) (map_into g xs x more)
    ]

pub cond_parts : {A : Type 0} (b : Bool) (xs : List A) (x : A) → Contains (cond b xs []) x → (b ≡ true) × Contains xs x
cond_parts true xs x h = (refl, h)
cond_parts false xs x h = absurd (none_in_empty x h)

pub cond_other : {A : Type 0} (b : Bool) (xs : List A) (x : A) → Contains (cond b [] xs) x → (b ≡ false) × Contains xs x
cond_other true xs x h = absurd (none_in_empty x h)
cond_other false xs x h = (refl, h)

pub cond_there : {A : Type 0} (b : Bool) (xs : List A) (x : A) → b ≡ true → Contains xs x → Contains (cond b xs []) x
cond_there b xs x is h = subst (λ (c : Bool). Contains (cond c xs []) x) (sym is) h

pub cond_not : {A : Type 0} (b : Bool) (xs : List A) (x : A) → b ≡ false → Contains xs x → Contains (cond b [] xs) x
cond_not b xs x is h = subst (λ (c : Bool). Contains (cond c [] xs) x) (sym is) h

-- what is made of the fact with these numbers
named_is : (l : Option AbsPlace) (e : Option Element) (x : Fact) → l ≡ Some x.location → e ≡ Some x.element → named_fact l e ≡ x ∷ []
named_is l e x p q = rw (p, q) refl

pub made_facts_is : (c : Crossing) (l e : ℕ) (x : Fact) → Names c.table l e x → made_facts c l e ≡ made_by c x
made_facts_is c l e x names =
    ap (flat_map (made_by c)) (named_is (slice_get c.table.locations l) (slice_get c.table.elements e) x names.0 names.1) ∙ append-nil (made_by c x)

named_some : (l : Option AbsPlace) (e : Option Element) (y : Fact) (g : Fact → List Fact) → Contains (flat_map g (named_fact l e)) y → (x : Fact) × ((l ≡ Some x.location) × ((e ≡ Some x.element) × Contains (g x) y))
named_some None e y g h = absurd (none_in_empty y h)
named_some (Some l) None y g h = absurd (none_in_empty y h)
named_some (Some l) (Some e) y g h = (fact_at l e, (refl, (refl, subst (λ (xs : List Fact). Contains xs y) (append-nil (g (fact_at l e))) h)))

pub made_facts_from : (c : Crossing) (l e : ℕ) (y : Fact) → Contains (made_facts c l e) y → (x : Fact) × (Names c.table l e x × Contains (made_by c x) y)
made_facts_from c l e y h =
    let r = named_some (slice_get c.table.locations l) (slice_get c.table.elements e) y (made_by c) h in
    (r.0, ((r.1.0, r.1.1.0), r.1.1.1))
