-- Facts of rows, and facts added to rows one by one.
use Rattle.std.proofs.Common.{◌≡◌, ℕ, List, [], ◌∷◌, refl, ap, sym, ◌∙◌, inl, inr, ◌⊎◌, ◌↔◌, arith, subst, Some, None, Option, Bool, true, false, ◌+◌, ◌<◌, ◌≤◌, suc, length, get_or, drop, drop-cons, not, nat_eq, ◌&&◌, ◌||◌}
use Rattle.std.proofs.lemmas.Bool.{and_from, and_parts, both_ways, eq-eqb, eqb-true, not-true, or_cases, or_left, or_right}
use Rattle.std.proofs.lemmas.List.{drop_all}
use Rattle.std.proofs.lemmas.List.Elements.{Contains-append_left, Contains-append_right, Contains-append_cases}
use Rattle.std.proofs.lemmas.Option.{slice_get-get_or, get_or_from_slice_get}
use Rattle.std.specs.Prelude.{Contains, IsTrue, slice_get}
use Rattle.std.specs.List.{flat_map}
use Rattle.life_pset.specs.Table.{Table, Names}
use Rattle.life_pset.specs.declared.element.AbsPlace.{AbsPlace}
use Rattle.life_pset.specs.declared.element.Element.{Element}
use Rattle.life_pset.specs.declared.element.Fact.{Fact}
use Rattle.life_pset.proofs.Members.{none_in_empty, in_head, in_tail, cons_cases}
use Rattle.life_rules.specs.Carrying.{fact_at}
use Rattle.life_rules.specs.FactSets.{Gains, GainsSome, Holds, IsPairOf, named_fact, pair_facts}
use Rattle.life_plan.specs.Noted.{Notes}

flat_map_from : {A B : Type 0} (g : A → List B) (xs : List A) (x : B) → Contains (flat_map g xs) x → (a : A) × (Contains xs a × Contains (g a) x)
flat_map_from g [] x h = absurd (none_in_empty x h)
flat_map_from g (y ∷ ys) x h =
    elim (Contains-append_cases (g y) (flat_map g ys) x h) [
      | inl here ↦ (y, (in_head y ys, here))
      | inr more ↦ let r = flat_map_from g ys x more in (r.0, (in_tail y ys r.0 r.1.0, r.1.1))
    ]

flat_map_into : {A B : Type 0} (g : A → List B) (xs : List A) (a : A) (x : B) → Contains xs a → Contains (g a) x → Contains (flat_map g xs) x
flat_map_into g [] a x h k = absurd (none_in_empty a h)
flat_map_into g (y ∷ ys) a x h k =
    elim (cons_cases y ys a h) [
      | inl e ↦ Contains-append_left (g y) (flat_map g ys) x (subst (λ z. Contains (g z) x) (sym e) k)
      | inr more ↦ Contains-append_right (g y) (flat_map g ys) x (flat_map_into g ys a x more k)
    ]

-- ---- the facts of pairs

named_from : (l : Option AbsPlace) (e : Option Element) (x : Fact) → Contains (named_fact l e) x → (l ≡ Some x.location) × (e ≡ Some x.element)
named_from None e x h = absurd (none_in_empty x h)
named_from (Some l) None x h = absurd (none_in_empty x h)
named_from (Some l) (Some e) x h =
    elim (cons_cases (fact_at l e) [] x h) [
      | inl is ↦ (ap (λ (y : Fact). Some y.location) is, ap (λ (y : Fact). Some y.element) is)
      | inr none ↦ absurd (none_in_empty x none)
    ]

named_into : (l : Option AbsPlace) (e : Option Element) (x : Fact) → l ≡ Some x.location → e ≡ Some x.element → Contains (named_fact l e) x
named_into l e x p q = rw (p, q) (in_head x [])

-- the facts of a set's pairs are those that the set has
pub holds_iff : (t : Table) (pairs : List (ℕ × ℕ)) (has : ℕ → ℕ → Bool) → ((l e : ℕ) → Contains pairs (l, e) ↔ IsTrue (has l e))
    → (x : Fact) → Contains (flat_map (pair_facts t) pairs) x ↔ Holds t has x
holds_iff t pairs has each x = (
  λ h.
      let r = flat_map_from (pair_facts t) pairs x h in
      (r.0.0, (r.0.1, (named_from (slice_get t.locations r.0.0) (slice_get t.elements r.0.1) x r.1.1, (each r.0.0 r.0.1).0 r.1.0))),
  λ h. flat_map_into (pair_facts t) pairs (h.0, h.1.0) x ((each h.0 h.1.0).1 h.1.1.1) (named_into (slice_get t.locations h.0) (slice_get t.elements h.1.0) x h.1.1.0.0 h.1.1.0.1),
)

-- ---- facts added one by one

-- one fact, and then the rest
adds_cons : (t : Table) (x : Fact) (rest : List Fact) (a b new : ℕ → ℕ → Bool) → Gains a b (λ l e. Names t l e x) → Gains b new (IsPairOf t rest) → Gains a new (IsPairOf t (x ∷ rest))
adds_cons t x rest a b new one more l e = (
  λ h.
      elim ((more l e).0 h) [
        | inl was ↦ elim ((one l e).0 was) [ inl first ↦ inl first | inr names ↦ inr (x, (names, in_head x rest)) ]
        | inr p ↦ inr (p.0, (p.1.0, in_tail x rest p.0 p.1.1))
      ],
  λ h.
      elim h [
        | inl first ↦ (more l e).1 (inl ((one l e).1 (inl first)))
        | inr p ↦ elim (cons_cases x rest p.0 p.1.1) [
          | inl is ↦ (more l e).1 (inl ((one l e).1 (inr (subst (Names t l e) (sym is) p.1.0))))
          | inr in_rest ↦ (more l e).1 (inr (p.0, (p.1.0, in_rest)))
        ]
      ],
)

-- nothing was added
adds_none : (t : Table) (a : ℕ → ℕ → Bool) → Gains a a (IsPairOf t [])
adds_none t a l e = (λ h. inl h, λ h. elim h [ inl was ↦ was | inr p ↦ absurd (none_in_empty p.0 p.1.1) ])

pub adds_drop : (t : Table) (facts : List Fact) (i : ℕ) (d : Fact) (a b new : ℕ → ℕ → Bool) → i < length facts → Gains a b (λ l e. Names t l e (get_or facts i d)) → Gains b new (IsPairOf t (drop (i + 1) facts))
    → Gains a new (IsPairOf t (drop i facts))
adds_drop t facts i d a b new lt one more =
    let e : i + 1 ≡ suc i = omega arith in
    let m = subst (λ (k : ℕ). Gains b new (IsPairOf t (drop k facts))) e more in
    subst (λ (ys : List Fact). Gains a new (IsPairOf t ys)) (sym (drop-cons facts i d lt)) (adds_cons t (get_or facts i d) (drop (suc i) facts) a b new one m)

pub adds_past : (t : Table) (facts : List Fact) (i : ℕ) (a : ℕ → ℕ → Bool) → length facts ≤ i → Gains a a (IsPairOf t (drop i facts))
adds_past t facts i a past = subst (λ (ys : List Fact). Gains a a (IsPairOf t ys)) (sym (drop_all i facts past)) (adds_none t a)

-- ---- some of the facts

-- the fact at a place of the list is one of the list's
pub one_of : (t : Table) (facts : List Fact) (i : ℕ) (d : Fact) → i < length facts → (l e : ℕ) → Names t l e (get_or facts i d) → IsPairOf t facts l e
one_of t facts i d lt l e names =
    let x = get_or facts i d in
    (x, (names, (i, lt, get_or_from_slice_get facts i x x (slice_get-get_or facts i d lt))))

pub some_none : (a : ℕ → ℕ → Bool) (p : ℕ → ℕ → Type 0) → GainsSome a a p
some_none a p l e = (λ h. h, λ h. inl h)

-- some, and then some more
pub some_more : (a b c : ℕ → ℕ → Bool) (p q : ℕ → ℕ → Type 0) → ((l e : ℕ) → q l e → p l e) → GainsSome a b p → GainsSome b c q → GainsSome a c p
some_more a b c p q of first more l e = (
  λ h. (more l e).0 ((first l e).0 h),
  λ h. elim ((more l e).1 h) [ inl was ↦ (first l e).1 was | inr new ↦ inr (of l e new) ],
)

-- ---- one pair

is_pair : (p q l e : ℕ) → (nat_eq l p && nat_eq e q) ≡ true → (l ≡ p) × (e ≡ q)
is_pair p q l e h = let k = and_parts (nat_eq l p) (nat_eq e q) h in (eqb-true l p k.0, eqb-true e q k.1)

-- a pair more, which the other set may have had: its location is noted where it hadn't
pub notes_pair : (p q : ℕ) (a b : ℕ → ℕ → Bool) (g h : ℕ → Bool) (fresh : Bool) → ((l e : ℕ) → b l e ≡ ((nat_eq l p && nat_eq e q) || a l e)) → fresh ≡ not (a p q) → ((n : ℕ) → h n ≡ ((fresh && nat_eq n p) || g n)) → Notes a b g h
notes_pair p q a b g h fresh one is noted l = (to, back)
  where
    to : IsTrue (h l) → IsTrue (g l) ⊎ ((e : ℕ) × ((a l e ≡ false) × (b l e ≡ true)))
    to t =
        elim (or_cases (fresh && nat_eq l p) (g l) (sym (noted l) ∙ t)) [
          | inl new ↦
              let k = and_parts fresh (nat_eq l p) new in
              let at : l ≡ p = eqb-true l p k.1 in
              inr (q, (subst (λ (n : ℕ). a n q ≡ false) (sym at) (not-true (a p q) (sym is ∙ k.0)), one l q ∙ or_left (nat_eq l p && nat_eq q q) (a l q) (and_from (nat_eq l p) (nat_eq q q) k.1 (eq-eqb q q refl))))
          | inr was ↦ inl was
        ]

    back : IsTrue (g l) ⊎ ((e : ℕ) × ((a l e ≡ false) × (b l e ≡ true))) → IsTrue (h l)
    back (inl was) = noted l ∙ or_right (fresh && nat_eq l p) (g l) was
    back (inr new) =
        elim (or_cases (nat_eq l p && nat_eq new.0 q) (a l new.0) (sym (one l new.0) ∙ new.1.1)) [
          | inl here ↦
              let k = is_pair p q l new.0 here in
              let none : a p q ≡ false = subst (λ (n : ℕ). a n q ≡ false) k.0 (subst (λ (n : ℕ). a l n ≡ false) k.1 new.1.0) in
              let t : fresh ≡ true = is ∙ ap not none in
              noted l ∙ or_left (fresh && nat_eq l p) (g l) (and_from fresh (nat_eq l p) t (eq-eqb l p k.0))
          | inr there ↦ absurd (both_ways (a l new.0) new.1.0 there)
        ]
