-- Facts that are read location by location, where a point tells of it.
use Rattle.std.proofs.Common.{◌≡◌, ◌⊎◌, ◌↔◌, ◌∙◌, ◌++◌, ◌+◌, ◌<◌, ◌≤◌, ℕ, Bool, false, true≢false, List, [], Option, Some, None, Contains, ap, arith, inl, inr, length, slice_get, subst, sym}
use Rattle.std.proofs.lemmas.Bool.{cases_eq, cases_lt, false_from_ne_true}
use Rattle.std.proofs.lemmas.List.Elements.{Contains-append_cases, Contains-append_left, Contains-append_right}
use Rattle.std.proofs.lemmas.Option.{same_Some, slice_get_within}
use Rattle.std.specs.Prelude.{IsTrue}
use Rattle.life_types.specs.Types.{Types}
use Rattle.life_core.specs.Function.{Function}
use Rattle.life_core.specs.Tree.{Spot}
use Rattle.life_pset.proofs.Members.{none_in_empty, in_head, cons_cases}
use Rattle.life_pset.specs.Table.{Table}
use Rattle.life_pset.specs.declared.element.AbsPlace.{AbsPlace}
use Rattle.life_pset.specs.declared.element.Element.{Element}
use Rattle.life_pset.specs.declared.element.Fact.{Fact}
use Rattle.life_sets.specs.NumberSets.{holds, IsNext, Numbers}
use Rattle.life_sets.proofs.NumberLemmas.{held_below}
use Rattle.life_rules.specs.Carrying.{fact_at}
use Rattle.life_rules.specs.FactSets.{named_fact}
use Rattle.life_rules.specs.ToldAt.{spot_tells}
use Rattle.life_fix.specs.Told.{AreTold, IsOfElements, IsToldOf}

-- ---- the elements of one location

-- .. with a number below this one
abbrev pub IsOfBelow : Table → AbsPlace → (ℕ → Bool) → ℕ → Fact → Type 0
IsOfBelow t location elements n x = (location ≡ x.location) × ((e : ℕ) × ((e < n) × ((slice_get t.elements e ≡ Some x.element) × IsTrue (elements e))))

abbrev pub Adds : (Fact → Type 0) → (before after : List Fact) → Type 0
Adds p before after = (x : Fact) → Contains after x ↔ (Contains before x ⊎ p x)

pub of_none : (t : Table) (location : AbsPlace) (elements : ℕ → Bool) (facts : List Fact) → Adds (IsOfBelow t location elements 0) facts facts
of_none t location elements facts x = (λ h. inl h, λ h. elim h [ inl was ↦ was | inr new ↦ absurd (omega (arith, new.1.1.0)) ])

named_from : (location : AbsPlace) (o : Option Element) (x : Fact) → Contains (named_fact (Some location) o) x → (location ≡ x.location) × (o ≡ Some x.element)
named_from location None x h = absurd (none_in_empty x h)
named_from location (Some e) x h =
    elim (cons_cases (fact_at location e) [] x h) [
      | inl is ↦ (ap (λ (y : Fact). y.location) is, ap (λ (y : Fact). Some y.element) is)
      | inr none ↦ absurd (none_in_empty x none)
    ]

named_into : (location : AbsPlace) (o : Option Element) (x : Fact) → location ≡ x.location → o ≡ Some x.element → Contains (named_fact (Some location) o) x
named_into location o x p q = rw (p, q) (in_head x [])

-- the next element is added
pub of_next : (t : Table) (location : AbsPlace) (elements : ℕ → Bool) (from number : ℕ) (first before after : List Fact) → IsNext elements from number → after ≡ before ++ named_fact (Some location) (slice_get t.elements number) → Adds (IsOfBelow t location elements from) first before
    → Adds (IsOfBelow t location elements (number + 1)) first after
of_next t location elements from number first before after next is so_far x = (
  λ h.
      elim (Contains-append_cases before (named_fact (Some location) (slice_get t.elements number)) x (subst (λ (xs : List Fact). Contains xs x) is h)) [
        | inl was ↦ elim ((so_far x).0 was) [
          | inl old ↦ inl old
          | inr below ↦ inr (below.0, (below.1.0, (omega (arith, below.1.1.0, next.reached), below.1.1.1)))
        ]
        | inr new ↦ let n = named_from location (slice_get t.elements number) x new in inr (n.0, (number, (omega arith, (n.1, next.held))))
      ],
  λ h.
      subst (λ (xs : List Fact). Contains xs x) (sym is)
      (elim h [
        | inl old ↦ Contains-append_left before _ x ((so_far x).1 (inl old))
        | inr below ↦ elim (cases_lt below.1.0 from) [
          | inl early ↦ Contains-append_left before _ x ((so_far x).1 (inr (below.0, (below.1.0, (early, below.1.1.1)))))
          | inr late ↦ elim (cases_lt below.1.0 number) [
            | inl between ↦ absurd (true≢false (sym below.1.1.1.1 ∙ next.between below.1.0 late between))
            | inr there ↦
                let here : below.1.0 ≡ number = omega (arith, there, below.1.1.0) in
                Contains-append_right before (named_fact (Some location) (slice_get t.elements number)) x
                (named_into location (slice_get t.elements number) x below.0 (subst (λ (n : ℕ). slice_get t.elements n ≡ Some x.element) here below.1.1.1.0))
          ]
        ]
      ]),
)

-- no element is left
pub of_all : (t : Table) (location : AbsPlace) (elements : ℕ → Bool) (from : ℕ) (first after : List Fact) → ((n : ℕ) → from ≤ n → elements n ≡ false) → Adds (IsOfBelow t location elements from) first after → Adds (IsOfElements t location elements) first after
of_all t location elements from first after none so_far x = (
  λ h. elim ((so_far x).0 h) [ inl old ↦ inl old | inr below ↦ inr (below.0, (below.1.0, below.1.1.1)) ],
  λ h.
      elim h [
        | inl old ↦ (so_far x).1 (inl old)
        | inr of ↦ elim (cases_lt of.1.0 from) [
          | inl early ↦ (so_far x).1 (inr (of.0, (of.1.0, (early, of.1.1))))
          | inr late ↦ absurd (true≢false (sym of.1.1.1 ∙ none of.1.0 late))
        ]
      ],
)

-- .. as its set has none past its limit
pub of_past : (t : Table) (location : AbsPlace) (elements : Numbers) (from : ℕ) (first after : List Fact) → elements.limit ≤ from → Adds (IsOfBelow t location (holds elements) from) first after → Adds (IsOfElements t location (holds elements)) first after
of_past t location elements from first after past = of_all t location (holds elements) from first after (λ n late. false_from_ne_true (holds elements n) (λ held. omega (arith, past, late, held_below elements n held)))

-- ---- one location

module _ (types : Types) (f : Function) (spot : Spot) (t : Table) (has : ℕ → ℕ → Bool) (l : ℕ) where
  -- there is none with this number
  pub told_nowhere : (facts : List Fact) → slice_get t.locations l ≡ None → Adds (IsToldOf types f spot t has l) facts facts
  told_nowhere facts none x = (λ h. inl h, λ h. elim h [ inl was ↦ was | inr told ↦ absurd (nothing (sym none ∙ told.0.1.0.0)) ])
    where
      nothing : {A : Type 0} {y : A} → None ≡ Some y → ⊥
      nothing h = cc

  -- it isn't told
  pub told_not : (location : AbsPlace) (facts : List Fact) → slice_get t.locations l ≡ Some location → spot_tells types f (Some spot) location ≡ false → Adds (IsToldOf types f spot t has l) facts facts
  told_not location facts at not_told x = (
    λ h. inl h,
    λ h.
        elim h [
          | inl was ↦ was
          | inr told ↦ absurd (true≢false (sym told.1 ∙ ap (spot_tells types f (Some spot)) (sym (same_Some location x.location (sym at ∙ told.0.1.0.0))) ∙ not_told))
        ],
  )

  -- it is told
  pub told_here : (location : AbsPlace) (elements : ℕ → Bool) (before after : List Fact) → slice_get t.locations l ≡ Some location → IsTrue (spot_tells types f (Some spot) location) → ((e : ℕ) → elements e ≡ has l e) → Adds (IsOfElements t location elements) before after
      → Adds (IsToldOf types f spot t has l) before after
  told_here location elements before after at told read added x = (
    λ h.
        elim ((added x).0 h) [
          | inl was ↦ inl was
          | inr of ↦ inr ((of.1.0, ((at ∙ ap (λ (p : AbsPlace). Some p) of.0, of.1.1.0), sym (read of.1.0) ∙ of.1.1.1)), subst (λ (p : AbsPlace). IsTrue (spot_tells types f (Some spot) p)) of.0 told)
        ],
    λ h.
        (added x).1 (elim h [
          | inl was ↦ inl was
          | inr of ↦ inr (same_Some location x.location (sym at ∙ of.0.1.0.0), (of.0.0, (of.0.1.0.1, read of.0.0 ∙ of.0.1.1)))
        ]),
  )

-- ---- one location after the other

module _ (types : Types) (f : Function) (spot : Spot) (t : Table) (has : ℕ → ℕ → Bool) where
  -- the facts about the locations with numbers below this one
  abbrev pub AreToldBelow : ℕ → List Fact → Type 0
  AreToldBelow n facts = (x : Fact) → Contains facts x ↔ ((l : ℕ) × ((l < n) × IsToldOf types f spot t has l x))

  pub told_none : AreToldBelow 0 []
  told_none x = (λ h. absurd (none_in_empty x h), λ h. absurd (omega (arith, h.1.0)))

  pub told_next : (n : ℕ) (before after : List Fact) → Adds (IsToldOf types f spot t has n) before after → AreToldBelow n before → AreToldBelow (n + 1) after
  told_next n before after added so_far x = (
    λ h.
        elim ((added x).0 h) [
          | inl was ↦ let b = (so_far x).0 was in (b.0, (omega (arith, b.1.0), b.1.1))
          | inr new ↦ (n, (omega arith, new))
        ],
    λ h.
        (added x).1 (elim (cases_eq h.0 n) [
          | inl here ↦ inr (subst (λ (l : ℕ). IsToldOf types f spot t has l x) here h.1.1)
          | inr other ↦ inl ((so_far x).1 (h.0, (omega (arith, h.1.0, other), h.1.1)))
        ]),
  )

  pub told_all : (n : ℕ) (facts : List Fact) → length t.locations ≤ n → AreToldBelow n facts → AreTold types f spot t has facts
  told_all n facts past so_far x = (
    λ h. let b = (so_far x).0 h in ((b.0, b.1.1.0), b.1.1.1),
    λ h. (so_far x).1 (h.0.0, (omega (arith, past, slice_get_within t.locations h.0.0 x.location h.0.1.1.0.0), (h.0.1, h.1))),
  )

  -- none where nothing is told
  pub untold_all : ((location : AbsPlace) → spot_tells types f (Some spot) location ≡ false) → AreTold types f spot t has []
  untold_all none x = (λ h. absurd (none_in_empty x h), λ h. absurd (true≢false (sym h.1 ∙ none x.location)))
