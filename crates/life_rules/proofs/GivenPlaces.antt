-- The places where what is given for an input may point, and tests of them.
use Rattle.std.proofs.Common.{◌≡◌, ◌⊎◌, ◌↔◌, ◌∙◌, ◌+◌, ◌<◌, ℕ, Bool, true, false, true≢false, cond, List, [], ◌∷◌, ◌++◌, Contains, get_or, length, take, inl, inr, refl, ap, subst, sym}
use Rattle.std.specs.Prelude.{◌&&◌, ◌||◌, IsTrue}
use Rattle.std.specs.List.{flat_map, list_any}
use Rattle.std.proofs.lemmas.Grind.{flat_map-append}
use Rattle.std.proofs.lemmas.List.{take_more}
use Rattle.std.proofs.lemmas.List.Elements.{Contains-append_cases, Contains-append_left, Contains-append_right}
use Rattle.life_pset.proofs.Numbers.{exact_place, place_laws}
use Rattle.life_pset.specs.Places.{overlap}
use Rattle.life_pset.specs.contracts.element.AbsPlacePartialEq.TheImpl.{ghosts as compared}
use Rattle.life_pset.specs.declared.element.AbsPlace.{AbsPlace}
use Rattle.life_pset.specs.declared.element.Fact.{Fact}
use Rattle.life_contract.specs.Targets.{Overlap}
use Rattle.life_rules.proofs.Giving.{at_head, cons_cases, in_tail, none_in_empty}
use Rattle.life_rules.specs.Given.{is_among, some_overlap, AddsPlaces}

-- ---- tests

pub both_true : (a b : Bool) → (a && b) ≡ true → (a ≡ true) × (b ≡ true)
both_true true b h = (refl, h)
both_true false b h = absurd (true≢false (sym h))

pub true_and : (a b : Bool) → a ≡ true → b ≡ true → (a && b) ≡ true
true_and a b h k = rw (h, k) refl

-- what is in the arm of a test
pub in_arm : {A : Type 0} (b : Bool) (xs : List A) (x : A) → Contains (cond b xs []) x → (b ≡ true) × Contains xs x
in_arm true xs x h = (refl, h)
in_arm false xs x h = absurd (none_in_empty x h)

pub into_arm : {A : Type 0} (b : Bool) (xs : List A) (x : A) → b ≡ true → Contains xs x → Contains (cond b xs []) x
into_arm true xs x h k = k
into_arm false xs x h k = absurd (true≢false (sym h))

-- ---- lists

known : (b : Bool) → (b ≡ true) ⊎ (b ≡ false)
known true = inl refl
known false = inr refl

pub any_from : {A : Type 0} (test : A → Bool) (xs : List A) → list_any test xs ≡ true → (x : A) × (Contains xs x × (test x ≡ true))
any_from test [] h = absurd (true≢false (sym h))
any_from test (y ∷ ys) h =
    elim (known (test y)) [
      | inl passes ↦ (y, (at_head y ys, passes))
      | inr fails ↦ let more = any_from test ys (sym (ap (λ (b : Bool). b || list_any test ys) fails) ∙ h) in (more.0, (in_tail y ys more.0 more.1.0, more.1.1))
    ]

or_more : (a b : Bool) → b ≡ true → (a || b) ≡ true
or_more true b h = refl
or_more false b h = h

pub any_into : {A : Type 0} (test : A → Bool) (xs : List A) (x : A) → Contains xs x → test x ≡ true → list_any test xs ≡ true
any_into test [] x h k = absurd (none_in_empty x h)
any_into test (y ∷ ys) x h k =
    elim (cons_cases y ys x h) [
      | inl is ↦ ap (λ (b : Bool). b || list_any test ys) (ap test is ∙ k)
      | inr more ↦ or_more (test y) (list_any test ys) (any_into test ys x more k)
    ]

-- ---- tests of places

same_test : (a b : Bool) → (a ≡ true → b ≡ true) → (b ≡ true → a ≡ true) → a ≡ b
same_test true b h k = sym (h refl)
same_test false true h k = k refl
same_test false false h k = refl

pub among_is : (b : Bool) (places : List AbsPlace) (p : AbsPlace) → IsTrue b ↔ Contains places p → b ≡ is_among places p
among_is b places p is =
    same_test b (is_among places p) (λ h. any_into (compared.eq p) places p (is.0 h) (place_laws.refl p))
    (λ h.
    let q = any_from (compared.eq p) places h in
    is.1 (subst (λ (x : AbsPlace). Contains places x) (sym (exact_place p q.0 q.1.1)) q.1.0))

pub overlap_from : (these those : List AbsPlace) → some_overlap these those ≡ true → Overlap these those
overlap_from these those h =
    let p = any_from (λ a. list_any (overlap a) those) these h in
    let q = any_from (overlap p.0) those p.1.1 in
    (p.0, (q.0, (p.1.0, (q.1.0, q.1.1))))

pub overlap_into : (these those : List AbsPlace) → Overlap these those → some_overlap these those ≡ true
overlap_into these those h = any_into (λ a. list_any (overlap a) those) these h.0 h.1.1.0 (any_into (overlap h.0) those h.1.0 h.1.1.1.0 h.1.1.1.1)

pub overlap_is : (b : Bool) (these those : List AbsPlace) → IsTrue b ↔ Overlap these those → b ≡ some_overlap these those
overlap_is b these those is = same_test b (some_overlap these those) (λ h. overlap_into these those (is.0 h)) (λ h. is.1 (overlap_from these those h))

-- ---- places that are added

pub one_place : (p : AbsPlace) (before after : List AbsPlace) → ((q : AbsPlace) → Contains after q ↔ (Contains before q ⊎ (q ≡ p))) → AddsPlaces (p ∷ []) before after
one_place p before after added q = (
  λ h. elim ((added q).0 h) [ inl was ↦ inl was | inr is ↦ inr (subst (λ (x : AbsPlace). Contains (p ∷ []) x) (sym is) (at_head p [])) ],
  λ h.
      (added q).1 (elim h [
        | inl was ↦ inl was
        | inr one ↦ elim (cons_cases p [] q one) [ inl is ↦ inr (sym is) | inr none ↦ absurd (none_in_empty q none) ]
      ]),
)

pub no_place : (places : List AbsPlace) → places ≡ [] → AddsPlaces [] [] places
no_place places is q = (
  λ h. inl (subst (λ (ps : List AbsPlace). Contains ps q) is h),
  λ h. elim h [ inl none ↦ absurd (none_in_empty q none) | inr none ↦ absurd (none_in_empty q none) ],
)

-- those of one fact more
pub places_more : (g : Fact → List AbsPlace) (facts : List Fact) (k : ℕ) (x : Fact) (before after : List AbsPlace) → k < length facts → AddsPlaces (g (get_or facts k x)) before after → AddsPlaces (flat_map g (take k facts)) [] before
    → AddsPlaces (flat_map g (take (k + 1) facts)) [] after
places_more g facts k x before after within added so_far =
    subst (λ (xs : List Fact). AddsPlaces (flat_map g xs) [] after) (sym (take_more facts k x within))
    (subst (λ (ps : List AbsPlace). AddsPlaces ps [] after) (sym (flat_map-append g (take k facts) (get_or facts k x ∷ []))) (joined (flat_map g (take k facts)) (g (get_or facts k x)) added so_far))
  where
    joined : (first more : List AbsPlace) → AddsPlaces more before after → AddsPlaces first [] before → AddsPlaces (first ++ (more ++ [])) [] after
    joined first more second one q = (
      λ h.
          elim ((second q).0 h) [
            | inl earlier ↦ elim ((one q).0 earlier) [ inl none ↦ inl none | inr was ↦ inr (Contains-append_left first (more ++ []) q was) ]
            | inr new ↦ inr (Contains-append_right first (more ++ []) q (Contains-append_left more [] q new))
          ],
      λ h.
          (second q).1 (elim h [
            | inl none ↦ absurd (none_in_empty q none)
            | inr some ↦ elim (Contains-append_cases first (more ++ []) q some) [
              | inl was ↦ inl ((one q).1 (inr was))
              | inr new ↦ elim (Contains-append_cases more [] q new) [ inl here ↦ inr here | inr none ↦ absurd (none_in_empty q none) ]
            ]
          ]),
    )
