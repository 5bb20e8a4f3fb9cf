-- Where nothing comes of facts but each fact itself.
use Rattle.std.proofs.Common.{◌≡◌, ◌≢◌, ◌<◌, ◌+◌, ◌||◌, ℕ, Bool, false, List, [], length, Some, inl, inr, ap, refl, sym, ◌∙◌, subst, arith, nat_eq}
use Rattle.std.proofs.lemmas.Bool.{and_from, and_parts, both_ways, cases_Bool, eq-eqb, eqb-true, or_left}
use Rattle.std.proofs.lemmas.Option.{slice_get_within}
use Rattle.std.specs.Prelude.{Contains, IsTrue, slice_get}
use Rattle.life_pset.specs.TableInvariant.{HasOneNumber}
use Rattle.life_pset.specs.declared.element.Fact.{Fact}
use Rattle.life_pset.proofs.Members.{cons_cases, in_head, none_in_empty}
use Rattle.life_core.specs.Function.{function_of}
use Rattle.life_sets.specs.Pairs.{pairs_from, IsBetween}
use Rattle.life_rules.specs.FactSets.{CarriesPair, GainsSome}
use Rattle.life_rules.specs.Matching.{fact_at}
use Rattle.life_plan.specs.Carried.{AreKept}
use Rattle.life_plan.specs.Crossing.{Crosses, Crossing, IsContext, crossing_in}
use Rattle.life_plan.specs.Numbered.{IsAmong, IsAmongAt}
use Rattle.life_plan.specs.Still.{IsStill}
use Rattle.life_plan.specs.declared.context.EdgeContext.{EdgeContext}
use Rattle.life_plan.proofs.Crossings.{crosses_carries, crossing_is}
use Rattle.life_plan.proofs.Growing.{some_as}
use Rattle.life_plan.proofs.Naming.{at_number}

-- each pair of the table's limits is carried
pub whole_crosses : (c : Crossing) → IsStill c → (from : ℕ → ℕ → Bool) (l m : ℕ) → IsAmong (length c.table.locations) (length c.table.elements) from l m → Crosses c from l m
whole_crosses c still from l m h =
    let a = at_number c.table.locations l h.0 in
    let e = at_number c.table.elements m h.1.0 in
    let x = fact_at a.0 e.0 in
    inr (inl (x, ((l, (m, ((a.1, e.1), h.1.1))), (x, ((a.1, e.1), subst (λ (xs : List Fact). Contains xs x) (sym (still.one x l a.1)) (in_head x []))))))

-- where nothing is due, all that comes of the first set is in the second
pub whole_settled : (c : Crossing) → HasOneNumber c.table.locations → HasOneNumber c.table.elements → (due : ℕ → Bool) (from into : ℕ → ℕ → Bool) → AreKept c due from into → ((l : ℕ) → due l ≡ false) → (l m : ℕ) → Crosses c from l m → IsTrue (into l m)
whole_settled c one_location one_element due from into are none l m h =
    elim h [
      | inl new ↦ absurd (none_in_empty new.0 (subst (λ (xs : List Fact). Contains xs new.0) are.still.none new.1.1))
      | inr some ↦ elim some [
        | inl one ↦
            let x = one.0 in
            let y = one.1.1.0 in
            let named = one.1.1.1.0 in
            let k = one.1.0.0 in
            let e = one.1.0.1.0 in
            elim (cons_cases x [] y (subst (λ (xs : List Fact). Contains xs y) (are.still.one x k one.1.0.1.1.0.0) one.1.1.1.1)) [
              | inl is ↦
                  let at : k ≡ l = one_location k l x.location one.1.0.1.1.0.0 (named.0 ∙ ap (λ (z : Fact). Some z.location) (sym is)) in
                  let to : e ≡ m = one_element e m x.element one.1.0.1.1.0.1 (named.1 ∙ ap (λ (z : Fact). Some z.element) (sym is)) in
                  subst (λ (n : ℕ). IsTrue (into n m)) at (subst (λ (n : ℕ). IsTrue (into k n)) to (are.kept k e (none k) (within k x one.1.0.1.1.0.0) one.1.0.1.1.1))
              | inr there ↦ absurd (none_in_empty y there)
            ]
        | inr two ↦ absurd (none_in_empty two.1.1.1.1.0 (subst (λ (xs : List Fact). Contains xs two.1.1.1.1.0) (are.still.two two.0 two.1.0) two.1.1.1.1.1.1))
      ]
    ]
  where
    within : (k : ℕ) (x : Fact) → slice_get c.table.locations k ≡ Some x.location → k < length c.table.locations
    within k x at = slice_get_within c.table.locations k x.location at

-- ---- location after location

module _ (locations elements : ℕ) (due : ℕ → Bool) (from a b : ℕ → ℕ → Bool) (i : ℕ) (was : (n m : ℕ) → n < i → IsTrue (due n) → IsTrue (from n m) → IsTrue (a n m)) (grown : (n m : ℕ) → IsTrue (a n m) → IsTrue (b n m)) where
  pub whole_more : ((m : ℕ) → IsTrue (from i m) → IsTrue (b i m)) → (n m : ℕ) → n < i + 1 → IsTrue (due n) → IsTrue (from n m) → IsTrue (b n m)
  whole_more now n m lt here h =
      elim (cases_Bool (nat_eq n i)) [
        | inl same ↦ let is = eqb-true n i same in subst (λ (q : ℕ). IsTrue (b q m)) (sym is) (now m (subst (λ (q : ℕ). IsTrue (from q m)) is h))
        | inr other ↦ let ne : n ≢ i = λ e. both_ways (nat_eq n i) other (eq-eqb n i e) in grown n m (was n m (omega (arith, lt, ne)) here h)
      ]

  pub whole_past : due i ≡ false → (n m : ℕ) → n < i + 1 → IsTrue (due n) → IsTrue (from n m) → IsTrue (a n m)
  whole_past not_due n m lt here h =
      elim (cases_Bool (nat_eq n i)) [
        | inl same ↦ absurd (both_ways (due n) (subst (λ (q : ℕ). due q ≡ false) (sym (eqb-true n i same)) not_due) here)
        | inr other ↦ let ne : n ≢ i = λ e. both_ways (nat_eq n i) other (eq-eqb n i e) in was n m (omega (arith, lt, ne)) here h
      ]

-- ---- one location

module _ (locations elements : ℕ) (from : ℕ → ℕ → Bool) (l : ℕ) (in_l : l < locations) (within : (e : ℕ) → IsTrue (from l e) → e < elements) where
  pub among_between : (a b : ℕ → ℕ → Bool) → IsBetween (pairs_from from l) a b → GainsSome a b (IsAmongAt l locations elements from)
  among_between a b between n m = ((between n m).0, λ h. elim ((between n m).1 h) [ inl was ↦ inl was | inr new ↦ inr (at n m new) ])
    where
      at : (n m : ℕ) → IsTrue (pairs_from from l n m) → IsAmongAt l locations elements from n m
      at n m h =
          let p = and_parts (nat_eq n l) (from l m) h in
          let is = eqb-true n l p.0 in
          (is, subst (λ (q : ℕ). IsAmong locations elements from q m) (sym is) (in_l, (within m p.1, p.1)))

pub among_joined : (from : ℕ → ℕ → Bool) (l : ℕ) (a b : ℕ → ℕ → Bool) → ((n m : ℕ) → b n m ≡ (pairs_from from l n m || a n m)) → (m : ℕ) → IsTrue (from l m) → IsTrue (b l m)
among_joined from l a b joined m h = joined l m ∙ or_left (pairs_from from l l m) (a l m) (and_from (nat_eq l l) (from l m) (eq-eqb l l refl) h)

-- ---- what is kept is carried

pub whole_carried : (x : EdgeContext) → IsContext x → IsStill (crossing_in x) → (locations elements : ℕ) → locations ≡ length x.table.now.locations → elements ≡ length x.table.now.elements → (from a b : ℕ → ℕ → Bool)
    → GainsSome a b (IsAmong locations elements from) → GainsSome a b (CarriesPair x.sigs.now x.types.now (function_of x.f.now) x.edge from)
whole_carried x is still locations elements ls es from a b some =
    some_as a b (IsAmong locations elements from) (CarriesPair x.sigs.now x.types.now (function_of x.f.now) x.edge from) (λ l m h.
    crosses_carries x.sigs.now x.types.now (function_of x.f.now) x.edge from l m (subst (λ (c : Crossing). Crosses c from l m) (crossing_is x is)
    (whole_crosses (crossing_in x) still from l m (subst (λ (n : ℕ). l < n) ls h.0, (subst (λ (n : ℕ). m < n) es h.1.0, h.1.1))))) some
