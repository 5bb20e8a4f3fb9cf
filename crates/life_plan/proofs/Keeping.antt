-- What is kept at a location, by whole sets.
use Rattle.std.proofs.Common.{◌≡◌, ◌≢◌, ◌<◌, ◌≤◌, ◌+◌, ℕ, Bool, true, false, List, length, Option, Some, None, inl, inr, ◌⊎◌, ◌↔◌, refl, ap, sym, ◌∙◌, subst, arith, nat_eq, not, ◌&&◌, ◌||◌}
use Rattle.std.proofs.lemmas.Bool.{and_from, and_parts, both_ways, cases_Bool, eq-eqb, eqb-true, not-true, not_from_false, or_cases, or_left, or_right}
use Rattle.std.proofs.lemmas.Option.{slice_get_within}
use Rattle.std.specs.Prelude.{IsTrue, slice_get}
use Rattle.life_sets.specs.NumberSets.{HasCommon, Numbers, holds, pairs_at}
use Rattle.life_sets.specs.Pairs.{HasNew, IsBetween}
use Rattle.life_rules.specs.FactSets.{GainsSome}
use Rattle.life_plan.specs.Noted.{Notes}
use Rattle.life_plan.specs.Numbered.{Becomes, IsChangedBy, KeepsFrom, LeadsTo}
use Rattle.life_plan.specs.Tabulated.{Gathers}
use Rattle.life_plan.specs.declared.marking.Marking.{Marking}
use Rattle.life_plan.specs.declared.staying.Becoming.{Becoming}
use Rattle.life_plan.specs.declared.staying.Staying.{Staying}
use Rattle.life_plan.proofs.Naming.{holds_within, same_item}

-- ---- what elements lead to

or_none : (x y : Bool) → y ≡ false → (x || y) ≡ x
or_none true y h = refl
or_none false y h = h

pub stayed : (before none added after gone : ℕ → Bool) → ((m : ℕ) → none m ≡ false) → ((m : ℕ) → added m ≡ (before m || none m)) → ((m : ℕ) → after m ≡ (added m && not (gone m))) → (m : ℕ) → after m ≡ (before m && not (gone m))
stayed before none added after gone empty more left m = left m ∙ ap (λ (x : Bool). x && not (gone m)) (more m ∙ or_none (before m) (none m) (empty m))

-- one change
pub changed_by : (changes : List Becoming) (elements : ℕ → Bool) (i : ℕ) (b : Becoming) (test : Bool) (x y : ℕ → Bool) → slice_get changes i ≡ Some b → IsTrue test ↔ HasCommon elements (holds b.from) → ((n : ℕ) → y n ≡ ((test && nat_eq n b.element) || x n))
    → (n : ℕ) → IsTrue (y n) ↔ (IsTrue (x n) ⊎ IsChangedBy changes elements i n)
changed_by changes elements i b test x y at tells more n = (
  λ h.
      elim (or_cases (test && nat_eq n b.element) (x n) (sym (more n) ∙ h)) [
        | inl new ↦ let p = and_parts test (nat_eq n b.element) new in inr (b, (at, (sym (eqb-true n b.element p.1), tells.0 p.0)))
        | inr old ↦ inl old
      ],
  λ h.
      elim h [
        | inl old ↦ more n ∙ or_right (test && nat_eq n b.element) (x n) old
        | inr new ↦
            let is : new.0 ≡ b = same_item (slice_get changes i) new.0 b new.1.0 at in
            let common = subst (λ (c : Becoming). HasCommon elements (holds c.from)) is new.1.1.1 in
            let to : n ≡ b.element = sym new.1.1.0 ∙ ap (λ (c : Becoming). c.element) is in
            more n ∙ or_left (test && nat_eq n b.element) (x n) (and_from test (nat_eq n b.element) (tells.1 common) (eq-eqb n b.element to))
      ],
)

-- .. and all of them
pub changed_all : (changes : List Becoming) (elements : ℕ → Bool) (i : ℕ) (x y : ℕ → Bool) → length changes ≤ i → Gathers (IsChangedBy changes elements) i x y
    → (m : ℕ) → IsTrue (y m) ↔ (IsTrue (x m) ⊎ ((e : ℕ) × (IsTrue (elements e) × Becomes changes e m)))
changed_all changes elements i x y past was m = (
  λ h.
      elim ((was m).0 h) [
        | inl old ↦ inl old
        | inr new ↦ let c = new.1.1 in inr (c.1.1.1.0, (c.1.1.1.1.0, (new.0, (c.0, (c.1.0, (c.1.1.0, c.1.1.1.1.1))))))
      ],
  λ h.
      elim h [
        | inl old ↦ (was m).1 (inl old)
        | inr new ↦
            let b = new.1.1 in
            let lt : b.0 < length changes = slice_get_within changes b.0 b.1.0 b.1.1.0 in
            (was m).1 (inr (b.0, (omega (arith, lt, past), (b.1.0, (b.1.1.0, (b.1.1.1.0, (new.0, (new.1.0, b.1.1.1.1))))))))
      ],
)

-- the mark
pub marked_by : (elements mask : ℕ → Bool) (mark : Option ℕ) (n : ℕ) (test : Bool) (x y : ℕ → Bool) → mark ≡ Some n → IsTrue test ↔ HasCommon elements mask → ((m : ℕ) → y m ≡ ((test && nat_eq m n) || x m))
    → (m : ℕ) → IsTrue (y m) ↔ (IsTrue (x m) ⊎ ((e : ℕ) × (IsTrue (elements e) × (IsTrue (mask e) × (mark ≡ Some m)))))
marked_by elements mask mark n test x y is tells more m = (
  λ h.
      elim (or_cases (test && nat_eq m n) (x m) (sym (more m) ∙ h)) [
        | inl new ↦
            let p = and_parts test (nat_eq m n) new in
            let e = tells.0 p.0 in
            inr (e.0, (e.1.0, (e.1.1, is ∙ ap Some (sym (eqb-true m n p.1)))))
        | inr old ↦ inl old
      ],
  λ h.
      elim h [
        | inl old ↦ more m ∙ or_right (test && nat_eq m n) (x m) old
        | inr new ↦
            let to : m ≡ n = same_item mark m n new.1.1.1 is in
            more m ∙ or_left (test && nat_eq m n) (x m) (and_from test (nat_eq m n) (tells.1 (new.0, (new.1.0, new.1.1.0))) (eq-eqb m n to))
      ],
)

pub marked_not : (elements mask : ℕ → Bool) (mark : Option ℕ) (x : ℕ → Bool) → mark ≡ None → (m : ℕ) → IsTrue (x m) ↔ (IsTrue (x m) ⊎ ((e : ℕ) × (IsTrue (elements e) × (IsTrue (mask e) × (mark ≡ Some m)))))
marked_not elements mask mark x is m = (λ h. inl h, λ h. elim h [ inl old ↦ old | inr new ↦ absurd (none_is (sym is ∙ new.1.1.1)) ])
  where
    none_is : None ≡ Some m → ⊥
    none_is h = cc

-- one after the other
pub leads : (s : Staying) (k : Marking) (before first second third : ℕ → Bool) (changes : List Becoming) → changes ≡ s.becoming.items
    → ((m : ℕ) → first m ≡ (before m && not (holds s.gone m)))
    → ((m : ℕ) → IsTrue (second m) ↔ (IsTrue (first m) ⊎ ((e : ℕ) × (IsTrue (before e) × Becomes changes e m))))
    → ((m : ℕ) → IsTrue (third m) ↔ (IsTrue (second m) ⊎ ((e : ℕ) × (IsTrue (before e) × (IsTrue (holds k.mask e) × (k.mark ≡ Some m))))))
    → (m : ℕ) → IsTrue (third m) ↔ ((e : ℕ) × (IsTrue (before e) × LeadsTo s k e m))
leads s k before first second third changes is stay change mark m = (
  λ h.
      elim ((mark m).0 h) [
        | inl unmarked ↦ elim ((change m).0 unmarked) [
          | inl same ↦
              let p = and_parts (before m) (not (holds s.gone m)) (sym (stay m) ∙ same) in
              (m, (p.0, inl (inl (refl, not-true (holds s.gone m) p.1))))
          | inr new ↦ (new.0, (new.1.0, inl (inr (subst (λ (xs : List Becoming). Becomes xs new.0 m) is new.1.1))))
        ]
        | inr new ↦ (new.0, (new.1.0, inr new.1.1))
      ],
  λ h. back h.0 h.1.0 h.1.1,
)
  where
    back : (e : ℕ) → IsTrue (before e) → LeadsTo s k e m → IsTrue (third m)
    back e held (inl (inl p)) =
        let here : before m ≡ true = subst (λ (n : ℕ). before n ≡ true) p.0 held in
        let kept : holds s.gone m ≡ false = subst (λ (n : ℕ). holds s.gone n ≡ false) p.0 p.1 in
        (mark m).1 (inl ((change m).1 (inl (stay m ∙ and_from (before m) (not (holds s.gone m)) here (not_from_false (holds s.gone m) kept)))))
    back e held (inl (inr b)) = (mark m).1 (inl ((change m).1 (inr (e, (held, subst (λ (xs : List Becoming). Becomes xs e m) (sym is) b)))))
    back e held (inr p) = (mark m).1 (inr (e, (held, p)))

-- ---- joined at a location

module _ (s : Staying) (k : Marking) (locations elements : ℕ) (from : ℕ → ℕ → Bool) (l : ℕ) (before after : Numbers) (within : l < locations) (limit : before.limit ≡ elements) (kept : holds s.written l ≡ false)
    (read : (e : ℕ) → holds before e ≡ from l e) (leads_to : (m : ℕ) → IsTrue (holds after m) ↔ ((e : ℕ) × (IsTrue (holds before e) × LeadsTo s k e m))) where
  kept_pair : (n m : ℕ) → IsTrue (pairs_at l after n m) → KeepsFrom s k locations elements from n m
  kept_pair n m h =
      let p = and_parts (nat_eq n l) (holds after m) h in
      let e = (leads_to m).0 p.1 in
      subst (λ (q : ℕ). KeepsFrom s k locations elements from q m) (sym (eqb-true n l p.0))
      (within, (kept, (e.0, (subst (λ (q : ℕ). e.0 < q) limit (holds_within before e.0 e.1.0), (sym (read e.0) ∙ e.1.0, e.1.1)))))

  pub kept_between : (a b : ℕ → ℕ → Bool) → IsBetween (pairs_at l after) a b → GainsSome a b (KeepsFrom s k locations elements from)
  kept_between a b between n m = ((between n m).0, λ h. elim ((between n m).1 h) [ inl was ↦ inl was | inr new ↦ inr (kept_pair n m new) ])

  pub kept_joined : (a b : ℕ → ℕ → Bool) → ((n m : ℕ) → b n m ≡ (pairs_at l after n m || a n m)) → (m : ℕ) → KeepsFrom s k locations elements from l m → IsTrue (b l m)
  kept_joined a b joined m h =
      let e = h.1.1.0 in
      let there = (leads_to m).1 (e, (read e ∙ h.1.1.1.1.0, h.1.1.1.1.1)) in
      joined l m ∙ or_left (pairs_at l after l m) (a l m) (and_from (nat_eq l l) (holds after m) (eq-eqb l l refl) there)

-- a location at which a row gained a pair is noted
pub notes_joined : (l : ℕ) (test : ℕ → Bool) (a b : ℕ → ℕ → Bool) (g h : ℕ → Bool) (fresh : Bool) → ((n m : ℕ) → b n m ≡ ((nat_eq n l && test m) || a n m)) → IsTrue fresh ↔ HasNew a b → ((n : ℕ) → h n ≡ ((fresh && nat_eq n l) || g n)) → Notes a b g h
notes_joined l test a b g h fresh joined tells noted n = (to, back)
  where
    -- a new pair is at the location
    here : (p m : ℕ) → a p m ≡ false → b p m ≡ true → p ≡ l
    here p m old new =
        elim (or_cases (nat_eq p l && test m) (a p m) (sym (joined p m) ∙ new)) [
          | inl at ↦ eqb-true p l (and_parts (nat_eq p l) (test m) at).0
          | inr was ↦ absurd (both_ways (a p m) old was)
        ]

    to : IsTrue (h n) → IsTrue (g n) ⊎ ((e : ℕ) × ((a n e ≡ false) × (b n e ≡ true)))
    to t =
        elim (or_cases (fresh && nat_eq n l) (g n) (sym (noted n) ∙ t)) [
          | inl new ↦
              let p = and_parts fresh (nat_eq n l) new in
              let found = tells.0 p.0 in
              let at : found.0 ≡ n = here found.0 found.1.0 found.1.1.0 found.1.1.1 ∙ sym (eqb-true n l p.1) in
              inr (found.1.0, (subst (λ (q : ℕ). a q found.1.0 ≡ false) at found.1.1.0, subst (λ (q : ℕ). b q found.1.0 ≡ true) at found.1.1.1))
          | inr was ↦ inl was
        ]

    back : IsTrue (g n) ⊎ ((e : ℕ) × ((a n e ≡ false) × (b n e ≡ true))) → IsTrue (h n)
    back (inl was) = noted n ∙ or_right (fresh && nat_eq n l) (g n) was
    back (inr new) = noted n ∙ or_left (fresh && nat_eq n l) (g n) (and_from fresh (nat_eq n l) (tells.1 (n, (new.0, new.1))) (eq-eqb n l (here n new.0 new.1.0 new.1.1)))

-- what is written isn't kept
pub written_not : (s : Staying) (k : Marking) (locations elements : ℕ) (from into : ℕ → ℕ → Bool) (l : ℕ) → holds s.written l ≡ true → (m : ℕ) → KeepsFrom s k locations elements from l m → IsTrue (into l m)
written_not s k locations elements from into l is m h = absurd (both_ways (holds s.written l) h.1.0 is)

-- ---- location after location

module _ (locations elements : ℕ) (s : Staying) (k : Marking) (all : Bool) (due : ℕ → Bool) (from a b : ℕ → ℕ → Bool) (i : ℕ) (was : (n m : ℕ) → n < i → IsTrue (all || due n) → KeepsFrom s k locations elements from n m → IsTrue (a n m)) (grown : (n m : ℕ) → IsTrue (a n m) → IsTrue (b n m)) where
  pub kept_more : ((m : ℕ) → KeepsFrom s k locations elements from i m → IsTrue (b i m)) → (n m : ℕ) → n < i + 1 → IsTrue (all || due n) → KeepsFrom s k locations elements from n m → IsTrue (b n m)
  kept_more now n m lt here h =
      elim (cases_Bool (nat_eq n i)) [
        | inl same ↦ let is = eqb-true n i same in subst (λ (q : ℕ). IsTrue (b q m)) (sym is) (now m (subst (λ (q : ℕ). KeepsFrom s k locations elements from q m) is h))
        | inr other ↦ let ne : n ≢ i = λ e. both_ways (nat_eq n i) other (eq-eqb n i e) in grown n m (was n m (omega (arith, lt, ne)) here h)
      ]

  pub kept_past : (all || due i) ≡ false → (n m : ℕ) → n < i + 1 → IsTrue (all || due n) → KeepsFrom s k locations elements from n m → IsTrue (a n m)
  kept_past not_due n m lt here h =
      elim (cases_Bool (nat_eq n i)) [
        | inl same ↦ absurd (both_ways (all || due n) (subst (λ (q : ℕ). (all || due q) ≡ false) (sym (eqb-true n i same)) not_due) here)
        | inr other ↦ let ne : n ≢ i = λ e. both_ways (nat_eq n i) other (eq-eqb n i e) in was n m (omega (arith, lt, ne)) here h
      ]
