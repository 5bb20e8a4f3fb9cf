-- Targets that are seen one location after the other.
use Rattle.std.proofs.Common.{◌≡◌, ◌≢◌, ◌<◌, ◌≤◌, ◌+◌, ℕ, Bool, true, false, Option, Some, None, inl, inr, ◌⊎◌, ◌↔◌, refl, ap, sym, ◌∙◌, subst, arith, nat_eq, nat_le, not, ◌&&◌, ◌||◌}
use Rattle.std.proofs.lemmas.Bool.{and_from, and_parts, both_ways, cases_Bool, eq-eqb, eqb-true, le-leb, leb-true, false_from_ne_true, not-true, not_from_false, or_cases, or_left, or_right}
use Rattle.std.specs.Prelude.{IsTrue, slice_get}
use Rattle.life_pset.specs.declared.element.Element.{Element}
use Rattle.life_sets.specs.NumberSets.{HasCommon, Numbers, holds}
use Rattle.life_rules.specs.Staying.{marks}
use Rattle.life_plan.specs.Carried.{AreSeen, due_from, none_due}
use Rattle.life_plan.specs.Crossing.{Crossing}
use Rattle.life_plan.specs.Numbered.{IsMarked, IsNew, MarksNumber, passes}
use Rattle.life_plan.specs.Tabulated.{Gathers}
use Rattle.life_plan.specs.declared.marking.Marking.{Marking}
use Rattle.life_plan.proofs.Naming.{holds_within, same_item}

-- ---- what one target marks

passed : {A : Type 0} (test : A → Bool) (o : Option A) → IsTrue (passes test o) → (x : A) × ((o ≡ Some x) × IsTrue (test x))
passed test None h = absurd (both_ways false refl h)
passed test (Some x) h = (x, (refl, h))

pub marks_passed : (c : Crossing) (d : ℕ) (target : Element) (a b : ℕ → Bool) → slice_get c.table.elements d ≡ Some target → ((e : ℕ) → b e ≡ (passes (marks c.spot target) (slice_get c.table.elements e) || a e))
    → (e : ℕ) → IsTrue (b e) ↔ (IsTrue (a e) ⊎ MarksNumber c d e)
marks_passed c d target a b at more e = (
  λ h.
      elim (or_cases (passes (marks c.spot target) (slice_get c.table.elements e)) (a e) (sym (more e) ∙ h)) [
        | inl new ↦ let p = passed (marks c.spot target) (slice_get c.table.elements e) new in inr (target, (p.0, (at, (p.1.0, p.1.1))))
        | inr was ↦ inl was
      ],
  λ h.
      elim h [
        | inl was ↦ more e ∙ or_right (passes (marks c.spot target) (slice_get c.table.elements e)) (a e) was
        | inr new ↦
            let is : new.0 ≡ target = same_item (slice_get c.table.elements d) new.0 target new.1.1.0 at in
            let there : passes (marks c.spot target) (slice_get c.table.elements e) ≡ true = ap (passes (marks c.spot target)) new.1.1.1.0 ∙ subst (λ (x : Element). marks c.spot x new.1.0 ≡ true) is new.1.1.1.1 in
            more e ∙ or_left (passes (marks c.spot target) (slice_get c.table.elements e)) (a e) there
      ],
)

-- a number that no element has marks none
pub marks_none : (c : Crossing) (d : ℕ) (a : ℕ → Bool) → slice_get c.table.elements d ≡ None → (e : ℕ) → IsTrue (a e) ↔ (IsTrue (a e) ⊎ MarksNumber c d e)
marks_none c d a at e = (λ h. inl h, λ h. elim h [ inl was ↦ was | inr new ↦ absurd (none_is new.0 (sym at ∙ new.1.1.0)) ])
  where
    none_is : (x : Element) → None ≡ Some x → ⊥
    none_is x h = cc

-- ---- what the targets of a set mark

-- one more that is in the set
pub marks_more : (c : Crossing) (targets : ℕ → Bool) (d : ℕ) (a b : ℕ → Bool) → IsTrue (targets d) → ((e : ℕ) → IsTrue (b e) ↔ (IsTrue (a e) ⊎ MarksNumber c d e)) → (e : ℕ) → IsTrue (b e) ↔ (IsTrue (a e) ⊎ (IsTrue (targets d) × MarksNumber c d e))
marks_more c targets d a b held more e = (
  λ h. elim ((more e).0 h) [ inl was ↦ inl was | inr new ↦ inr (held, new) ],
  λ h. elim h [ inl was ↦ (more e).1 (inl was) | inr new ↦ (more e).1 (inr new.1) ],
)

-- all of them
pub marks_all : (c : Crossing) (targets : Numbers) (i : ℕ) (a b : ℕ → Bool) → targets.limit ≤ i → Gathers (λ d e. IsTrue (holds targets d) × MarksNumber c d e) i a b → (e : ℕ) → IsTrue (b e) ↔ (IsTrue (a e) ⊎ ((d : ℕ) × (IsTrue (holds targets d) × MarksNumber c d e)))
marks_all c targets i a b past was e = (
  λ h. elim ((was e).0 h) [ inl early ↦ inl early | inr new ↦ inr (new.0, new.1.1) ],
  λ h.
      elim h [
        | inl early ↦ (was e).1 (inl early)
        | inr new ↦ let lt : new.0 < targets.limit = holds_within targets new.0 new.1.0 in (was e).1 (inr (new.0, (omega (arith, lt, past), new.1)))
      ],
)

-- ---- the targets at one location

module _ (seen from at new_ones : ℕ → Bool) (read : (e : ℕ) → at e ≡ from e) (left : (e : ℕ) → new_ones e ≡ (at e && not (seen e))) where
  is_new : (e : ℕ) → IsTrue (new_ones e) → (IsTrue (from e)) × (seen e ≡ false)
  is_new e h = let p = and_parts (at e) (not (seen e)) (sym (left e) ∙ h) in (sym (read e) ∙ p.0, not-true (seen e) p.1)

  new_is : (e : ℕ) → IsTrue (from e) → seen e ≡ false → IsTrue (new_ones e)
  new_is e held not_seen = left e ∙ and_from (at e) (not (seen e)) (read e ∙ held) (not_from_false (seen e) not_seen)

  pub seen_at : (now_seen : ℕ → Bool) → ((e : ℕ) → now_seen e ≡ (new_ones e || seen e)) → (e : ℕ) → now_seen e ≡ (from e || seen e)
  seen_at now_seen more e = more e ∙ ap (λ (x : Bool). x || seen e) (left e) ∙ ap (λ (x : Bool). (x && not (seen e)) || seen e) (read e) ∙ either (from e) (seen e)
    where
      either : (x y : Bool) → ((x && not y) || y) ≡ (x || y)
      either true true = refl
      either true false = refl
      either false true = refl
      either false false = refl

  pub marks_new : (c : Crossing) (a b : ℕ → Bool) → ((e : ℕ) → IsTrue (b e) ↔ (IsTrue (a e) ⊎ ((d : ℕ) × (IsTrue (new_ones d) × MarksNumber c d e)))) → (e : ℕ) → IsTrue (b e) ↔ (IsTrue (a e) ⊎ IsNew c seen from e)
  marks_new c a b more e = (
    λ h.
        elim ((more e).0 h) [
          | inl was ↦ inl was
          | inr new ↦ let p = is_new new.0 new.1.0 in inr (new.0, (p.1, (p.0, new.1.1)))
        ],
    λ h.
        elim h [
          | inl was ↦ (more e).1 (inl was)
          | inr new ↦ (more e).1 (inr (new.0, (new_is new.0 new.1.1.0 new.1.0, new.1.1.1)))
        ],
  )

-- ---- location after location

due_later : (q i : ℕ) (due : ℕ → Bool) → due_from (i + 1) due q ≡ false → (q ≢ i) → due_from i due q ≡ false
due_later q i due not_due ne = false_from_ne_true (nat_le i q && due q) (λ t.
    let p = and_parts (nat_le i q) (due q) t in
    let le : i ≤ q = leb-true i q p.0 in
    both_ways (nat_le (i + 1) q && due q) not_due (and_from (nat_le (i + 1) q) (due q) (le-leb (i + 1) q (omega (arith, le, ne))) p.1))

-- at the start, all that are due
pub due_first : (due : ℕ → Bool) (q : ℕ) → due_from 0 due q ≡ due q
due_first due q = ap (λ (x : Bool). x && due q) (le-leb 0 q (omega arith))

pub seen_first : (c : Crossing) (m : Marking) (due : ℕ → Bool) (from : ℕ → ℕ → Bool) → AreSeen c m due from → AreSeen c m (due_from 0 due) from
seen_first c m due from was = record {
  seen = λ q e not_due. was.seen q e (sym (due_first due q) ∙ not_due);
  marked = was.marked;
  only = was.only;
}

-- at a location that is due and has targets, they are seen
pub seen_more : (c : Crossing) (m now : Marking) (due : ℕ → Bool) (from : ℕ → ℕ → Bool) (i : ℕ) → AreSeen c m (due_from i due) from → now.targets ≡ m.targets → IsTrue (holds m.targets i) → ((e : ℕ) → holds now.seen e ≡ (from i e || holds m.seen e))
    → ((e : ℕ) → IsTrue (holds now.mask e) ↔ (IsTrue (holds m.mask e) ⊎ IsNew c (holds m.seen) (from i) e)) → AreSeen c now (due_from (i + 1) due) from
seen_more c m now due from i was same target sees mask = record {
  seen = λ q e not_due at held. elim (cases_Bool (nat_eq q i)) [
    | inl is ↦ sees e ∙ or_left (from i e) (holds m.seen e) (subst (λ (n : ℕ). IsTrue (from n e)) (eqb-true q i is) held)
    | inr other ↦
        let ne : q ≢ i = λ is. both_ways (nat_eq q i) other (eq-eqb q i is) in
        sees e ∙ or_right (from i e) (holds m.seen e) (was.seen q e (due_later q i due not_due ne) (subst (λ (s : Numbers). IsTrue (holds s q)) same at) held)
  ];
  marked = λ d e h marks. elim (cases_Bool (holds m.seen d)) [
    | inl early ↦ (mask e).1 (inl (was.marked d e early marks))
    | inr late ↦ elim (or_cases (from i d) (holds m.seen d) (sym (sees d) ∙ h)) [
      | inl held ↦ (mask e).1 (inr (d, (late, (held, marks))))
      | inr early ↦ absurd (both_ways (holds m.seen d) late early)
    ]
  ];
  only = λ e h. elim ((mask e).0 h) [
    | inl early ↦ moved e (was.only e early)
    | inr new ↦ (i, (new.0, (subst (λ (s : Numbers). IsTrue (holds s i)) (sym same) target, (new.1.1.0, new.1.1.1))))
  ];
}
  where
    moved : (e : ℕ) → IsMarked c m from e → IsMarked c now from e
    moved e h = (h.0, (h.1.0, (subst (λ (s : Numbers). IsTrue (holds s h.0)) (sym same) h.1.1.0, h.1.1.1)))

-- at another there is nothing to see
pub seen_past : (c : Crossing) (m : Marking) (due : ℕ → Bool) (from : ℕ → ℕ → Bool) (i : ℕ) → AreSeen c m (due_from i due) from → (due i && holds m.targets i) ≡ false → AreSeen c m (due_from (i + 1) due) from
seen_past c m due from i was not_both = record {
  seen = λ q e not_due at held. elim (cases_Bool (nat_eq q i)) [
    | inl is ↦
        let same : q ≡ i = eqb-true q i is in
        was.seen q e (false_from_ne_true (nat_le i q && due q) (λ t. both_ways (due i && holds m.targets i) not_both
        (and_from (due i) (holds m.targets i) (subst (λ (n : ℕ). due n ≡ true) same (and_parts (nat_le i q) (due q) t).1) (subst (λ (n : ℕ). holds m.targets n ≡ true) same at)))) at held
    | inr other ↦ let ne : q ≢ i = λ is. both_ways (nat_eq q i) other (eq-eqb q i is) in was.seen q e (due_later q i due not_due ne) at held
  ];
  marked = was.marked;
  only = was.only;
}

-- behind the last, all are seen
pub seen_last : (c : Crossing) (m : Marking) (due : ℕ → Bool) (from : ℕ → ℕ → Bool) (i : ℕ) → m.targets.limit ≤ i → AreSeen c m (due_from i due) from → AreSeen c m none_due from
seen_last c m due from i past was = record {
  seen = λ q e _ at held.
      let lt : q < m.targets.limit = holds_within m.targets q at in
      was.seen q e (false_from_ne_true (nat_le i q && due q) (λ t. let le : i ≤ q = leb-true i q (and_parts (nat_le i q) (due q) t).0 in omega (arith, le, lt, past))) at held;
  marked = was.marked;
  only = was.only;
}

-- where no target is due, all were seen
pub seen_none : (c : Crossing) (m : Marking) (due : ℕ → Bool) (from : ℕ → ℕ → Bool) (met : Bool) → met ≡ false → IsTrue met ↔ HasCommon due (holds m.targets) → AreSeen c m due from → AreSeen c m none_due from
seen_none c m due from met none tells was = record {
  seen = λ q e _ target h.
      elim (cases_Bool (due q)) [
        | inl is ↦ absurd (both_ways met none (tells.1 (q, (is, target))))
        | inr not_due ↦ was.seen q e not_due target h
      ];
  marked = was.marked;
  only = was.only;
}
