-- Ordered sets of pairs, as tests.
use Rattle.std.proofs.Common.{◌≡◌, ℕ, ◌<◌, refl, ap, sym, ◌∙◌, inl, inr, ◌⊎◌, Bool, true, false, cond, subst, eq-eqb, List, [], ◌∷◌}
use Rattle.std.specs.Prelude.{not, Contains, ◌↔◌, IsTrue, nat_eq, ◌&&◌, ◌||◌}
use Rattle.std.specs.BTreeSet.{BTreeSet, Updates}
use Rattle.std.specs.Cmp.{IsTotalOrder, then_total, on_total, nat_cmp_total, unsigned_tied, nat_eq_equiv}
use Rattle.std.specs.Ordering.{ordering_then, nat_cmp, is_eq}
use Rattle.std.specs.declared.cmp.Ordering.{Ordering}
use Rattle.std.specs.declared.cmp.Ordering.TheVariants.{Less, Equal, Greater}
use Rattle.std.proofs.lemmas.Bool.{eqb-true, and_parts, and_from, or_cases, or_left, or_right, both_ways, cases_Bool, not-true, false_from_ne_true}
use Rattle.std.proofs.lemmas.Map.Lookups.{exact_pairs, exact_unsigned}
use Rattle.std.proofs.lemmas.Map.Views.{btree_set_contains_iff}
use Rattle.life_sets.specs.Pairs.{pair_cmp, HasNew}
use Rattle.life_sets.specs.PairSets.{contains_pair, AddsPair, AddsKeys, IsAmong, IsPairWithin}
use Rattle.life_sets.proofs.Members.{none_in_empty, in_head, in_tail, cons_cases}

-- ---- the order of pairs
then_eq : (a b : Ordering) → is_eq (ordering_then a b) ≡ (is_eq a && is_eq b)
then_eq Less b = refl
then_eq Equal b = refl
then_eq Greater b = refl

-- pairs tie where both numbers are equal
pair_ties : (a b l e : ℕ) → is_eq (pair_cmp (a, b) (l, e)) ≡ (nat_eq l a && nat_eq e b)
pair_ties a b l e =
    then_eq (nat_cmp a l) (nat_cmp b e) ∙ (λ i. (unsigned_tied a l ∙ nat_eq_equiv.symm a l) i && (unsigned_tied b e ∙ nat_eq_equiv.symm b e) i)

pub pairs_total : IsTotalOrder pair_cmp
pairs_total = then_total (on_total (λ (x : ℕ × ℕ). x.0) nat_cmp_total) (on_total (λ (x : ℕ × ℕ). x.1) nat_cmp_total)

-- the pairs that a set lists are those that it has
pub listed : (s : BTreeSet (ℕ × ℕ)) (l e : ℕ) → Contains s.keys (l, e) ↔ IsTrue (contains_pair s l e)
listed s l e = let k = btree_set_contains_iff pairs_total (exact_pairs nat_cmp nat_cmp exact_unsigned exact_unsigned) s (l, e) in (k.1, k.0)

-- ---- one pair more
cond_or : (x y : Bool) → cond x true y ≡ (x || y)
cond_or true y = refl
cond_or false y = refl

pub inserted : (old new : BTreeSet (ℕ × ℕ)) (a b : ℕ) → Updates pair_cmp old new (a, b) true → AddsPair a b (contains_pair old) (contains_pair new)
inserted old new a b up l e =
    up.0 (l, e) ∙ cond_or (is_eq (pair_cmp (a, b) (l, e))) (contains_pair old l e) ∙ ap (λ (x : Bool). x || contains_pair old l e) (pair_ties a b l e)

is_pair : (l e : ℕ) (p : ℕ × ℕ) → (nat_eq l p.0 && nat_eq e p.1) ≡ true → p ≡ (l, e)
is_pair l e p h =
    let k = and_parts (nat_eq l p.0) (nat_eq e p.1) h in
    λ i. (sym (eqb-true l p.0 k.0) i, sym (eqb-true e p.1 k.1) i)

pair_is : (l e : ℕ) (p : ℕ × ℕ) → p ≡ (l, e) → (nat_eq l p.0 && nat_eq e p.1) ≡ true
pair_is l e p is =
    and_from (nat_eq l p.0) (nat_eq e p.1) (eq-eqb l p.0 (ap (λ (q : ℕ × ℕ). q.0) (sym is))) (eq-eqb e p.1 (ap (λ (q : ℕ × ℕ). q.1) (sym is)))

pub adds_pair_keeps : (p q : ℕ) (a b : ℕ → ℕ → Bool) → AddsPair p q a b → (l e : ℕ) → IsTrue (a l e) → IsTrue (b l e)
adds_pair_keeps p q a b one l e h = one l e ∙ or_right (nat_eq l p && nat_eq e q) (a l e) h

-- a pair is in the set after: it is the new one, or was there
pair_cases : (p : ℕ × ℕ) (a b : ℕ → ℕ → Bool) → AddsPair p.0 p.1 a b → (l e : ℕ) → IsTrue (b l e) → (p ≡ (l, e)) ⊎ IsTrue (a l e)
pair_cases p a b one l e h =
    elim (or_cases (nat_eq l p.0 && nat_eq e p.1) (a l e) (sym (one l e) ∙ h)) [
      | inl here ↦ inl (is_pair l e p here)
      | inr there ↦ inr there
    ]

-- ---- pairs added one after the other
pub adds_key : (rest : List (ℕ × ℕ)) (p : ℕ × ℕ) (a b new : ℕ → ℕ → Bool) → AddsPair p.0 p.1 a b → AddsKeys rest b new → AddsKeys (p ∷ rest) a new
adds_key rest p a b new one more l e = (
  λ h.
      elim ((more l e).0 h) [
        | inl was ↦ elim (pair_cases p a b one l e was) [
          | inl here ↦ inr (subst (λ (q : ℕ × ℕ). Contains (p ∷ rest) q) here (in_head p rest))
          | inr there ↦ inl there
        ]
        | inr in_rest ↦ inr (in_tail p rest (l, e) in_rest)
      ],
  λ h.
      elim h [
        | inl was ↦ (more l e).1 (inl (adds_pair_keeps p.0 p.1 a b one l e was))
        | inr c ↦ elim (cons_cases p rest (l, e) c) [
          | inl is ↦ (more l e).1 (inl (one l e ∙ or_left (nat_eq l p.0 && nat_eq e p.1) (a l e) (pair_is l e p is)))
          | inr in_rest ↦ (more l e).1 (inr in_rest)
        ]
      ],
)

pub adds_no_key : (a : ℕ → ℕ → Bool) → AddsKeys [] a a
adds_no_key a l e = (λ h. inl h, λ h. elim h [ inl was ↦ was | inr c ↦ absurd (none_in_empty (l, e) c) ])

pub among_more : (xs : List (ℕ × ℕ)) (p : ℕ × ℕ) (a b c : ℕ → ℕ → Bool) → IsAmong xs a b → Contains xs p → AddsPair p.0 p.1 b c → IsAmong xs a c
among_more xs p a b c ab is one l e = (
  λ h. adds_pair_keeps p.0 p.1 b c one l e ((ab l e).0 h),
  λ h.
      elim (pair_cases p b c one l e h) [
        | inl here ↦ inr (subst (λ (q : ℕ × ℕ). Contains xs q) here is)
        | inr there ↦ (ab l e).1 there
      ],
)

pub among_within : (m n p q : ℕ) (from old new : BTreeSet (ℕ × ℕ)) → p ≡ m → q ≡ n → IsPairWithin p q from → IsPairWithin m n old → IsAmong from.keys (contains_pair old) (contains_pair new) → IsPairWithin m n new
among_within m n p q from old new pm qn wf wo am l e h =
    elim ((am l e).1 h) [
      | inl was ↦ wo l e was
      | inr more ↦
          let w = wf l e ((listed from l e).0 more) in
          (subst (λ (x : ℕ). l < x) pm w.0, subst (λ (x : ℕ). e < x) qn w.1)
    ]

or_both : (f o n : Bool) → IsTrue n ↔ (IsTrue o ⊎ IsTrue f) → n ≡ (f || o)
or_both true o n h = h.1 (inr refl)
or_both false true n h = h.1 (inl refl)
or_both false false true h = elim (h.0 refl) [ inl x ↦ sym x | inr x ↦ sym x ]
or_both false false false h = refl

-- all of a set's pairs were added
pub joined_all : (from : BTreeSet (ℕ × ℕ)) (a b : ℕ → ℕ → Bool) → AddsKeys from.keys a b → (l e : ℕ) → b l e ≡ (contains_pair from l e || a l e)
joined_all from a b adds l e =
    or_both (contains_pair from l e) (a l e) (b l e) (
      λ h. elim ((adds l e).0 h) [ inl was ↦ inl was | inr more ↦ inr ((listed from l e).0 more) ],
      λ h. elim h [ inl was ↦ (adds l e).1 (inl was) | inr more ↦ (adds l e).1 (inr ((listed from l e).1 more)) ],
    )

-- ---- whether a set gained a pair
pub fresh_iff : (p q : ℕ) (a b : ℕ → ℕ → Bool) (r : Bool) → AddsPair p q a b → r ≡ not (a p q) → IsTrue r ↔ HasNew a b
fresh_iff p q a b r one is = (
  λ h. (p, (q, (not-true (a p q) (sym is ∙ h), one p q ∙ or_left (nat_eq p p && nat_eq q q) (a p q) (pair_is p q (p, q) refl)))),
  λ n.
      elim (pair_cases (p, q) a b one n.0 n.1.0 n.1.1.1) [
        | inl here ↦
            let none : a p q ≡ false = subst (λ (x : ℕ × ℕ). a x.0 x.1 ≡ false) (sym here) n.1.1.0 in
            is ∙ ap not none
        | inr there ↦ absurd (both_ways (a n.0 n.1.0) n.1.1.0 there)
      ],
)

pub gained_more : (a b c : ℕ → ℕ → Bool) → ((l e : ℕ) → IsTrue (a l e) → IsTrue (b l e)) → ((l e : ℕ) → IsTrue (b l e) → IsTrue (c l e)) → (g h : Bool) → IsTrue g ↔ HasNew a b → IsTrue h ↔ HasNew b c → IsTrue (g || h) ↔ HasNew a c
gained_more a b c ab bc g h gi hi = (
  λ r.
      elim (or_cases g h r) [
        | inl p ↦ let n = gi.0 p in (n.0, (n.1.0, (n.1.1.0, bc n.0 n.1.0 n.1.1.1)))
        | inr p ↦
            let n = hi.0 p in
            let none = false_from_ne_true (a n.0 n.1.0) (λ t. both_ways (b n.0 n.1.0) n.1.1.0 (ab n.0 n.1.0 t)) in
            (n.0, (n.1.0, (none, n.1.1.1)))
      ],
  λ n.
      elim (cases_Bool (b n.0 n.1.0)) [
        | inl t ↦ or_left g h (gi.1 (n.0, (n.1.0, (n.1.1.0, t))))
        | inr f ↦ or_right g h (hi.1 (n.0, (n.1.0, (f, n.1.1.1))))
      ],
)
