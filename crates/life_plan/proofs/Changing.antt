-- What becomes of elements, noted one after the other.
use Rattle.std.proofs.Common.{◌≡◌, Option, get_or, take, ◌≢◌, ◌<◌, ◌≤◌, ◌+◌, ℕ, Bool, true, false, List, [], ◌∷◌, ◌++◌, length, Some, inl, inr, ◌⊎◌, ◌↔◌, refl, ap, sym, ◌∙◌, subst, arith, nat_eq, not, ◌&&◌, ◌||◌}
use Rattle.std.proofs.lemmas.Bool.{and_from, and_parts, both_ways, cases_Bool, eq-eqb, eqb-true, false_from_ne_true, not-true, not_from_false, or_cases, or_left, or_right}
use Rattle.std.proofs.lemmas.List.{take_all, take_more}
use Rattle.std.proofs.lemmas.List.Elements.{Contains-append_left, Contains-push, Contains-push_cases}
use Rattle.std.proofs.lemmas.Option.{slice_get_within}
use Rattle.std.specs.Prelude.{Contains, IsTrue, slice_get, slice_set}
use Rattle.life_pset.specs.Table.{Table}
use Rattle.life_pset.specs.TableInvariant.{HasOneNumber}
use Rattle.life_pset.specs.declared.element.Element.{Element}
use Rattle.life_pset.proofs.Members.{cons_cases, in_head, none_in_empty}
use Rattle.life_sets.specs.NumberSets.{Numbers, holds}
use Rattle.life_rules.specs.Staying.{staying}
use Rattle.life_plan.specs.Crossing.{Crossing}
use Rattle.life_plan.specs.Noting.{AreNoted, IsOnly, NamesOther}
use Rattle.life_plan.specs.Numbered.{AreSized, Becomes, StaysAs}
use Rattle.life_plan.specs.declared.staying.Becoming.{Becoming}
use Rattle.life_plan.specs.declared.staying.Staying.{Staying}
use Rattle.life_plan.proofs.Naming.{same_item}
use Rattle.life_plan.proofs.Places.{get_set_same, get_set_other, set_cases, push_cases, push_early, push_new}

-- ---- one change more

-- among the elements that become one already
module _ (changes : List Becoming) (i e m : ℕ) (b now : Becoming) (at : slice_get changes i ≡ Some b) (is : b.element ≡ m) (same : now.element ≡ b.element) (more : (d : ℕ) → holds now.from d ≡ (nat_eq d e || holds b.from d)) where
  pub becomes_in : (d n : ℕ) → Becomes (slice_set changes i now) d n ↔ (Becomes changes d n ⊎ ((d ≡ e) × (n ≡ m)))
  becomes_in d n = (to, back)
    where
      lt : i < length changes
      lt = slice_get_within changes i b at

      to : Becomes (slice_set changes i now) d n → Becomes changes d n ⊎ ((d ≡ e) × (n ≡ m))
      to h =
          elim (set_cases changes i h.0 now h.1.0 h.1.1.0 lt) [
            | inl new ↦
                let held = subst (λ (c : Becoming). IsTrue (holds c.from d)) new.1 h.1.1.1.1 in
                let here : now.element ≡ n = subst (λ (c : Becoming). c.element ≡ n) new.1 h.1.1.1.0 in
                elim (or_cases (nat_eq d e) (holds b.from d) (sym (more d) ∙ held)) [
                  | inl it ↦ inr (eqb-true d e it, sym here ∙ same ∙ is)
                  | inr was ↦ inl (i, (b, (at, (sym same ∙ here, was))))
                ]
            | inr other ↦ inl (h.0, (h.1.0, (other.1, h.1.1.1)))
          ]

      back : Becomes changes d n ⊎ ((d ≡ e) × (n ≡ m)) → Becomes (slice_set changes i now) d n
      back (inl h) =
          elim (cases_Bool (nat_eq h.0 i)) [
            | inl here ↦
                let it : h.1.0 ≡ b = same_item (slice_get changes i) h.1.0 b (ap (slice_get changes) (sym (eqb-true h.0 i here)) ∙ h.1.1.0) at in
                let held = subst (λ (c : Becoming). IsTrue (holds c.from d)) it h.1.1.1.1 in
                let to : b.element ≡ n = subst (λ (c : Becoming). c.element ≡ n) it h.1.1.1.0 in
                (i, (now, (get_set_same changes i now lt, (same ∙ to, more d ∙ or_right (nat_eq d e) (holds b.from d) held))))
            | inr other ↦ (h.0, (h.1.0, (get_set_other changes i h.0 now (λ e. both_ways (nat_eq h.0 i) other (eq-eqb h.0 i e)) ∙ h.1.1.0, h.1.1.1)))
          ]
      back (inr h) = (i, (now, (get_set_same changes i now lt, (same ∙ is ∙ sym h.1, more d ∙ or_left (nat_eq d e) (holds b.from d) (eq-eqb d e h.0)))))

pub sized_in : (elements : ℕ) (changes : List Becoming) (i : ℕ) (b now : Becoming) → slice_get changes i ≡ Some b → now.element ≡ b.element → now.from.limit ≡ b.from.limit → AreSized elements changes → AreSized elements (slice_set changes i now)
sized_in elements changes i b now at same limit sized k c at_k =
    elim (set_cases changes i k now c at_k (slice_get_within changes i b at)) [
      | inl new ↦
          let s = sized i b at in
          subst (λ (c : Becoming). (c.element < elements) × (c.from.limit ≡ elements)) (sym new.1) (subst (λ (n : ℕ). n < elements) (sym same) s.0, limit ∙ s.1)
      | inr other ↦ sized k c other.1
    ]

-- .. or as the first
pub becomes_new : (changes : List Becoming) (elements e m : ℕ) (b : Becoming) → IsOnly elements e m b → (d n : ℕ) → Becomes (changes ++ b ∷ []) d n ↔ (Becomes changes d n ⊎ ((d ≡ e) × (n ≡ m)))
becomes_new changes elements e m b only d n = (to, back)
  where
    to : Becomes (changes ++ b ∷ []) d n → Becomes changes d n ⊎ ((d ≡ e) × (n ≡ m))
    to h =
        elim (push_cases changes h.0 b h.1.0 h.1.1.0) [
          | inl was ↦ inl (h.0, (h.1.0, (was, h.1.1.1)))
          | inr new ↦
              let held = subst (λ (c : Becoming). IsTrue (holds c.from d)) new.1 h.1.1.1.1 in
              let here : b.element ≡ n = subst (λ (c : Becoming). c.element ≡ n) new.1 h.1.1.1.0 in
              inr (eqb-true d e (sym (only.from d) ∙ held), sym here ∙ only.element)
        ]

    back : Becomes changes d n ⊎ ((d ≡ e) × (n ≡ m)) → Becomes (changes ++ b ∷ []) d n
    back (inl h) = (h.0, (h.1.0, (push_early changes h.0 b h.1.0 h.1.1.0, h.1.1.1)))
    back (inr h) = (length changes, (b, (push_new changes b, (only.element ∙ sym h.1, only.from d ∙ eq-eqb d e h.0))))

pub sized_new : (elements : ℕ) (changes : List Becoming) (e m : ℕ) (b : Becoming) → m < elements → IsOnly elements e m b → AreSized elements changes → AreSized elements (changes ++ b ∷ [])
sized_new elements changes e m b lt only sized k c at =
    elim (push_cases changes k b c at) [
      | inl was ↦ sized k c was
      | inr new ↦ subst (λ (c : Becoming). (c.element < elements) × (c.from.limit ≡ elements)) (sym new.1) (subst (λ (n : ℕ). n < elements) (sym only.element) lt, only.limit)
    ]

-- .. to the element that has the number
pub becomes_named : (elements : List Element) (y : Element) (m : ℕ) (number : Option ℕ) → number ≡ Some m → slice_get elements m ≡ Some y → ((n : ℕ) → slice_get elements n ≡ Some y → number ≡ Some n) → (changes now : List Becoming) (e : ℕ)
    → ((d n : ℕ) → Becomes now d n ↔ (Becomes changes d n ⊎ ((d ≡ e) × (n ≡ m)))) → (d n : ℕ) → Becomes now d n ↔ (Becomes changes d n ⊎ ((d ≡ e) × (slice_get elements n ≡ Some y)))
becomes_named elements y m number is at each changes now e more d n = (
  λ h. elim ((more d n).0 h) [ inl was ↦ inl was | inr new ↦ inr (new.0, ap (slice_get elements) new.1 ∙ at) ],
  λ h. elim h [ inl was ↦ (more d n).1 (inl was) | inr new ↦ (more d n).1 (inr (new.0, same_item number n m (each n new.1) is)) ],
)

-- ---- the elements of one element

module _ (t : Table) (x : Element) (first : List Becoming) (e : ℕ) where
  -- one that is no other is passed over
  pub other_not : (stays : List Element) (y : Element) (changes : List Becoming) → y ≡ x → ((d m : ℕ) → Becomes changes d m ↔ (Becomes first d m ⊎ ((d ≡ e) × NamesOther t x stays m)))
      → (d m : ℕ) → Becomes changes d m ↔ (Becomes first d m ⊎ ((d ≡ e) × NamesOther t x (stays ++ y ∷ []) m))
  other_not stays y changes is was d m = (
    λ h. elim ((was d m).0 h) [ inl early ↦ inl early | inr new ↦ inr (new.0, (new.1.0, (Contains-append_left stays (y ∷ []) new.1.0 new.1.1.0, new.1.1.1))) ],
    λ h.
        elim h [
          | inl early ↦ (was d m).1 (inl early)
          | inr new ↦ elim (Contains-push_cases stays y new.1.0 new.1.1.0) [
            | inl there ↦ (was d m).1 (inr (new.0, (new.1.0, (there, new.1.1.1))))
            | inr it ↦ absurd (new.1.1.1.0 (sym it ∙ is))
          ]
        ],
  )

  pub other_more : (stays : List Element) (y : Element) (changes now : List Becoming) → y ≢ x → ((d m : ℕ) → Becomes changes d m ↔ (Becomes first d m ⊎ ((d ≡ e) × NamesOther t x stays m)))
      → ((d m : ℕ) → Becomes now d m ↔ (Becomes changes d m ⊎ ((d ≡ e) × (slice_get t.elements m ≡ Some y))))
      → (d m : ℕ) → Becomes now d m ↔ (Becomes first d m ⊎ ((d ≡ e) × NamesOther t x (stays ++ y ∷ []) m))
  other_more stays y changes now ne was more d m = (
    λ h.
        elim ((more d m).0 h) [
          | inl early ↦ elim ((was d m).0 early) [ inl first ↦ inl first | inr new ↦ inr (new.0, (new.1.0, (Contains-append_left stays (y ∷ []) new.1.0 new.1.1.0, new.1.1.1))) ]
          | inr new ↦ inr (new.0, (y, (Contains-push stays y, (ne, new.1))))
        ],
    λ h.
        elim h [
          | inl first ↦ (more d m).1 (inl ((was d m).1 (inl first)))
          | inr new ↦ elim (Contains-push_cases stays y new.1.0 new.1.1.0) [
            | inl there ↦ (more d m).1 (inl ((was d m).1 (inr (new.0, (new.1.0, (there, new.1.1.1))))))
            | inr it ↦ (more d m).1 (inr (new.0, new.1.1.1.1 ∙ ap Some (sym it)))
          ]
        ],
  )

  -- of the elements up to a place, one more
  pub other_step : (stays : List Element) (i : ℕ) (y : Element) (changes now : List Becoming) → i < length stays → get_or stays i y ≢ x → ((d m : ℕ) → Becomes changes d m ↔ (Becomes first d m ⊎ ((d ≡ e) × NamesOther t x (take i stays) m)))
      → ((d m : ℕ) → Becomes now d m ↔ (Becomes changes d m ⊎ ((d ≡ e) × (slice_get t.elements m ≡ Some (get_or stays i y)))))
      → (d m : ℕ) → Becomes now d m ↔ (Becomes first d m ⊎ ((d ≡ e) × NamesOther t x (take (i + 1) stays) m))
  other_step stays i y changes now lt ne was more = rw (take_more stays i y lt) (other_more (take i stays) (get_or stays i y) changes now ne was more)

  pub other_same : (stays : List Element) (i : ℕ) (y : Element) (changes : List Becoming) → i < length stays → get_or stays i y ≡ x → ((d m : ℕ) → Becomes changes d m ↔ (Becomes first d m ⊎ ((d ≡ e) × NamesOther t x (take i stays) m)))
      → (d m : ℕ) → Becomes changes d m ↔ (Becomes first d m ⊎ ((d ≡ e) × NamesOther t x (take (i + 1) stays) m))
  other_same stays i y changes lt is was = rw (take_more stays i y lt) (other_not (take i stays) (get_or stays i y) changes is was)

  pub other_all : (stays : List Element) (i : ℕ) (changes : List Becoming) → length stays ≤ i → ((d m : ℕ) → Becomes changes d m ↔ (Becomes first d m ⊎ ((d ≡ e) × NamesOther t x (take i stays) m)))
      → (d m : ℕ) → Becomes changes d m ↔ (Becomes first d m ⊎ ((d ≡ e) × NamesOther t x stays m))
  other_all stays i changes past was = subst (λ (ys : List Element). (d m : ℕ) → Becomes changes d m ↔ (Becomes first d m ⊎ ((d ≡ e) × NamesOther t x ys m))) (take_all i stays past) was

-- ---- where no element moves

pub sized_none : (elements : ℕ) (changes : List Becoming) → changes ≡ [] → AreSized elements changes
sized_none elements changes empty k b at = absurd (omega (arith, slice_get_within [] k b (subst (λ (xs : List Becoming). slice_get xs k ≡ Some b) empty at)))

pub stays_still : (c : Crossing) → HasOneNumber c.table.elements → (s : Staying) → ((n : ℕ) → holds s.gone n ≡ false) → s.becoming.items ≡ [] → ((x : Element) → staying c.types c.f c.spot x ≡ x ∷ [])
    → (e m : ℕ) (x y : Element) → slice_get c.table.elements e ≡ Some x → slice_get c.table.elements m ≡ Some y → StaysAs s e m ↔ Contains (staying c.types c.f c.spot x) y
stays_still c unique s none empty still e m x y at_e at_m = (to, back)
  where
    to : StaysAs s e m → Contains (staying c.types c.f c.spot x) y
    to (inl h) = rw (still x) (subst (Contains (x ∷ [])) (same_item (slice_get c.table.elements m) x y (ap (slice_get c.table.elements) (sym h.0) ∙ at_e) at_m) (in_head x []))
    to (inr h) = absurd (omega (arith, slice_get_within [] h.0 h.1.0 (subst (λ (xs : List Becoming). slice_get xs h.0 ≡ Some h.1.0) empty h.1.1.0)))

    back : Contains (staying c.types c.f c.spot x) y → StaysAs s e m
    back h =
        elim (cons_cases x [] y (subst (λ (xs : List Element). Contains xs y) (still x) h)) [
          | inl is ↦ inl (unique e m x at_e (at_m ∙ ap Some (sym is)), none e)
          | inr there ↦ absurd (none_in_empty y there)
        ]

-- ---- element after element

-- at the start
pub noted_none : (c : Crossing) (gone : Numbers) → ((n : ℕ) → holds gone n ≡ false) → AreNoted c 0 gone []
noted_none c gone none = record {
  sized = λ k b at. absurd (omega (arith, slice_get_within [] k b at));
  stays = λ e x lt at. absurd (omega (arith, lt));
  later = λ e le. none e;
  becomes = λ e m. (λ h. absurd (omega (arith, slice_get_within [] h.0 h.1.0 h.1.1.0)), λ h. absurd (omega (arith, h.0)));
}

pub noted_more : (c : Crossing) (i : ℕ) (x : Element) (itself : Bool) (gone now : Numbers) (changes after : List Becoming) → slice_get c.table.elements i ≡ Some x → AreNoted c i gone changes
    → IsTrue itself ↔ Contains (staying c.types c.f c.spot x) x → ((n : ℕ) → holds now n ≡ ((not itself && nat_eq n i) || holds gone n))
    → ((d m : ℕ) → Becomes after d m ↔ (Becomes changes d m ⊎ ((d ≡ i) × NamesOther c.table x (staying c.types c.f c.spot x) m))) → AreSized (length c.table.elements) after → AreNoted c (i + 1) now after
noted_more c i x itself gone now changes after at was tells gone_is more sized = record {
  sized = sized;
  stays = λ e y lt at_e. elim (cases_Bool (nat_eq e i)) [
    | inl is ↦
        let same : y ≡ x = same_item (slice_get c.table.elements i) y x (ap (slice_get c.table.elements) (sym (eqb-true e i is)) ∙ at_e) at in
        subst (λ (z : Element). (holds now e ≡ false) ↔ Contains (staying c.types c.f c.spot z) z) (sym same) (here e (eqb-true e i is))
    | inr other ↦
        let ne : e ≢ i = λ is. both_ways (nat_eq e i) other (eq-eqb e i is) in
        let early = was.stays e y (omega (arith, lt, ne)) at_e in
        let apart : holds now e ≡ holds gone e = gone_is e ∙ not_it (nat_eq e i) (not itself) (holds gone e) other in
        ((λ h. early.0 (sym apart ∙ h)), (λ h. apart ∙ early.1 h))
  ];
  later = λ e le.
      let ne : e ≢ i = λ is. omega (arith, le, is) in
      let other : nat_eq e i ≡ false = false_from_ne_true (nat_eq e i) (λ t. ne (eqb-true e i t)) in
      gone_is e ∙ not_it (nat_eq e i) (not itself) (holds gone e) other ∙ was.later e (omega (arith, le));
  becomes = λ e m. (
    λ h.
        elim ((more e m).0 h) [
          | inl early ↦ let b = (was.becomes e m).0 early in let lt : e < i = b.0 in (omega (arith, lt), b.1)
          | inr new ↦ let is : e ≡ i = new.0 in (omega (arith, is), (x, (ap (slice_get c.table.elements) is ∙ at, new.1)))
        ],
    λ h.
        elim (cases_Bool (nat_eq e i)) [
          | inl is ↦
              let same : h.1.0 ≡ x = same_item (slice_get c.table.elements i) h.1.0 x (ap (slice_get c.table.elements) (sym (eqb-true e i is)) ∙ h.1.1.0) at in
              (more e m).1 (inr (eqb-true e i is, subst (λ (z : Element). NamesOther c.table z (staying c.types c.f c.spot z) m) same h.1.1.1))
          | inr other ↦
              let ne : e ≢ i = λ is. both_ways (nat_eq e i) other (eq-eqb e i is) in
              let lt : e < i + 1 = h.0 in
              (more e m).1 (inl ((was.becomes e m).1 (omega (arith, lt, ne), h.1)))
        ],
  );
}
  where
    not_it : (a b x : Bool) → a ≡ false → ((b && a) || x) ≡ x
    not_it true b x h = absurd (both_ways true h refl)
    not_it false true x h = refl
    not_it false false x h = refl

    here : (e : ℕ) → e ≡ i → (holds now e ≡ false) ↔ Contains (staying c.types c.f c.spot x) x
    here e is = (
      λ h. elim (cases_Bool itself) [
        | inl stays ↦ tells.0 stays
        | inr leaves ↦ absurd (both_ways (holds now e) h (gone_is e ∙ or_left (not itself && nat_eq e i) (holds gone e) (and_from (not itself) (nat_eq e i) (not_from_false itself leaves) (eq-eqb e i is))))
      ],
      λ h. false_from_ne_true (holds now e) (λ t. elim (or_cases (not itself && nat_eq e i) (holds gone e) (sym (gone_is e) ∙ t)) [
        | inl new ↦ both_ways itself (not-true itself (and_parts (not itself) (nat_eq e i) new).0) (tells.1 h)
        | inr early ↦ both_ways (holds gone e) (was.later e (omega (arith, is))) early
      ]),
    )

-- one that stays as itself alone
pub noted_kept : (c : Crossing) (i : ℕ) (x : Element) (gone : Numbers) (changes : List Becoming) → slice_get c.table.elements i ≡ Some x → AreNoted c i gone changes → staying c.types c.f c.spot x ≡ x ∷ [] → AreNoted c (i + 1) gone changes
noted_kept c i x gone changes at was alone =
    noted_more c i x true gone gone changes changes at was (λ t. subst (λ (ys : List Element). Contains ys x) (sym alone) (in_head x []), λ h. refl) (λ n. refl)
    (λ d m. (λ h. inl h, λ h. elim h [ inl early ↦ early | inr new ↦ absurd (other m new.1) ])) was.sized
  where
    other : (m : ℕ) → NamesOther c.table x (staying c.types c.f c.spot x) m → ⊥
    other m h = elim (cons_cases x [] h.0 (subst (λ (ys : List Element). Contains ys h.0) alone h.1.0)) [ inl is ↦ h.1.1.0 (sym is) | inr none ↦ none_in_empty h.0 none ]

-- all were noted
pub stays_noted : (c : Crossing) → HasOneNumber c.table.elements → (s : Staying) (i : ℕ) → length c.table.elements ≤ i → AreNoted c i s.gone s.becoming.items
    → (e m : ℕ) (x y : Element) → slice_get c.table.elements e ≡ Some x → slice_get c.table.elements m ≡ Some y → StaysAs s e m ↔ Contains (staying c.types c.f c.spot x) y
stays_noted c unique s i past noted e m x y at_e at_m = (to, back)
  where
    lt : e < i
    lt = let k = slice_get_within c.table.elements e x at_e in omega (arith, k, past)

    to : StaysAs s e m → Contains (staying c.types c.f c.spot x) y
    to (inl h) =
        let same : x ≡ y = same_item (slice_get c.table.elements m) x y (ap (slice_get c.table.elements) (sym h.0) ∙ at_e) at_m in
        subst (Contains (staying c.types c.f c.spot x)) same ((noted.stays e x lt at_e).0 h.1)
    to (inr h) =
        let b = ((noted.becomes e m).0 h).1 in
        let is : b.0 ≡ x = same_item (slice_get c.table.elements e) b.0 x b.1.0 at_e in
        let it : b.1.1.0 ≡ y = same_item (slice_get c.table.elements m) b.1.1.0 y b.1.1.1.1.1 at_m in
        subst (λ (z : Element). Contains (staying c.types c.f c.spot x) z) it (subst (λ (z : Element). Contains (staying c.types c.f c.spot z) b.1.1.0) is b.1.1.1.0)

    back : Contains (staying c.types c.f c.spot x) y → StaysAs s e m
    back h =
        elim (cases_Bool (nat_eq e m)) [
          | inl is ↦
              let same : y ≡ x = same_item (slice_get c.table.elements e) y x (ap (slice_get c.table.elements) (eqb-true e m is) ∙ at_m) at_e in
              inl (eqb-true e m is, (noted.stays e x lt at_e).1 (subst (Contains (staying c.types c.f c.spot x)) same h))
          | inr other ↦
              let ne : y ≢ x = λ same. both_ways (nat_eq e m) other (eq-eqb e m (unique e m x at_e (at_m ∙ ap Some same))) in
              inr ((noted.becomes e m).1 (lt, (x, (at_e, (y, (h, (ne, at_m)))))))
        ]
