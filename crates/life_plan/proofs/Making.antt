-- What is made at locations that are read, one after the other.
use Rattle.std.proofs.Common.{◌≡◌, ◌≢◌, ◌<◌, ◌≤◌, ◌+◌, ℕ, Bool, false, List, [], ◌∷◌, ◌++◌, length, Option, Some, inl, inr, ◌⊎◌, ◌↔◌, refl, ap, sym, ◌∙◌, subst, arith, nat_eq, not, ◌&&◌, ◌||◌}
use Rattle.std.proofs.lemmas.Bool.{and_from, and_parts, both_ways, cases_Bool, cases_lt, eq-eqb, eqb-true, not_from_false, or_cases, or_left}
use Rattle.std.proofs.lemmas.List.Elements.{Contains-append_left, Contains-append_right, Contains-append_cases}
use Rattle.std.proofs.lemmas.Option.{slice_get_within}
use Rattle.std.specs.Prelude.{Contains, IsTrue, slice_get, slice_set}
use Rattle.life_pset.specs.declared.element.AbsPlace.{AbsPlace}
use Rattle.life_pset.specs.declared.element.Fact.{Fact}
use Rattle.life_pset.proofs.Members.{none_in_empty}
use Rattle.life_sets.specs.NumberSets.{Numbers, holds, IsNext}
use Rattle.life_rules.specs.FactSets.{Gains, GainsSome, Includes, IsPairOf}
use Rattle.life_plan.specs.Carried.{AreMade, AreMadeUpTo, none_due}
use Rattle.life_plan.specs.Crossing.{Crossing}
use Rattle.life_plan.specs.Numbered.{AreReadings, AreSizedReadings, HaveSameLocations, IsMadeAt, IsMadeBelow, IsReadAt, IsUnseen, MakesAt, MakesFrom, made_facts, passes}
use Rattle.life_plan.specs.declared.reading.Reading.{Reading}
use Rattle.life_plan.proofs.Naming.{holds_within, same_item}
use Rattle.life_plan.proofs.Places.{get_set_same, get_set_other, push_cases, push_early, push_new, set_cases}

-- ---- the facts that are made of elements

module _ (c : Crossing) (location : ℕ) (elements : ℕ → Bool) (first : List Fact) (i : ℕ) where
  pub made_none : (x : Fact) → Contains first x ↔ (Contains first x ⊎ IsMadeBelow c location elements 0 x)
  made_none x = (λ h. inl h, λ h. elim h [ inl was ↦ was | inr new ↦ absurd (omega (arith, new.1.0)) ])

  pub made_more : (facts now : List Fact) → IsTrue (elements i) → ((x : Fact) → Contains facts x ↔ (Contains first x ⊎ IsMadeBelow c location elements i x)) → now ≡ facts ++ made_facts c location i
      → (x : Fact) → Contains now x ↔ (Contains first x ⊎ IsMadeBelow c location elements (i + 1) x)
  made_more facts now held was is x = (
    λ h.
        elim (Contains-append_cases facts (made_facts c location i) x (subst (λ (xs : List Fact). Contains xs x) is h)) [
          | inl early ↦ elim ((was x).0 early) [ inl there ↦ inl there | inr new ↦ let lt : new.0 < i = new.1.0 in inr (new.0, (omega (arith, lt), new.1.1)) ]
          | inr new ↦ inr (i, (omega arith, (held, new)))
        ],
    λ h. subst (λ (xs : List Fact). Contains xs x) (sym is) (back h),
  )
    where
      back : Contains first x ⊎ IsMadeBelow c location elements (i + 1) x → Contains (facts ++ made_facts c location i) x
      back (inl there) = Contains-append_left facts (made_facts c location i) x ((was x).1 (inl there))
      back (inr new) =
          elim (cases_Bool (nat_eq new.0 i)) [
            | inl same ↦ Contains-append_right facts (made_facts c location i) x (subst (λ (n : ℕ). Contains (made_facts c location n) x) (eqb-true new.0 i same) new.1.1.1)
            | inr other ↦
                let ne : new.0 ≢ i = λ e. both_ways (nat_eq new.0 i) other (eq-eqb new.0 i e) in
                let lt : new.0 < i + 1 = new.1.0 in
                Contains-append_left facts (made_facts c location i) x ((was x).1 (inr (new.0, (omega (arith, lt, ne), new.1.1))))
          ]

  -- none of the elements up to the next one is in the set
  pub made_skipped : (number : ℕ) (facts : List Fact) → IsNext elements i number → ((x : Fact) → Contains facts x ↔ (Contains first x ⊎ IsMadeBelow c location elements i x))
      → (x : Fact) → Contains facts x ↔ (Contains first x ⊎ IsMadeBelow c location elements number x)
  made_skipped number facts next was x = (
    λ h. elim ((was x).0 h) [ inl there ↦ inl there | inr new ↦ let lt : new.0 < i = new.1.0 in inr (new.0, (omega (arith, lt, next.reached), new.1.1)) ],
    λ h.
        elim h [
          | inl there ↦ (was x).1 (inl there)
          | inr new ↦ elim (cases_lt new.0 i) [
            | inl early ↦ (was x).1 (inr (new.0, (early, new.1.1)))
            | inr late ↦ absurd (both_ways (elements new.0) (next.between new.0 late new.1.0) new.1.1.0)
          ]
        ],
  )

  -- .. or none of all others
  pub made_rest : (facts : List Fact) → ((n : ℕ) → i ≤ n → elements n ≡ false) → ((x : Fact) → Contains facts x ↔ (Contains first x ⊎ IsMadeBelow c location elements i x))
      → (x : Fact) → Contains facts x ↔ (Contains first x ⊎ IsMadeAt c location elements x)
  made_rest facts none was x = (
    λ h. elim ((was x).0 h) [ inl there ↦ inl there | inr new ↦ inr (new.0, new.1.1) ],
    λ h.
        elim h [
          | inl there ↦ (was x).1 (inl there)
          | inr new ↦ elim (cases_lt new.0 i) [
            | inl early ↦ (was x).1 (inr (new.0, (early, new.1)))
            | inr late ↦ absurd (both_ways (elements new.0) (none new.0 late) new.1.0)
          ]
        ],
  )

pub made_all : (c : Crossing) (location : ℕ) (elements : Numbers) (first facts : List Fact) (i : ℕ) → elements.limit ≤ i → ((x : Fact) → Contains facts x ↔ (Contains first x ⊎ IsMadeBelow c location (holds elements) i x))
    → (x : Fact) → Contains facts x ↔ (Contains first x ⊎ IsMadeAt c location (holds elements) x)
made_all c location elements first facts i past was x = (
  λ h. elim ((was x).0 h) [ inl there ↦ inl there | inr new ↦ inr (new.0, new.1.1) ],
  λ h.
      elim h [
        | inl there ↦ (was x).1 (inl there)
        | inr new ↦ let lt : new.0 < elements.limit = holds_within elements new.0 new.1.0 in (was x).1 (inr (new.0, (omega (arith, lt, past), new.1)))
      ],
)

-- ---- their pairs

module _ (c : Crossing) (location : ℕ) (elements : ℕ → Bool) (first facts got : List Fact) (empty : first ≡ []) (same : got ≡ facts) (are : (x : Fact) → Contains facts x ↔ (Contains first x ⊎ IsMadeAt c location elements x)) where
  made_of : (x : Fact) → Contains got x ↔ IsMadeAt c location elements x
  made_of x = (
    λ h.
        elim ((are x).0 (subst (λ (xs : List Fact). Contains xs x) same h)) [
          | inl there ↦ absurd (none_in_empty x (subst (λ (xs : List Fact). Contains xs x) empty there))
          | inr new ↦ new
        ],
    λ h. subst (λ (xs : List Fact). Contains xs x) (sym same) ((are x).1 (inr h)),
  )

  pub made_pairs : (a b : ℕ → ℕ → Bool) → Gains a b (IsPairOf c.table got) → (l m : ℕ) → MakesAt c location elements l m → IsTrue (b l m)
  made_pairs a b gains l m h = (gains l m).1 (inr (h.0, (h.1.0, (made_of h.0).1 h.1.1)))

  pub some_made : (a b : ℕ → ℕ → Bool) → GainsSome a b (IsPairOf c.table got) → GainsSome a b (MakesAt c location elements)
  some_made a b some l m = ((some l m).0, λ h. elim ((some l m).1 h) [ inl was ↦ inl was | inr new ↦ inr (new.0, (new.1.0, (made_of new.0).0 new.1.1)) ])

-- ---- the elements of one location that weren't seen

module _ (c : Crossing) (location : ℕ) (seen from at new_ones : ℕ → Bool) (read : (e : ℕ) → at e ≡ from e) (left : (e : ℕ) → new_ones e ≡ (at e && not (seen e))) where
  new_is : (e : ℕ) → new_ones e ≡ (from e && not (seen e))
  new_is e = left e ∙ ap (λ (x : Bool). x && not (seen e)) (read e)

  pub made_new : (b : ℕ → ℕ → Bool) → ((l m : ℕ) → MakesAt c location new_ones l m → IsTrue (b l m)) → (l m : ℕ) → MakesAt c location (λ e. from e && not (seen e)) l m → IsTrue (b l m)
  made_new b made l m h = made l m (h.0, (h.1.0, (h.1.1.0, (new_is h.1.1.0 ∙ h.1.1.1.0, h.1.1.1.1))))

  pub some_new : (a b : ℕ → ℕ → Bool) → GainsSome a b (MakesAt c location new_ones) → GainsSome a b (MakesAt c location from)
  some_new a b some l m = (
    (some l m).0,
    λ h. elim ((some l m).1 h) [
      | inl was ↦ inl was
      | inr new ↦ inr (new.0, (new.1.0, (new.1.1.0, ((and_parts (from new.1.1.0) (not (seen new.1.1.0)) (sym (new_is new.1.1.0) ∙ new.1.1.1.0)).0, new.1.1.1.1))))
    ],
  )

-- ---- reading after reading

pub made_first : (c : Crossing) (readings : List Reading) (due : ℕ → Bool) (from into : ℕ → ℕ → Bool) → AreMade c readings due from into → AreMadeUpTo c 0 readings due from into
made_first c readings due from into was = record {
  made = was.made;
  seen = λ k r at h. elim h [ inl lt ↦ absurd (omega (arith, lt)) | inr not_due ↦ was.seen k r at not_due ];
}

pub made_last : (c : Crossing) (i : ℕ) (readings : List Reading) (due : ℕ → Bool) (from into : ℕ → ℕ → Bool) → length readings ≤ i → AreMadeUpTo c i readings due from into → AreMade c readings none_due from into
made_last c i readings due from into past was = record {
  made = was.made;
  seen = λ k r at _. let lt : k < length readings = slice_get_within readings k r at in was.seen k r at (inl (omega (arith, lt, past)));
}

-- one that isn't due
pub made_pass : (c : Crossing) (i : ℕ) (readings : List Reading) (due : ℕ → Bool) (from into : ℕ → ℕ → Bool) (r : Reading) → slice_get readings i ≡ Some r → due r.location ≡ false → AreMadeUpTo c i readings due from into → AreMadeUpTo c (i + 1) readings due from into
made_pass c i readings due from into r at not_due was = record {
  made = was.made;
  seen = λ k z at_k h. elim h [
    | inr other ↦ was.seen k z at_k (inr other)
    | inl lt ↦ elim (cases_Bool (nat_eq k i)) [
      | inl same ↦
          let is : z ≡ r = same_item (slice_get readings i) z r (ap (slice_get readings) (sym (eqb-true k i same)) ∙ at_k) at in
          was.seen k z at_k (inr (subst (λ (x : Reading). due x.location ≡ false) (sym is) not_due))
      | inr other ↦ let ne : k ≢ i = λ e. both_ways (nat_eq k i) other (eq-eqb k i e) in was.seen k z at_k (inl (omega (arith, lt, ne)))
    ]
  ];
}

module _ (c : Crossing) (readings : List Reading) (i : ℕ) (r now : Reading) (at : slice_get readings i ≡ Some r) (same : now.location ≡ r.location) where
  within : i < length readings
  within = slice_get_within readings i r at

  -- it stands where it stood
  pub same_locations : HaveSameLocations readings (slice_set readings i now)
  same_locations n = (
    λ h.
        elim (cases_Bool (nat_eq h.0 i)) [
          | inl is ↦
              let it : h.1.0 ≡ r = same_item (slice_get readings i) h.1.0 r (ap (slice_get readings) (sym (eqb-true h.0 i is)) ∙ h.1.1.0) at in
              (i, (now, (get_set_same readings i now within, same ∙ subst (λ (x : Reading). x.location ≡ n) it h.1.1.1)))
          | inr other ↦ (h.0, (h.1.0, (get_set_other readings i h.0 now (λ e. both_ways (nat_eq h.0 i) other (eq-eqb h.0 i e)) ∙ h.1.1.0, h.1.1.1)))
        ],
    λ h.
        elim (set_cases readings i h.0 now h.1.0 h.1.1.0 within) [
          | inl new ↦ (i, (r, (at, sym same ∙ subst (λ (x : Reading). x.location ≡ n) new.1 h.1.1.1)))
          | inr other ↦ (h.0, (h.1.0, (other.1, h.1.1.1)))
        ],
  )

  pub readings_set : now.seen.limit ≡ r.seen.limit → AreReadings c readings → AreReadings c (slice_set readings i now)
  readings_set limit are = record {
    sized = λ k z at_k. elim (set_cases readings i k now z at_k within) [
      | inl new ↦
          let s = are.sized i r at in
          subst (λ (x : Reading). (x.location < length c.table.locations) × (x.seen.limit ≡ length c.table.elements)) (sym new.1) (subst (λ (n : ℕ). n < length c.table.locations) (sym same) s.0, limit ∙ s.1)
      | inr other ↦ are.sized k z other.1
    ];
    each = λ n l at_n. ((λ h. (are.each n l at_n).0 ((same_locations n).1 h)), (λ h. (same_locations n).0 ((are.each n l at_n).1 h)));
  }

  -- what wasn't seen is made, and seen
  pub made_set : (due : ℕ → Bool) (from into grown : ℕ → ℕ → Bool) → Includes into grown → ((e : ℕ) → holds now.seen e ≡ (from r.location e || holds r.seen e))
      → ((l m : ℕ) → MakesAt c r.location (λ e. from r.location e && not (holds r.seen e)) l m → IsTrue (grown l m)) → AreMadeUpTo c i readings due from into → AreMadeUpTo c (i + 1) (slice_set readings i now) due from grown
  made_set due from into grown more sees makes was = record {
    made = λ k z at_k l m h. elim (set_cases readings i k now z at_k within) [
      | inl new ↦ made_here l m (subst (λ (x : Reading). MakesAt c x.location (holds x.seen) l m) new.1 h)
      | inr other ↦ more l m (was.made k z other.1 l m h)
    ];
    seen = λ k z at_k h. elim (set_cases readings i k now z at_k within) [
      | inl new ↦ subst (λ (x : Reading). (e : ℕ) → IsTrue (from x.location e) → IsTrue (holds x.seen e)) (sym new.1) (λ e held. sees e ∙ or_left (from r.location e) (holds r.seen e) (subst (λ (n : ℕ). IsTrue (from n e)) same held))
      | inr other ↦ was.seen k z other.1 (earlier k other.0 z h)
    ];
  }
    where
      earlier : (k : ℕ) → k ≢ i → (z : Reading) → (k < i + 1) ⊎ (due z.location ≡ false) → (k < i) ⊎ (due z.location ≡ false)
      earlier k ne z (inl lt) = inl (omega (arith, lt, ne))
      earlier k ne z (inr not_due) = inr not_due

      made_here : (l m : ℕ) → MakesAt c now.location (holds now.seen) l m → IsTrue (grown l m)
      made_here l m h =
          let k = subst (λ (n : ℕ). MakesAt c n (holds now.seen) l m) same h in
          let e = k.1.1.0 in
          elim (cases_Bool (holds r.seen e)) [
            | inl early ↦ more l m (was.made i r at l m (k.0, (k.1.0, (e, (early, k.1.1.1.1)))))
            | inr late ↦ elim (or_cases (from r.location e) (holds r.seen e) (sym (sees e) ∙ k.1.1.1.0)) [
              | inl held ↦ makes l m (k.0, (k.1.0, (e, (and_from (from r.location e) (not (holds r.seen e)) held (not_from_false (holds r.seen e) late), k.1.1.1.1))))
              | inr early ↦ absurd (both_ways (holds r.seen e) late early)
            ]
          ]

-- what is made at one of the locations
pub some_from : (c : Crossing) (first readings : List Reading) (i : ℕ) (r : Reading) (from a b : ℕ → ℕ → Bool) → HaveSameLocations first readings → slice_get readings i ≡ Some r → GainsSome a b (MakesAt c r.location (from r.location)) → GainsSome a b (MakesFrom c first from)
some_from c first readings i r from a b same at some l m = ((some l m).0, λ h. elim ((some l m).1 h) [ inl was ↦ inl was | inr new ↦ inr (r.location, ((same r.location).1 (i, (r, (at, refl))), new)) ])

pub same_more : (first before after : List Reading) → HaveSameLocations first before → HaveSameLocations before after → HaveSameLocations first after
same_more first before after was more n = ((λ h. (more n).0 ((was n).0 h)), (λ h. (was n).1 ((more n).1 h)))

-- ---- the locations that are read

pub readings_none : (c : Crossing) → AreSizedReadings c []
readings_none c k r at = absurd (omega (arith, slice_get_within [] k r at))

pub unseen_none : (k : ℕ) (r : Reading) → slice_get [] k ≡ Some r → (e : ℕ) → holds r.seen e ≡ false
unseen_none k r at e = absurd (omega (arith, slice_get_within [] k r at))

pub readings_more : (c : Crossing) (i : ℕ) (readings : List Reading) (r : Reading) → i < length c.table.locations → IsUnseen (length c.table.elements) i r → AreSizedReadings c readings → AreSizedReadings c (readings ++ r ∷ [])
readings_more c i readings r lt is sized k z at =
    elim (push_cases readings k r z at) [
      | inl was ↦ sized k z was
      | inr new ↦ subst (λ (x : Reading). (x.location < length c.table.locations) × (x.seen.limit ≡ length c.table.elements)) (sym new.1) (subst (λ (n : ℕ). n < length c.table.locations) (sym is.stands) lt, is.limit)
    ]

pub unseen_more : (elements i : ℕ) (readings : List Reading) (r : Reading) → IsUnseen elements i r → ((k : ℕ) (z : Reading) → slice_get readings k ≡ Some z → (e : ℕ) → holds z.seen e ≡ false)
    → (k : ℕ) (z : Reading) → slice_get (readings ++ r ∷ []) k ≡ Some z → (e : ℕ) → holds z.seen e ≡ false
unseen_more elements i readings r is was k z at e =
    elim (push_cases readings k r z at) [
      | inl early ↦ was k z early e
      | inr new ↦ subst (λ (x : Reading). holds x.seen e ≡ false) (sym new.1) (is.none e)
    ]

module _ (test : ℕ → Bool) (i : ℕ) (readings : List Reading) (was : (n : ℕ) → IsReadAt readings n ↔ ((n < i) × IsTrue (test n))) where
  pub read_more : (elements : ℕ) (r : Reading) → IsUnseen elements i r → IsTrue (test i) → (n : ℕ) → IsReadAt (readings ++ r ∷ []) n ↔ ((n < i + 1) × IsTrue (test n))
  read_more elements r is passes_it n = (
    λ h.
        elim (push_cases readings h.0 r h.1.0 h.1.1.0) [
          | inl early ↦ let p = (was n).0 (h.0, (h.1.0, (early, h.1.1.1))) in let lt : n < i = p.0 in (omega (arith, lt), p.1)
          | inr new ↦
              let at : n ≡ i = sym h.1.1.1 ∙ ap (λ (x : Reading). x.location) new.1 ∙ is.stands in
              (omega (arith, at), subst (λ (k : ℕ). IsTrue (test k)) (sym at) passes_it)
        ],
    λ h.
        elim (cases_Bool (nat_eq n i)) [
          | inl same ↦ (length readings, (r, (push_new readings r, is.stands ∙ sym (eqb-true n i same))))
          | inr other ↦
              let ne : n ≢ i = λ e. both_ways (nat_eq n i) other (eq-eqb n i e) in
              let lt : n < i + 1 = h.0 in
              let k = (was n).1 (omega (arith, lt, ne), h.1) in
              (k.0, (k.1.0, (push_early readings k.0 r k.1.0 k.1.1.0, k.1.1.1)))
        ],
  )

  pub read_past : test i ≡ false → (n : ℕ) → IsReadAt readings n ↔ ((n < i + 1) × IsTrue (test n))
  read_past fails n = (
    λ h. let p = (was n).0 h in let lt : n < i = p.0 in (omega (arith, lt), p.1),
    λ h.
        let ne : n ≢ i = λ e. both_ways (test i) fails (subst (λ (k : ℕ). IsTrue (test k)) e h.1) in
        let lt : n < i + 1 = h.0 in
        (was n).1 (omega (arith, lt, ne), h.1),
  )

pub read_none : (test : ℕ → Bool) (n : ℕ) → IsReadAt [] n ↔ ((n < 0) × IsTrue (test n))
read_none test n = ((λ h. absurd (omega (arith, slice_get_within [] h.0 h.1.0 h.1.1.0))), (λ h. absurd (omega (arith, h.0))))

pub read_all : (test : AbsPlace → Bool) (xs : List AbsPlace) (i : ℕ) (readings : List Reading) → length xs ≤ i → ((n : ℕ) → IsReadAt readings n ↔ ((n < i) × IsTrue (passes test (slice_get xs n))))
    → (n : ℕ) (l : AbsPlace) → slice_get xs n ≡ Some l → IsReadAt readings n ↔ IsTrue (test l)
read_all test xs i readings past was n l at = (
  λ h. subst (λ (o : Option AbsPlace). IsTrue (passes test o)) at ((was n).0 h).1,
  λ h. let lt : n < length xs = slice_get_within xs n l at in (was n).1 (omega (arith, lt, past), subst (λ (o : Option AbsPlace). IsTrue (passes test o)) (sym at) h),
)
