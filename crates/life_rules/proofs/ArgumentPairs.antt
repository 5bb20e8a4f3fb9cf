-- What is wrong with the arguments of a call by two facts, from what is given for each.
use Rattle.std.proofs.Common.{◌≡◌, ◌⊎◌, Bool, true, true≢false, List, [], ◌∷◌, ◌++◌, Contains, map, inl, inr, refl, ap, subst, sym}
use Rattle.std.specs.Prelude.{◌&&◌, ◌||◌}
use Rattle.std.specs.List.{flat_map}
use Rattle.std.proofs.lemmas.List.Elements.{Contains-append_cases, Contains-append_left, Contains-append_right}
use Rattle.life_core.specs.Function.{function_of}
use Rattle.life_core.specs.Operands.{argument_of}
use Rattle.life_pset.specs.Elements.{Input}
use Rattle.life_pset.specs.Places.{overlap}
use Rattle.life_pset.specs.Shapes.{is_variable_place}
use Rattle.life_pset.specs.contracts.element.AbsPlacePartialEq.TheImpl.{ghosts as compared}
use Rattle.life_pset.specs.declared.element.AbsPlace.{AbsPlace}
use Rattle.life_pset.specs.declared.element.Element.{Element}
use Rattle.life_pset.specs.declared.element.Element.TheVariants as element
use Rattle.life_pset.specs.declared.element.Fact.{Fact}
use Rattle.life_contract.specs.Arguments.{is_argument_of}
use Rattle.life_contract.specs.Breaking.{of_pairs, overlapping}
use Rattle.life_contract.specs.Inputs.{is_mutating}
use Rattle.life_rules.proofs.Giving.{at_head, cons_cases, flat_map_from, flat_map_into, in_tail, none_in_empty}
use Rattle.life_rules.proofs.EachTwo.{then_pairs}
use Rattle.life_rules.proofs.GivenPlaces.{any_from, any_into, both_true, in_arm, into_arm, overlap_from, overlap_into, true_and}
use Rattle.life_rules.specs.Arguing.{moved_argument, moved_behind}
use Rattle.life_rules.specs.CallsAt.{moved_in, overlapping_in}
use Rattle.life_rules.specs.Given.{broken_by_two_in, given_input, inputs_in, is_among, moved_by, moved_given, overlapping_given, some_overlap, target_in, target_of, AreGiven, IsGiven}
use Rattle.life_rules.specs.Pairs.{Adds, IsOfPair}
use Rattle.life_rules.specs.declared.arguing.CallAt.{CallAt}
use Rattle.life_rules.specs.declared.diag.Diag.{Diag}
use Rattle.life_rules.specs.declared.given.Given.{Given}

-- ---- lists

-- the second stands behind the first
abbrev pub Behind : {A : Type 0} → List A → (x y : A) → Type 0
Behind [] x y = ⊥
Behind (z ∷ zs) x y = ((z ≡ x) × Contains zs y) ⊎ Behind zs x y

behind_there : {A : Type 0} (zs : List A) (x y : A) → Behind zs x y → Contains zs x × Contains zs y
behind_there [] x y h = absurd h
behind_there (z ∷ zs) x y h =
    elim h [
      | inl here ↦ (subst (Contains (z ∷ zs)) here.0 (at_head z zs), in_tail z zs y here.1)
      | inr later ↦ let r = behind_there zs x y later in (in_tail z zs x r.0, in_tail z zs y r.1)
    ]

pairs_from : {A B : Type 0} (g : A → A → List B) (xs : List A) (d : B) → Contains (of_pairs g xs) d → (x : A) × ((y : A) × (Behind xs x y × Contains (g x y) d))
pairs_from g [] d h = absurd (none_in_empty d h)
pairs_from g (z ∷ zs) d h =
    elim (Contains-append_cases (flat_map (g z) zs) (of_pairs g zs) d h) [
      | inl here ↦ let r = flat_map_from (g z) zs d here in (z, (r.0, (inl (refl, r.1.0), r.1.1)))
      | inr later ↦ let r = pairs_from g zs d later in (r.0, (r.1.0, (inr r.1.1.0, r.1.1.1)))
    ]

pairs_into : {A B : Type 0} (g : A → A → List B) (xs : List A) (x y : A) (d : B) → Behind xs x y → Contains (g x y) d → Contains (of_pairs g xs) d
pairs_into g [] x y d h k = absurd h
pairs_into g (z ∷ zs) x y d h k =
    elim h [
      | inl here ↦ Contains-append_left (flat_map (g z) zs) (of_pairs g zs) d (flat_map_into (g z) zs y d here.1 (subst (λ w. Contains (g w y) d) (sym here.0) k))
      | inr later ↦ Contains-append_right (flat_map (g z) zs) (of_pairs g zs) d (pairs_into g zs x y d later k)
    ]

flat_map_of_map : {A B C : Type 0} (h : A → B) (g : B → List C) (xs : List A) → flat_map g (map h xs) ≡ flat_map (λ x. g (h x)) xs
flat_map_of_map h g [] = refl
flat_map_of_map h g (x ∷ xs) = ap (λ r. g (h x) ++ r) (flat_map_of_map h g xs)

pairs_of_map : {A B C : Type 0} (h : A → B) (g : B → B → List C) (xs : List A) → of_pairs g (map h xs) ≡ of_pairs (λ x y. g (h x) (h y)) xs
pairs_of_map h g [] = refl
pairs_of_map h g (x ∷ xs) = rw (flat_map_of_map h (g (h x)) xs, pairs_of_map h g xs) refl

-- ---- the places where an argument may point

module _ (c : CallAt) (facts : List Fact) where
  abbrev is_about : Input → Fact → Bool
  is_about i fact = is_argument_of (map argument_of c.arguments.now) i fact.location

  abbrev is_mutating_in : Input → Bool
  is_mutating_in i = is_mutating c.callee.now.types.now c.callee.now.sig.now i

  at_from : (e : Element) (p : AbsPlace) → Contains (target_of e) p → e ≡ element.At p
  at_from (element.At q) p h = elim (cons_cases q [] p h) [ inl is ↦ ap element.At is | inr none ↦ absurd (none_in_empty p none) ]
  at_from _ p h = absurd (none_in_empty p h)

  -- some fact says so
  target_from : (g : Given) → IsGiven c facts g → (p : AbsPlace) → Contains g.targets p → (a : Fact) × (Contains facts a × ((is_about (given_input g) a ≡ true) × (a.element ≡ element.At p)))
  target_from g is p h =
      elim ((is.1 p).0 h) [
        | inl none ↦ absurd (none_in_empty p none)
        | inr told ↦
            let a = flat_map_from (target_in c (given_input g)) facts p told in
            let arm = in_arm (is_about (given_input g) a.0) (target_of a.0.element) p a.1.1 in
            (a.0, (a.1.0, (arm.0, at_from a.0.element p arm.1)))
      ]

  target_into : (g : Given) → IsGiven c facts g → (p : AbsPlace) (a : Fact) → Contains facts a → is_about (given_input g) a ≡ true → a.element ≡ element.At p → Contains g.targets p
  target_into g is p a there about at =
      (is.1 p).1 (inr (flat_map_into (target_in c (given_input g)) facts a p there
      (into_arm (is_about (given_input g) a) (target_of a.element) p about (subst (λ (e : Element). Contains (target_of e) p) (sym at) (at_head p [])))))

  -- ---- an owner that is moved from

  abbrev moved_argument_in : Input → Element → List Diag
  moved_argument_in i e = moved_argument c.at.now.function c.at.now.spot.place c.number i e

  abbrev moved_behind_in : Input → Element → Fact → List Diag
  moved_behind_in i e b = moved_behind c.callee.now.types.now c.at.now.function (function_of c.at.now.f.now) c.at.now.spot.place c.number i e b

  moved_from : (g : Given) → IsGiven c facts g → (b : Fact) (d : Diag) → Contains (moved_given c g b) d → (a : Fact) × (Contains facts a × Contains (moved_in c a b (given_input g)) d)
  moved_from g is b d h = by_element b.element refl h
    where
      by_element : (e : Element) → b.element ≡ e → Contains (moved_by c g b.location e) d → (a : Fact) × (Contains facts a × Contains (moved_in c a b (given_input g)) d)
      by_element (element.Moved cause) at k =
          let arm = in_arm _ _ d k in
          let tests = both_true (is_among g.targets b.location) (is_variable_place c.callee.now.types.now (function_of c.at.now.f.now) b.location) arm.0 in
          let p = any_from (compared.eq b.location) g.targets tests.0 in
          let a = target_from g is p.0 p.1.0 in (
            a.0,
            (
              a.1.0,
              into_arm (is_about (given_input g) a.0) (moved_behind_in (given_input g) a.0.element b) d a.1.1.0
                  (subst (λ (e : Element). Contains (moved_behind_in (given_input g) e b) d) (sym a.1.1.1)
                  (into_arm (compared.eq b.location p.0 && is_variable_place c.callee.now.types.now (function_of c.at.now.f.now) b.location) (moved_argument_in (given_input g) b.element) d
                  (true_and (compared.eq b.location p.0) (is_variable_place c.callee.now.types.now (function_of c.at.now.f.now) b.location) p.1.1 tests.1)
                  (subst (λ (e : Element). Contains (moved_argument_in (given_input g) e) d) (sym at) arm.1))),
            ),
          )
      by_element _ at k = absurd (none_in_empty d k)

  moved_into : (g : Given) → IsGiven c facts g → (a b : Fact) (d : Diag) → Contains facts a → Contains (moved_in c a b (given_input g)) d → Contains (moved_given c g b) d
  moved_into g is a b d there h =
      let arm = in_arm (is_about (given_input g) a) (moved_behind_in (given_input g) a.element b) d h in
      by_argument arm.0 a.element refl arm.1
    where
      by_element : (p : AbsPlace) → Contains g.targets p → compared.eq b.location p ≡ true → is_variable_place c.callee.now.types.now (function_of c.at.now.f.now) b.location ≡ true → (e : Element) → Contains (moved_argument_in (given_input g) e) d → Contains (moved_by c g b.location e) d
      by_element p points same whole (element.Moved cause) k =
          into_arm _ _ d (true_and (is_among g.targets b.location) (is_variable_place c.callee.now.types.now (function_of c.at.now.f.now) b.location) (any_into (compared.eq b.location) g.targets p points same) whole) k
      by_element p points same whole _ k = absurd (none_in_empty d k)

      by_argument : is_about (given_input g) a ≡ true → (e : Element) → a.element ≡ e → Contains (moved_behind_in (given_input g) e b) d → Contains (moved_given c g b) d
      by_argument about (element.At p) at k =
          let arm = in_arm _ _ d k in
          let tests = both_true (compared.eq b.location p) (is_variable_place c.callee.now.types.now (function_of c.at.now.f.now) b.location) arm.0 in
          by_element p (target_into g is p a there about at) tests.0 tests.1 b.element arm.1
      by_argument about _ at k = absurd (none_in_empty d k)

  -- ---- arguments that overlap

  overlapping_at_places : (e f : Element) → overlapping e f ≡ true → (p : AbsPlace) × ((q : AbsPlace) × ((e ≡ element.At p) × ((f ≡ element.At q) × (overlap p q ≡ true))))
  overlapping_at_places (element.At p) (element.At q) h = (p, (q, (refl, (refl, h))))
  overlapping_at_places (element.At p) _ h = absurd (true≢false (sym h))
  overlapping_at_places _ f h = absurd (true≢false (sym h))

  apart_from : (g h : Given) → IsGiven c facts g → IsGiven c facts h → (d : Diag) → Contains (overlapping_given c g h) d
      → (a : Fact) × ((b : Fact) × (Contains facts a × (Contains facts b × Contains (overlapping_in c a b (given_input g) (given_input h)) d)))
  apart_from g h first second d k =
      let arm = in_arm _ _ d k in
      let tests = both_true (g.is_mutating || h.is_mutating) (some_overlap g.targets h.targets) arm.0 in
      let places = overlap_from g.targets h.targets tests.1 in
      let a = target_from g first places.0 places.1.1.0 in
      let b = target_from h second places.1.0 places.1.1.1.0 in
      let mutating : (is_mutating_in (given_input g) || is_mutating_in (given_input h)) ≡ true = rw (← first.0, ← second.0) tests.0 in
      let both : overlapping a.0.element b.0.element ≡ true = rw (a.1.1.1, b.1.1.1) places.1.1.1.1 in (
        a.0,
        (
          b.0,
          (
            a.1.0,
            (
              b.1.0,
              into_arm ((is_about (given_input g) a.0 && is_about (given_input h) b.0) && ((is_mutating_in (given_input g) || is_mutating_in (given_input h)) && overlapping a.0.element b.0.element)) _ d
                  (true_and (is_about (given_input g) a.0 && is_about (given_input h) b.0) ((is_mutating_in (given_input g) || is_mutating_in (given_input h)) && overlapping a.0.element b.0.element)
                  (true_and (is_about (given_input g) a.0) (is_about (given_input h) b.0) a.1.1.0 b.1.1.0)
                  (true_and (is_mutating_in (given_input g) || is_mutating_in (given_input h)) (overlapping a.0.element b.0.element) mutating both))
                  arm.1,
            ),
          ),
        ),
      )

  apart_into : (g h : Given) → IsGiven c facts g → IsGiven c facts h → (a b : Fact) (d : Diag) → Contains facts a → Contains facts b → Contains (overlapping_in c a b (given_input g) (given_input h)) d → Contains (overlapping_given c g h) d
  apart_into g h first second a b d in_a in_b k =
      let arm = in_arm _ _ d k in
      let tests = both_true (is_about (given_input g) a && is_about (given_input h) b) ((is_mutating_in (given_input g) || is_mutating_in (given_input h)) && overlapping a.element b.element) arm.0 in
      let about = both_true (is_about (given_input g) a) (is_about (given_input h) b) tests.0 in
      let breaks = both_true (is_mutating_in (given_input g) || is_mutating_in (given_input h)) (overlapping a.element b.element) tests.1 in
      let places = overlapping_at_places a.element b.element breaks.1 in
      let mutating : (g.is_mutating || h.is_mutating) ≡ true = rw (first.0, second.0) breaks.0 in
      into_arm ((g.is_mutating || h.is_mutating) && some_overlap g.targets h.targets) _ d
      (true_and (g.is_mutating || h.is_mutating) (some_overlap g.targets h.targets) mutating
      (overlap_into g.targets h.targets (places.0, (places.1.0, (target_into g first places.0 a in_a about.0 places.1.1.0, (target_into h second places.1.0 b in_b about.1 places.1.1.1.0, places.1.1.1.1))))))
      arm.1

  -- ---- all inputs

  module _ (all : List Given) (are : AreGiven c facts all) where
    every_moved : (before after : List Diag) → after ≡ before ++ flat_map (λ g. flat_map (moved_given c g) facts) all → Adds (IsOfPair (λ a b. flat_map (moved_in c a b) (inputs_in c)) facts) before after
    every_moved before after is d =
        let added = flat_map (λ g. flat_map (moved_given c g) facts) all in (
          λ h.
              elim (Contains-append_cases before added d (subst (λ (ds : List Diag). Contains ds d) is h)) [
                | inl was ↦ inl was
                | inr new ↦
                    let g = flat_map_from (λ g. flat_map (moved_given c g) facts) all d new in
                    let b = flat_map_from (moved_given c g.0) facts d g.1.1 in
                    let a = moved_from g.0 (are.1 g.0 g.1.0) b.0 d b.1.1 in
                    inr (
                      a.0,
                      (
                        b.0,
                        (
                          a.1.0,
                          (
                            b.1.0,
                            subst (λ (is : List Input). Contains (flat_map (moved_in c a.0 b.0) is) d) are.0
                                (subst (λ (ds : List Diag). Contains ds d) (sym (flat_map_of_map given_input (moved_in c a.0 b.0) all)) (flat_map_into (λ g. moved_in c a.0 b.0 (given_input g)) all g.0 d g.1.0 a.1.1)),
                          ),
                        ),
                      ),
                    )
              ],
          λ h.
              subst (λ (ds : List Diag). Contains ds d) (sym is)
              (elim h [
                | inl was ↦ Contains-append_left before added d was
                | inr new ↦
                    let listed = subst (λ (ds : List Diag). Contains ds d) (flat_map_of_map given_input (moved_in c new.0 new.1.0) all) (subst (λ (is : List Input). Contains (flat_map (moved_in c new.0 new.1.0) is) d) (sym are.0) new.1.1.1.1) in
                    let g = flat_map_from (λ g. moved_in c new.0 new.1.0 (given_input g)) all d listed in
                    Contains-append_right before added d (flat_map_into (λ g. flat_map (moved_given c g) facts) all g.0 d g.1.0
                    (flat_map_into (moved_given c g.0) facts new.1.0 d new.1.1.1.0 (moved_into g.0 (are.1 g.0 g.1.0) new.0 new.1.0 d new.1.1.0 g.1.1)))
              ]),
        )

    every_overlap : (before after : List Diag) → after ≡ before ++ of_pairs (overlapping_given c) all → Adds (IsOfPair (λ a b. of_pairs (overlapping_in c a b) (inputs_in c)) facts) before after
    every_overlap before after is d =
        let added = of_pairs (overlapping_given c) all in (
          λ h.
              elim (Contains-append_cases before added d (subst (λ (ds : List Diag). Contains ds d) is h)) [
                | inl was ↦ inl was
                | inr new ↦
                    let r = pairs_from (overlapping_given c) all d new in
                    let there = behind_there all r.0 r.1.0 r.1.1.0 in
                    let x = apart_from r.0 r.1.0 (are.1 r.0 there.0) (are.1 r.1.0 there.1) d r.1.1.1 in
                    inr (
                      x.0,
                      (
                        x.1.0,
                        (
                          x.1.1.0,
                          (
                            x.1.1.1.0,
                            subst (λ (is : List Input). Contains (of_pairs (overlapping_in c x.0 x.1.0) is) d) are.0
                                (subst (λ (ds : List Diag). Contains ds d) (sym (pairs_of_map given_input (overlapping_in c x.0 x.1.0) all))
                                (pairs_into (λ g h. overlapping_in c x.0 x.1.0 (given_input g) (given_input h)) all r.0 r.1.0 d r.1.1.0 x.1.1.1.1)),
                          ),
                        ),
                      ),
                    )
              ],
          λ h.
              subst (λ (ds : List Diag). Contains ds d) (sym is)
              (elim h [
                | inl was ↦ Contains-append_left before added d was
                | inr new ↦
                    let listed = subst (λ (ds : List Diag). Contains ds d) (pairs_of_map given_input (overlapping_in c new.0 new.1.0) all) (subst (λ (is : List Input). Contains (of_pairs (overlapping_in c new.0 new.1.0) is) d) (sym are.0) new.1.1.1.1) in
                    let r = pairs_from (λ g h. overlapping_in c new.0 new.1.0 (given_input g) (given_input h)) all d listed in
                    let there = behind_there all r.0 r.1.0 r.1.1.0 in
                    Contains-append_right before added d (pairs_into (overlapping_given c) all r.0 r.1.0 d r.1.1.0 (apart_into r.0 r.1.0 (are.1 r.0 there.0) (are.1 r.1.0 there.1) new.0 new.1.0 d new.1.1.0 new.1.1.1.0 r.1.1.1))
              ]),
        )

    pub every_broken : (before between after : List Diag) → between ≡ before ++ flat_map (λ g. flat_map (moved_given c g) facts) all → after ≡ between ++ of_pairs (overlapping_given c) all → Adds (IsOfPair (broken_by_two_in c) facts) before after
    every_broken before between after first second =
        then_pairs (λ a b. flat_map (moved_in c a b) (inputs_in c)) (λ a b. of_pairs (overlapping_in c a b) (inputs_in c)) facts before between after (every_moved before between first) (every_overlap between after second)
