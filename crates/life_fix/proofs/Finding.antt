-- What is wrong at the points of a function, collected from the rows of a solution.
use Rattle.std.proofs.Common.{◌≡◌, ◌⊎◌, ◌↔◌, ℕ, zero, suc, ◌+◌, ◌<◌, ◌≤◌, refl, ap, sym, ◌∙◌, inl, inr, Bool, true, false, arith, subst, List, [], ◌∷◌, ◌++◌, length, map, option_map, Option, Some, None, Contains, slice_get, add-one}
use Rattle.std.specs.List.{flat_map}
use Rattle.std.proofs.lemmas.Bool.{cases_eq, cases_lt}
use Rattle.std.proofs.lemmas.List.{length-map}
use Rattle.std.proofs.lemmas.List.Elements.{Contains-append_cases, Contains-append_left, Contains-append_right}
use Rattle.std.proofs.lemmas.Option.{slice_get-map, slice_get_past, slice_get_within}
use Rattle.life_types.specs.Types.{Types}
use Rattle.life_core.specs.Function.{Function}
use Rattle.life_core.specs.Linked.{Linked, code_of, numbered, points_of, spot_of, spot_of_linked}
use Rattle.life_core.specs.Node.{spot_seen}
use Rattle.life_core.specs.Tree.{Spot}
use Rattle.life_core.specs.declared.node.SpotRef.{SpotRef}
use Rattle.life_core.specs.declared.stmt.Point.{Point}
use Rattle.life_contract.specs.Signatures.{Signature}
use Rattle.life_pset.proofs.Members.{none_in_empty, cons_cases}
use Rattle.std.specs.Prelude.{IsTrue}
use Rattle.life_pset.specs.Table.{Table, IsOf, Names, table_of}
use Rattle.life_pset.specs.declared.element.Fact.{Fact}
use Rattle.life_rules.proofs.Giving.{at_head, in_tail, flat_map_from, flat_map_into, one_premise, two_premises, AllIn}
use Rattle.life_rules.specs.Deriving.{Derives, entry, along}
use Rattle.life_rules.specs.Diagnosing.{diags_at, diags_of_two, IsDiagnosed, Tells}
use Rattle.life_rules.specs.FactSets.{Holds}
use Rattle.life_rules.specs.Lines.{Line}
use Rattle.life_rules.specs.Listing.{IsListing}
use Rattle.life_rules.specs.Pairs.{Adds, IsOfPair}
use Rattle.life_rules.specs.declared.diag.Diag.{Diag}
use Rattle.life_fix.specs.Finding.{all_wrong, IsWrongBy, IsWrongIn}
use Rattle.life_rules.specs.ToldAt.{spot_tells}
use Rattle.life_rules.proofs.Untold.{first_untold, second_untold, untold}
use Rattle.life_fix.specs.Told.{AreTold}
use Rattle.life_fix.specs.Solution.{IsSolution, Solved, numbered_row, row_of}
use Rattle.life_fix.proofs.PointRows.{there}

-- a listing of the same wrongs
pub same_wrongs : {W V : Diag → Type 0} {line : Diag → Line} {ds : List Diag} → ((d : Diag) → W d ↔ V d) → IsListing W line ds → IsListing V line ds
same_wrongs same listing = record {
  sorted = listing.sorted;
  only = λ d h. (same d).0 (listing.only d h);
  each = λ d wrong. listing.each d ((same d).1 wrong);
}

-- ---- one row

-- all that facts make wrong is what some of them do
told_of_all : (sigs : List Signature) (types : Types) (function : ℕ) (f : Function) (spot : Spot) (facts : List Fact) (d : Diag) → Contains (all_wrong sigs types function f spot facts) d
    → (premises : List Fact) × (AllIn premises facts × Tells sigs types function f (Some spot) premises d)
told_of_all sigs types function f spot facts d h =
    elim (Contains-append_cases (flat_map (diags_at sigs types function f (Some spot)) facts) _ d h) [
      | inl one ↦
          let x = flat_map_from (diags_at sigs types function f (Some spot)) facts d one in
          (x.0 ∷ [], (one_premise facts x.0 x.1.0, x.1.1))
      | inr two ↦
          let x = flat_map_from (λ a. flat_map (diags_of_two sigs types function f (Some spot) a) facts) facts d two in
          let y = flat_map_from (diags_of_two sigs types function f (Some spot) x.0) facts d x.1.1 in
          (x.0 ∷ y.0 ∷ [], (two_premises facts x.0 y.0 x.1.0 y.1.0, y.1.1))
    ]

all_of_told : (sigs : List Signature) (types : Types) (function : ℕ) (f : Function) (spot : Spot) (facts premises : List Fact) (d : Diag) → AllIn premises facts → Tells sigs types function f (Some spot) premises d
    → Contains (all_wrong sigs types function f spot facts) d
all_of_told sigs types function f spot facts [] d within h = absurd h
all_of_told sigs types function f spot facts (a ∷ []) d within h =
    Contains-append_left (flat_map (diags_at sigs types function f (Some spot)) facts) _ d
    (flat_map_into (diags_at sigs types function f (Some spot)) facts a d (within a (at_head a [])) h)
all_of_told sigs types function f spot facts (a ∷ b ∷ []) d within h =
    Contains-append_right (flat_map (diags_at sigs types function f (Some spot)) facts) _ d
    (flat_map_into (λ x. flat_map (diags_of_two sigs types function f (Some spot) x) facts) facts a d (within a (at_head a (b ∷ [])))
    (flat_map_into (diags_of_two sigs types function f (Some spot) a) facts b d (within b (in_tail a (b ∷ []) b (at_head b []))) h))
all_of_told sigs types function f spot facts (a ∷ b ∷ c ∷ more) d within h = absurd h

-- what is told is told of locations where something may be
module _ (sigs : List Signature) (types : Types) (function : ℕ) (f : Function) (spot : Spot) where
  told_or_not : (b : Bool) → (b ≡ true) ⊎ (b ≡ false)
  told_or_not true = inl refl
  told_or_not false = inr refl

  one_told : (a : Fact) (d : Diag) → Contains (diags_at sigs types function f (Some spot) a) d → IsTrue (spot_tells types f (Some spot) a.location)
  one_told a d h =
      elim (told_or_not (spot_tells types f (Some spot) a.location)) [
        | inl told ↦ told
        | inr untold_here ↦ absurd (none_in_empty d (subst (λ (ds : List Diag). Contains ds d) (untold sigs types function f (Some spot) a untold_here) h))
      ]

  first_told : (a b : Fact) (d : Diag) → Contains (diags_of_two sigs types function f (Some spot) a b) d → IsTrue (spot_tells types f (Some spot) a.location)
  first_told a b d h =
      elim (told_or_not (spot_tells types f (Some spot) a.location)) [
        | inl told ↦ told
        | inr untold_here ↦ absurd (none_in_empty d (subst (λ (ds : List Diag). Contains ds d) (first_untold sigs types function f (Some spot) a b untold_here) h))
      ]

  second_told : (a b : Fact) (d : Diag) → Contains (diags_of_two sigs types function f (Some spot) a b) d → IsTrue (spot_tells types f (Some spot) b.location)
  second_told a b d h =
      elim (told_or_not (spot_tells types f (Some spot) b.location)) [
        | inl told ↦ told
        | inr untold_here ↦ absurd (none_in_empty d (subst (λ (ds : List Diag). Contains ds d) (second_untold sigs types function f (Some spot) a b untold_here) h))
      ]

  all_told : (premises : List Fact) (d : Diag) → Tells sigs types function f (Some spot) premises d → (x : Fact) → Contains premises x → IsTrue (spot_tells types f (Some spot) x.location)
  all_told [] d h x in_premises = absurd h
  all_told (a ∷ []) d h x in_premises =
      elim (cons_cases a [] x in_premises) [
        | inl is ↦ subst (λ (y : Fact). IsTrue (spot_tells types f (Some spot) y.location)) is (one_told a d h)
        | inr none ↦ absurd (none_in_empty x none)
      ]
  all_told (a ∷ b ∷ []) d h x in_premises =
      elim (cons_cases a (b ∷ []) x in_premises) [
        | inl is ↦ subst (λ (y : Fact). IsTrue (spot_tells types f (Some spot) y.location)) is (first_told a b d h)
        | inr rest ↦ elim (cons_cases b [] x rest) [
          | inl is ↦ subst (λ (y : Fact). IsTrue (spot_tells types f (Some spot) y.location)) is (second_told a b d h)
          | inr none ↦ absurd (none_in_empty x none)
        ]
      ]
  all_told (a ∷ b ∷ c ∷ more) d h x in_premises = absurd h

-- what each fact makes wrong, and then what each two do, is all
pub all_added : (sigs : List Signature) (types : Types) (function : ℕ) (f : Function) (spot : Spot) (facts : List Fact) (old between new : List Diag) → between ≡ old ++ flat_map (diags_at sigs types function f (Some spot)) facts
    → Adds (IsOfPair (diags_of_two sigs types function f (Some spot)) facts) between new → Adds (Contains (all_wrong sigs types function f spot facts)) old new
all_added sigs types function f spot facts old between new is added d =
    let one = diags_at sigs types function f (Some spot) in
    let two = diags_of_two sigs types function f (Some spot) in
    let each = flat_map one facts in
    let pairs = flat_map (λ a. flat_map (two a) facts) facts in (
      λ h.
          elim ((added d).0 h) [
            | inl earlier ↦ elim (Contains-append_cases old each d (subst (λ (ds : List Diag). Contains ds d) is earlier)) [ inl was ↦ inl was | inr wrong ↦ inr (Contains-append_left each pairs d wrong) ]
            | inr wrong ↦ inr (Contains-append_right each pairs d (flat_map_into (λ a. flat_map (two a) facts) facts wrong.0 d wrong.1.1.0 (flat_map_into (two wrong.0) facts wrong.1.0 d wrong.1.1.1.0 wrong.1.1.1.1)))
          ],
      λ h.
          (added d).1 (elim h [
            | inl was ↦ inl (subst (λ (ds : List Diag). Contains ds d) (sym is) (Contains-append_left old each d was))
            | inr wrong ↦ elim (Contains-append_cases each pairs d wrong) [
              | inl by_one ↦ inl (subst (λ (ds : List Diag). Contains ds d) (sym is) (Contains-append_right old each d by_one))
              | inr by_two ↦
                  let a = flat_map_from (λ x. flat_map (two x) facts) facts d by_two in
                  let b = flat_map_from (two a.0) facts d a.1.1 in
                  inr (a.0, (b.0, (a.1.0, (b.1.0, b.1.1))))
            ]
          ]),
    )

-- all that is told makes wrong what all facts of the set do
pub wrong_by_told : (sigs : List Signature) (types : Types) (function : ℕ) (f : Function) (t : Table) (has : ℕ → ℕ → Bool) (spot : Spot) (facts : List Fact) (old new : List Diag) → AreTold types f spot t has facts → Adds (Contains (all_wrong sigs types function f spot facts)) old new
    → Adds (IsWrongBy sigs types function f t has spot) old new
wrong_by_told sigs types function f t has spot facts old new held added d = (
  λ h.
      elim ((added d).0 h) [
        | inl was ↦ inl was
        | inr wrong ↦
            let told = told_of_all sigs types function f spot facts d wrong in
            inr (told.0, ((λ x k. ((held x).0 (told.1.0 x k)).0), told.1.1))
      ],
  λ h.
      (added d).1 (elim h [
        | inl was ↦ inl was
        | inr told ↦ inr (all_of_told sigs types function f spot facts told.0 d (λ x k. (held x).1 (told.1.0 x k, all_told sigs types function f spot told.0 d told.1.1 x k)) told.1.1)
      ]),
)

-- .. and where nothing is told, nothing is wrong
pub wrong_by_none : (sigs : List Signature) (types : Types) (function : ℕ) (f : Function) (t : Table) (has : ℕ → ℕ → Bool) (spot : Spot) (old : List Diag) → AreTold types f spot t has [] → Adds (IsWrongBy sigs types function f t has spot) old old
wrong_by_none sigs types function f t has spot old held =
    wrong_by_told sigs types function f t has spot [] old old held (λ d. (λ h. inl h, λ h. elim h [ inl was ↦ was | inr none ↦ absurd (none_in_empty d none) ]))

-- ---- the points one by one

abbrev pub point_at : ℕ → Point
point_at p = record { 0 = p }

-- derived facts make it wrong at the point
abbrev IsWrongAt : List Signature → Types → ℕ → Function → ℕ → Diag → Type 0
IsWrongAt sigs types function f p d = (facts : List Fact) × (((x : Fact) → Contains facts x → Derives sigs types f (point_at p) x) × Tells sigs types function f (spot_of f (point_at p)) facts d)

-- .. at one of the points up to this one
abbrev IsWrongUpTo : List Signature → Types → ℕ → Function → ℕ → Diag → Type 0
IsWrongUpTo sigs types function f k d = (p : ℕ) × ((p ≤ k) × IsWrongAt sigs types function f p d)

abbrev pub AreFoundUpTo : List Signature → Types → ℕ → Function → ℕ → List Diag → Type 0
AreFoundUpTo sigs types function f k ds = (d : Diag) → Contains ds d ↔ IsWrongUpTo sigs types function f k d

-- where nothing stands, nothing is told
nothing_told : (sigs : List Signature) (types : Types) (function : ℕ) (f : Function) (facts : List Fact) (d : Diag) → Tells sigs types function f None facts d → ⊥
nothing_told sigs types function f [] d h = h
nothing_told sigs types function f (a ∷ []) d h = none_in_empty d h
nothing_told sigs types function f (a ∷ b ∷ []) d h = none_in_empty d h
nothing_told sigs types function f (a ∷ b ∷ c ∷ more) d h = h

-- nothing stands at point 0
pub found_none : (sigs : List Signature) (types : Types) (function : ℕ) (f : Function) → AreFoundUpTo sigs types function f 0 []
found_none sigs types function f d = (
  λ h. absurd (none_in_empty d h),
  λ h. absurd (at_zero h.0 h.1.0 h.1.1),
)
  where
    at_zero : (p : ℕ) → p ≤ 0 → IsWrongAt sigs types function f p d → ⊥
    at_zero zero le at = nothing_told sigs types function f at.0 d at.1.1
    at_zero (suc p) le at = omega (arith, le)

-- the next point
found_next : (sigs : List Signature) (types : Types) (function : ℕ) (f : Function) (k : ℕ) (old new : List Diag) → ((d : Diag) → Contains new d ↔ (Contains old d ⊎ IsWrongAt sigs types function f (k + 1) d)) → AreFoundUpTo sigs types function f k old → AreFoundUpTo sigs types function f (k + 1) new
found_next sigs types function f k old new more was d = (
  λ h.
      elim ((more d).0 h) [
        | inl before ↦ let r = (was d).0 before in (r.0, (omega (arith, r.1.0), r.1.1))
        | inr at ↦ (k + 1, (omega arith, at))
      ],
  λ h.
      elim (cases_eq h.0 (k + 1)) [
        | inl here ↦ (more d).1 (inr (subst (λ (p : ℕ). IsWrongAt sigs types function f p d) here h.1.1))
        | inr other ↦ (more d).1 (inl ((was d).1 (h.0, (omega (arith, h.1.0, other), h.1.1))))
      ],
)

-- ---- what the rows tell

-- what is derived is one of the function's facts
of_table : {sigs : List Signature} {types : Types} {f : Function} {point : Point} {x : Fact} → Derives sigs types f point x → IsOf (table_of types f) x
of_table (entry of in_entry) = of
of_table (along edge premises on_edge before carries) = carries.0

names_one : (t : Table) (l e : ℕ) (x y : Fact) → Names t l e x → Names t l e y → x ≡ y
names_one t l e x y p q = λ i. record {
  location = one_value (sym p.0 ∙ q.0) i;
  element = one_value (sym p.1 ∙ q.1) i;
}
  where
    one_value : {A : Type 0} {a b : A} → Some a ≡ Some b → a ≡ b
    one_value h = cc

-- the row of a point has the facts that are derived there
row_holds : {R : Type 0} (has : R → ℕ → ℕ → Bool) (location_limit element_limit : R → ℕ) (sigs : List Signature) (types : Types) (f : Function) (solution : Solved R) → IsSolution has location_limit element_limit sigs types f solution
    → (point : Point) (row : R) → row_of solution.rows point ≡ Some row → (x : Fact) → Holds solution.table (has row) x ↔ Derives sigs types f point x
row_holds has location_limit element_limit sigs types f solution solves point row at x = (
  λ h.
      let holds : Holds (table_of types f) (has row) x = subst (λ (t : Table). Holds t (has row) x) solves.table h in
      let y = (solves.pairs point row at holds.0 holds.1.0).0 holds.1.1.1 in
      subst (λ (z : Fact). Derives sigs types f point z) (names_one (table_of types f) holds.0 holds.1.0 y.0 x y.1.0 holds.1.1.0) y.1.1,
  λ derives.
      let of = of_table derives in
      subst (λ (t : Table). Holds t (has row) x) (sym solves.table) (of.0, (of.1.0, (of.1.1, (solves.pairs point row at of.0 of.1.0).1 (x, (of.1.1, derives))))),
)

wrong_at : {R : Type 0} (has : R → ℕ → ℕ → Bool) (location_limit element_limit : R → ℕ) (sigs : List Signature) (types : Types) (function : ℕ) (f : Function) (solution : Solved R) → IsSolution has location_limit element_limit sigs types f solution
    → (point : Point) (row : R) (spot : Spot) → row_of solution.rows point ≡ Some row → spot_of f point ≡ Some spot → (d : Diag) → IsWrongBy sigs types function f solution.table (has row) spot d ↔ IsWrongAt sigs types function f point.0 d
wrong_at has location_limit element_limit sigs types function f solution solves point row spot row_is spot_is d =
    let holds = row_holds has location_limit element_limit sigs types f solution solves point row row_is in (
      λ w. (w.0, ((λ x k. (holds x).0 (w.1.0 x k)), subst (λ (o : Option Spot). Tells sigs types function f o w.0 d) (sym spot_is) w.1.1)),
      λ w. (w.0, ((λ x k. (holds x).1 (w.1.0 x k)), subst (λ (o : Option Spot). Tells sigs types function f o w.0 d) spot_is w.1.1)),
    )

-- what stands at the point after k points
spot_after : (f : Function) (refs : List SpotRef) (k : ℕ) (s : SpotRef) → map spot_seen refs ≡ map spot_of_linked (code_of f) → slice_get refs k ≡ Some s → spot_of f (point_at (suc k)) ≡ Some (spot_seen s)
spot_after f refs k s same at =
    sym (slice_get-map spot_of_linked (code_of f) k) ∙ ap (λ (ss : List Spot). slice_get ss k) (sym same) ∙ slice_get-map spot_seen refs k ∙ ap (option_map spot_seen) at

-- the point after k points, with its row
pub found_more : {R : Type 0} (has : R → ℕ → ℕ → Bool) (location_limit element_limit : R → ℕ) (sigs : List Signature) (types : Types) (function : ℕ) (f : Function) (solution : Solved R) (refs : List SpotRef) (k : ℕ) (s : SpotRef) (row : Option R) (old new : List Diag)
    → IsSolution has location_limit element_limit sigs types f solution → map spot_seen refs ≡ map spot_of_linked (code_of f) → length refs ≡ points_of f → slice_get refs k ≡ Some s → row ≡ row_of solution.rows (point_at (k + 1))
    → ((d : Diag) → Contains new d ↔ (Contains old d ⊎ IsWrongIn sigs types function f solution.table has (spot_seen s) row d)) → AreFoundUpTo sigs types function f k old → AreFoundUpTo sigs types function f (k + 1) new
found_more {R = R} has location_limit element_limit sigs types function f solution refs k s row old new solves same count at row_is more was =
    let r = there solution.rows k (omega (arith, slice_get_within refs k s at, count, solves.count)) in
    let is : row ≡ Some r.0 = row_is ∙ ap (numbered_row solution.rows) (add-one k) ∙ r.1 in
    let point = point_at (suc k) in
    let wrong = wrong_at has location_limit element_limit sigs types function f solution solves point r.0 (spot_seen s) r.1 (spot_after f refs k s same at) in
    let step : (d : Diag) → Contains new d ↔ (Contains old d ⊎ IsWrongAt sigs types function f (k + 1) d) =
    λ d. (
      λ h.
          elim ((more d).0 h) [
            | inl before ↦ inl before
            | inr new ↦ inr (subst (λ (p : ℕ). IsWrongAt sigs types function f p d) (sym (add-one k)) ((wrong d).0 (subst (λ (o : Option R). IsWrongIn sigs types function f solution.table has (spot_seen s) o d) is new)))
          ],
      λ h.
          (more d).1 (elim h [
            | inl before ↦ inl before
            | inr at_next ↦ inr (subst (λ (o : Option R). IsWrongIn sigs types function f solution.table has (spot_seen s) o d) (sym is) ((wrong d).1 (subst (λ (p : ℕ). IsWrongAt sigs types function f p d) (add-one k) at_next)))
          ]),
    ) in
    found_next sigs types function f k old new step was

-- no point stands behind the last
none_behind : (code : List Linked) (p : ℕ) → length code < p → option_map spot_of_linked (numbered code p) ≡ None
none_behind code zero lt = absurd (omega (arith, lt))
none_behind code (suc n) lt = ap (option_map spot_of_linked) (slice_get_past code n (omega (arith, lt)))

-- at all points
pub found_all : (sigs : List Signature) (types : Types) (function : ℕ) (f : Function) (refs : List SpotRef) (k : ℕ) (ds : List Diag) → map spot_seen refs ≡ map spot_of_linked (code_of f) → length refs ≤ k → AreFoundUpTo sigs types function f k ds
    → (d : Diag) → Contains ds d ↔ IsDiagnosed sigs types function f d
found_all sigs types function f refs k ds same past found d = (
  λ h. let w = (found d).0 h in (point_at w.0, w.1.1),
  λ w.
      elim (cases_lt k w.0.0) [
        | inl behind ↦
            let long : length (code_of f) ≡ length refs = sym (length-map (code_of f) spot_of_linked) ∙ ap length (sym same) ∙ length-map refs spot_seen in
            let none : spot_of f w.0 ≡ None = none_behind (code_of f) w.0.0 (omega (arith, long, past, behind)) in
            absurd (nothing_told sigs types function f w.1.0 d (subst (λ (s : Option Spot). Tells sigs types function f s w.1.0 d) none w.1.1.1))
        | inr within ↦ (found d).1 (w.0.0, (within, w.1))
      ],
)
