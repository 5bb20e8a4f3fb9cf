-- One run of an edge: what it gives is derived, what each edge carries is there but of what is due for it, and fewer runs are left.
use Rattle.std.proofs.Common.{◌≡◌, ◌≢◌, ℕ, ◌+◌, ◌<◌, ◌≤◌, List, refl, sym, ◌∙◌, inl, inr, ◌⊎◌, arith, subst, Some, Bool, true, false, true≢false, length}
use Rattle.std.proofs.lemmas.Option.{slice_get_within, get_or_from_slice_get, same_Some}
use Rattle.std.specs.Prelude.{IsTrue, Contains, slice_get, slice_set}
use Rattle.life_types.specs.Types.{Types}
use Rattle.life_contract.specs.Signatures.{Signature}
use Rattle.life_core.specs.Function.{Function}
use Rattle.life_core.specs.Linked.{edges_of}
use Rattle.life_core.specs.declared.stmt.Edge.{Edge}
use Rattle.life_pset.specs.Table.{Table, table_of}
use Rattle.life_pset.specs.declared.element.Fact.{Fact}
use Rattle.life_rules.specs.Deriving.{Derives, along}
use Rattle.life_rules.specs.FactSets.{CarriesPair, Holds, Includes}
use Rattle.life_plan.specs.Carried.{none_due, IsCarried}
use Rattle.life_plan.specs.Crossing.{crossing_of}
use Rattle.life_plan.specs.Noted.{HasNewAt}
use Rattle.life_plan.specs.declared.plan.Plan.{Plan}
use Rattle.life_plan.proofs.Settled.{carried_due, carried_into}
use Rattle.life_plan.proofs.Places.{get_set_other, get_set_same, same_or_not}
use Rattle.life_fix.specs.Solution.{IsDerivedPair}
use Rattle.life_fix.specs.Solving.{has_some, left_of, point_at, runs_left, IsPartial, IsPutBack, RunsEdge}
use Rattle.life_fix.proofs.Sizes.{left_falls, one_of_some, runs_again, runs_done, runs_gained, runs_same, some_of}
use Rattle.life_fix.proofs.States.{one_name}

true_or_false : (b : Bool) → (b ≡ true) ⊎ (b ≡ false)
true_or_false true = inl refl
true_or_false false = inr refl

-- what is new in one row is new in another of the same point
gained_at : (old new : ℕ → ℕ → ℕ → Bool) (p q l : ℕ) → p ≡ q → HasNewAt (old p) (new p) l → HasNewAt (old q) (new q) l
gained_at old new p q l is = subst (λ (r : ℕ). HasNewAt (old r) (new r) l) is

module _ (sigs : List Signature) (types : Types) (f : Function) (plans : List Plan) (dues dues' : ℕ → ℕ → Bool) (old new : ℕ → ℕ → ℕ → Bool) (k : ℕ) (edge : Edge) (plan plan' : Plan) (gained : ℕ → Bool) (partial : IsPartial sigs types f (edges_of f) plans dues old)
    (at : slice_get (edges_of f) k ≡ Some edge) (had : slice_get plans k ≡ Some plan) (runs : RunsEdge sigs types f edge plan' gained old new) (put : IsPutBack (edges_of f) k edge.to.0 gained dues dues') where
  abbrev t : Table
  t = table_of types f

  in_edges : Contains (edges_of f) edge
  in_edges = (k, slice_get_within (edges_of f) k edge at, get_or_from_slice_get (edges_of f) k edge edge at)

  -- the facts of the first point's row are derived
  derived : (y : Fact) → Holds t (old edge.from.0) y → Derives sigs types f edge.from y
  derived y held =
      let s = partial.sound edge.from.0 held.0 held.1.0 held.1.1.1 in
      subst (λ (z : Fact). Derives sigs types f edge.from z) (one_name t held.0 held.1.0 s.0 y s.1.0 held.1.1.0) s.1.1

  sound_new : (l e : ℕ) → CarriesPair sigs types f edge (old edge.from.0) l e → IsDerivedPair sigs types f edge.to l e
  sound_new l e p = (p.0, (p.1.0, along edge p.1.1.0 in_edges (λ y h. derived y (p.1.1.1.0 y h)) p.1.1.1.1))

  -- rows keep what they had
  keeps : (p : ℕ) → Includes (old p) (new p)
  keeps p l e h =
      elim (same_or_not p edge.to.0) [
        | inl is ↦ subst (λ (q : ℕ). IsTrue (new q l e)) (sym is) ((runs.row.sound l e).0 (subst (λ (q : ℕ). IsTrue (old q l e)) is h))
        | inr other ↦ runs.others p l e other ∙ h
      ]

  -- only the edge's second point gains something
  at_second : (p l : ℕ) → HasNewAt (old p) (new p) l → p ≡ edge.to.0
  at_second p l g =
      elim (same_or_not p edge.to.0) [
        | inl is ↦ is
        | inr other ↦ absurd (true≢false (sym g.1.1 ∙ runs.others p l g.0 other ∙ g.1.0))
      ]

  -- .. and only what is carried
  new_carried : (l e : ℕ) → old edge.to.0 l e ≡ false → IsTrue (new edge.to.0 l e) → CarriesPair sigs types f edge (old edge.from.0) l e
  new_carried l e was is = elim ((runs.row.sound l e).1 is) [ inl old ↦ absurd (true≢false (sym old ∙ was)) | inr c ↦ c ]

  -- so what an edge's first point gained is due for it
  is_due_for : (j : ℕ) (d : Edge) → slice_get (edges_of f) j ≡ Some d → (l : ℕ) → HasNewAt (old d.from.0) (new d.from.0) l → IsTrue (dues' j l)
  is_due_for j d at_j l g =
      let second = at_second d.from.0 l g in
      (put j d at_j l).1 (inl (second, (runs.row.noted l).1 (gained_at old new d.from.0 edge.to.0 l second g)))

  -- .. and what its first point has elsewhere was there
  was_there : (j : ℕ) (d : Edge) → slice_get (edges_of f) j ≡ Some d → (l e : ℕ) → dues' j l ≡ false → IsTrue (new d.from.0 l e) → IsTrue (old d.from.0 l e)
  was_there j d at_j l e not_due here =
      elim (true_or_false (old d.from.0 l e)) [
        | inl was ↦ was
        | inr not_before ↦ absurd (true≢false (sym (is_due_for j d at_j l (e, (not_before, here))) ∙ not_due))
      ]

  partial_run : IsPartial sigs types f (edges_of f) (slice_set plans k plan') dues' new
  partial_run = record {
    sound = λ p l e h.
        elim (same_or_not p edge.to.0) [
          | inl is ↦ subst (λ (q : ℕ). IsDerivedPair sigs types f (point_at q) l e) (sym is) (elim ((runs.row.sound l e).1 (subst (λ (q : ℕ). IsTrue (new q l e)) is h)) [
            | inl was ↦ partial.sound edge.to.0 l e was
            | inr c ↦ sound_new l e c
          ])
          | inr other ↦ partial.sound p l e (sym (runs.others p l e other) ∙ h)
        ];
    starts = λ some l e pair. keeps 1 l e (partial.starts some l e pair);
    carried = λ j d q at_j is.
        elim (same_or_not j k) [
          | inl same ↦
              let here : slice_get (edges_of f) k ≡ Some d = subst (λ (i : ℕ). slice_get (edges_of f) i ≡ Some d) same at_j in
              let this : slice_get (slice_set plans k plan') k ≡ Some q = subst (λ (i : ℕ). slice_get (slice_set plans k plan') i ≡ Some q) same is in
              let set = get_set_same plans k plan' (slice_get_within plans k plan had) in
              let plan_is : plan' ≡ q = same_Some plan' q (sym set ∙ this) in
              let edge_is : edge ≡ d = same_Some edge d (sym at ∙ here) in
              let it : IsCarried (crossing_of sigs types f edge) plan' (dues' j) (new edge.from.0) (new edge.to.0) =
              carried_due (crossing_of sigs types f edge) plan' none_due (dues' j) (old edge.from.0) (new edge.from.0) (new edge.to.0) (λ l none. absurd (true≢false (sym none))) (keeps edge.from.0)
              (was_there j edge (subst (λ (x : Edge). slice_get (edges_of f) j ≡ Some x) (sym edge_is) at_j)) runs.row.carried in
              subst (λ (x : Edge). IsCarried (crossing_of sigs types f x) q (dues' j) (new x.from.0) (new x.to.0)) edge_is (subst (λ (x : Plan). IsCarried (crossing_of sigs types f edge) x (dues' j) (new edge.from.0) (new edge.to.0)) plan_is it)
          | inr other ↦
              carried_into (crossing_of sigs types f d) q (dues' j) (new d.from.0) (old d.to.0) (new d.to.0) (keeps d.to.0)
              (carried_due (crossing_of sigs types f d) q (dues j) (dues' j) (old d.from.0) (new d.from.0) (old d.to.0) (λ l due. (put j d at_j l).1 (inr (other, due))) (keeps d.from.0) (was_there j d at_j)
              (partial.carried j d q at_j (sym (get_set_other plans k j plan' other) ∙ is)))
        ];
  }

  -- a new pair stands in the table
  gained_within : (l : ℕ) (g : HasNewAt (old edge.to.0) (new edge.to.0) l) → (l < length t.locations) × (g.0 < length t.elements)
  gained_within l g =
      let c = new_carried l g.0 g.1.0 g.1.1 in
      (slice_get_within t.locations l c.0.location c.1.0.0, slice_get_within t.elements g.0 c.0.element c.1.0.1)

  -- where its first point gained something, a row has fewer left, and else no more is due
  mono : (j : ℕ) (d : Edge) → slice_get (edges_of f) j ≡ Some d → j ≢ k → runs_left t (dues' j) (new d.from.0) ≤ runs_left t (dues j) (old d.from.0)
  unfolding gained_at
  mono j d at_j other =
      elim (same_or_not d.from.0 edge.to.0) [
        | inl second ↦ elim (true_or_false (has_some gained (length t.locations))) [
          | inl some ↦
              let l = one_of_some gained (length t.locations) some in
              let here = (runs.row.noted l.0).0 l.1.1 in
              let within = gained_within l.0 here in
              let g = gained_at old new edge.to.0 d.from.0 l.0 (sym second) here in
              runs_gained t (dues j) (dues' j) (old d.from.0) (new d.from.0) (keeps d.from.0) l.0 g.0 within.0 within.1 g.1.0 g.1.1
          | inr none ↦ runs_same t (dues j) (dues' j) (old d.from.0) (new d.from.0) (keeps d.from.0) (λ h.
              let l = one_of_some (dues' j) (length t.locations) h in
              elim ((put j d at_j l.0).0 l.1.1) [
                | inl new ↦ absurd (true≢false (sym (some_of gained (length t.locations) l.0 l.1.0 new.1) ∙ none))
                | inr was ↦ some_of (dues j) (length t.locations) l.0 l.1.0 was.1
              ])
        ]
        | inr elsewhere ↦ runs_same t (dues j) (dues' j) (old d.from.0) (new d.from.0) (keeps d.from.0) (λ h.
            let l = one_of_some (dues' j) (length t.locations) h in
            elim ((put j d at_j l.0).0 l.1.1) [ inl new ↦ absurd (elsewhere new.0) | inr was ↦ some_of (dues j) (length t.locations) l.0 l.1.0 was.1 ])
      ]

  -- the edge that was run has fewer left
  less : IsTrue (has_some (dues k) (length t.locations)) → runs_left t (dues' k) (new edge.from.0) + 1 ≤ runs_left t (dues k) (old edge.from.0)
  unfolding gained_at
  less due =
      elim (true_or_false (has_some (dues' k) (length t.locations))) [
        | inl again ↦
            let l = one_of_some (dues' k) (length t.locations) again in
            elim ((put k edge at l.0).0 l.1.1) [
              | inl here ↦
                  let there = (runs.row.noted l.0).0 here.1 in
                  let within = gained_within l.0 there in
                  let g = gained_at old new edge.to.0 edge.from.0 l.0 (sym here.0) there in
                  runs_again t (dues k) (dues' k) (old edge.from.0) (new edge.from.0) (keeps edge.from.0) due l.0 g.0 within.0 within.1 g.1.0 g.1.1
              | inr other ↦ absurd (other.0 refl)
            ]
        | inr none ↦ runs_done t (dues k) (dues' k) (old edge.from.0) (new edge.from.0) (keeps edge.from.0) due none
      ]

  falls : IsTrue (has_some (dues k) (length t.locations)) → left_of t (edges_of f) dues' new + 1 ≤ left_of t (edges_of f) dues old
  falls due =
      left_falls t (edges_of f) dues dues' old new k edge at (less due) (λ j d at_j. elim (same_or_not j k) [
        | inl same ↦
            let here : slice_get (edges_of f) k ≡ Some d = subst (λ (i : ℕ). slice_get (edges_of f) i ≡ Some d) same at_j in
            let edge_is : edge ≡ d = same_Some edge d (sym at ∙ here) in
            let it : runs_left t (dues' k) (new edge.from.0) ≤ runs_left t (dues k) (old edge.from.0) = omega (arith, less due) in
            subst (λ (i : ℕ). runs_left t (dues' i) (new d.from.0) ≤ runs_left t (dues i) (old d.from.0)) (sym same) (subst (λ (x : Edge). runs_left t (dues' k) (new x.from.0) ≤ runs_left t (dues k) (old x.from.0)) edge_is it)
        | inr other ↦ mono j d at_j other
      ])

-- .. where its parts come by other names
pub partial_visit : (sigs : List Signature) (types : Types) (f : Function) (es : List Edge) → es ≡ edges_of f → (plans plans' : List Plan) (dues dues' : ℕ → ℕ → Bool) (old new : ℕ → ℕ → ℕ → Bool) (k : ℕ) (edge : Edge) (plan plan' : Plan) (gained : ℕ → Bool)
    → IsPartial sigs types f es plans dues old → slice_get es k ≡ Some edge → slice_get plans k ≡ Some plan → RunsEdge sigs types f edge plan' gained old new → IsPutBack es k edge.to.0 gained dues dues' → plans' ≡ slice_set plans k plan' → IsPartial sigs types f es plans' dues' new
partial_visit sigs types f es is plans plans' dues dues' old new k edge plan plan' gained partial at had runs put set =
    let P : List Edge → Type 0 = λ es. IsPartial sigs types f es plans dues old → slice_get es k ≡ Some edge → IsPutBack es k edge.to.0 gained dues dues' → IsPartial sigs types f es (slice_set plans k plan') dues' new in
    subst (λ (ps : List Plan). IsPartial sigs types f es ps dues' new) (sym set)
    (subst P (sym is) (λ p a b. partial_run sigs types f plans dues dues' old new k edge plan plan' gained p a had runs b) partial at put)

-- a run of an edge that is due leaves fewer
pub falls_visit : (sigs : List Signature) (types : Types) (f : Function) (t : Table) (es : List Edge) → t ≡ table_of types f → es ≡ edges_of f → (plans : List Plan) (dues dues' : ℕ → ℕ → Bool) (old new : ℕ → ℕ → ℕ → Bool) (k : ℕ) (edge : Edge) (plan plan' : Plan) (gained : ℕ → Bool)
    → IsPartial sigs types f es plans dues old → slice_get es k ≡ Some edge → slice_get plans k ≡ Some plan → RunsEdge sigs types f edge plan' gained old new → IsPutBack es k edge.to.0 gained dues dues' → (l : ℕ) → l < length t.locations → IsTrue (dues k l)
    → left_of t es dues' new + 1 ≤ left_of t es dues old
falls_visit sigs types f t es table is plans dues dues' old new k edge plan plan' gained partial at had runs put l low due =
    let P : List Edge → Type 0 = λ es. IsPartial sigs types f es plans dues old → slice_get es k ≡ Some edge → IsPutBack es k edge.to.0 gained dues dues' → left_of t es dues' new + 1 ≤ left_of t es dues old in
    let Q : Table → Type 0 = λ u. l < length u.locations → left_of u (edges_of f) dues' new + 1 ≤ left_of u (edges_of f) dues old in
    subst P (sym is) (λ p a b. subst Q (sym table) (λ low. falls sigs types f plans dues dues' old new k edge plan plan' gained p a had runs b (some_of (dues k) (length (table_of types f).locations) l low due)) low) partial at put
