-- The state at the start: no edge was run.
use Rattle.std.proofs.Common.{◌≡◌, ℕ, ◌≤◌, List, [], ◌∷◌, ◌++◌, refl, ap, sym, ◌∙◌, inl, inr, arith, subst, Some, Bool, false, true, true≢false, length}
use Rattle.std.proofs.lemmas.Option.{same_Some}
use Rattle.std.specs.Prelude.{◌↔◌, IsTrue, slice_get, slice_set}
use Rattle.life_types.specs.Types.{Types}
use Rattle.life_contract.specs.Signatures.{Signature}
use Rattle.life_core.specs.Function.{Function}
use Rattle.life_core.specs.Linked.{points_of}
use Rattle.life_core.specs.declared.stmt.Edge.{Edge}
use Rattle.life_pset.specs.Table.{Table, table_of}
use Rattle.life_pset.specs.declared.element.Fact.{Fact}
use Rattle.life_rules.specs.Deriving.{entry, entry_facts}
use Rattle.life_rules.specs.FactSets.{Gains, IsPairOf}
use Rattle.life_plan.specs.Crossing.{crossing_of}
use Rattle.life_plan.specs.declared.plan.Plan.{Plan}
use Rattle.life_plan.proofs.Places.{same_or_not}
use Rattle.life_plan.proofs.Starting.{whole_from_none}
use Rattle.life_fix.specs.Solution.{IsDerivedPair}
use Rattle.life_fix.specs.Solving.{pairs_at, pairs_in, point_at, AreMade, IsFirstDue, IsMade, IsPartial, IsStart}
use Rattle.life_fix.proofs.PointRows.{pairs_other, pairs_same, push_at}

-- what the entry gives is derived, and plans that were just made owe nothing where all is due, or no fact is yet
first_state : (sigs : List Signature) (types : Types) (f : Function) (edges : List Edge) (plans : List Plan) (dues : ℕ → ℕ → Bool) (pairs : ℕ → ℕ → ℕ → Bool) → IsStart types f pairs → AreMade sigs types f edges plans
    → ((k : ℕ) → IsFirstDue (length (table_of types f).locations) edges plans k (dues k)) → IsPartial sigs types f edges plans dues pairs
first_state sigs types f edges plans dues pairs start made due = record {
  sound = λ p l e h.
      let c = (start p l e).0 h in
      let x = c.1.0 in
      let names = c.1.1.0 in
      subst (λ (q : ℕ). IsDerivedPair sigs types f (point_at q) l e) (sym c.0.0) (x, (names, entry (l, (e, names)) c.1.1.1));
  starts = λ some l e pair. (start 1 l e).1 ((refl, some), pair);
  carried = λ k edge plan at had.
      let from = pairs edge.from.0 in
      let into = pairs edge.to.0 in
      elim (due k edge plan at had) [
        | inl all ↦ made k edge plan at had (dues k) from into all
        | inr quiet ↦ whole_from_none (crossing_of sigs types f edge) plan (λ l. true) (dues k) from into quiet.1 (λ l e h. quiet.0 ((start edge.from.0 l e).0 h).0.0) (made k edge plan at had (λ l. true) from into (λ l low. refl))
      ];
}

-- .. where its parts come by other names
pub first_rows : {R : Type 0} (has : R → ℕ → ℕ → Bool) (sigs : List Signature) (types : Types) (f : Function) (edges : List Edge) (plans : List Plan) (dues : ℕ → ℕ → Bool) (t : Table) (rows now : List R) → t ≡ table_of types f → now ≡ rows
    → IsStart types f (pairs_at has rows) → AreMade sigs types f edges plans → ((k : ℕ) → IsFirstDue (length t.locations) edges plans k (dues k)) → IsPartial sigs types f edges plans dues (pairs_at has now)
first_rows {R = R} has sigs types f edges plans dues t rows now table after start made first =
    let due = subst (λ (u : Table). (k : ℕ) → IsFirstDue (length u.locations) edges plans k (dues k)) table first in
    subst (λ (rs : List R). IsPartial sigs types f edges plans dues (pairs_at has rs)) (sym after) (first_state sigs types f edges plans dues (pairs_at has rows) start made due)

-- the row of the first point gains the facts
pub starts_at : {R : Type 0} (has : R → ℕ → ℕ → Bool) (t : Table) (facts : List Fact) (rows : List R) (row new : R) → slice_get rows 0 ≡ Some row → 1 ≤ length rows → ((p l e : ℕ) → pairs_at has rows p l e ≡ false) → Gains (has row) (has new) (IsPairOf t facts)
    → (p l e : ℕ) → IsTrue (pairs_at has (slice_set rows 0 new) p l e) ↔ (((p ≡ 1) × (1 ≤ length rows)) × IsPairOf t facts l e)
starts_at has t facts rows row new at some none gains p l e =
    elim (same_or_not p 1) [
      | inl is ↦ subst (λ (q : ℕ). IsTrue (pairs_at has (slice_set rows 0 new) q l e) ↔ (((q ≡ 1) × (1 ≤ length rows)) × IsPairOf t facts l e)) (sym is) (
        λ h.
            elim ((gains l e).0 (sym here ∙ h)) [
              | inl was ↦ absurd (true≢false (sym was ∙ sym (ap (λ (s : ℕ → ℕ → Bool). s l e) (ap (pairs_in has) at)) ∙ none 1 l e))
              | inr pair ↦ ((refl, some), pair)
            ],
        λ h. here ∙ (gains l e).1 (inr h.1),
      )
      | inr other ↦ (
        λ h. absurd (true≢false (sym h ∙ ap (λ (s : ℕ → ℕ → Bool). s l e) (pairs_other has rows 0 row new at p other) ∙ none p l e)),
        λ h. absurd (other h.0.0),
      )
    ]
  where
    here : pairs_at has (slice_set rows 0 new) 1 l e ≡ has new l e
    here = ap (λ (s : ℕ → ℕ → Bool). s l e) (pairs_same has rows 0 row new at)

-- without a first point nothing is gained
pub starts_none : {R : Type 0} (has : R → ℕ → ℕ → Bool) (t : Table) (facts : List Fact) (rows : List R) → length rows ≡ 0 → ((p l e : ℕ) → pairs_at has rows p l e ≡ false)
    → (p l e : ℕ) → IsTrue (pairs_at has rows p l e) ↔ (((p ≡ 1) × (1 ≤ length rows)) × IsPairOf t facts l e)
starts_none has t facts rows empty none p l e = (
  λ h. absurd (true≢false (sym h ∙ none p l e)),
  λ h. absurd (omega (arith, empty, h.0.1)),
)

-- the rows start so where their table, facts and number are the function's
pub start_is : {R : Type 0} (has : R → ℕ → ℕ → Bool) (types : Types) (f : Function) (t : Table) (facts : List Fact) (rows : List R) (n : ℕ) → t ≡ table_of types f → facts ≡ entry_facts types f → n ≡ points_of f
    → ((p l e : ℕ) → IsTrue (pairs_at has rows p l e) ↔ (((p ≡ 1) × (1 ≤ n)) × IsPairOf t facts l e)) → IsStart types f (pairs_at has rows)
start_is has types f t facts rows n table is count starts =
    let a = subst (λ (u : Table). (p l e : ℕ) → IsTrue (pairs_at has rows p l e) ↔ (((p ≡ 1) × (1 ≤ n)) × IsPairOf u facts l e)) table starts in
    let b = subst (λ (xs : List Fact). (p l e : ℕ) → IsTrue (pairs_at has rows p l e) ↔ (((p ≡ 1) × (1 ≤ n)) × IsPairOf (table_of types f) xs l e)) is a in
    subst (λ (m : ℕ). (p l e : ℕ) → IsTrue (pairs_at has rows p l e) ↔ (((p ≡ 1) × (1 ≤ m)) × IsPairOf (table_of types f) (entry_facts types f) l e)) count b

-- ---- plans that were made

-- one more plan, for the edge behind those so far
pub made_next : (sigs : List Signature) (types : Types) (f : Function) (edges : List Edge) (plans : List Plan) (n : ℕ) (edge : Edge) (plan : Plan) → length plans ≡ n → slice_get edges n ≡ Some edge → IsMade sigs types f edge plan → AreMade sigs types f edges plans
    → AreMade sigs types f edges (plans ++ plan ∷ [])
made_next sigs types f edges plans n edge plan count at made so_far k d q at_d at_q =
    elim (push_at plans plan k q at_q) [
      | inl was ↦ so_far k d q at_d was
      | inr new ↦
          let edge_is : edge ≡ d = same_Some edge d (sym at ∙ subst (λ (i : ℕ). slice_get edges i ≡ Some d) (new.0 ∙ count) at_d) in
          subst (λ (x : Edge). IsMade sigs types f x q) edge_is (subst (λ (x : Plan). IsMade sigs types f edge x) new.1 made)
    ]

pub made_none : (sigs : List Signature) (types : Types) (f : Function) (edges : List Edge) → AreMade sigs types f edges []
made_none sigs types f edges k edge plan at had = absurd (cc)
