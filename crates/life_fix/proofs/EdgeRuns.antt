-- What a plan does to the row of an edge's second point is a run of the edge.
use Rattle.std.proofs.Common.{◌≡◌, ℕ, zero, suc, ◌+◌, List, [], ◌∷◌, refl, ap, sym, ◌∙◌, inl, inr, arith, subst, Some, Option, Bool, true, false, true≢false}
use Rattle.std.proofs.lemmas.Option.{get_or_from_slice_get, slice_get_within}
use Rattle.std.specs.Prelude.{◌↔◌, ◌||◌, IsTrue, option_map, slice_get, slice_set}
use Rattle.life_types.specs.Types.{Types}
use Rattle.life_contract.specs.Signatures.{Signature}
use Rattle.life_core.specs.Function.{Function, function_of}
use Rattle.life_core.specs.Linked.{spot_of}
use Rattle.life_core.specs.Node.{spot_seen}
use Rattle.life_core.specs.declared.node.SpotRef.{SpotRef}
use Rattle.life_core.specs.declared.stmt.Edge.{Edge}
use Rattle.life_plan.specs.Carried.{IsCarried}
use Rattle.life_plan.specs.Crossing.{Crossing, crossing_of}
use Rattle.life_plan.specs.Noted.{HasNewAt, Notes}
use Rattle.life_plan.specs.declared.plan.Plan.{Plan}
use Rattle.life_plan.proofs.Crossings.{crossing_at}
use Rattle.life_fix.specs.Solution.{AllLimited}
use Rattle.life_fix.specs.Solving.{pairs_at, IsFlow, RunsEdge, RunsRow}
use Rattle.life_fix.specs.declared.flow.Flow.{Flow}
use Rattle.life_fix.proofs.PointRows.{pairs_of_row, pairs_other, pairs_same}

-- what the code has at hand along an edge is what the edge crosses
pub crossed : (flow : Flow) (edge : Edge) (spot : Option SpotRef) → IsFlow flow → option_map spot_seen spot ≡ spot_of (function_of flow.f.now) edge.from
    → record { table = flow.table.now; sigs = flow.sigs.now; types = flow.types.now; f = function_of flow.f.now; branch = edge.branch; spot = option_map spot_seen spot } ≡ crossing_of flow.sigs.now flow.types.now (function_of flow.f.now) edge
crossed flow edge spot is at = crossing_at flow.table.now flow.sigs.now flow.types.now (function_of flow.f.now) edge (option_map spot_seen spot) is.table at

-- the row at a place has the limits of all
pub limit_of : {R : Type 0} (limit : R → ℕ) (n m : ℕ) (rows : List R) (i : ℕ) (row : R) → AllLimited limit n rows → slice_get rows i ≡ Some row → m ≡ n → limit row ≡ m
limit_of limit n m rows i row all at same = sym (ap limit (get_or_from_slice_get rows i row row at)) ∙ all i row (slice_get_within rows i row at) ∙ sym same

-- .. and so has each where one is written that has them
pub limited_set : {R : Type 0} (limit : R → ℕ) (n : ℕ) (rows : List R) (i : ℕ) (new : R) → AllLimited limit n rows → limit new ≡ n → AllLimited limit n (slice_set rows i new)
limited_set limit n [] i new all is k d lt = absurd (omega (arith, lt))
limited_set limit n (x ∷ rows) zero new all is zero d lt = is
limited_set limit n (x ∷ rows) zero new all is (suc k) d lt = all (suc k) d lt
limited_set limit n (x ∷ rows) (suc i) new all is zero d lt = all zero d (omega arith)
limited_set limit n (x ∷ rows) (suc i) new all is (suc k) d lt = limited_set limit n rows i new (λ j e h. all (suc j) e (omega (arith, h))) is k d (omega (arith, lt))

-- .. as the one that stood there had
pub limited_as : {R : Type 0} (limit : R → ℕ) (n : ℕ) (rows after : List R) (i : ℕ) (old new : R) → after ≡ slice_set rows i new → slice_get rows i ≡ Some old → limit new ≡ limit old → AllLimited limit n rows → AllLimited limit n after
limited_as {R = R} limit n rows after i old new set at same all = subst (λ (rs : List R). AllLimited limit n rs) (sym set) (limited_set limit n rows i new all (same ∙ limit_of limit n n rows i old all at refl))

-- a copy of a row has its pairs
pub copy_same : (has empty copy : ℕ → ℕ → Bool) → ((l e : ℕ) → copy l e ≡ (has l e || empty l e)) → ((l e : ℕ) → empty l e ≡ false) → copy ≡ has
copy_same has empty copy joined none = λ i l e. (joined l e ∙ ap (λ (b : Bool). has l e || b) (none l e) ∙ or_none (has l e)) i
  where
    or_none : (b : Bool) → (b || false) ≡ b
    or_none true = refl
    or_none false = refl

-- where nothing was noted before, exactly what gained is
pub noted_now : (before after : ℕ → ℕ → Bool) (noted gained : ℕ → Bool) → ((l : ℕ) → noted l ≡ false) → Notes before after noted gained → (l : ℕ) → IsTrue (gained l) ↔ HasNewAt before after l
noted_now before after noted gained none notes l = (
  λ h. elim ((notes l).0 h) [ inl was ↦ absurd (true≢false (sym was ∙ none l)) | inr new ↦ new ],
  λ h. (notes l).1 (inr h),
)

-- what an edge has carried from the rows of its points
pub carried_rows : {R : Type 0} (has : R → ℕ → ℕ → Bool) (c : Crossing) (edge : Edge) (plan : Plan) (due : ℕ → Bool) (rows : List R) (i j : ℕ) (from to : R) → i + 1 ≡ edge.from.0 → j + 1 ≡ edge.to.0 → slice_get rows i ≡ Some from → slice_get rows j ≡ Some to
    → IsCarried c plan due (pairs_at has rows edge.from.0) (pairs_at has rows edge.to.0) → IsCarried c plan due (has from) (has to)
carried_rows has c edge plan due rows i j from to from_is to_is at_from at_to carried =
    let a = subst (λ (s : ℕ → ℕ → Bool). IsCarried c plan due s (pairs_at has rows edge.to.0)) (pairs_of_row has rows edge.from.0 i from from_is at_from) carried in
    subst (λ (s : ℕ → ℕ → Bool). IsCarried c plan due (has from) s) (pairs_of_row has rows edge.to.0 j to to_is at_to) a

-- .. and what comes of running it
pub edge_runs : {R : Type 0} (has : R → ℕ → ℕ → Bool) (sigs : List Signature) (types : Types) (f : Function) (edge : Edge) (plan : Plan) (gained : ℕ → Bool) (rows after : List R) (i j : ℕ) (from old new : R) → i + 1 ≡ edge.from.0 → j + 1 ≡ edge.to.0 → slice_get rows i ≡ Some from → slice_get rows j ≡ Some old
    → after ≡ slice_set rows j new → RunsRow sigs types f edge plan gained (has from) (has old) (has new) → RunsEdge sigs types f edge plan gained (pairs_at has rows) (pairs_at has after)
edge_runs {R = R} has sigs types f edge plan gained rows after i j from old new from_is to_is at_from at_old set runs =
    let Q : (ℕ → ℕ → Bool) → (ℕ → ℕ → Bool) → (ℕ → ℕ → Bool) → Type 0 = λ x y z. RunsRow sigs types f edge plan gained x y z in
    let to_suc : suc j ≡ edge.to.0 = omega (arith, to_is) in
    let now : pairs_at has (slice_set rows j new) edge.to.0 ≡ has new = subst (λ (p : ℕ). pairs_at has (slice_set rows j new) p ≡ has new) to_suc (pairs_same has rows j old new at_old) in
    let a = subst (λ (s : ℕ → ℕ → Bool). Q s (has old) (has new)) (sym (pairs_of_row has rows edge.from.0 i from from_is at_from)) runs in
    let b = subst (λ (s : ℕ → ℕ → Bool). Q (pairs_at has rows edge.from.0) s (has new)) (sym (pairs_of_row has rows edge.to.0 j old to_is at_old)) a in
    let d = subst (λ (s : ℕ → ℕ → Bool). Q (pairs_at has rows edge.from.0) (pairs_at has rows edge.to.0) s) (sym now) b in
    let all : RunsEdge sigs types f edge plan gained (pairs_at has rows) (pairs_at has (slice_set rows j new)) =
    record {
      row = d;
      others = λ p l m other. ap (λ (s : ℕ → ℕ → Bool). s l m) (pairs_other has rows j old new at_old p (λ is. other (is ∙ to_suc)));
    } in
    subst (λ (rs : List R). RunsEdge sigs types f edge plan gained (pairs_at has rows) (pairs_at has rs)) (sym set) all
