-- Why a state in which no edge is due is the solution.
use Rattle.std.proofs.Common.{◌≡◌, ℕ, zero, suc, ◌≤◌, List, [], ◌∷◌, sym, arith, subst, Some, Bool, false, length}
use Rattle.std.specs.Prelude.{IsTrue, slice_get, Contains}
use Rattle.life_types.specs.Types.{Types}
use Rattle.life_contract.specs.Signatures.{Signature}
use Rattle.life_core.specs.Function.{Function}
use Rattle.life_core.specs.Linked.{edges_of, points_of, AllJoin, IsJoined}
use Rattle.life_core.specs.declared.stmt.Edge.{Edge}
use Rattle.life_core.specs.declared.stmt.Point.{Point}
use Rattle.life_pset.specs.Table.{Table, Names, IsOf, table_of}
use Rattle.life_pset.specs.declared.element.Fact.{Fact}
use Rattle.life_rules.specs.Deriving.{Derives, entry, along, entry_facts}
use Rattle.life_rules.specs.FactSets.{IsPairOf}
use Rattle.life_plan.specs.declared.plan.Plan.{Plan}
use Rattle.life_plan.proofs.Settled.{carried_settled}
use Rattle.life_fix.specs.Solving.{point_at, IsPartial, IsSettled, IsSolved}
use Rattle.life_fix.proofs.PointRows.{row_at, there}

-- a pair of numbers stands for one fact
pub one_name : (t : Table) (l e : ℕ) (x y : Fact) → Names t l e x → Names t l e y → x ≡ y
one_name t l e x y n m =
    let a : x.location ≡ y.location = cc (n.0, m.0) in
    let b : x.element ≡ y.element = cc (n.1, m.1) in
    λ i. record { location = a i; element = b i }

-- the ends of an edge are points
pub joined_at : (n : ℕ) (es : List Edge) (k : ℕ) (e : Edge) → AllJoin n es → slice_get es k ≡ Some e → IsJoined n e
joined_at n [] k e join at = absurd (cc)
joined_at n (x ∷ es) zero e join at =
    let same : x ≡ e = cc in
    subst (IsJoined n) same join.0
joined_at n (x ∷ es) (suc k) e join at = joined_at n es k e join.1 at

joined : (n : ℕ) (es : List Edge) (e : Edge) → AllJoin n es → Contains es e → IsJoined n e
joined n es e join in_edges = joined_at n es in_edges.0 e join (row_at es in_edges.0 e in_edges.1 (sym in_edges.2))

derives_is_of : (sigs : List Signature) (types : Types) (f : Function) (point : Point) (x : Fact) → Derives sigs types f point x → IsOf (table_of types f) x
derives_is_of sigs types f _ _ (entry is_of at) = is_of
derives_is_of sigs types f _ _ (along edge premises at held carries) = carries.0

-- where every edge is settled, each derived fact is there
complete : (sigs : List Signature) (types : Types) (f : Function) (pairs : ℕ → ℕ → ℕ → Bool) → AllJoin (points_of f) (edges_of f)
    → (1 ≤ points_of f → (l e : ℕ) → IsPairOf (table_of types f) (entry_facts types f) l e → IsTrue (pairs 1 l e))
    → ((edge : Edge) → Contains (edges_of f) edge → IsSettled sigs types f edge pairs)
    → (point : Point) (x : Fact) → Derives sigs types f point x → point.0 ≤ points_of f → (l e : ℕ) → Names (table_of types f) l e x → IsTrue (pairs point.0 l e)
complete sigs types f pairs join starts settled _ x (entry is_of at) high l e n = starts high l e (x, (n, at))
complete sigs types f pairs join starts settled _ x (along edge premises at held carries) high l e n =
    let from_high = (joined (points_of f) (edges_of f) edge join at).1 in
    settled edge at l e (
      x,
      (
        n,
        (
          premises,
          (
            (λ y h. let d = derives_is_of sigs types f edge.from y (held y h) in (d.0, (d.1.0, (d.1.1, complete sigs types f pairs join starts settled edge.from y (held y h) from_high d.0 d.1.0 d.1.1)))),
            carries,
          ),
        ),
      ),
    )

-- a state in which no edge is due is the solution
solved : (sigs : List Signature) (types : Types) (f : Function) (plans : List Plan) (dues : ℕ → ℕ → Bool) (pairs : ℕ → ℕ → ℕ → Bool) → AllJoin (points_of f) (edges_of f) → IsPartial sigs types f (edges_of f) plans dues pairs
    → length plans ≡ length (edges_of f) → ((k l : ℕ) → dues k l ≡ false) → IsSolved sigs types f pairs
solved sigs types f plans dues pairs join partial len none p l e low high = (
  partial.sound p l e,
  λ d. complete sigs types f pairs join partial.starts edge_settled (point_at p) d.0 d.1.1 high l e d.1.0,
)
  where
    edge_settled : (edge : Edge) → Contains (edges_of f) edge → IsSettled sigs types f edge pairs
    edge_settled edge at =
        let k = at.0 in
        let plan = there plans k (omega (arith, at.1, len)) in
        carried_settled sigs types f edge plan.0 (dues k) (pairs edge.from.0) (pairs edge.to.0) (partial.carried k edge plan.0 (row_at (edges_of f) k edge at.1 (sym at.2)) plan.1) (none k)

pub solved_all : (sigs : List Signature) (types : Types) (f : Function) (es : List Edge) → es ≡ edges_of f → (plans : List Plan) (dues : ℕ → ℕ → Bool) (pairs : ℕ → ℕ → ℕ → Bool) → AllJoin (points_of f) es → IsPartial sigs types f es plans dues pairs → length plans ≡ length es
    → ((k l : ℕ) → dues k l ≡ false) → IsSolved sigs types f pairs
solved_all sigs types f es is plans dues pairs join partial len none =
    let P : List Edge → Type 0 = λ es. AllJoin (points_of f) es → IsPartial sigs types f es plans dues pairs → length plans ≡ length es → ((k l : ℕ) → dues k l ≡ false) → IsSolved sigs types f pairs in
    subst P (sym is) (solved sigs types f plans dues pairs) join partial len none
