-- What the solver keeps on its way.
use Rattle.std.specs.Prelude.{◌≡◌, length, map, ℕ, zero, suc, ◌+◌, ◌-◌, ◌*◌, ◌<◌, ◌≤◌, ◌≢◌, Bool, true, false, ◌||◌, List, [], ◌∷◌, Option, Some, None, IsTrue, ◌↔◌, ◌⊎◌, All, slice_get}
use Rattle.life_types.specs.Types.{Types}
use Rattle.life_contract.specs.Signatures.{Signature}
use Rattle.life_core.specs.Function.{Function, function_of}
use Rattle.life_core.specs.Linked.{code_of, edges_of, points_of, spot_of_linked, AllJoin, AreAscending}
use Rattle.life_core.specs.Node.{spot_seen}
use Rattle.life_core.specs.declared.stmt.Edge.{Edge}
use Rattle.life_core.specs.declared.stmt.Point.{Point}
use Rattle.life_pset.specs.Elements.{IsWithinLimits}
use Rattle.life_pset.specs.Table.{Table, table_of}
use Rattle.life_rules.specs.Callees.{AreCallees}
use Rattle.life_rules.specs.Deriving.{entry_facts}
use Rattle.life_rules.specs.FactSets.{CarriesPair, GainsSome, IsPairOf}
use Rattle.life_sets.specs.NumberSets.{Numbers, holds}
use Rattle.life_plan.specs.Carried.{is_whole, none_due, IsCarried}
use Rattle.life_plan.specs.Crossing.{crossing_of}
use Rattle.life_plan.specs.Noted.{HasNewAt}
use Rattle.life_plan.specs.declared.plan.Plan.{Plan}
use Rattle.life_fix.specs.Solution.{IsDerivedPair, numbered_row}
use Rattle.life_fix.specs.declared.flow.Flow.{Flow}
use Rattle.life_fix.specs.declared.leaving.Leaving.{Leaving}

-- ---- what is solved

-- the parts are those of one function
pub record IsFlow (flow : Flow) : Type 0 where
  pub limits : IsWithinLimits flow.types.now (function_of flow.f.now)
  pub table : flow.table.now ≡ table_of flow.types.now (function_of flow.f.now)
  pub edges : flow.edges.now ≡ edges_of (function_of flow.f.now)
  pub join : AllJoin (points_of (function_of flow.f.now)) flow.edges.now
  pub ascend : AreAscending flow.edges.now
  pub spots : map spot_seen flow.spots.now ≡ map spot_of_linked (code_of (function_of flow.f.now))
  pub callees : AreCallees flow.types.now flow.sigs.now (map spot_of_linked (code_of (function_of flow.f.now))) flow.callees.now
  pub count : length flow.spots.now ≡ points_of (function_of flow.f.now)

-- ---- sets of pairs at points, which are numbered from 1

-- the pairs of the row at a point: none where there is no row
abbrev pub pairs_in : {R : Type 0} → (R → ℕ → ℕ → Bool) → Option R → ℕ → ℕ → Bool
pairs_in has None = λ l e. false
pairs_in has (Some row) = has row

abbrev pub pairs_at : {R : Type 0} → (R → ℕ → ℕ → Bool) → List R → ℕ → ℕ → ℕ → Bool
pairs_at has rows p = pairs_in has (numbered_row rows p)

abbrev pub point_at : ℕ → Point
point_at p = record { 0 = p }

-- at each point, a pair is there exactly where it is derived there
abbrev pub IsSolved : List Signature → Types → Function → (ℕ → ℕ → ℕ → Bool) → Type 0
IsSolved sigs types f pairs = (p l e : ℕ) → 1 ≤ p → p ≤ points_of f → IsTrue (pairs p l e) ↔ IsDerivedPair sigs types f (point_at p) l e

-- the first of the points, if there is one, has the pairs of what holds at the entry, and the others have none
abbrev pub IsStart : Types → Function → (ℕ → ℕ → ℕ → Bool) → Type 0
IsStart types f pairs = (p l e : ℕ) → IsTrue (pairs p l e) ↔ (((p ≡ 1) × (1 ≤ points_of f)) × IsPairOf (table_of types f) (entry_facts types f) l e)

-- what is carried along the edge is there
abbrev pub IsSettled : List Signature → Types → Function → Edge → (ℕ → ℕ → ℕ → Bool) → Type 0
IsSettled sigs types f edge pairs = (l e : ℕ) → CarriesPair sigs types f edge (pairs edge.from.0) l e → IsTrue (pairs edge.to.0 l e)

-- ---- how many pairs there are

abbrev pub bit : Bool → ℕ
bit true = 1
bit false = 0

-- how many pairs there are below the limits
abbrev pub size_of_location : (ℕ → Bool) → ℕ → ℕ
size_of_location has zero = 0
size_of_location has (suc n) = bit (has n) + size_of_location has n

abbrev pub size_of : (ℕ → ℕ → Bool) → ℕ → ℕ → ℕ
size_of has zero elements = 0
size_of has (suc n) elements = size_of_location (has n) elements + size_of has n elements

-- ---- which locations are due for an edge: those of its first point that gained since it was run

abbrev pub set_in : Option Numbers → ℕ → Bool
set_in None = λ n. false
set_in (Some set) = holds set

-- the set at this place of a list: empty where there is none
abbrev pub set_at : List Numbers → ℕ → ℕ → Bool
set_at sets k = set_in (slice_get sets k)

-- every set is one of numbers below the limit
abbrev pub AreSized : ℕ → List Numbers → Type 0
AreSized limit sets = All (λ set. set.limit ≡ limit) sets

-- those between two places of a list have these numbers besides, and the others stay
abbrev pub AddsBetween : (first past : ℕ) → (added : ℕ → Bool) → (before after : ℕ → ℕ → Bool) → Type 0
AddsBetween first past added before after = (k l : ℕ) → IsTrue (after k l) ↔ (IsTrue (before k l) ⊎ (((first ≤ k) × (k < past)) × IsTrue (added l)))

-- so many edges leave points before this one, and they stand first
abbrev pub IsBegin : List Edge → (point first : ℕ) → Type 0
IsBegin edges point first = (first ≤ length edges) × ((k : ℕ) (edge : Edge) → slice_get edges k ≡ Some edge → (k < first) ↔ (edge.from.0 < point))

-- .. for each of these numbers, among them the second point of each edge and the number past it
pub record IsLeaving (edges : List Edge) (leaving : Leaving) : Type 0 where
  pub each : (point first : ℕ) → slice_get leaving.firsts.items point ≡ Some first → IsBegin edges point first
  pub reach : (k : ℕ) (edge : Edge) → slice_get edges k ≡ Some edge → edge.to.0 + 1 < length leaving.firsts.items

-- some number below the limit is in the set
abbrev pub has_some : (ℕ → Bool) → ℕ → Bool
has_some set zero = false
has_some set (suc n) = set n || has_some set n

-- ---- what holds on the way

-- only derived facts are there, the entry's facts are, and so is what each edge carries, but of what is due for it
pub record IsPartial (sigs : List Signature) (types : Types) (f : Function) (edges : List Edge) (plans : List Plan) (dues : ℕ → ℕ → Bool) (pairs : ℕ → ℕ → ℕ → Bool) : Type 0 where
  pub sound : (p l e : ℕ) → IsTrue (pairs p l e) → IsDerivedPair sigs types f (point_at p) l e
  pub starts : 1 ≤ points_of f → (l e : ℕ) → IsPairOf (table_of types f) (entry_facts types f) l e → IsTrue (pairs 1 l e)
  pub carried : (k : ℕ) (edge : Edge) (plan : Plan) → slice_get edges k ≡ Some edge → slice_get plans k ≡ Some plan → IsCarried (crossing_of sigs types f edge) plan (dues k) (pairs edge.from.0) (pairs edge.to.0)

-- the plan was just made for the edge: where every location is due, nothing has to be there
abbrev pub IsMade : List Signature → Types → Function → Edge → Plan → Type 0
IsMade sigs types f edge plan = (due : ℕ → Bool) (from into : ℕ → ℕ → Bool) → ((l : ℕ) → l < length (table_of types f).locations → due l ≡ true) → IsCarried (crossing_of sigs types f edge) plan due from into

abbrev pub AreMade : List Signature → Types → Function → List Edge → List Plan → Type 0
AreMade sigs types f edges plans = (k : ℕ) (edge : Edge) (plan : Plan) → slice_get edges k ≡ Some edge → slice_get plans k ≡ Some plan → IsMade sigs types f edge plan

-- at first all locations are due for an edge, or it carries each fact whole from a point other than the first
abbrev pub IsFirstDue : (locations : ℕ) → List Edge → List Plan → ℕ → (due : ℕ → Bool) → Type 0
IsFirstDue locations edges plans k due =
    (edge : Edge) (plan : Plan) → slice_get edges k ≡ Some edge → slice_get plans k ≡ Some plan → ((l : ℕ) → l < locations → IsTrue (due l)) ⊎ ((edge.from.0 ≢ 1) × IsTrue (is_whole plan))

-- a plan was run from one set into another: that one has all that is carried, and gained nothing else, at these locations alone
pub record RunsRow (sigs : List Signature) (types : Types) (f : Function) (edge : Edge) (plan : Plan) (gained : ℕ → Bool) (from before after : ℕ → ℕ → Bool) : Type 0 where
  pub carried : IsCarried (crossing_of sigs types f edge) plan none_due from after
  pub sound : GainsSome before after (CarriesPair sigs types f edge from)
  pub noted : (l : ℕ) → IsTrue (gained l) ↔ HasNewAt before after l

-- .. from the row of the edge's first point into that of its second, and the other rows stay
pub record RunsEdge (sigs : List Signature) (types : Types) (f : Function) (edge : Edge) (plan : Plan) (gained : ℕ → Bool) (before after : ℕ → ℕ → ℕ → Bool) : Type 0 where
  pub row : RunsRow sigs types f edge plan gained (before edge.from.0) (before edge.to.0) (after edge.to.0)
  pub others : (p l e : ℕ) → p ≢ edge.to.0 → after p l e ≡ before p l e

-- the edge with this number, which was run, isn't due any more; for each edge that leaves the point, what the point gained is due
abbrev pub IsPutBack : List Edge → (k point : ℕ) → (gained : ℕ → Bool) → (before after : ℕ → ℕ → Bool) → Type 0
IsPutBack edges k point gained before after =
    (j : ℕ) (edge : Edge) → slice_get edges j ≡ Some edge → (l : ℕ) → IsTrue (after j l) ↔ (((edge.from.0 ≡ point) × IsTrue (gained l)) ⊎ ((j ≢ k) × IsTrue (before j l)))

-- ---- how many runs are left

-- how many pairs a row can have
abbrev pub most_pairs : Table → ℕ
most_pairs t = length t.locations * length t.elements

-- how often an edge may still be run: once where it is due, and once for each pair that its first point may still gain
abbrev pub runs_left : Table → (due : ℕ → Bool) → (has : ℕ → ℕ → Bool) → ℕ
runs_left t due has = bit (has_some due (length t.locations)) + (most_pairs t - size_of has (length t.locations) (length t.elements))

-- .. and all edges
abbrev pub left_of : Table → List Edge → (dues : ℕ → ℕ → Bool) → (pairs : ℕ → ℕ → ℕ → Bool) → ℕ
left_of t [] dues pairs = 0
left_of t (edge ∷ edges) dues pairs = runs_left t (dues 0) (pairs edge.from.0) + left_of t edges (λ k. dues (suc k)) pairs

-- how many steps a function takes at most
abbrev pub most_steps : Types → Function → ℕ
most_steps types f = length (edges_of f) * (most_pairs (table_of types f) + 1)
