-- The points-to sets of a program: what each location may be before each point.
use Rattle.std.specs.Prelude.{◌≡◌, ◌<◌, ◌↔◌, ℕ, zero, suc, ◌+◌, Bool, true, false, IsTrue, ◌==◌, if◌then◌else◌, List, [], ◌∷◌, ◌++◌, Option, Some, None, length, map, slice_get}
use Rattle.life_types.specs.Types.{Types}
use Rattle.life_types.specs.declared.place.Place.{Place}
use Rattle.life_core.specs.Function.{Function, Program}
use Rattle.life_core.specs.Linked.{code_of, points_of, spot_of_linked}
use Rattle.life_core.specs.Tree.{Spot}
use Rattle.life_core.specs.declared.stmt.Point.{Point}
use Rattle.life_contract.specs.Signatures.{Signature, signatures_of}
use Rattle.life_pset.specs.Table.{Table, table_of}
use Rattle.life_pset.specs.declared.element.AbsPlace.{AbsPlace}
use Rattle.life_pset.specs.declared.element.Element.{Element}
use Rattle.life_fix.specs.Solution.{IsDerivedPair}
use Rattle.life_psets.specs.declared.line.Before.{Before}
use Rattle.life_psets.specs.declared.line.SetLine.{SetLine}

-- what the numbers below n give, one after the other
abbrev pub in_turn : {A : Type 0} → ℕ → (ℕ → List A) → List A
in_turn zero given = []
in_turn (suc n) given = in_turn n given ++ given n

-- what a location may be before a point
pub record SetAt : Type 0 where
  pub function : ℕ
  pub point : Point
  pub place : Place
  pub location : AbsPlace
  pub elements : List Element

abbrev pub set_seen : SetLine → SetAt
set_seen x = record { function = x.function; point = x.point; place = x.place; location = x.location; elements = x.elements.items }

abbrev pub element_if : Bool → Option Element → List Element
element_if false e = []
element_if true None = []
element_if true (Some e) = e ∷ []

-- the elements of a set of numbers
abbrev pub held_elements : Table → (ℕ → Bool) → List Element
held_elements t held = in_turn (length t.elements) (λ e. element_if (held e) (slice_get t.elements e))

-- a set that isn't empty
abbrev pub set_if : Before → AbsPlace → List Element → List SetAt
set_if at location es = if length es == 0 then [] else (record { function = at.function; point = at.point; place = at.place; location = location; elements = es } ∷ [])

abbrev pub set_of : Before → Option AbsPlace → List Element → List SetAt
set_of at None es = []
set_of at (Some location) es = set_if at location es

-- .. of each location, in the order of their numbers
abbrev pub sets_before : Before → Table → (ℕ → ℕ → Bool) → List SetAt
sets_before at t held = in_turn (length t.locations) (λ l. set_of at (slice_get t.locations l) (held_elements t (held l)))

-- .. before point k + 1
abbrev pub sets_at : ℕ → Table → ℕ → Option Spot → (ℕ → ℕ → Bool) → List SetAt
sets_at function t k None held = []
sets_at function t k (Some spot) held = sets_before (record { function = function; point = record { 0 = suc k }; place = spot.place }) t held

-- .. before each point of a function, held k being the pairs before point k + 1
abbrev pub sets_by : ℕ → Types → Function → (ℕ → ℕ → ℕ → Bool) → List SetAt
sets_by function types f held = in_turn (points_of f) (λ k. sets_at function (table_of types f) k (slice_get (map spot_of_linked (code_of f)) k) (held k))

-- the sets of a function: of what is derived before each point, and of nothing else
pub record AreFunctionSets (sigs : List Signature) (types : Types) (function : ℕ) (f : Function) (sets : List SetAt) : Type 0 where
  pub held : ℕ → ℕ → ℕ → Bool
  pub derived : (k l e : ℕ) → k < points_of f → IsTrue (held k l e) ↔ IsDerivedPair sigs types f (record { 0 = suc k }) l e
  pub are : sets ≡ sets_by function types f held

-- the sets of functions that are numbered from this number on
abbrev pub AreSetsFrom : List Signature → Types → ℕ → List Function → List SetAt → Type 0
AreSetsFrom sigs types n [] sets = sets ≡ []
AreSetsFrom sigs types n (f ∷ fs) sets =
    (here : List SetAt) × ((there : List SetAt) × (AreFunctionSets sigs types n f here × (AreSetsFrom sigs types (n + 1) fs there × (sets ≡ here ++ there))))

abbrev pub AreSets : Program → List SetAt → Type 0
AreSets p sets = AreSetsFrom (signatures_of p.functions) p.types 0 p.functions sets

-- the sets of one function stand behind what was there
pub record AddsSets (sigs : List Signature) (types : Types) (function : ℕ) (f : Function) (before after : List SetAt) : Type 0 where
  pub sets : List SetAt
  pub all : AreFunctionSets sigs types function f sets
  pub behind : after ≡ before ++ sets
