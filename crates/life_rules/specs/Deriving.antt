-- The facts that are derived at each point.
use Rattle.std.specs.Prelude.{ℕ, ◌+◌, Bool, if◌then◌else◌, nat_lt, List, [], ◌∷◌, ◌++◌, map, Some, Contains}
use Rattle.std.specs.List.{flat_map}
use Rattle.life_types.specs.declared.ty.TyId.{TyId}
use Rattle.life_types.specs.Types.{Types}
use Rattle.life_core.specs.Function.{Function}
use Rattle.life_core.specs.Linked.{edges_of}
use Rattle.life_core.specs.declared.stmt.Edge.{Edge}
use Rattle.life_core.specs.declared.stmt.Point.{Point}
use Rattle.life_core.specs.declared.program.Local.{Local}
use Rattle.life_pset.specs.Elements.{Input, local_inputs, local_locations}
use Rattle.life_pset.specs.Places.{path, root_place}
use Rattle.life_pset.specs.Shapes.{members_type, shape, ty_if}
use Rattle.life_pset.specs.Table.{IsOf, table_of}
use Rattle.life_pset.specs.declared.element.AbsPlace.{AbsPlace}
use Rattle.life_pset.specs.declared.element.Element.TheVariants as element
use Rattle.life_pset.specs.declared.element.Fact.{Fact}
pub use Rattle.life_contract.specs.Promises.{owner_elements}
use Rattle.life_contract.specs.Inputs.{may_be_null}
use Rattle.life_contract.specs.Signatures.{Signature}
use Rattle.life_rules.specs.Carrying.{Gives, fact_at, given_if}

-- a pointer that the caller hands over points to what stands for it, and a raw one may be null besides
abbrev pub input_facts : Types → (nonnull : Bool) → Input → List Fact
input_facts types nonnull i = fact_at i.pointer (element.At (root_place i.root)) ∷ given_if (may_be_null types nonnull i) (fact_at i.pointer element.Null)

-- what owners hold
abbrev pub owner_facts : Types → TyId → AbsPlace → List Fact
owner_facts types id l = map (fact_at l) (owner_elements (ty_if types (members_type types (Some id) (path l))))

-- the facts of a parameter with this number, in a function with so many
abbrev pub parameter_facts : Types → (parameters x : ℕ) → Local → List Fact
parameter_facts types n x l =
    flat_map (input_facts types l.nonnull) (local_inputs types n x l)
    ++ (if nat_lt x n then flat_map (owner_facts types (shape types n x l)) (local_locations types n x l) else [])

abbrev pub entry_facts_from : Types → (parameters x : ℕ) → List Local → List Fact
entry_facts_from types n x [] = []
entry_facts_from types n x (l ∷ ls) = parameter_facts types n x l ++ entry_facts_from types n (x + 1) ls

-- what holds at the entry
abbrev pub entry_facts : Types → Function → List Fact
entry_facts types f = entry_facts_from types f.parameters 0 f.locals

abbrev pub first_point : Point
first_point = record { 0 = 1 }

-- an edge carries a fact of the function from facts that hold before it
abbrev pub Carries : List Signature → Types → Function → Edge → List Fact → Fact → Type 0
Carries sigs types f edge premises x = IsOf (table_of types f) x × Gives sigs types f edge premises x

-- the least relation that has the entry facts, and what each edge carries
pub data Derives (sigs : List Signature) (types : Types) (f : Function) : Point → Fact → Type 0 where
  entry : {x : Fact} → IsOf (table_of types f) x → Contains (entry_facts types f) x → Derives sigs types f first_point x
  along : (edge : Edge) (premises : List Fact) {x : Fact} → Contains (edges_of f) edge
      → ((y : Fact) → Contains premises y → Derives sigs types f edge.from y)
      → Carries sigs types f edge premises x → Derives sigs types f edge.to x
