-- What the rules look at along an edge, and the pairs that it carries: those of what comes of no fact, of one, and of two.
use Rattle.std.specs.Prelude.{◌≡◌, ◌⊎◌, ℕ, Bool, List, Option, option_map}
use Rattle.life_types.specs.Types.{Types}
use Rattle.life_core.specs.Function.{Function, function_of}
use Rattle.life_core.specs.Linked.{spot_of}
use Rattle.life_core.specs.Node.{spot_seen}
use Rattle.life_core.specs.Tree.{Spot}
use Rattle.life_core.specs.declared.stmt.Edge.{Edge}
use Rattle.life_pset.specs.Table.{Table, table_of}
use Rattle.life_pset.specs.declared.element.Fact.{Fact}
use Rattle.life_contract.specs.Signatures.{Signature}
use Rattle.life_rules.specs.Carrying.{none_at, one_at, two_at}
use Rattle.life_rules.specs.FactSets.{Holds, IsPairOf}
use Rattle.life_plan.specs.declared.context.EdgeContext.{EdgeContext}

pub record Crossing : Type 0 where
  pub table : Table
  pub sigs : List Signature
  pub types : Types
  pub f : Function
  pub branch : Option Bool
  pub spot : Option Spot

-- that of an edge of a function
abbrev pub crossing_of : List Signature → Types → Function → Edge → Crossing
crossing_of sigs types f edge = record { table = table_of types f; sigs = sigs; types = types; f = f; branch = edge.branch; spot = spot_of f edge.from }

-- what the code has at hand
abbrev pub crossing_in : EdgeContext → Crossing
crossing_in c = record { table = c.table.now; sigs = c.sigs.now; types = c.types.now; f = function_of c.f.now; branch = c.edge.branch; spot = option_map spot_seen c.spot }

-- .. is that of its edge
pub record IsContext (c : EdgeContext) : Type 0 where
  pub table : c.table.now ≡ table_of c.types.now (function_of c.f.now)
  pub spot : option_map spot_seen c.spot ≡ spot_of (function_of c.f.now) c.edge.from

-- ---- the pairs that are carried from a set

abbrev pub FromNone : Crossing → (l m : ℕ) → Type 0
FromNone c l m = IsPairOf c.table (none_at c.sigs c.types c.f c.spot) l m

abbrev pub FromOne : Crossing → (from : ℕ → ℕ → Bool) → (l m : ℕ) → Type 0
FromOne c from l m = (x : Fact) × (Holds c.table from x × IsPairOf c.table (one_at c.sigs c.types c.f c.branch c.spot x) l m)

abbrev pub FromTwo : Crossing → (from : ℕ → ℕ → Bool) → (l m : ℕ) → Type 0
FromTwo c from l m = (x : Fact) × ((y : Fact) × (Holds c.table from x × (Holds c.table from y × IsPairOf c.table (two_at c.sigs c.types c.f c.spot x y) l m)))

abbrev pub Crosses : Crossing → (from : ℕ → ℕ → Bool) → (l m : ℕ) → Type 0
Crosses c from l m = FromNone c l m ⊎ (FromOne c from l m ⊎ FromTwo c from l m)
