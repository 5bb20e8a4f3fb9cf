-- How a run of the machine ends, beside the run that the meaning gives.
use Rattle.std.specs.Prelude.{◌≡◌, ℕ, List, map}
use Rattle.std.specs.declared.alloc.Global.{Global}
use Rattle.std.specs.declared.vec.Vec.{Vec}
use Rattle.life_base.specs.Edges.{AppendsFront}
use Rattle.life_core.specs.Link.{link_seen}
use Rattle.life_core.specs.Linked.{Linked}
use Rattle.life_core.specs.declared.link.LinkRef.{LinkRef}
use Rattle.life_store.specs.Content.{Content}
use Rattle.life_store.specs.Meaning as meaning
use Rattle.life_store.specs.Meaning.{Run}
use Rattle.life_interp.specs.Walking.{Sunk, Takes, TakesPart}
use Rattle.life_types.specs.declared.place.Place.{Place}
use Rattle.life_interp.specs.declared.ending.Ending.{Ending}
use Rattle.life_interp.specs.declared.ending.Ending.TheVariants as ending
use Rattle.life_interp.specs.declared.flat.Flat.{Flat}
use Rattle.life_interp.specs.declared.outcome.Outcome.{Outcome}
use Rattle.life_interp.specs.declared.outcome.Outcome.TheVariants as outcome

-- the sink took a front of the text, and no fault was counted
pub record TakesFront (k : Sunk) (text : List ℕ) : Type 0 where
  pub taken : AppendsFront k.old k.new text
  pub quiet : k.later ≡ k.faults

-- the outcome is that of the run, and the sink took all that it writes, or a front where something failed
abbrev pub RunEnds : Run → Sunk → Outcome → Type 0
RunEnds run k (outcome.Value z) = Takes k run.output × ((c : Content) × (run.outcome ≡ meaning.Ended z c))
RunEnds run k (outcome.Trap kind place) = Takes k run.output × (run.outcome ≡ meaning.Trap kind place)
RunEnds run k (outcome.Fault kind place) = Takes k run.output × (run.outcome ≡ meaning.Fault kind place)
RunEnds run k outcome.OutOfSteps = Takes k run.output × ((c : Content) × (run.outcome ≡ meaning.OutOfSteps c))
RunEnds run k outcome.WriteFault = TakesPart k run.output
RunEnds run k outcome.NoMemory = TakesFront k run.output

abbrev pub links_seen : Vec LinkRef Global → List Linked
links_seen links = map link_seen links.items

abbrev pub table_seen : Vec Flat Global → List Flat
table_seen table = table.items

-- the entry isn't begun: it traps, or memory is wanted
abbrev pub IsBarred : Ending → Type 0
IsBarred (ending.Trap kind) = Unit {0}
IsBarred (ending.Fault kind) = ⊥
IsBarred ending.Stray = ⊥
IsBarred ending.NoMemory = Unit {0}
IsBarred ending.WriteFault = ⊥

abbrev pub barred_as : Place → Ending → Outcome
barred_as place (ending.Trap kind) = outcome.Trap kind place
barred_as place _ = outcome.NoMemory
