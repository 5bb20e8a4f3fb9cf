-- Sets of facts, as sets of pairs of their numbers.
use Rattle.std.specs.Prelude.{ℕ, Bool, IsTrue, ◌↔◌, ◌⊎◌, List, [], ◌∷◌, Option, Some, None, Contains, slice_get}
use Rattle.life_types.specs.Types.{Types}
use Rattle.life_core.specs.Function.{Function}
use Rattle.life_core.specs.declared.stmt.Edge.{Edge}
use Rattle.life_pset.specs.Table.{Table, Names, table_of}
use Rattle.life_pset.specs.declared.element.AbsPlace.{AbsPlace}
use Rattle.life_pset.specs.declared.element.Element.{Element}
use Rattle.life_pset.specs.declared.element.Fact.{Fact}
use Rattle.life_contract.specs.Signatures.{Signature}
use Rattle.life_rules.specs.Carrying.{Gives, fact_at}
use Rattle.life_rules.specs.Deriving.{Carries}

-- the set has the pair of the fact
abbrev pub Holds : Table → (ℕ → ℕ → Bool) → Fact → Type 0
Holds t has x = (l : ℕ) × ((e : ℕ) × (Names t l e x × IsTrue (has l e)))

-- the pair stands for one of these facts
abbrev pub IsPairOf : Table → List Fact → ℕ → ℕ → Type 0
IsPairOf t facts l e = (x : Fact) × (Names t l e x × Contains facts x)

-- the edge gives the fact from facts of a set
abbrev pub GivesFrom : Table → List Signature → Types → Function → Edge → (ℕ → ℕ → Bool) → Fact → Type 0
GivesFrom t sigs types f edge has x =
    (premises : List Fact) × (((y : Fact) → Contains premises y → Holds t has y) × Gives sigs types f edge premises x)

-- the pair stands for a fact that the edge carries from facts of a set
abbrev pub CarriesPair : List Signature → Types → Function → Edge → (ℕ → ℕ → Bool) → ℕ → ℕ → Type 0
CarriesPair sigs types f edge has l e =
    (x : Fact) × (Names (table_of types f) l e x
    × ((premises : List Fact) × (((y : Fact) → Contains premises y → Holds (table_of types f) has y) × Carries sigs types f edge premises x)))

-- the set after is the set before and these pairs
abbrev pub Gains : (before after : ℕ → ℕ → Bool) → (ℕ → ℕ → Type 0) → Type 0
Gains before after added = (l e : ℕ) → IsTrue (after l e) ↔ (IsTrue (before l e) ⊎ added l e)

-- the set after has all of the set before, and besides only some of these pairs
abbrev pub GainsSome : (before after : ℕ → ℕ → Bool) → (ℕ → ℕ → Type 0) → Type 0
GainsSome before after added = (l e : ℕ) → (IsTrue (before l e) → IsTrue (after l e)) × (IsTrue (after l e) → IsTrue (before l e) ⊎ added l e)

abbrev pub Includes : (ℕ → ℕ → Bool) → (ℕ → ℕ → Bool) → Type 0
Includes a b = (l e : ℕ) → IsTrue (a l e) → IsTrue (b l e)

-- the fact of a location and an element, where both are there
abbrev pub named_fact : Option AbsPlace → Option Element → List Fact
named_fact None e = []
named_fact (Some l) None = []
named_fact (Some l) (Some e) = fact_at l e ∷ []

-- the fact for which a pair stands
abbrev pub pair_facts : Table → ℕ × ℕ → List Fact
pair_facts t pair = named_fact (slice_get t.locations pair.0) (slice_get t.elements pair.1)
