use Rattle.std.proofs.Common.{◌<◌, ℕ, List, subst}
use Rattle.std.proofs.lemmas.List.Elements.{All-weaker, All-contains_itself}
use Rattle.std.specs.Prelude.{Contains, IsTrue}
use Rattle.life_sets.specs.BitSets.{contains_bit}
use Rattle.life_sets.proofs.BitSetLemmas.{set_within}
use Rattle.life_sets.proofs.bit_rows.BitRowsRows.facts.Goals as goal

pub returns-clause-within : goal.returns-clause-within
returns-clause-within c =
    let row = c.self.inside in
    let items = c.in_ok-facts.facts.items in
    rw (← c.self.view_is) (
    All-weaker (Contains items) (λ (pair : ℕ × ℕ). (pair.0 < row.locations) × (pair.1 < row.elements))
    (λ pair h. set_within row.locations row.elements row.words.items pair.0 pair.1 (subst (λ (ws : List ℕ). IsTrue (contains_bit row.locations row.elements ws pair.0 pair.1)) c.deref.ensures ((c.in_ok-facts.ensures.each pair.0 pair.1).0 h))) items (All-contains_itself items)
    )
