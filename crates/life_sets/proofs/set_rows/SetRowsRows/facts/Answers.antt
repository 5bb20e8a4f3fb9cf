use Rattle.std.proofs.Common.{◌<◌, ℕ}
use Rattle.std.proofs.lemmas.List.Elements.{All-weaker, All-contains_itself}
use Rattle.std.specs.Prelude.{Contains}
use Rattle.life_sets.proofs.PairLemmas.{listed}
use Rattle.life_sets.proofs.set_rows.SetRowsRows.facts.Goals as goal

pub returns-clause-each : goal.returns-clause-each
returns-clause-each c = λ l e. rw c.in_ok-facts.ensures.items (listed c.args.self.now.pairs l e)

pub returns-clause-within : goal.returns-clause-within
returns-clause-within c =
    let pairs = c.args.self.now.pairs in
    rw c.in_ok-facts.ensures.items (
    All-weaker (Contains pairs.keys) (λ (pair : ℕ × ℕ). (pair.0 < c.args.self.now.locations) × (pair.1 < c.args.self.now.elements))
    (λ pair h. c.args.self.now.within pair.0 pair.1 ((listed pairs pair.0 pair.1).0 h)) pairs.keys (All-contains_itself pairs.keys)
    )
