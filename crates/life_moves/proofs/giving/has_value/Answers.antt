use Rattle.std.proofs.Common.{ap, sym, ◌∙◌}
use Rattle.life_store.specs.Held.{owned_in}
use Rattle.life_moves.specs.MovedTo.{may_give}
use Rattle.life_moves.proofs.giving.has_value.Goals as goal

pub returns-in-None : goal.returns-in-None
returns-in-None g c kinds o is = c.is_nullable.ensures ∙ sym (ap (λ x. may_give c.args.leaves.now (owned_in x)) (c.in-None.ensures kinds o is))

pub returns-in-Some : goal.returns-in-Some
returns-in-Some g c kinds o is = sym (ap (λ x. may_give c.args.leaves.now (owned_in x)) (c.in-Some.ensures kinds o is).0)
