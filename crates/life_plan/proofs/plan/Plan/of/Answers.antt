use Rattle.std.proofs.lemmas.Bool.{both_ways}
use Rattle.life_plan.proofs.plan.Plan.of.Goals as goal

pub returns-then-still : goal.returns-then-still
returns-then-still c = λ due from into all. record {
  still = c.in_ok-still.ensures c.if-still.true;
  kept = λ l m not_due lt h. absurd (both_ways (due l) not_due (all l lt));
}

pub returns : goal.returns
returns c = rw c.in_ok-tabulated.ensures.ok c.in_ok-of.ensures
