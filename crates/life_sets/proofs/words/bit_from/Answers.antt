use Rattle.std.proofs.Common.{arith}
use Rattle.life_sets.proofs.NextLemmas.{none_from, lowest_from}
use Rattle.life_sets.proofs.words.bit_from.Goals as goal

pub returns-then-rest-eq0-clause-none : goal.returns-then-rest-eq0-clause-none
returns-then-rest-eq0-clause-none c = λ b ge _. none_from c.args.word c.args.place c.if-rest-eq0.true b ge

pub returns-else-rest-eq0-clause-some : goal.returns-else-rest-eq0-clause-some
returns-else-rest-eq0-clause-some c =
    (lowest_from c.args.word c.args.place c.ranges.word.fits (omega (arith, c.if-rest-eq0.false))).0

pub returns-else-rest-eq0-clause-below : goal.returns-else-rest-eq0-clause-below
returns-else-rest-eq0-clause-below c =
    (lowest_from c.args.word c.args.place c.ranges.word.fits (omega (arith, c.if-rest-eq0.false))).1
