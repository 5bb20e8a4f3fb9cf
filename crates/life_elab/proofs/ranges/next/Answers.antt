use Rattle.std.proofs.lemmas.Result.{on_ok_weaker}
use Rattle.life_core.specs.Operands.{location_of}
use Rattle.life_writer.specs.Views.{state_of}
use Rattle.life_elab.specs.IteratorViews.{iterators_of}
use Rattle.life_elab.proofs.RangeWriting.{next_gives}
use Rattle.life_elab.proofs.ranges.next.Goals as goal

pub returns : goal.returns
returns c =
    on_ok_weaker c.emit.result
    (next_gives c.args.colon (iterators_of c.args.iterators) (state_of c.args.writer.now) (state_of c.eval.new.self) (state_of c.emit.new.self) (location_of c.whole.result) (location_of c.whole-2.result) c.in_ok-count.count
    c.in_ok-count.ensures c.whole.ensures c.whole-2.ensures)
    c.emit.ensures
