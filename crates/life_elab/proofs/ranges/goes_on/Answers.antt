use Rattle.std.proofs.Common.{None, false, map}
use Rattle.life_types.specs.declared.ty.Ty.TheVariants as ty
use Rattle.life_core.specs.Operands.{location_of, whole}
use Rattle.life_core.specs.Step.{NonZero, Same}
use Rattle.life_core.specs.Tree.{tree_of}
use Rattle.life_writer.proofs.Decided.{tested_behind}
use Rattle.life_writer.specs.Registers.{computed}
use Rattle.life_writer.specs.Views.{state_of}
use Rattle.life_elab.specs.IteratorViews.{iterators_of}
use Rattle.life_elab.proofs.RangeWriting.{ends_compared}
use Rattle.life_elab.proofs.ranges.goes_on.Goals as goal

pub returns : goal.returns
returns c =
    let it = iterators_of c.args.iterators in let begun = state_of c.begin_test-before.new.self in
    tested_behind c.args.colon None (λ s. computed None ty.Bool c.args.colon (λ r. Same r (whole it.first) (whole it.last) false) s) NonZero (state_of c.args.writer.now) begun (state_of c.emit.new.self)
    (state_of c.behind_code.new.self) c.in_ok-register.register (map tree_of c.begin_test-before.result.code.items) c.begin_test-before.result.pending c.behind_code.result
    c.begin_test-before.ensures.before c.begin_test-before.ensures.pending c.begin_test-before.ensures.state
    (ends_compared c.args.colon it begun (state_of c.new_register.new.self) (state_of c.emit.new.self) (location_of c.whole.result) (location_of c.whole-2.result) c.in_ok-register.register
    c.in_ok-register.ensures c.whole.ensures c.whole-2.ensures c.in_ok-emit.ensures)
    c.behind_code.ensures
