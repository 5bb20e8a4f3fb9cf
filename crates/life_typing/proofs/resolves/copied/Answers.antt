use Rattle.std.proofs.Common.{rules}
use Rattle.life_typing.proofs.TextsInTurn.{copied_there}
use Rattle.life_typing.proofs.resolves.copied.Goals as goal

pub texts-preserved : goal.texts-preserved
texts-preserved c =
    copied_there c.texts.copies.items c.push.new.self.items c.in_ok-copy.field-0 c.text-item.result c.args.texts.now c.texts.text-index _ c.texts.invariant c.texts-test.true c.text-item.is (search rules) c.in_ok-copy.ensures
