use Rattle.std.proofs.Common.{◌∙◌, sym}
use Rattle.life_rules.proofs.given.add_target.Goals as goal

pub returns-in_ok-add_element : goal.returns-in_ok-add_element
returns-in_ok-add_element c = rw (sym c.is_argument_of.ensures ∙ c.if-is_argument_of.true) c.in_ok-add_element.ensures
