use Rattle.std.proofs.Common.{◌≡◌, fold, drop}
use Rattle.life_lex.specs.Numbers.{next_value}
use Rattle.life_keys.proofs.literal.number_value.Given as goal

abbrev pub invariant-loop-digit : goal.invariant-loop-digit
invariant-loop-digit l = fold next_value l.value (drop l.digit-index l.digits) ≡ fold next_value 0 l.digits
