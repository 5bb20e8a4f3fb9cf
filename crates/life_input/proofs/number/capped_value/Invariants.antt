use Rattle.std.proofs.Common.{◌≡◌, take, min}
use Rattle.life_input.specs.Numbers.{value_of}
use Rattle.life_input.proofs.number.capped_value.Given as goal

-- the value so far, or the largest u64 if it is past that
abbrev pub invariant-loop-digit : goal.invariant-loop-digit
invariant-loop-digit l = l.value ≡ min (value_of (take l.digit-index l.digits)) 18446744073709551615
