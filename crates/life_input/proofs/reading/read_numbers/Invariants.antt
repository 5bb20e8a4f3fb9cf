use Rattle.std.proofs.Common.{◌≡◌, ◌+◌, true, length}
use Rattle.life_input.specs.Input.{numbers_from, numbers_in}
use Rattle.life_input.specs.Words.{words_from}
use Rattle.life_input.proofs.reading.read_numbers.Given as goal

-- reading goes on to what the file gives
abbrev pub invariant-loop-rest : goal.invariant-loop-rest
invariant-loop-rest l = record {
  reads : numbers_from l.numbers.items (words_from true l.offset l.rest) ≡ numbers_in l.bytes;
  passed : l.offset + length l.rest ≡ length l.bytes;
}

abbrev pub decreases-loop-rest : goal.decreases-loop-rest
decreases-loop-rest l = length l.rest
