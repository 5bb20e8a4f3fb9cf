use Rattle.std.proofs.Common.{◌≡◌, drop}
use Rattle.life_base.specs.Memory.{directory_of, named_files}
use Rattle.life_base.proofs.memory.find_file.Given as goal

abbrev pub invariant-loop-number : goal.invariant-loop-number
invariant-loop-number l = directory_of (drop l.number (named_files l.files)) l.name ≡ directory_of (named_files l.files) l.name
