-- Where a function's own locals begin: behind its parameters and the local of its result.
use Rattle.std.proofs.Common.{ℕ, suc, length, if◌then◌else◌}
use Rattle.life_types.specs.TypeTests.{is_void}
use Rattle.life_typed.specs.BaseTypes.{type_at}
use Rattle.life_writer.specs.Around.{Around}

-- what is made in a function that gives nothing back isn't mistaken for its result
abbrev pub first_own : Around → ℕ
first_own a = if is_void (type_at a.program.types a.function.result) then 0 else suc (length a.function.parameters)
