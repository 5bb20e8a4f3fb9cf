-- The states of the generator.
use Rattle.std.proofs.Common.{ℕ, zero, suc, ◌<◌, arith}
use Rattle.life_vectors.specs.Generated.{state}

pub state_is_small : (number n : ℕ) → state number n < 65537
state_is_small number zero = omega arith
state_is_small number (suc n) = omega arith
