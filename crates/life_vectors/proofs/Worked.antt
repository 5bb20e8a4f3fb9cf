-- Small programs, by hand.
use Rattle.std.proofs.Common.{◌≡◌, codes, refl}
use Rattle.life_vectors.specs.Generated.{generated, state}

pub without_functions : generated 0 0 ≡ codes "int main() { return 1; }\n"
without_functions = refl

pub first_states : (state 2 1 ≡ 224) × ((state 2 2 ≡ 16874) × (state 2 3 ≡ 20421))
first_states = (refl, (refl, refl))
