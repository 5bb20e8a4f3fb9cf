-- One after the other, up to the first rule that is broken.
use Rattle.std.specs.Prelude.{List, [], ◌∷◌, Ok}
use Rattle.life_types.specs.Types.{Types}
use Rattle.life_names.specs.Checked.{Checked, ◌>>=◌}
use Rattle.life_names.specs.Environment.{Scope}

abbrev pub each : {A B : Type 0} → (A → Scope → Types → Checked B) → List A → Scope → Types → Checked (List B)
each f [] scope types = Ok ([], types)
each f (x ∷ xs) scope types = f x scope types >>= (λ y. each f xs scope y.1 >>= (λ ys. Ok (y.0 ∷ ys.0, ys.1)))
