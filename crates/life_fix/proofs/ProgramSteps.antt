-- How many steps the functions of a program take at most, one function after the other.
use Rattle.std.proofs.Common.{◌≡◌, ℕ, ◌+◌, List, ◌∷◌, Some, ap, drop, slice_get, ◌∙◌}
use Rattle.std.proofs.lemmas.List.{drop_more}
use Rattle.std.proofs.lemmas.Option.{get_or_from_slice_get, slice_get_within}
use Rattle.life_types.specs.Types.{Types}
use Rattle.life_core.specs.Function.{Function}
use Rattle.life_fix.specs.Programs.{most_steps_in}
use Rattle.life_fix.specs.Solving.{most_steps}

-- what is left from a function on begins with it
rest_from : (fs : List Function) (k : ℕ) (f : Function) → slice_get fs k ≡ Some f → drop k fs ≡ f ∷ drop (k + 1) fs
rest_from fs k f there = drop_more fs k f (slice_get_within fs k f there) ∙ ap (λ (g : Function). g ∷ drop (k + 1) fs) (get_or_from_slice_get fs k f f there)

pub steps_at : (types : Types) (fs : List Function) (k : ℕ) (f : Function) → slice_get fs k ≡ Some f
    → most_steps_in types (drop k fs) ≡ most_steps types f + most_steps_in types (drop (k + 1) fs)
steps_at types fs k f there = ap (most_steps_in types) (rest_from fs k f there)
