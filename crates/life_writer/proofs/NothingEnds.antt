-- Where nothing has been declared since, and no temporary is pending, nothing ends.
use Rattle.std.proofs.Common.{◌≡◌, ℕ, ◌≤◌, List, length, take, reverse, ap, ◌∙◌}
use Rattle.std.proofs.lemmas.List.{drop_all, take_all}
use Rattle.life_types.specs.declared.place.Place.{Place}
use Rattle.life_writer.specs.Variables.{end, end_past, end_pending}
use Rattle.life_writer.specs.Writing.{State}

pub nothing_living : (n : ℕ) (place : Place) (s : State) → length s.living ≤ n → end_past n place s ≡ s
nothing_living n place s few = ap (λ (xs : List ℕ). end (reverse xs) place s) (drop_all n s.living few)

pub nothing_pending : (n : ℕ) (place : Place) (s : State) → length s.pending ≤ n → end_pending n place s ≡ s
nothing_pending n place s few =
    ap (λ (xs : List ℕ). let ended : State = end (reverse xs) place s in record ended { pending = take n s.pending }) (drop_all n s.pending few)
    ∙ ap (λ (xs : List ℕ). record s { pending = xs }) (take_all n s.pending few)
