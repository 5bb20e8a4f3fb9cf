-- Where no temporaries are made, a full expression ends nothing.
use Rattle.std.proofs.Common.{◌≡◌, ◌≤◌, ℕ, List, length, reverse, take, ap, ◌∙◌, arith}
use Rattle.std.proofs.lemmas.List.{drop_all, take_all}
use Rattle.life_types.specs.declared.place.Place.{Place}
use Rattle.life_writer.specs.Variables.{end, end_pending}
use Rattle.life_writer.specs.Writing.{State}

none_pending : (s : State) (n : ℕ) (place : Place) → length s.pending ≤ n → end_pending n place s ≡ s
none_pending s n place few =
    ap (λ (xs : List ℕ). let ended : State = end (reverse xs) place s in record ended { pending = take n s.pending }) (drop_all n s.pending few)
    ∙ ap (λ (xs : List ℕ). record s { pending = xs }) (take_all n s.pending few)

-- .. of what was written from one state to another
pub same_pending : (s s' : State) (place : Place) → s'.pending ≡ s.pending → end_pending (length s.pending) place s' ≡ s'
same_pending s s' place e = none_pending s' (length s.pending) place (omega (arith, ap length e))
