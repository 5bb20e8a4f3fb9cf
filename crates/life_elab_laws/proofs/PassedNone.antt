-- What passes no limit.
use Rattle.std.proofs.Common.{◌≡◌, ◌≤◌, ℕ, Bool, true, false, if◌then◌else◌, nat_lt, Option, None, Some, arith, refl, sym}
use Rattle.std.proofs.lemmas.Bool.Decides.{nat_tests}
use Rattle.std.proofs.lemmas.Option.{none-some}
use Rattle.life_types.specs.declared.place.Place.{Place}
use Rattle.life_tree.specs.declared.limit.LimitFault.{LimitFault}
use Rattle.life_tree.specs.declared.limit.LimitName.{LimitName}
use Rattle.life_elab.specs.Over.{first_of, limit, passes}

pub first_none : (a b : Option LimitFault) → first_of a b ≡ None → (a ≡ None) × (b ≡ None)
first_none None b h = (refl, h)
first_none (Some fault) b h = absurd (none-some fault (sym h))

pub not_passed : (count most : ℕ) (name : LimitName) (place : Place) → passes count most name place ≡ None → count ≤ most
not_passed count most name place none = go (nat_lt most count) refl none
  where
    at_most : nat_lt most count ≡ false → count ≤ most
    at_most h = grind (arith, nat_tests)

    go : (b : Bool) → nat_lt most count ≡ b → (if b then Some (limit name place) else None) ≡ None → count ≤ most
    go true is none = absurd (none-some (limit name place) (sym none))
    go false is none = at_most is
