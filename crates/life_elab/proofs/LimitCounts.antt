-- Which limit is told.
use Rattle.std.proofs.Common.{◌≡◌, ◌<◌, ◌≤◌, ℕ, Bool, Option, Some, None, ap, ◌∙◌, arith}
use Rattle.std.specs.Prelude.{if◌then◌else◌}
use Rattle.std.proofs.lemmas.Bool.{lt-ltb, le-ltb}
use Rattle.life_types.specs.declared.place.Place.{Place}
use Rattle.life_tree.specs.declared.limit.LimitFault.{LimitFault}
use Rattle.life_tree.specs.declared.limit.LimitName.{LimitName}
use Rattle.life_tree.specs.declared.limit.LimitName.TheVariants.{Locations, Points, Elements}
use Rattle.life_elab.specs.Over.{first_of, first_passed, limit, passes}

passed : (count most : ℕ) (name : LimitName) (place : Place) → most < count → passes count most name place ≡ Some (limit name place)
passed count most name place many = ap (λ (b : Bool). if b then Some (limit name place) else None) (lt-ltb most count many)

not_passed : (count most : ℕ) (name : LimitName) (place : Place) → count ≤ most → passes count most name place ≡ None
not_passed count most name place few = ap (λ (b : Bool). if b then Some (limit name place) else None) (le-ltb most count few)

more : (count most : ℕ) → (count ≤ most → ⊥) → most < count
more count most many = omega (arith, many)

module _ (locations points elements : ℕ) (place : Place) where
  -- what comes behind the locations
  abbrev behind : Option LimitFault
  behind = first_of (passes points 1024 Points place) (passes elements 2048 Elements place)

  pub over_locations : (locations ≤ 256 → ⊥) → first_passed locations points elements place ≡ Some (limit Locations place)
  over_locations many = ap (λ (o : Option LimitFault). first_of o behind) (passed locations 256 Locations place (more locations 256 many))

  few_locations : locations ≤ 256 → first_passed locations points elements place ≡ behind
  few_locations few = ap (λ (o : Option LimitFault). first_of o behind) (not_passed locations 256 Locations place few)

  few_points : points ≤ 1024 → behind ≡ passes elements 2048 Elements place
  few_points few = ap (λ (o : Option LimitFault). first_of o (passes elements 2048 Elements place)) (not_passed points 1024 Points place few)

  pub over_points : locations ≤ 256 → (points ≤ 1024 → ⊥) → first_passed locations points elements place ≡ Some (limit Points place)
  over_points few many = few_locations few ∙ ap (λ (o : Option LimitFault). first_of o (passes elements 2048 Elements place)) (passed points 1024 Points place (more points 1024 many))

  pub over_elements : locations ≤ 256 → points ≤ 1024 → (elements ≤ 2048 → ⊥) → first_passed locations points elements place ≡ Some (limit Elements place)
  over_elements few little many = few_locations few ∙ few_points little ∙ passed elements 2048 Elements place (more elements 2048 many)

  pub over_none : locations ≤ 256 → points ≤ 1024 → elements ≤ 2048 → first_passed locations points elements place ≡ None
  over_none few little short = few_locations few ∙ few_points little ∙ not_passed elements 2048 Elements place short
