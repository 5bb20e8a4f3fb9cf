-- The points of a tree are as it is.
use Rattle.std.proofs.Common.{◌≡◌, ℕ, List, refl}
use Rattle.std.specs.List.{list_all}
use Rattle.life_types.specs.Types.{Types}
use Rattle.life_core.specs.Function.{Function}
use Rattle.life_core.specs.Tree.{Tree, Skip, Then, Acts, Asks, Both, Either, Negated, Choice, Turns, Breaks, Continues, Returns, Stops, spots}
use Rattle.life_proper.specs.WellFormed.{is_well_formed_spot, is_well_formed_step, is_well_formed_test, is_well_formed_tree}
use Rattle.life_proper.proofs.Joining.{and_true}
use Rattle.life_proper.proofs.SpotTests.{three_parts, two_parts}

module _ (types : Types) (texts : ℕ) (fs : List Function) (f : Function) where
  pub formed_spots : (t : Tree) → list_all (is_well_formed_spot types texts fs f) (spots t) ≡ is_well_formed_tree types texts fs f t
  formed_spots Skip = refl
  formed_spots (Then a b) = two_parts (is_well_formed_spot types texts fs f) (spots a) (spots b) _ _ (formed_spots a) (formed_spots b)
  formed_spots (Acts place i) = and_true (is_well_formed_step types texts fs f i)
  formed_spots (Asks place t) = and_true (is_well_formed_test types texts fs f t)
  formed_spots (Both a b) = two_parts (is_well_formed_spot types texts fs f) (spots a) (spots b) _ _ (formed_spots a) (formed_spots b)
  formed_spots (Either a b) = two_parts (is_well_formed_spot types texts fs f) (spots a) (spots b) _ _ (formed_spots a) (formed_spots b)
  formed_spots (Negated a) = formed_spots a
  formed_spots (Choice t a b) = three_parts (is_well_formed_spot types texts fs f) (spots t) (spots a) (spots b) _ _ _ (formed_spots t) (formed_spots a) (formed_spots b)
  formed_spots (Turns t body step) = three_parts (is_well_formed_spot types texts fs f) (spots t) (spots body) (spots step) _ _ _ (formed_spots t) (formed_spots body) (formed_spots step)
  formed_spots Breaks = refl
  formed_spots Continues = refl
  formed_spots (Returns place) = refl
  formed_spots (Stops place) = refl
