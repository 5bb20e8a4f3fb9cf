-- What is asked of a proper program, at each of its functions and at each of their points.
use Rattle.std.proofs.Common.{◌≡◌, ℕ, zero, suc, true, List, [], ◌∷◌, Some, length, slice_get, ◌∙◌, subst}
use Rattle.std.proofs.lemmas.Option.{none-some, same_Some}
use Rattle.life_types.specs.Types.{Types}
use Rattle.life_core.specs.Function.{Function, Program}
use Rattle.life_core.specs.Linked.{Linked, code_of, numbered}
use Rattle.life_core.specs.Proper.{HasReadyWays, HaveReadyWays}
use Rattle.life_core_served.specs.Served.{lacks_slots}
use Rattle.life_proper.specs.GivenOver.{all_keep_given}
use Rattle.life_core_served.specs.ProperFunctions.{AreProperFunctions, IsProperFunction}
use Rattle.life_core_served.specs.ProperPrograms.{IsProperProgram, IsServedProgram}
use Rattle.life_proper.specs.WellFormed.{is_well_formed_node, is_well_formed_spot}
use Rattle.life_proper.specs.WellFormedPrograms.{is_well_formed_function}
use Rattle.life_proper.proofs.FormedSpots.{formed_spots}
use Rattle.life_proper.proofs.SortedNodes.{formed_parts}
use Rattle.life_proper.proofs.SpotTests.{all_at, point_tested}

-- ---- each function of a proper program

ways_at : (types : Types) (fs : List Function) (n : ℕ) (f : Function) → HaveReadyWays types fs → slice_get fs n ≡ Some f → HasReadyWays types f
ways_at types [] n f h at = absurd (none-some f at)
ways_at types (g ∷ gs) zero f h at = subst (HasReadyWays types) (same_Some g f at) h.0
ways_at types (g ∷ gs) (suc n) f h at = ways_at types gs n f h.1 at

pub proper_functions : (p : Program) → IsProperProgram p → AreProperFunctions p.types (length p.texts) p.functions
proper_functions p proper n f at = record {
  names = length p.names;
  formed = all_at (is_well_formed_function p.types (length p.names) (length p.texts) p.functions) p.functions n f proper.well_formed.functions at;
  ready = ways_at p.types p.functions n f proper.ready at;
  given = all_at (all_keep_given p.types) p.functions n f proper.given at;
}

-- .. and of one that is served
pub served_functions : (p : Program) → IsServedProgram p → (n : ℕ) (f : Function) → slice_get p.functions n ≡ Some f → lacks_slots p.types f ≡ true
served_functions p served n f at = all_at (lacks_slots p.types) p.functions n f served.serves at

-- ---- each point of a proper function

module _ (types : Types) (texts : ℕ) (fs : List Function) (f : Function) where
  pub point_formed : IsProperFunction types texts fs f → (p : ℕ) (l : Linked) → numbered (code_of f) p ≡ Some l → is_well_formed_node types texts fs f l.spot.node ≡ true
  point_formed proper p l at =
      point_tested (is_well_formed_spot types texts fs f) f p l (formed_spots types texts fs f f.body ∙ (formed_parts types proper.names texts fs f proper.formed).body) at
