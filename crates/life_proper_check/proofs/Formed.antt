-- What is decided of a program is that it is well formed.
use Rattle.std.proofs.Common.{◌≡◌, ℕ, true, List, [], ◌∷◌, length, slice_get, refl, sym, ◌∙◌}
use Rattle.std.proofs.lemmas.Bool.{and_from, and_parts}
use Rattle.std.specs.List.{list_all}
use Rattle.std.specs.Prelude.{nat_le}
use Rattle.life_types.specs.Trees.{IsOrdered}
use Rattle.life_types.specs.Types.{HasEachOnce, Types}
use Rattle.life_core.specs.Function.{Function, Program}
use Rattle.life_core.specs.Tree.{spots}
use Rattle.life_proper.specs.WellFormed.{is_well_formed_spot}
use Rattle.life_proper.specs.WellFormedPrograms.{IsWellFormedProgram, are_well_formed_locals, have_names, have_own_names, is_name, is_result_of, is_well_formed_function, names_parameters}
use Rattle.life_proper.proofs.FormedSpots.{formed_spots}
use Rattle.life_proper_check.specs.Deciding.{is_formed_function, is_formed_header, is_formed_program}

module _ (types : Types) (names texts : ℕ) (fs : List Function) where
  function_formed : (f : Function) → is_formed_function types names texts fs f ≡ true → is_well_formed_function types names texts fs f ≡ true
  function_formed f e =
      let both = and_parts (is_formed_header types names f) (list_all (is_well_formed_spot types texts fs f) (spots f.body)) e in
      let a = and_parts (is_name names f.name) _ both.0 in
      let b = and_parts (nat_le f.parameters (length f.locals)) _ a.1 in
      let c = and_parts (names_parameters f.parameters f.promise) _ b.1 in
      let d = and_parts (is_result_of types f.result (slice_get types.types f.result.0) (slice_get f.locals f.parameters)) (are_well_formed_locals types names f.parameters 0 f.locals) c.1 in
      and_from _ _ a.0 (and_from _ _ b.0 (and_from _ _ c.0 (and_from _ _ d.0 (and_from _ _ d.1 (sym (formed_spots types texts fs f f.body) ∙ both.1)))))

  functions_formed : (gs : List Function) → list_all (is_formed_function types names texts fs) gs ≡ true → list_all (is_well_formed_function types names texts fs) gs ≡ true
  functions_formed [] e = refl
  functions_formed (f ∷ gs) e =
      let both = and_parts (is_formed_function types names texts fs f) (list_all (is_formed_function types names texts fs) gs) e in
      and_from _ _ (function_formed f both.0) (functions_formed gs both.1)

pub program_formed : (p : Program) → IsOrdered p.types → HasEachOnce p.types → is_formed_program p ≡ true → IsWellFormedProgram p
program_formed p ordered once e =
    let a = and_parts (have_names (length p.names) p.types.structs p.members) _ e in
    let b = and_parts (have_own_names p.functions) _ a.1 in
    record {
      table = ordered;
      once = once;
      members = a.0;
      own_names = b.0;
      functions = functions_formed p.types (length p.names) (length p.texts) p.functions p.functions b.1;
    }
