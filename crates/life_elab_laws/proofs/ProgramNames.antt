-- The functions of a core program have the names of the typed ones, in their order, so no two of them have one.
use Rattle.std.proofs.Common.{◌≡◌, ℕ, true, ◌&&◌, ◌||◌, not, List, [], ◌∷◌, map, length, nat_eq, nat_lt, refl, sym, ap, ◌∙◌, Bool, ◌<◌, arith}
use Rattle.std.specs.List.{list_all, list_any}
use Rattle.std.proofs.lemmas.Bool.{and_from, and_parts}
use Rattle.std.proofs.lemmas.Bool.Decides.{nat_tests}
use Rattle.life_types.specs.Types.{Types}
use Rattle.life_types.specs.declared.ty.NameId.{NameId}
use Rattle.life_types.specs.declared.ty.TyId.{TyId}
use Rattle.life_core.specs.Function.{Function}
use Rattle.life_elab.specs.Programs.{member_names}
use Rattle.life_typed.specs.Programs.{FunctionForm, ProgramForm, StructForm}
use Rattle.life_well_typed.specs.Names as typed
use Rattle.life_well_typed.specs.Results.{HaveMembers}
use Rattle.life_proper.specs.WellFormedPrograms.{have_names, have_own_names, is_name, is_of_name}
use Rattle.life_elab_laws.proofs.Programs.{AreWritten}

module _ (p : ProgramForm) (types : Types) where
  none_named : (name : NameId) (fs : List FunctionForm) (cores : List Function) → AreWritten p types fs cores → list_any (is_of_name name) cores ≡ list_any (typed.is_of_name name) fs
  none_named name [] [] h = refl
  none_named name (f ∷ fs) (core ∷ cores) h =
      ap (λ (c : Function). nat_eq name.0 c.name.0 || list_any (is_of_name name) cores) h.0.is
      ∙ ap (λ (b : Bool). nat_eq name.0 f.name.0 || b) (none_named name fs cores h.1)
  none_named name _ _ h = absurd h

  pub own_names : (fs : List FunctionForm) (cores : List Function) → AreWritten p types fs cores → have_own_names cores ≡ typed.have_own_names fs
  own_names [] [] h = refl
  own_names (f ∷ fs) (core ∷ cores) h =
      ap (λ (c : Function). not (list_any (is_of_name c.name) cores) && have_own_names cores) h.0.is
      ∙ ap (λ (b : Bool). not b && have_own_names cores) (none_named f.name fs cores h.1)
      ∙ ap (λ (b : Bool). not (list_any (typed.is_of_name f.name) fs) && b) (own_names fs cores h.1)
  own_names _ _ h = absurd h

-- each struct has a member, and each of these a name
pub members_named : (names : ℕ) (forms : List StructForm) (structs : List (List TyId)) → list_all (typed.is_struct_named names) forms ≡ true → HaveMembers forms structs → have_names names structs (map member_names forms) ≡ true
members_named names [] [] b have = refl
members_named names (s ∷ ss) (ids ∷ structs) b have =
    let both = and_parts (list_all (typed.is_name names) s.members) (list_all (typed.is_struct_named names) ss) b in
    and_from (nat_lt 0 (length ids)) _ (less 0 (length ids) have.0)
    (and_from (nat_eq (length ids) (length s.members)) _ (equal (length ids) (length s.members) (sym have.1))
    (and_from (list_all (is_name names) s.members) (have_names names structs (map member_names ss)) both.0 (members_named names ss structs both.1 have.2)))
  where
    less : (m n : ℕ) → m < n → nat_lt m n ≡ true
    less m n h = grind (arith, nat_tests)

    equal : (m n : ℕ) → m ≡ n → nat_eq m n ≡ true
    equal m n h = grind (arith, nat_tests)
members_named names [] (ids ∷ structs) b have = absurd have
members_named names (s ∷ ss) [] b have = absurd have
