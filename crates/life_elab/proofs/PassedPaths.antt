-- Which limit is told of structs and of paths.
use Rattle.std.proofs.Common.{◌≡◌, ◌<◌, ◌≤◌, ℕ, Bool, true, false, Option, Some, None, ap, ◌∙◌, arith, length}
use Rattle.std.specs.Prelude.{nat_lt, if◌then◌else◌}
use Rattle.std.proofs.lemmas.Bool.{lt-ltb, le-ltb}
use Rattle.life_types.specs.Trees.{members_at, struct_of, tree_at}
use Rattle.life_types.specs.Types.{Types}
use Rattle.life_types.specs.declared.place.Place.{Place}
use Rattle.life_tree.specs.declared.limit.LimitFault.{LimitFault}
use Rattle.life_tree.specs.declared.limit.LimitName.{LimitName}
use Rattle.life_tree.specs.declared.limit.LimitName.TheVariants.{Fields, Path}
use Rattle.life_core.specs.declared.program.Local.{Local}
use Rattle.life_typed.specs.Programs.{StructForm}
use Rattle.life_elab.specs.KeptPaths.{is_long}
use Rattle.life_elab.specs.Over.{first_of, limit, over_local, over_struct, passes}
use Rattle.life_elab.specs.Paths.{steps}

passed : (count most : ℕ) (name : LimitName) (place : Place) (b : Bool) → nat_lt most count ≡ b → passes count most name place ≡ if b then Some (limit name place) else None
passed count most name place b is = ap (λ (t : Bool). if t then Some (limit name place) else None) is

abbrev pub struct_steps : Types → ℕ → ℕ
struct_steps types number = steps (struct_of (tree_at types) (members_at types number))

module _ (types : Types) (number : ℕ) (s : StructForm) where
  pub too_many_fields : 32 < length s.members → over_struct types number s ≡ Some (limit Fields s.place)
  too_many_fields many =
      ap (λ (o : Option LimitFault). first_of o (passes (struct_steps types number) 8 Path s.place)) (passed (length s.members) 32 Fields s.place true (lt-ltb 32 (length s.members) many))

  few_fields : (32 < length s.members → ⊥) → over_struct types number s ≡ passes (struct_steps types number) 8 Path s.place
  few_fields few =
      let not_more : length s.members ≤ 32 = omega (arith, few) in
      ap (λ (o : Option LimitFault). first_of o (passes (struct_steps types number) 8 Path s.place)) (passed (length s.members) 32 Fields s.place false (le-ltb 32 (length s.members) not_more))

  pub too_long_struct : (32 < length s.members → ⊥) → is_long (struct_steps types number) ≡ true → over_struct types number s ≡ Some (limit Path s.place)
  too_long_struct few long = few_fields few ∙ passed (struct_steps types number) 8 Path s.place true long

  pub short_struct : (32 < length s.members → ⊥) → is_long (struct_steps types number) ≡ false → over_struct types number s ≡ None
  short_struct few short = few_fields few ∙ passed (struct_steps types number) 8 Path s.place false short

module _ (types : Types) (l : Local) where
  pub too_long_local : is_long (steps (tree_at types l.ty)) ≡ true → over_local types l ≡ Some (limit Path l.place)
  too_long_local long = passed (steps (tree_at types l.ty)) 8 Path l.place true long

  pub short_local : is_long (steps (tree_at types l.ty)) ≡ false → over_local types l ≡ None
  short_local short = passed (steps (tree_at types l.ty)) 8 Path l.place false short
