-- What the layouts say of the widths of all types.
use Rattle.std.proofs.Common.{◌≡◌, ℕ, ◌^◌, ◌≤◌, true, List, Option, Some, None, refl, ap, arith}
use Rattle.std.proofs.lemmas.Bool.Decides.{nat_tests}
use Rattle.std.specs.List.{list_all}
use Rattle.std.specs.Prelude.{nat_le, slice_get}
use Rattle.life_types.specs.Types.{Types}
use Rattle.life_types.specs.declared.ty.TyId.{TyId}
use Rattle.life_proper.proofs.SpotTests.{all_at}
use Rattle.life_store.specs.Parts.{width, width_at}
use Rattle.life_values.specs.Layouts.{AreLaid}
use Rattle.life_values.specs.declared.layout.Layout.{Layout}
use Rattle.life_values.proofs.Flat.{single_past}
use Rattle.life_interp.specs.Layouts.{is_narrow}

le_of : (a b : ℕ) → nat_le a b ≡ true → a ≤ b
le_of a b e = grind (arith, nat_tests)

pub narrow_types : (types : Types) (layouts : List Layout) → AreLaid types layouts → list_all is_narrow layouts ≡ true → (ty : TyId) → width_at types ty ≤ 2 ^ 32
narrow_types types layouts laid all ty = go (slice_get layouts ty.0) refl
  where
    go : (o : Option Layout) → slice_get layouts ty.0 ≡ o → width_at types ty ≤ 2 ^ 32
    go (Some l) e =
        let same = (laid.1 ty l e).width in
        let small = le_of l.width (2 ^ 32) (all_at is_narrow layouts ty.0 l all e) in
        omega (arith, same, small)
    -- a type that the table doesn't have has one word
    go None e = let one : width_at types ty ≡ 1 = ap width (single_past types layouts laid ty e) in omega (arith, one)
