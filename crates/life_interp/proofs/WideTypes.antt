-- Every value has a word, since every struct has a member.
use Rattle.std.proofs.Common.{◌≡◌, ℕ, zero, suc, ◌<◌, ◌≤◌, List, [], ◌∷◌, length, Option, Some, None, refl, arith}
use Rattle.std.specs.Prelude.{slice_get}
use Rattle.life_types.specs.Trees.{IsOrdered, members_at}
use Rattle.life_types.specs.Types.{Types}
use Rattle.life_types.specs.declared.ty.Ty.{Ty}
use Rattle.life_types.specs.declared.ty.Ty.TheVariants as ty
use Rattle.life_types.specs.declared.ty.TyId.{TyId}
use Rattle.life_store.specs.Parts.{Parts, parts_at, parts_of, parts_within, struct_of, width}
use Rattle.life_forest.proofs.SettlingLives.{HaveMembers}

wide_members : (part : TyId → Parts) → ((id : TyId) → 1 ≤ width (part id)) → (ids : List TyId) → 0 < length ids → 1 ≤ width (struct_of part ids)
wide_members part wide [] some = absurd (omega (arith, some))
wide_members part wide (id ∷ ids) some = let h = wide id in omega (arith, h)

module _ (types : Types) (ordered : IsOrdered types) (some : HaveMembers types) where
  wide_type : (part : TyId → Parts) → ((id : TyId) → 1 ≤ width (part id)) → (id : TyId) (o : Option Ty) → slice_get types.types id.0 ≡ o → 1 ≤ width (parts_of types part o)
  wide_type part wide id (Some (ty.Struct number)) e =
      let below = ordered.parts id.0 (ty.Struct number) e in
      wide_members part wide (members_at types number) (rw (below.there) (some number below.members below.there))
  wide_type part wide id None e = omega arith
  wide_type part wide id (Some _) e = omega arith

  wide_within : (n : ℕ) (id : TyId) → 1 ≤ width (parts_within n types id)
  wide_within zero id = omega arith
  wide_within (suc n) id = wide_type (parts_within n types) (λ k. wide_within n k) id (slice_get types.types id.0) refl

  pub are_wide : (id : TyId) → 1 ≤ width (parts_at types id)
  are_wide id = wide_within (suc id.0) id
