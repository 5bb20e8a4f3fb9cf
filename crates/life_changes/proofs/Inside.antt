-- An owner's word lies within the value, and no type stands higher than there are types.
use Rattle.std.proofs.Common.{◌≡◌, ℕ, zero, suc, ◌+◌, ◌<◌, length, Option, Some, None, refl, arith}
use Rattle.std.proofs.lemmas.Option.{slice_get_within}
use Rattle.std.specs.Prelude.{slice_get}
use Rattle.life_types.specs.Types.{Types}
use Rattle.life_types.specs.declared.ty.Ty.{Ty}
use Rattle.life_types.specs.declared.ty.TyId.{TyId}
use Rattle.life_store.specs.Kinds.{Kind, Owner, first_owns, kind_in, row_behind}
use Rattle.life_store.specs.Parts.{Parts, Single, Raw, Iterates, Views, Text, Vector, Unique, Member, NoMember, width}
use Rattle.life_forest.specs.Kinds.{rank_if, rank_of}

first_inside : (u : ℕ) → first_owns u ≡ Owner → u < 1
first_inside zero e = omega arith
first_inside (suc u) e = absurd (unlike e)
  where
    unlike : first_owns (suc u) ≡ Owner → ⊥
    unlike h = cc

behind_inside : (n m : ℕ) (f g : ℕ → Kind) → ((u : ℕ) → f u ≡ Owner → u < n) → ((u : ℕ) → g u ≡ Owner → u < m) → (u : ℕ) → row_behind n f g u ≡ Owner → u < n + m
behind_inside zero m f g h k u e = let i = k u e in omega (arith, i)
behind_inside (suc n) m f g h k zero e = omega arith
behind_inside (suc n) m f g h k (suc u) e =
    let i = behind_inside n m (λ v. f (suc v)) g (λ v e'. let j = h (suc v) e' in omega (arith, j)) k u e in omega (arith, i)

pub owner_inside : (p : Parts) (u : ℕ) → kind_in p u ≡ Owner → u < width p
owner_inside Single u e = absurd (unlike e)
  where
    unlike : kind_in Single u ≡ Owner → ⊥
    unlike h = cc
owner_inside Raw u e = absurd (unlike e)
  where
    unlike : kind_in Raw u ≡ Owner → ⊥
    unlike h = cc
owner_inside Iterates u e = absurd (unlike e)
  where
    unlike : kind_in Iterates u ≡ Owner → ⊥
    unlike h = cc
owner_inside Views u e = absurd (unlike e)
  where
    unlike : kind_in Views u ≡ Owner → ⊥
    unlike h = cc
owner_inside (Text ty) u e = first_inside u e
owner_inside (Vector ty element) u e = first_inside u e
owner_inside (Unique ty target) u e = first_inside u e
owner_inside (Member first others) u e = behind_inside (width first) (width others) (kind_in first) (kind_in others) (owner_inside first) (owner_inside others) u e
owner_inside NoMember u e = absurd (unlike e)
  where
    unlike : kind_in NoMember u ≡ Owner → ⊥
    unlike h = cc

-- no type stands higher than there are types
pub deep_enough : (types : Types) (depth : ℕ) (ty : TyId) → length types.types < depth → rank_of types ty < depth
deep_enough types depth ty deep = go (slice_get types.types ty.0) refl
  where
    go : (t : Option Ty) → slice_get types.types ty.0 ≡ t → rank_if ty.0 t < depth
    go None e = omega (arith, deep)
    go (Some t) e = let within = slice_get_within types.types ty.0 t e in omega (arith, within, deep)
