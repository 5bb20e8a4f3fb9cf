-- Sums of widths.
use Rattle.std.proofs.Common.{◌≡◌, ◌≤◌, ◌+◌, ℕ, List, [], ◌∷◌, Option, Some, None, refl, sym, ap, arith}
use Rattle.std.specs.Prelude.{fold, slice_get}
use Rattle.life_types.specs.Types.{Types}
use Rattle.life_types.specs.declared.ty.TyId.{TyId}
use Rattle.life_store.specs.Parts as parts
use Rattle.life_store.specs.Parts.{width}
use Rattle.life_values.specs.Layouts.{width_at, width_in, AreLaid}
use Rattle.life_values.specs.declared.layout.Layout.{Layout}
use Rattle.life_values.proofs.Flat.{single_past}

-- a sum that has come so far
abbrev pub added : {X : Type 0} → (X → ℕ) → ℕ → List X → ℕ
added f n xs = fold (λ a x. a + f x) n xs

pub added_more : {X : Type 0} (f : X → ℕ) (n : ℕ) (xs : List X) → n ≤ added f n xs
added_more f n [] = omega arith
added_more f n (x ∷ xs) = let rest = added_more f (n + f x) xs in omega (arith, rest)

-- the layouts have the widths
pub width_laid : (types : Types) (layouts : List Layout) → AreLaid types layouts → (ty : TyId) → width_at layouts ty ≡ parts.width_at types ty
width_laid types layouts laid ty = go (slice_get layouts ty.0) refl
  where
    go : (o : Option Layout) → slice_get layouts ty.0 ≡ o → width_in o ≡ parts.width_at types ty
    go None e = sym (ap width (single_past types layouts laid ty e))
    go (Some l) e = (laid.1 ty l e).width
