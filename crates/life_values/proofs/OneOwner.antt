-- Layouts are those of the parts of their types: a string, a vector and a unique_ptr have one word that owns, the first.
use Rattle.std.proofs.Common.{◌≡◌, List, [], ◌∷◌, Option, Some, None, refl, sym, ap, ◌∙◌}
use Rattle.std.specs.Prelude.{slice_get}
use Rattle.life_types.specs.Types.{Types}
use Rattle.life_types.specs.declared.ty.TyId.{TyId}
use Rattle.life_store.specs.Parts.{Parts, Text, Unique, Vector, parts_at}
use Rattle.life_values.specs.Layouts.{flat, leaves_at, leaves_in, owner_words, owners_at, owners_in, AreLaid}
use Rattle.life_values.specs.declared.layout.Layout.{Layout}
use Rattle.life_values.proofs.Flat.{single_past}

module _ (types : Types) (layouts : List Layout) (laid : AreLaid types layouts) (ty : TyId) where
  pub owners_by_parts : owners_at layouts ty ≡ owner_words (flat 0 (parts_at types ty))
  owners_by_parts = go (slice_get layouts ty.0) refl
    where
      go : (o : Option Layout) → slice_get layouts ty.0 ≡ o → owners_in o ≡ owner_words (flat 0 (parts_at types ty))
      go None e = ap (λ (p : Parts). owner_words (flat 0 p)) (sym (single_past types layouts laid ty e))
      go (Some l) e = (laid.1 ty l e).owners

  pub leaves_by_parts : leaves_at layouts ty ≡ flat 0 (parts_at types ty)
  leaves_by_parts = go (slice_get layouts ty.0) refl
    where
      go : (o : Option Layout) → slice_get layouts ty.0 ≡ o → leaves_in o ≡ flat 0 (parts_at types ty)
      go None e = ap (flat 0) (sym (single_past types layouts laid ty e))
      go (Some l) e = (laid.1 ty l e).leaves

  pub text_owner : (characters : TyId) → parts_at types ty ≡ Text characters → owners_at layouts ty ≡ 0 ∷ []
  text_owner characters is = owners_by_parts ∙ ap (λ (p : Parts). owner_words (flat 0 p)) is

  pub vector_owner : (elements : TyId) (element : Parts) → parts_at types ty ≡ Vector elements element → owners_at layouts ty ≡ 0 ∷ []
  vector_owner elements element is = owners_by_parts ∙ ap (λ (p : Parts). owner_words (flat 0 p)) is

  pub unique_owner : (object : TyId) (target : Parts) → parts_at types ty ≡ Unique object target → owners_at layouts ty ≡ 0 ∷ []
  unique_owner object target is = owners_by_parts ∙ ap (λ (p : Parts). owner_words (flat 0 p)) is
