-- How a string gets other characters.
use Rattle.std.specs.Prelude.{◌≡◌, ◌<◌, ℕ, List, [], ◌∷◌}
use Rattle.life_types.specs.declared.ty.TyId.{TyId}
use Rattle.life_store.specs.Content.{Content}
use Rattle.life_store.specs.Effects.{Setting, Attempt, Got, then_get}
use Rattle.life_store.specs.Parts.{Single}
use Rattle.life_store.specs.References.{Rows}
use Rattle.life_forest.specs.Kinds.{Kinds}
use Rattle.life_forest.specs.Values.{IsLaid}
use Rattle.life_seen.specs.Kinds.{Kinds as Seen}
use Rattle.life_values.specs.Emptied.{CanEmpty}
use Rattle.life_values.specs.Replaced.{replaced_by}
use Rattle.life_values.specs.Texts.{text_born}
use Rattle.life_values.specs.declared.spot.Spot.{Spot}

-- a fresh buffer of these characters takes the place of the old one
abbrev pub given_characters : Setting → (ℕ → Content → Content) → TyId → (n slot word : ℕ) → List ℕ → (characters : List ℕ) → Content → Attempt Content
given_characters s end ty n i w us characters c = then_get (text_born s ty characters c) (λ f. Got (replaced_by end n i w us f.0 f.1))

-- one word owns a buffer of characters, which are below what holds them
pub record CanRewrite (kinds : Seen) (kind : Kinds) (depth : ℕ) (spot : Spot) (owners : List ℕ) (ty : TyId) (c : Content) (rows : Rows) : Type 0 where
  pub empty : CanEmpty kinds kind depth spot owners c rows
  pub one : owners ≡ 0 ∷ []
  pub laid : IsLaid kind ty Single
  pub lower : kind.rank ty < kind.rank empty.object.ty
