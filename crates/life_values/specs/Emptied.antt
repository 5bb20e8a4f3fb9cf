-- How what a value owns ends, one word after the other. These words own nothing then.
use Rattle.std.specs.Prelude.{◌≡◌, ◌<◌, ◌≤◌, ◌+◌, ◌^◌, ℕ, List, [], ◌∷◌, Option, Some, None, length, slice_get}
use Rattle.life_store.specs.Cells.{at}
use Rattle.life_store.specs.Content.{Object, Content, with_object, with_word, word_at}
use Rattle.life_store.specs.Held.{owned_in}
use Rattle.life_store.specs.Kinds.{Owner}
use Rattle.life_store.specs.References.{Rows}
use Rattle.life_forest.specs.Forest.{IsForest}
use Rattle.life_forest.specs.Kinds.{Kinds}
use Rattle.life_seen.specs.Housed.{IsHoused}
use Rattle.life_seen.specs.Kinds.{Kinds as Seen}
use Rattle.life_seen.specs.Seen.{seen}
use Rattle.life_values.specs.Ending.{AreSized}
use Rattle.life_values.specs.declared.spot.Spot.{Spot}

abbrev pub ended_if : (ℕ → Content → Content) → Option ℕ → Content → Content
ended_if end None c = c
ended_if end (Some n) c = end n c

-- a word is taken out, and what it owned ends
abbrev pub emptied_if : (ℕ → Content → Content) → Option Object → (n slot word : ℕ) → Content → Content
emptied_if end None n i w c = c
emptied_if end (Some o) n i w c = ended_if end (owned_in (word_at o i w)) (with_object n (with_word i w 0 o) c)

abbrev pub emptied : (ℕ → Content → Content) → (n slot word : ℕ) → Content → Content
emptied end n i w c = emptied_if end (at c.objects n) n i w c

-- .. those of a value that begins at a word
abbrev pub emptied_each : (ℕ → Content → Content) → (n slot word : ℕ) → List ℕ → Content → Content
emptied_each end n i w [] c = c
emptied_each end n i w (u ∷ us) c = emptied_each end n i w us (emptied end n i (w + u) c)

-- the words own, and so many steps of owning are enough for what they own
pub record CanEmpty (kinds : Seen) (kind : Kinds) (depth : ℕ) (spot : Spot) (owners : List ℕ) (c : Content) (rows : Rows) : Type 0 where
  pub housed : IsHoused kinds c rows
  pub placed : at rows spot.object.birth ≡ Some spot.object.row
  pub sized : AreSized kinds (seen kinds c rows)
  pub hand : ℕ → ℕ
  pub forest : IsForest kind hand (seen kinds c rows)
  pub object : Object
  pub there : at (seen kinds c rows).objects spot.object.birth ≡ Some object
  pub slot : spot.slot < length object.slots
  pub own : (j u : ℕ) → slice_get owners j ≡ Some u → kinds object.ty (spot.word + u) ≡ Owner
  pub small : (j u : ℕ) → slice_get owners j ≡ Some u → spot.word + u < 2 ^ 64
  pub deep : kind.rank object.ty ≤ depth
