-- How a word takes another object in place of what it owns, which ends.
use Rattle.std.specs.Prelude.{◌≡◌, ◌<◌, ℕ, List, [], ◌∷◌, Some}
use Rattle.life_store.specs.Cells.{at}
use Rattle.life_store.specs.Content.{Content}
use Rattle.life_store.specs.Held.{owner_word, wrote}
use Rattle.life_store.specs.References.{Rows}
use Rattle.life_store.specs.declared.object.ObjRef.{ObjRef}
use Rattle.life_forest.specs.Kinds.{Kinds}
use Rattle.life_seen.specs.Kinds.{Kinds as Seen}
use Rattle.life_values.specs.Emptied.{emptied_each, CanEmpty}
use Rattle.life_values.specs.declared.spot.Spot.{Spot}

-- what these words own ends, and the first owns another object
abbrev pub replaced_by : (ℕ → Content → Content) → (n slot word : ℕ) → List ℕ → (other : ℕ) → Content → Content
replaced_by end n i w us m c = wrote n i w (owner_word (Some m) ∷ []) (emptied_each end n i w us c)

-- one word owns, and another object is at hand, which nothing owns
pub record CanReplace (kinds : Seen) (kind : Kinds) (depth : ℕ) (spot : Spot) (owners : List ℕ) (other : ObjRef) (c : Content) (rows : Rows) : Type 0 where
  pub empty : CanEmpty kinds kind depth spot owners c rows
  pub one : owners ≡ 0 ∷ []
  pub placed : at rows other.birth ≡ Some other.row
  pub held : 0 < empty.hand other.birth
