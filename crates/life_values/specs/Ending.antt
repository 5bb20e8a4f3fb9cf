-- What must be so for an object to end with all beneath it.
use Rattle.std.specs.Prelude.{◌≡◌, ◌<◌, ◌≤◌, ◌+◌, ℕ, List, [], ◌∷◌, Option, Some, MatchOption, slice_get}
use Rattle.std.proofs.Common.{◌⊎◌}
use Rattle.life_store.specs.Cells.{at}
use Rattle.life_store.specs.Content.{Object, Content, word_at}
use Rattle.life_store.specs.Held.{owner_word}
use Rattle.life_store.specs.References.{Rows}
use Rattle.life_store.specs.declared.object.ObjRef.{ObjRef}
use Rattle.life_forest.specs.Forest.{IsForest}
use Rattle.life_forest.specs.Kinds.{Kinds}
use Rattle.life_forest.specs.Owned.{times}
use Rattle.life_forest.specs.Values.{AllWide}
use Rattle.life_seen.specs.Housed.{IsHoused}
use Rattle.life_store.specs.Kinds.{Owner}
use Rattle.life_seen.specs.Kinds.{Kinds as Seen}
use Rattle.life_seen.specs.Seen.{seen}
use Rattle.life_values.specs.declared.deep_end.Found.{Found}

-- each slot is as wide as its object, and the words that own are within it
pub record IsSized (kinds : Seen) (o : Object) : Type 0 where
  pub wide : AllWide o.width o.slots
  pub owners : (u : ℕ) → kinds o.ty u ≡ Owner → u < o.width

abbrev pub AreSized : Seen → Content → Type 0
AreSized kinds c = (n : ℕ) (o : Object) → at c.objects n ≡ Some o → IsSized kinds o

-- the object is in the hand, and so many steps of owning are enough
pub record CanEnd (kinds : Seen) (kind : Kinds) (depth : ℕ) (r : ObjRef) (c : Content) (rows : Rows) : Type 0 where
  pub housed : IsHoused kinds c rows
  pub placed : at rows r.birth ≡ Some r.row
  pub sized : AreSized kinds (seen kinds c rows)
  pub hand : ℕ → ℕ
  pub forest : IsForest kind (λ k. times (r.birth ∷ []) k + hand k) (seen kinds c rows)
  pub deep : (o : Object) → at (seen kinds c rows).objects r.birth ≡ Some o → kind.rank o.ty < depth

-- ---- how far the words have been looked at

-- of the slots before one, all words; of that, so many
abbrev pub IsBefore : (i j slot index : ℕ) → Type 0
IsBefore i j slot index = (i < slot) ⊎ ((i ≡ slot) × (j < index))

abbrev pub IsClear : List ℕ → (slot index : ℕ) → Object → Type 0
IsClear owners slot index o = (i j u : ℕ) → slice_get owners j ≡ Some u → IsBefore i j slot index → word_at o i u ≡ 0

-- the first word of a slot, from one on, that owns something
abbrev pub NextIn : Rows → List ℕ → (slot from : ℕ) → Object → Option Found → Type 0
NextIn rows owners slot from o found =
    MatchOption found
    ((j u : ℕ) → from ≤ j → slice_get owners j ≡ Some u → word_at o slot u ≡ 0)
    (λ f. (from ≤ f.index)
    × ((j u : ℕ) → from ≤ j → j < f.index → slice_get owners j ≡ Some u → word_at o slot u ≡ 0)
    × (slice_get owners f.index ≡ Some f.word)
    × (word_at o slot f.word ≡ owner_word (Some f.owned.birth))
    × (at rows f.owned.birth ≡ Some f.owned.row))
