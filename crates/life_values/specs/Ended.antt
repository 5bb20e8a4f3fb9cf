-- How an object ends with all beneath it, by the kinds of its words.
use Rattle.std.specs.Prelude.{◌≡◌, ℕ, zero, suc, List, [], ◌∷◌}
use Rattle.life_types.specs.declared.ty.TyId.{TyId}
use Rattle.life_store.specs.Cells.{at}
use Rattle.life_store.specs.Content.{Content, without}
use Rattle.life_forest.specs.Kinds.{Kinds}
use Rattle.life_store.specs.Kinds.{is_owner}
use Rattle.life_forest.specs.Owned.{owned_list}
use Rattle.life_seen.specs.Kinds.{Kinds as Seen}

abbrev pub ended_each : (ℕ → Content → Content) → List ℕ → Content → Content
ended_each end [] c = c
ended_each end (n ∷ ns) c = ended_each end ns (end n c)

-- the object, and then what it owned, so many steps deep
abbrev pub ended_number : Kinds → (depth : ℕ) → ℕ → Content → Content
ended_number kind zero n c = c
ended_number kind (suc depth) n c = ended_each (ended_number kind depth) (owned_list kind (at c.objects n)) (without n c)

-- ---- the kinds of words in a store, and those of the forest

-- both tell the same words that own
abbrev pub AreAlike : Seen → Kinds → Type 0
AreAlike kinds kind = (ty : TyId) (u : ℕ) → is_owner (kinds ty u) ≡ is_owner (kind.word ty u)
