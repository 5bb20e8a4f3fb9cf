-- An owner in a store that takes another object.
use Rattle.std.proofs.Common.{◌≡◌, ℕ, [], ◌∷◌, Option, sym, ap}
use Rattle.life_types.specs.Types.{Types}
use Rattle.life_store.specs.Content.{Content, Object}
use Rattle.life_store.specs.Held.{owner_word, wrote_if}
use Rattle.life_store.specs.Places.{wrote_spot}
use Rattle.life_store.specs.References.{Rows}
use Rattle.life_seen.specs.Kinds.{kinds_of}
use Rattle.life_seen.proofs.References.{found_seen}
use Rattle.life_words.specs.Owning.{with_owner}
use Rattle.life_pointers.specs.Owned.{spot_seen}
use Rattle.life_pointers.specs.declared.owned.Spot.{Spot}
use Rattle.life_cells.specs.Fits.{meant}
use Rattle.life_cells.specs.Owners.{OwnsAt}

-- the word that is written is the meaning's
pub owner_wrote : (types : Types) (c : Content) (rows : Rows) (owner : Spot) (h : OwnsAt (kinds_of types) c rows owner) (owned : Option ℕ)
    → with_owner (kinds_of types) c rows owner.object owner.index owner.word h.object owned ≡ wrote_spot (spot_seen owner) (owner_word owned ∷ []) (meant types c rows)
owner_wrote types c rows owner h owned =
    ap (λ (x : Option Object). wrote_if x owner.object.birth owner.index owner.word (owner_word owned ∷ []) (meant types c rows))
    (sym (found_seen (kinds_of types) c rows h.is.housed owner.object h.object h.is.there))
