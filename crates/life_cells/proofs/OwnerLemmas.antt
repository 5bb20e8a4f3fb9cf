-- Owners that are found where an operand or a location says.
use Rattle.std.proofs.Common.{◌≡◌, ℕ, Option, Some, None, refl, ap, ◌∙◌, arith}
use Rattle.std.proofs.lemmas.Option.{none-some}
use Rattle.life_types.specs.Types.{Types}
use Rattle.life_core.specs.Function.{Function}
use Rattle.life_core.specs.Operands.{Location, Operand}
use Rattle.life_store.specs.Content.{Content}
use Rattle.life_store.specs.Effects.{Attempt, Got, GotLost}
use Rattle.life_store.specs.Kinds.{Owner}
use Rattle.life_store.specs.Places as places
use Rattle.life_store.specs.Places.{locate, operand_word, owner_spot_if}
use Rattle.life_store.specs.References.{Rows}
use Rattle.life_store.specs.State.{Cell, Empty, Named, Number, Points, State}
use Rattle.life_store.specs.declared.object.ObjRef.{ObjRef}
use Rattle.life_seen.specs.Housed.{IsHoused}
use Rattle.life_seen.specs.Kinds.{kinds_of}
use Rattle.life_seen.specs.Named.{names_of}
use Rattle.life_seen.specs.Seen.{object_seen}
use Rattle.life_pointers.specs.Places.{IsHere}
use Rattle.life_pointers.specs.declared.owned.Spot.{Spot}
use Rattle.life_cells.specs.Cells.{object_in}
use Rattle.life_cells.specs.Owners.{OwnsAt}
use Rattle.life_cells.specs.Typed.{IsOwnerPlace}
use Rattle.life_cells.proofs.Stored.{IsStored}

-- ---- at a place

pub here_owns : (types : Types) (f : Function) (o : Operand) (st : State) (c : Content) (rows : Rows) → IsHoused (kinds_of types) c rows → IsOwnerPlace types f o st
    → (s : Spot) → (h : IsHere (kinds_of types) c rows (locate types f o st) s) → s.word ≡ operand_word types f o st → OwnsAt (kinds_of types) c rows s
here_owns types f o st c rows housed place s h word =
    let seen_there = object_seen (kinds_of types) (names_of c rows) h.object in
    let lies = place.placed.lies s.object.birth s.index seen_there h.here in
    record {
      object = h.object;
      is = record { housed = housed; there = h.lives; owner = ap (kinds_of types h.object.ty) word ∙ place.owner s.object.birth s.index seen_there h.here };
      word = record { has_slot = h.slot; has_word = let w = lies.within in omega (arith, w, word) };
    }

-- ---- at a location

abbrev pub spot_of : (n word : ℕ) → Attempt places.Spot
spot_of n word = Got (record { object = n; index = 0; word = word })

pub no_spot : (types : Types) (f : Function) (l : Location) (v : Option Cell) → None ≡ object_in v → owner_spot_if types f l v ≡ GotLost
no_spot types f l None e = refl
no_spot types f l (Some Empty) e = refl
no_spot types f l (Some (Named n)) e = absurd (none-some n e)
no_spot types f l (Some (Number z)) e = refl
no_spot types f l (Some (Points p)) e = refl

pub stored_owns : (types : Types) (c : Content) (rows : Rows) (r : ObjRef) (word w : ℕ) → IsHoused (kinds_of types) c rows → w ≡ word → (s : IsStored types Owner 1 c rows r word)
    → OwnsAt (kinds_of types) c rows (record { object = r; index = 0; word = w })
stored_owns types c rows r word w housed same s = record {
  object = s.object;
  is = record { housed = housed; there = s.there; owner = ap (kinds_of types s.object.ty) same ∙ s.is };
  word = record { has_slot = s.slot; has_word = let l = s.lies.within in omega (arith, l, same) };
}
