-- How a string, a vector or a unique_ptr gives what it has to another, whose own ends.
use Rattle.std.specs.Prelude.{◌≡◌, ◌<◌, ◌≤◌, ◌^◌, ℕ, Bool, true, false, List, [], ◌∷◌, Option, Some, None, MatchOption, length, slice_get, slice_index}
use Rattle.life_types.specs.Types.{Types}
use Rattle.life_store.specs.Cells.{at}
use Rattle.life_store.specs.Content.{Object, Content}
use Rattle.life_store.specs.Doing.{giving, moved_to}
use Rattle.life_store.specs.Effects.{Attempt, Got, GotFault, then_get}
use Rattle.life_store.specs.Held.{owned_in, owner_word, slot_words}
use Rattle.life_store.specs.Owners.{taken}
use Rattle.life_store.specs.Parts.{Parts, Text, Vector, Unique, parts_at}
use Rattle.life_store.specs.Places.{Spot as Place}
use Rattle.life_store.specs.References.{Rows}
use Rattle.life_store.specs.declared.object.ObjRef.{ObjRef}
use Rattle.life_store.specs.declared.run.FaultKind.TheVariants as fault
use Rattle.life_forest.specs.Kinds.{rank_of, Kinds}
use Rattle.life_forest.specs.Typed.{IsStore}
use Rattle.life_forest.specs.Within.{LiesWithin}
use Rattle.life_seen.specs.Housed.{IsHoused, Shows}
use Rattle.life_seen.specs.Kinds.{kinds_of, Kinds as Seen}
use Rattle.life_seen.specs.Seen.{seen}
use Rattle.life_values.specs.Emptied.{emptied_each, CanEmpty}
use Rattle.life_values.specs.Replaced.{replaced_by, CanReplace}
use Rattle.life_values.specs.declared.layout.Holds.{Holds}
use Rattle.life_values.specs.declared.layout.Holds.TheVariants as holds
use Rattle.life_values.specs.declared.layout.Leaf.{Leaf}
use Rattle.life_values.specs.declared.spot.Spot.{Spot}

-- an object gives what its first word owns to a place of its type: there may be nothing to give
abbrev pub given_to : Parts → Place → (from : ℕ) → Content → Attempt Content
given_to p place n c =
    then_get (giving p (owned_in (slice_index (slot_words c n 0) 0))) (λ owned. Got (moved_to p place n (taken p (owner_word owned ∷ []) c)))

-- the store shows what the meaning got, or there was nothing to give
abbrev pub Gives : Seen → Attempt Content → Bool → Content → Rows → Type 0
Gives kinds meant true c rows = (m : Content) × (meant ≡ Got m) × Shows kinds c rows m
Gives kinds meant false c rows = meant ≡ GotFault fault.Moved

abbrev pub IsOwning : Parts → Type 0
IsOwning (Text ty) = Unit {0}
IsOwning (Vector ty element) = Unit {0}
IsOwning (Unique ty target) = Unit {0}
IsOwning _ = ⊥

-- ---- in a store

-- a unique_ptr may own nothing
abbrev pub is_target : Holds → Bool
is_target (holds.Target ty) = true
is_target _ = false

abbrev pub may_be_null : Option Leaf → Bool
may_be_null None = false
may_be_null (Some l) = is_target l.holds

abbrev pub may_give : List Leaf → Option ℕ → Bool
may_give ls None = may_be_null (slice_get ls 0)
may_give ls (Some n) = true

-- what these words own ends, and the first owns what is at hand, if something is
abbrev pub taken_over : (ℕ → Content → Content) → (n slot word : ℕ) → List ℕ → Option ℕ → Content → Content
taken_over end n i w us None c = emptied_each end n i w us c
taken_over end n i w us (Some m) c = replaced_by end n i w us m c

abbrev pub CanTakeOver : Seen → Kinds → (depth : ℕ) → Spot → List ℕ → Option ObjRef → Content → Rows → Type 0
CanTakeOver kinds kind depth spot owners other c rows = MatchOption other (CanEmpty kinds kind depth spot owners c rows) (λ r. CanReplace kinds kind depth spot owners r c rows)

-- in the store of a run an object owns by its first word, and so does the place of its type: so many steps of owning are enough there
pub record CanMoveTo (types : Types) (depth : ℕ) (from : ObjRef) (to : Spot) (c : Content) (rows : Rows) : Type 0 where
  pub housed : IsHoused (kinds_of types) c rows
  pub placed : at rows from.birth ≡ Some from.row
  pub to_placed : at rows to.object.birth ≡ Some to.object.row
  pub hand : ℕ → ℕ
  pub store : IsStore types hand (seen (kinds_of types) c rows)
  pub source : Object
  pub there : at (seen (kinds_of types) c rows).objects from.birth ≡ Some source
  pub slot : 0 < length source.slots
  pub owns : IsOwning (parts_at types source.ty)
  pub target : Object
  pub target_there : at (seen (kinds_of types) c rows).objects to.object.birth ≡ Some target
  pub target_slot : to.slot < length target.slots
  pub within : LiesWithin types target.ty to.word source.ty
  pub small : to.word < 2 ^ 64
  pub deep : rank_of types target.ty ≤ depth
