-- How a value is copied to another place of its type, whose own value ends.
use Rattle.std.specs.Prelude.{◌≡◌, ◌<◌, ◌≤◌, ◌+◌, ◌^◌, ℕ, List, [], ◌∷◌, Option, Some, None, Result, Ok, Err, length, slice_get}
use Rattle.std.proofs.Common.{◌⊎◌}
use Rattle.life_types.specs.Types.{Types}
use Rattle.life_types.specs.declared.ty.TyId.{TyId}
use Rattle.life_store.specs.Cells.{at}
use Rattle.life_store.specs.Content.{Object, Content}
use Rattle.life_store.specs.Doing.{replaced}
use Rattle.life_store.specs.Effects.{Setting, Attempt, Got, GotFault, GotTrap, then_get}
use Rattle.life_store.specs.Held.{owner_word, wrote}
use Rattle.life_store.specs.Owners.{copied}
use Rattle.life_store.specs.Parts.{Parts, parts_at, width}
use Rattle.life_store.specs.Places.{Spot as Place, spot_words, wrote_spot}
use Rattle.life_store.specs.References.{Rows}
use Rattle.life_store.specs.declared.object.ObjRef.{ObjRef}
use Rattle.life_store.specs.declared.run.FaultKind.TheVariants as fault
use Rattle.life_store.specs.declared.run.TrapKind.TheVariants as trap
use Rattle.life_forest.specs.Kinds.{rank_of}
use Rattle.life_forest.specs.Typed.{IsStore}
use Rattle.life_forest.specs.Within.{LiesWithin}
use Rattle.life_seen.specs.Housed.{IsHoused}
use Rattle.life_seen.specs.Kinds.{kinds_of, Kinds}
use Rattle.life_seen.specs.Seen.{seen}
use Rattle.std.specs.declared.alloc.Global.{Global}
use Rattle.std.specs.declared.vec.Vec.{Vec}
use Rattle.life_values.specs.Copied.{copied_number}
use Rattle.life_values.specs.Copyable.{HasCopy}
use Rattle.life_values.specs.Emptied.{emptied_each}
use Rattle.life_values.specs.Good.{HasRoom}
use Rattle.life_values.specs.Layouts.{owners_at}
use Rattle.life_values.specs.Moved.{CanDisown}
use Rattle.life_values.specs.Taken.{owned_if}
use Rattle.life_values.specs.declared.copying.CopyFault.{CopyFault}
use Rattle.life_values.specs.declared.copying.CopyFault.TheVariants as copy_fault
use Rattle.life_values.specs.declared.layout.Layout.{Layout}
use Rattle.life_values.specs.declared.spot.Spot.{Spot}

-- a copy of the value that stands at one place comes to another
abbrev pub copied_over : Setting → Parts → (from to : Place) → Content → Attempt Content
copied_over s p from to c = then_get (copied s p (spot_words c from (width p)) c) (λ v. Got (replaced p to v))

-- ---- word by word: all copies are made before the first word is written

-- a word gets a copy of what it owns when the others have theirs
abbrev pub copied_one : (copy : ℕ → Content → Attempt (ℕ × Content)) → (others : Content → Attempt Content) → (to : Place) → (word : ℕ) → Option ℕ → Content → Attempt Content
copied_one copy others to u None c = GotFault fault.Moved
copied_one copy others to u (Some n) c = then_get (copy n c) (λ b. then_get (others b.1) (λ d. Got (wrote to.object to.index (to.word + u) (owner_word (Some b.0) ∷ []) d)))

abbrev pub copied_then : (copy : ℕ → Content → Attempt (ℕ × Content)) → (from to : Place) → (Content → Content) → List ℕ → Content → Attempt Content
copied_then copy from to go [] c = Got (go c)
copied_then copy from to go (u ∷ us) c = copied_one copy (copied_then copy from to go us) to u (owned_if (at c.objects from.object) from.index (from.word + u)) c

-- .. which then own what is at hand, the last one first
abbrev pub all_given : (to : Place) → List ℕ → List ObjRef → Content → Content
all_given to [] rs c = c
all_given to (u ∷ us) [] c = c
all_given to (u ∷ us) (r ∷ rs) c = wrote to.object to.index (to.word + u) (owner_word (Some r.birth) ∷ []) (all_given to us rs c)

-- what a place has ends, and the words of another come there as they are
abbrev pub overwritten : (ℕ → Content → Content) → (from to : Place) → (width : ℕ) → List ℕ → Content → Content
overwritten end from to w us c =
    wrote_spot to (spot_words (emptied_each end to.object to.index to.word us c) from w) (emptied_each end to.object to.index to.word us c)

-- ---- in a store

-- all copies that the owners of a value want are made, whatever is done before they are given away; or why they aren't
abbrev pub ComeCopied : List Layout → (limit depth : ℕ) → List ℕ → (from : Place) → Content → Result (Vec ObjRef Global) CopyFault → Content → Type 0
ComeCopied layouts limit depth us from m (Ok copies) n =
    (s : Setting) → s.given.cells ≡ limit → (to : Place) (go : Content → Content) → copied_then (copied_number s (owners_at layouts) depth) from to go us m ≡ Got (all_given to us copies.items (go n))
ComeCopied layouts limit depth us from m (Err copy_fault.Moved) n =
    (s : Setting) → s.given.cells ≡ limit → (to : Place) (go : Content → Content) → copied_then (copied_number s (owners_at layouts) depth) from to go us m ≡ GotFault fault.Moved
ComeCopied layouts limit depth us from m (Err copy_fault.Cells) n =
    (s : Setting) → s.given.cells ≡ limit → (to : Place) (go : Content → Content) → copied_then (copied_number s (owners_at layouts) depth) from to go us m ≡ GotTrap trap.Cells
ComeCopied layouts limit depth us from m (Err copy_fault.NoMemory) n = Unit {0}

-- what was there is there still, and beside it the copies, which nothing owns yet
pub record AreMade (types : Types) (limit : ℕ) (copies : List ObjRef) (m : Content) (c : Content) (rows : Rows) : Type 0 where
  pub housed : IsHoused (kinds_of types) c rows
  pub hand : ℕ → ℕ
  pub store : IsStore types hand (seen (kinds_of types) c rows)
  pub room : HasRoom limit (seen (kinds_of types) c rows)
  pub kept : (n : ℕ) (o : Object) → at m.objects n ≡ Some o → at (seen (kinds_of types) c rows).objects n ≡ Some o
  pub each : (j : ℕ) (r : ObjRef) → slice_get copies j ≡ Some r → (at rows r.birth ≡ Some r.row) × (0 < hand r.birth)

-- the place is there still, and so is all that is in the hand
pub record IsOver (types : Types) (n : ℕ) (c d : Content) : Type 0 where
  pub target : (o : Object) → at c.objects n ≡ Some o → (x : Object) × (at d.objects n ≡ Some x) × (x.ty ≡ o.ty) × (x.width ≡ o.width) × (length x.slots ≡ length o.slots)
  pub held : (hand : ℕ → ℕ) → IsStore types hand c → (k : ℕ) → 0 < hand k → (x : Object) × (at d.objects k ≡ Some x)

-- the words own, and for each there is an object that lives
pub record CanGive (kinds : Kinds) (to : Spot) (owners : List ℕ) (copies : List ObjRef) (c : Content) (rows : Rows) : Type 0 where
  pub words : CanDisown kinds to owners c rows
  pub count : length copies ≡ length owners
  pub live : (j : ℕ) (r : ObjRef) → slice_get copies j ≡ Some r → at rows r.birth ≡ Some r.row

-- in the store of a run, a value of a type that has copies
pub record CanCopyFrom (types : Types) (limit depth : ℕ) (ty : TyId) (from : Spot) (c : Content) (rows : Rows) : Type 0 where
  pub housed : IsHoused (kinds_of types) c rows
  pub placed : at rows from.object.birth ≡ Some from.object.row
  pub hand : ℕ → ℕ
  pub store : IsStore types hand (seen (kinds_of types) c rows)
  pub room : HasRoom limit (seen (kinds_of types) c rows)
  pub has_copy : HasCopy (parts_at types ty)
  pub source : Object
  pub there : at (seen (kinds_of types) c rows).objects from.object.birth ≡ Some source
  pub slot : from.slot < length source.slots
  pub within : LiesWithin types source.ty from.word ty
  pub deep : rank_of types source.ty ≤ depth
  pub small : from.word + width (parts_at types ty) < 2 ^ 64

-- .. and another place of the type: the same one, or beside it
pub record CanCopyTo (types : Types) (limit depth : ℕ) (ty : TyId) (from to : Spot) (c : Content) (rows : Rows) : Type 0 where
  pub value : CanCopyFrom types limit depth ty from c rows
  pub value_deep : rank_of types ty ≤ depth
  pub to_placed : at rows to.object.birth ≡ Some to.object.row
  pub target : Object
  pub target_there : at (seen (kinds_of types) c rows).objects to.object.birth ≡ Some target
  pub target_slot : to.slot < length target.slots
  pub target_within : LiesWithin types target.ty to.word ty
  pub target_deep : rank_of types target.ty ≤ depth
  pub to_small : to.word + width (parts_at types ty) < 2 ^ 64
  pub apart : from.object.birth ≡ to.object.birth → from.slot ≡ to.slot → (to.word ≤ from.word) ⊎ (from.word + width (parts_at types ty) ≤ to.word)
