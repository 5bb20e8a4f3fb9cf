-- What a vector in a store may do, and that the store then shows what the meaning gets.
use Rattle.std.proofs.Common.{◌≡◌, ℕ, zero, suc, ◌<◌, ◌≤◌, length, Option, Some, refl, sym, ap, ◌∙◌, arith}
use Rattle.life_types.specs.Trees.{IsOrdered}
use Rattle.life_types.specs.Types.{Types}
use Rattle.life_types.specs.declared.ty.TyId.{TyId}
use Rattle.life_store.specs.Cells.{at}
use Rattle.life_store.specs.Content.{CanCount, Object, Content}
use Rattle.life_store.specs.Edits.{cleared, popped, size_of}
use Rattle.life_store.specs.Held.{slots_if}
use Rattle.life_store.specs.Kinds.{kind_in}
use Rattle.life_store.specs.Parts.{Parts, Single, parts_at}
use Rattle.life_store.specs.References.{Rows}
use Rattle.life_store.specs.declared.object.ObjRef.{ObjRef}
use Rattle.life_forest.specs.Kinds.{kinds_of as forest_kinds}
use Rattle.life_seen.specs.Kinds.{kinds_of}
use Rattle.life_values.specs.Cleared.{cleared_words, CanClear}
use Rattle.life_values.specs.Ended.{ended_number}
use Rattle.life_values.specs.Erased.{CanErase}
use Rattle.life_values.specs.Layouts.{flat, owner_words}
use Rattle.life_values.specs.Popped.{popped_words, CanPop, IsGiving}
use Rattle.life_values.specs.Pushed.{CanPush, CanPushNumber}
use Rattle.life_values.specs.Regrown.{CanGrow, OwnsElements}
use Rattle.life_values.proofs.ClearedMeant.{cleared_meant}
use Rattle.life_values.proofs.PoppedMeant.{popped_meant}
use Rattle.life_pointers.specs.declared.owned.Spot.{Spot}
use Rattle.life_cells.specs.Fits.{meant}
use Rattle.life_changes.specs.Owners.{widened, HasBuffer}
use Rattle.life_changes.proofs.Inside.{deep_enough}
use Rattle.life_changes.proofs.Owned as owned
use Rattle.life_changes.proofs.Owned.{OwnsParts}
use Rattle.life_changes.proofs.Places.{ends_there, known_there, slot_place, slots_known}

module _ (types : Types) (limit depth : ℕ) (hand : ℕ → ℕ) (ty : TyId) (spot : Spot) (b : ObjRef) (c : Content) (rows : Rows) (own : HasBuffer types limit depth hand ty spot b c rows) (id : TyId) (element : Parts) (owns : OwnsParts types ty id element) where
  abbrev pub m : Content
  m = meant types c rows

  abbrev pub ob : Object
  ob = owned.buffer types limit depth hand ty spot c rows own.stands id element owns b.birth own.owned

  pub there : at (meant types c rows).objects b.birth ≡ Some ob
  there = (owned.lives types limit depth hand ty spot c rows own.stands id element owns b.birth own.owned).1

  pub placed : at rows b.birth ≡ Some b.row
  placed = owned.placed types limit depth hand ty spot c rows own.stands id element owns b.birth own.owned b refl own.referred

  pub roomy : length ob.slots ≤ ob.capacity
  roomy = owned.roomy types limit depth hand ty spot c rows own.stands id element owns b.birth own.owned

  pub parts_are : parts_at types ob.ty ≡ element
  parts_are = owned.parts_are types limit depth hand ty spot c rows own.stands id element owns b.birth own.owned

  pub size_is : size_of (meant types c rows) b.birth ≡ length ob.slots
  size_is = ap (λ (x : Option Object). length (slots_if x)) there

  -- ---- what is asked of the store

  pub countable : CanCount c
  countable = record { births = let e = own.stands.early.births in omega (arith, e); clock = let e = own.stands.early.clock in omega (arith, e) }

  abbrev pub giving : IsGiving (kinds_of types) (forest_kinds types) depth b c rows
  giving = record {
    housed = own.stands.housed;
    placed = placed;
    sized = owned.are_sized types limit depth hand ty spot c rows own.stands;
    hand = hand;
    forest = own.stands.store.forest;
    object = ob;
    there = there;
    deep = let d = deep_enough types depth ob.ty own.stands.served.deep in omega (arith, d);
  }

  pub fit_width : ob.width ≡ (forest_kinds types).width ob.ty
  fit_width = (own.stands.store.fit b.birth ob there).width

  pub can_pop : CanPop (kinds_of types) (forest_kinds types) depth b c rows
  can_pop = record { giving = giving; width = fit_width; roomy = roomy }

  pub can_clear : CanClear (kinds_of types) (forest_kinds types) depth b c rows
  can_clear = record { giving = giving; width = fit_width }

  pub can_erase : (i : ℕ) → i < length ob.slots → CanErase (kinds_of types) (forest_kinds types) depth b i c rows
  can_erase i inside = record { giving = giving; width = fit_width; roomy = roomy; inside = inside }

  abbrev pub elements : OwnsElements types (widened spot) b c rows
  elements = record {
    housed = own.stands.housed;
    spot_placed = own.stands.placed;
    placed = placed;
    hand = hand;
    forest = own.stands.store.forest;
    owner = own.stands.object;
    owner_there = own.stands.place.there;
    owner_long = owned.is_long types limit depth hand ty spot c rows own.stands;
    slot = own.stands.place.slot;
    word = owned.word_inside types limit depth hand ty spot c rows own.stands id element owns;
    owns = owned.owns_there types limit depth hand ty spot c rows own.stands id element owns;
    owned = owned.word_is types limit depth hand ty spot c rows own.stands id element owns b.birth own.owned;
    buffer = ob;
    there = there;
    known = owned.known types limit depth hand ty spot c rows own.stands id element owns b.birth own.owned;
  }

  abbrev pub can_grow : CanGrow types (widened spot) b c rows
  can_grow = record { own = elements; roomy = roomy }

  abbrev pub can_push : CanPush types (widened spot) b c rows
  can_push = record { grow = can_grow; fit = own.stands.store.fit }

  pub can_push_number : element ≡ Single → CanPushNumber types (widened spot) b c rows
  can_push_number single = record { push = can_push; plain = ap (λ (p : Parts). kind_in p 0) (parts_are ∙ single) }

  -- ---- what the store shows is what the meaning gets

  abbrev end : ℕ → Content → Content
  end = ended_number (forest_kinds types) depth

  abbrev ordered : IsOrdered types
  ordered = own.stands.served.ordered

  pop_word : (n : ℕ) → length ob.slots ≡ n → popped_words (ended_number (forest_kinds types) depth) (owner_words (flat 0 (parts_at types ob.ty))) b.birth n (meant types c rows) ≡ popped (parts_at types ob.ty) b.birth n (meant types c rows)
  pop_word zero e = refl
  pop_word (suc i) e =
      let place = slot_place types ordered hand (meant types c rows) own.stands.store b.birth ob there i (omega (arith, e)) in
      popped_meant (forest_kinds types) depth b.birth i hand (parts_at types ob.ty) (meant types c rows) ob there own.stands.store.forest giving.deep
      (ends_there types ordered hand (meant types c rows) own.stands.store ob.ty b.birth i 0 ob place depth) fit_width
      (known_there types ordered hand (meant types c rows) own.stands.store ob.ty b.birth i 0 ob place _)

  pub pop_meant : popped_words (ended_number (forest_kinds types) depth) (owner_words (flat 0 (parts_at types ob.ty))) b.birth (length ob.slots) (meant types c rows) ≡ popped element b.birth (size_of (meant types c rows) b.birth) (meant types c rows)
  pop_meant =
      pop_word (length ob.slots) refl
      ∙ ap (λ (p : Parts). popped p b.birth (length ob.slots) (meant types c rows)) parts_are
      ∙ ap (λ n. popped element b.birth n (meant types c rows)) (sym size_is)

  pub clear_meant : cleared_words (ended_number (forest_kinds types) depth) (owner_words (flat 0 (parts_at types ob.ty))) b.birth (length ob.slots) (meant types c rows) ≡ cleared element b.birth (meant types c rows)
  clear_meant =
      cleared_meant (forest_kinds types) depth b.birth hand (parts_at types ob.ty) (meant types c rows) ob there own.stands.store.forest giving.deep (own.stands.store.fit b.birth ob there).slots fit_width (λ u lt. refl)
      (slots_known types ordered hand (meant types c rows) own.stands.store b.birth ob there _)
      ∙ ap (λ (p : Parts). cleared p b.birth (meant types c rows)) parts_are
