-- Elements that are handed over to a fresh buffer, which is owned in place of the old one: this is what the meaning makes of them.
use Rattle.std.proofs.Common.{◌≡◌, ◌≢◌, ℕ, suc, ◌+◌, ◌<◌, ◌≤◌, List, [], ◌∷◌, length, Option, Some, None, refl, sym, ap, ◌∙◌, arith}
use Rattle.std.proofs.lemmas.Option.{same_Some}
use Rattle.life_types.specs.declared.ty.TyId.{TyId}
use Rattle.life_store.specs.Cells.{Cells, at, at-set_same, at-set_other, at-unset_same}
use Rattle.life_store.specs.Content.{Slot, Object, Content, newborn, resized, with_birth, with_object, with_resize, without}
use Rattle.life_store.specs.Edits.{owns as takes}
use Rattle.life_store.specs.Held.{filled, filled_slots, owner_word, resized_at, resized_if}
use Rattle.life_store.specs.Owners.{taken, taken_slots}
use Rattle.life_store.specs.Parts.{Parts, Vector, width}
use Rattle.life_store.specs.Places.{Spot as Place, spot_words}
use Rattle.life_store.proofs.MapLemmas.{set-unset, set_back, unset-set}
use Rattle.life_forest.specs.Forest.{IsForest}
use Rattle.life_forest.specs.Kinds.{Kinds}
use Rattle.life_forest.specs.Owned.{times}
use Rattle.life_forest.specs.Values.{listed, owned_of, owned_slots, AllWide}
use Rattle.life_forest.proofs.Beside.{length-taken_slots, taken_slots_stay}
use Rattle.life_forest.proofs.Copying.{Sized}
use Rattle.life_forest.proofs.Counting.{one_same}
use Rattle.life_forest.proofs.Filling.{filled_is, filled_there, full}
use Rattle.life_forest.proofs.Growing.{apart, fresh_moved, OwnsBuffer}
use Rattle.life_forest.proofs.Lying.{forest_value, lies_in, spot_words_in, LiesAt}
use Rattle.life_forest.proofs.Puts.{puts_in, wrote_is}
use Rattle.life_forest.proofs.Regrowing.{fresh_sized, left, taken_over}
use Rattle.life_values.specs.Layouts.{flat}
use Rattle.life_values.specs.Moved.{slots_moved}
use Rattle.life_values.specs.Regrown.{handed_over, slot_at}
use Rattle.life_values.proofs.Elements.{not_itself, not_unborn}
use Rattle.life_values.proofs.InRows.{with_slots}
use Rattle.life_values.proofs.SlotsMoved.{both, left_of, moved_behind}
use Rattle.life_values.proofs.SlotsTaken.{others, taken_is, words_filled}
use Rattle.life_values.proofs.TakenMeant.{taken_wide}

pub filled_count : (ss : List Slot) (vs : List (List ℕ)) → length (filled_slots ss vs) ≡ length ss
filled_count [] vs = refl
filled_count (s ∷ ss) [] = refl
filled_count (s ∷ ss) (v ∷ vs) = ap suc (filled_count ss vs)

pub filled_wide : (p : Parts) (ss : List Slot) (d : Content) → AllWide (width p) ss → AllWide (width p) (filled_slots ss (taken_slots p ss d).0)
filled_wide p [] d wide = tt
filled_wide p (s ∷ ss) d wide = (taken_wide p s.words d wide.0, filled_wide p ss (taken p s.words d).1 wide.1)

pub same_back : (m : Content) (n : ℕ) (o : Object) → at m.objects n ≡ Some o → with_object n o m ≡ m
same_back m n o there = ap (λ (x : Cells Object). record { objects = x; births = m.births; clock = m.clock }) (sym (set-unset m.objects n o) ∙ set_back m.objects n o there)

-- ---- from one object into another

module _ (element : Parts) (us : List ℕ) (b f : ℕ) (ne : b ≢ f) (ob of : Object) (m : Content) (there : at m.objects b ≡ Some ob) (born : b < m.births) (wide : AllWide (width element) ob.slots) (target_wide : AllWide (width element) of.slots)
    (room : length ob.slots ≤ length of.slots) (free : times (owned_slots element ob.slots) b ≡ 0) (target : at (others element b ob m there wide free born).objects f ≡ Some of) where
  abbrev vs : List (List ℕ)
  vs = (taken_slots element ob.slots (without b m)).0

  abbrev d : Content
  d = (taken_slots element ob.slots (without b m)).1

  gone : at d.objects b ≡ None
  gone = taken_slots_stay element ob.slots (without b m) b born free ∙ at-unset_same m.objects b b refl

  abbrev xs : List Slot
  xs = filled_slots ob.slots vs

  pub over_is : handed_over (flat 0 element) (width element) us b f 0 (length ob.slots) m ≡ filled f vs d
  over_is =
      ap (λ (x : Content). without b (slots_moved (slot_at b 0) (slot_at f 0) (width element) us (length ob.slots) x))
      (taken_is element b ob m there wide free born ∙ ap (with_object b (with_slots ob xs)) (sym (same_back d f of target)))
      ∙ ap (λ n. without b (slots_moved (slot_at b 0) (slot_at f 0) (width element) us n (both b f ne ob of (width element) us xs of.slots d))) (sym (filled_count ob.slots vs))
      ∙ ap (without b)
      (moved_behind b f ne ob of (width element) us [] [] xs of.slots d (filled_wide element ob.slots (without b m) wide) target_wide (let n = filled_count ob.slots vs in omega (arith, n, room)))
      ∙ ap (λ ws. without b (both b f ne ob of (width element) us (left_of b f ne ob of (width element) us xs) (filled_slots of.slots ws) d))
      (words_filled ob.slots vs (length-taken_slots element ob.slots (without b m)))
      ∙ ap (λ (x : Cells Object). record { objects = x; births = d.births; clock = d.clock })
      (unset-set (with_object f (with_slots of (filled_slots of.slots vs)) d).objects b (with_slots ob (left_of b f ne ob of (width element) us xs)) (at-set_other d.objects f b (with_slots of (filled_slots of.slots vs)) (λ e. ne (sym e)) ∙ gone))
      ∙ sym (filled_is d f of vs target)

-- ---- a fresh buffer of a vector

module _ (kind : Kinds) (ty : TyId) (element : Parts) (spot : Place) (b : ℕ) (hand : ℕ → ℕ) (c : Content) (o ob : Object) (forest : IsForest kind hand c) (own : OwnsBuffer kind ty element spot b c o ob)
    (capacity size : ℕ) (room : length ob.slots ≤ size) (us : List ℕ) where
  -- the owner has it, and the elements are still in the old one
  abbrev pub sized : Content
  sized = resized_at c.births size 0 (with_birth ty (width element) capacity c)

  abbrev pub over : Content
  over = takes spot c.births sized

  pub fresh : Sized kind (kind.rank o.ty) hand ty (width element) size c (c.births, sized)
  fresh = fresh_sized kind ty element spot b hand c o ob forest own capacity size

  -- as it is born
  abbrev blanks : Object
  blanks = resized (c.clock + 1) size 0 (newborn ty (width element) capacity c.clock)

  is_born : sized ≡ with_resize c.births size 0 (newborn ty (width element) capacity c.clock) (with_birth ty (width element) capacity c)
  is_born =
      ap (λ (x : Option Object). resized_if x c.births size 0 (with_birth ty (width element) capacity c)) (at-set_same c.objects c.births c.births (newborn ty (width element) capacity c.clock) refl)

  pub sized_births : sized.births ≡ c.births + 1
  sized_births = ap (λ (x : Content). x.births) is_born

  pub sized_clock : sized.clock ≡ c.clock + 1
  sized_clock = ap (λ (x : Content). x.clock) is_born

  pub fresh_width : fresh.object.width ≡ width element
  fresh_width =
      ap (λ (x : Object). x.width)
      (same_Some fresh.object blanks
      (sym fresh.there ∙ ap (λ (x : Content). at x.objects c.births) is_born ∙ at-set_same (with_birth ty (width element) capacity c).objects c.births c.births blanks refl))

  pub holder_there : at sized.objects spot.object ≡ Some o
  holder_there = fresh.came.same spot.object (forest.births spot.object o own.lies.there) ∙ own.lies.there

  lies_now : LiesAt kind sized spot (Vector ty element) o
  lies_now = lies_in kind c spot (Vector ty element) o own.lies sized holder_there

  abbrev q : Object
  q = record o { slots = puts_in spot.index spot.word (owner_word (Some c.births) ∷ []) o.slots }

  over_with : over ≡ with_object spot.object q sized
  over_with = wrote_is sized spot.object spot.index spot.word (owner_word (Some c.births) ∷ []) o holder_there

  pub over_births : over.births ≡ sized.births
  over_births = ap (λ (x : Content). x.births) over_with

  pub over_clock : over.clock ≡ sized.clock
  over_clock = ap (λ (x : Content). x.clock) over_with

  old_there : (k : ℕ) → times (owned_of (Vector ty element) (spot_words sized spot 1)) k ≡ times (b ∷ []) k
  old_there k = ap (λ (xs : List ℕ). times (owned_of (Vector ty element) xs) k) (spot_words_in kind c spot (Vector ty element) o own.lies sized holder_there) ∙ ap (λ x. times (listed x) k) own.owned

  -- the old one is in the hand
  pub over_forest : IsForest kind (λ k. times (b ∷ []) k + hand k) over
  over_forest =
      forest_value kind sized spot (Vector ty element) o lies_now (owner_word (Some c.births) ∷ []) refl (λ k. times (c.births ∷ []) k + hand k) (λ k. times (b ∷ []) k + hand k) fresh.came.forest
      (λ m x lt below. fresh.came.low m x lt below)
      (λ k. let e = old_there k in omega (arith, e))

  pub over_held : 0 < times (b ∷ []) b + hand b
  over_held = let s = one_same b b refl in omega (arith, s)

  pub buffer_apart : b ≢ c.births
  buffer_apart e = let l = forest.births b ob own.there in omega (arith, e, l)

  pub buffer_there : at over.objects b ≡ Some ob
  buffer_there =
      ap (λ (x : Content). at x.objects b) over_with ∙ at-set_other sized.objects spot.object b q (apart kind ty element spot b hand c o ob forest own) ∙ fresh.came.same b (forest.births b ob own.there) ∙ own.there

  holder_apart : spot.object ≢ c.births
  holder_apart e = let l = forest.births spot.object o own.lies.there in omega (arith, e, l)

  pub fresh_there : at over.objects c.births ≡ Some fresh.object
  fresh_there = ap (λ (x : Content). at x.objects c.births) over_with ∙ at-set_other sized.objects spot.object c.births q holder_apart ∙ fresh.there

  buffer_born : b < over.births
  buffer_born = let l = forest.births b ob own.there in let g = fresh.came.births in let e = over_births in omega (arith, l, g, e)

  pub from_free : times (owned_slots element ob.slots) b ≡ 0
  from_free = not_itself kind element hand c forest b ob own.there own.is.kinds

  pub to_free : times (owned_slots element ob.slots) c.births ≡ 0
  to_free = not_unborn kind element hand c forest b ob own.there own.is.kinds c.births (omega arith)

  pub regrown_meant : handed_over (flat 0 element) (width element) us b c.births 0 (length ob.slots) over ≡ takes spot c.births (left kind ty element spot b hand c o ob forest own capacity size).1
  regrown_meant =
      over_is element us b c.births buffer_apart ob fresh.object over buffer_there buffer_born own.is.wide fresh.wide (let n = fresh.count in omega (arith, n, room)) from_free
      (fresh_moved kind ty element spot b hand c o ob forest own size (c.births, sized) fresh)
      ∙ sym (taken_over kind ty element spot b hand c o ob forest own capacity size)

  -- the fresh one is there then
  pub fresh_then : (x : Object) × (at (takes spot c.births (left kind ty element spot b hand c o ob forest own capacity size).1).objects c.births ≡ Some x)
  fresh_then =
      let moved = fresh_moved kind ty element spot b hand c o ob forest own size (c.births, sized) fresh in
      let vs = (taken_slots element ob.slots (without b over)).0 in (
        full (taken_slots element ob.slots (without b over)).1 c.births fresh.object vs moved,
        ap (λ (x : Content). at x.objects c.births) (taken_over kind ty element spot b hand c o ob forest own capacity size) ∙ filled_there (taken_slots element ob.slots (without b over)).1 c.births fresh.object vs moved,
      )
