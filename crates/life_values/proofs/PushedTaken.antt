-- A store goes the way of the meaning where a vector gets the value of a temporary.
use Rattle.std.proofs.Common.{◌≡◌, ◌≢◌, ℕ, ◌+◌, ◌*◌, ◌<◌, ◌^◌, List, [], ◌∷◌, length, Option, Some, Ok, refl, sym, ap, subst, ◌∙◌, arith}
use Rattle.std.proofs.lemmas.Option.{same_Some}
use Rattle.std.specs.Prelude.{slice_get}
use Rattle.life_types.specs.Types.{Types}
use Rattle.life_store.specs.Cells.{at, at-set_other}
use Rattle.life_store.specs.Content.{Slot, Object, Content, with_object, with_word}
use Rattle.life_store.specs.Edits.{owns as takes, pushed, put_last, with_room}
use Rattle.life_store.specs.Effects.{Setting}
use Rattle.life_store.specs.Held.{owned_in, owner_word, slots_if, slot_words, words_if}
use Rattle.life_store.specs.Kinds.{is_owner, kind_in}
use Rattle.life_store.specs.Owners.{consumed}
use Rattle.life_store.specs.Parts.{parts_at, Parts}
use Rattle.life_store.specs.References.{Rows}
use Rattle.life_store.specs.declared.object.ObjRef.{ObjRef}
use Rattle.life_forest.specs.Forest.{IsForest}
use Rattle.life_forest.specs.Kinds.{kinds_of as forest_kinds, Kinds as Forest}
use Rattle.life_forest.specs.Owned.{every, owns, times}
use Rattle.life_forest.specs.Values.{owned_of, owned_slots}
use Rattle.life_forest.proofs.Counting.{one_same, times-append}
use Rattle.life_forest.proofs.Puts.{wrote_is}
use Rattle.life_forest.proofs.Steps.{alive_le}
use Rattle.life_seen.specs.Housed.{Later, Shows}
use Rattle.life_seen.specs.Kinds.{kinds_of}
use Rattle.life_seen.specs.Seen.{seen}
use Rattle.life_values.specs.Consumed.{stored, CanConsume}
use Rattle.life_values.specs.Fresh.{AreWide, Comes}
use Rattle.life_values.specs.Layouts.{leaves_at, AreLaid}
use Rattle.life_values.specs.Moved.{place}
use Rattle.life_values.specs.Pushed.{CanPushTaken}
use Rattle.life_values.specs.Regrown.{then_owned}
use Rattle.life_values.specs.Texts.{IsBuffer}
use Rattle.life_values.specs.declared.layout.Layout.{Layout}
use Rattle.life_values.specs.declared.spot.Spot.{Spot}
use Rattle.life_values.proofs.Elements.{elements_own, not_above, not_in_hand}
use Rattle.life_values.proofs.Filling.{still_placed}
use Rattle.life_values.proofs.GivenAway.{only_one}
use Rattle.life_values.proofs.MakingRoom.{owns as owns_buffer}
use Rattle.life_values.proofs.OneOwner.{leaves_by_parts}
use Rattle.life_values.proofs.PushedMeant.{pushed_meant}
use Rattle.life_values.proofs.Renewed.{one_held}
use Rattle.life_values.proofs.RoomThen.{births_are, births_up, clock_up, fit_then, has, pushed_is, seen_is, target, target_fit, target_slot, target_there, target_type, was}

module _ (types : Types) (layouts : List Layout) (laid : AreLaid types layouts) (wide : AreWide types) (spot : Spot) (b r : ObjRef) (c : Content) (rows : Rows) (can : CanPushTaken types spot b r c rows) (s : Setting) (f : ObjRef) (d : Content) (new : Rows)
    (came : IsBuffer (kinds_of types) (then_owned (place spot) (with_room s can.push.grow.own.buffer.ty (parts_at types can.push.grow.own.buffer.ty) b.birth (seen (kinds_of types) c rows))) (Ok f) d new) (later : Later c d rows new)
    (size : ℕ) (count : length can.push.grow.own.buffer.slots ≡ size) where
  abbrev m : Content
  m = seen (kinds_of types) c rows

  abbrev kind : Forest
  kind = forest_kinds types

  abbrev hand : ℕ → ℕ
  hand = can.push.grow.own.hand

  abbrev forest : IsForest kind hand m
  forest = can.push.grow.own.forest

  abbrev o : Object
  o = can.push.grow.own.owner

  abbrev ob : Object
  ob = can.push.grow.own.buffer

  abbrev element : Parts
  element = parts_at types can.push.grow.own.buffer.ty

  abbrev t : Object
  t = can.temporary

  abbrev n : ℕ
  n = r.birth

  abbrev room : ℕ × Content
  room = (was types layouts laid wide spot b c rows can.push s f d new came later).room

  abbrev number : room.0 ≡ f.birth
  number = (was types layouts laid wide spot b c rows can.push s f d new came later).number

  abbrev x : Object
  x = target types layouts laid wide spot b c rows can.push s f d new came later

  -- ---- the temporary is neither the vector nor its buffer, and the buffer doesn't own it

  lower : kind.rank ob.ty < kind.rank o.ty
  lower = (owns_buffer types layouts laid spot b c rows can.push.grow).lower

  not_holder : spot.object.birth ≢ n
  not_holder e =
      let same = same_Some o t (sym can.push.grow.own.owner_there ∙ ap (at m.objects) e ∙ can.there) in
      let rank = ap (λ (y : Object). kind.rank y.ty) same in
      let ty = ap kind.rank can.alike in
      let l = lower in
      absurd (omega (arith, rank, ty, l))

  not_buffer : b.birth ≢ n
  not_buffer e =
      let w = can.push.grow.own in
      let one = one_held kind spot.object.birth spot.slot spot.word hand m o w.owner_there forest w.owner_long w.slot w.word (ap is_owner w.owns) b.birth (ap owned_in w.owned) in
      let h = one.held n in
      let k = one_same b.birth n e in
      let a = alive_le kind (with_object spot.object.birth (with_word spot.slot spot.word 0 o) m) n in
      let y = can.held in
      absurd (omega (arith, h, k, a, y))

  not_owned : owns kind every ob n ≡ 0
  not_owned =
      elements_own kind element hand m forest b.birth ob can.push.grow.own.there (λ u. refl) n
      ∙ not_in_hand kind element hand m forest b.birth ob can.push.grow.own.there (λ u. refl) n can.held

  born : n < c.births
  born = forest.births n t can.there

  then_there : at (takes (place spot) room.0 room.1).objects n ≡ Some t
  then_there = (has types layouts laid wide spot b c rows can.push s f d new came later).others n born not_holder not_buffer not_owned ∙ can.there

  still_there : at (seen (kinds_of types) d new).objects n ≡ Some t
  still_there = ap (λ (y : Content). at y.objects n) (seen_is types layouts laid wide spot b c rows can.push s f d new came later) ∙ then_there

  -- ---- it gives its value over

  forest_then : IsForest kind hand (seen (kinds_of types) d new)
  forest_then =
      subst (IsForest kind hand) (sym (seen_is types layouts laid wide spot b c rows can.push s f d new came later)) (has types layouts laid wide spot b c rows can.push s f d new came later).is_forest

  room_apart : n ≢ f.birth
  room_apart e =
      not_buffer (sym ((has types layouts laid wide spot b c rows can.push s f d new came later).older (let z = number in let l = born in omega (arith, z, e, l))) ∙ number ∙ sym e)

  type_is : t.ty ≡ x.ty
  type_is = can.alike ∙ sym (target_type types layouts laid wide spot b c rows can.push s f d new came later)

  pub consume_can : CanConsume types r f size d new
  consume_can =
      let fits = fit_then types layouts laid wide spot b c rows can.push s f d new came later n t then_there in
      let other = target_fit types layouts laid wide spot b c rows can.push s f d new came later in
      record {
        housed = came.2.housed;
        placed = still_placed (kinds_of types) c d rows new came.2.housed later r.birth r.row t born can.placed still_there;
        to_placed = came.3;
        hand = hand;
        forest = forest_then;
        held = can.held;
        temporary = t;
        there = still_there;
        alone = can.alone;
        target = x;
        target_there = target_there types layouts laid wide spot b c rows can.push s f d new came later;
        target_slot = let l = target_slot types layouts laid wide spot b c rows can.push s f d new came later in omega (arith, l, count);
        alike = type_is;
        long = fits.slots;
        target_long = other.slots;
        width = fits.width;
        target_width = other.width ∙ ap kind.width (sym type_is) ∙ sym fits.width;
        apart = room_apart;
        free = not_above kind (parts_at types t.ty) hand (seen (kinds_of types) d new) forest_then n t still_there (λ u. refl) f.birth x (target_there types layouts laid wide spot b c rows can.push s f d new came later)
            (let z = ap kind.rank type_is in omega (arith, z));
      }

  pub consume_births : c.births + 1 + length ob.slots * length (leaves_at layouts ob.ty) + length (leaves_at layouts ob.ty) < 2 ^ 63
      → (y : Object) → at (seen (kinds_of types) d new).objects r.birth ≡ Some y → d.births + length (leaves_at layouts y.ty) < 2 ^ 63
  consume_births few y at_n =
      let up = births_up types layouts laid wide spot b c rows can.push s f d new came later in
      let same = same_Some t y (sym still_there ∙ at_n) in
      let k : length (leaves_at layouts y.ty) ≡ length (leaves_at layouts ob.ty) = ap (λ (z : Object). length (leaves_at layouts z.ty)) (sym same) ∙ ap (λ ty. length (leaves_at layouts ty)) can.alike in
      let z = ap (λ ls. length ob.slots * length ls) (leaves_by_parts types layouts laid ob.ty) in
      omega (arith, up, k, z, few)

  pub consume_clock : c.clock + 1 < 2 ^ 63 → d.clock < 2 ^ 63
  consume_clock few = let up = clock_up types layouts laid wide spot b c rows can.push s f d new came later in omega (arith, up, few)

  -- ---- as the meaning has it

  abbrev over_there : at room.1.objects spot.object.birth ≡ Some o
  over_there = (has types layouts laid wide spot b c rows can.push s f d new came later).holder

  room_there : at room.1.objects n ≡ Some t
  room_there =
      sym (at-set_other room.1.objects spot.object.birth n _ not_holder)
      ∙ ap (λ (y : Content). at y.objects n) (sym (wrote_is room.1 spot.object.birth spot.slot spot.word (owner_word (Some room.0) ∷ []) o over_there))
      ∙ then_there

  one : (z : Slot) × (t.slots ≡ z ∷ [])
  one = only_one t.slots can.alone

  words_are : slot_words room.1 n 0 ≡ one.0.words
  words_are = ap (λ (y : Option Object). words_if (slice_get (slots_if y) 0)) room_there ∙ ap (λ (ss : List Slot). words_if (slice_get ss 0)) one.1

  free_holder : times (owned_of element (slot_words room.1 n 0)) spot.object.birth ≡ 0
  free_holder =
      let l = lower in
      let ty = ap kind.rank can.alike in
      let none = not_above kind element hand m forest n t can.there (λ u. ap (λ k. kind_in (parts_at types k) u) can.alike) spot.object.birth o can.push.grow.own.owner_there (omega (arith, l, ty)) in
      let here = ap (λ (ss : List Slot). times (owned_slots element ss) spot.object.birth) one.1 in
      let cut = times-append (owned_of element one.0.words) [] spot.object.birth in
      let words = ap (λ ws. times (owned_of element ws) spot.object.birth) words_are in
      omega (arith, none, here, cut, words)

  holder_born : spot.object.birth < room.1.births
  holder_born =
      let l = forest.births spot.object.birth o can.push.grow.own.owner_there in
      let g = later.births in
      let e = births_are types layouts laid wide spot b c rows can.push s f d new came later in
      omega (arith, l, g, e)

  module _ (e : Content) (after : Rows) (shows : (y : Object) → at (seen (kinds_of types) d new).objects r.birth ≡ Some y → Shows (kinds_of types) e after (stored f.birth size (consumed (parts_at types y.ty) r.birth (seen (kinds_of types) d new)))) where
    shown : Shows (kinds_of types) e after (stored f.birth size (consumed (parts_at types t.ty) n (seen (kinds_of types) d new)))
    shown = shows t still_there

    written : seen (kinds_of types) e after ≡ put_last (place spot) room.0 (length ob.slots) (consumed element n room.1)
    written =
        shown.is
        ∙ (λ j. stored (sym number j) (sym count j) (consumed (parts_at types (can.alike j)) n (seen_is types layouts laid wide spot b c rows can.push s f d new came later j)))
        ∙ pushed_meant element (place spot) room.0 n room.1 o over_there holder_born not_holder free_holder (length ob.slots)

    pub taken_pushed : (y : Object) → at (seen (kinds_of types) c rows).objects b.birth ≡ Some y
        → Comes {A = Unit {0}} (kinds_of types) (pushed s y.ty (parts_at types y.ty) (place spot) b.birth (consumed (parts_at types y.ty) r.birth) (seen (kinds_of types) c rows)) (Ok tt) e after
    taken_pushed y there =
        subst (λ (z : Object). Comes {A = Unit {0}} (kinds_of types) (pushed s z.ty (parts_at types z.ty) (place spot) b.birth (consumed (parts_at types z.ty) n) (seen (kinds_of types) c rows)) (Ok tt) e after)
        (same_Some ob y (sym can.push.grow.own.there ∙ there)) (
          put_last (place spot) room.0 (length ob.slots) (consumed element n room.1),
          pushed_is types layouts laid wide spot b c rows can.push s f d new came later (consumed element n),
          record { housed = shown.housed; is = written },
        )
