-- A store goes the way of the meaning where the last element of a buffer goes.
use Rattle.std.proofs.Common.{◌≡◌, ℕ, suc, ◌+◌, ◌<◌, ◌^◌, true, false, List, length, Option, Some, None, Ok, Err, IfSome, sym, ap, subst, ◌∙◌, arith}
use Rattle.std.proofs.lemmas.Option.{none-some, same_Some}
use Rattle.life_types.specs.Types.{Types}
use Rattle.life_store.specs.Cells.{at}
use Rattle.life_store.specs.Content.{Object, Content, with_resize, CanCount}
use Rattle.life_store.specs.Held.{resized_if}
use Rattle.life_store.specs.References.{Rows, asked_of, object_of, shape_of, CanResize}
use Rattle.life_store.specs.declared.object.Dead.{Dead}
use Rattle.life_store.specs.declared.object.ObjRef.{ObjRef}
use Rattle.life_store.specs.declared.object.Shape.{Shape}
use Rattle.life_forest.specs.Kinds.{Kinds, kinds_of as forest_kinds}
use Rattle.life_seen.specs.Housed.{Shows, Later}
use Rattle.life_seen.specs.Kinds.{kinds_of, Kinds as Seen}
use Rattle.life_seen.specs.Named.{names_of}
use Rattle.life_seen.specs.Seen.{object_seen, seen}
use Rattle.life_seen.proofs.Calls.{shows_resize}
use Rattle.life_seen.proofs.References.{found_seen, later_then}
use Rattle.life_seen.proofs.Resizing.{count_seen, shape_seen}
use Rattle.life_values.specs.Emptied.{emptied_each, CanEmpty}
use Rattle.life_values.specs.Ended.{ended_number}
use Rattle.life_values.specs.Layouts.{owners_at, width_at, AreLaid, AreOwners}
use Rattle.life_values.specs.Popped.{popped_words, CanGive, CanPop, Pops}
use Rattle.life_values.specs.Zeroed.{zeroed}
use Rattle.life_values.specs.declared.layout.Layout.{Layout}
use Rattle.life_values.specs.declared.spot.Spot.{Spot}
use Rattle.life_values.proofs.AlikeKinds.{alike_kinds}
use Rattle.life_values.proofs.Beginning.{width_of_type}
use Rattle.life_values.proofs.EmptiedThen.{emptied_births, emptied_clock, then_seen}
use Rattle.life_values.proofs.Flat.{layouts_own}
use Rattle.life_values.proofs.Zeroing.{zeroed_like, IsLike}
use Rattle.life_values.proofs.SeenAs.{seen_as, IsSeenAs}

abbrev pub spot_of : ObjRef → ℕ → Spot
spot_of r slot = record { object = r; slot = slot; word = 0 }

-- ---- one slot

abbrev pub slot_can : (kinds : Seen) (kind : Kinds) (depth : ℕ) (r : ObjRef) (slot width : ℕ) (owners : List ℕ) (c : Content) (rows : Rows) → CanGive kinds kind depth r slot width owners c rows → width < 2 ^ 64
    → CanEmpty kinds kind depth (spot_of r slot) owners c rows
slot_can kinds kind depth r slot width owners c rows can small = record {
  housed = can.giving.housed;
  placed = can.giving.placed;
  sized = can.giving.sized;
  hand = can.giving.hand;
  forest = can.giving.forest;
  object = can.giving.object;
  there = can.giving.there;
  slot = can.slot;
  own = λ j u e. let z : 0 + u ≡ u = omega arith in ap (kinds can.giving.object.ty) z ∙ can.own j u e;
  small = λ j u e.
      let l = (can.giving.sized r.birth can.giving.object can.giving.there).owners u (can.own j u e) in
      let w = can.width in
      omega (arith, l, w, small);
  deep = can.giving.deep;
}

-- ---- the buffer

pub ok_shape : {o : Option Object} {s : Shape} (x : Object) → o ≡ Some x → asked_of o shape_of ≡ Ok s → shape_of x ≡ s
ok_shape {o = o} {s = s} x e asked = same (sym (ap (λ (y : Option Object). asked_of y shape_of) e) ∙ asked)
  where
    same : asked_of (Some x) shape_of ≡ Ok s → shape_of x ≡ s
    same h = cc

module _ (types : Types) (layouts : List Layout) (depth : ℕ) (r : ObjRef) (c : Content) (rows : Rows) (can : CanPop (kinds_of types) (forest_kinds types) depth r c rows) where
  now : IsSeenAs (kinds_of types) c rows r can.giving.object
  now = seen_as (kinds_of types) c rows r can.giving.object can.giving.housed can.giving.placed can.giving.there

  pub not_dead : (dead : Dead) → asked_of (object_of c rows r) shape_of ≡ Err dead → ⊥
  not_dead dead e = clash (sym (ap (λ (y : Option Object). asked_of y shape_of) now.found) ∙ e)
    where
      clash : asked_of (Some now.object) shape_of ≡ Err dead → ⊥
      clash h = cc

  module _ (shape : Shape) (asked : asked_of (object_of c rows r) shape_of ≡ Ok shape) where
    pub shape_is : shape_of can.giving.object ≡ shape
    shape_is =
        ap shape_of (sym now.same) ∙ shape_seen (kinds_of types) (names_of c rows) now.object ∙ ok_shape now.object now.found asked

    pub length_is : length can.giving.object.slots ≡ shape.length
    length_is = ap (λ (s : Shape). s.length) shape_is

    module _ (laid : AreLaid types layouts) (owners : List ℕ) (own : owners ≡ owners_at layouts shape.ty) (width : ℕ) (wide : width ≡ width_at layouts shape.ty) (last : ℕ) (is_last : last + 1 ≡ shape.length) where
      are : AreOwners (kinds_of types can.giving.object.ty) owners
      are = subst (λ ty. AreOwners (kinds_of types ty) owners) (sym (ap (λ (s : Shape). s.ty) shape_is)) (subst (AreOwners (kinds_of types shape.ty)) (sym own) (layouts_own types layouts laid shape.ty))

      pub last_can : CanGive (kinds_of types) (forest_kinds types) depth r last width owners c rows
      last_can = record {
        giving = can.giving;
        slot = let l = length_is in omega (arith, l, is_last);
        width = can.width ∙ ap (λ ty. (forest_kinds types).width ty) (ap (λ (s : Shape). s.ty) shape_is) ∙ sym (wide ∙ width_of_type types layouts laid shape.ty);
        own = are.sound;
      }

      module _ (small : width < 2 ^ 64) (d : Content) (new : Rows) (shows : Shows (kinds_of types) d new (emptied_each (ended_number (forest_kinds types) depth) r.birth last 0 owners (seen (kinds_of types) c rows))) (later : Later c d rows new) where
        abbrev empty_can : CanEmpty (kinds_of types) (forest_kinds types) depth (spot_of r last) owners c rows
        empty_can = slot_can (kinds_of types) (forest_kinds types) depth r last width owners c rows last_can small

        then_now : IsSeenAs (kinds_of types) d new r (zeroed last 0 owners can.giving.object)
        unfolding last_can
        then_now = then_seen (kinds_of types) (forest_kinds types) (alike_kinds types) depth (spot_of r last) owners c rows empty_can d new shows later

        like : IsLike (zeroed last 0 owners can.giving.object) can.giving.object
        like = zeroed_like last 0 owners can.giving.object

        pub can_cut : IfSome (object_of d new r) (CanResize last last)
        can_cut =
            let n = then_now in
            let a : length (object_seen (kinds_of types) (names_of d new) n.object).slots ≡ length (zeroed last 0 owners can.giving.object).slots = ap (λ (x : Object). length x.slots) n.same in
            let b = count_seen (kinds_of types) (names_of d new) n.object in
            let e : n.object.capacity ≡ (zeroed last 0 owners can.giving.object).capacity = ap (λ (x : Object). x.capacity) n.same in
            let f = like.count in
            let g = like.capacity in
            let l = length_is in
            let h = can.roomy in
            subst (λ x. IfSome x (CanResize last last)) (sym n.found)
            (record { fits = omega (arith, e, g, h, l, is_last); to = omega arith; from = omega (arith, a, b, f, l, is_last) })

        pub can_count : CanCount c → CanCount d
        can_count count = record {
          births = let e = ap (λ (x : Content). x.births) shows.is ∙ emptied_births (forest_kinds types) depth r.birth last 0 owners (seen (kinds_of types) c rows) in let b = count.births in omega (arith, e, b);
          clock = let e = ap (λ (x : Content). x.clock) shows.is ∙ emptied_clock (forest_kinds types) depth r.birth last 0 owners (seen (kinds_of types) c rows) in let b = count.clock in omega (arith, e, b);
        }

        pub still_there : object_of d new r ≡ None → ⊥
        still_there none = none-some then_now.object (sym none ∙ then_now.found)

        module _ (e : Content) (after : Rows) (cut : IfSome (object_of d new r) (λ o. e ≡ with_resize r.birth last last o d)) (same : after ≡ new) where
          cut_is : e ≡ with_resize r.birth last last then_now.object d
          cut_is = subst (λ x. IfSome x (λ o. e ≡ with_resize r.birth last last o d)) then_now.found cut

          shows_cut : Shows (kinds_of types) e after (with_resize r.birth last last (object_seen (kinds_of types) (names_of d new) then_now.object) (seen (kinds_of types) d new))
          shows_cut = shows_resize (kinds_of types) d new shows.housed e after r last last then_now.object then_now.found cut_is same

          cut_meant : with_resize r.birth last last (object_seen (kinds_of types) (names_of d new) then_now.object) (seen (kinds_of types) d new)
              ≡ resized_if (at (emptied_each (ended_number (forest_kinds types) depth) r.birth last 0 owners (seen (kinds_of types) c rows)).objects r.birth) r.birth last last
              (emptied_each (ended_number (forest_kinds types) depth) r.birth last 0 owners (seen (kinds_of types) c rows))
          cut_meant =
              ap (λ (x : Option Object). resized_if x r.birth last last (seen (kinds_of types) d new)) (sym (seen_there then_now))
              ∙ ap (λ (x : Content). resized_if (at x.objects r.birth) r.birth last last x) shows.is
            where
              seen_there : (n : IsSeenAs (kinds_of types) d new r (zeroed last 0 owners can.giving.object)) → at (seen (kinds_of types) d new).objects r.birth ≡ Some (object_seen (kinds_of types) (names_of d new) n.object)
              seen_there n = found_seen (kinds_of types) d new shows.housed r n.object n.found

          pub pop_shows : (o : Object) → at (seen (kinds_of types) c rows).objects r.birth ≡ Some o
              → Pops (kinds_of types) (popped_words (ended_number (forest_kinds types) depth) (owners_at layouts o.ty) r.birth (length o.slots) (seen (kinds_of types) c rows)) true e after
          pop_shows o at_r =
              let n = resized_if (at (emptied_each (ended_number (forest_kinds types) depth) r.birth last 0 owners (seen (kinds_of types) c rows)).objects r.birth) r.birth last last
              (emptied_each (ended_number (forest_kinds types) depth) r.birth last 0 owners (seen (kinds_of types) c rows)) in
              let is_o : can.giving.object ≡ o = same_Some _ _ (sym can.giving.there ∙ at_r) in
              let size : suc last ≡ length o.slots = (let l = length_is in let k = ap (λ (x : Object). length x.slots) is_o in omega (arith, l, k, is_last)) in
              let words : owners ≡ owners_at layouts o.ty = own ∙ ap (owners_at layouts) (ap (λ (s : Shape). s.ty) (sym shape_is) ∙ ap (λ (x : Object). x.ty) is_o) in (
                n,
                (λ i. popped_words (ended_number (forest_kinds types) depth) (sym words i) r.birth (sym size i) (seen (kinds_of types) c rows)),
                record { housed = shows_cut.housed; is = shows_cut.is ∙ cut_meant },
              )

          pub pop_later : Later c e rows after
          pop_later =
              later_then c d e rows new after later
              (record {
                births = let b = ap (λ (x : Content). x.births) cut_is in omega (arith, b);
                row = λ k q lt t. ap (λ (x : Rows). at x k) (sym same) ∙ t;
              })

    -- there is no element
    pub pop_none : shape.length ≡ 0 → (o : Object) → at (seen (kinds_of types) c rows).objects r.birth ≡ Some o → (d : Content) (new : Rows)
        → Pops (kinds_of types) (popped_words (ended_number (forest_kinds types) depth) (owners_at layouts o.ty) r.birth (length o.slots) (seen (kinds_of types) c rows)) false d new
    pop_none none o at_r d new =
        let is_o : can.giving.object ≡ o = same_Some _ _ (sym can.giving.there ∙ at_r) in
        let size : length o.slots ≡ 0 = (let l = length_is in let k = ap (λ (x : Object). length x.slots) is_o in omega (arith, l, k, none)) in
        ap (λ k. popped_words (ended_number (forest_kinds types) depth) (owners_at layouts o.ty) r.birth k (seen (kinds_of types) c rows)) size
