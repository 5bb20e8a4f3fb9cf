-- A store goes the way of the meaning where an element of a buffer goes.
use Rattle.std.proofs.Common.{◌≡◌, ℕ, ◌+◌, ◌-◌, ◌*◌, ◌<◌, ◌^◌, List, length, Option, Some, None, Ok, Err, IfSome, refl, sym, ap, subst, ◌∙◌, arith, mul-le-mul_right}
use Rattle.std.proofs.lemmas.Option.{none-some, same_Some}
use Rattle.std.specs.Prelude.{slice_get}
use Rattle.life_types.specs.Types.{Types}
use Rattle.life_store.specs.Cells.{at}
use Rattle.life_store.specs.Content.{Object, Content, with_resize, CanCount}
use Rattle.life_store.specs.Held.{resized_at, resized_if}
use Rattle.life_store.specs.Parts.{parts_at}
use Rattle.life_store.specs.Parts.{width as parts_width_of}
use Rattle.life_store.specs.References.{Rows, asked_of, object_of, shape_of, CanResize}
use Rattle.life_store.specs.declared.object.Dead.{Dead}
use Rattle.life_store.specs.declared.object.ObjRef.{ObjRef}
use Rattle.life_store.specs.declared.object.Shape.{Shape}
use Rattle.life_forest.specs.Kinds.{kinds_of as forest_kinds}
use Rattle.life_seen.specs.Housed.{Shows, Later}
use Rattle.life_seen.specs.Kinds.{kinds_of}
use Rattle.life_seen.specs.Named.{names_of}
use Rattle.life_seen.specs.Seen.{object_seen, seen}
use Rattle.life_seen.proofs.Calls.{shows_resize}
use Rattle.life_seen.proofs.References.{found_seen, later_then}
use Rattle.life_seen.proofs.Resizing.{count_seen, shape_seen}
use Rattle.life_values.specs.Emptied.{emptied_each, CanEmpty}
use Rattle.life_values.specs.Ended.{ended_number}
use Rattle.life_values.specs.Erased.{erased_words, CanErase}
use Rattle.life_values.specs.Layouts.{flat, leaves_at, owners_at, width_at, AreLaid, AreOwners}
use Rattle.life_values.specs.Moved.{slots_moved, AreUncut, CanMoveSlots}
use Rattle.life_values.specs.Popped.{CanGive, IsGiving}
use Rattle.life_values.specs.Regrown.{slot_at, slots_taken, CanTakeSlots}
use Rattle.life_values.specs.declared.layout.Layout.{Layout}
use Rattle.life_values.specs.declared.layout.Leaf.{Leaf}
use Rattle.life_values.proofs.AlikeKinds.{alike_kinds}
use Rattle.life_values.proofs.Beginning.{width_of_type}
use Rattle.life_values.proofs.CopiedRowed.{all_uncut}
use Rattle.life_values.proofs.EmptiedThen.{emptied_births, emptied_clock, still_giving, still_like}
use Rattle.life_values.proofs.Filling.{still_placed}
use Rattle.life_values.proofs.Flat.{layouts_own}
use Rattle.life_values.proofs.Kept.{slots_counts, slots_kept, IsKept}
use Rattle.life_values.proofs.LeafOwners.{characters_own, leaf_within}
use Rattle.life_values.proofs.OneOwner.{leaves_by_parts}
use Rattle.life_values.proofs.Popping.{ok_shape, slot_can, spot_of}
use Rattle.life_values.proofs.SeenAs.{seen_as, IsSeenAs}
use Rattle.life_values.proofs.SlotsTaking.{are_owned}
use Rattle.life_values.proofs.TakingSlots.{slots_still, IsTaken}
use Rattle.life_values.proofs.Zeroing.{IsLike}

module _ (types : Types) (layouts : List Layout) (depth : ℕ) (r : ObjRef) (index : ℕ) (c : Content) (rows : Rows) (can : CanErase (kinds_of types) (forest_kinds types) depth r index c rows) where
  abbrev o : Object
  o = can.giving.object

  now : IsSeenAs (kinds_of types) c rows r o
  now = seen_as (kinds_of types) c rows r o can.giving.housed can.giving.placed can.giving.there

  pub not_dead : (dead : Dead) → asked_of (object_of c rows r) shape_of ≡ Err dead → ⊥
  not_dead dead e = clash (sym (ap (λ (y : Option Object). asked_of y shape_of) now.found) ∙ e)
    where
      clash : asked_of (Some now.object) shape_of ≡ Err dead → ⊥
      clash h = cc

  module _ (shape : Shape) (asked : asked_of (object_of c rows r) shape_of ≡ Ok shape) (laid : AreLaid types layouts) (owners : List ℕ) (own : owners ≡ owners_at layouts shape.ty) (width : ℕ) (wide : width ≡ width_at layouts shape.ty) where
    shape_is : shape_of o ≡ shape
    shape_is = ap shape_of (sym now.same) ∙ shape_seen (kinds_of types) (names_of c rows) now.object ∙ ok_shape now.object now.found asked

    pub ty_is : o.ty ≡ shape.ty
    ty_is = ap (λ (s : Shape). s.ty) shape_is

    pub size_is : length o.slots ≡ shape.length
    size_is = ap (λ (s : Shape). s.length) shape_is

    pub width_is : o.width ≡ width
    width_is = can.width ∙ ap (λ ty. (forest_kinds types).width ty) ty_is ∙ sym (wide ∙ width_of_type types layouts laid shape.ty)

    pub are : AreOwners (kinds_of types o.ty) owners
    are = subst (λ ty. AreOwners (kinds_of types ty) owners) (sym ty_is) (subst (AreOwners (kinds_of types shape.ty)) (sym own) (layouts_own types layouts laid shape.ty))

    pub inside : index < shape.length
    inside = let a = can.inside in let b = size_is in omega (arith, a, b)

    abbrev pub give_can : CanGive (kinds_of types) (forest_kinds types) depth r index width owners c rows
    give_can = record { giving = can.giving; slot = can.inside; width = width_is; own = are.sound }

    module _ (small : width < 2 ^ 64) (d : Content) (new : Rows) (shows : Shows (kinds_of types) d new (emptied_each (ended_number (forest_kinds types) depth) r.birth index 0 owners (seen (kinds_of types) c rows))) (later : Later c d rows new)
        (leaves : List Leaf) (leaves_of : leaves ≡ leaves_at layouts shape.ty) (count : ℕ) (count_is : index + 1 + count ≡ shape.length) where
      abbrev empty_can : CanEmpty (kinds_of types) (forest_kinds types) depth (spot_of r index) owners c rows
      empty_can = slot_can (kinds_of types) (forest_kinds types) depth r index width owners c rows give_can small

      pub then : IsGiving (kinds_of types) (forest_kinds types) depth r d new
      then = still_giving (kinds_of types) (forest_kinds types) (alike_kinds types) depth (spot_of r index) owners c rows empty_can d new shows later

      pub like : IsLike then.object o
      unfolding then
      like = still_like (kinds_of types) (forest_kinds types) (alike_kinds types) depth (spot_of r index) owners c rows empty_can d new shows later

      births_d : d.births ≡ c.births
      births_d = ap (λ (x : Content). x.births) shows.is ∙ emptied_births (forest_kinds types) depth r.birth index 0 owners (seen (kinds_of types) c rows)

      clock_d : d.clock ≡ c.clock
      clock_d = ap (λ (x : Content). x.clock) shows.is ∙ emptied_clock (forest_kinds types) depth r.birth index 0 owners (seen (kinds_of types) c rows)

      pub leaves_are : leaves ≡ flat 0 (parts_at types shape.ty)
      leaves_are = leaves_of ∙ leaves_by_parts types layouts laid shape.ty

      pub parts_width : width ≡ parts_width_of (parts_at types shape.ty)
      parts_width = wide ∙ width_of_type types layouts laid shape.ty

      pub leaf_small : (j : ℕ) (l : Leaf) → slice_get leaves j ≡ Some l → 0 + l.word < 2 ^ 64
      leaf_small j l at_j =
          let q = leaf_within (parts_at types shape.ty) 0 j l (ap (λ ls. slice_get ls j) (sym leaves_are) ∙ at_j) in
          let e = parts_width in
          omega (arith, q, e, small)

      abbrev pub take_can : CanTakeSlots (kinds_of types) (forest_kinds types) r leaves (index + 1) count d new
      take_can = record {
        housed = then.housed;
        placed = then.placed;
        hand = then.hand;
        forest = then.forest;
        object = then.object;
        there = then.there;
        wide = (then.sized r.birth then.object then.there).wide;
        size = let a = like.count in let b = size_is in omega (arith, a, b, count_is);
        own = λ j l ty at_j h.
            let q = characters_own (parts_at types shape.ty) 0 j l ty (ap (λ ls. slice_get ls j) (sym leaves_are) ∙ at_j) h in
            let z : 0 + l.word ≡ q.word = (let x = q.is in omega (arith, x)) in
            let lt = q.within in
            let a = like.width in
            let b = width_is in
            let e = parts_width in
            (ap (λ ty. kinds_of types ty (0 + l.word)) (like.ty ∙ ty_is) ∙ ap (kinds_of types shape.ty) z ∙ q.owner, omega (arith, z, lt, a, b, e));
        small = leaf_small;
      }

      abbrev births_fit : Type 0
      births_fit = (x : Object) → at (seen (kinds_of types) c rows).objects r.birth ≡ Some x → c.births + length x.slots * length (leaves_at layouts x.ty) < 2 ^ 63

      pub take_births : births_fit → d.births + count * length leaves < 2 ^ 63
      take_births fit =
          let f = fit o can.giving.there in
          let e = births_d in
          let l = ap length (leaves_of ∙ ap (leaves_at layouts) (sym ty_is)) in
          let n = ap (λ k. length o.slots * k) l in
          let s = size_is in
          let m = mul-le-mul_right {m = count} {n = length o.slots} (length leaves) (omega (arith, s, count_is)) in
          omega (arith, f, e, n, m)

      pub take_clock : c.clock < 2 ^ 63 → d.clock < 2 ^ 63
      take_clock lt = let e = clock_d in omega (arith, e, lt)

      module _ (e : Content) (after : Rows) (took : Shows (kinds_of types) e after (slots_taken leaves r.birth (index + 1) count (seen (kinds_of types) d new))) (later_e : Later d e new after) where
        taken : IsTaken (forest_kinds types) r.birth then.hand then.object (count * length leaves) (seen (kinds_of types) d new) (slots_taken leaves r.birth (index + 1) count (seen (kinds_of types) d new))
        taken =
            slots_still (forest_kinds types) r.birth then.hand leaves count (index + 1) (seen (kinds_of types) d new) then.object then.there then.forest take_can.wide take_can.size
            (are_owned (kinds_of types) (forest_kinds types) (alike_kinds types) r leaves (index + 1) count d new take_can)

        at_e : at (seen (kinds_of types) e after).objects r.birth ≡ Some taken.object
        at_e = ap (λ (x : Content). at x.objects r.birth) took.is ∙ taken.found

        placed_e : at after r.birth ≡ Some r.row
        placed_e = still_placed (kinds_of types) d e new after took.housed later_e r.birth r.row taken.object (then.housed.below r.birth r.row then.placed) then.placed at_e

        count_e : length taken.object.slots ≡ shape.length
        count_e = taken.like.count ∙ like.count ∙ size_is

        width_e : taken.object.width ≡ width
        width_e = taken.like.width ∙ like.width ∙ width_is

        pub still_uncut : (x : Object) × (at (seen (kinds_of types) e after).objects r.birth ≡ Some x) × AreUncut (kinds_of types x.ty) 0 width
        still_uncut = (taken.object, at_e, all_uncut types taken.object.ty width (parts_width ∙ ap (λ ty. parts_width_of (parts_at types ty)) (sym (taken.like.ty ∙ like.ty ∙ ty_is))))

        pub move_can : CanMoveSlots (kinds_of types) (record { object = r; slot = index + 1; word = 0 }) (record { object = r; slot = index; word = 0 }) count width owners e after
        move_can =
            let a = count_e in
            let b = width_e in
            record {
              housed = took.housed;
              from_placed = placed_e;
              to_placed = placed_e;
              apart = λ same. omega arith;
              source = taken.object;
              source_there = at_e;
              target = taken.object;
              target_there = at_e;
              alike = λ u lt. refl;
              source_width = omega (arith, b);
              target_width = omega (arith, b);
              source_long = taken.long;
              target_long = taken.long;
              source_size = omega (arith, a, count_is);
              target_size = omega (arith, a, count_is);
              own = λ j u at_j.
                  let q = are.sound j u at_j in
                  let z : 0 + u ≡ u = omega arith in
                  let lt = (can.giving.sized r.birth o can.giving.there).owners u q in
                  let x = width_is in
                  (ap (λ ty. kinds_of types ty (0 + u)) (taken.like.ty ∙ like.ty) ∙ ap (kinds_of types o.ty) z ∙ q, omega (arith, lt, x));
              from_small = omega (arith, small);
              to_small = omega (arith, small);
            }

        module _ (f : Content) (last : Rows) (moved : Shows (kinds_of types) f last (slots_moved (slot_at r.birth (index + 1)) (slot_at r.birth index) width owners count (seen (kinds_of types) e after))) (same : last ≡ after) (later_f : Later e f after last) where
          kept : IsKept r.birth taken.object (slots_moved (slot_at r.birth (index + 1)) (slot_at r.birth index) width owners count (seen (kinds_of types) e after))
          kept = slots_kept count r.birth taken.object (seen (kinds_of types) e after) at_e (slot_at r.birth (index + 1)) (slot_at r.birth index) width owners

          now_f : IsSeenAs (kinds_of types) f last r kept.object
          now_f =
              seen_as (kinds_of types) f last r kept.object moved.housed (ap (λ (x : Rows). at x r.birth) same ∙ placed_e)
              (ap (λ (x : Content). at x.objects r.birth) moved.is ∙ kept.there)

          counts : (f.births ≡ e.births) × (f.clock ≡ e.clock)
          counts =
              let k = slots_counts count (slot_at r.birth (index + 1)) (slot_at r.birth index) width owners (seen (kinds_of types) e after) in
              (ap (λ (x : Content). x.births) moved.is ∙ k.0, ap (λ (x : Content). x.clock) moved.is ∙ k.1)

          pub can_count : births_fit → c.clock < 2 ^ 63 → CanCount f
          can_count fit lt = record {
            births =
                let a = counts.0 in
                let b = ap (λ (x : Content). x.births) took.is in
                let t = taken.births in
                let l = take_births fit in
                omega (arith, a, b, t, l);
            clock =
                let a = counts.1 in
                let b = ap (λ (x : Content). x.clock) took.is ∙ taken.clock in
                let l = clock_d in
                omega (arith, a, b, l, lt);
          }

          pub can_cut : IfSome (object_of f last r) (CanResize (count + index) index)
          can_cut =
              let a : length (object_seen (kinds_of types) (names_of f last) now_f.object).slots ≡ length kept.object.slots = ap (λ (x : Object). length x.slots) now_f.same in
              let b = count_seen (kinds_of types) (names_of f last) now_f.object in
              let g : now_f.object.capacity ≡ kept.object.capacity = ap (λ (x : Object). x.capacity) now_f.same in
              let k = kept.like.count in
              let n = count_e in
              let h = kept.like.capacity ∙ taken.like.capacity ∙ like.capacity in
              let room = can.roomy in
              let s = size_is in
              let i = inside in
              subst (λ x. IfSome x (CanResize (count + index) index)) (sym now_f.found)
              (record { fits = omega (arith, g, h, room, s, count_is); to = omega (arith, i); from = omega (arith, a, b, k, n, i) })

          pub still_there : object_of f last r ≡ None → ⊥
          still_there none = none-some now_f.object (sym none ∙ now_f.found)

          module _ (g : Content) (final : Rows) (cut : IfSome (object_of f last r) (λ x. g ≡ with_resize r.birth (count + index) index x f)) (same_final : final ≡ last) where
            cut_is : g ≡ with_resize r.birth (count + index) index now_f.object f
            cut_is = subst (λ x. IfSome x (λ y. g ≡ with_resize r.birth (count + index) index y f)) now_f.found cut

            shows_cut : Shows (kinds_of types) g final (with_resize r.birth (count + index) index (object_seen (kinds_of types) (names_of f last) now_f.object) (seen (kinds_of types) f last))
            shows_cut = shows_resize (kinds_of types) f last moved.housed g final r (count + index) index now_f.object now_f.found cut_is same_final

            done : seen (kinds_of types) f last
                ≡ slots_moved (slot_at r.birth (index + 1)) (slot_at r.birth index) width owners count (slots_taken leaves r.birth (index + 1) count (emptied_each (ended_number (forest_kinds types) depth) r.birth index 0 owners (seen (kinds_of types) c rows)))
            done =
                moved.is
                ∙ ap (slots_moved (slot_at r.birth (index + 1)) (slot_at r.birth index) width owners count) (took.is ∙ ap (slots_taken leaves r.birth (index + 1) count) shows.is)

            pub erase_shows : (x : Object) → at (seen (kinds_of types) c rows).objects r.birth ≡ Some x
                → Shows (kinds_of types) g final (erased_words (ended_number (forest_kinds types) depth) (leaves_at layouts x.ty) (width_at layouts x.ty) (owners_at layouts x.ty) r.birth index (length x.slots) (seen (kinds_of types) c rows))
            erase_shows x at_r =
                let is_x : o ≡ x = same_Some o x (sym can.giving.there ∙ at_r) in
                let size : shape.length ≡ length x.slots = sym size_is ∙ ap (λ (y : Object). length y.slots) is_x in
                let ty : shape.ty ≡ x.ty = sym ty_is ∙ ap (λ (y : Object). y.ty) is_x in
                let rest : count ≡ length x.slots - (index + 1) = omega (arith, size, count_is) in
                let cut_size : count + index ≡ length x.slots - 1 = omega (arith, size, count_is) in
                record {
                  housed = shows_cut.housed;
                  is =
                      shows_cut.is
                      ∙ ap (λ (y : Option Object). resized_if y r.birth (count + index) index (seen (kinds_of types) f last)) (sym (found_seen (kinds_of types) f last moved.housed r now_f.object now_f.found))
                      ∙ ap (λ (y : Content). resized_if (at y.objects r.birth) r.birth (count + index) index y) done
                      ∙ (λ j. resized_at r.birth (cut_size j) index (slots_moved (slot_at r.birth (index + 1)) (slot_at r.birth index) ((wide ∙ ap (width_at layouts) ty) j) ((own ∙ ap (owners_at layouts) ty) j) (rest j)
                      (slots_taken ((leaves_of ∙ ap (leaves_at layouts) ty) j) r.birth (index + 1) (rest j) (emptied_each (ended_number (forest_kinds types) depth) r.birth index 0 ((own ∙ ap (owners_at layouts) ty) j) (seen (kinds_of types) c rows)))));
                }

            pub erase_later : Later c g rows final
            erase_later =
                later_then c f g rows last final (later_then c e f rows after last (later_then c d e rows new after later later_e) later_f)
                (record {
                  births = let b = ap (λ (x : Content). x.births) cut_is in omega (arith, b);
                  row = λ k q lt t. ap (λ (x : Rows). at x k) (sym same_final) ∙ t;
                })
