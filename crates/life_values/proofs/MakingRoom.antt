-- A store goes the way of the meaning where a vector gets room for more elements, in its buffer or in another one.
use Rattle.std.proofs.Common.{◌≡◌, ◌≢◌, ℕ, ◌+◌, ◌*◌, ◌≤◌, ◌<◌, ◌^◌, Bool, true, List, length, Option, Some, Result, Ok, Err, refl, sym, ap, subst, ◌∙◌, arith}
use Rattle.std.proofs.lemmas.Option.{same_Some}
use Rattle.std.specs.Prelude.{cond, nat_eq}
use Rattle.life_types.specs.Types.{Types}
use Rattle.life_store.specs.Cells.{at, at-set_same}
use Rattle.life_store.specs.Content.{Object, Content, resized}
use Rattle.life_store.specs.Edits.{grown, regrown, reserved, with_room}
use Rattle.life_store.specs.Effects.{Setting, GotTrap}
use Rattle.life_store.specs.Held.{resized_if}
use Rattle.life_store.specs.Parts.{parts_at, width}
use Rattle.life_store.specs.References.{Rows, asked_of, object_of, shape_of}
use Rattle.life_store.specs.declared.object.BirthFault.{BirthFault}
use Rattle.life_store.specs.declared.object.Dead.{Dead}
use Rattle.life_store.specs.declared.object.ObjRef.{ObjRef}
use Rattle.life_store.specs.declared.object.Shape.{Shape}
use Rattle.life_store.specs.declared.run.Growth.{Growth}
use Rattle.life_store.specs.declared.run.Growth.TheVariants as growth
use Rattle.life_store.specs.declared.run.TrapKind.TheVariants as trap
use Rattle.life_forest.specs.Kinds.{kinds_of as forest_kinds}
use Rattle.life_store.proofs.MapLemmas.{one_or_apart}
use Rattle.life_forest.proofs.Consuming.{tell_apart}
use Rattle.life_forest.proofs.Growing.{apart, OwnsBuffer}
use Rattle.life_seen.specs.Housed.{Later}
use Rattle.life_seen.specs.Kinds.{kinds_of}
use Rattle.life_seen.specs.Named.{names_of}
use Rattle.life_seen.specs.Seen.{seen}
use Rattle.life_seen.proofs.Resizing.{shape_seen}
use Rattle.life_values.specs.Fresh.{Comes}
use Rattle.life_values.specs.Layouts.{AreLaid}
use Rattle.life_values.specs.Moved.{place}
use Rattle.life_values.specs.Regrown.{then_owned, CanGrow, CanRegrow}
use Rattle.life_values.specs.Texts.{IsBuffer}
use Rattle.life_values.specs.Widened.{IsAt, Widens}
use Rattle.life_values.specs.declared.layout.Layout.{Layout}
use Rattle.life_values.specs.declared.spot.Spot.{Spot}
use Rattle.life_values.proofs.Filling.{still_placed}
use Rattle.life_values.proofs.GoingOver.{own_buffer as owns_buffer}
use Rattle.life_values.proofs.Popping.{ok_shape}
use Rattle.life_values.proofs.Reserving.{reserve_comes, reserve_fails, reserve_huge, reserved_there}
use Rattle.life_values.proofs.RoomMade.{huge_buffer, other_buffer, own_buffer}
use Rattle.life_values.proofs.SeenAs.{seen_as, IsSeenAs}

-- a buffer that was full has room for one more
grown_more : (policy : Growth) (size capacity : ℕ) → size ≤ capacity → size + 1 ≤ grown policy size capacity
grown_more growth.Always size capacity le = let e : grown growth.Always size capacity ≡ size + 1 = refl in omega (arith, e)
grown_more growth.Double size capacity le =
    one_or_apart capacity 0
    (λ z. let e : grown growth.Double size capacity ≡ 1 = ap (λ n. cond (nat_eq n 0) 1 (2 * n)) z in omega (arith, le, z, e))
    (λ ne. let e : grown growth.Double size capacity ≡ 2 * capacity = ap (λ t. cond t 1 (2 * capacity)) (tell_apart capacity 0 ne) in omega (arith, le, ne, e))

module _ (types : Types) (layouts : List Layout) (laid : AreLaid types layouts) (spot : Spot) (b : ObjRef) (c : Content) (rows : Rows) (can : CanGrow types spot b c rows) where
  abbrev m : Content
  m = seen (kinds_of types) c rows

  abbrev ob : Object
  ob = can.own.buffer

  pub owns : OwnsBuffer (forest_kinds types) ob.ty (parts_at types ob.ty) (place spot) b.birth m can.own.owner ob
  owns = owns_buffer types layouts laid spot b ob.capacity (length ob.slots) c rows (record { own = can.own; enough = omega arith; fits = can.roomy })

  pub holder_apart : spot.object.birth ≢ b.birth
  holder_apart = apart (forest_kinds types) ob.ty (parts_at types ob.ty) (place spot) b.birth can.own.hand m can.own.owner ob can.own.forest owns

  now : IsSeenAs (kinds_of types) c rows b ob
  now = seen_as (kinds_of types) c rows b ob can.own.housed can.own.placed can.own.there

  pub not_dead : (dead : Dead) → asked_of (object_of c rows b) shape_of ≡ Err dead → ⊥
  not_dead dead e = clash (sym (ap (λ (y : Option Object). asked_of y shape_of) now.found) ∙ e)
    where
      clash : asked_of (Some now.object) shape_of ≡ Err dead → ⊥
      clash h = cc

  pub is_at : IsAt (kinds_of types) b c rows
  is_at = record { housed = can.own.housed; placed = can.own.placed }

  -- ---- in its own buffer

  pub room_in_place : (result : Bool) → result ≡ true → (d : Content) (new : Rows) → ((o : Object) → at m.objects b.birth ≡ Some o → Widens (kinds_of types) b.birth o m result d new) → Later c d rows new
      → (s : Setting) (o : Object) → at m.objects b.birth ≡ Some o → IsBuffer (kinds_of types) (then_owned (place spot) (with_room s o.ty (parts_at types o.ty) b.birth m)) (Ok b) d new
  room_in_place result is d new widened later s o there =
      let w = subst (λ r. Widens (kinds_of types) b.birth o m r d new) is (widened o there) in
      let size = length o.slots in (
        _,
        own_buffer s o.ty (parts_at types o.ty) (place spot) b.birth m can.own.owner o can.own.owner_there can.own.owned holder_apart there w.0,
        w.1,
        still_placed (kinds_of types) c d rows new w.1.housed later b.birth b.row (resized (m.clock + 1) (size + 1) size o) (can.own.forest.births b.birth o there) can.own.placed
            (ap (λ (x : Content). at x.objects b.birth) w.1.is
            ∙ ap (λ (x : Option Object). at (resized_if x b.birth (size + 1) size m).objects b.birth) there
            ∙ at-set_same m.objects b.birth b.birth (resized (m.clock + 1) (size + 1) size o) refl),
      )

  -- ---- in another one

  module _ (shape : Shape) (asked : asked_of (object_of c rows b) shape_of ≡ Ok shape) where
    shape_is : shape_of ob ≡ shape
    shape_is = ap shape_of (sym now.same) ∙ shape_seen (kinds_of types) (names_of c rows) now.object ∙ ok_shape now.object now.found asked

    pub length_is : length ob.slots ≡ shape.length
    length_is = ap (λ (s : Shape). s.length) shape_is

    room_is : ob.capacity ≡ shape.capacity
    room_is = ap (λ (s : Shape). s.capacity) shape_is

    pub roomy : shape.length ≤ shape.capacity
    roomy = let l = length_is in let k = room_is in let r = can.roomy in omega (arith, l, k, r)

    pub fits : (policy : Growth) (more : ℕ) → more ≡ grown policy shape.length shape.capacity → shape.length + 1 ≤ more
    fits policy more is = let g = grown_more policy shape.length shape.capacity roomy in omega (arith, is, g)

    pub regrow_can : (policy : Growth) (more : ℕ) → more ≡ grown policy shape.length shape.capacity → CanRegrow types spot b more (shape.length + 1) c rows
    regrow_can policy more is = record { own = can.own; enough = let l = length_is in omega (arith, l); fits = fits policy more is }

    pub reserve_can : (more : ℕ) → shape.capacity < more → CanRegrow types spot b more shape.length c rows
    reserve_can more lt = record { own = can.own; enough = let l = length_is in omega (arith, l); fits = let r = roomy in omega (arith, r, lt) }

    module _ (s : Setting) (o : Object) (there : at (seen (kinds_of types) c rows).objects b.birth ≡ Some o) where
      is_buffer : ob ≡ o
      is_buffer = same_Some ob o (sym can.own.there ∙ there)

      size_o : length o.slots ≡ shape.length
      size_o = ap (λ (x : Object). length x.slots) (sym is_buffer) ∙ length_is

      capacity_o : o.capacity ≡ shape.capacity
      capacity_o = ap (λ (x : Object). x.capacity) (sym is_buffer) ∙ room_is

      module _ (full : o.capacity ≤ length o.slots) (policy : Growth) (by : s.given.growth ≡ policy) where
        grown_is : grown s.given.growth (length o.slots) o.capacity ≡ grown policy shape.length shape.capacity
        grown_is = λ i. grown (by i) (size_o i) (capacity_o i)

        pub room_regrown : (more : ℕ) → more ≡ grown policy shape.length shape.capacity → (result : Result ObjRef BirthFault) (e : Content) (after : Rows)
            → IsBuffer (kinds_of types) (then_owned (place spot) (regrown s o.ty (parts_at types o.ty) b.birth more (shape.length + 1) (seen (kinds_of types) c rows))) result e after
            → IsBuffer (kinds_of types) (then_owned (place spot) (with_room s o.ty (parts_at types o.ty) b.birth (seen (kinds_of types) c rows))) result e after
        room_regrown more is result e after came =
            other_buffer s o.ty (parts_at types o.ty) (place spot) b.birth m can.own.owner o can.own.owner_there can.own.owned holder_apart there (kinds_of types) more full (grown_is ∙ sym is) result e after
            (subst (λ n. IsBuffer (kinds_of types) (then_owned (place spot) (regrown s o.ty (parts_at types o.ty) b.birth more (n + 1) m)) result e after) (sym size_o) came)

        pub room_huge : (limit : ℕ) → s.given.cells ≡ limit → limit < 2 ^ 32 → 2 ^ 32 ≤ grown policy shape.length shape.capacity → 1 ≤ width (parts_at types o.ty)
            → then_owned (place spot) (with_room s o.ty (parts_at types o.ty) b.birth (seen (kinds_of types) c rows)) ≡ GotTrap trap.Cells
        room_huge limit cells few huge wide =
            huge_buffer (kinds_of types) s o.ty (parts_at types o.ty) (place spot) b.birth limit c rows o there cells few full (let g = grown_is in omega (arith, g, huge)) wide

      -- ---- for so many

      pub reserve_there : (n : ℕ) → n ≤ shape.capacity → Comes {A = Unit {0}} (kinds_of types) (reserved s o.ty (parts_at types o.ty) (place spot) b.birth n (seen (kinds_of types) c rows)) (Ok tt) c rows
      reserve_there n le = (
        seen (kinds_of types) c rows,
        reserved_there (kinds_of types) s o.ty (parts_at types o.ty) (place spot) b.birth n m o there (let k = capacity_o in omega (arith, le, k)),
        record { housed = can.own.housed; is = refl },
      )

      module _ (n : ℕ) (more : shape.capacity < n) where
        wanted : o.capacity < n
        wanted = let k = capacity_o in omega (arith, more, k)

        pub reserve_past : (limit : ℕ) → s.given.cells ≡ limit → limit < 2 ^ 32 → 2 ^ 32 ≤ n → 1 ≤ width (parts_at types o.ty)
            → reserved s o.ty (parts_at types o.ty) (place spot) b.birth n (seen (kinds_of types) c rows) ≡ GotTrap trap.Cells
        reserve_past limit cells few huge wide = reserve_huge (kinds_of types) s o.ty (parts_at types o.ty) (place spot) b.birth n limit c rows o there cells few huge wanted wide

        pub reserve_none : (k : ℕ) → k ≡ n → (fault : BirthFault) (e : Content) (after : Rows)
            → IsBuffer (kinds_of types) (then_owned (place spot) (regrown s o.ty (parts_at types o.ty) b.birth k shape.length (seen (kinds_of types) c rows))) (Err fault) e after
            → Comes {A = Unit {0}} (kinds_of types) (reserved s o.ty (parts_at types o.ty) (place spot) b.birth n (seen (kinds_of types) c rows)) (Err fault) e after
        reserve_none k is fault e after came =
            reserve_fails (kinds_of types) s o.ty (parts_at types o.ty) (place spot) b.birth n m o there wanted fault e after
            (subst (λ x. IsBuffer (kinds_of types) (then_owned (place spot) x) (Err fault) e after) (λ j. regrown s o.ty (parts_at types o.ty) b.birth (is j) (sym size_o j) m) came)

        pub reserve_done : (k : ℕ) → k ≡ n → (q : ObjRef) (e : Content) (after : Rows)
            → IsBuffer (kinds_of types) (then_owned (place spot) (regrown s o.ty (parts_at types o.ty) b.birth k shape.length (seen (kinds_of types) c rows))) (Ok q) e after
            → Comes {A = Unit {0}} (kinds_of types) (reserved s o.ty (parts_at types o.ty) (place spot) b.birth n (seen (kinds_of types) c rows)) (Ok tt) e after
        reserve_done k is q e after came =
            reserve_comes (kinds_of types) s o.ty (parts_at types o.ty) (place spot) b.birth n m o there wanted q e after
            (subst (λ x. IsBuffer (kinds_of types) (then_owned (place spot) x) (Ok q) e after) (λ j. regrown s o.ty (parts_at types o.ty) b.birth (is j) (sym size_o j) m) came)
