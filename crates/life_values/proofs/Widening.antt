-- A store goes the way of the meaning where a buffer with room gets one more slot.
use Rattle.std.proofs.Common.{◌≡◌, ℕ, suc, ◌+◌, ◌≤◌, ◌<◌, true, false, cond, length, Option, Some, None, Ok, Err, IfSome, ⊎_elim, refl, sym, ap, subst, ◌∙◌, arith}
use Rattle.std.proofs.lemmas.Option.{none-some, same_Some}
use Rattle.std.proofs.lemmas.Bool.Decides.{leb_tells}
use Rattle.std.specs.Prelude.{nat_lt}
use Rattle.life_types.specs.declared.ty.TyId.{TyId}
use Rattle.life_store.specs.Cells.{at}
use Rattle.life_store.specs.Content.{Object, Content, with_resize}
use Rattle.life_store.specs.Edits.{capacity_if, grown, regrown, with_room}
use Rattle.life_store.specs.Effects.{Setting, Got}
use Rattle.life_store.specs.Held.{resized_at, resized_if, slots_if}
use Rattle.life_store.specs.Parts.{Parts}
use Rattle.life_store.specs.References.{Rows, asked_of, object_of, shape_of, CanResize}
use Rattle.life_store.specs.declared.object.Dead.{Dead}
use Rattle.life_store.specs.declared.object.ObjRef.{ObjRef}
use Rattle.life_store.specs.declared.object.Shape.{Shape}
use Rattle.life_seen.specs.Housed.{Later}
use Rattle.life_seen.specs.Kinds.{Kinds}
use Rattle.life_seen.specs.Named.{names_of}
use Rattle.life_seen.specs.Seen.{object_seen, seen}
use Rattle.life_seen.proofs.Calls.{shows_resize}
use Rattle.life_seen.proofs.References.{found_seen, of_found, placed_lives}
use Rattle.life_seen.proofs.Resizing.{shape_seen}
use Rattle.life_values.specs.Widened.{IsAt, Widens}
use Rattle.life_values.proofs.Popping.{ok_shape}

module _ (kinds : Kinds) (r : ObjRef) (c : Content) (rows : Rows) (is : IsAt kinds r c rows) where
  here : (x : Object) × (object_of c rows r ≡ Some x)
  here = let l = placed_lives kinds c rows is.housed r.birth r.row is.placed in (l.0, of_found c rows r l.0 (record { there = l.1; placed = is.placed }))

  pub not_dead : (dead : Dead) → asked_of (object_of c rows r) shape_of ≡ Err dead → ⊥
  not_dead dead e = clash (sym (ap (λ (y : Option Object). asked_of y shape_of) here.1) ∙ e)
    where
      clash : asked_of (Some here.0) shape_of ≡ Err dead → ⊥
      clash h = cc

  pub still_there : object_of c rows r ≡ None → ⊥
  still_there none = none-some here.0 (sym none ∙ here.1)

  module _ (shape : Shape) (asked : asked_of (object_of c rows r) shape_of ≡ Ok shape) where
    shape_is : shape_of here.0 ≡ shape
    shape_is = ok_shape here.0 here.1 asked

    module _ (o : Object) (there : at (seen kinds c rows).objects r.birth ≡ Some o) where
      seen_is : object_seen kinds (names_of c rows) here.0 ≡ o
      seen_is = same_Some _ _ (sym (found_seen kinds c rows is.housed r here.0 here.1) ∙ there)

      shape_then : shape_of o ≡ shape
      shape_then = ap shape_of (sym seen_is) ∙ shape_seen kinds (names_of c rows) here.0 ∙ shape_is

      size_is : length o.slots ≡ shape.length
      size_is = ap (λ (s : Shape). s.length) shape_then

      room_is : o.capacity ≡ shape.capacity
      room_is = ap (λ (s : Shape). s.capacity) shape_then

      pub is_full : shape.capacity ≤ shape.length → Widens kinds r.birth o (seen kinds c rows) false c rows
      is_full full = let l = size_is in let k = room_is in (omega (arith, full, l, k), record { housed = is.housed; is = refl })

    module _ (less : shape.length < shape.capacity) where
      pub can_widen : IfSome (object_of c rows r) (CanResize (shape.length + 1) shape.length)
      can_widen =
          let l : length here.0.slots ≡ shape.length = ap (λ (s : Shape). s.length) shape_is in
          let k : here.0.capacity ≡ shape.capacity = ap (λ (s : Shape). s.capacity) shape_is in
          subst (λ x. IfSome x (CanResize (shape.length + 1) shape.length)) (sym here.1) (record { fits = omega (arith, less, k); to = omega arith; from = omega (arith, l) })

      module _ (d : Content) (new : Rows) (wider : IfSome (object_of c rows r) (λ o. d ≡ with_resize r.birth (shape.length + 1) shape.length o c)) (same : new ≡ rows) where
        wider_is : d ≡ with_resize r.birth (shape.length + 1) shape.length here.0 c
        wider_is = subst (λ x. IfSome x (λ o. d ≡ with_resize r.birth (shape.length + 1) shape.length o c)) here.1 wider

        pub widen_later : Later c d rows new
        widen_later = record {
          births = let b = ap (λ (x : Content). x.births) wider_is in omega (arith, b);
          row = λ k q lt t. ap (λ (x : Rows). at x k) (sym same) ∙ t;
        }

        pub widen_shows : (o : Object) → at (seen kinds c rows).objects r.birth ≡ Some o → Widens kinds r.birth o (seen kinds c rows) true d new
        widen_shows o there =
            let s = shows_resize kinds c rows is.housed d new r (shape.length + 1) shape.length here.0 here.1 wider_is same in
            let l = size_is o there in
            let k = room_is o there in (
              omega (arith, less, l, k),
              record {
                housed = s.housed;
                is = s.is
                    ∙ (λ i. with_resize r.birth (sym l i + 1) (sym l i) (seen_is o there i) (seen kinds c rows))
                    ∙ ap (λ (x : Option Object). resized_if x r.birth (length o.slots + 1) (length o.slots) (seen kinds c rows)) (sym there);
              },
            )

-- ---- in the meaning

module _ (s : Setting) (ty : TyId) (element : Parts) (b : ℕ) (m : Content) (o : Object) (there : at m.objects b ≡ Some o) where
  by_object : with_room s ty element b m
      ≡ cond (nat_lt (length o.slots) o.capacity) (Got (b, resized_at b (length o.slots + 1) (length o.slots) m)) (regrown s ty element b (grown s.given.growth (length o.slots) o.capacity) (length o.slots + 1) m)
  by_object =
      ap (λ (x : Option Object). cond (nat_lt (length (slots_if x)) (capacity_if x)) (Got (b, resized_at b (length (slots_if x) + 1) (length (slots_if x)) m)) (regrown s ty element b (grown s.given.growth (length (slots_if x)) (capacity_if x)) (length (slots_if x) + 1) m)) there

  -- there is room
  pub room_there : length o.slots < o.capacity → with_room s ty element b m ≡ Got (b, resized_at b (length o.slots + 1) (length o.slots) m)
  room_there lt =
      by_object
      ∙ ap (λ t. cond t (Got (b, resized_at b (length o.slots + 1) (length o.slots) m)) (regrown s ty element b (grown s.given.growth (length o.slots) o.capacity) (length o.slots + 1) m))
      (⊎_elim (λ h. h.0) (λ h. let g = h.1 in absurd (omega (arith, g, lt))) (leb_tells (suc (length o.slots)) o.capacity))

  -- .. or another buffer is wanted
  pub room_wanted : o.capacity ≤ length o.slots → with_room s ty element b m ≡ regrown s ty element b (grown s.given.growth (length o.slots) o.capacity) (length o.slots + 1) m
  room_wanted le =
      by_object
      ∙ ap (λ t. cond t (Got (b, resized_at b (length o.slots + 1) (length o.slots) m)) (regrown s ty element b (grown s.given.growth (length o.slots) o.capacity) (length o.slots + 1) m))
      (⊎_elim (λ h. let g = h.1 in absurd (omega (arith, g, le))) (λ h. h.0) (leb_tells (suc (length o.slots)) o.capacity))
