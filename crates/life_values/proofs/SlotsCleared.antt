-- A store goes the way of the meaning where all elements of a buffer go.
use Rattle.std.proofs.Common.{◌≡◌, ℕ, suc, ◌+◌, ◌-◌, ◌<◌, ◌≤◌, ◌^◌, List, length, Option, Some, None, Result, Ok, Err, IfSome, refl, sym, ap, subst, ◌∙◌, arith}
use Rattle.std.proofs.lemmas.Option.{none-some, same_Some}
use Rattle.life_types.specs.Types.{Types}
use Rattle.life_store.specs.Cells.{at}
use Rattle.life_store.specs.Content.{Object, Content, with_resize, CanCount}
use Rattle.life_store.specs.Held.{resized_if}
use Rattle.life_store.specs.References.{Rows, asked_of, object_of, shape_of, CanResize}
use Rattle.life_store.specs.declared.object.Dead.{Dead}
use Rattle.life_store.specs.declared.object.ObjRef.{ObjRef}
use Rattle.life_store.specs.declared.object.Shape.{Shape}
use Rattle.life_forest.specs.Kinds.{kinds_of as forest_kinds}
use Rattle.life_seen.specs.Housed.{Shows, Later}
use Rattle.life_seen.specs.Kinds.{kinds_of}
use Rattle.life_seen.specs.Named.{names_of}
use Rattle.life_seen.specs.Seen.{object_seen, seen}
use Rattle.life_seen.proofs.Calls.{shows_resize}
use Rattle.life_seen.proofs.References.{found_seen, later_same, later_then}
use Rattle.life_seen.proofs.Resizing.{shape_seen}
use Rattle.life_values.specs.Cleared.{cleared_words, emptied_slots, CanClear}
use Rattle.life_values.specs.Emptied.{emptied_each}
use Rattle.life_values.specs.Ended.{ended_number}
use Rattle.life_values.specs.Layouts.{owners_at, width_at, AreLaid, AreOwners}
use Rattle.life_values.specs.Popped.{CanGive, IsGiving}
use Rattle.life_values.specs.declared.layout.Layout.{Layout}
use Rattle.life_values.proofs.AlikeKinds.{alike_kinds}
use Rattle.life_values.proofs.Beginning.{width_of_type}
use Rattle.life_values.proofs.EmptiedThen.{emptied_births, emptied_clock, still_giving, still_like}
use Rattle.life_values.proofs.Flat.{layouts_own}
use Rattle.life_values.proofs.Popping.{ok_shape, slot_can, spot_of}
use Rattle.life_values.proofs.Renewed.{like_then}
use Rattle.life_values.proofs.Zeroing.{IsLike}
use Rattle.life_values.proofs.SeenAs.{seen_as, IsSeenAs}

pub same_length : (a b : Shape) → ◌≡◌ {A = Result Shape Dead} (Ok a) (Ok b) → a.length ≡ b.length
same_length a b e = ap (λ (s : Shape). s.length) (same e)
  where
    same : ◌≡◌ {A = Result Shape Dead} (Ok a) (Ok b) → a ≡ b
    same h = cc

module _ (types : Types) (layouts : List Layout) (depth : ℕ) (r : ObjRef) (c : Content) (rows : Rows) (can : CanClear (kinds_of types) (forest_kinds types) depth r c rows) where
  now : IsSeenAs (kinds_of types) c rows r can.giving.object
  now = seen_as (kinds_of types) c rows r can.giving.object can.giving.housed can.giving.placed can.giving.there

  pub not_dead : (dead : Dead) → asked_of (object_of c rows r) shape_of ≡ Err dead → ⊥
  not_dead dead e = clash (sym (ap (λ (y : Option Object). asked_of y shape_of) now.found) ∙ e)
    where
      clash : asked_of (Some now.object) shape_of ≡ Err dead → ⊥
      clash h = cc

  module _ (shape : Shape) (asked : asked_of (object_of c rows r) shape_of ≡ Ok shape) (laid : AreLaid types layouts) (owners : List ℕ) (own : owners ≡ owners_at layouts shape.ty) (width : ℕ) (wide : width ≡ width_at layouts shape.ty) where
    shape_is : shape_of can.giving.object ≡ shape
    shape_is = ap shape_of (sym now.same) ∙ shape_seen (kinds_of types) (names_of c rows) now.object ∙ ok_shape now.object now.found asked

    ty_is : can.giving.object.ty ≡ shape.ty
    ty_is = ap (λ (s : Shape). s.ty) shape_is

    size_is : length can.giving.object.slots ≡ shape.length
    size_is = ap (λ (s : Shape). s.length) shape_is

    width_is : can.giving.object.width ≡ width
    width_is = can.width ∙ ap (λ ty. (forest_kinds types).width ty) ty_is ∙ sym (wide ∙ width_of_type types layouts laid shape.ty)

    -- how far the store has come
    pub record Progress (d : Content) (new : Rows) (i : ℕ) : Type 0 where
      pub giving : IsGiving (kinds_of types) (forest_kinds types) depth r d new
      pub like : IsLike giving.object can.giving.object
      pub is : emptied_slots (ended_number (forest_kinds types) depth) owners r.birth i (shape.length - i) (seen (kinds_of types) d new)
          ≡ emptied_slots (ended_number (forest_kinds types) depth) owners r.birth 0 shape.length (seen (kinds_of types) c rows)
      pub later : Later c d rows new
      pub births : d.births ≡ c.births
      pub clock : d.clock ≡ c.clock

    pub progress_begin : Progress c rows 0
    progress_begin = record {
      giving = can.giving;
      like = record { ty = refl; width = refl; capacity = refl; count = refl };
      is = let z : shape.length - 0 ≡ shape.length = omega arith in ap (λ k. emptied_slots (ended_number (forest_kinds types) depth) owners r.birth 0 k (seen (kinds_of types) c rows)) z;
      later = later_same c c rows (omega arith);
      births = refl;
      clock = refl;
    }

    module _ (d : Content) (new : Rows) (i : ℕ) (p : Progress d new i) where
      are : AreOwners (kinds_of types p.giving.object.ty) owners
      are = subst (λ ty. AreOwners (kinds_of types ty) owners) (sym (p.like.ty ∙ ty_is)) (subst (AreOwners (kinds_of types shape.ty)) (sym own) (layouts_own types layouts laid shape.ty))

      module _ (lt : i < shape.length) where
        pub give_can : CanGive (kinds_of types) (forest_kinds types) depth r i width owners d new
        give_can = record {
          giving = p.giving;
          slot = let k = p.like.count in let l = size_is in omega (arith, k, l, lt);
          width = p.like.width ∙ width_is;
          own = are.sound;
        }

        module _ (small : width < 2 ^ 64) (e : Content) (after : Rows) (shows : Shows (kinds_of types) e after (emptied_each (ended_number (forest_kinds types) depth) r.birth i 0 owners (seen (kinds_of types) d new))) (later : Later d e new after) where
          pub progress_next : Progress e after (i + 1)
          unfolding give_can
          progress_next = record {
            giving = still_giving (kinds_of types) (forest_kinds types) (alike_kinds types) depth (spot_of r i) owners d new (slot_can (kinds_of types) (forest_kinds types) depth r i width owners d new give_can small) e after shows later;
            like = like_then (still_like (kinds_of types) (forest_kinds types) (alike_kinds types) depth (spot_of r i) owners d new (slot_can (kinds_of types) (forest_kinds types) depth r i width owners d new give_can small) e after shows later) p.like;
            is =
                let z : shape.length - i ≡ suc (shape.length - (i + 1)) = omega (arith, lt) in
                ap (emptied_slots (ended_number (forest_kinds types) depth) owners r.birth (i + 1) (shape.length - (i + 1))) shows.is
                ∙ ap (λ k. emptied_slots (ended_number (forest_kinds types) depth) owners r.birth i k (seen (kinds_of types) d new)) (sym z)
                ∙ p.is;
            later = later_then c d e rows new after p.later later;
            births = ap (λ (x : Content). x.births) shows.is ∙ emptied_births (forest_kinds types) depth r.birth i 0 owners (seen (kinds_of types) d new) ∙ p.births;
            clock = ap (λ (x : Content). x.clock) shows.is ∙ emptied_clock (forest_kinds types) depth r.birth i 0 owners (seen (kinds_of types) d new) ∙ p.clock;
          }

      -- ---- the slots go

      now_there : IsSeenAs (kinds_of types) d new r p.giving.object
      now_there = seen_as (kinds_of types) d new r p.giving.object p.giving.housed p.giving.placed p.giving.there

      pub can_cut : IfSome (object_of d new r) (CanResize 0 0)
      can_cut = subst (λ x. IfSome x (CanResize 0 0)) (sym now_there.found) (record { fits = omega arith; to = omega arith; from = omega arith })

      pub can_count : CanCount c → CanCount d
      can_count count = record {
        births = let e = p.births in let b = count.births in omega (arith, e, b);
        clock = let e = p.clock in let b = count.clock in omega (arith, e, b);
      }

      pub still_there : object_of d new r ≡ None → ⊥
      still_there none = none-some now_there.object (sym none ∙ now_there.found)

      module _ (e : Content) (after : Rows) (cut : IfSome (object_of d new r) (λ o. e ≡ with_resize r.birth 0 0 o d)) (same : after ≡ new) where
        cut_is : e ≡ with_resize r.birth 0 0 now_there.object d
        cut_is = subst (λ x. IfSome x (λ o. e ≡ with_resize r.birth 0 0 o d)) now_there.found cut

        shows_cut : Shows (kinds_of types) e after (with_resize r.birth 0 0 (object_seen (kinds_of types) (names_of d new) now_there.object) (seen (kinds_of types) d new))
        shows_cut = shows_resize (kinds_of types) d new p.giving.housed e after r 0 0 now_there.object now_there.found cut_is same

        pub clear_shows : shape.length ≤ i → (o : Object) → at (seen (kinds_of types) c rows).objects r.birth ≡ Some o
            → Shows (kinds_of types) e after (cleared_words (ended_number (forest_kinds types) depth) (owners_at layouts o.ty) r.birth (length o.slots) (seen (kinds_of types) c rows))
        clear_shows all o at_r =
            let is_o : can.giving.object ≡ o = same_Some _ _ (sym can.giving.there ∙ at_r) in
            let size : shape.length ≡ length o.slots = sym size_is ∙ ap (λ (x : Object). length x.slots) is_o in
            let words : owners ≡ owners_at layouts o.ty = own ∙ ap (owners_at layouts) (sym ty_is ∙ ap (λ (x : Object). x.ty) is_o) in
            let none : shape.length - i ≡ 0 = omega (arith, all) in
            let done : seen (kinds_of types) d new ≡ emptied_slots (ended_number (forest_kinds types) depth) owners r.birth 0 shape.length (seen (kinds_of types) c rows) =
            ap (λ k. emptied_slots (ended_number (forest_kinds types) depth) owners r.birth i k (seen (kinds_of types) d new)) (sym none) ∙ p.is in
            record {
              housed = shows_cut.housed;
              is =
                  shows_cut.is
                  ∙ ap (λ (x : Option Object). resized_if x r.birth 0 0 (seen (kinds_of types) d new)) (sym (found_seen (kinds_of types) d new p.giving.housed r now_there.object now_there.found))
                  ∙ ap (λ (x : Content). resized_if (at x.objects r.birth) r.birth 0 0 x) done
                  ∙ (λ j. cleared_words (ended_number (forest_kinds types) depth) (words j) r.birth (size j) (seen (kinds_of types) c rows));
            }

        pub clear_later : Later c e rows after
        clear_later =
            later_then c d e rows new after p.later
            (record {
              births = let b = ap (λ (x : Content). x.births) cut_is in omega (arith, b);
              row = λ k q lt t. ap (λ (x : Rows). at x k) (sym same) ∙ t;
            })
