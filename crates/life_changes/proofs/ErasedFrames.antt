-- What becomes of a frame where an element of a vector is erased, and then a location is given the iterator behind it.
use Rattle.std.proofs.Common.{◌≡◌, ℕ, ◌+◌, ◌*◌, ◌<◌, ◌^◌, List, [], length, Some, Ok, Err, sym, ap, subst, ◌∙◌, arith}
use Rattle.std.specs.Prelude.{ℤ}
use Rattle.life_types.specs.Types.{Types}
use Rattle.life_types.specs.declared.ty.TyId.{TyId}
use Rattle.life_core.specs.Function.{Function}
use Rattle.life_core.specs.Operands.{Location}
use Rattle.life_store.specs.Cells.{at}
use Rattle.life_store.specs.Content.{Object, Content}
use Rattle.life_store.specs.Doing.{pointer_to}
use Rattle.life_store.specs.Edits.{erased, size_of}
use Rattle.life_store.specs.Effects.{Effect, put_content}
use Rattle.life_store.specs.Parts.{Parts, Vector, parts_at}
use Rattle.life_store.specs.Places.{pointed}
use Rattle.life_store.specs.References.{Rows}
use Rattle.life_store.specs.State.{Pointer as Meant, To}
use Rattle.life_store.specs.declared.object.ObjRef.{ObjRef}
use Rattle.life_forest.specs.FrameTypes.{Stands}
use Rattle.life_forest.specs.Frames.{OnNext}
use Rattle.life_forest.specs.Kinds.{kinds_of as forest_kinds}
use Rattle.life_seen.specs.Housed.{IsRef, Later, Shows}
use Rattle.life_seen.specs.Kinds.{kinds_of}
use Rattle.life_seen.specs.Rowed.{AreRowed}
use Rattle.life_seen.proofs.References.{later_then, ref_later}
use Rattle.life_values.specs.Ended.{ended_number}
use Rattle.life_values.specs.Erased.{erased_words, CanErase}
use Rattle.life_values.specs.Layouts.{leaves_at, owners_at, width_at as layout_width, AreLaid}
use Rattle.life_values.specs.declared.layout.Layout.{Layout}
use Rattle.life_pointers.specs.declared.owned.Spot.{Spot}
use Rattle.life_pointers.specs.declared.stop.Stop.{Stop}
use Rattle.life_cells.specs.Cells.{state_in, state_of}
use Rattle.life_cells.specs.Fits.{meant, IsFit, Keeps}
use Rattle.life_cells.specs.Steps.{Comes}
use Rattle.life_cells.specs.Typed.{HoldsPointer}
use Rattle.life_cells.specs.declared.cell.Cell.{Cell}
use Rattle.life_cells.proofs.FitLemmas.{later_kept}
use Rattle.life_changes.specs.Bounded.{Grows, IsBounded}
use Rattle.life_changes.specs.Erasing.{erased_into}
use Rattle.life_changes.specs.Owners.{BufferAt, HasBuffer}
use Rattle.life_changes.specs.Steps.{Goes}
use Rattle.life_changes.specs.declared.failure.Failure.TheVariants as failure
use Rattle.life_changes.proofs.Erased.{erase_meant, erased_behind, few_erased, stands_erased}
use Rattle.life_changes.proofs.Frames.{fits_behind, in_hand, stands_at, IsBehind}
use Rattle.life_changes.proofs.Owned.{vector_parts, OwnsParts}
use Rattle.life_changes.proofs.Standing.{holds_still, pointed_bounded}
use Rattle.life_changes.proofs.Vectors as vectors

module _ (types : Types) (layouts : List Layout) (laid : AreLaid types layouts) (f : Function) (limit depth : ℕ) (ty : TyId) (spot : Spot) (b : ObjRef) (c : Content) (rows : Rows) (cells : List Cell) (now : BufferAt types f limit depth ty spot b c rows cells)
    (id : TyId) (is : parts_at types ty ≡ Vector id (parts_at types id)) (i : ℕ) (lt : i < size_of (meant types c rows) b.birth) where
  abbrev m : Content
  m = meant types c rows

  abbrev hand : ℕ → ℕ
  hand = in_hand types f limit depth ty spot c rows cells now.owner

  abbrev element : Parts
  element = parts_at types id

  abbrev own : HasBuffer types limit depth (in_hand types f limit depth ty spot c rows cells now.owner) ty spot b c rows
  own = record { stands = stands_at types f limit depth ty spot c rows cells now.owner; owned = now.owned; referred = now.referred }

  abbrev owns : OwnsParts types ty id (parts_at types id)
  owns = vector_parts types now.owner.served.ordered ty id element is

  inside : i < length (vectors.ob types limit depth hand ty spot b c rows own id element owns).slots
  inside = let e = vectors.size_is types limit depth hand ty spot b c rows own id element owns in omega (arith, e, lt)

  pub can_erase : CanErase (kinds_of types) (forest_kinds types) depth b i c rows
  can_erase = vectors.can_erase types limit depth hand ty spot b c rows own id element owns i inside

  pub few_births : (o : Object) → at (meant types c rows).objects b.birth ≡ Some o → c.births + length o.slots * length (leaves_at layouts o.ty) < 2 ^ 63
  few_births = few_erased types layouts laid limit depth hand ty spot b c rows own id element owns

  -- behind the element
  module _ (d : Content) (new : Rows) (erases : (o : Object) → at (meant types c rows).objects b.birth ≡ Some o
      → Shows (kinds_of types) d new (erased_words (ended_number (forest_kinds types) depth) (leaves_at layouts o.ty) (layout_width layouts o.ty) (owners_at layouts o.ty) b.birth i (length o.slots) (meant types c rows)))
      (rowed : AreRowed (kinds_of types) d new) (later : Later c d rows new) where
    abbrev n : Content
    n = meant types d new

    shows : Shows (kinds_of types) d new (erased (parts_at types id) b.birth i (meant types c rows))
    shows =
        let shown = erases (vectors.ob types limit depth hand ty spot b c rows own id element owns) (vectors.there types limit depth hand ty spot b c rows own id element owns) in
        record { housed = shown.housed; is = shown.is ∙ erase_meant types layouts laid limit depth hand ty spot b c rows own id element owns i inside }

    behind : IsBehind limit (meant types c rows) (meant types d new)
    behind = subst (IsBehind limit m) (sym shows.is) (erased_behind types limit depth hand ty spot b c rows own id element owns i inside)

    grows : Grows c d
    grows = let g = behind.grows in record { births = g.births; clock = g.clock }

    stands : Stands types f now.owner.ready.rest (state_in (meant types d new) cells)
    stands = subst (λ (x : Content). Stands types f now.owner.ready.rest (state_in x cells)) (sym shows.is) (stands_erased types f limit depth ty spot c rows cells now.owner b own id is i lt)

    pub still_fits : IsFit types d new cells
    still_fits = fits_behind types c d rows new cells now.owner.ready.early now.owner.ready.fits.held shows.housed rowed later grows

    pub still_holds : (into : Location) → HoldsPointer types f into (state_in (meant types c rows) cells) → HoldsPointer types f into (state_in (meant types d new) cells)
    still_holds into holds = holds_still types f now.owner.ready.rest into (state_in m cells) (meant types d new) now.owner.ready.stands stands holds

    pub still_referred : IsRef d new b
    still_referred = ref_later c d rows new b later now.referred

    pub early_behind : d.clock + 1 < 2 ^ 64
    early_behind = let e = now.owner.ready.early.clock in let g = grows.clock in omega (arith, e, g)

    -- .. and behind the location
    module _ (into : Location) (pointer : Meant) (points : pointer ≡ To (record { object = b.birth; index = i; word = 0; count = 1; moment = d.clock })) (e : Content) (after : Rows) (others : List Cell) where
      as_erased : (output : List ℕ) (input : List ℤ) → erased_into types f element b.birth i into (state_of (meant types c rows) cells output input) ≡ pointed types f into pointer (state_of (meant types d new) cells output input)
      as_erased output input =
          (λ j. pointed types f into (pointer_to (sym shows.is j) b.birth i 0) (put_content (sym shows.is j) (state_of m cells output input)))
          ∙ ap (λ (p : Meant). pointed types f into p (state_of n cells output input)) (sym points)

      pub erase_goes : Comes {A = Unit {0}} (pointed types f into pointer) (meant types d new) cells (meant types e after) others (Ok tt) → Goes {A = Unit {0}} (erased_into types f (parts_at types id) b.birth i into) (meant types c rows) cells (meant types e after) others (Ok tt)
      erase_goes comes = λ output input. as_erased output input ∙ comes output input

      pub erase_stops : (stop : Stop) (x : Content) (cs : List Cell) → Comes {A = Unit {0}} (pointed types f into pointer) (meant types d new) cells x cs (Err stop) → Goes {A = Unit {0}} (erased_into types f (parts_at types id) b.birth i into) (meant types c rows) cells x cs (Err (failure.Stopped stop))
      erase_stops stop x cs comes = λ output input. as_erased output input ∙ comes output input

      pub erase_bounded : Comes {A = Unit {0}} (pointed types f into pointer) (meant types d new) cells (meant types e after) others (Ok tt) → IsBounded limit (meant types e after)
      erase_bounded comes = subst (λ (x : Effect). OnNext x (λ st. IsBounded limit st.world.content)) (comes [] []) (pointed_bounded types f now.owner.ready.rest limit (state_in n cells) stands behind.bounded into pointer)

      pub erase_later : Keeps d e new after → Later c e rows after
      erase_later keeps = later_then c d e rows new after later (later_kept d e new after keeps)

      pub erase_grows : Keeps d e new after → Grows c e
      erase_grows keeps = record {
        births = let g = grows.births in let k = keeps.births in omega (arith, g, k);
        clock = let g = grows.clock in let k = keeps.clock in omega (arith, g, k);
      }
