-- A value whose owners have got their copies has come as the meaning copies it.
use Rattle.std.proofs.Common.{◌≡◌, ℕ, ◌+◌, ◌<◌, List, length, Some, Ok, Err, sym, ap, ◌∙◌, arith}
use Rattle.std.specs.Prelude.{slice_get}
use Rattle.std.specs.declared.alloc.Global.{Global}
use Rattle.std.specs.declared.vec.Vec.{Vec}
use Rattle.life_types.specs.Trees.{IsOrdered}
use Rattle.life_types.specs.Types.{Types}
use Rattle.life_types.specs.declared.ty.TyId.{TyId}
use Rattle.life_store.specs.Cells.{at}
use Rattle.life_store.specs.Content.{Object, Content}
use Rattle.life_store.specs.Effects.{Setting}
use Rattle.life_store.specs.Kinds.{kind_in}
use Rattle.life_store.specs.Parts.{Parts, parts_at, width}
use Rattle.life_store.specs.References.{Rows}
use Rattle.life_store.specs.declared.object.ObjRef.{ObjRef}
use Rattle.life_forest.specs.Kinds.{kinds_of as forest_kinds}
use Rattle.life_forest.proofs.Below.{lives}
use Rattle.life_seen.specs.Housed.{Shows, Later}
use Rattle.life_seen.specs.Kinds.{kinds_of}
use Rattle.life_seen.specs.Seen.{seen}
use Rattle.life_values.specs.Copied.{copied_number, ComesCopied}
use Rattle.life_values.specs.Ended.{ended_number}
use Rattle.life_values.specs.Layouts.{flat, owner_words, owners_at, AreLaid}
use Rattle.life_values.specs.Layouts.{width_at as layout_width}
use Rattle.life_values.specs.Moved.{place}
use Rattle.life_values.specs.declared.copying.CopyFault.{CopyFault}
use Rattle.life_values.specs.declared.copying.CopyFault.TheVariants as copy_fault
use Rattle.life_values.specs.declared.layout.Layout.{Layout}
use Rattle.life_values.specs.declared.spot.Spot.{Spot}
use Rattle.life_values.proofs.Beginning.{width_of_type}
use Rattle.life_values.proofs.Filling.{still_placed}
use Rattle.life_values.proofs.Flat.{owner_words_own}
use Rattle.life_values.proofs.OneOwner.{owners_by_parts}
use Rattle.life_moves.specs.CopiedTo.{all_given, copied_over, copied_then, overwritten, AreMade, CanCopyTo, CanGive, ComeCopied, IsOver}
use Rattle.life_moves.proofs.CopiedInStores.{then_meant}

module _ (types : Types) (ordered : IsOrdered types) (layouts : List Layout) (laid : AreLaid types layouts) (limit depth : ℕ) (ty : TyId) (from to : Spot) (c : Content) (rows : Rows) (can : CanCopyTo types limit depth ty from to c rows) where
  abbrev m : Content
  m = seen (kinds_of types) c rows

  abbrev p : Parts
  p = parts_at types ty

  abbrev us : List ℕ
  us = owners_at layouts ty

  -- what comes between
  abbrev pub go : Content → Content
  go = overwritten (ended_number (forest_kinds types) depth) (place from) (place to) (layout_width layouts ty) (owners_at layouts ty)

  value_meant : (s : Setting) → copied_then (copied_number s (owners_at layouts) depth) (place from) (place to) go us m ≡ copied_over s p (place from) (place to) m
  value_meant s =
      (λ j. copied_then (copied_number s (owners_at layouts) depth) (place from) (place to)
      (overwritten (ended_number (forest_kinds types) depth) (place from) (place to) (width_of_type types layouts laid ty j) (owners_by_parts types layouts laid ty j)) (owners_by_parts types layouts laid ty j) m)
      ∙ then_meant types ordered can.value.hand m can.value.store layouts laid depth ty can.value.has_copy can.value_deep from.object.birth from.slot from.word can.value.source can.value.there can.value.within can.value.slot
      to.object.birth to.slot to.word can.target can.target_there can.target_within can.target_slot can.target_deep s

  pub value_fails : (why : CopyFault) (n : Content) → ComeCopied layouts limit depth (owners_at layouts ty) (place from) (seen (kinds_of types) c rows) (Err why) n
      → (d : Content) (new : Rows) (s : Setting) → s.given.cells ≡ limit → ComesCopied {A = Unit {0}} (kinds_of types) (copied_over s (parts_at types ty) (place from) (place to) (seen (kinds_of types) c rows)) (Err why) d new
  value_fails copy_fault.Moved n come d new s cells = sym (value_meant s) ∙ come s cells (place to) go
  value_fails copy_fault.Cells n come d new s cells = sym (value_meant s) ∙ come s cells (place to) go
  value_fails copy_fault.NoMemory n come d new s cells = tt

  -- all copies are there
  module _ (copies : Vec ObjRef Global) (d : Content) (new : Rows) (come : ComeCopied layouts limit depth (owners_at layouts ty) (place from) (seen (kinds_of types) c rows) (Ok copies) (seen (kinds_of types) d new))
      (made : AreMade types limit copies.items (seen (kinds_of types) c rows) d new) (later : Later c d rows new) where
    still : (r : ObjRef) (x : Object) → at rows r.birth ≡ Some r.row → at m.objects r.birth ≡ Some x → at new r.birth ≡ Some r.row
    still r x placed there = still_placed (kinds_of types) c d rows new made.housed later r.birth r.row x (can.value.store.forest.births r.birth x there) placed (made.kept r.birth x there)

    pub over_can : CanCopyTo types limit depth ty from to d new
    over_can = record {
      value = record {
        housed = made.housed;
        placed = still from.object can.value.source can.value.placed can.value.there;
        hand = made.hand;
        store = made.store;
        room = made.room;
        has_copy = can.value.has_copy;
        source = can.value.source;
        there = made.kept from.object.birth can.value.source can.value.there;
        slot = can.value.slot;
        within = can.value.within;
        deep = can.value.deep;
        small = can.value.small;
      };
      value_deep = can.value_deep;
      to_placed = still to.object can.target can.to_placed can.target_there;
      target = can.target;
      target_there = made.kept to.object.birth can.target can.target_there;
      target_slot = can.target_slot;
      target_within = can.target_within;
      target_deep = can.target_deep;
      to_small = can.to_small;
      apart = can.apart;
    }

    -- what the place had has ended
    module _ (e : Content) (last : Rows) (shows : Shows (kinds_of types) e last (go (seen (kinds_of types) d new))) (over : IsOver types to.object.birth (seen (kinds_of types) d new) (seen (kinds_of types) e last)) (more : Later d e new last)
        (owners : List ℕ) (owners_of : owners ≡ owners_at layouts ty) (count : length copies.items ≡ length (owners_at layouts ty)) where
      target_e : (x : Object) × (at (seen (kinds_of types) e last).objects to.object.birth ≡ Some x) × (x.ty ≡ can.target.ty) × (x.width ≡ can.target.width) × (length x.slots ≡ length can.target.slots)
      unfolding over_can
      target_e = over.target can.target over_can.target_there

      owners_are : owners ≡ owner_words (flat 0 p)
      owners_are = owners_of ∙ owners_by_parts types layouts laid ty

      pub give_can : CanGive (kinds_of types) to owners copies.items e last
      unfolding over_can
      give_can = record {
        words = record {
          housed = shows.housed;
          placed = still_placed (kinds_of types) d e new last shows.housed more to.object.birth to.object.row target_e.0 (made.store.forest.births to.object.birth can.target over_can.target_there) over_can.to_placed target_e.1;
          object = target_e.0;
          there = target_e.1;
          slot = let a = target_e.4 in let b = can.target_slot in omega (arith, a, b);
          own = λ j u at_j.
              let r = owner_words_own p 0 j u (ap (λ xs. slice_get xs j) (sym owners_are) ∙ at_j) in
              let z : u ≡ r.word = (let y = r.is in omega (arith, y)) in
              let lt : u < width p = (let y = r.within in omega (arith, z, y)) in
              let f = can.target_within.fits in
              let g = (can.value.store.fit to.object.birth can.target can.target_there).width in
              let h = target_e.3 in
              (ap (λ t. kinds_of types t (to.word + u)) target_e.2 ∙ can.target_within.words u lt ∙ ap (kind_in p) z ∙ r.owner, omega (arith, f, g, h, lt));
          small = λ j u at_j.
              let r = owner_words_own p 0 j u (ap (λ xs. slice_get xs j) (sym owners_are) ∙ at_j) in
              let y = r.is in
              let l = r.within in
              let s = can.to_small in
              omega (arith, y, l, s);
        };
        count = count ∙ ap length (sym owners_of);
        live = λ j r at_j.
            let was = made.each j r at_j in
            let h = made.store.forest.held r.birth in
            let k = was.1 in
            let x = lives (forest_kinds types) (seen (kinds_of types) d new) r.birth (omega (arith, h, k)) in
            let y = over.held made.hand made.store r.birth was.1 in
            still_placed (kinds_of types) d e new last shows.housed more r.birth r.row y.0 (made.store.forest.births r.birth x.0 x.1) was.0 y.1;
      }

      pub value_comes : (f : Content) (after : Rows) → Shows (kinds_of types) f after (all_given (place to) owners copies.items (seen (kinds_of types) e last))
          → (s : Setting) → s.given.cells ≡ limit → ComesCopied {A = Unit {0}} (kinds_of types) (copied_over s (parts_at types ty) (place from) (place to) (seen (kinds_of types) c rows)) (Ok tt) f after
      value_comes f after given s cells = (
        all_given (place to) us copies.items (go (seen (kinds_of types) d new)),
        sym (value_meant s) ∙ come s cells (place to) go,
        record { housed = given.housed; is = given.is ∙ (λ j. all_given (place to) (owners_of j) copies.items (shows.is j)) },
      )
