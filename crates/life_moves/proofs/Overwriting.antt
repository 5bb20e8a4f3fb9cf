-- A store goes the way of the meaning where what a place has ends, and the words of another one come there.
use Rattle.std.proofs.Common.{◌≡◌, ⊎_elim, inl, inr, ℕ, ◌+◌, ◌<◌, List, length, Option, Some, refl, sym, ap, subst, ◌∙◌, arith}
use Rattle.std.proofs.lemmas.Option.{same_Some}
use Rattle.std.specs.Prelude.{slice_get}
use Rattle.life_types.specs.Trees.{IsOrdered}
use Rattle.life_types.specs.Types.{Types}
use Rattle.life_types.specs.declared.ty.TyId.{TyId}
use Rattle.life_store.specs.Cells.{at, at-set_same}
use Rattle.life_store.specs.Content.{Object, Content, with_object}
use Rattle.life_store.specs.Held.{with_words, wrote_if}
use Rattle.life_store.specs.Kinds.{kind_in}
use Rattle.life_store.specs.Parts.{Parts, parts_at, width}
use Rattle.life_store.specs.Places.{spot_words, wrote_spot}
use Rattle.life_store.specs.References.{Rows}
use Rattle.life_forest.specs.Kinds.{kinds_of as forest_kinds}
use Rattle.life_forest.specs.Typed.{IsStore}
use Rattle.life_forest.specs.Values.{AllWide}
use Rattle.life_forest.proofs.Above.{remains_written, Remains}
use Rattle.life_forest.proofs.Below.{lives}
use Rattle.life_seen.specs.Housed.{Shows, Later}
use Rattle.life_seen.specs.Kinds.{kinds_of}
use Rattle.life_seen.specs.Seen.{seen}
use Rattle.life_moves.specs.CopiedTo.{overwritten, CanCopyTo, IsOver}
use Rattle.life_values.specs.Emptied.{emptied_each, CanEmpty}
use Rattle.life_values.specs.Ended.{ended_number}
use Rattle.life_values.specs.Fresh.{AreWide}
use Rattle.life_values.specs.Layouts.{flat, owner_words, owners_at, AreLaid}
use Rattle.life_values.specs.Layouts.{width_at as layout_width}
use Rattle.life_values.specs.Moved.{place, AreUncut, CanCopyWords}
use Rattle.life_values.specs.Zeroed.{zeroed}
use Rattle.life_values.specs.declared.layout.Layout.{Layout}
use Rattle.life_values.specs.declared.spot.Spot.{Spot}
use Rattle.life_values.proofs.AlikeKinds.{alike_kinds}
use Rattle.life_values.proofs.Beginning.{width_of_type}
use Rattle.life_values.proofs.EmptiedThen.{still_forest}
use Rattle.life_moves.proofs.Uncut.{part_uncut}
use Rattle.life_moves.proofs.EndedSource.{after, after_is, source_then, zeroed_wide, IsSource}
use Rattle.life_values.proofs.Filling.{still_placed}
use Rattle.life_values.proofs.Flat.{owner_words_own}
use Rattle.life_moves.proofs.GivingOver.{sized_store}
use Rattle.life_values.proofs.Kept.{words_like}
use Rattle.life_values.proofs.OneOwner.{owners_by_parts}
use Rattle.life_values.proofs.Zeroing.{zeroed_like}

module _ (types : Types) (ordered : IsOrdered types) (layouts : List Layout) (laid : AreLaid types layouts) (limit depth : ℕ) (ty : TyId) (from to : Spot) (c : Content) (rows : Rows) (can : CanCopyTo types limit depth ty from to c rows)
    (owners : List ℕ) (owners_of : owners ≡ owners_at layouts ty) (w : ℕ) (width_of : w ≡ layout_width layouts ty) where
  abbrev m : Content
  m = seen (kinds_of types) c rows

  abbrev p : Parts
  p = parts_at types ty

  owners_are : owners ≡ owner_words (flat 0 p)
  owners_are = owners_of ∙ owners_by_parts types layouts laid ty

  width_is : w ≡ width p
  width_is = width_of ∙ width_of_type types layouts laid ty

  -- whatever is in the hand
  empty_with : (hand : ℕ → ℕ) → IsStore types hand m → CanEmpty (kinds_of types) (forest_kinds types) depth to owners c rows
  empty_with hand store = record {
    housed = can.value.housed;
    placed = can.to_placed;
    sized = sized_store types hand m store;
    hand = hand;
    forest = store.forest;
    object = can.target;
    there = can.target_there;
    slot = can.target_slot;
    own = λ j u at_j.
        let r = owner_words_own p 0 j u (ap (λ xs. slice_get xs j) (sym owners_are) ∙ at_j) in
        let z : u ≡ r.word = (let y = r.is in omega (arith, y)) in
        let lt : u < width p = (let y = r.within in omega (arith, z, y)) in
        can.target_within.words u lt ∙ ap (kind_in p) z ∙ r.owner;
    small = λ j u at_j.
        let r = owner_words_own p 0 j u (ap (λ xs. slice_get xs j) (sym owners_are) ∙ at_j) in
        let y = r.is in
        let l = r.within in
        let s = can.to_small in
        omega (arith, y, l, s);
    deep = can.target_deep;
  }

  pub empty_can : CanEmpty (kinds_of types) (forest_kinds types) depth to owners c rows
  empty_can = empty_with can.value.hand can.value.store

  abbrev bare : Object
  bare = zeroed to.slot to.word (owner_words (flat 0 (parts_at types ty))) can.target

  abbrev emptied : Content
  emptied = after types ordered can.value.hand m can.value.store ty from.object.birth from.slot from.word can.value.source can.value.there can.value.within to.object.birth to.slot to.word can.target can.target_there can.target_within can.target_slot depth can.target_deep

  source : IsSource types ordered can.value.hand m can.value.store ty from.object.birth from.slot from.word can.value.source can.value.there can.value.within to.object.birth to.slot to.word can.target can.target_there can.target_within can.target_slot depth can.target_deep emptied
  source = source_then types ordered can.value.hand m can.value.store ty from.object.birth from.slot from.word can.value.source can.value.there can.value.within to.object.birth to.slot to.word can.target can.target_there can.target_within can.target_slot depth can.target_deep

  module _ (d : Content) (new : Rows) (shows : Shows (kinds_of types) d new (emptied_each (ended_number (forest_kinds types) depth) to.object.birth to.slot to.word owners (seen (kinds_of types) c rows))) (later : Later c d rows new) where
    is_d : seen (kinds_of types) d new ≡ emptied
    is_d =
        shows.is
        ∙ ap (λ us. emptied_each (ended_number (forest_kinds types) depth) to.object.birth to.slot to.word us m) owners_are
        ∙ after_is types ordered can.value.hand m can.value.store ty from.object.birth from.slot from.word can.value.source can.value.there can.value.within to.object.birth to.slot to.word can.target can.target_there can.target_within can.target_slot depth can.target_deep

    pub target_d : at (seen (kinds_of types) d new).objects to.object.birth ≡ Some bare
    target_d = ap (λ (y : Content). at y.objects to.object.birth) is_d ∙ at-set_same _ to.object.birth to.object.birth bare refl

    source_d : at (seen (kinds_of types) d new).objects from.object.birth ≡ Some source.object
    source_d = ap (λ (y : Content). at y.objects from.object.birth) is_d ∙ source.found

    like : (bare.ty ≡ can.target.ty) × (bare.width ≡ can.target.width) × (length bare.slots ≡ length can.target.slots)
    like = let l = zeroed_like to.slot to.word (owner_words (flat 0 p)) can.target in (l.ty, l.width, l.count)

    pub words_can : CanCopyWords (kinds_of types) from to w d new
    words_can =
        let e = width_is in
        let l = like in
        record {
          housed = shows.housed;
          from_placed = still_placed (kinds_of types) c d rows new shows.housed later from.object.birth from.object.row source.object (can.value.housed.below from.object.birth from.object.row can.value.placed) can.value.placed source_d;
          to_placed = still_placed (kinds_of types) c d rows new shows.housed later to.object.birth to.object.row bare (can.value.housed.below to.object.birth to.object.row can.to_placed) can.to_placed target_d;
          apart = λ one slot. ⊎_elim (λ le. inl le) (λ le. inr (omega (arith, le, e))) (can.apart one slot);
          source = source.object;
          source_there = source_d;
          target = bare;
          target_there = target_d;
          alike = λ u lt.
              let k : u < width p = omega (arith, lt, e) in
              ap (λ t. kinds_of types t (from.word + u)) source.type ∙ can.value.within.words u k ∙ sym (can.target_within.words u k) ∙ ap (λ t. kinds_of types t (to.word + u)) (sym l.0);
          source_width = let f = can.value.within.fits in let x = (can.value.store.fit from.object.birth can.value.source can.value.there).width in let k = source.long in omega (arith, f, x, k, e);
          target_width = let f = can.target_within.fits in let x = (can.value.store.fit to.object.birth can.target can.target_there).width in let k = l.1 in omega (arith, f, x, k, e);
          source_long = source.wide;
          source_slot = let k = source.count in let s = can.value.slot in omega (arith, k, s);
          target_slot = let k = l.2 in let s = can.target_slot in omega (arith, k, s);
          from_small = let a = can.value.small in omega (arith, a, e);
          to_small = let a = can.to_small in omega (arith, a, e);
        }

    -- no pointer is cut in two there
    pub target_long : AllWide bare.width bare.slots
    target_long = zeroed_wide to.slot to.word (owner_words (flat 0 p)) can.target (can.value.store.fit to.object.birth can.target can.target_there).slots

    pub uncut : AreWide types → AreUncut (kinds_of types bare.ty) to.word w
    uncut wide =
        subst (λ t. AreUncut (kinds_of types t) to.word w) (sym like.0)
        (subst (AreUncut (kinds_of types can.target.ty) to.word) (sym width_is) (part_uncut types can.target.ty to.word ty can.target_within (wide ty)))

    module _ (e : Content) (last : Rows) (put : Shows (kinds_of types) e last (wrote_spot (place to) (spot_words (seen (kinds_of types) d new) (place from) w) (seen (kinds_of types) d new))) where
      pub over_shows : Shows (kinds_of types) e last (overwritten (ended_number (forest_kinds types) depth) (place from) (place to) (layout_width layouts ty) (owners_at layouts ty) (seen (kinds_of types) c rows))
      over_shows = record {
        housed = put.housed;
        is = put.is
            ∙ ap (λ (y : Content). wrote_spot (place to) (spot_words y (place from) w) y) shows.is
            ∙ (λ j. overwritten (ended_number (forest_kinds types) depth) (place from) (place to) (width_of j) (owners_of j) (seen (kinds_of types) c rows));
      }

      stays : (k : ℕ) (y : Object) → at (seen (kinds_of types) d new).objects k ≡ Some y → Remains (seen (kinds_of types) e last) k y
      stays k y at_k =
          subst (λ (z : Content). Remains z k y) (sym put.is) (remains_written (seen (kinds_of types) d new) to.object.birth to.slot to.word (spot_words (seen (kinds_of types) d new) (place from) w) k y at_k)

      abbrev raw : List ℕ
      raw = spot_words (seen (kinds_of types) d new) (place from) w

      written : seen (kinds_of types) e last ≡ with_object to.object.birth (with_words to.slot to.word raw bare) (seen (kinds_of types) d new)
      written = put.is ∙ ap (λ (x : Option Object). wrote_if x to.object.birth to.slot to.word raw (seen (kinds_of types) d new)) target_d

      pub over : IsOver types to.object.birth (seen (kinds_of types) c rows) (seen (kinds_of types) e last)
      unfolding empty_with
      over = record {
        target = λ o at_o.
            let l = words_like to.slot to.word raw bare in
            let k = like in
            let same : can.target ≡ o = same_Some can.target o (sym can.target_there ∙ at_o) in (
              with_words to.slot to.word raw bare,
              ap (λ (y : Content). at y.objects to.object.birth) written ∙ at-set_same (seen (kinds_of types) d new).objects to.object.birth to.object.birth (with_words to.slot to.word raw bare) refl,
              l.ty ∙ k.0 ∙ ap (λ (x : Object). x.ty) same,
              l.width ∙ k.1 ∙ ap (λ (x : Object). x.width) same,
              l.count ∙ k.2 ∙ ap (λ (x : Object). length x.slots) same,
            );
        held = λ hand store k more.
            let forest = still_forest (kinds_of types) (forest_kinds types) (alike_kinds types) depth to owners c rows (empty_with hand store) d new shows later in
            let h = forest.held k in
            let x = lives (forest_kinds types) (seen (kinds_of types) d new) k (omega (arith, h, more)) in
            let r = stays k x.0 x.1 in
            (r.object, r.there);
      }
