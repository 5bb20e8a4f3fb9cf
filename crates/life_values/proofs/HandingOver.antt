-- A store goes the way of the meaning where the elements of a buffer go into another one, and the first one ends.
use Rattle.std.proofs.Common.{◌≡◌, ℕ, ◌+◌, ◌*◌, ◌<◌, ◌^◌, List, length, Some, None, sym, ap, subst, ◌∙◌, arith}
use Rattle.std.proofs.lemmas.Option.{none-some}
use Rattle.life_store.specs.Cells.{at, unset}
use Rattle.life_store.specs.Content.{Object, Content, without}
use Rattle.life_store.specs.Parts.{Parts, width}
use Rattle.life_store.specs.References.{Rows, object_of}
use Rattle.life_store.specs.declared.object.ObjRef.{ObjRef}
use Rattle.life_forest.specs.Kinds.{Kinds}
use Rattle.life_forest.specs.Values.{AllWide}
use Rattle.life_seen.specs.Housed.{Shows, Later}
use Rattle.life_seen.specs.Kinds.{Kinds as Seen}
use Rattle.life_seen.specs.Owned.{IsUnowned}
use Rattle.life_seen.specs.Seen.{seen}
use Rattle.life_seen.proofs.Calls.{later_end, shows_end}
use Rattle.life_seen.proofs.References.{later_then}
use Rattle.life_values.specs.Ended.{AreAlike}
use Rattle.life_values.specs.Moved.{slots_moved, CanMoveSlots}
use Rattle.life_values.specs.Regrown.{handed_over, slot_at, slots_taken, CanHandOver}
use Rattle.life_values.specs.declared.layout.Leaf.{Leaf}
use Rattle.life_values.proofs.Filling.{still_placed}
use Rattle.life_values.proofs.Kept.{slots_kept, IsKept}
use Rattle.life_values.proofs.Owners.{unowned_in_hand}
use Rattle.life_values.proofs.SeenAs.{seen_as, IsSeenAs}
use Rattle.life_values.proofs.SlotsTaken.{taken_beside}
use Rattle.life_values.proofs.SlotsTaking.{are_owned}
use Rattle.life_values.proofs.TakingSlots.{slots_still, IsTaken}
use Rattle.life_values.proofs.Unowned.{slots_unowned}

module _ (kinds : Seen) (kind : Kinds) (alike : AreAlike kinds kind) (element : Parts) (from to : ObjRef) (w : ℕ) (leaves : List Leaf) (owners : List ℕ) (onto count : ℕ) (c : Content) (rows : Rows)
    (can : CanHandOver kinds kind element from to w leaves owners onto count c rows) (small : w < 2 ^ 64) where
  abbrev m : Content
  m = seen kinds c rows

  abbrev o : Object
  o = can.take.object

  abbrev took : Content
  took = slots_taken leaves from.birth 0 count m

  from_born : from.birth < m.births
  from_born = can.take.forest.births from.birth o can.take.there

  to_born : to.birth < m.births
  to_born = can.take.forest.births to.birth can.target can.target_there

  taken : IsTaken kind from.birth can.take.hand o (count * length leaves) m took
  taken =
      slots_still kind from.birth can.take.hand leaves count 0 m o can.take.there can.take.forest can.take.wide (let e = can.all in omega (arith, e))
      (are_owned kinds kind alike from leaves 0 count c rows can.take)

  long : AllWide (width element) o.slots
  long = subst (λ n. AllWide n o.slots) (can.source_width ∙ can.parts_width) can.take.wide

  target_then : at took.objects to.birth ≡ Some can.target
  target_then =
      (λ j. at (slots_taken (can.are_leaves j) from.birth 0 (sym can.all j) m).objects to.birth)
      ∙ taken_beside element from.birth o m can.take.there long can.from_free from_born to.birth can.apart to_born can.to_free
      ∙ can.target_there

  module _ (d : Content) (new : Rows) (shows : Shows kinds d new (slots_taken leaves from.birth 0 count (seen kinds c rows))) (later : Later c d rows new) where
    from_d : at (seen kinds d new).objects from.birth ≡ Some taken.object
    from_d = ap (λ (x : Content). at x.objects from.birth) shows.is ∙ taken.found

    pub to_d : at (seen kinds d new).objects to.birth ≡ Some can.target
    to_d = ap (λ (x : Content). at x.objects to.birth) shows.is ∙ target_then

    from_placed : at new from.birth ≡ Some from.row
    from_placed = still_placed kinds c d rows new shows.housed later from.birth from.row taken.object from_born can.take.placed from_d

    kinds_are : (u : ℕ) → u < w → kinds taken.object.ty (0 + u) ≡ kinds can.target.ty (0 + u)
    kinds_are u lt = ap (λ ty. kinds ty (0 + u)) (taken.like.ty ∙ can.alike)

    pub move_can : CanMoveSlots kinds (record { object = from; slot = 0; word = 0 }) (record { object = to; slot = onto; word = 0 }) count w owners d new
    move_can =
        let n = taken.like.count in
        let e = taken.like.width in
        let a = can.all in
        let x = can.source_width in
        let y = can.target_width in
        record {
          housed = shows.housed;
          from_placed = from_placed;
          to_placed = still_placed kinds c d rows new shows.housed later to.birth to.row can.target to_born can.to_placed to_d;
          apart = λ same. absurd (can.apart same);
          source = taken.object;
          source_there = from_d;
          target = can.target;
          target_there = to_d;
          alike = kinds_are;
          source_width = omega (arith, e, x);
          target_width = omega (arith, y);
          source_long = taken.long;
          target_long = can.target_long;
          source_size = omega (arith, n, a);
          target_size = let r = can.room in omega (arith, r);
          own = λ j u here. let q = can.own j u here in (ap (λ ty. kinds ty (0 + u)) taken.like.ty ∙ q.0, q.1);
          from_small = omega (arith, small);
          to_small = omega (arith, small);
        }

    module _ (e : Content) (after : Rows) (moved : Shows kinds e after (slots_moved (slot_at from.birth 0) (slot_at to.birth onto) w owners count (seen kinds d new))) (same : after ≡ new) where
      from_e : IsKept from.birth taken.object (slots_moved (slot_at from.birth 0) (slot_at to.birth onto) w owners count (seen kinds d new))
      from_e = slots_kept count from.birth taken.object (seen kinds d new) from_d (slot_at from.birth 0) (slot_at to.birth onto) w owners

      now : IsSeenAs kinds e after from from_e.object
      now =
          seen_as kinds e after from from_e.object moved.housed (ap (λ (x : Rows). at x from.birth) same ∙ from_placed)
          (ap (λ (x : Content). at x.objects from.birth) moved.is ∙ from_e.there)

      unowned : IsUnowned kinds from.birth (seen kinds e after)
      unowned =
          subst (IsUnowned kinds from.birth) (sym moved.is)
          (slots_unowned kinds from.birth count (seen kinds d new) (slot_at from.birth 0) (slot_at to.birth onto) w owners taken.object can.target from_d to_d kinds_are
          (subst (IsUnowned kinds from.birth) (sym shows.is) (unowned_in_hand kinds kind alike can.take.hand took from.birth taken.still can.held)))

      pub from_lives : object_of e after from ≡ None → ⊥
      from_lives none = none-some now.object (sym none ∙ now.found)

      module _ (f : Content) (last : Rows) (ended : f ≡ without from.birth e) (gone : last ≡ unset after from.birth) where
        pub over_shows : Shows kinds f last (handed_over leaves w owners from.birth to.birth onto count (seen kinds c rows))
        over_shows =
            let s = shows_end kinds e after moved.housed f last from now.object now.found unowned ended gone in
            record { housed = s.housed; is = s.is ∙ ap (without from.birth) (moved.is ∙ ap (slots_moved (slot_at from.birth 0) (slot_at to.birth onto) w owners count) shows.is) }

        pub over_later : Later d e new after → Later c f rows last
        over_later then = later_then c e f rows after last (later_then c d e rows new after later then) (later_end e after f last from ended gone)
