-- A store goes the way of the meaning where the words of values go to other places, one slot after the other.
use Rattle.std.proofs.Common.{◌≡◌, ◌≤◌, ◌<◌, ℕ, suc, ◌+◌, ◌-◌, List, Some, sym, ap, ◌∙◌, arith}
use Rattle.std.proofs.lemmas.Option.{same_Some}
use Rattle.life_store.specs.Cells.{at}
use Rattle.life_store.specs.Content.{Object, Content}
use Rattle.life_store.specs.Places.{spot_words, wrote_spot}
use Rattle.life_store.specs.References.{Rows}
use Rattle.life_seen.specs.Housed.{Shows, Later}
use Rattle.life_seen.specs.Kinds.{Kinds}
use Rattle.life_seen.specs.Seen.{seen}
use Rattle.life_seen.proofs.References.{later_same, later_then}
use Rattle.life_values.specs.Moved.{behind, disowned, moved_words, place, slots_moved, CanDisown, CanMove, CanMoveSlots}
use Rattle.life_values.specs.declared.spot.Spot.{Spot}
use Rattle.life_values.proofs.Kept.{moved_kept, wrote_kept, IsKept}

module _ (kinds : Kinds) where
  -- ---- one value

  module _ (from to : Spot) (w : ℕ) (owners : List ℕ) (c : Content) (rows : Rows) (can : CanMove kinds from to w owners c rows) (d : Content) (new : Rows)
      (shows : Shows kinds d new (wrote_spot (place to) (spot_words (seen kinds c rows) (place from) w) (seen kinds c rows))) (same : new ≡ rows) where
    source_kept : IsKept from.object.birth can.copy.source (wrote_spot (place to) (spot_words (seen kinds c rows) (place from) w) (seen kinds c rows))
    source_kept = wrote_kept from.object.birth can.copy.source (seen kinds c rows) can.copy.source_there (place to) (spot_words (seen kinds c rows) (place from) w)

    pub disown_can : CanDisown kinds from owners d new
    disown_can =
        let s = source_kept in
        record {
          housed = shows.housed;
          placed = ap (λ (z : Rows). at z from.object.birth) same ∙ can.copy.from_placed;
          object = s.object;
          there = ap (λ (z : Content). at z.objects from.object.birth) shows.is ∙ s.there;
          slot = let a = s.like.count in let b = can.copy.source_slot in omega (arith, a, b);
          own = λ j u here.
              let o = can.own j u here in
              let a = s.like.width in
              let b = can.copy.source_width in
              let l = o.1 in
              (ap (λ ty. kinds ty (from.word + u)) s.like.ty ∙ o.0, omega (arith, a, b, l));
          small = λ j u here. let l = (can.own j u here).1 in let b = can.copy.from_small in omega (arith, l, b);
        }

    pub both_show : (e : Content) (after : Rows) → Shows kinds e after (disowned (place from) owners (seen kinds d new)) → Shows kinds e after (moved_words (place from) (place to) w owners (seen kinds c rows))
    both_show e after done = record { housed = done.housed; is = done.is ∙ ap (disowned (place from) owners) shows.is }

  -- ---- slots

  -- the k-th of them
  abbrev pub slot_of : ℕ → Spot → Spot
  slot_of k spot = record { object = spot.object; slot = spot.slot + k; word = spot.word }

  module _ (from to : Spot) (count w : ℕ) (owners : List ℕ) where
    -- how far the store has come
    pub record Progress (c : Content) (rows : Rows) (d : Content) (new : Rows) (k : ℕ) : Type 0 where
      pub can : CanMoveSlots kinds from to count w owners d new
      pub is : slots_moved (behind k (place from)) (behind k (place to)) w owners (count - k) (seen kinds d new) ≡ slots_moved (place from) (place to) w owners count (seen kinds c rows)
      pub later : Later c d rows new
      pub type : (o : Object) → at (seen kinds c rows).objects to.object.birth ≡ Some o → can.target.ty ≡ o.ty

    pub progress_begin : (c : Content) (rows : Rows) → CanMoveSlots kinds from to count w owners c rows → Progress c rows c rows 0
    progress_begin c rows can = record {
      can = can;
      is =
          let z : count - 0 ≡ count = omega arith in
          let a : from.slot + 0 ≡ from.slot = omega arith in
          let b : to.slot + 0 ≡ to.slot = omega arith in
          (λ j. slots_moved (record { object = from.object.birth; index = a j; word = from.word }) (record { object = to.object.birth; index = b j; word = to.word }) w owners (z j) (seen kinds c rows));
      later = later_same c c rows (omega arith);
      type = λ o there. ap (λ (x : Object). x.ty) (same_Some can.target o (sym can.target_there ∙ there));
    }

    module _ (c : Content) (rows : Rows) (d : Content) (new : Rows) (k : ℕ) (p : Progress c rows d new k) where
      pub progress_end : count ≤ k → Shows kinds d new (slots_moved (place from) (place to) w owners count (seen kinds c rows))
      progress_end all = record {
        housed = p.can.housed;
        is =
            let z : 0 ≡ count - k = omega (arith, all) in
            ap (λ n. slots_moved (behind k (place from)) (behind k (place to)) w owners n (seen kinds d new)) z ∙ p.is;
      }

      module _ (lt : k < count) where
        pub slot_can : CanMove kinds (slot_of k from) (slot_of k to) w owners d new
        slot_can = record {
          copy = record {
            housed = p.can.housed;
            from_placed = p.can.from_placed;
            to_placed = p.can.to_placed;
            apart = λ one slot. let l = p.can.apart one in absurd (omega (arith, l, slot));
            source = p.can.source;
            source_there = p.can.source_there;
            target = p.can.target;
            target_there = p.can.target_there;
            alike = p.can.alike;
            source_width = p.can.source_width;
            target_width = p.can.target_width;
            source_long = p.can.source_long;
            source_slot = let s = p.can.source_size in omega (arith, s, lt);
            target_slot = let s = p.can.target_size in omega (arith, s, lt);
            from_small = p.can.from_small;
            to_small = p.can.to_small;
          };
          own = p.can.own;
        }

        module _ (e : Content) (after : Rows) (shows : Shows kinds e after (moved_words (place (slot_of k from)) (place (slot_of k to)) w owners (seen kinds d new))) (same : after ≡ new) (later : Later d e new after) where
          pub progress_next : Progress c rows e after (k + 1)
          progress_next = record {
            can =
                let s = moved_kept from.object.birth p.can.source (seen kinds d new) p.can.source_there (place (slot_of k from)) (place (slot_of k to)) w owners in
                let t = moved_kept to.object.birth p.can.target (seen kinds d new) p.can.target_there (place (slot_of k from)) (place (slot_of k to)) w owners in
                record {
                  housed = shows.housed;
                  from_placed = ap (λ (z : Rows). at z from.object.birth) same ∙ p.can.from_placed;
                  to_placed = ap (λ (z : Rows). at z to.object.birth) same ∙ p.can.to_placed;
                  apart = p.can.apart;
                  source = s.object;
                  source_there = ap (λ (z : Content). at z.objects from.object.birth) shows.is ∙ s.there;
                  target = t.object;
                  target_there = ap (λ (z : Content). at z.objects to.object.birth) shows.is ∙ t.there;
                  alike = λ u below. ap (λ ty. kinds ty (from.word + u)) s.like.ty ∙ p.can.alike u below ∙ ap (λ ty. kinds ty (to.word + u)) (sym t.like.ty);
                  source_width = let a = s.like.width in let b = p.can.source_width in omega (arith, a, b);
                  target_width = let a = t.like.width in let b = p.can.target_width in omega (arith, a, b);
                  source_long = s.long p.can.source_long;
                  target_long = t.long p.can.target_long;
                  source_size = let a = s.like.count in let b = p.can.source_size in omega (arith, a, b);
                  target_size = let a = t.like.count in let b = p.can.target_size in omega (arith, a, b);
                  own = λ j u here. let o = p.can.own j u here in (ap (λ ty. kinds ty (from.word + u)) s.like.ty ∙ o.0, o.1);
                  from_small = p.can.from_small;
                  to_small = p.can.to_small;
                };
            is =
                let z : count - k ≡ suc (count - (k + 1)) = omega (arith, lt) in
                let a : from.slot + (k + 1) ≡ from.slot + k + 1 = omega arith in
                let b : to.slot + (k + 1) ≡ to.slot + k + 1 = omega arith in
                (λ j. slots_moved (record { object = from.object.birth; index = a j; word = from.word }) (record { object = to.object.birth; index = b j; word = to.word }) w owners (count - (k + 1)) (shows.is j))
                ∙ ap (λ n. slots_moved (behind k (place from)) (behind k (place to)) w owners n (seen kinds d new)) (sym z)
                ∙ p.is;
            later = later_then c d e rows new after p.later later;
            type = λ o there. (moved_kept to.object.birth p.can.target (seen kinds d new) p.can.target_there (place (slot_of k from)) (place (slot_of k to)) w owners).like.ty ∙ p.type o there;
          }
