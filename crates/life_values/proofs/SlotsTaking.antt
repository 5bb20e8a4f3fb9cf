-- A store goes the way of the meaning where the slots of an object are taken where they are, one after the other.
use Rattle.std.proofs.Common.{◌≡◌, ℕ, suc, ◌+◌, ◌*◌, ◌<◌, ◌≤◌, ◌^◌, List, length, Some, sym, ap, subst, ◌∙◌, arith, mul-le-mul_right, suc-mul}
use Rattle.life_store.specs.Cells.{at}
use Rattle.life_store.specs.Content.{Content}
use Rattle.life_store.specs.Kinds.{is_owner}
use Rattle.life_store.specs.References.{Rows}
use Rattle.life_store.specs.declared.object.ObjRef.{ObjRef}
use Rattle.life_forest.specs.Kinds.{Kinds}
use Rattle.life_seen.specs.Housed.{Shows, Later, IsHoused}
use Rattle.life_seen.specs.Kinds.{Kinds as Seen}
use Rattle.life_seen.specs.Seen.{seen}
use Rattle.life_seen.proofs.References.{later_same, later_then}
use Rattle.life_values.specs.Ended.{AreAlike}
use Rattle.life_values.specs.Regrown.{slots_taken, CanTakeSlots}
use Rattle.life_values.specs.Taken.{leaves_taken, CanTake}
use Rattle.life_values.specs.declared.layout.Leaf.{Leaf}
use Rattle.life_values.proofs.Filling.{still_placed}
use Rattle.life_values.proofs.TakingSlots.{taking_begin, taking_end, taking_next, AreOwned, Taking}

module _ (kinds : Seen) (kind : Kinds) (alike : AreAlike kinds kind) (r : ObjRef) (ls : List Leaf) (first count : ℕ) (c : Content) (rows : Rows) (can : CanTakeSlots kinds kind r ls first count c rows) where
  pub are_owned : AreOwned kind r.birth can.hand can.object.ty 0 can.object.width ls
  are_owned j l id at_j e = let o = can.own j l id at_j e in (sym (alike can.object.ty (0 + l.word)) ∙ ap is_owner o.0, o.1)

  -- how far the store has come
  pub record Progress (d : Content) (new : Rows) (k : ℕ) : Type 0 where
    pub housed : IsHoused kinds d new
    pub placed : at new r.birth ≡ Some r.row
    pub taking : Taking kind r.birth can.hand ls first can.object (seen kinds c rows) (seen kinds d new) k count
    pub later : Later c d rows new

  pub progress_begin : Progress c rows 0
  progress_begin = record {
    housed = can.housed;
    placed = can.placed;
    taking = taking_begin kind r.birth can.hand ls first can.object (seen kinds c rows) count can.there can.forest can.wide;
    later = later_same c c rows (omega arith);
  }

  module _ (d : Content) (new : Rows) (k : ℕ) (p : Progress d new k) where
    pub progress_end : count ≤ k → Shows kinds d new (slots_taken ls r.birth first count (seen kinds c rows))
    progress_end all = record { housed = p.housed; is = taking_end kind r.birth can.hand ls first can.object (seen kinds c rows) (seen kinds d new) k count p.taking all }

    module _ (lt : k < count) where
      pub slot_can : CanTake kinds kind (record { object = r; slot = first + k; word = 0 }) ls d new
      slot_can =
          let t = p.taking.taken in
          record {
            housed = p.housed;
            placed = p.placed;
            hand = can.hand;
            forest = t.still;
            object = t.object;
            there = t.found;
            wide = t.long;
            slot = let n = t.like.count in let s = can.size in omega (arith, n, s, lt);
            own = λ j l ty at_j e.
                let o = can.own j l ty at_j e in
                let w = t.like.width in
                let b = o.1 in
                (ap (λ x. kinds x (0 + l.word)) t.like.ty ∙ o.0, omega (arith, w, b));
            small = can.small;
          }

      -- new numbers can be counted
      pub slot_births : c.births + count * length ls < 2 ^ 63 → d.births + length ls < 2 ^ 63
      slot_births births =
          let b = p.taking.taken.births in
          let s = suc-mul k (length ls) in
          let m = mul-le-mul_right {m = suc k} {n = count} (length ls) (omega (arith, lt)) in
          omega (arith, b, s, m, births)

      pub slot_clock : c.clock < 2 ^ 63 → d.clock < 2 ^ 63
      slot_clock clock = let e = p.taking.taken.clock in omega (arith, e, clock)

      module _ (e : Content) (after : Rows) (shows : Shows kinds e after (leaves_taken r.birth (first + k) 0 ls (seen kinds d new))) (later : Later d e new after) where
        next : Taking kind r.birth can.hand ls first can.object (seen kinds c rows) (seen kinds e after) (k + 1) count
        next =
            subst (λ x. Taking kind r.birth can.hand ls first can.object (seen kinds c rows) x (k + 1) count) (sym shows.is)
            (taking_next kind r.birth can.hand ls first can.object (seen kinds c rows) (seen kinds d new) k count p.taking lt can.size are_owned)

        pub progress_next : Progress e after (k + 1)
        progress_next = record {
          housed = shows.housed;
          placed = still_placed kinds d e new after shows.housed later r.birth r.row next.taken.object (p.housed.below r.birth r.row p.placed) p.placed next.taken.found;
          taking = next;
          later = later_then c d e rows new after p.later later;
        }
