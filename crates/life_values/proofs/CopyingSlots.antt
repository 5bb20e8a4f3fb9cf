-- A store goes the way of the meaning where the slots of an object are copied, one after the other.
use Rattle.std.proofs.Common.{◌≡◌, ℕ, suc, ◌+◌, ◌-◌, ◌<◌, ◌≤◌, ◌^◌, List, Some, Ok, Err, refl, sym, ap, subst, ◌∙◌, arith}
use Rattle.life_types.specs.Trees.{IsOrdered}
use Rattle.life_types.specs.Types.{Types}
use Rattle.life_store.specs.Cells.{at}
use Rattle.life_store.specs.Content.{Object, Content}
use Rattle.life_store.specs.Effects.{Setting, Attempt, Got, then_get}
use Rattle.life_store.specs.Held.{words_at, wrote}
use Rattle.life_store.specs.References.{Rows}
use Rattle.life_store.specs.declared.object.ObjRef.{ObjRef}
use Rattle.life_forest.specs.Kinds.{kinds_of as forest_kinds, rank_of}
use Rattle.life_seen.specs.Housed.{Shows, Later}
use Rattle.life_seen.specs.Kinds.{kinds_of}
use Rattle.life_seen.specs.Seen.{seen}
use Rattle.life_seen.proofs.References.{later_same, later_then}
use Rattle.life_values.specs.Copied.{copied_number, recopied_each, slots_copied, CanCopySlots, CanRecopy, ComesCopied}
use Rattle.life_values.specs.Layouts.{owners_at, AreLaid}
use Rattle.life_values.specs.Moved.{AreUncut, CanCopyWords}
use Rattle.life_values.specs.declared.copying.CopyFault.{CopyFault}
use Rattle.life_values.specs.declared.copying.CopyFault.TheVariants as copy_fault
use Rattle.life_values.specs.declared.layout.Layout.{Layout}
use Rattle.life_values.proofs.CopiedGood.{each_grew, got_is, raw_grew, Grew}
use Rattle.life_values.proofs.CopiedRowed.{all_uncut}
use Rattle.life_values.proofs.Filling.{some_setting, still_placed}
use Rattle.life_values.proofs.Recopying.{copies_good}

module _ (types : Types) (layouts : List Layout) (laid : AreLaid types layouts) (ordered : IsOrdered types) (limit depth : ℕ) (from to : ObjRef) (size w : ℕ) (owners : List ℕ) where
  abbrev copies : (s : Setting) → (slot count : ℕ) → Content → Attempt Content
  copies s i k m = slots_copied (copied_number s (owners_at layouts) depth) owners w from.birth to.birth i k m

  -- how far the store has come
  pub record Progress (c : Content) (rows : Rows) (d : Content) (new : Rows) (i : ℕ) : Type 0 where
    pub can : CanCopySlots (kinds_of types) (forest_kinds types) limit depth from to size w owners d new
    pub is : (s : Setting) → s.given.cells ≡ limit → slots_copied (copied_number s (owners_at layouts) depth) owners w from.birth to.birth 0 size (seen (kinds_of types) c rows)
        ≡ slots_copied (copied_number s (owners_at layouts) depth) owners w from.birth to.birth i (size - i) (seen (kinds_of types) d new)
    pub later : Later c d rows new

  pub progress_begin : (c : Content) (rows : Rows) → CanCopySlots (kinds_of types) (forest_kinds types) limit depth from to size w owners c rows → Progress c rows c rows 0
  progress_begin c rows can = record {
    can = can;
    is = λ s cells. let z : size ≡ size - 0 = omega arith in ap (λ k. slots_copied (copied_number s (owners_at layouts) depth) owners w from.birth to.birth 0 k (seen (kinds_of types) c rows)) z;
    later = later_same c c rows (omega arith);
  }

  pub progress_end : (c : Content) (rows : Rows) (d : Content) (new : Rows) (i : ℕ) → Progress c rows d new i → size ≤ i → (s : Setting) → s.given.cells ≡ limit
      → ComesCopied {A = Unit {0}} (kinds_of types) (slots_copied (copied_number s (owners_at layouts) depth) owners w from.birth to.birth 0 size (seen (kinds_of types) c rows)) (Ok tt) d new
  progress_end c rows d new i p all s cells =
      let z : size - i ≡ 0 = omega (arith, all) in (
        seen (kinds_of types) d new,
        p.is s cells ∙ ap (λ k. slots_copied (copied_number s (owners_at layouts) depth) owners w from.birth to.birth i k (seen (kinds_of types) d new)) z,
        record { housed = p.can.housed; is = refl },
      )

  module _ (c : Content) (rows : Rows) (d : Content) (new : Rows) (i : ℕ) (p : Progress c rows d new i) (lt : i < size) where
    pub words_can : w < 2 ^ 64 → CanCopyWords (kinds_of types) (record { object = from; slot = i; word = 0 }) (record { object = to; slot = i; word = 0 }) w d new
    words_can small = record {
      housed = p.can.housed;
      from_placed = p.can.from_placed;
      to_placed = p.can.to_placed;
      apart = λ one slot. absurd (p.can.apart one);
      source = p.can.source;
      source_there = p.can.source_there;
      target = p.can.target;
      target_there = p.can.target_there;
      alike = λ u lt. ap (λ ty. kinds_of types ty (0 + u)) p.can.alike;
      source_width = let e = p.can.source_width in omega (arith, e);
      target_width = let e = p.can.target_width in omega (arith, e);
      source_long = (p.can.good.good from.birth p.can.source p.can.source_there).long;
      source_slot = let s = p.can.source_size in omega (arith, s, lt);
      target_slot = let s = p.can.target_size in omega (arith, s, lt);
      from_small = omega (arith, small);
      to_small = omega (arith, small);
    }

    pub words_uncut : AreUncut (kinds_of types p.can.target.ty) 0 w
    words_uncut = all_uncut types p.can.target.ty w (sym p.can.target_width ∙ (p.can.good.good to.birth p.can.target p.can.target_there).width)

    module _ (e : Content) (after : Rows) (shows : Shows (kinds_of types) e after (wrote to.birth i 0 (words_at (seen (kinds_of types) d new) from.birth i 0 w) (seen (kinds_of types) d new))) (later : Later d e new after) where
      raw : Grew (forest_kinds types) limit to.birth (seen (kinds_of types) d new) (wrote to.birth i 0 (words_at (seen (kinds_of types) d new) from.birth i 0 w) (seen (kinds_of types) d new))
      raw =
          raw_grew (forest_kinds types) limit (copied_number (some_setting limit) (owners_at layouts) depth) (copies_good types layouts laid ordered limit depth (some_setting limit) refl)
          from.birth to.birth i w (seen (kinds_of types) d new) p.can.source p.can.target p.can.good p.can.source_there p.can.target_there p.can.alike

      grew : Grew (forest_kinds types) limit to.birth (seen (kinds_of types) d new) (seen (kinds_of types) e after)
      grew = subst (Grew (forest_kinds types) limit to.birth (seen (kinds_of types) d new)) (sym shows.is) raw

      abbrev target : Object
      target = (grew.target p.can.target p.can.target_there).0

      born_to : to.birth < d.births
      born_to = p.can.good.born to.birth p.can.target p.can.target_there

      placed_e : at after to.birth ≡ Some to.row
      placed_e = let t = grew.target p.can.target p.can.target_there in still_placed (kinds_of types) d e new after shows.housed later to.birth to.row t.0 born_to p.can.to_placed t.1

      pub recopy_can : CanRecopy (kinds_of types) (forest_kinds types) limit depth to i owners e after
      recopy_can =
          let t = grew.target p.can.target p.can.target_there in
          record {
            housed = shows.housed;
            placed = placed_e;
            good = grew.good;
            object = t.0;
            there = t.1;
            slot = let k = t.2.count in let s = p.can.target_size in omega (arith, k, s, lt);
            own = λ j u at_j.
                let o = p.can.own j u at_j in
                let l = o.1 in
                let x = t.2.width in
                let y = p.can.target_width in
                (ap (λ ty. kinds_of types ty u) (t.2.ty ∙ sym p.can.alike) ∙ o.0, omega (arith, l, x, y));
            deep = let k = ap (rank_of types) (t.2.ty ∙ sym p.can.alike) in let l = p.can.deep in omega (arith, k, l);
          }

      abbrev rest : Setting → Content → Attempt Content
      rest s = copies s (i + 1) (size - (i + 1))

      left : (s : Setting) → s.given.cells ≡ limit → slots_copied (copied_number s (owners_at layouts) depth) owners w from.birth to.birth 0 size (seen (kinds_of types) c rows)
          ≡ then_get (recopied_each (copied_number s (owners_at layouts) depth) to.birth i owners (seen (kinds_of types) e after)) (rest s)
      left s cells =
          let z : size - i ≡ suc (size - (i + 1)) = omega (arith, lt) in
          p.is s cells
          ∙ ap (λ k. slots_copied (copied_number s (owners_at layouts) depth) owners w from.birth to.birth i k (seen (kinds_of types) d new)) z
          ∙ ap (λ (x : Content). then_get (recopied_each (copied_number s (owners_at layouts) depth) to.birth i owners x) (rest s)) (sym shows.is)

      -- a copy didn't come
      pub slot_fails : (why : CopyFault) (f : Content) (last : Rows)
          → ((s : Setting) → s.given.cells ≡ limit → ComesCopied {A = Unit {0}} (kinds_of types) (recopied_each (copied_number s (owners_at layouts) depth) to.birth i owners (seen (kinds_of types) e after)) (Err why) f last)
          → (s : Setting) → s.given.cells ≡ limit → ComesCopied {A = Unit {0}} (kinds_of types) (slots_copied (copied_number s (owners_at layouts) depth) owners w from.birth to.birth 0 size (seen (kinds_of types) c rows)) (Err why) f last
      slot_fails copy_fault.Moved f last came s cells = left s cells ∙ ap (λ x. then_get x (rest s)) (came s cells)
      slot_fails copy_fault.Cells f last came s cells = left s cells ∙ ap (λ x. then_get x (rest s)) (came s cells)
      slot_fails copy_fault.NoMemory f last came s cells = tt

      -- .. or all came
      module _ (f : Content) (last : Rows)
          (came : (s : Setting) → s.given.cells ≡ limit → ComesCopied {A = Unit {0}} (kinds_of types) (recopied_each (copied_number s (owners_at layouts) depth) to.birth i owners (seen (kinds_of types) e after)) (Ok tt) f last)
          (more : Later e f after last) where
        shows_f : Shows (kinds_of types) f last (came (some_setting limit) refl).0
        shows_f = (came (some_setting limit) refl).2

        then_grew : Grew (forest_kinds types) limit to.birth (seen (kinds_of types) e after) (seen (kinds_of types) f last)
        then_grew =
            subst (Grew (forest_kinds types) limit to.birth (seen (kinds_of types) e after)) (sym shows_f.is)
            (got_is (recopied_each (copied_number (some_setting limit) (owners_at layouts) depth) to.birth i owners (seen (kinds_of types) e after)) (Grew (forest_kinds types) limit to.birth (seen (kinds_of types) e after)) (came (some_setting limit) refl).0
            (each_grew (forest_kinds types) limit (copied_number (some_setting limit) (owners_at layouts) depth) (copies_good types layouts laid ordered limit depth (some_setting limit) refl)
            owners to.birth i (seen (kinds_of types) e after) recopy_can.object recopy_can.good recopy_can.there (λ j u at_j. (recopy_can.own j u at_j).0)) (came (some_setting limit) refl).1)

        both : Later d f new last
        both = later_then d e f new after last later more

        source_f : at (seen (kinds_of types) f last).objects from.birth ≡ Some p.can.source
        source_f =
            let born = p.can.good.born from.birth p.can.source p.can.source_there in
            let up = grew.births in
            then_grew.same from.birth (omega (arith, born, up)) (λ s. p.can.apart (sym s)) ∙ grew.same from.birth born (λ s. p.can.apart (sym s)) ∙ p.can.source_there

        pub progress_next : Progress c rows f last (i + 1)
        progress_next =
            let t = grew.target p.can.target p.can.target_there in
            let x = then_grew.target t.0 t.1 in
            record {
              can = record {
                housed = shows_f.housed;
                from_placed = still_placed (kinds_of types) d f new last shows_f.housed both from.birth from.row p.can.source (p.can.good.born from.birth p.can.source p.can.source_there) p.can.from_placed source_f;
                to_placed = still_placed (kinds_of types) d f new last shows_f.housed both to.birth to.row x.0 born_to p.can.to_placed x.1;
                apart = p.can.apart;
                good = then_grew.good;
                source = p.can.source;
                source_there = source_f;
                target = x.0;
                target_there = x.1;
                alike = p.can.alike ∙ sym (x.2.ty ∙ t.2.ty);
                source_width = p.can.source_width;
                target_width = x.2.width ∙ t.2.width ∙ p.can.target_width;
                source_size = p.can.source_size;
                target_size = x.2.count ∙ t.2.count ∙ p.can.target_size;
                own = p.can.own;
                deep = p.can.deep;
              };
              is = λ s cells. left s cells ∙ ap (λ y. then_get y (rest s)) ((came s cells).1 ∙ ap (λ (z : Content). Got z) (sym (came s cells).2.is));
              later = later_then c d f rows new last p.later both;
            }
