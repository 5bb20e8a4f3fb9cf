-- A store goes the way of the meaning where an object is copied with all that it owns.
use Rattle.std.proofs.Common.{◌≡◌, ℕ, suc, ◌+◌, ◌-◌, ◌*◌, ◌<◌, ◌≤◌, ◌^◌, List, length, Option, Some, Ok, Err, IfSome, refl, sym, ap, subst, ◌∙◌, arith}
use Rattle.std.specs.Prelude.{slice_get}
use Rattle.life_types.specs.Trees.{IsOrdered}
use Rattle.life_types.specs.Types.{Types}
use Rattle.life_types.specs.declared.ty.TyId.{TyId}
use Rattle.life_store.specs.Cells.{at}
use Rattle.life_store.specs.Content.{Object, Content, live_words_of, with_birth}
use Rattle.life_store.specs.Effects.{Setting, Attempt, Got, then_get}
use Rattle.life_store.specs.Held.{resized_at}
use Rattle.life_store.specs.Kinds.{Owner, kind_in}
use Rattle.life_store.specs.Owners.{birth, sized_birth}
use Rattle.life_store.specs.Parts.{Parts, parts_at}
use Rattle.life_store.specs.Parts.{width as parts_width}
use Rattle.life_store.specs.References.{Rows, asked_of, object_of, shape_of}
use Rattle.life_store.specs.declared.object.BirthFault.{BirthFault}
use Rattle.life_store.specs.declared.object.BirthFault.TheVariants as birth_fault
use Rattle.life_store.specs.declared.object.Dead.{Dead}
use Rattle.life_store.specs.declared.object.ObjRef.{ObjRef}
use Rattle.life_store.specs.declared.object.Shape.{Shape}
use Rattle.life_forest.specs.Kinds.{kinds_of as forest_kinds}
use Rattle.life_seen.specs.Housed.{Shows, Later}
use Rattle.life_seen.specs.Kinds.{kinds_of}
use Rattle.life_seen.specs.Named.{names_of}
use Rattle.life_seen.specs.Seen.{object_seen, seen}
use Rattle.life_seen.proofs.LiveWords.{live_words_seen}
use Rattle.life_seen.proofs.Contents.{seen_at}
use Rattle.life_seen.proofs.References.{later_then, placed_lives}
use Rattle.life_seen.proofs.Resizing.{shape_seen}
use Rattle.life_values.specs.Copied.{copied_if, copied_number, copy_fault_of, slots_copied, CanCopy, CanCopySlots, ComesCopied, Copies}
use Rattle.life_values.specs.Good.{AreGood}
use Rattle.life_values.specs.Layouts.{owners_at, width_at, AreLaid}
use Rattle.life_values.specs.declared.copying.CopyFault.{CopyFault}
use Rattle.life_values.specs.declared.copying.CopyFault.TheVariants as copy_fault
use Rattle.life_values.specs.declared.layout.Layout.{Layout}
use Rattle.life_values.proofs.Beginning.{birth_full, birth_room, width_of_type}
use Rattle.life_values.proofs.CopiedGood.{got_is, slots_grew, Grew}
use Rattle.life_values.proofs.Filling.{some_setting, still_placed}
use Rattle.life_values.proofs.Flat.{are_owners, layouts_own, owner_words_own}
use Rattle.life_values.proofs.GoodSteps.{sized_is, Sized}
use Rattle.life_values.proofs.Popping.{ok_shape}
use Rattle.life_values.proofs.Recopying.{copies_good}
use Rattle.life_values.proofs.SeenAs.{seen_as, IsSeenAs}

-- a word that owns is one of the value's
kind_within : (p : Parts) (u w : ℕ) → w ≡ parts_width p → kind_in p u ≡ Owner → u < w
kind_within p u w e owner =
    let a = (are_owners p).complete u owner in
    let r = owner_words_own p 0 a.0 u a.1 in
    let s = r.is in
    let l = r.within in
    omega (arith, e, s, l)

module _ (types : Types) (layouts : List Layout) (laid : AreLaid types layouts) (ordered : IsOrdered types) (limit depth : ℕ) (r : ObjRef) (c : Content) (rows : Rows) (can : CanCopy (kinds_of types) (forest_kinds types) limit depth r c rows) where
  record IsThere : Type 0 where
    pub object : Object
    pub there : at (seen (kinds_of types) c rows).objects r.birth ≡ Some object
    pub now : IsSeenAs (kinds_of types) c rows r object

  here : IsThere
  here =
      let l = placed_lives (kinds_of types) c rows can.housed r.birth r.row can.placed in
      let t = seen_at (kinds_of types) (names_of c rows) c r.birth l.0 l.1 in
      record { object = object_seen (kinds_of types) (names_of c rows) l.0; there = t; now = seen_as (kinds_of types) c rows r (object_seen (kinds_of types) (names_of c rows) l.0) can.housed can.placed t }

  pub not_dead : (dead : Dead) → asked_of (object_of c rows r) shape_of ≡ Err dead → ⊥
  not_dead dead e = clash (sym (ap (λ (y : Option Object). asked_of y shape_of) here.now.found) ∙ e)
    where
      clash : asked_of (Some here.now.object) shape_of ≡ Err dead → ⊥
      clash h = cc

  pub deep_enough : 1 ≤ depth
  deep_enough = let d = can.deep here.object here.there in omega (arith, d)

  module _ (shape : Shape) (asked : asked_of (object_of c rows r) shape_of ≡ Ok shape) (owners : List ℕ) (own : owners ≡ owners_at layouts shape.ty) (width : ℕ) (wide : width ≡ width_at layouts shape.ty) where
    shape_is : shape_of here.object ≡ shape
    shape_is = ap shape_of (sym here.now.same) ∙ shape_seen (kinds_of types) (names_of c rows) here.now.object ∙ ok_shape here.now.object here.now.found asked

    ty_is : here.object.ty ≡ shape.ty
    ty_is = ap (λ (s : Shape). s.ty) shape_is

    size_is : length here.object.slots ≡ shape.length
    size_is = ap (λ (s : Shape). s.length) shape_is

    width_kind : (forest_kinds types).width shape.ty ≡ width
    width_kind = sym (wide ∙ width_of_type types layouts laid shape.ty)

    width_is : here.object.width ≡ width
    width_is = (can.good.good r.birth here.object here.there).width ∙ ap (λ ty. (forest_kinds types).width ty) ty_is ∙ width_kind

    pub at_least : IfSome (object_of c rows r) (λ o. 1 ≤ o.width) → 1 ≤ width
    at_least h =
        let a : 1 ≤ here.now.object.width = subst (λ x. IfSome x (λ o. 1 ≤ o.width)) here.now.found h in
        let b : here.now.object.width ≡ here.object.width = ap (λ (x : Object). x.width) here.now.same in
        let e = width_is in
        omega (arith, a, b, e)

    pub can_birth : c.births + 1 < 2 ^ 63
    can_birth = let a = can.good.room.births in let b = can.good.room.within in omega (arith, a, b)

    pub can_tick : c.clock < 2 ^ 63
    can_tick = let a = can.good.room.clock in let b = can.good.room.within in omega (arith, a, b)

    abbrev depth' : ℕ
    depth' = depth - 1

    -- what the meaning does
    abbrev fill : Setting → ℕ × Content → Attempt (ℕ × Content)
    fill s b = then_get (slots_copied (copied_number s (owners_at layouts) (depth - 1)) owners width r.birth b.0 0 shape.length b.1) (λ d. Got (b.0, d))

    abbrev all_slots : ℕ × Content → Attempt (ℕ × Content)
    all_slots b = Got (b.0, resized_at b.0 shape.length 0 b.1)

    meant : (s : Setting) → copied_number s (owners_at layouts) depth r.birth (seen (kinds_of types) c rows) ≡ then_get (then_get (birth s shape.ty width shape.length (seen (kinds_of types) c rows)) all_slots) (fill s)
    meant s =
        let d : depth ≡ suc (depth - 1) = (let h = deep_enough in omega (arith, h)) in
        ap (λ k. copied_number s (owners_at layouts) k r.birth (seen (kinds_of types) c rows)) d
        ∙ ap (λ (x : Option Object). copied_if s (owners_at layouts) (copied_number s (owners_at layouts) (depth - 1)) r.birth x (seen (kinds_of types) c rows)) here.there
        ∙ (λ j. copied_by s (owners_is j) (ty_is j) (width_is j) (size_is j))
      where
        copied_by : Setting → List ℕ → TyId → (w size : ℕ) → Attempt (ℕ × Content)
        copied_by s us ty w size = then_get (sized_birth s ty w size (seen (kinds_of types) c rows)) (λ b. then_get (slots_copied (copied_number s (owners_at layouts) (depth - 1)) us w r.birth b.0 0 size b.1) (λ d. Got (b.0, d)))

        owners_is : owners_at layouts here.object.ty ≡ owners
        owners_is = ap (owners_at layouts) ty_is ∙ sym own

    -- there was no room
    pub birth_fails : (fault : BirthFault) → (fault ≡ birth_fault.Cells → limit < live_words_of c + (2 + width * shape.length)) → (e : Content) (after : Rows) (s : Setting) → s.given.cells ≡ limit
        → Copies (kinds_of types) (copied_number s (owners_at layouts) depth r.birth (seen (kinds_of types) c rows)) (Err (copy_fault_of fault)) e after
    birth_fails birth_fault.Cells full e after s cells =
        meant s ∙ ap (λ x. then_get (then_get x all_slots) (fill s)) (birth_full (kinds_of types) s c rows shape.ty width shape.length limit cells (full refl))
    birth_fails birth_fault.NoMemory full e after s cells = tt

    module _ (room : live_words_of c + (2 + width * shape.length) ≤ limit) (q : ObjRef) (number : q.birth ≡ c.births) (e : Content) (after : Rows)
        (shows : Shows (kinds_of types) e after (resized_at c.births shape.length 0 (with_birth shape.ty width shape.length (seen (kinds_of types) c rows)))) (placed : at after q.birth ≡ Some q.row) (later : Later c e rows after) where
      live_is : live_words_of (seen (kinds_of types) c rows) ≡ live_words_of c
      live_is = live_words_seen (kinds_of types) (names_of c rows) c

      sized : Sized (forest_kinds types) limit shape.ty width shape.length (seen (kinds_of types) c rows) (c.births, resized_at c.births shape.length 0 (with_birth shape.ty width shape.length (seen (kinds_of types) c rows)))
      sized = sized_is (forest_kinds types) limit shape.ty width shape.length (seen (kinds_of types) c rows) can.good width_kind (let l = live_is in omega (arith, l, room))

      born : r.birth < c.births
      born = can.good.born r.birth here.object here.there

      source_e : at (seen (kinds_of types) e after).objects r.birth ≡ Some here.object
      source_e = ap (λ (x : Content). at x.objects r.birth) shows.is ∙ sized.same r.birth born ∙ here.there

      target_e : at (seen (kinds_of types) e after).objects q.birth ≡ Some sized.object
      target_e = ap (at (seen (kinds_of types) e after).objects) number ∙ ap (λ (x : Content). at x.objects c.births) shows.is ∙ sized.there

      pub slots_can : CanCopySlots (kinds_of types) (forest_kinds types) limit (depth - 1) r q shape.length width owners e after
      slots_can = record {
        housed = shows.housed;
        from_placed = still_placed (kinds_of types) c e rows after shows.housed later r.birth r.row here.object born can.placed source_e;
        to_placed = placed;
        apart = λ s. let b = born in absurd (omega (arith, s, number, b));
        good = subst (AreGood (forest_kinds types) limit) (sym shows.is) sized.good;
        source = here.object;
        source_there = source_e;
        target = sized.object;
        target_there = target_e;
        alike = ty_is ∙ sym sized.type;
        source_width = width_is;
        target_width = sized.width;
        source_size = size_is;
        target_size = sized.count;
        own = λ j u at_j.
            let k = (layouts_own types layouts laid shape.ty).sound j u (ap (λ us. slice_get us j) (sym own) ∙ at_j) in
            (ap (λ ty. kinds_of types ty u) ty_is ∙ k, kind_within (parts_at types shape.ty) u width (sym width_kind) k);
        deep = let d = can.deep here.object here.there in omega (arith, d);
      }

      born_so : (s : Setting) → s.given.cells ≡ limit → copied_number s (owners_at layouts) depth r.birth (seen (kinds_of types) c rows)
          ≡ then_get (slots_copied (copied_number s (owners_at layouts) (depth - 1)) owners width r.birth q.birth 0 shape.length (seen (kinds_of types) e after)) (λ d. Got (q.birth, d))
      born_so s cells =
          meant s
          ∙ ap (λ x. then_get (then_get x all_slots) (fill s)) (birth_room (kinds_of types) s c rows shape.ty width shape.length limit cells (λ full. absurd (omega (arith, full, room))))
          ∙ (λ j. fill s (sym number j, sym shows.is j))

      pub slots_fail : (why : CopyFault) (f : Content) (last : Rows)
          → ((s : Setting) → s.given.cells ≡ limit → ComesCopied {A = Unit {0}} (kinds_of types) (slots_copied (copied_number s (owners_at layouts) (depth - 1)) owners width r.birth q.birth 0 shape.length (seen (kinds_of types) e after)) (Err why) f last)
          → (s : Setting) → s.given.cells ≡ limit → Copies (kinds_of types) (copied_number s (owners_at layouts) depth r.birth (seen (kinds_of types) c rows)) (Err why) f last
      slots_fail copy_fault.Moved f last came s cells = born_so s cells ∙ ap (λ x. then_get x (λ d. Got (q.birth, d))) (came s cells)
      slots_fail copy_fault.Cells f last came s cells = born_so s cells ∙ ap (λ x. then_get x (λ d. Got (q.birth, d))) (came s cells)
      slots_fail copy_fault.NoMemory f last came s cells = tt

      pub slots_come : (f : Content) (last : Rows)
          → ((s : Setting) → s.given.cells ≡ limit → ComesCopied {A = Unit {0}} (kinds_of types) (slots_copied (copied_number s (owners_at layouts) (depth - 1)) owners width r.birth q.birth 0 shape.length (seen (kinds_of types) e after)) (Ok tt) f last)
          → Later e f after last
          → (s : Setting) → s.given.cells ≡ limit → Copies (kinds_of types) (copied_number s (owners_at layouts) depth r.birth (seen (kinds_of types) c rows)) (Ok q) f last
      slots_come f last came more s cells =
          let x = came s cells in
          let one = came (some_setting limit) refl in
          let grew = got_is (slots_copied (copied_number (some_setting limit) (owners_at layouts) (depth - 1)) owners width r.birth q.birth 0 shape.length (seen (kinds_of types) e after)) (Grew (forest_kinds types) limit q.birth (seen (kinds_of types) e after)) one.0
          (slots_grew (forest_kinds types) limit (copied_number (some_setting limit) (owners_at layouts) (depth - 1)) (copies_good types layouts laid ordered limit (depth - 1) (some_setting limit) refl) owners width r.birth q.birth shape.length 0
          (seen (kinds_of types) e after) slots_can.source slots_can.target slots_can.good slots_can.source_there slots_can.target_there slots_can.alike (λ s'. slots_can.apart (sym s')) (λ j u at_j. (slots_can.own j u at_j).0)) one.1 in
          let t = grew.target slots_can.target slots_can.target_there in
          let b = slots_can.good.born q.birth slots_can.target slots_can.target_there in (
            x.0,
            born_so s cells ∙ ap (λ y. then_get y (λ d. Got (q.birth, d))) x.1,
            x.2,
            still_placed (kinds_of types) e f after last one.2.housed more q.birth q.row t.0 b placed (ap (λ (y : Content). at y.objects q.birth) one.2.is ∙ t.1),
          )

      pub copy_later : (f : Content) (last : Rows) → Later e f after last → Later c f rows last
      copy_later f last more = later_then c e f rows after last later more
