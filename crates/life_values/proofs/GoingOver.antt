-- A store goes the way of the meaning where a buffer goes over to a fresh one.
use Rattle.std.proofs.Common.{◌≡◌, ℕ, zero, suc, ◌+◌, ◌*◌, ◌<◌, ◌≤◌, ◌^◌, List, [], ◌∷◌, length, Option, Some, IfSome, Ok, Err, true, refl, sym, ap, subst, ◌∙◌, arith}
use Rattle.std.proofs.lemmas.Option.{same_Some}
use Rattle.std.specs.Prelude.{option_map, slice_get, slice_index}
use Rattle.life_types.specs.Types.{Types}
use Rattle.life_store.specs.Cells.{at, at-set_other}
use Rattle.life_store.specs.Content.{Object, Content, live_words_of, with_birth, with_object, with_word, without, word_at}
use Rattle.life_store.specs.Edits.{filled_by, owns as takes, regrown}
use Rattle.life_store.specs.Effects.{Setting, Attempt, Got, then_get}
use Rattle.life_store.specs.Held.{owned_in, owner_word, resized_at, slots_at, slots_if, wrote_if}
use Rattle.life_store.specs.Kinds.{first_owns, is_owner}
use Rattle.life_store.specs.Owners.{taken_slots}
use Rattle.life_store.specs.Parts.{parts_at, width, Parts, Vector}
use Rattle.life_store.specs.References.{Rows, asked_of, object_of, shape_of, HasWord}
use Rattle.life_store.specs.declared.object.BirthFault.{BirthFault}
use Rattle.life_store.specs.declared.object.BirthFault.TheVariants as birth_fault
use Rattle.life_store.specs.declared.object.Dead.{Dead}
use Rattle.life_store.specs.declared.object.ObjRef.{ObjRef}
use Rattle.life_store.specs.declared.object.Shape.{Shape}
use Rattle.life_forest.specs.Forest.{IsForest}
use Rattle.life_forest.specs.Kinds.{kinds_of as forest_kinds, Kinds as Forest}
use Rattle.life_forest.specs.Owned.{times}
use Rattle.life_forest.specs.Values.{owned_slots, AllWide}
use Rattle.life_forest.proofs.Growing.{OwnsBuffer}
use Rattle.life_forest.proofs.Lying.{spot_words_are, LiesAt}
use Rattle.life_forest.proofs.Regrowing.{left}
use Rattle.life_seen.specs.Housed.{Shows, Later}
use Rattle.life_seen.specs.Kinds.{kinds_of, Kinds}
use Rattle.life_seen.specs.Named.{names_of}
use Rattle.life_seen.specs.Rowed.{AreRowed}
use Rattle.life_seen.specs.Seen.{object_seen, seen}
use Rattle.life_seen.proofs.References.{later_then}
use Rattle.life_seen.proofs.Resizing.{count_seen, shape_seen}
use Rattle.life_words.specs.Owning.{number_of, with_owner, IsOwner}
use Rattle.life_values.specs.Layouts.{flat, leaves_at, owner_words, owners_at, width_at, AreLaid}
use Rattle.life_values.specs.Moved.{place, AreUncut}
use Rattle.life_values.specs.Regrown.{handed_over, then_owned, CanHandOver, CanRegrow}
use Rattle.life_values.specs.Texts.{IsBuffer}
use Rattle.life_values.specs.declared.layout.Layout.{Layout}
use Rattle.life_values.specs.declared.layout.Leaf.{Leaf}
use Rattle.life_values.specs.declared.spot.Spot.{Spot}
use Rattle.life_values.proofs.Beginning.{birth_full, birth_room, width_of_type}
use Rattle.life_values.proofs.CopiedRowed.{all_uncut}
use Rattle.life_values.proofs.Filling.{still_placed}
use Rattle.life_values.proofs.Flat.{owner_words_own}
use Rattle.life_values.proofs.LeafOwners.{characters_own, leaf_within}
use Rattle.life_values.proofs.OneOwner.{leaves_by_parts, owners_by_parts}
use Rattle.life_values.proofs.Owners.{wide_word, word_of_is}
use Rattle.life_values.proofs.Popping.{ok_shape}
use Rattle.life_values.proofs.RegrownMeant.{buffer_apart, buffer_there, fresh, fresh_then, fresh_there, fresh_width, from_free, holder_there, over, over_births, over_clock, over_forest, over_held, regrown_meant, sized, sized_births, sized_clock, to_free}
use Rattle.life_values.proofs.Renewed.{not_itself, owned_there, rank_less}
use Rattle.life_values.proofs.SeenAs.{seen_as, IsSeenAs}
use Rattle.life_values.proofs.StillRowed.{are_whole, seen_keeps, OwnerKeeps}

module _ (types : Types) (layouts : List Layout) (laid : AreLaid types layouts) (spot : Spot) (b : ObjRef) (capacity size : ℕ) (c : Content) (rows : Rows) (can : CanRegrow types spot b capacity size c rows) where
  abbrev m : Content
  m = seen (kinds_of types) c rows

  abbrev o : Object
  o = can.own.owner

  abbrev ob : Object
  ob = can.own.buffer

  abbrev element : Parts
  element = parts_at types can.own.buffer.ty

  -- ---- what is owned

  is_owned : is_owner ((forest_kinds types).word o.ty spot.word) ≡ true
  is_owned = ap is_owner can.own.owns

  is_some : owned_in (word_at o spot.slot spot.word) ≡ Some b.birth
  is_some = ap owned_in can.own.owned

  abbrev out : Object
  out = with_word spot.slot spot.word 0 o

  lower : (forest_kinds types).rank ob.ty < (forest_kinds types).rank o.ty
  lower =
      let n = spot.object.birth in
      let ne = not_itself (forest_kinds types) n spot.slot spot.word can.own.hand m o can.own.owner_there can.own.forest can.own.owner_long can.own.slot can.own.word is_owned b.birth is_some in
      let t = owned_there (forest_kinds types) n spot.slot spot.word can.own.hand m o can.own.owner_there can.own.forest can.own.owner_long can.own.slot can.own.word is_owned b.birth is_some in
      let same : t.0 ≡ ob = same_Some t.0 ob (sym t.1 ∙ at-set_other m.objects n b.birth out ne ∙ can.own.there) in
      let less = rank_less (forest_kinds types) n spot.slot spot.word can.own.hand m o can.own.owner_there can.own.forest can.own.owner_long can.own.slot can.own.word is_owned b.birth is_some in
      let rank = ap (λ (x : Object). (forest_kinds types).rank x.ty) same in
      omega (arith, less, rank)

  first_kinds : (u : ℕ) → u < 1 → (forest_kinds types).word o.ty (spot.word + u) ≡ first_owns u
  first_kinds zero lt = let z : spot.word + 0 ≡ spot.word = omega arith in ap ((forest_kinds types).word o.ty) z ∙ can.own.owns
  first_kinds (suc u) lt = absurd (omega (arith, lt))

  lies : LiesAt (forest_kinds types) m (place spot) (Vector ob.ty element) o
  lies = record { there = can.own.owner_there; words = (wide_word o.width o.slots spot.slot spot.word can.own.owner_long can.own.slot can.own.word, tt); kinds = first_kinds }

  pub own_buffer : OwnsBuffer (forest_kinds types) ob.ty element (place spot) b.birth m o ob
  own_buffer = record {
    lies = lies;
    owned = ap (λ xs. owned_in (slice_index xs 0)) (spot_words_are (forest_kinds types) m (place spot) (Vector ob.ty element) o lies) ∙ ap owned_in (word_of_is o.slots spot.slot spot.word ∙ can.own.owned);
    there = can.own.there;
    is = can.own.known;
    same = refl;
    lower = lower;
    laid = λ u. refl;
  }

  -- ---- what the meaning does

  abbrev carried : ℕ × Content → Attempt (ℕ × Content)
  carried f = Got (f.0, without b.birth (filled_by f.0 (taken_slots element (slots_at m b.birth) (resized_at f.0 size 0 f.1))))

  abbrev given : ℕ × Content → Attempt (ℕ × Content)
  given f = Got (f.0, takes (place spot) f.0 f.1)

  abbrev meant : Setting → Object → Attempt (ℕ × Content)
  meant s x = then_owned (place spot) (regrown s x.ty (parts_at types x.ty) b.birth capacity size m)

  now : IsSeenAs (kinds_of types) c rows b ob
  now = seen_as (kinds_of types) c rows b ob can.own.housed can.own.placed can.own.there

  pub not_dead : (dead : Dead) → asked_of (object_of c rows b) shape_of ≡ Err dead → ⊥
  not_dead dead e = clash (sym (ap (λ (y : Option Object). asked_of y shape_of) now.found) ∙ e)
    where
      clash : asked_of (Some now.object) shape_of ≡ Err dead → ⊥
      clash h = cc

  module _ (shape : Shape) (asked : asked_of (object_of c rows b) shape_of ≡ Ok shape) (w : ℕ) (wide : w ≡ width_at layouts shape.ty) where
    shape_is : shape_of ob ≡ shape
    shape_is = ap shape_of (sym now.same) ∙ shape_seen (kinds_of types) (names_of c rows) now.object ∙ ok_shape now.object now.found asked

    ty_is : ob.ty ≡ shape.ty
    ty_is = ap (λ (s : Shape). s.ty) shape_is

    size_is : length ob.slots ≡ shape.length
    size_is = ap (λ (s : Shape). s.length) shape_is

    width_is : w ≡ width element
    width_is = wide ∙ width_of_type types layouts laid shape.ty ∙ ap (λ ty. width (parts_at types ty)) (sym ty_is)

    pub at_least : IfSome (object_of c rows b) (λ x. 1 ≤ x.width) → 1 ≤ w
    at_least h =
        let a : 1 ≤ now.object.width = subst (λ x. IfSome x (λ y. 1 ≤ y.width)) now.found h in
        let e : now.object.width ≡ ob.width = ap (λ (x : Object). x.width) now.same in
        let f = can.own.known.words in
        let g = width_is in
        omega (arith, a, e, f, g)

    -- there was no room
    pub birth_fails : (limit : ℕ) (fault : BirthFault) → (fault ≡ birth_fault.Cells → limit < live_words_of c + (2 + w * capacity)) → (d : Content) (new : Rows) (s : Setting) (x : Object) → s.given.cells ≡ limit
        → at (seen (kinds_of types) c rows).objects b.birth ≡ Some x → IsBuffer (kinds_of types) (then_owned (place spot) (regrown s x.ty (parts_at types x.ty) b.birth capacity size (seen (kinds_of types) c rows))) (Err fault) d new
    birth_fails limit birth_fault.Cells full d new s x cells at_b =
        ap (meant s) (same_Some x ob (sym at_b ∙ can.own.there))
        ∙ ap (λ y. then_get (then_get y carried) given)
        (birth_full (kinds_of types) s c rows ob.ty (width element) capacity limit cells (subst (λ n. limit < live_words_of c + (2 + n * capacity)) width_is (full refl)))
    birth_fails limit birth_fault.NoMemory full d new s x cells at_b = tt

    module _ (f : ObjRef) (number : f.birth ≡ c.births) (d : Content) (new : Rows) (shows : Shows (kinds_of types) d new (resized_at c.births size 0 (with_birth shape.ty w capacity (seen (kinds_of types) c rows)))) (placed : at new f.birth ≡ Some f.row)
        (later : Later c d rows new) where
      abbrev kind : Forest
      kind = forest_kinds types

      abbrev us : List ℕ
      us = owner_words (flat 0 element)

      abbrev born : Content
      born = sized kind ob.ty element (place spot) b.birth can.own.hand m o ob can.own.forest own_buffer capacity size can.enough us

      abbrev then_over : Content
      then_over = over kind ob.ty element (place spot) b.birth can.own.hand m o ob can.own.forest own_buffer capacity size can.enough us

      born_is : seen (kinds_of types) d new ≡ born
      born_is = shows.is ∙ (λ j. resized_at c.births size 0 (with_birth (sym ty_is j) (width_is j) capacity m))

      holder_d : at (seen (kinds_of types) d new).objects spot.object.birth ≡ Some o
      holder_d = ap (λ (x : Content). at x.objects spot.object.birth) born_is ∙ holder_there kind ob.ty element (place spot) b.birth can.own.hand m o ob can.own.forest own_buffer capacity size can.enough us

      owner_born : spot.object.birth < c.births
      owner_born = can.own.forest.births spot.object.birth o can.own.owner_there

      buffer_born : b.birth < c.births
      buffer_born = can.own.forest.births b.birth ob can.own.there

      owner_d : IsSeenAs (kinds_of types) d new spot.object o
      owner_d =
          seen_as (kinds_of types) d new spot.object o shows.housed
          (still_placed (kinds_of types) c d rows new shows.housed later spot.object.birth spot.object.row o owner_born can.own.spot_placed holder_d) holder_d

      pub word_there : IfSome (object_of d new spot.object) (HasWord spot.slot spot.word)
      word_there =
          let p : length (object_seen (kinds_of types) (names_of d new) owner_d.object).slots ≡ length o.slots = ap (λ (x : Object). length x.slots) owner_d.same in
          let q = count_seen (kinds_of types) (names_of d new) owner_d.object in
          let e : owner_d.object.width ≡ o.width = ap (λ (x : Object). x.width) owner_d.same in
          let i = can.own.slot in
          let k = can.own.word in
          subst (λ x. IfSome x (HasWord spot.slot spot.word)) (sym owner_d.found) (record { has_slot = omega (arith, p, q, i); has_word = omega (arith, e, k) })

      pub own_keeps : (e : Content) (after : Rows) → OwnerKeeps d new spot.object spot.word e after → AreRowed (kinds_of types) d new → AreRowed (kinds_of types) e after
      own_keeps = seen_keeps (kinds_of types) (are_whole types) d new shows.housed spot.object o owner_d spot.word can.own.owns

      module _ (e : Content) (after : Rows) (owned_shows : (ks : Kinds) (x : Object) → IsOwner ks d new spot.object spot.word x → Shows ks e after (with_owner ks d new spot.object spot.slot spot.word x (option_map number_of (Some f)))) (same : after ≡ new) where
        shows_owned : Shows (kinds_of types) e after (with_object spot.object.birth (with_word spot.slot spot.word (owner_word (Some f.birth)) o) (seen (kinds_of types) d new))
        shows_owned =
            subst (λ (x : Object). Shows (kinds_of types) e after (with_object spot.object.birth (with_word spot.slot spot.word (owner_word (Some f.birth)) x) (seen (kinds_of types) d new))) owner_d.same
            (owned_shows (kinds_of types) owner_d.object (record { housed = shows.housed; there = owner_d.found; owner = ap (λ (x : Object). kinds_of types x.ty spot.word) owner_d.same ∙ can.own.owns }))

        over_is : seen (kinds_of types) e after ≡ then_over
        over_is =
            shows_owned.is
            ∙ (λ j. with_object spot.object.birth (with_word spot.slot spot.word (owner_word (Some (number j))) o) (born_is j))
            ∙ ap (λ (x : Option Object). wrote_if x spot.object.birth spot.slot spot.word (owner_word (Some c.births) ∷ []) born) (sym (holder_there kind ob.ty element (place spot) b.birth can.own.hand m o ob can.own.forest own_buffer capacity size can.enough us))

        births_e : e.births ≡ c.births + 1
        births_e =
            ap (λ (x : Content). x.births) over_is ∙ over_births kind ob.ty element (place spot) b.birth can.own.hand m o ob can.own.forest own_buffer capacity size can.enough us
            ∙ sized_births kind ob.ty element (place spot) b.birth can.own.hand m o ob can.own.forest own_buffer capacity size can.enough us

        clock_e : e.clock ≡ c.clock + 1
        clock_e =
            ap (λ (x : Content). x.clock) over_is ∙ over_clock kind ob.ty element (place spot) b.birth can.own.hand m o ob can.own.forest own_buffer capacity size can.enough us
            ∙ sized_clock kind ob.ty element (place spot) b.birth can.own.hand m o ob can.own.forest own_buffer capacity size can.enough us

        later_e : Later c e rows after
        later_e = record {
          births = let x = births_e in omega (arith, x);
          row = λ n k lt t. later.row n k lt (ap (λ (z : Rows). at z n) (sym same) ∙ t);
        }

        buffer_e : at (seen (kinds_of types) e after).objects b.birth ≡ Some ob
        buffer_e = ap (λ (x : Content). at x.objects b.birth) over_is ∙ buffer_there kind ob.ty element (place spot) b.birth can.own.hand m o ob can.own.forest own_buffer capacity size can.enough us

        abbrev target : Object
        target = (fresh kind ob.ty element (place spot) b.birth can.own.hand m o ob can.own.forest own_buffer capacity size can.enough us).object

        target_e : at (seen (kinds_of types) e after).objects f.birth ≡ Some target
        target_e =
            (λ j. at (over_is j).objects (number j)) ∙ fresh_there kind ob.ty element (place spot) b.birth can.own.hand m o ob can.own.forest own_buffer capacity size can.enough us

        pub fresh_uncut : (x : Object) × (at (seen (kinds_of types) e after).objects f.birth ≡ Some x) × AreUncut (kinds_of types x.ty) 0 w
        fresh_uncut =
            let of_type = (fresh kind ob.ty element (place spot) b.birth can.own.hand m o ob can.own.forest own_buffer capacity size can.enough us).type in
            (target, target_e, all_uncut types target.ty w (width_is ∙ ap (λ ty. width (parts_at types ty)) (sym of_type)))

        module _ (leaves : List Leaf) (leaves_of : leaves ≡ leaves_at layouts shape.ty) (owners : List ℕ) (owners_of : owners ≡ owners_at layouts shape.ty) (small : w < 2 ^ 64) where
          leaves_are : leaves ≡ flat 0 element
          leaves_are = leaves_of ∙ leaves_by_parts types layouts laid shape.ty ∙ ap (λ ty. flat 0 (parts_at types ty)) (sym ty_is)

          owners_are : owners ≡ us
          owners_are = owners_of ∙ owners_by_parts types layouts laid shape.ty ∙ ap (λ ty. owner_words (flat 0 (parts_at types ty))) (sym ty_is)

          small_leaf : (j : ℕ) (l : Leaf) → slice_get (flat 0 element) j ≡ Some l → 0 + l.word < 2 ^ 64
          small_leaf j l at_j = let r = leaf_within element 0 j l at_j in let s = width_is in omega (arith, r, s, small)

          abbrev times_of : ℕ → ℕ
          times_of k = times (owned_slots element ob.slots) k

          pub hand_can : (p : Parts) × CanHandOver (kinds_of types) (forest_kinds types) p b f w leaves owners 0 shape.length e after
          hand_can =
              let is = can.own.known in
              let words = is.words in
              let wid = width_is in
              let target_width : target.width ≡ w = fresh_width kind ob.ty element (place spot) b.birth can.own.hand m o ob can.own.forest own_buffer capacity size can.enough us ∙ sym width_is in
              let new_one = fresh kind ob.ty element (place spot) b.birth can.own.hand m o ob can.own.forest own_buffer capacity size can.enough us in (
                element,
                record {
                  take = record {
                    housed = shows_owned.housed;
                    placed = still_placed (kinds_of types) c e rows after shows_owned.housed later_e b.birth b.row ob buffer_born can.own.placed buffer_e;
                    hand = λ k. times (b.birth ∷ []) k + can.own.hand k;
                    forest = subst (IsForest kind (λ k. times (b.birth ∷ []) k + can.own.hand k)) (sym over_is) (over_forest kind ob.ty element (place spot) b.birth can.own.hand m o ob can.own.forest own_buffer capacity size can.enough us);
                    object = ob;
                    there = buffer_e;
                    wide = subst (λ n. AllWide n ob.slots) (sym words) is.wide;
                    size = let n = size_is in omega (arith, n);
                    own = λ j l ty at_j h.
                        let r = characters_own element 0 j l ty (ap (λ ls. slice_get ls j) (sym leaves_are) ∙ at_j) h in
                        let z : 0 + l.word ≡ r.word = (let x = r.is in omega (arith, x)) in
                        let lt = r.within in
                        (ap (kinds_of types ob.ty) z ∙ r.owner, omega (arith, z, lt, words));
                    small = λ j l at_j. small_leaf j l (ap (λ ls. slice_get ls j) (sym leaves_are) ∙ at_j);
                  };
                  held = over_held kind ob.ty element (place spot) b.birth can.own.hand m o ob can.own.forest own_buffer capacity size can.enough us;
                  to_placed = ap (λ (z : Rows). at z f.birth) same ∙ placed;
                  target = target;
                  target_there = target_e;
                  target_long = subst (λ n. AllWide n target.slots) (sym (target_width ∙ width_is)) new_one.wide;
                  apart = λ x. buffer_apart kind ob.ty element (place spot) b.birth can.own.hand m o ob can.own.forest own_buffer capacity size can.enough us (x ∙ number);
                  alike = sym new_one.type;
                  source_width = words ∙ sym width_is;
                  target_width = target_width;
                  parts_width = width_is;
                  all = size_is;
                  room = let n = new_one.count in let k = size_is in let le = can.enough in omega (arith, n, k, le);
                  are_leaves = leaves_are;
                  own = λ j u at_j.
                      let r = owner_words_own element 0 j u (ap (λ xs. slice_get xs j) (sym owners_are) ∙ at_j) in
                      let z : 0 + u ≡ r.word = (let x = r.is in omega (arith, x)) in
                      let lt = r.within in
                      (ap (kinds_of types ob.ty) z ∙ r.owner, omega (arith, z, lt, wid));
                  from_free = from_free kind ob.ty element (place spot) b.birth can.own.hand m o ob can.own.forest own_buffer capacity size can.enough us;
                  to_free = ap times_of number ∙ to_free kind ob.ty element (place spot) b.birth can.own.hand m o ob can.own.forest own_buffer capacity size can.enough us;
                },
              )

          pub hand_births : c.births + 1 + length ob.slots * length (leaves_at layouts ob.ty) < 2 ^ 63 → e.births + shape.length * length leaves < 2 ^ 63
          hand_births lt =
              let x = births_e in
              let y = ap length (leaves_of ∙ ap (leaves_at layouts) (sym ty_is)) in
              let z : shape.length * length leaves ≡ length ob.slots * length (leaves_at layouts ob.ty) = (λ j. sym size_is j * y j) in
              omega (arith, x, z, lt)

          pub hand_clock : c.clock + 1 < 2 ^ 63 → e.clock < 2 ^ 63
          hand_clock lt = let x = clock_e in omega (arith, x, lt)

          module _ (g : Content) (last : Rows) (shown : Shows (kinds_of types) g last (handed_over leaves w owners b.birth f.birth 0 shape.length (seen (kinds_of types) e after))) (then : Later e g after last) where
            left_is : seen (kinds_of types) g last ≡ takes (place spot) c.births (left kind ob.ty element (place spot) b.birth can.own.hand m o ob can.own.forest own_buffer capacity size).1
            left_is =
                shown.is
                ∙ (λ j. handed_over (leaves_are j) (width_is j) (owners_are j) b.birth (number j) 0 (sym size_is j) (over_is j))
                ∙ regrown_meant kind ob.ty element (place spot) b.birth can.own.hand m o ob can.own.forest own_buffer capacity size can.enough us

            fresh_placed : at last f.birth ≡ Some f.row
            fresh_placed =
                let x = fresh_then kind ob.ty element (place spot) b.birth can.own.hand m o ob can.own.forest own_buffer capacity size can.enough us in
                still_placed (kinds_of types) e g after last shown.housed then f.birth f.row x.0 (let y = births_e in omega (arith, number, y)) (ap (λ (z : Rows). at z f.birth) same ∙ placed)
                ((λ j. at (left_is j).objects (number j)) ∙ x.1)

            pub regrown_comes : (limit : ℕ) → live_words_of c + (2 + w * capacity) ≤ limit → (s : Setting) (x : Object) → s.given.cells ≡ limit → at (seen (kinds_of types) c rows).objects b.birth ≡ Some x
                → IsBuffer (kinds_of types) (then_owned (place spot) (regrown s x.ty (parts_at types x.ty) b.birth capacity size (seen (kinds_of types) c rows))) (Ok f) g last
            regrown_comes limit room s x cells at_b = (
              seen (kinds_of types) g last,
              ap (meant s) (same_Some x ob (sym at_b ∙ can.own.there))
                  ∙ ap (λ y. then_get (then_get y carried) given)
                  (birth_room (kinds_of types) s c rows ob.ty (width element) capacity limit cells
                  (λ full. let r = subst (λ n. live_words_of c + (2 + n * capacity) ≤ limit) width_is room in absurd (omega (arith, full, r))))
                  ∙ ap (λ ss. given (c.births, without b.birth (filled_by c.births (taken_slots element ss (resized_at c.births size 0 (with_birth ob.ty (width element) capacity m)))))) (ap slots_if can.own.there)
                  ∙ (λ j. Got (sym number j, sym left_is j)),
              record { housed = shown.housed; is = refl },
              fresh_placed,
            )

            pub regrown_later : Later c g rows last
            regrown_later = later_then c e g rows after last later_e then
