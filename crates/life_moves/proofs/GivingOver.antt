-- A store goes the way of the meaning where an owner gives what it has to another.
use Rattle.std.proofs.Common.{◌≡◌, ℕ, suc, ◌+◌, ◌<◌, ◌≤◌, ◌^◌, true, false, Bool, List, [], ◌∷◌, length, Option, Some, None, MatchOption, IfSome, Ok, Err, refl, sym, ap, subst, ◌∙◌, arith}
use Rattle.std.proofs.lemmas.Option.{same_Some}
use Rattle.std.specs.Prelude.{option_map, slice_get}
use Rattle.life_types.specs.Trees.{IsOrdered}
use Rattle.life_types.specs.Types.{Types}
use Rattle.life_store.specs.Cells.{at}
use Rattle.life_store.specs.Content.{Object, Content, with_object, with_word, word_at}
use Rattle.life_store.specs.Doing.{moved_to}
use Rattle.life_store.specs.Held.{owned_in, owner_word, words_at, wrote}
use Rattle.life_store.specs.Kinds.{Owner, kind_in}
use Rattle.life_store.specs.Owners.{ended, taken, Words}
use Rattle.life_store.specs.Parts.{Parts, parts_at, width}
use Rattle.life_store.specs.References.{Rows, asked_of, object_of, shape_of, HasWord}
use Rattle.life_store.specs.declared.object.Dead.{Dead}
use Rattle.life_store.specs.declared.object.ObjRef.{ObjRef}
use Rattle.life_store.specs.declared.object.Shape.{Shape}
use Rattle.life_forest.specs.Kinds.{kinds_of as forest_kinds}
use Rattle.life_forest.specs.Owned.{times}
use Rattle.life_forest.specs.Typed.{IsStore}
use Rattle.life_forest.specs.Values.{owned_of}
use Rattle.life_forest.specs.Within.{LiesWithin}
use Rattle.life_forest.proofs.Above.{Remains}
use Rattle.life_forest.proofs.Counting.{one_same}
use Rattle.life_seen.specs.Housed.{Shows, Later}
use Rattle.life_seen.specs.Kinds.{kinds_of, Kinds as Seen}
use Rattle.life_seen.specs.Named.{names_of}
use Rattle.life_seen.specs.Rowed.{AreRowed}
use Rattle.life_seen.specs.Seen.{object_seen, seen}
use Rattle.life_seen.proofs.References.{later_then}
use Rattle.life_seen.proofs.Resizing.{count_seen, shape_seen}
use Rattle.life_words.specs.Owning.{number_of, with_owner, Holds, IsOwner}
use Rattle.life_values.specs.Emptied.{CanEmpty}
use Rattle.life_values.specs.Ended.{ended_number}
use Rattle.life_values.specs.Ending.{AreSized}
use Rattle.life_values.specs.Layouts.{flat, leaves_at, owner_words, owners_at, AreLaid}
use Rattle.life_values.specs.Moved.{place}
use Rattle.life_moves.specs.MovedTo.{given_to, may_give, taken_over, CanMoveTo, CanTakeOver, Gives}
use Rattle.life_values.specs.Taken.{leaves_taken, CanTake}
use Rattle.life_values.specs.declared.layout.Layout.{Layout}
use Rattle.life_values.specs.declared.layout.Leaf.{Leaf}
use Rattle.life_values.specs.declared.spot.Spot.{Spot}
use Rattle.life_values.proofs.Filling.{still_placed}
use Rattle.life_values.proofs.Flat.{are_owners, owner_words_own}
use Rattle.life_moves.proofs.GivenMeant.{first_is, first_owns, full, full_like, full_there, gives, gives_none, left, left_is, left_store, one_leaf, one_owner, one_wide, owns_first, remains, take_is}
use Rattle.life_values.proofs.LeafOwners.{characters_own, leaf_within}
use Rattle.life_values.proofs.OneOwner.{leaves_by_parts, owners_by_parts}
use Rattle.life_values.proofs.Popping.{ok_shape}
use Rattle.life_moves.proofs.ReplacedInStores.{none_replaced, some_replaced}
use Rattle.life_values.proofs.SeenAs.{seen_as, IsSeenAs}
use Rattle.life_values.proofs.StillRowed.{owner_keeps, OwnerKeeps}

-- an owner's word is within its value
pub owner_inside : (p : Parts) (u : ℕ) → kind_in p u ≡ Owner → u < width p
owner_inside p u e =
    let j = (are_owners p).complete u e in
    let r = owner_words_own p 0 j.0 u j.1 in
    let s = r.is in
    let l = r.within in
    omega (arith, s, l)

-- sizes are right in the store of a run
pub sized_store : (types : Types) (hand : ℕ → ℕ) (m : Content) → IsStore types hand m → AreSized (kinds_of types) m
sized_store types hand m store n o there =
    let fit = store.fit n o there in
    record {
      wide = fit.slots;
      owners = λ u own. let l = owner_inside (parts_at types o.ty) u own in let e = fit.width in omega (arith, l, e);
    }

module _ (types : Types) (ordered : IsOrdered types) (depth : ℕ) (from : ObjRef) (to : Spot) (c : Content) (rows : Rows) (can : CanMoveTo types depth from to c rows) where
  abbrev m : Content
  m = seen (kinds_of types) c rows

  abbrev o : Object
  o = can.source

  abbrev p : Parts
  p = parts_at types can.source.ty

  abbrev took : Words
  took = taken (parts_at types can.source.ty) (words_at m from.birth 0 0 (width (parts_at types can.source.ty))) m

  abbrev after_taking : Content
  after_taking = wrote from.birth 0 0 took.0 took.1

  abbrev whole : Object
  whole = full types ordered can.hand m can.store from.birth can.source can.there can.slot can.owns

  abbrev given : Content
  given = left types ordered can.hand m can.store from.birth can.source can.there can.slot can.owns

  now : IsSeenAs (kinds_of types) c rows from o
  now = seen_as (kinds_of types) c rows from o can.housed can.placed can.there

  born : from.birth < c.births
  born = can.store.forest.births from.birth o can.there

  pub not_dead : (dead : Dead) → asked_of (object_of c rows from) shape_of ≡ Err dead → ⊥
  not_dead dead e = clash (sym (ap (λ (y : Option Object). asked_of y shape_of) now.found) ∙ e)
    where
      clash : asked_of (Some now.object) shape_of ≡ Err dead → ⊥
      clash h = cc

  -- the first word of what is seen as the owner, or as one like it
  has : (d : Content) (new : Rows) (x : Object) → IsSeenAs (kinds_of types) d new from x → length x.slots ≡ length o.slots → x.width ≡ o.width → IfSome (object_of d new from) (HasWord 0 0)
  has d new x s count wide =
      let a : length (object_seen (kinds_of types) (names_of d new) s.object).slots ≡ length x.slots = ap (λ (y : Object). length y.slots) s.same in
      let b = count_seen (kinds_of types) (names_of d new) s.object in
      let e : s.object.width ≡ x.width = ap (λ (y : Object). y.width) s.same in
      let f = can.slot in
      let g = (can.store.fit from.birth o can.there).width in
      let h = one_wide p can.owns in
      subst (λ y. IfSome y (HasWord 0 0)) (sym s.found) (record { has_slot = omega (arith, a, b, count, f); has_word = omega (arith, e, wide, g, h) })

  pub word_there : IfSome (object_of c rows from) (HasWord 0 0)
  word_there = has c rows o now refl refl

  owner_now : IsOwner (kinds_of types) c rows from 0 now.object
  owner_now = record { housed = can.housed; there = now.found; owner = ap (λ (x : Object). kinds_of types x.ty 0) now.same ∙ first_owns p can.owns }

  module _ (layouts : List Layout) (laid : AreLaid types layouts) (shape : Shape) (asked : asked_of (object_of c rows from) shape_of ≡ Ok shape) (leaves : List Leaf) (leaves_of : leaves ≡ leaves_at layouts shape.ty) where
    ty_is : o.ty ≡ shape.ty
    ty_is = ap (λ (s : Shape). s.ty) (ap shape_of (sym now.same) ∙ shape_seen (kinds_of types) (names_of c rows) now.object ∙ ok_shape now.object now.found asked)

    leaves_are : leaves ≡ flat 0 p
    leaves_are = leaves_of ∙ leaves_by_parts types layouts laid shape.ty ∙ ap (λ ty. flat 0 (parts_at types ty)) (sym ty_is)

    -- ---- whether there is something to give

    module _ (answer : Bool) (told : (kinds : Seen) (x : Object) → IsOwner kinds c rows from 0 x → answer ≡ may_give leaves (owned_in (word_at (object_seen kinds (names_of c rows) x) 0 0))) where
      may_is : answer ≡ may_give (flat 0 p) (owned_in (word_at o 0 0))
      may_is = told (kinds_of types) now.object owner_now ∙ (λ j. may_give (leaves_are j) (owned_in (word_at (now.same j) 0 0)))

      pub none_given : answer ≡ false → (x : Object) → at (seen (kinds_of types) c rows).objects from.birth ≡ Some x → Gives (kinds_of types) (given_to (parts_at types x.ty) (place to) from.birth (seen (kinds_of types) c rows)) false c rows
      none_given no_gift x there =
          ap (λ (y : Object). given_to (parts_at types y.ty) (place to) from.birth m) (same_Some x o (sym there ∙ can.there))
          ∙ gives_none types ordered can.hand m can.store from.birth o can.there can.slot can.owns (place to) (sym may_is ∙ no_gift)

      pub some_given : answer ≡ true → (f : Content) (last : Rows) → Shows (kinds_of types) f last (moved_to p (place to) from.birth took)
          → (x : Object) → at (seen (kinds_of types) c rows).objects from.birth ≡ Some x → Gives (kinds_of types) (given_to (parts_at types x.ty) (place to) from.birth (seen (kinds_of types) c rows)) true f last
      some_given gift f last shows x there = (
        moved_to p (place to) from.birth took,
        ap (λ (y : Object). given_to (parts_at types y.ty) (place to) from.birth m) (same_Some x o (sym there ∙ can.there))
            ∙ gives types ordered can.hand m can.store from.birth o can.there can.slot can.owns (place to) (sym may_is ∙ gift),
        shows,
      )

    -- ---- its value is taken

    pub leaf_count : length leaves ≡ 1
    leaf_count = ap length leaves_are ∙ one_leaf p can.owns

    pub take_can : CanTake (kinds_of types) (forest_kinds types) (record { object = from; slot = 0; word = 0 }) leaves c rows
    take_can =
        let fit = can.store.fit from.birth o can.there in
        record {
          housed = can.housed;
          placed = can.placed;
          hand = can.hand;
          forest = can.store.forest;
          object = o;
          there = can.there;
          wide = fit.slots;
          slot = can.slot;
          own = λ j l ty at_j h.
              let q = characters_own p 0 j l ty (ap (λ ls. slice_get ls j) (sym leaves_are) ∙ at_j) h in
              let z : 0 + l.word ≡ q.word = (let x = q.is in omega (arith, x)) in
              let lt = q.within in
              let e = fit.width in
              (ap (kinds_of types o.ty) z ∙ q.owner, omega (arith, z, lt, e));
          small = λ j l at_j. let q = leaf_within p 0 j l (ap (λ ls. slice_get ls j) (sym leaves_are) ∙ at_j) in let e = one_wide p can.owns in omega (arith, q, e);
        }

    module _ (d : Content) (new : Rows) (shows : Shows (kinds_of types) d new (leaves_taken from.birth 0 0 leaves (seen (kinds_of types) c rows))) (later : Later c d rows new) where
      seen_d : seen (kinds_of types) d new ≡ after_taking
      seen_d = shows.is ∙ ap (λ ls. leaves_taken from.birth 0 0 ls m) leaves_are ∙ take_is types ordered can.hand m can.store from.birth o can.there can.slot can.owns

      whole_d : at (seen (kinds_of types) d new).objects from.birth ≡ Some whole
      whole_d = ap (λ (x : Content). at x.objects from.birth) seen_d ∙ full_there types ordered can.hand m can.store from.birth o can.there can.slot can.owns

      placed_d : at new from.birth ≡ Some from.row
      placed_d = still_placed (kinds_of types) c d rows new shows.housed later from.birth from.row whole born can.placed whole_d

      now_d : IsSeenAs (kinds_of types) d new from whole
      now_d = seen_as (kinds_of types) d new from whole shows.housed placed_d whole_d

      like : (length whole.slots ≡ length o.slots) × (whole.width ≡ o.width) × (whole.ty ≡ o.ty)
      like = let l = full_like types ordered can.hand m can.store from.birth o can.there can.slot can.owns in (l.count, l.width, l.ty)

      pub word_taken : IfSome (object_of d new from) (HasWord 0 0)
      word_taken = has d new whole now_d like.0 like.1

      owner_d : kinds_of types whole.ty 0 ≡ Owner
      owner_d = ap (λ ty. kinds_of types ty 0) like.2 ∙ first_owns p can.owns

      is_owner_d : IsOwner (kinds_of types) d new from 0 now_d.object
      is_owner_d = record { housed = shows.housed; there = now_d.found; owner = ap (λ (x : Object). kinds_of types x.ty 0) now_d.same ∙ owner_d }

      pub out_keeps : (e : Content) (after : Rows) → OwnerKeeps d new from 0 e after → AreRowed (kinds_of types) d new → AreRowed (kinds_of types) e after
      out_keeps = owner_keeps types d new from whole shows.housed placed_d whole_d 0 owner_d

      -- ---- it is taken out

      module _ (found : Option ObjRef) (told : (ks : Seen) (x : Object) → IsOwner ks d new from 0 x → Holds ks d new 0 0 x found)
          (e : Content) (after : Rows) (out : (ks : Seen) (x : Object) → IsOwner ks d new from 0 x → Shows ks e after (with_owner ks d new from 0 0 x None)) (same : after ≡ new) where
        shows_given : Shows (kinds_of types) e after given
        shows_given =
            let s : Shows (kinds_of types) e after (with_object from.birth (with_word 0 0 0 whole) (seen (kinds_of types) d new)) =
            subst (λ (x : Object). Shows (kinds_of types) e after (with_object from.birth (with_word 0 0 0 x) (seen (kinds_of types) d new))) now_d.same (out (kinds_of types) now_d.object is_owner_d) in
            record {
              housed = s.housed;
              is = s.is ∙ ap (with_object from.birth (with_word 0 0 0 whole)) seen_d ∙ left_is types ordered can.hand m can.store from.birth o can.there can.slot can.owns;
            }

        held : MatchOption found (word_at whole 0 0 ≡ owner_word None) (λ q. (word_at whole 0 0 ≡ owner_word (Some q.birth)) × (at new q.birth ≡ Some q.row))
        held =
            subst (λ (x : Object). MatchOption found (word_at x 0 0 ≡ owner_word None) (λ q. (word_at x 0 0 ≡ owner_word (Some q.birth)) × (at new q.birth ≡ Some q.row))) now_d.same (told (kinds_of types) now_d.object is_owner_d)

        later_e : Later c e rows after
        later_e =
            later_then c d e rows new after later
            (record {
              births = let a = ap (λ (x : Content). x.births) shows_given.is in let b = ap (λ (x : Content). x.births) seen_d in let z : given.births ≡ after_taking.births = ap (λ (x : Content). x.births) (sym (left_is types ordered can.hand m can.store from.birth o can.there can.slot can.owns)) in omega (arith, a, b, z);
              row = λ k q lt t. ap (λ (x : Rows). at x k) (sym same) ∙ t;
            })

        abbrev hand_e : ℕ → ℕ
        hand_e k = times (owned_of p took.0) k + can.hand k

        store_given : IsStore types hand_e given
        store_given = left_store types ordered can.hand m can.store from.birth o can.there can.slot can.owns

        store_e : IsStore types hand_e (seen (kinds_of types) e after)
        store_e = subst (IsStore types hand_e) (sym shows_given.is) store_given

        target : Remains given to.object.birth can.target
        target = remains types ordered can.hand m can.store from.birth o can.there can.slot can.owns to.object.birth to.word can.target can.target_there can.within

        target_e : at (seen (kinds_of types) e after).objects to.object.birth ≡ Some target.object
        target_e = ap (λ (x : Content). at x.objects to.object.birth) shows_given.is ∙ target.there

        within_e : LiesWithin types target.object.ty to.word o.ty
        within_e = subst (λ ty. LiesWithin types ty to.word o.ty) (sym target.type) can.within

        slot_e : to.slot < length target.object.slots
        slot_e = let a = target.size in let b = can.target_slot in omega (arith, a, b)

        deep_e : (forest_kinds types).rank target.object.ty ≤ depth
        deep_e = let a = ap (forest_kinds types).rank target.type in let b = can.deep in omega (arith, a, b)

        module _ (owners : List ℕ) (owners_of : owners ≡ owners_at layouts shape.ty) (small : to.word < 2 ^ 64) where
          owners_are : owners ≡ owner_words (flat 0 p)
          owners_are = owners_of ∙ owners_by_parts types layouts laid shape.ty ∙ ap (λ ty. owner_words (flat 0 (parts_at types ty))) (sym ty_is)

          can_empty : CanEmpty (kinds_of types) (forest_kinds types) depth to owners e after
          can_empty =
              let one = one_wide p can.owns in
              record {
                housed = shows_given.housed;
                placed = still_placed (kinds_of types) c e rows after shows_given.housed later_e to.object.birth to.object.row target.object (can.housed.below to.object.birth to.object.row can.to_placed) can.to_placed target_e;
                sized = sized_store types hand_e (seen (kinds_of types) e after) store_e;
                hand = hand_e;
                forest = store_e.forest;
                object = target.object;
                there = target_e;
                slot = slot_e;
                own = λ j u at_j.
                    let q = owner_words_own p 0 j u (ap (λ xs. slice_get xs j) (sym owners_are) ∙ at_j) in
                    let z : u ≡ q.word = (let x = q.is in omega (arith, x)) in
                    let lt : u < width p = (let x = q.within in omega (arith, z, x)) in
                    within_e.words u lt ∙ ap (kind_in p) z ∙ q.owner;
                small = λ j u at_j.
                    let q = owner_words_own p 0 j u (ap (λ xs. slice_get xs j) (sym owners_are) ∙ at_j) in
                    let x = q.is in
                    let y = q.within in
                    omega (arith, x, y, one, small);
                deep = deep_e;
              }

          pub can_over : CanTakeOver (kinds_of types) (forest_kinds types) depth to owners found e after
          unfolding can_empty
          can_over = go found held
            where
              go : (x : Option ObjRef) → MatchOption x (word_at whole 0 0 ≡ owner_word None) (λ q. (word_at whole 0 0 ≡ owner_word (Some q.birth)) × (at new q.birth ≡ Some q.row)) → CanTakeOver (kinds_of types) (forest_kinds types) depth to owners x e after
              go None h = can_empty
              go (Some q) h = record {
                empty = can_empty;
                one = owners_are ∙ one_owner p can.owns;
                placed = ap (λ (x : Rows). at x q.birth) same ∙ h.1;
                held =
                    let is : owned_of p took.0 ≡ q.birth ∷ [] =
                    ap (owned_of p) (first_is types ordered can.hand m can.store from.birth o can.there can.slot can.owns ∙ ap (λ (x : ℕ). x ∷ []) h.0) ∙ owns_first p can.owns (suc q.birth) in
                    let t = ap (λ xs. times xs q.birth) is in
                    let s = one_same q.birth q.birth refl in
                    omega (arith, t, s);
              }

          module _ (f : Content) (last : Rows)
              (over : Shows (kinds_of types) f last (taken_over (ended_number (forest_kinds types) depth) to.object.birth to.slot to.word owners (option_map number_of found) (seen (kinds_of types) e after))) where
            over_is : taken_over (ended_number (forest_kinds types) depth) to.object.birth to.slot to.word owners (option_map number_of found) (seen (kinds_of types) e after) ≡ moved_to p (place to) from.birth took
            over_is =
                (λ j. taken_over (ended_number (forest_kinds types) depth) to.object.birth to.slot to.word (owners_are j) (option_map number_of found) (shows_given.is j))
                ∙ go found held
              where
                go : (x : Option ObjRef) → MatchOption x (word_at whole 0 0 ≡ owner_word None) (λ q. (word_at whole 0 0 ≡ owner_word (Some q.birth)) × (at new q.birth ≡ Some q.row))
                    → taken_over (ended_number (forest_kinds types) depth) to.object.birth to.slot to.word (owner_words (flat 0 p)) (option_map number_of x) given ≡ wrote to.object.birth to.slot to.word took.0 (ended p (words_at given to.object.birth to.slot to.word (width p)) given)
                go None h =
                    none_replaced types ordered hand_e given store_given to.object.birth to.slot to.word o.ty target.object target.there within_e slot_e depth deep_e (one_owner p can.owns)
                    ∙ ap (λ xs. wrote to.object.birth to.slot to.word xs (ended p (words_at given to.object.birth to.slot to.word (width p)) given))
                    (sym (first_is types ordered can.hand m can.store from.birth o can.there can.slot can.owns ∙ ap (λ (x : ℕ). x ∷ []) h))
                go (Some q) h =
                    some_replaced types ordered hand_e given store_given to.object.birth to.slot to.word o.ty target.object target.there within_e slot_e depth deep_e (one_owner p can.owns) q.birth
                    ∙ ap (λ xs. wrote to.object.birth to.slot to.word xs (ended p (words_at given to.object.birth to.slot to.word (width p)) given))
                    (sym (first_is types ordered can.hand m can.store from.birth o can.there can.slot can.owns ∙ ap (λ (x : ℕ). x ∷ []) h.0))

            pub moved_shows : Shows (kinds_of types) f last (moved_to p (place to) from.birth took)
            moved_shows = record { housed = over.housed; is = over.is ∙ over_is }

            pub moved_later : Later e f after last → Later c f rows last
            moved_later then = later_then c e f rows after last later_e then
