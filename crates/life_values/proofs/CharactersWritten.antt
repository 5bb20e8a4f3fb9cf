-- The characters of a string are written, one slot after the other.
use Rattle.std.proofs.Common.{◌≡◌, ℕ, zero, suc, ◌+◌, ◌<◌, ◌≤◌, List, [], ◌∷◌, length, take, Option, Some, None, IfSome, refl, sym, ap, subst, ◌∙◌, arith, take_all}
use Rattle.std.proofs.lemmas.Option.{none-some, same_Some}
use Rattle.std.specs.Prelude.{map, slice_get, slice_set}
use Rattle.life_store.specs.Cells.{Cells, at, at-set_same}
use Rattle.life_store.specs.Content.{Slot, Object, Content, with_object, with_word}
use Rattle.life_store.specs.Edits.{one_word}
use Rattle.life_store.specs.Held.{filled_if, filled_slots}
use Rattle.life_store.specs.References.{Rows, object_of, HasWord}
use Rattle.life_store.specs.declared.object.ObjRef.{ObjRef}
use Rattle.life_store.proofs.MapLemmas.{set-set, set-unset, set_back}
use Rattle.life_forest.specs.Values.{AllWide}
use Rattle.life_forest.proofs.Puts.{put_in}
use Rattle.life_seen.specs.Housed.{Shows}
use Rattle.life_seen.specs.Kinds.{AreWhole, Kinds}
use Rattle.life_seen.specs.Named.{names_of}
use Rattle.life_seen.specs.Rowed.{AreRowed}
use Rattle.life_seen.specs.Seen.{object_seen, seen}
use Rattle.life_seen.proofs.PlainWords.{shows_number}
use Rattle.life_seen.proofs.Resizing.{count_seen}
use Rattle.life_words.proofs.Rowing.{plain_apart, put_still}
use Rattle.life_values.specs.Texts.{with_characters, CanWrite}
use Rattle.life_values.proofs.Owners.{with_word_is}
use Rattle.life_values.proofs.SeenAs.{seen_as, IsSeenAs}

-- ---- slots

none_filled : (ss : List Slot) (ws : List ℕ) → filled_slots ss (map one_word (take 0 ws)) ≡ ss
none_filled [] [] = refl
none_filled [] (w ∷ ws) = refl
none_filled (s ∷ ss) [] = refl
none_filled (s ∷ ss) (w ∷ ws) = refl

one_set : (xs : List ℕ) (v : ℕ) → length xs ≡ 1 → slice_set xs 0 v ≡ v ∷ []
one_set [] v e = absurd (omega (arith, e))
one_set (x ∷ []) v e = refl
one_set (x ∷ y ∷ xs) v e = absurd (omega (arith, e))

one_more : (ss : List Slot) (ws : List ℕ) (j v : ℕ) → AllWide 1 ss → slice_get ws j ≡ Some v → put_in j 0 v (filled_slots ss (map one_word (take j ws))) ≡ filled_slots ss (map one_word (take (suc j) ws))
one_more [] ws j v wide e = refl
one_more (s ∷ ss) [] j v wide e = absurd (none-some v e)
one_more (s ∷ ss) (w ∷ ws) zero v wide e =
    (λ i. record { words = (one_set s.words v wide.0 ∙ ap (λ x. x ∷ []) (sym (same_Some w v e))) i; stamp = s.stamp } ∷ sym (none_filled ss ws) i)
one_more (s ∷ ss) (w ∷ ws) (suc j) v wide e = ap (λ (rest : List Slot). record { words = w ∷ []; stamp = s.stamp } ∷ rest) (one_more ss ws j v wide.1 e)

count_filled : (ss : List Slot) (vs : List (List ℕ)) → length (filled_slots ss vs) ≡ length ss
count_filled [] vs = refl
count_filled (s ∷ ss) [] = refl
count_filled (s ∷ ss) (v ∷ vs) = ap suc (count_filled ss vs)

-- ---- the store

module _ (kinds : Kinds) (r : ObjRef) (ws : List ℕ) (c : Content) (rows : Rows) (can : CanWrite kinds r (length ws) c rows) where
  abbrev m : Content
  m = seen kinds c rows

  -- so many are written
  abbrev partly : ℕ → Object
  partly j = record can.object { slots = filled_slots can.object.slots (map one_word (take j ws)) }

  -- how far the store has come
  pub record Progress (d : Content) (new : Rows) (j : ℕ) : Type 0 where
    pub shows : Shows kinds d new (with_object r.birth (record can.object { slots = filled_slots can.object.slots (map one_word (take j ws)) }) (seen kinds c rows))
    pub rows_stay : new ≡ rows

  pub progress_begin : Progress c rows 0
  progress_begin = record {
    shows = record {
      housed = can.housed;
      is = ap (λ (x : Cells Object). record { objects = x; births = c.births; clock = c.clock }) (sym (sym (set-unset m.objects r.birth can.object) ∙ set_back m.objects r.birth can.object can.there))
          ∙ ap (λ (ss : List Slot). with_object r.birth (record can.object { slots = ss }) (seen kinds c rows)) (sym (none_filled can.object.slots ws));
    };
    rows_stay = refl;
  }

  module _ (d : Content) (new : Rows) (j : ℕ) (p : Progress d new j) where
    now : IsSeenAs kinds d new r (record can.object { slots = filled_slots can.object.slots (map one_word (take j ws)) })
    now =
        seen_as kinds d new r (partly j) p.shows.housed (ap (λ (x : Rows). at x r.birth) p.rows_stay ∙ can.placed)
        (ap (λ (x : Content). at x.objects r.birth) p.shows.is ∙ at-with)
      where
        at-with : at (with_object r.birth (partly j) (seen kinds c rows)).objects r.birth ≡ Some (partly j)
        at-with = at-set_same m.objects r.birth r.birth (partly j) refl

    pub progress_end : length ws ≤ j → Shows kinds d new (with_characters r.birth ws (seen kinds c rows))
    progress_end all = record {
      housed = p.shows.housed;
      is = p.shows.is
          ∙ ap (λ (xs : List ℕ). with_object r.birth (record can.object { slots = filled_slots can.object.slots (map one_word xs) }) (seen kinds c rows)) (take_all j ws all)
          ∙ ap (λ (x : Option Object). filled_if x r.birth (map one_word ws) (seen kinds c rows)) (sym can.there);
    }

    pub still_lives : object_of d new r ≡ None → ⊥
    still_lives none = none-some now.object (sym none ∙ now.found)

    pub slot_there : j < length ws → IfSome (object_of d new r) (HasWord j 0)
    slot_there lt =
        let a : length (object_seen kinds (names_of d new) now.object).slots ≡ length (filled_slots can.object.slots (map one_word (take j ws))) = ap (λ (x : Object). length x.slots) now.same in
        let b = count_seen kinds (names_of d new) now.object in
        let e : now.object.width ≡ can.object.width = ap (λ (x : Object). x.width) now.same in
        let f = count_filled can.object.slots (map one_word (take j ws)) in
        let s = can.count in
        let w = can.width in
        subst (λ x. IfSome x (HasWord j 0)) (sym now.found) (record { has_slot = omega (arith, a, b, f, s, lt); has_word = omega (arith, e, w) })

    pub put_keeps : ((x : Object) → AreWhole (kinds x.ty)) → (i v : ℕ) (e : Content) (after : Rows) → IfSome (object_of d new r) (λ o. e ≡ with_object r.birth (with_word i 0 v o) d) → after ≡ new → AreRowed kinds d new → AreRowed kinds e after
    put_keeps whole i v e after put same rowed =
        put_still kinds d new rowed r now.object now.found e after i 0 v (whole now.object) (plain_apart (ap (λ (x : Object). kinds x.ty 0) now.same ∙ can.plain))
        (subst (λ z. IfSome z (λ o. e ≡ with_object r.birth (with_word i 0 v o) d)) now.found put) same

    module _ (v : ℕ) (here : slice_get ws j ≡ Some v) (e : Content) (after : Rows) (put : IfSome (object_of d new r) (λ o. e ≡ with_object r.birth (with_word j 0 v o) d)) (same : after ≡ new) where
      put_is : e ≡ with_object r.birth (with_word j 0 v now.object) d
      put_is = subst (λ z. IfSome z (λ o. e ≡ with_object r.birth (with_word j 0 v o) d)) now.found put

      shows_put : Shows kinds e after (with_object r.birth (with_word j 0 v (object_seen kinds (names_of d new) now.object)) (seen kinds d new))
      shows_put =
          shows_number kinds d new p.shows.housed r j 0 v now.object now.found (ap (λ (x : Object). kinds x.ty 0) now.same ∙ can.plain) e after put_is same

      next_is : with_word j 0 v (partly j) ≡ partly (suc j)
      next_is = with_word_is j 0 v (partly j) ∙ ap (λ (ss : List Slot). record can.object { slots = ss }) (one_more can.object.slots ws j v can.long here)

      pub progress_next : Progress e after (j + 1)
      progress_next = record {
        shows = record {
          housed = shows_put.housed;
          is =
              let z : suc j ≡ j + 1 = omega arith in
              shows_put.is
              ∙ (λ i. with_object r.birth (with_word j 0 v (now.same i)) (p.shows.is i))
              ∙ ap (λ (x : Cells Object). record { objects = x; births = c.births; clock = c.clock }) (set-set m.objects r.birth (partly j) (with_word j 0 v (partly j)))
              ∙ ap (λ (x : Object). with_object r.birth x (seen kinds c rows)) next_is
              ∙ ap (λ k. with_object r.birth (partly k) (seen kinds c rows)) z;
        };
        rows_stay = same ∙ p.rows_stay;
      }
