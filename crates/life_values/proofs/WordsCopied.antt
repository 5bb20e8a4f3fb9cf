-- A store goes the way of the meaning where the words of a value are written into another place, one after the other.
use Rattle.std.proofs.Common.{◌≡◌, ◌⊎◌, ℕ, zero, suc, ◌+◌, ◌-◌, ◌<◌, ◌≤◌, List, [], ◌∷◌, length, take, drop, Option, Some, None, IfSome, Ok, Err, refl, sym, ap, subst, ◌∙◌, arith, inl, inr, ⊎_elim}
use Rattle.std.proofs.lemmas.Option.{none-some, same_Some}
use Rattle.std.specs.Prelude.{slice_get, slice_set}
use Rattle.life_store.specs.Cells.{Cells, at, at-set_same, at-set_other}
use Rattle.life_store.specs.Content.{Slot, Object, Content, with_object, with_word, word_at}
use Rattle.life_store.specs.Held.{slots_if, slot_words, with_words, words_at, words_if, wrote, wrote_if}
use Rattle.life_store.specs.Places.{spot_words, wrote_spot}
use Rattle.life_store.specs.References.{Rows, asked_of, object_of, HasWord}
use Rattle.life_store.specs.declared.object.Dead.{Dead}
use Rattle.life_store.specs.declared.object.ObjRef.{ObjRef}
use Rattle.life_store.proofs.MapLemmas.{one_or_apart, set-unset, set_back}
use Rattle.life_forest.specs.Values.{AllWide}
use Rattle.life_forest.proofs.Puts.{put_in}
use Rattle.life_seen.specs.Housed.{Shows, Later, WordLives}
use Rattle.life_seen.specs.Kinds.{Kinds}
use Rattle.life_seen.specs.Named.{names_of}
use Rattle.life_seen.specs.Seen.{object_seen, seen, word_seen}
use Rattle.life_seen.proofs.Calls.{shows_put}
use Rattle.life_seen.proofs.References.{found, later_same, later_then}
use Rattle.life_seen.proofs.Resizing.{count_seen}
use Rattle.life_seen.proofs.Views.{object_read, slot_lives}
use Rattle.life_values.specs.Moved.{place, CanCopyWords}
use Rattle.life_values.specs.declared.spot.Spot.{Spot}
use Rattle.life_values.proofs.Owners.{with_word_is}
use Rattle.life_values.proofs.PoppedMeant.{wide_slot}
use Rattle.life_values.proofs.ReadWords.{cut, in_slot}
use Rattle.life_values.proofs.Renewed.{word_like, word_wide}
use Rattle.life_values.proofs.Zeroing.{IsLike}
use Rattle.life_values.proofs.Zeros.{wrote_with}
use Rattle.life_values.proofs.SeenAs.{seen_as, IsSeenAs}

pub ok_word : {o : Option Object} {y : ℕ} (i k : ℕ) (x : Object) → o ≡ Some x → asked_of o (λ (z : Object). word_at z i k) ≡ Ok y → y ≡ word_at x i k
ok_word {o = o} {y = y} i k x e asked = same (sym (ap (λ (z : Option Object). asked_of z (λ (v : Object). word_at v i k)) e) ∙ asked)
  where
    same : asked_of (Some x) (λ (v : Object). word_at v i k) ≡ Ok y → y ≡ word_at x i k
    same h = cc

-- ---- a word is written, and others are read

abbrev IsBeside : (written first count : ℕ) → Type 0
IsBeside b a n = (b < a) ⊎ (a + n ≤ b)

cut_beside : (ws : List ℕ) (b x a n : ℕ) → IsBeside b a n → take n (drop a (slice_set ws b x)) ≡ take n (drop a ws)
cut_beside [] b x a n h = refl
cut_beside (y ∷ ws) zero x zero zero h = refl
cut_beside (y ∷ ws) zero x zero (suc n) h = absurd (⊎_elim (λ l. omega (arith, l)) (λ l. omega (arith, l)) h)
cut_beside (y ∷ ws) zero x (suc a) n h = refl
cut_beside (y ∷ ws) (suc b) x zero zero h = refl
cut_beside (y ∷ ws) (suc b) x zero (suc n) h =
    ap (λ xs. y ∷ xs) (cut_beside ws b x zero n (⊎_elim (λ l. absurd (omega (arith, l))) (λ l. inr (omega (arith, l))) h))
cut_beside (y ∷ ws) (suc b) x (suc a) n h = cut_beside ws b x a n (⊎_elim (λ l. inl (omega (arith, l))) (λ l. inr (omega (arith, l))) h)

slots_beside : (ss : List Slot) (i j b x a n : ℕ) → (i ≡ j → IsBeside b a n) → take n (drop a (words_if (slice_get (put_in j b x ss) i))) ≡ take n (drop a (words_if (slice_get ss i)))
slots_beside [] i j b x a n h = refl
slots_beside (s ∷ ss) zero zero b x a n h = cut_beside s.words b x a n (h refl)
slots_beside (s ∷ ss) zero (suc j) b x a n h = refl
slots_beside (s ∷ ss) (suc i) zero b x a n h = refl
slots_beside (s ∷ ss) (suc i) (suc j) b x a n h = slots_beside ss i j b x a n (λ e. h (ap suc e))

words_beside : (o : Object) (i j b x a n : ℕ) → (i ≡ j → IsBeside b a n) → take n (drop a (words_if (slice_get (with_word j b x o).slots i))) ≡ take n (drop a (words_if (slice_get o.slots i)))
words_beside o i j b x a n h = ap (λ (p : Object). take n (drop a (words_if (slice_get p.slots i)))) (with_word_is j b x o) ∙ slots_beside o.slots i j b x a n h

-- an object behind a word that was written, perhaps its own
pub record IsRead (m : Content) (q : ℕ) (i a n : ℕ) (o : Object) : Type 0 where
  pub object : Object
  pub there : at m.objects q ≡ Some object
  pub like : IsLike object o
  pub long : AllWide object.width object.slots
  pub words : take n (drop a (words_if (slice_get object.slots i))) ≡ take n (drop a (words_if (slice_get o.slots i)))

still_read : (m : Content) (q r : ℕ) (o p : Object) → at m.objects q ≡ Some o → at m.objects r ≡ Some p → AllWide o.width o.slots → (i j b x a n : ℕ) → (q ≡ r → i ≡ j → IsBeside b a n)
    → IsRead (with_object r (with_word j b x p) m) q i a n o
still_read m q r o p at_q at_r wide i j b x a n beside =
    one_or_apart r q
    (λ e. let same : o ≡ p = same_Some o p (sym at_q ∙ ap (at m.objects) (sym e) ∙ at_r) in
    record {
      object = with_word j b x o;
      there = at-set_same m.objects r q (with_word j b x p) e ∙ ap (λ (y : Object). Some (with_word j b x y)) (sym same);
      like = word_like j b x o;
      long = word_wide j b x o wide;
      words = words_beside o i j b x a n (beside (sym e));
    })
    (λ ne. record {
      object = o;
      there = at-set_other m.objects r q (with_word j b x p) ne ∙ at_q;
      like = record { ty = refl; width = refl; capacity = refl; count = refl };
      long = wide;
      words = refl;
    })

module _ (kinds : Kinds) (from to : Spot) (w : ℕ) where
  abbrev left_of : ℕ → Content → List ℕ
  left_of k m = words_at m from.object.birth from.slot (from.word + k) (w - k)

  abbrev then_of : ℕ → List ℕ → Content → Content
  then_of k vs m = wrote to.object.birth to.slot (to.word + k) vs m

  -- how far the store has come
  pub record Progress (c : Content) (rows : Rows) (d : Content) (new : Rows) (k : ℕ) : Type 0 where
    pub can : CanCopyWords kinds from to w d new
    pub is : wrote to.object.birth to.slot (to.word + k) (words_at (seen kinds d new) from.object.birth from.slot (from.word + k) (w - k)) (seen kinds d new)
        ≡ wrote_spot (place to) (spot_words (seen kinds c rows) (place from) w) (seen kinds c rows)
    pub later : Later c d rows new

  pub progress_begin : (c : Content) (rows : Rows) → CanCopyWords kinds from to w c rows → Progress c rows c rows 0
  progress_begin c rows can = record {
    can = can;
    is =
        let z : w - 0 ≡ w = omega arith in
        let a : from.word + 0 ≡ from.word = omega arith in
        let b : to.word + 0 ≡ to.word = omega arith in
        (λ j. wrote to.object.birth to.slot (b j) (words_at (seen kinds c rows) from.object.birth from.slot (a j) (z j)) (seen kinds c rows));
    later = later_same c c rows (omega arith);
  }

  module _ (c : Content) (rows : Rows) (d : Content) (new : Rows) (k : ℕ) (p : Progress c rows d new k) where
    abbrev m : Content
    m = seen kinds d new

    source_now : IsSeenAs kinds d new from.object p.can.source
    source_now = seen_as kinds d new from.object p.can.source p.can.housed p.can.from_placed p.can.source_there

    target_now : IsSeenAs kinds d new to.object p.can.target
    target_now = seen_as kinds d new to.object p.can.target p.can.housed p.can.to_placed p.can.target_there

    pub progress_end : w ≤ k → Shows kinds d new (wrote_spot (place to) (spot_words (seen kinds c rows) (place from) w) (seen kinds c rows))
    progress_end all = record {
      housed = p.can.housed;
      is =
          let z : w - k ≡ 0 = omega (arith, all) in
          ap (λ (x : Cells Object). record { objects = x; births = d.births; clock = d.clock }) (sym (sym (set-unset m.objects to.object.birth p.can.target) ∙ set_back m.objects to.object.birth p.can.target p.can.target_there))
          ∙ ap (λ (x : Option Object). wrote_if x to.object.birth to.slot (to.word + k) [] (seen kinds d new)) (sym p.can.target_there)
          ∙ ap (λ vs. wrote to.object.birth to.slot (to.word + k) vs (seen kinds d new))
          (sym (ap (λ n. words_at (seen kinds d new) from.object.birth from.slot (from.word + k) n) z ∙ none (drop (from.word + k) (slot_words (seen kinds d new) from.object.birth from.slot))))
          ∙ p.is;
    }
      where
        none : (xs : List ℕ) → take 0 xs ≡ []
        none [] = refl
        none (x ∷ xs) = refl

    module _ (lt : k < w) where
      has : (r : ObjRef) (o : Object) (i u : ℕ) → IsSeenAs kinds d new r o → i < length o.slots → u + w ≤ o.width → IfSome (object_of d new r) (HasWord i (u + k))
      has r o i u s slot width =
          let a : length (object_seen kinds (names_of d new) s.object).slots ≡ length o.slots = ap (λ (x : Object). length x.slots) s.same in
          let b = count_seen kinds (names_of d new) s.object in
          let e : s.object.width ≡ o.width = ap (λ (x : Object). x.width) s.same in
          subst (λ x. IfSome x (HasWord i (u + k))) (sym s.found) (record { has_slot = omega (arith, a, b, slot); has_word = omega (arith, e, width, lt) })

      pub can_get : IfSome (object_of d new from.object) (HasWord from.slot (from.word + k))
      can_get = has from.object p.can.source from.slot from.word source_now p.can.source_slot p.can.source_width

      pub can_put : IfSome (object_of d new to.object) (HasWord to.slot (to.word + k))
      can_put = has to.object p.can.target to.slot to.word target_now p.can.target_slot p.can.target_width

      pub from_lives : (dead : Dead) → asked_of (object_of d new from.object) (λ (o : Object). word_at o from.slot (from.word + k)) ≡ Err dead → ⊥
      from_lives dead e = clash (sym (ap (λ (y : Option Object). asked_of y (λ (o : Object). word_at o from.slot (from.word + k))) source_now.found) ∙ e)
        where
          clash : asked_of (Some source_now.object) (λ (o : Object). word_at o from.slot (from.word + k)) ≡ Err dead → ⊥
          clash h = cc

      pub to_lives : object_of d new to.object ≡ None → ⊥
      to_lives none = none-some target_now.object (sym none ∙ target_now.found)

      module _ (y : ℕ) (got : asked_of (object_of d new from.object) (λ (o : Object). word_at o from.slot (from.word + k)) ≡ Ok y)
          (e : Content) (after : Rows) (put : IfSome (object_of d new to.object) (λ o. e ≡ with_object to.object.birth (with_word to.slot (to.word + k) y o) d)) (same : after ≡ new) where
        abbrev x : ℕ
        x = word_at p.can.source from.slot (from.word + k)

        y_is : y ≡ word_at source_now.object from.slot (from.word + k)
        y_is = ok_word from.slot (from.word + k) source_now.object source_now.found got

        kinds_are : kinds source_now.object.ty (from.word + k) ≡ kinds target_now.object.ty (to.word + k)
        kinds_are =
            ap (λ (o : Object). kinds o.ty (from.word + k)) source_now.same ∙ p.can.alike k lt ∙ ap (λ (o : Object). kinds o.ty (to.word + k)) (sym target_now.same)

        lives : WordLives (names_of d new) (kinds target_now.object.ty (to.word + k)) y
        lives =
            subst (λ f. WordLives (names_of d new) f y) kinds_are
            (subst (WordLives (names_of d new) (kinds source_now.object.ty (from.word + k))) (sym y_is)
            (slot_lives (names_of d new) (kinds source_now.object.ty) source_now.object.slots from.slot (from.word + k)
            (p.can.housed.named.owners from.object.birth source_now.object (found d new from.object source_now.object source_now.found).there)))

        seen_is : word_seen (names_of d new) (kinds target_now.object.ty (to.word + k)) y ≡ x
        seen_is =
            (λ j. word_seen (names_of d new) (sym kinds_are j) (y_is j))
            ∙ sym (object_read kinds (names_of d new) source_now.object from.slot (from.word + k))
            ∙ ap (λ (o : Object). word_at o from.slot (from.word + k)) source_now.same

        put_is : e ≡ with_object to.object.birth (with_word to.slot (to.word + k) y target_now.object) d
        put_is = subst (λ z. IfSome z (λ o. e ≡ with_object to.object.birth (with_word to.slot (to.word + k) y o) d)) target_now.found put

        abbrev next : Object
        next = with_word to.slot (to.word + k) x p.can.target

        shows : Shows kinds e after (with_object to.object.birth next (seen kinds d new))
        shows = subst (λ (o : Object). Shows kinds e after (with_object to.object.birth (with_word to.slot (to.word + k) x o) (seen kinds d new))) target_now.same
            (shows_put kinds d new p.can.housed e after to.object to.slot (to.word + k) y x target_now.object target_now.found lives seen_is put_is same)

        source_then : IsRead (with_object to.object.birth next (seen kinds d new)) from.object.birth from.slot (from.word + (k + 1)) (w - (k + 1)) p.can.source
        source_then =
            still_read (seen kinds d new) from.object.birth to.object.birth p.can.source p.can.target p.can.source_there p.can.target_there p.can.source_long from.slot to.slot (to.word + k) x (from.word + (k + 1)) (w - (k + 1))
            (λ one slot. ⊎_elim (λ le. inl (omega (arith, le))) (λ le. inr (omega (arith, le, lt))) (p.can.apart one slot))

        target_then : at (with_object to.object.birth next (seen kinds d new)).objects to.object.birth ≡ Some next
        target_then = at-set_same m.objects to.object.birth to.object.birth next refl

        -- the words that are left
        words_are : words_at (seen kinds d new) from.object.birth from.slot (from.word + k) (w - k) ≡ x ∷ take (w - (k + 1)) (drop (from.word + (k + 1)) (words_if (slice_get p.can.source.slots from.slot)))
        words_are =
            let z : w - k ≡ suc (w - (k + 1)) = omega (arith, lt) in
            let long : length (words_if (slice_get p.can.source.slots from.slot)) ≡ p.can.source.width = wide_slot p.can.source.width p.can.source.slots from.slot p.can.source_long p.can.source_slot in
            let width = p.can.source_width in
            let f : from.word + k + 1 ≡ from.word + (k + 1) = omega arith in
            ap (λ n. take n (drop (from.word + k) (slot_words (seen kinds d new) from.object.birth from.slot))) z
            ∙ ap (λ (o : Option Object). take (suc (w - (k + 1))) (drop (from.word + k) (words_if (slice_get (slots_if o) from.slot)))) p.can.source_there
            ∙ cut (words_if (slice_get p.can.source.slots from.slot)) (from.word + k) (w - (k + 1)) (omega (arith, long, width, lt))
            ∙ (λ j. sym (in_slot p.can.source.slots from.slot (from.word + k)) j ∷ take (w - (k + 1)) (drop (f j) (words_if (slice_get p.can.source.slots from.slot))))

        words_stay : words_at (with_object to.object.birth next (seen kinds d new)) from.object.birth from.slot (from.word + (k + 1)) (w - (k + 1))
            ≡ take (w - (k + 1)) (drop (from.word + (k + 1)) (words_if (slice_get p.can.source.slots from.slot)))
        words_stay = ap (λ (o : Option Object). take (w - (k + 1)) (drop (from.word + (k + 1)) (words_if (slice_get (slots_if o) from.slot)))) source_then.there ∙ source_then.words

        left : wrote to.object.birth to.slot (to.word + (k + 1)) (words_at (seen kinds e after) from.object.birth from.slot (from.word + (k + 1)) (w - (k + 1))) (seen kinds e after)
            ≡ wrote to.object.birth to.slot (to.word + k) (words_at (seen kinds d new) from.object.birth from.slot (from.word + k) (w - k)) (seen kinds d new)
        left =
            let rest : List ℕ = take (w - (k + 1)) (drop (from.word + (k + 1)) (words_if (slice_get p.can.source.slots from.slot))) in
            let t : to.word + (k + 1) ≡ to.word + k + 1 = omega arith in
            ap (λ (z : Content). wrote to.object.birth to.slot (to.word + (k + 1)) (words_at z from.object.birth from.slot (from.word + (k + 1)) (w - (k + 1))) z) shows.is
            ∙ ap (λ vs. wrote to.object.birth to.slot (to.word + (k + 1)) vs (with_object to.object.birth next (seen kinds d new))) words_stay
            ∙ wrote_with to.object.birth to.slot (to.word + (k + 1)) rest next (seen kinds d new)
            ∙ ap (λ n. with_object to.object.birth (with_words to.slot n rest next) (seen kinds d new)) t
            ∙ ap (λ (o : Option Object). wrote_if o to.object.birth to.slot (to.word + k) (x ∷ rest) (seen kinds d new)) (sym p.can.target_there)
            ∙ ap (λ vs. wrote to.object.birth to.slot (to.word + k) vs (seen kinds d new)) (sym words_are)

        pub progress_next : Progress c rows e after (k + 1)
        progress_next = record {
          can =
              let l = word_like to.slot (to.word + k) x p.can.target in
              let s = source_then.like in
              record {
                housed = shows.housed;
                from_placed = ap (λ (z : Rows). at z from.object.birth) same ∙ p.can.from_placed;
                to_placed = ap (λ (z : Rows). at z to.object.birth) same ∙ p.can.to_placed;
                apart = p.can.apart;
                source = source_then.object;
                source_there = ap (λ (z : Content). at z.objects from.object.birth) shows.is ∙ source_then.there;
                target = next;
                target_there = ap (λ (z : Content). at z.objects to.object.birth) shows.is ∙ target_then;
                alike = λ u below. ap (λ ty. kinds ty (from.word + u)) s.ty ∙ p.can.alike u below;
                source_width = let e = s.width in let f = p.can.source_width in omega (arith, e, f);
                target_width = p.can.target_width;
                source_long = source_then.long;
                source_slot = let e = s.count in let f = p.can.source_slot in omega (arith, e, f);
                target_slot = let n = l.count in let f = p.can.target_slot in omega (arith, n, f);
                from_small = p.can.from_small;
                to_small = p.can.to_small;
              };
          is = left ∙ p.is;
          later = later_then c d e rows new after p.later
              (record {
                births = let b = ap (λ (z : Content). z.births) put_is in omega (arith, b);
                row = λ n j below t. ap (λ (z : Rows). at z n) (sym same) ∙ t;
              });
        }
