-- What goes slot by slot is what the meaning clears by the parts of the element's type.
use Rattle.std.proofs.Common.{◌≡◌, ℕ, zero, suc, ◌+◌, ◌<◌, ◌≤◌, true, List, [], ◌∷◌, ◌++◌, length, take, drop, Option, Some, refl, sym, ap, subst, ◌∙◌, arith, take_all}
use Rattle.std.proofs.lemmas.List.{drop_all}
use Rattle.std.specs.Prelude.{slice_get}
use Rattle.life_store.specs.Cells.{Cells, at, at-set_same, at-set_other}
use Rattle.life_store.specs.Content.{Slot, Object, Content, resized, resized_slots, with_object, with_word}
use Rattle.life_store.specs.Edits.{cleared}
use Rattle.life_store.specs.Held.{resized_at, resized_if, slots_if, words_if}
use Rattle.life_store.specs.Kinds.{is_owner, kind_in}
use Rattle.life_store.specs.Owners.{ended, ended_slots}
use Rattle.life_store.specs.Parts.{Parts, width}
use Rattle.life_store.proofs.MapLemmas.{one_or_apart, set-set, set-unset, set_back}
use Rattle.life_forest.specs.Forest.{IsForest, Below}
use Rattle.life_forest.specs.Kinds.{Kinds}
use Rattle.life_forest.specs.Owned.{times}
use Rattle.life_forest.specs.Values.{owned_of, owned_slots, AllKnown, AllWide, Known}
use Rattle.life_forest.proofs.Below.{empty_handed}
use Rattle.life_forest.proofs.ByParts.{parts_end, slots_end}
use Rattle.life_forest.proofs.Counting.{times-append}
use Rattle.life_forest.proofs.Ending.{Ended}
use Rattle.life_forest.proofs.Puts.{put_in}
use Rattle.life_forest.proofs.Steps.{at-without_all}
use Rattle.life_seen.proofs.MapViews.{set_cases}
use Rattle.life_values.specs.Cleared.{cleared_words, emptied_slots}
use Rattle.life_values.specs.Ended.{ended_each, ended_number}
use Rattle.life_values.specs.Layouts.{flat, owner_words}
use Rattle.life_values.specs.Zeroed.{held, zeroed}
use Rattle.life_values.proofs.EmptiedMeant.{emptied_apart, emptied_forest, low_below, zeroed_forest, AreWords}
use Rattle.life_values.proofs.Ends.{AreBelow, each_end, ended_alike, number_end}
use Rattle.life_values.proofs.Flat.{drop_here, owner_words_own}
use Rattle.life_values.proofs.HeldWords.{held_is}
use Rattle.life_values.proofs.Owners.{with_word_is}
use Rattle.life_values.proofs.PoppedMeant.{wide_slot}
use Rattle.life_values.proofs.Renewed.{like_then, word_wide}
use Rattle.life_values.proofs.Zeroing.{cut_slots, take_none, zeroed_like, IsLike}

each_on : (end : ℕ → Content → Content) (xs ys : List ℕ) (c : Content) → ended_each end (xs ++ ys) c ≡ ended_each end ys (ended_each end xs c)
each_on end [] ys c = refl
each_on end (x ∷ xs) ys c = each_on end xs ys (end x c)

zeroed_wide : (i w : ℕ) (us : List ℕ) (o : Object) → AllWide o.width o.slots → AllWide (zeroed i w us o).width (zeroed i w us o).slots
zeroed_wide i w [] o wide = wide
zeroed_wide i w (u ∷ us) o wide = zeroed_wide i w us (with_word i (w + u) 0 o) (word_wide i (w + u) 0 o wide)

put_back : (ss : List Slot) (i u v : ℕ) → drop (i + 1) (put_in i u v ss) ≡ drop (i + 1) ss
put_back [] i u v = refl
put_back (s ∷ ss) zero u v = refl
put_back (s ∷ ss) (suc i) u v = let z : suc i + 1 ≡ suc (i + 1) = omega arith in ap (λ n. drop n (s ∷ put_in i u v ss)) z ∙ put_back ss i u v ∙ ap (λ n. drop n (s ∷ ss)) (sym z)

zeroed_back : (i w : ℕ) (us : List ℕ) (o : Object) → drop (i + 1) (zeroed i w us o).slots ≡ drop (i + 1) o.slots
zeroed_back i w [] o = refl
zeroed_back i w (u ∷ us) o = zeroed_back i w us (with_word i (w + u) 0 o) ∙ ap (λ (x : Object). drop (i + 1) x.slots) (with_word_is i (w + u) 0 o) ∙ put_back o.slots i (w + u) 0

slot_there : (ss : List Slot) (i : ℕ) → i < length ss → (s : Slot) × (slice_get ss i ≡ Some s)
slot_there [] i lt = absurd (omega (arith, lt))
slot_there (s ∷ ss) zero lt = (s, refl)
slot_there (s ∷ ss) (suc i) lt = slot_there ss i (omega (arith, lt))

module _ (kind : Kinds) (depth n : ℕ) (us : List ℕ) where
  abbrev end : ℕ → Content → Content
  end = ended_number kind depth

  -- ---- slot by slot

  abbrev zeroed_slots : (slot count : ℕ) → Object → Object
  zeroed_slots i zero o = o
  zeroed_slots i (suc k) o = zeroed_slots (i + 1) k (zeroed i 0 us o)

  abbrev held_slots : (slot count : ℕ) → Object → List ℕ
  held_slots i zero o = []
  held_slots i (suc k) o = held i 0 us o ++ held_slots (i + 1) k (zeroed i 0 us o)

  slots_like : (i k : ℕ) (o : Object) → IsLike (zeroed_slots i k o) o
  slots_like i zero o = record { ty = refl; width = refl; capacity = refl; count = refl }
  slots_like i (suc k) o = like_then (slots_like (i + 1) k (zeroed i 0 us o)) (zeroed_like i 0 us o)

  pub record AreSlots (i k : ℕ) (o : Object) : Type 0 where
    pub wide : AllWide o.width o.slots
    pub within : i + k ≤ length o.slots
    pub own : (j u : ℕ) → slice_get us j ≡ Some u → (is_owner (kind.word o.ty (0 + u)) ≡ true) × (0 + u < o.width)

  first_words : (i k : ℕ) (o : Object) → AreSlots i (suc k) o → AreWords kind depth n i 0 us o
  first_words i k o are = record { wide = are.wide; slot = let w = are.within in omega (arith, w); own = are.own }

  other_slots : (i k : ℕ) (o : Object) → AreSlots i (suc k) o → AreSlots (i + 1) k (zeroed i 0 us o)
  other_slots i k o are =
      let l = zeroed_like i 0 us o in
      record {
        wide = zeroed_wide i 0 us o are.wide;
        within = let w = are.within in let c = l.count in omega (arith, w, c);
        own = λ j u e.
            let h = are.own j u e in
            let w = l.width in
            let b = h.1 in
            (ap (λ ty. is_owner (kind.word ty (0 + u))) l.ty ∙ h.0, omega (arith, w, b));
      }

  slots_apart : (hand : ℕ → ℕ) (k i : ℕ) (d : Content) (o : Object) → IsForest kind hand (with_object n o d) → kind.rank o.ty ≤ depth → AreSlots i k o
      → emptied_slots end us n i k (with_object n o d) ≡ with_object n (zeroed_slots i k o) (ended_each end (held_slots i k o) d)
  slots_apart hand zero i d o forest deep are = refl
  slots_apart hand (suc k) i d o forest deep are =
      let t = ap kind.rank (zeroed_like i 0 us o).ty in
      ap (emptied_slots end us n (i + 1) k) (emptied_apart kind depth n i hand 0 us d o forest deep (first_words i k o are))
      ∙ slots_apart hand k (i + 1) (ended_each end (held i 0 us o) d) (zeroed i 0 us o) (emptied_forest kind depth n i hand 0 us d o forest deep (first_words i k o are)) (omega (arith, t, deep)) (other_slots i k o are)
      ∙ ap (with_object n (zeroed_slots (i + 1) k (zeroed i 0 us o))) (sym (each_on end (held i 0 us o) (held_slots (i + 1) k (zeroed i 0 us o)) d))

  -- all that they own is in the hand, where none has ended
  slots_forest : (hand : ℕ → ℕ) (k i : ℕ) (d : Content) (o : Object) → IsForest kind hand (with_object n o d) → AreSlots i k o
      → IsForest kind (λ q. times (held_slots i k o) q + hand q) (with_object n (zeroed_slots i k o) d) × AreBelow kind (kind.rank o.ty) (held_slots i k o) (with_object n (zeroed_slots i k o) d)
  slots_forest hand zero i d o forest are = (empty_handed kind hand (λ q. times [] q + hand q) (with_object n o d) (λ q. omega arith) forest, (λ m q lt at_m. absurd (omega (arith, lt))))
  slots_forest hand (suc k) i d o forest are =
      let first : List ℕ = held i 0 us o in
      let one : Object = zeroed i 0 us o in
      let rest : List ℕ = held_slots (i + 1) k one in
      let last : Object = zeroed_slots (i + 1) k one in
      let z = zeroed_forest kind depth n i hand 0 us d o forest (first_words i k o are) in
      let more = slots_forest (λ q. times first q + hand q) k (i + 1) d one z.0 (other_slots i k o are) in
      let t = ap kind.rank (zeroed_like i 0 us o).ty in (
        empty_handed kind (λ q. times rest q + (times first q + hand q)) (λ q. times (first ++ rest) q + hand q) (with_object n last d) (λ q. let e = times-append first rest q in omega (arith, e)) more.0,
        (λ q y lt at_q.
            let e = times-append first rest q in
            one_or_apart (times first q) 0
            (λ none. let l = more.1 q y (omega (arith, e, none, lt)) at_q in omega (arith, l, t))
            (λ some. set_cases d.objects n q last y at_q
            (λ s same. let l = z.1 q one (omega (arith, some)) (ap (at (with_object n one d).objects) (sym s) ∙ at-set_same d.objects n n one refl) in absurd (omega (arith, l, t)))
            (λ ne old. z.1 q y (omega (arith, some)) (at-set_other d.objects n q one ne ∙ old)))),
      )

-- ---- by the parts of the element's type

held_all : (kind : Kinds) (depth n : ℕ) (p : Parts) (k i : ℕ) (o : Object) → i + k ≡ length o.slots → AllWide o.width o.slots → o.width ≡ width p
    → held_slots kind depth n (owner_words (flat 0 p)) i k o ≡ owned_slots p (drop i o.slots)
held_all kind depth n p zero i o count wide fits = ap (owned_slots p) (sym (drop_all i o.slots (omega (arith, count))))
held_all kind depth n p (suc k) i o count wide fits =
    let us : List ℕ = owner_words (flat 0 p) in
    let s = slot_there o.slots i (omega (arith, count)) in
    let l = zeroed_like i 0 us o in
    let c = l.count in
    let long : length (words_if (slice_get o.slots i)) ≡ o.width = wide_slot o.width o.slots i wide (omega (arith, count)) in
    let words : take (width p) (words_if (slice_get o.slots i)) ≡ s.0.words = take_all (width p) (words_if (slice_get o.slots i)) (omega (arith, long, fits)) ∙ ap words_if s.1 in
    (λ j. (held_is p i 0 o ∙ ap (owned_of p) words) j
    ++ (held_all kind depth n p k (i + 1) (zeroed i 0 us o) (omega (arith, c, count)) (zeroed_wide i 0 us o wide) (l.width ∙ fits) ∙ ap (owned_slots p) (zeroed_back i 0 us o)) j)
    ∙ ap (owned_slots p) (sym (drop_here o.slots i s.0 s.1))

module _ (kind : Kinds) (depth n : ℕ) (hand : ℕ → ℕ) (p : Parts) (m : Content) (o : Object) (there : at m.objects n ≡ Some o) (forest : IsForest kind hand m) (deep : kind.rank o.ty ≤ depth) (wide : AllWide o.width o.slots) (fits : o.width ≡ width p)
    (kinds : (u : ℕ) → u < width p → kind.word o.ty u ≡ kind_in p u)
    (known : AllKnown (Known kind (with_object n (zeroed_slots kind depth n (owner_words (flat 0 p)) 0 (length o.slots) o) m) p) o.slots) where
  abbrev us : List ℕ
  us = owner_words (flat 0 p)

  abbrev z : Object
  z = zeroed_slots kind depth n us 0 (length o.slots) o

  abbrev out : Content
  out = with_object n z m

  are : AreSlots kind depth n us 0 (length o.slots) o
  are = record {
    wide = wide;
    within = omega arith;
    own = λ j u e.
        let r = owner_words_own p 0 j u e in
        let s : 0 + u ≡ r.word = (let x = r.is in omega (arith, x)) in
        let l : 0 + u < width p = (let x = r.within in omega (arith, s, x)) in
        (ap is_owner (kinds (0 + u) l ∙ ap (kind_in p) s ∙ r.owner), omega (arith, fits, l));
  }

  same : m ≡ with_object n o m
  same = ap (λ (x : Cells Object). record { objects = x; births = m.births; clock = m.clock }) (sym (sym (set-unset m.objects n o) ∙ set_back m.objects n o there))

  here : IsForest kind hand (with_object n o m)
  here = subst (IsForest kind hand) same forest

  list : held_slots kind depth n us 0 (length o.slots) o ≡ owned_slots p o.slots
  list = held_all kind depth n p (length o.slots) 0 o (omega arith) wide fits

  in_hand : IsForest kind (λ k. times (owned_slots p o.slots) k + hand k) out
  in_hand = subst (λ ns. IsForest kind (λ k. times ns k + hand k) out) list (slots_forest kind depth n us hand (length o.slots) 0 m o here are).0

  low : AreBelow kind (kind.rank o.ty) (owned_slots p o.slots) out
  low = subst (λ ns. AreBelow kind (kind.rank o.ty) ns out) list (slots_forest kind depth n us hand (length o.slots) 0 m o here are).1

  apart : Below kind out (owned_slots p o.slots) n → ⊥
  apart b =
      let l = low_below kind (λ k. times (owned_slots p o.slots) k + hand k) out (owned_slots p o.slots) (kind.rank o.ty) in_hand low n z b (at-set_same m.objects n n z refl) in
      let t = ap kind.rank (slots_like kind depth n us 0 (length o.slots) o).ty in
      absurd (omega (arith, l, t))

  agree : (k : ℕ) → Below kind out (owned_slots p o.slots) k → at m.objects k ≡ at out.objects k
  agree k b = sym (at-set_other m.objects n k z (λ s. apart (subst (Below kind out (owned_slots p o.slots)) (sym s) b)))

  by_part : Ended kind hand (owned_slots p o.slots) out m (ended_slots (ended p) o.slots m)
  by_part = slots_end kind p (ended p) (parts_end kind p) o.slots hand out m in_hand known agree

  by_number : Ended kind hand (owned_slots p o.slots) out m (ended_each (ended_number kind depth) (owned_slots p o.slots) m)
  by_number = each_end kind depth (ended_number kind depth) (number_end kind depth) (owned_slots p o.slots) hand out m in_hand (λ q y lt at_q. let l = low q y lt at_q in omega (arith, l, deep)) agree

  emptied_all : emptied_slots (ended_number kind depth) us n 0 (length o.slots) m ≡ with_object n z (ended_slots (ended p) o.slots m)
  emptied_all =
      ap (emptied_slots (ended_number kind depth) us n 0 (length o.slots)) same
      ∙ slots_apart kind depth n us hand (length o.slots) 0 m o here deep are
      ∙ ap (λ ns. with_object n z (ended_each (ended_number kind depth) ns m)) list
      ∙ ap (with_object n z) (ended_alike kind hand (owned_slots p o.slots) out m (ended_each (ended_number kind depth) (owned_slots p o.slots) m) (ended_slots (ended p) o.slots m) by_number by_part)

  beside : at (ended_slots (ended p) o.slots m).objects n ≡ Some o
  beside =
      let none : times by_part.list n ≡ 0 = one_or_apart (times by_part.list n) 0 (λ e. e) (λ nz. absurd (apart (by_part.low n (omega (arith, nz))))) in
      ap (λ (x : Content). at x.objects n) by_part.is ∙ at-without_all kind by_part.list m n none ∙ there

  -- without slots, it doesn't matter what they held
  none_left : (t : ℕ) → resized t 0 0 z ≡ resized t 0 0 o
  none_left t =
      let l = slots_like kind depth n us 0 (length o.slots) o in
      let none : resized_slots z.width t 0 0 z.slots ≡ resized_slots o.width t 0 0 o.slots =
      cut_slots z.width t 0 z.slots ∙ ap (λ (ss : List Slot). ss ++ []) (take_none z.slots ∙ sym (take_none o.slots)) ∙ sym (cut_slots o.width t 0 o.slots) in
      (λ j. record { ty = l.ty j; width = l.width j; capacity = l.capacity j; slots = none j; end = t })

  cut_alike : (d : Content) → at d.objects n ≡ Some o → resized_at n 0 0 (with_object n z d) ≡ resized_at n 0 0 d
  cut_alike d at_d =
      ap (λ (x : Option Object). resized_if x n 0 0 (with_object n z d)) (at-set_same d.objects n n z refl)
      ∙ ap (λ (x : Cells Object). record { objects = x; births = d.births; clock = d.clock + 1 }) (set-set d.objects n z (resized (d.clock + 1) 0 0 z))
      ∙ ap (λ (x : Object). with_object n x (record d { clock = d.clock + 1 })) (none_left (d.clock + 1))
      ∙ ap (λ (x : Option Object). resized_if x n 0 0 d) (sym at_d)

  pub cleared_meant : cleared_words (ended_number kind depth) (owner_words (flat 0 p)) n (length o.slots) m ≡ cleared p n m
  cleared_meant =
      ap (resized_at n 0 0) emptied_all
      ∙ cut_alike (ended_slots (ended p) o.slots m) beside
      ∙ ap (λ (x : Option Object). resized_at n 0 0 (ended_slots (ended p) (slots_if x) m)) (sym there)
