-- Where the words of a value are written into another place, the pointers among them can be read there: none is cut in two.
use Rattle.std.proofs.Common.{◌≡◌, ◌≢◌, ◌⊎◌, ⊎_elim, inl, inr, ℕ, zero, suc, ◌+◌, ◌-◌, ◌<◌, ◌≤◌, List, [], ◌∷◌, length, Option, Some, None, IfSome, IsSome, Ok, refl, sym, ap, subst, ◌∙◌, arith}
use Rattle.std.proofs.lemmas.Option.{same_Some}
use Rattle.std.specs.Prelude.{slice_get, slice_index, slice_set}
use Rattle.life_types.specs.Types.{Types}
use Rattle.life_types.specs.declared.ty.TyId.{TyId}
use Rattle.life_store.specs.Cells.{at, at-set_same, at-set_other}
use Rattle.life_store.specs.Content.{Slot, Object, Content, with_object, with_word, word_at, word_in}
use Rattle.life_store.specs.Kinds.{Kind, Pointing}
use Rattle.life_store.specs.Parts.{parts_at, width as parts_width}
use Rattle.life_store.specs.References.{Rows, asked_of, object_of}
use Rattle.life_store.proofs.MapLemmas.{one_or_apart}
use Rattle.life_forest.specs.Values.{AllWide}
use Rattle.life_forest.proofs.Puts.{put_in, IsWord}
use Rattle.life_seen.specs.Housed.{Later}
use Rattle.life_seen.specs.Kinds.{kinds_of, Kinds}
use Rattle.life_seen.specs.Named.{Names, names_of}
use Rattle.life_seen.specs.Rowed.{IsReadable, SlotsRowed, AreRowed}
use Rattle.life_seen.specs.Seen.{object_seen, seen, slots_seen, words_seen}
use Rattle.life_seen.proofs.References.{found}
use Rattle.life_seen.proofs.Resizing.{count_seen}
use Rattle.life_seen.proofs.Rowed.{index_other, readable_as, slots_rowed_later}
use Rattle.life_seen.proofs.WholePointers.{stays_within}
use Rattle.life_words.proofs.Renaming.{none_is}
use Rattle.life_values.specs.Moved.{AreUncut, CanCopyWords}
use Rattle.life_values.specs.declared.spot.Spot.{Spot}
use Rattle.life_values.proofs.Owners.{wide_put, wide_word, with_word_is}
use Rattle.life_values.proofs.SeenAs.{seen_as, IsSeenAs}
use Rattle.life_values.proofs.WordsCopied.{ok_word}

pub either : (a b : ℕ) → (a ≤ b) ⊎ (b < a)
either zero b = inl (omega arith)
either (suc a) zero = inr (omega arith)
either (suc a) (suc b) = ⊎_elim (λ le. inl (omega (arith, le))) (λ lt. inr (omega (arith, lt))) (either a b)

-- all words of a value
pub all_uncut : (types : Types) (ty : TyId) (w : ℕ) → w ≡ parts_width (parts_at types ty) → AreUncut (kinds_of types ty) 0 w
all_uncut types ty w wide u begins =
    ⊎_elim
    (λ le. inr (inl (omega (arith, le))))
    (λ lt. let h = stays_within (parts_at types ty) u (omega (arith, lt, wide)) begins in inr (inr (omega arith, omega (arith, h, wide))))
    (either w u)

-- ---- words of slots

set_here : (ws : List ℕ) (u v : ℕ) → u < length ws → slice_index (slice_set ws u v) u ≡ v
set_here [] u v lt = absurd (omega (arith, lt))
set_here (w ∷ ws) zero v lt = refl
set_here (w ∷ ws) (suc u) v lt = set_here ws u v (omega (arith, lt))

put_here : (ss : List Slot) (i u v : ℕ) → IsWord i u ss → word_in (slice_get (put_in i u v ss) i) u ≡ v
put_here [] i u v has = absurd has
put_here (s ∷ ss) zero u v has = set_here s.words u v has
put_here (s ∷ ss) (suc i) u v has = put_here ss i u v has

put_beside : (ss : List Slot) (i u v j k : ℕ) → (j ≡ i → u ≢ k) → word_in (slice_get (put_in i u v ss) j) k ≡ word_in (slice_get ss j) k
put_beside [] i u v j k ne = refl
put_beside (s ∷ ss) zero u v zero k ne = index_other s.words u k v (ne refl)
put_beside (s ∷ ss) zero u v (suc j) k ne = refl
put_beside (s ∷ ss) (suc i) u v zero k ne = refl
put_beside (s ∷ ss) (suc i) u v (suc j) k ne = put_beside ss i u v j k (λ e. ne (ap suc e))

pub word_here : (o : Object) (i u v : ℕ) → IsWord i u o.slots → word_at (with_word i u v o) i u ≡ v
word_here o i u v has = ap (λ (x : Object). word_at x i u) (with_word_is i u v o) ∙ put_here o.slots i u v has

pub word_beside : (o : Object) (i u v j k : ℕ) → (j ≡ i → u ≢ k) → word_at (with_word i u v o) j k ≡ word_at o j k
word_beside o i u v j k ne = ap (λ (x : Object). word_at x j k) (with_word_is i u v o) ∙ put_beside o.slots i u v j k ne

module _ (c : Content) (rows : Rows) (f : ℕ → Kind) where
  pub rowed_by_words : (ss : List Slot) → ((i u : ℕ) → f u ≡ Pointing 0 → IsReadable c rows (λ j. word_in (slice_get ss i) (u + j))) → SlotsRowed c rows f ss
  rowed_by_words [] h = tt
  rowed_by_words (s ∷ ss) h = (λ u e. h 0 u e, rowed_by_words ss (λ i u e. h (suc i) u e))

  pub words_rowed : (ss : List Slot) → SlotsRowed c rows f ss → (i u : ℕ) → f u ≡ Pointing 0 → IsReadable c rows (λ j. word_in (slice_get ss i) (u + j))
  words_rowed [] h i u e = record {
    object = λ n moment first last. let z : 0 ≡ suc (suc n) = first in absurd (omega (arith, z));
    characters = λ n first last. let z : 0 ≡ suc (suc n) = first in absurd (omega (arith, z));
  }
  words_rowed (s ∷ ss) h zero u e = h.0 u e
  words_rowed (s ∷ ss) h (suc i) u e = words_rowed ss h.1 i u e

-- ---- as wide as it is seen

words_count : (names : Names) (f : ℕ → Kind) (ws : List ℕ) → length (words_seen names f ws) ≡ length ws
words_count names f [] = refl
words_count names f (w ∷ ws) = ap suc (words_count names (λ u. f (suc u)) ws)

pub wide_seen : (names : Names) (f : ℕ → Kind) (n : ℕ) (ss : List Slot) → AllWide n (slots_seen names f ss) → AllWide n ss
wide_seen names f n [] h = tt
wide_seen names f n (s ∷ ss) h = (sym (words_count names f s.words) ∙ h.0, wide_seen names f n ss h.1)

-- ---- how far the words have been written, as they lie in the store

module _ (from to : Spot) (w : ℕ) (source target : Object) where
  pub record Written (c d : Content) (k : ℕ) : Type 0 where
    pub within : k ≤ w
    pub others : (n : ℕ) → n ≢ to.object.birth → at d.objects n ≡ at c.objects n
    pub object : Object
    pub there : at d.objects to.object.birth ≡ Some object
    pub ty : object.ty ≡ target.ty
    pub words : object.width ≡ target.width
    pub wide : AllWide target.width object.slots
    pub copied : (v : ℕ) → v < k → word_at object to.slot (to.word + v) ≡ word_at source from.slot (from.word + v)
    pub beside : (i u : ℕ) → (i ≡ to.slot → (u < to.word) ⊎ (to.word + k ≤ u)) → word_at object i u ≡ word_at target i u

  pub written_begin : (c : Content) → at c.objects to.object.birth ≡ Some target → AllWide target.width target.slots → Written c c 0
  written_begin c there wide = record {
    within = omega arith;
    others = λ n ne. refl;
    object = target;
    there = there;
    ty = refl;
    words = refl;
    wide = wide;
    copied = λ v lt. absurd (omega (arith, lt));
    beside = λ i u out. refl;
  }

  put_into : (d e : Content) (new : Rows) (i u y : ℕ) (x : Option Object) → object_of d new to.object ≡ x → IsSome x → IfSome x (λ o. e ≡ with_object to.object.birth (with_word i u y o) d)
      → (p : Object) → at d.objects to.object.birth ≡ Some p → e ≡ with_object to.object.birth (with_word i u y p) d
  put_into d e new i u y None is some put p there = absurd (none_is some)
  put_into d e new i u y (Some o) is some put p there =
      put ∙ ap (λ (z : Object). with_object to.object.birth (with_word i u y z) d) (same_Some o p (sym (found d new to.object o is).there ∙ there))

  module _ (kinds : Kinds) (c : Content) (source_there : at c.objects from.object.birth ≡ Some source) (target_there : at c.objects to.object.birth ≡ Some target) (d : Content) (new : Rows) (k : ℕ) (can : CanCopyWords kinds from to w d new) (lt : k < w)
      (s : Written c d k) (y : ℕ) (got : asked_of (object_of d new from.object) (λ (o : Object). word_at o from.slot (from.word + k)) ≡ Ok y) (e : Content) (some : IsSome (object_of d new to.object))
      (put : IfSome (object_of d new to.object) (λ o. e ≡ with_object to.object.birth (with_word to.slot (to.word + k) y o) d)) where
    source_now : IsSeenAs kinds d new from.object can.source
    source_now = seen_as kinds d new from.object can.source can.housed can.from_placed can.source_there

    target_now : IsSeenAs kinds d new to.object can.target
    target_now = seen_as kinds d new to.object can.target can.housed can.to_placed can.target_there

    target_is : target_now.object ≡ s.object
    target_is = same_Some _ _ (sym (found d new to.object target_now.object target_now.found).there ∙ s.there)

    y_is : y ≡ word_at source from.slot (from.word + k)
    y_is =
        ok_word from.slot (from.word + k) source_now.object source_now.found got
        ∙ one_or_apart from.object.birth to.object.birth
        (λ one.
        let now_is : source_now.object ≡ s.object = same_Some _ _ (sym (found d new from.object source_now.object source_now.found).there ∙ ap (at d.objects) one ∙ s.there) in
        let was : source ≡ target = same_Some _ _ (sym source_there ∙ ap (at c.objects) one ∙ target_there) in
        ap (λ (x : Object). word_at x from.slot (from.word + k)) now_is
        ∙ s.beside from.slot (from.word + k) (λ slot. ⊎_elim (λ le. inr (omega (arith, le))) (λ le. inl (omega (arith, le, lt))) (can.apart one slot))
        ∙ ap (λ (x : Object). word_at x from.slot (from.word + k)) (sym was))
        (λ ne. ap (λ (x : Object). word_at x from.slot (from.word + k))
        (same_Some _ _ (sym (found d new from.object source_now.object source_now.found).there ∙ s.others from.object.birth ne ∙ source_there)))

    has : IsWord to.slot (to.word + k) s.object.slots
    has =
        let a : length (object_seen kinds (names_of d new) target_now.object).slots ≡ length can.target.slots = ap (λ (x : Object). length x.slots) target_now.same in
        let b = count_seen kinds (names_of d new) target_now.object in
        let l : length target_now.object.slots ≡ length s.object.slots = ap (λ (x : Object). length x.slots) target_is in
        let f : target_now.object.width ≡ can.target.width = ap (λ (x : Object). x.width) target_now.same in
        let g : target_now.object.width ≡ s.object.width = ap (λ (x : Object). x.width) target_is in
        let h = s.words in
        let x = can.target_slot in
        let z = can.target_width in
        wide_word target.width s.object.slots to.slot (to.word + k) s.wide (omega (arith, a, b, l, x)) (omega (arith, f, g, h, z, lt))

    is : e ≡ with_object to.object.birth (with_word to.slot (to.word + k) y s.object) d
    is = put_into d e new to.slot (to.word + k) y (object_of d new to.object) refl some put s.object s.there

    pub written_next : Written c e (k + 1)
    written_next = record {
      within = omega (arith, lt);
      others = λ n ne. ap (λ (x : Content). at x.objects n) is ∙ at-set_other d.objects to.object.birth n (with_word to.slot (to.word + k) y s.object) (λ same. ne (sym same)) ∙ s.others n ne;
      object = with_word to.slot (to.word + k) y s.object;
      there = ap (λ (x : Content). at x.objects to.object.birth) is ∙ at-set_same d.objects to.object.birth to.object.birth (with_word to.slot (to.word + k) y s.object) refl;
      ty = s.ty;
      words = s.words;
      wide = subst (λ (x : Object). AllWide target.width x.slots) (sym (with_word_is to.slot (to.word + k) y s.object)) (wide_put target.width s.object.slots to.slot (to.word + k) y s.wide);
      copied = λ v below.
          one_or_apart v k
          (λ same.
          let z : to.word + v ≡ to.word + k = omega (arith, same) in
          ap (word_at (with_word to.slot (to.word + k) y s.object) to.slot) z
          ∙ word_here s.object to.slot (to.word + k) y has
          ∙ y_is
          ∙ ap (λ n. word_at source from.slot (from.word + n)) (sym same))
          (λ ne.
          word_beside s.object to.slot (to.word + k) y to.slot (to.word + v) (λ slot one. ne (omega (arith, one)))
          ∙ s.copied v (omega (arith, below, ne)));
      beside = λ i u out.
          word_beside s.object to.slot (to.word + k) y i u (λ slot one. ⊎_elim (λ l. absurd (omega (arith, l, one))) (λ l. absurd (omega (arith, l, one))) (out slot))
          ∙ s.beside i u (λ slot. ⊎_elim (λ l. inl l) (λ l. inr (omega (arith, l))) (out slot));
    }

  -- ---- all of them

  module _ (kinds : Kinds) (c : Content) (rows : Rows) (source_there : at c.objects from.object.birth ≡ Some source) (target_there : at c.objects to.object.birth ≡ Some target)
      (alike : (u : ℕ) → u < w → kinds source.ty (from.word + u) ≡ kinds target.ty (to.word + u)) (uncut : AreUncut (kinds target.ty) to.word w) (d : Content) (k : ℕ) (all : w ≤ k) (s : Written c d k) (rowed : AreRowed kinds c rows) where
    as_it_was : (i u : ℕ) → kinds target.ty u ≡ Pointing 0 → ((j : ℕ) → j ≤ 4 → i ≡ to.slot → (u + j < to.word) ⊎ (to.word + k ≤ u + j)) → IsReadable c rows (λ j. word_at s.object i (u + j))
    as_it_was i u begins out =
        readable_as c rows (λ j. word_at target i (u + j)) (λ j. word_at s.object i (u + j)) (λ j le. sym (s.beside i (u + j) (out j le)))
        (words_rowed c rows (kinds target.ty) target.slots (rowed to.object.birth target target_there) i u begins)

    -- the v-th word of the value begins a pointer
    as_there : (v u : ℕ) → u ≡ to.word + v → kinds target.ty u ≡ Pointing 0 → v + 5 ≤ w → IsReadable c rows (λ j. word_at s.object to.slot (u + j))
    as_there v u same begins le =
        readable_as c rows (λ j. word_at source from.slot (from.word + v + j)) (λ j. word_at s.object to.slot (u + j))
        (λ j small.
        let a : from.word + v + j ≡ from.word + (v + j) = omega arith in
        let b : to.word + (v + j) ≡ u + j = omega (arith, same) in
        ap (word_at source from.slot) a ∙ sym (s.copied (v + j) (omega (arith, le, all, small))) ∙ ap (word_at s.object to.slot) b)
        (words_rowed c rows (kinds source.ty) source.slots (rowed from.object.birth source source_there) from.slot (from.word + v)
        (alike v (omega (arith, le)) ∙ ap (kinds target.ty) (sym same) ∙ begins))

    readable : (i u : ℕ) → kinds target.ty u ≡ Pointing 0 → IsReadable c rows (λ j. word_at s.object i (u + j))
    readable i u begins =
        one_or_apart i to.slot
        (λ slot.
        ⊎_elim
        (λ low. as_it_was i u begins (λ j le here. inl (omega (arith, low, le))))
        (λ rest. ⊎_elim
        (λ high. as_it_was i u begins (λ j le here. let k_is = s.within in inr (omega (arith, high, k_is))))
        (λ inside.
        let a = inside.0 in
        let b = inside.1 in
        subst (λ n. IsReadable c rows (λ j. word_at s.object n (u + j))) (sym slot) (as_there (u - to.word) u (omega (arith, a)) begins (omega (arith, a, b))))
        rest)
        (uncut u begins))
        (λ ne. as_it_was i u begins (λ j le here. absurd (ne here)))

    slots_rowed : SlotsRowed c rows (kinds s.object.ty) s.object.slots
    slots_rowed = subst (λ id. SlotsRowed c rows (kinds id) s.object.slots) (sym s.ty) (rowed_by_words c rows (kinds target.ty) s.object.slots readable)

    pub written_rowed : (new : Rows) → Later c d rows new → AreRowed kinds d new
    written_rowed new later n o there =
        slots_rowed_later c d rows new later (kinds o.ty) o.slots
        (one_or_apart n to.object.birth
        (λ same.
        subst (λ (x : Object). SlotsRowed c rows (kinds x.ty) x.slots) (same_Some s.object o (sym s.there ∙ ap (at d.objects) (sym same) ∙ there)) slots_rowed)
        (λ ne. rowed n o (sym (s.others n ne) ∙ there)))

-- by what is seen
pub copied_rowed : (from to : Spot) (w : ℕ) (kinds : Kinds) (c : Content) (rows : Rows) (can : CanCopyWords kinds from to w c rows) (o : Object) → at (seen kinds c rows).objects to.object.birth ≡ Some o → AllWide o.width o.slots → AreUncut (kinds o.ty) to.word w
    → (d : Content) (k : ℕ) → w ≤ k
    → ((source target : Object) → at c.objects from.object.birth ≡ Some source → at c.objects to.object.birth ≡ Some target → AllWide target.width target.slots → Written from to w source target c d k)
    → AreRowed kinds c rows → (new : Rows) → Later c d rows new → AreRowed kinds d new
copied_rowed from to w kinds c rows can o there wide uncut d k all written rowed new later =
    let s = seen_as kinds c rows from.object can.source can.housed can.from_placed can.source_there in
    let t = seen_as kinds c rows to.object o can.housed can.to_placed there in
    let at_from = (found c rows from.object s.object s.found).there in
    let at_to = (found c rows to.object t.object t.found).there in
    let type_is : t.object.ty ≡ o.ty = ap (λ (x : Object). x.ty) t.same in
    let target_ty : can.target.ty ≡ o.ty = ap (λ (x : Object). x.ty) (same_Some can.target o (sym can.target_there ∙ there)) in
    let seen_wide = subst (λ (x : Object). AllWide x.width x.slots) (sym t.same) wide in
    written_rowed from to w s.object t.object kinds c rows at_from at_to
    (λ u lt. ap (λ (x : Object). kinds x.ty (from.word + u)) s.same ∙ can.alike u lt ∙ ap (λ x. kinds x (to.word + u)) (target_ty ∙ sym type_is))
    (subst (λ x. AreUncut (kinds x) to.word w) (sym type_is) uncut) d k all
    (written s.object t.object at_from at_to (wide_seen (names_of c rows) (kinds t.object.ty) t.object.width t.object.slots seen_wide)) rowed new later
