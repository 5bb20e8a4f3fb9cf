-- The words of a slot that get copies of what they own, one after the other: what the meaning makes of the value by its parts.
use Rattle.std.proofs.Common.{◌≡◌, ℕ, zero, suc, ◌+◌, ◌≤◌, ◌<◌, List, [], ◌∷◌, ◌++◌, length, Option, Some, None, refl, sym, ap, ◌∙◌, arith, append_assoc, length-append}
use Rattle.std.specs.Prelude.{drop, slice_index, slice_set, take}
use Rattle.life_types.specs.Types.{Types}
use Rattle.life_types.specs.declared.ty.TyId.{TyId}
use Rattle.life_store.specs.Cells.{Cells, at, at-set_same, at-set_other}
use Rattle.life_store.specs.Content.{Slot, Object, Content, with_object, word_in}
use Rattle.life_store.specs.Effects.{Setting, Attempt, Got, GotTrap, GotFault, GotLost, then_get}
use Rattle.life_store.specs.Held.{owned_in, owner_word, wrote, wrote_if}
use Rattle.life_store.specs.Owners.{copied, copied_buffer}
use Rattle.life_store.specs.Parts.{Parts, Single, Raw, Iterates, Views, Text, Vector, Unique, Member, NoMember, width}
use Rattle.life_store.proofs.MapLemmas.{set-set}
use Rattle.life_forest.specs.Kinds.{rank_of}
use Rattle.life_forest.proofs.Lists.{length_back, length_front}
use Rattle.life_values.specs.Copied.{copied_number, recopied, recopied_each}
use Rattle.life_values.specs.Copyable.{IsCopyable, IsReadable, IsReadableIf}
use Rattle.life_values.specs.Layouts.{flat, owner_words}
use Rattle.life_values.specs.Taken.{owned_if}
use Rattle.life_values.proofs.Attempts.{then_alike, then_then}
use Rattle.life_values.proofs.CopiedAside.{also_over, copied_aside, number_aside, number_copied, owned_words, owning_is, slots_still, with_first, MayChange}
use Rattle.life_values.proofs.CopiedKept.{copied_kept, keeps_then, IsCopy, Keeps}
use Rattle.life_values.proofs.Flat.{owner_words-append}
use Rattle.life_values.proofs.InRows.{put_here, slot_here, with_slots}
use Rattle.life_values.proofs.Owners.{with_word_is}

-- ---- lists

take_drop : (n : ℕ) (ws : List ℕ) → take n ws ++ drop n ws ≡ ws
take_drop zero [] = refl
take_drop zero (w ∷ ws) = refl
take_drop (suc n) [] = refl
take_drop (suc n) (w ∷ ws) = ap (λ xs. w ∷ xs) (take_drop n ws)

no_words : (ws : List ℕ) → length ws ≡ 0 → ws ≡ []
no_words [] e = refl
no_words (w ∷ ws) e = absurd (omega (arith, e))

one_word : (ws : List ℕ) → length ws ≡ 1 → ws ≡ slice_index ws 0 ∷ []
one_word [] e = absurd (omega (arith, e))
one_word (w ∷ []) e = refl
one_word (w ∷ v ∷ ws) e = absurd (omega (arith, e))

word_behind : (before : List ℕ) (w : ℕ) (after : List ℕ) → slice_index (before ++ w ∷ after) (length before) ≡ w
word_behind [] w after = refl
word_behind (b ∷ before) w after = word_behind before w after

set_behind : (before : List ℕ) (w v : ℕ) (after : List ℕ) → slice_set (before ++ w ∷ after) (length before) v ≡ before ++ v ∷ after
set_behind [] w v after = refl
set_behind (b ∷ before) w v after = ap (λ xs. b ∷ xs) (set_behind before w v after)

-- ---- words that own, one after the other

none_more : (copy : ℕ → Content → Attempt (ℕ × Content)) (n i : ℕ) (x : Attempt Content) → then_get x (recopied_each copy n i []) ≡ x
none_more copy n i (Got c) = refl
none_more copy n i (GotTrap kind) = refl
none_more copy n i (GotFault kind) = refl
none_more copy n i GotLost = refl

each-append : (copy : ℕ → Content → Attempt (ℕ × Content)) (n i : ℕ) (us vs : List ℕ) (c : Content) → recopied_each copy n i (us ++ vs) c ≡ then_get (recopied_each copy n i us c) (recopied_each copy n i vs)
each-append copy n i [] vs c = refl
each-append copy n i (u ∷ us) vs c =
    (λ j. then_get (recopied copy (owned_if (at c.objects n) i u) n i u c) (λ d. each-append copy n i us vs d j))
    ∙ sym (then_then (recopied copy (owned_if (at c.objects n) i u) n i u c) (recopied_each copy n i us) (recopied_each copy n i vs))

module _ (s : Setting) (types : Types) (owners : TyId → List ℕ) (old : Content) (depth : ℕ)
    (below : (ty : TyId) (element : Parts) (q : ℕ) (c : Content) → rank_of types ty < depth → Keeps old c → (r : IsReadable types ty element (IsCopyable types old (rank_of types ty) element) old q)
    → copied_number s owners depth q c ≡ number_copied s ty (width element) (copied s element) r.object.slots c) where
  -- the object into which is copied came since, and one slot of it has these words
  pub record IsSince (m : ℕ) (om : Object) (d : Content) : Type 0 where
    pub keeps : Keeps old d
    pub since : old.births ≤ m
    pub born : m < d.births
    pub there : at d.objects m ≡ Some om

  pub since_then : (m : ℕ) (om : Object) (d e : Content) → IsSince m om d → Keeps d e → IsSince m om e
  since_then m om d e is keeps = record {
    keeps = keeps_then old d e is.keeps keeps;
    since = is.since;
    born = let b = is.born in let k = keeps.births in omega (arith, b, k);
    there = keeps.same m is.born ∙ is.there;
  }

  module _ (m : ℕ) (om : Object) (pre : List Slot) (stamp : ℕ) (post : List Slot) where
    abbrev pub with_slot : List ℕ → Object
    with_slot ws = with_slots om (pre ++ record { words = ws; stamp = stamp } ∷ post)

    abbrev pub over : List ℕ → Content → Content
    over ws d = with_object m (with_slots om (pre ++ record { words = ws; stamp = stamp } ∷ post)) d

    may : (ws : List ℕ) (d : Content) → IsSince m om d → MayChange old d m (with_slot ws)
    may ws d is = record { keeps = is.keeps; since = is.since; born = is.born; object = om; there = is.there; width = refl; capacity = refl }

    keeps_over : (ws : List ℕ) (d : Content) → IsSince m om d → Keeps old (over ws d)
    keeps_over ws d is = record {
      births = is.keeps.births;
      same = λ k lt. let b = is.since in at-set_other d.objects m k (with_slot ws) (λ e. absurd (omega (arith, e, lt, b))) ∙ is.keeps.same k lt;
    }

    -- the word behind these is what the slot has there
    owned_here : (before : List ℕ) (w : ℕ) (after : List ℕ) (d : Content) → owned_if (at (over (before ++ w ∷ after) d).objects m) (length pre) (length before) ≡ owned_in w
    owned_here before w after d =
        ap (λ (x : Option Object). owned_if x (length pre) (length before)) (at-set_same d.objects m m (with_slot (before ++ w ∷ after)) refl)
        ∙ ap (λ (x : Option Slot). owned_in (word_in x (length before))) (slot_here pre (record { words = before ++ w ∷ after; stamp = stamp }) post)
        ∙ ap owned_in (word_behind before w after)

    wrote_here : (before : List ℕ) (w v : ℕ) (after : List ℕ) (d : Content) → wrote m (length pre) (length before) (v ∷ []) (over (before ++ w ∷ after) d) ≡ over (before ++ v ∷ after) d
    wrote_here before w v after d =
        ap (λ (x : Option Object). wrote_if x m (length pre) (length before) (v ∷ []) (over (before ++ w ∷ after) d)) (at-set_same d.objects m m (with_slot (before ++ w ∷ after)) refl)
        ∙ ap (λ (x : Object). with_object m x (over (before ++ w ∷ after) d))
        (with_word_is (length pre) (length before) v (with_slot (before ++ w ∷ after))
        ∙ ap (with_slots om) (put_here pre (record { words = before ++ w ∷ after; stamp = stamp }) post (length before) v)
        ∙ ap with_slot (set_behind before w v after))
        ∙ ap (λ (x : Cells Object). record { objects = x; births = d.births; clock = d.clock }) (set-set d.objects m (with_slot (before ++ w ∷ after)) (with_slot (before ++ v ∷ after)))

    -- one word that owns
    buffer_words : (ty : TyId) (element : Parts) → rank_of types ty < depth → (before : List ℕ) (w : ℕ) (after : List ℕ) (d : Content) → IsSince m om d → (x : Option ℕ) → owned_in w ≡ x
        → IsReadableIf types ty element (IsCopyable types old (rank_of types ty) element) old x
        → recopied_each (copied_number s owners depth) m (length pre) (length before ∷ []) (over (before ++ w ∷ after) d) ≡ then_get (copied_buffer s ty (width element) (copied s element) x d) (λ v. Got (over (before ++ (v.0 ++ after)) v.1))
    buffer_words ty element lt before w after d is x own known =
        none_more (copied_number s owners depth) m (length pre) (recopied (copied_number s owners depth) (owned_if (at (over (before ++ w ∷ after) d).objects m) (length pre) (length before)) m (length pre) (length before) (over (before ++ w ∷ after) d))
        ∙ ap (λ y. recopied (copied_number s owners depth) y m (length pre) (length before) (over (before ++ w ∷ after) d)) (owned_here before w after d ∙ own)
        ∙ go x known
      where
        go : (x : Option ℕ) → IsReadableIf types ty element (IsCopyable types old (rank_of types ty) element) old x
            → recopied (copied_number s owners depth) x m (length pre) (length before) (over (before ++ w ∷ after) d) ≡ then_get (copied_buffer s ty (width element) (copied s element) x d) (λ v. Got (over (before ++ (v.0 ++ after)) v.1))
        go None r = refl
        go (Some q) r =
            ap (λ z. then_get z (λ b. Got (wrote m (length pre) (length before) (owner_word (Some b.0) ∷ []) b.1)))
            (below ty element q (over (before ++ w ∷ after) d) lt (keeps_over (before ++ w ∷ after) d is) r
            ∙ number_aside old m (with_slot (before ++ w ∷ after)) (width element) (copied s element) (copied_kept s element) (IsCopyable types old (rank_of types ty) element)
            (copied_aside s types old m (with_slot (before ++ w ∷ after)) (rank_of types ty) element) s ty (width element) r.object.slots r.slots d (may (before ++ w ∷ after) d is))
            ∙ then_then (number_copied s ty (width element) (copied s element) r.object.slots d) (also_over m (with_slot (before ++ w ∷ after))) (λ b. Got (wrote m (length pre) (length before) (owner_word (Some b.0) ∷ []) b.1))
            ∙ (λ j. then_get (number_copied s ty (width element) (copied s element) r.object.slots d) (λ b. Got (wrote_here before w (owner_word (Some b.0)) after b.1 j)))
            ∙ sym (then_then (number_copied s ty (width element) (copied s element) r.object.slots d) owned_words (λ v. Got (over (before ++ (v.0 ++ after)) v.1)))
            ∙ ap (λ z. then_get z (λ v. Got (over (before ++ (v.0 ++ after)) v.1))) (sym (owning_is s ty (width element) (copied s element) q d r.object.slots (slots_still s types old ty element (IsCopyable types old (rank_of types ty) element) q d is.keeps r)))

    abbrev Recopies : Parts → Type 0
    Recopies p =
        (before ws after : List ℕ) (d : Content) → IsSince m om d → length ws ≡ width p → IsCopyable types old depth p ws
        → recopied_each (copied_number s owners depth) m (length pre) (owner_words (flat (length before) p)) (over (before ++ (ws ++ after)) d) ≡ then_get (copied s p ws d) (λ v. Got (over (before ++ (v.0 ++ after)) v.1))

    one_recopied : (ty : TyId) (element : Parts) (before ws after : List ℕ) (d : Content) → IsSince m om d → length ws ≡ 1 → rank_of types ty < depth
        → IsReadableIf types ty element (IsCopyable types old (rank_of types ty) element) old (owned_in (slice_index ws 0))
        → recopied_each (copied_number s owners depth) m (length pre) (length before ∷ []) (over (before ++ (ws ++ after)) d)
        ≡ then_get (copied_buffer s ty (width element) (copied s element) (owned_in (slice_index ws 0)) d) (λ v. Got (over (before ++ (v.0 ++ after)) v.1))
    one_recopied ty element before ws after d is long lt known =
        ap (λ xs. recopied_each (copied_number s owners depth) m (length pre) (length before ∷ []) (over (before ++ (xs ++ after)) d)) (one_word ws long)
        ∙ buffer_words ty element lt before (slice_index ws 0) after d is (owned_in (slice_index ws 0)) refl known

    pub words_copied : (p : Parts) → Recopies p
    words_copied Single before ws after d is long known = refl
    words_copied Raw before ws after d is long known = refl
    words_copied Iterates before ws after d is long known = refl
    words_copied Views before ws after d is long known = refl
    words_copied (Text ty) before ws after d is long known = one_recopied ty Single before ws after d is long known.0 (as_single (owned_in (slice_index ws 0)) known.1)
      where
        as_single : (x : Option ℕ) → IsReadableIf types ty Single (λ vs. Unit {0}) old x → IsReadableIf types ty Single (IsCopyable types old (rank_of types ty) Single) old x
        as_single None r = tt
        as_single (Some n) r = r
    words_copied (Vector ty element) before ws after d is long known = one_recopied ty element before ws after d is long known.0 known.1
    words_copied (Unique ty target) before ws after d is long known = absurd known
    words_copied (Member first others) before ws after d is long known =
        (λ j. recopied_each (copied_number s owners depth) m (length pre) (owner_words-append (flat (length before) first) (flat (length before + width first) others) j)
        (over (before ++ (ap (λ xs. xs ++ after) (sym (take_drop (width first) ws)) ∙ append_assoc (take (width first) ws) (drop (width first) ws) after) j) d))
        ∙ each-append (copied_number s owners depth) m (length pre) (owner_words (flat (length before) first)) (owner_words (flat (length before + width first) others)) (over (before ++ (take (width first) ws ++ (drop (width first) ws ++ after))) d)
        ∙ ap (λ z. then_get z (recopied_each (copied_number s owners depth) m (length pre) (owner_words (flat (length before + width first) others))))
        (words_copied first before (take (width first) ws) (drop (width first) ws ++ after) d is (length_front (width first) (width others) ws long) known.0)
        ∙ then_then (copied s first (take (width first) ws) d) (λ v. Got (over (before ++ (v.0 ++ (drop (width first) ws ++ after))) v.1)) (recopied_each (copied_number s owners depth) m (length pre) (owner_words (flat (length before + width first) others)))
        ∙ then_alike (copied s first (take (width first) ws) d) (IsCopy (width first) (take (width first) ws) d)
        (λ v. recopied_each (copied_number s owners depth) m (length pre) (owner_words (flat (length before + width first) others)) (over (before ++ (v.0 ++ (drop (width first) ws ++ after))) v.1))
        (λ v. then_get (then_get (copied s others (drop (width first) ws) v.1) (with_first (λ x y. x ++ y) v.0)) (λ u. Got (over (before ++ (u.0 ++ after)) u.1)))
        (copied_kept s first (take (width first) ws) d)
        (λ v a.
        let k : length before + width first ≡ length (before ++ v.0) = (let l = length-append before v.0 in let w = a.long (length_front (width first) (width others) ws long) in omega (arith, l, w)) in
        (λ j. recopied_each (copied_number s owners depth) m (length pre) (owner_words (flat (k j) others)) (over (sym (append_assoc before v.0 (drop (width first) ws ++ after)) j) v.1))
        ∙ words_copied others (before ++ v.0) (drop (width first) ws) after v.1 (since_then m om d v.1 is a.keeps) (length_back (width first) (width others) ws long) known.1
        ∙ (λ j. then_get (copied s others (drop (width first) ws) v.1) (λ b. Got (over ((append_assoc before v.0 (b.0 ++ after) ∙ ap (λ xs. before ++ xs) (sym (append_assoc v.0 b.0 after))) j) b.1)))
        ∙ sym (then_then (copied s others (drop (width first) ws) v.1) (with_first (λ x y. x ++ y) v.0) (λ u. Got (over (before ++ (u.0 ++ after)) u.1))))
        ∙ sym (then_then (copied s first (take (width first) ws) d) (λ v. then_get (copied s others (drop (width first) ws) v.1) (with_first (λ x y. x ++ y) v.0)) (λ u. Got (over (before ++ (u.0 ++ after)) u.1)))
    words_copied NoMember before ws after d is long known = ap (λ xs. Got (over (before ++ (xs ++ after)) d)) (no_words ws long)
