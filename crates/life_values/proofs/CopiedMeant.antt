-- An object that is copied with all that it owns is what the meaning makes of its slots by their parts: first all copies, and then they are written.
use Rattle.std.proofs.Common.{◌≡◌, ℕ, zero, suc, ◌+◌, ◌≤◌, ◌<◌, List, [], ◌∷◌, ◌++◌, length, Option, Some, refl, sym, ap, ◌∙◌, arith}
use Rattle.std.proofs.lemmas.List.{append-nil}
use Rattle.std.specs.Prelude.{drop, slice_get, take}
use Rattle.life_types.specs.Types.{Types}
use Rattle.life_types.specs.declared.ty.TyId.{TyId}
use Rattle.life_store.specs.Cells.{Cells, at, at-set_same, at-set_other}
use Rattle.life_store.specs.Content.{Slot, Object, Content, with_object}
use Rattle.life_store.specs.Effects.{Setting, Attempt, Got, then_get}
use Rattle.life_store.specs.Held.{filled_if, filled_slots, slots_if, words_at, words_if, wrote, wrote_if}
use Rattle.life_store.specs.Owners.{copied, copied_buffer, copied_slots, sized_birth}
use Rattle.life_store.specs.Parts.{Parts, Single, Raw, Iterates, Views, Text, Vector, Unique, Member, NoMember, parts_at, width}
use Rattle.life_store.proofs.MapLemmas.{set-set}
use Rattle.life_forest.specs.Kinds.{rank_of}
use Rattle.life_forest.specs.Values.{AllKnown, AllWide}
use Rattle.life_values.specs.Copied.{copied_if, copied_number, recopied_each, slots_copied}
use Rattle.life_values.specs.Copyable.{IsCopyable, IsReadable}
use Rattle.life_values.specs.Layouts.{flat, owner_words}
use Rattle.life_values.proofs.Attempts.{then_alike, then_then}
use Rattle.life_values.proofs.CopiedAside.{number_copied, numbered, owned_words, owning_is, slots_still, with_first}
use Rattle.life_values.proofs.CopiedKept.{birth_kept, copied_kept, keeps_then, slots_kept, IsBorn, IsCopy, Keeps}
use Rattle.life_values.proofs.CopiedWords.{since_then, words_copied, IsSince}
use Rattle.life_values.proofs.InRows.{one_more, regrouped, whole_written, with_slots, words_here}
use Rattle.life_values.proofs.RegrownMeant.{same_back}

-- more steps of owning are enough, too
pub deeper : (types : Types) (c : Content) (a b : ℕ) → a ≤ b → (p : Parts) (ws : List ℕ) → IsCopyable types c a p ws → IsCopyable types c b p ws
deeper types c a b le Single ws h = tt
deeper types c a b le Raw ws h = tt
deeper types c a b le Iterates ws h = tt
deeper types c a b le Views ws h = tt
deeper types c a b le (Text ty) ws h = (let l = h.0 in omega (arith, l, le), h.1)
deeper types c a b le (Vector ty element) ws h = (let l = h.0 in omega (arith, l, le), h.1)
deeper types c a b le (Unique ty target) ws h = h
deeper types c a b le (Member first others) ws h = (deeper types c a b le first (take (width first) ws) h.0, deeper types c a b le others (drop (width first) ws) h.1)
deeper types c a b le NoMember ws h = tt

module _ (s : Setting) (types : Types) (owners : TyId → List ℕ) (own : (ty : TyId) → owners ty ≡ owner_words (flat 0 (parts_at types ty))) (old : Content) where
  abbrev IsNumber : ℕ → Type 0
  IsNumber depth =
      (ty : TyId) (element : Parts) (q : ℕ) (c : Content) → rank_of types ty < depth → Keeps old c → (r : IsReadable types ty element (IsCopyable types old (rank_of types ty) element) old q)
      → copied_number s owners depth q c ≡ number_copied s ty (width element) (copied s element) r.object.slots c

  -- ---- the slots of an object, from one on

  module _ (depth : ℕ) (below : IsNumber depth) (ty : TyId) (element : Parts) (low : rank_of types ty ≤ depth) (us : List ℕ) (words : us ≡ owner_words (flat 0 element)) (n : ℕ)
      (r : IsReadable types ty element (IsCopyable types old (rank_of types ty) element) old n) (m : ℕ) (om : Object) where
    abbrev copy : ℕ → Content → Attempt (ℕ × Content)
    copy = copied_number s owners depth

    abbrev target : List Slot → Content → Content
    target ss d = with_object m (with_slots om ss) d

    slots_meant : (ss rest done before : List Slot) (d : Content) → r.object.slots ≡ before ++ ss → length before ≡ length done → length rest ≡ length ss → AllWide (width element) ss → AllWide (width element) rest
        → AllKnown (IsCopyable types old (rank_of types ty) element) ss → IsSince s types owners old depth below m om d
        → slots_copied (copied_number s owners depth) us (width element) n m (length done) (length ss) (with_object m (with_slots om (done ++ rest)) d)
        ≡ then_get (copied_slots (copied s element) ss d) (λ vs. Got (with_object m (with_slots om (done ++ filled_slots rest vs.0)) vs.1))
    slots_meant [] [] done before d at_n same count wide blank known is = refl
    slots_meant [] (t ∷ rest) done before d at_n same count wide blank known is = absurd (omega (arith, count))
    slots_meant (x ∷ ss) [] done before d at_n same count wide blank known is = absurd (omega (arith, count))
    slots_meant (x ∷ ss) (t ∷ rest) done before d at_n same count wide blank known is =
        ap (λ z. then_get z (slots_copied (copied_number s owners depth) us (width element) n m (length done + 1) (length ss))) (written ∙ given)
        ∙ then_then (copied s element x.words d) (λ v. Got (slot_with v.0 v.1)) (slots_copied (copied_number s owners depth) us (width element) n m (length done + 1) (length ss))
        ∙ then_alike (copied s element x.words d) (IsCopy (width element) x.words d)
        (λ v. slots_copied (copied_number s owners depth) us (width element) n m (length done + 1) (length ss) (slot_with v.0 v.1))
        (λ v. then_get (then_get (copied_slots (copied s element) ss v.1) (with_first (λ y ys. y ∷ ys) v.0)) (λ vs. Got (target (done ++ filled_slots (t ∷ rest) vs.0) vs.1)))
        (copied_kept s element x.words d)
        (λ v a.
        (λ j. slots_copied (copied_number s owners depth) us (width element) n m (sym (one_more done (record { words = v.0; stamp = t.stamp })) j) (length ss) (target (regrouped done (record { words = v.0; stamp = t.stamp }) rest j) v.1))
        ∙ slots_meant ss rest (done ++ record { words = v.0; stamp = t.stamp } ∷ []) (before ++ x ∷ []) v.1 (at_n ∙ regrouped before x ss)
        (let p = one_more done (record { words = v.0; stamp = t.stamp }) in let q = one_more before x in omega (arith, p, q, same)) (omega (arith, count)) wide.1 blank.1 known.1 (since_then s types owners old depth below m om d v.1 is a.keeps)
        ∙ (λ j. then_get (copied_slots (copied s element) ss v.1) (λ vs. Got (target (sym (regrouped done (record { words = v.0; stamp = t.stamp }) (filled_slots rest vs.0)) j) vs.1)))
        ∙ sym (then_then (copied_slots (copied s element) ss v.1) (with_first (λ y ys. y ∷ ys) v.0) (λ vs. Got (target (done ++ filled_slots (t ∷ rest) vs.0) vs.1))))
        ∙ sym (then_then (copied s element x.words d) (λ v. then_get (copied_slots (copied s element) ss v.1) (with_first (λ y ys. y ∷ ys) v.0)) (λ vs. Got (target (done ++ filled_slots (t ∷ rest) vs.0) vs.1)))
      where
        slot_with : List ℕ → Content → Content
        slot_with ws e = with_object m (with_slots om (done ++ record { words = ws; stamp = t.stamp } ∷ rest)) e

        source : slots_if (at (with_object m (with_slots om (done ++ t ∷ rest)) d).objects n) ≡ before ++ x ∷ ss
        source =
            ap slots_if (at-set_other d.objects m n (with_slots om (done ++ t ∷ rest)) (λ e. let b = r.born in let l = is.since in absurd (omega (arith, e, b, l))))
            ∙ slots_still s types old ty element (IsCopyable types old (rank_of types ty) element) n d is.keeps r
            ∙ at_n

        read : words_at (with_object m (with_slots om (done ++ t ∷ rest)) d) n (length done) 0 (width element) ≡ x.words
        read = (λ j. take (width element) (drop 0 (words_if (slice_get (source j) (sym same j))))) ∙ words_here before x ss (width element) wide.0

        put : wrote m (length done) 0 x.words (with_object m (with_slots om (done ++ t ∷ rest)) d) ≡ with_object m (with_slots om (done ++ record { words = x.words; stamp = t.stamp } ∷ rest)) d
        put =
            ap (λ (z : Option Object). wrote_if z m (length done) 0 x.words (with_object m (with_slots om (done ++ t ∷ rest)) d)) (at-set_same d.objects m m (with_slots om (done ++ t ∷ rest)) refl)
            ∙ ap (λ (z : Object). with_object m z (with_object m (with_slots om (done ++ t ∷ rest)) d)) (whole_written om done t rest x.words (wide.0 ∙ sym blank.0))
            ∙ ap (λ (z : Cells Object). record { objects = z; births = d.births; clock = d.clock }) (set-set d.objects m (with_slots om (done ++ t ∷ rest)) (with_slots om (done ++ record { words = x.words; stamp = t.stamp } ∷ rest)))

        -- the words first, and then copies of what they own
        written : recopied_each (copied_number s owners depth) m (length done) us (wrote m (length done) 0 (words_at (with_object m (with_slots om (done ++ t ∷ rest)) d) n (length done) 0 (width element)) (with_object m (with_slots om (done ++ t ∷ rest)) d))
            ≡ recopied_each (copied_number s owners depth) m (length done) (owner_words (flat 0 element)) (slot_with (x.words ++ []) d)
        written =
            ap (λ ws. recopied_each (copied_number s owners depth) m (length done) us (wrote m (length done) 0 ws (with_object m (with_slots om (done ++ t ∷ rest)) d))) read
            ∙ (λ j. recopied_each (copied_number s owners depth) m (length done) (words j) ((put ∙ ap (λ ws. slot_with ws d) (sym (append-nil x.words))) j))

        given : recopied_each (copied_number s owners depth) m (length done) (owner_words (flat 0 element)) (slot_with (x.words ++ []) d) ≡ then_get (copied s element x.words d) (λ v. Got (slot_with v.0 v.1))
        given =
            words_copied s types owners old depth below m om done t.stamp rest element [] x.words [] d is wide.0 (deeper types old (rank_of types ty) depth low element x.words known.0)
            ∙ (λ j. then_get (copied s element x.words d) (λ v. Got (slot_with (append-nil v.0 j) v.1)))

  -- ---- the object

  pub number_meant : (depth : ℕ) → IsNumber depth
  number_meant zero ty element n c lt keeps r = absurd (omega (arith, lt))
  number_meant (suc depth) ty element n c lt keeps r =
      ap (λ (x : Option Object). copied_if s owners (copied_number s owners depth) n x c) (keeps.same n r.born ∙ r.there)
      ∙ (λ j. by_type (r.type j) (r.words j))
      ∙ then_alike (sized_birth s ty (width element) (length r.object.slots) c) (IsBorn ty (width element) (length r.object.slots) c)
      (λ b. then_get (slots_copied (copied_number s owners depth) (owners ty) (width element) n b.0 0 (length r.object.slots) b.1) (numbered b.0))
      (λ b. then_get (copied_slots (copied s element) r.object.slots b.1) (λ vs. numbered b.0 (filled_if (at vs.1.objects b.0) b.0 vs.0 vs.1)))
      (birth_kept ty (width element) (length r.object.slots) c s)
      (filling (number_meant depth))
    where
      by_type : TyId → ℕ → Attempt (ℕ × Content)
      by_type t w =
          then_get (sized_birth s t w (length r.object.slots) c) (λ b. then_get (slots_copied (copied_number s owners depth) (owners t) w n b.0 0 (length r.object.slots) b.1) (numbered b.0))

      filling : IsNumber depth → (b : ℕ × Content) → IsBorn ty (width element) (length r.object.slots) c b
          → then_get (slots_copied (copied_number s owners depth) (owners ty) (width element) n b.0 0 (length r.object.slots) b.1) (numbered b.0)
          ≡ then_get (copied_slots (copied s element) r.object.slots b.1) (λ vs. numbered b.0 (filled_if (at vs.1.objects b.0) b.0 vs.0 vs.1))
      filling below b born =
          ap (λ (d : Content). then_get (slots_copied (copied_number s owners depth) (owners ty) (width element) n b.0 0 (length r.object.slots) d) (numbered b.0)) (sym (same_back b.1 b.0 born.object born.there))
          ∙ ap (λ z. then_get z (numbered b.0))
          (slots_meant depth below ty element (omega (arith, lt)) (owners ty) (own ty ∙ ap (λ p. owner_words (flat 0 p)) r.parts) n r b.0 born.object r.object.slots born.object.slots [] [] b.1 refl refl born.count r.wide born.wide r.slots
          (record { keeps = keeps_then old c b.1 keeps born.keeps; since = let e = born.number in let k = keeps.births in omega (arith, e, k); born = born.born; there = born.there }))
          ∙ then_then (copied_slots (copied s element) r.object.slots b.1) (λ vs. Got (with_object b.0 (with_slots born.object (filled_slots born.object.slots vs.0)) vs.1)) (numbered b.0)
          ∙ then_alike (copied_slots (copied s element) r.object.slots b.1) (λ vs. Keeps b.1 vs.1)
          (λ vs. numbered b.0 (with_object b.0 (with_slots born.object (filled_slots born.object.slots vs.0)) vs.1))
          (λ vs. numbered b.0 (filled_if (at vs.1.objects b.0) b.0 vs.0 vs.1))
          (slots_kept (width element) (copied s element) (copied_kept s element) r.object.slots b.1)
          (λ vs k. ap (λ (x : Option Object). numbered b.0 (filled_if x b.0 vs.0 vs.1)) (sym (k.same b.0 born.born ∙ born.there)))

  -- .. and so is what a word owns, by its copy's word
  pub buffer_meant : (depth : ℕ) (ty : TyId) (element : Parts) (n : ℕ) → rank_of types ty < depth → IsReadable types ty element (IsCopyable types old (rank_of types ty) element) old n
      → copied_buffer s ty (width element) (copied s element) (Some n) old ≡ then_get (copied_number s owners depth n old) owned_words
  buffer_meant depth ty element n lt r =
      let same : Keeps old old = record { births = omega arith; same = λ k l. refl } in
      owning_is s ty (width element) (copied s element) n old r.object.slots (slots_still s types old ty element (IsCopyable types old (rank_of types ty) element) n old same r)
      ∙ ap (λ z. then_get z owned_words) (sym (number_meant depth ty element n old lt same r))
