-- A slot gets a fresh value: its pointers are wild or null, and its views see nothing, so all of them can be read.
use Rattle.std.proofs.Common.{◌≡◌, ◌≢◌, ◌⊎◌, ⊎_elim, inl, inr, ℕ, zero, suc, ◌+◌, ◌≤◌, ◌<◌, ◌^◌, List, [], ◌∷◌, Some, Ok, IfSome, refl, sym, ap, ◌∙◌, arith}
use Rattle.std.proofs.lemmas.Option.{same_Some}
use Rattle.std.specs.Prelude.{slice_get, slice_index, slice_set}
use Rattle.life_types.specs.Types.{Types}
use Rattle.life_core.specs.declared.instr.Form.{Form}
use Rattle.life_core.specs.declared.instr.Form.TheVariants as form
use Rattle.life_store.specs.Cells.{at, at-set_same}
use Rattle.life_store.specs.Content.{Slot, Object, Content, with_object, with_word, word_at, word_in}
use Rattle.life_store.specs.Effects.{Setting, Attempt, Got}
use Rattle.life_store.specs.Kinds.{Owner, Pointing}
use Rattle.life_store.specs.References.{Rows, object_of}
use Rattle.life_store.specs.declared.object.ObjRef.{ObjRef}
use Rattle.life_store.proofs.MapLemmas.{one_or_apart}
use Rattle.life_forest.proofs.Puts.{put_in}
use Rattle.life_seen.specs.Housed.{Later}
use Rattle.life_seen.specs.Kinds.{AreWhole, Kinds}
use Rattle.life_seen.specs.Named.{names_of}
use Rattle.life_seen.specs.Rowed.{IsReadable, AreRowed}
use Rattle.life_seen.specs.Seen.{seen, word_seen}
use Rattle.life_seen.proofs.References.{found}
use Rattle.life_seen.proofs.Rowed.{readable_as, rowed_born, slots_rowed_later}
use Rattle.life_seen.proofs.Views.{object_read}
use Rattle.life_words.proofs.Rowing.{owner_apart, put_still}
use Rattle.life_values.specs.Fresh.{kind_of, leaf_born, raw_word, AreBlank, IsFirst}
use Rattle.life_values.specs.declared.layout.Holds.{Holds}
use Rattle.life_values.specs.declared.layout.Holds.TheVariants as holds
use Rattle.life_values.specs.declared.layout.Leaf.{Leaf}
use Rattle.life_values.specs.declared.spot.Spot.{Spot}
use Rattle.life_values.proofs.CopiedRowed.{rowed_by_words, word_beside, words_rowed}
use Rattle.life_values.proofs.Filling.{after_put, kind_now, now, put_now, some_setting, Filling}
use Rattle.life_values.proofs.Owners.{with_word_is}

-- ---- what stands in the first word of a part

abbrev IsFit : Holds → (first : ℕ) → (word : ℕ → ℕ) → Type 0
IsFit holds.Raw w word = w ≤ 1
IsFit holds.View w word = (w ≡ 2) × (word 1 ≡ 0) × (word 2 ≡ 0) × (word 4 ≡ 0)
IsFit (holds.Characters ty) w word = Unit {0}
IsFit (holds.Elements ty) w word = Unit {0}
IsFit (holds.Target ty) w word = Unit {0}

abbrev first_or : Attempt (ℕ × Content) → ℕ
first_or (Got b) = b.0
first_or _ = 0

raw_small : (f : Form) → raw_word f ≤ 1
raw_small form.Plain = let le : 0 ≤ 1 = omega arith in le
raw_small form.Zero = let le : 1 ≤ 1 = omega arith in le

fits : (kinds : Kinds) (s : Setting) (types : Types) (f : Form) (m : Content) (h : Holds) (w : ℕ) (e : Content) (after : Rows) (word : ℕ → ℕ) → IsFirst kinds (leaf_born s types f h m) (kind_of h) (Ok w) e after
    → (h ≡ holds.View → (word 1 ≡ 0) × (word 2 ≡ 0) × (word 4 ≡ 0)) → IsFit h w word
fits kinds s types f m holds.Raw w e after word first zeros =
    let v : raw_word f ≡ first.0 = ap first_or first.2 in
    let same : w ≡ first.0 = first.5 in
    let small = raw_small f in
    let le : w ≤ 1 = omega (arith, v, same, small) in
    le
fits kinds s types f m holds.View w e after word first zeros =
    let v : 2 ≡ first.0 = ap first_or first.2 in
    let same : w ≡ first.0 = first.5 in
    let z = zeros refl in
    (omega (arith, v, same), z.0, z.1, z.2)
fits kinds s types f m (holds.Characters ty) w e after word first zeros = tt
fits kinds s types f m (holds.Elements ty) w e after word first zeros = tt
fits kinds s types f m (holds.Target ty) w e after word first zeros = tt

pointing_same : (i j : ℕ) → Pointing i ≡ Pointing j → i ≡ j
pointing_same i j e = cc

owner_pointing : (i : ℕ) → Owner ≡ Pointing i → ⊥
owner_pointing i e = cc

-- .. isn't in the middle of a pointer
first_kind : (h : Holds) (n : ℕ) → 1 ≤ n → kind_of h ≡ Pointing n → ⊥
first_kind holds.Raw n one e = let z = pointing_same 0 n e in absurd (omega (arith, z, one))
first_kind holds.View n one e = let z = pointing_same 0 n e in absurd (omega (arith, z, one))
first_kind (holds.Characters ty) n one e = owner_pointing n e
first_kind (holds.Elements ty) n one e = owner_pointing n e
first_kind (holds.Target ty) n one e = owner_pointing n e

-- ---- the word that was written, if it is there

set_or : (ws : List ℕ) (u v : ℕ) → (slice_index (slice_set ws u v) u ≡ v) ⊎ (slice_index (slice_set ws u v) u ≡ 0)
set_or [] zero v = inr refl
set_or [] (suc u) v = inr refl
set_or (w ∷ ws) zero v = inl refl
set_or (w ∷ ws) (suc u) v = set_or ws u v

put_or : (ss : List Slot) (i u v : ℕ) → (word_in (slice_get (put_in i u v ss) i) u ≡ v) ⊎ (word_in (slice_get (put_in i u v ss) i) u ≡ 0)
put_or [] i u v = inr refl
put_or (s ∷ ss) zero u v = set_or s.words u v
put_or (s ∷ ss) (suc i) u v = put_or ss i u v

word_or : (o : Object) (i u v : ℕ) → (word_at (with_word i u v o) i u ≡ v) ⊎ (word_at (with_word i u v o) i u ≡ 0)
word_or o i u v =
    let same = ap (λ (x : Object). word_at x i u) (with_word_is i u v o) in
    ⊎_elim (λ e. inl (same ∙ e)) (λ e. inr (same ∙ e)) (put_or o.slots i u v)

module _ (kinds : Kinds) (c : Content) (rows : Rows) (r : ObjRef) (o : Object) (found_o : object_of c rows r ≡ Some o) (whole : AreWhole (kinds o.ty)) (i u w : ℕ) (d : Content) (new : Rows) (last : d ≡ with_object r.birth (with_word i u w o) c) (same : new ≡ rows)
    (rowed : AreRowed kinds c rows) where
  later : Later c d rows new
  later = record { births = let e = ap (λ (x : Content). x.births) last in omega (arith, e); row = λ n k lt t. ap (λ (x : Rows). at x n) (sym same) ∙ t }

  module _ (begins : kinds o.ty u ≡ Pointing 0) (fit : IsReadable c rows (λ j. word_at (with_word i u w o) i (u + j))) where
    others : (k v : ℕ) → kinds o.ty v ≡ Pointing 0 → ((j : ℕ) → j ≤ 4 → k ≡ i → u ≢ v + j) → IsReadable c rows (λ j. word_at (with_word i u w o) k (v + j))
    others k v at_v apart =
        readable_as c rows (λ j. word_at o k (v + j)) (λ j. word_at (with_word i u w o) k (v + j)) (λ j le. sym (word_beside o i u w k (v + j) (apart j le)))
        (words_rowed c rows (kinds o.ty) o.slots (rowed r.birth o (found c rows r o found_o).there) k v at_v)

    readable : (k v : ℕ) → kinds o.ty v ≡ Pointing 0 → IsReadable c rows (λ j. word_at (with_word i u w o) k (v + j))
    readable k v at_v =
        one_or_apart k i
        (λ slot.
        one_or_apart v u
        (λ e. readable_as c rows (λ j. word_at (with_word i u w o) i (u + j)) (λ j. word_at (with_word i u w o) k (v + j)) (λ j le h. word_at (with_word i u w o) (sym slot h) (sym e h + j)) fit)
        (λ ne. others k v at_v (λ j le here one.
        let z = pointing_same 0 j (sym begins ∙ ap (kinds o.ty) one ∙ whole v j le at_v) in
        ne (omega (arith, one, z)))))
        (λ ne. others k v at_v (λ j le here one. ne here))

    begins_rowed : AreRowed kinds d new
    begins_rowed =
        rowed_born c d rows new later kinds r.birth (with_word i u w o) rowed
        (slots_rowed_later c d rows new later (kinds o.ty) (with_word i u w o).slots (rowed_by_words c rows (kinds o.ty) (with_word i u w o).slots readable)) (ap (λ (x : Content). x.objects) last)

  first_or_none : (word_at (with_word i u w o) i (u + 0) ≡ w) ⊎ (word_at (with_word i u w o) i (u + 0) ≡ 0)
  first_or_none =
      let z : u + 0 ≡ u = omega arith in
      ⊎_elim (λ e. inl (ap (word_at (with_word i u w o) i) z ∙ e)) (λ e. inr (ap (word_at (with_word i u w o) i) z ∙ e)) (word_or o i u w)

  behind : (j : ℕ) → 1 ≤ j → word_at (with_word i u w o) i (u + j) ≡ word_at o i (u + j)
  behind j one = word_beside o i u w i (u + j) (λ slot e. omega (arith, e, one))

  fit_rowed : (h : Holds) → kinds o.ty u ≡ kind_of h → IsFit h w (λ j. word_at o i (u + j)) → AreRowed kinds d new
  fit_rowed holds.Raw begins fit =
      begins_rowed begins
      (record {
        object = λ n moment first none. absurd (too_much n first);
        characters = λ n first none. absurd (too_much n first);
      })
    where
      too_much : (n : ℕ) → word_at (with_word i u w o) i (u + 0) ≡ suc (suc n) → ⊥
      too_much n first = let small : w ≤ 1 = fit in ⊎_elim (λ e. omega (arith, e, first, small)) (λ e. omega (arith, e, first)) first_or_none
  fit_rowed holds.View begins fit =
      let one : word_at (with_word i u w o) i (u + 1) ≡ 0 = behind 1 (omega arith) ∙ fit.1 in
      let two : word_at (with_word i u w o) i (u + 2) ≡ 0 = behind 2 (omega arith) ∙ fit.2 in
      let four : word_at (with_word i u w o) i (u + 4) ≡ 0 = behind 4 (omega arith) ∙ fit.3 in
      let is_two : w ≡ 2 = fit.0 in
      begins_rowed begins
      (record {
        object = λ n moment first none. let more : word_at (with_word i u w o) i (u + 4) ≡ suc moment = none in absurd (omega (arith, four, more));
        characters = λ n first none.
            let begin : word_at (with_word i u w o) i (u + 0) ≡ suc (suc n) = first in
            let text : n ≤ 2 ^ 32 = ⊎_elim (λ e. omega (arith, e, begin, is_two)) (λ e. absurd (omega (arith, e, begin))) first_or_none in
            let sees : word_at (with_word i u w o) i (u + 2) < 2 ^ 63 = omega (arith, two) in
            let ends : word_at (with_word i u w o) i (u + 1) + word_at (with_word i u w o) i (u + 2) ≤ 2 ^ 63 = omega (arith, one, two) in
            (text, sees, ends);
      })
  fit_rowed (holds.Characters ty) owner fit = put_still kinds c rows rowed r o found_o d new i u w whole (owner_apart owner) last same
  fit_rowed (holds.Elements ty) owner fit = put_still kinds c rows rowed r o found_o d new i u w whole (owner_apart owner) last same
  fit_rowed (holds.Target ty) owner fit = put_still kinds c rows rowed r o found_o d new i u w whole (owner_apart owner) last same

-- ---- one part

module _ (kinds : Kinds) (whole : (x : Object) → AreWhole (kinds x.ty)) (types : Types) (f : Form) (limit : ℕ) (spot : Spot) (leaves : List Leaf) (c : Content) (rows : Rows) (d : Content) (new : Rows) (j : ℕ) (p : Filling kinds types f limit spot leaves c rows d new j)
    (l : Leaf) (here : slice_get leaves j ≡ Some l) (w : ℕ) (e : Content) (after : Rows) (later_e : Later d e new after)
    (first : (s : Setting) → s.given.cells ≡ limit → IsFirst kinds (leaf_born s types f l.holds (seen kinds d new)) (kind_of l.holds) (Ok w) e after)
    (h : Content) (last : Rows) (put : IfSome (object_of e after spot.object) (λ o. h ≡ with_object spot.object.birth (with_word spot.slot (spot.word + l.word) w o) e)) (same : last ≡ after)
    (blank : AreBlank leaves spot.slot spot.word p.can.object) where
  raw_zero : l.holds ≡ holds.View → (n : ℕ) → 1 ≤ n → n ≤ 4
      → word_seen (names_of e after) (Pointing n) (word_at (now kinds types f limit spot leaves c rows d new j p l here w e after later_e first).object spot.slot (spot.word + l.word + n)) ≡ 0
  raw_zero view n one four =
      let now_e = now kinds types f limit spot leaves c rows d new j p l here w e after later_e first in
      let at_l = kind_now kinds types f limit spot leaves c rows d new j p l here w e after later_e first in
      ap (λ k. word_seen (names_of e after) k (word_at now_e.object spot.slot (spot.word + l.word + n))) (sym (whole now_e.object (spot.word + l.word) n four (at_l ∙ ap kind_of view)))
      ∙ sym (object_read kinds (names_of e after) now_e.object spot.slot (spot.word + l.word + n))
      ∙ ap (λ (x : Object). word_at x spot.slot (spot.word + l.word + n)) now_e.same
      ∙ blank j l here view n one four

  pub part_rowed : AreRowed kinds e after → AreRowed kinds h last
  part_rowed rowed =
      let now_e = now kinds types f limit spot leaves c rows d new j p l here w e after later_e first in
      fit_rowed kinds e after spot.object now_e.object now_e.found (whole now_e.object) spot.slot (spot.word + l.word) w h last
      (put_now kinds types f limit spot leaves c rows d new j p l here w e after later_e first h last put same) same rowed l.holds
      (kind_now kinds types f limit spot leaves c rows d new j p l here w e after later_e first)
      (fits kinds (some_setting limit) types f (seen kinds d new) l.holds w e after (λ n. word_at now_e.object spot.slot (spot.word + l.word + n)) (first (some_setting limit) refl)
      (λ view. (raw_zero view 1 (omega arith) (omega arith), raw_zero view 2 (omega arith) (omega arith), raw_zero view 4 (omega arith) (omega arith))))

  pub still_blank : (x : Object) → at (seen kinds h last).objects spot.object.birth ≡ Some x → AreBlank leaves spot.slot spot.word x
  still_blank x there k q at_k view n one four =
      let v = (first (some_setting limit) refl).0 in
      let is : with_word spot.slot (spot.word + l.word) v p.can.object ≡ x =
      same_Some _ _ (sym (at-set_same (first (some_setting limit) refl).1.objects spot.object.birth spot.object.birth (with_word spot.slot (spot.word + l.word) v p.can.object) refl)
      ∙ ap (λ (y : Content). at y.objects spot.object.birth) (after_put kinds types f limit spot leaves c rows d new j p l here w e after later_e first h last put same) ∙ there) in
      ap (λ (y : Object). word_at y spot.slot (spot.word + q.word + n)) (sym is)
      ∙ word_beside p.can.object spot.slot (spot.word + l.word) v spot.slot (spot.word + q.word + n)
      (λ slot at_same.
      first_kind l.holds n one
      (sym (p.can.own j l here) ∙ ap (kinds p.can.object.ty) at_same ∙ whole p.can.object (spot.word + q.word) n four (p.can.own k q at_k ∙ ap kind_of view)))
      ∙ blank k q at_k view n one four
