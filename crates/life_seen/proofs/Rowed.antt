-- Pointers in a store keep the rows of their objects: over births and ends, where slots are resized, and where words are written.
use Rattle.std.proofs.Common.{◌≡◌, ◌≢◌, ℕ, zero, suc, ◌+◌, ◌-◌, ◌^◌, ◌<◌, ◌≤◌, List, [], ◌∷◌, ◌++◌, length, map, replicate, take, drop, Option, Some, None, refl, sym, ap, subst, ◌∙◌, arith}
use Rattle.std.specs.Prelude.{slice_get, slice_index, slice_set, option_map, ◌/◌}
use Rattle.life_store.specs.Cells.{Cells, at, set, unset}
use Rattle.life_store.specs.Content.{Slot, Object, Content, blank_slot, resized_slots, set_slot, stamped, written}
use Rattle.life_store.specs.References.{Rows}
use Rattle.life_seen.specs.Kinds.{Kinds, AreWhole}
use Rattle.life_store.specs.Kinds.{Kind, Pointing}
use Rattle.life_seen.specs.Housed.{IsRef, Later}
use Rattle.life_seen.specs.Rowed.{IsReadable, WordsRowed, SlotsRowed, AreRowed}
use Rattle.life_seen.proofs.MapViews.{set_cases, unset_there}
use Rattle.life_seen.proofs.References.{ref_later}

-- a word is written, and another one read
pub index_other : (ws : List ℕ) (u v x : ℕ) → u ≢ v → slice_index (slice_set ws u x) v ≡ slice_index ws v
index_other [] u v x ne = refl
index_other (w ∷ ws) zero zero x ne = absurd (ne refl)
index_other (w ∷ ws) zero (suc v) x ne = refl
index_other (w ∷ ws) (suc u) zero x ne = refl
index_other (w ∷ ws) (suc u) (suc v) x ne = index_other ws u v x (λ e. ne (ap suc e))

-- ---- later

module _ (c d : Content) (rows new : Rows) (l : Later c d rows new) where
  readable_later : (word : ℕ → ℕ) → IsReadable c rows word → IsReadable d new word
  readable_later word r = record {
    object = λ n moment first last. let a = r.object n moment first last in (ref_later c d rows new (record { row = word 3 / 2 ^ 32; birth = n }) l a.0, a.1, a.2);
    characters = r.characters;
  }

  pub slots_rowed_later : (f : ℕ → Kind) (ss : List Slot) → SlotsRowed c rows f ss → SlotsRowed d new f ss
  slots_rowed_later f [] h = tt
  slots_rowed_later f (s ∷ ss) h = (λ u e. readable_later (λ j. slice_index s.words (u + j)) (h.0 u e), slots_rowed_later f ss h.1)

  -- what is there then was there, but for an object that fits by itself
  pub rowed_born : (kinds : Kinds) (b : ℕ) (o : Object) → AreRowed kinds c rows → SlotsRowed d new (kinds o.ty) o.slots → d.objects ≡ set c.objects b o → AreRowed kinds d new
  rowed_born kinds b o h own last n p there =
      set_cases c.objects b n o p (ap (λ (m : Cells Object). at m n) (sym last) ∙ there)
      (λ e same. subst (λ (q : Object). SlotsRowed d new (kinds q.ty) q.slots) same own)
      (λ ne old. slots_rowed_later (kinds p.ty) p.slots (h n p old))

  pub rowed_ended : (kinds : Kinds) (n : ℕ) → AreRowed kinds c rows → d.objects ≡ unset c.objects n → AreRowed kinds d new
  rowed_ended kinds n h last q p there = slots_rowed_later (kinds p.ty) p.slots (h q p (unset_there c.objects n q p (ap (λ (m : Cells Object). at m q) (sym last) ∙ there)).1)

  -- another number for an object
  pub rowed_renamed : (kinds : Kinds) (n b : ℕ) (o : Object) → AreRowed kinds c rows → at c.objects n ≡ Some o → d.objects ≡ set (unset c.objects n) b o → AreRowed kinds d new
  rowed_renamed kinds n b o h was last q p there =
      set_cases (unset c.objects n) b q o p (ap (λ (m : Cells Object). at m q) (sym last) ∙ there)
      (λ e same. subst (λ (x : Object). SlotsRowed d new (kinds x.ty) x.slots) same (slots_rowed_later (kinds o.ty) o.slots (h n o was)))
      (λ ne old. slots_rowed_later (kinds p.ty) p.slots (h q p (unset_there c.objects n q p old).1))

module _ (c : Content) (rows : Rows) where
  -- ---- words that are the same

  pub readable_as : (v w : ℕ → ℕ) → ((j : ℕ) → j ≤ 4 → v j ≡ w j) → IsReadable c rows v → IsReadable c rows w
  readable_as v w same r =
      let zeroth : v 0 ≡ w 0 = same 0 (omega arith) in
      let first : v 1 ≡ w 1 = same 1 (omega arith) in
      let second : v 2 ≡ w 2 = same 2 (omega arith) in
      let last : v 4 ≡ w 4 = same 4 (omega arith) in
      record {
        object = λ n moment a b.
            let is = r.object n moment (zeroth ∙ a) (last ∙ b) in
            let index : v 1 < 2 ^ 32 = is.1 in
            let count : v 2 < 2 ^ 32 = is.2 in
            (subst (λ k. IsRef c rows (record { row = k / 2 ^ 32; birth = n })) (same 3 (omega arith)) is.0, omega (arith, index, first), omega (arith, count, second));
        characters = λ n a b.
            let is = r.characters n (zeroth ∙ a) (last ∙ b) in
            let sees : v 2 < 2 ^ 63 = is.1 in
            let ends : v 1 + v 2 ≤ 2 ^ 63 = is.2 in
            (is.0, omega (arith, sees, second), omega (arith, ends, first, second));
      }

  blank_readable : (word : ℕ → ℕ) → word 0 ≡ 0 → IsReadable c rows word
  blank_readable word z = record { object = λ n moment first last. absurd (omega (arith, z, first)); characters = λ n first last. absurd (omega (arith, z, first)) }

  -- ---- slots that are cut, filled up and stamped

  index_blank : (n u : ℕ) → slice_index (replicate n 0) u ≡ 0
  index_blank zero u = refl
  index_blank (suc n) zero = refl
  index_blank (suc n) (suc u) = index_blank n u

  blanks_rowed : (f : ℕ → Kind) (w moment n : ℕ) → SlotsRowed c rows f (replicate n (blank_slot w moment))
  blanks_rowed f w moment zero = tt
  blanks_rowed f w moment (suc n) = (λ u e. blank_readable (λ j. slice_index (replicate w 0) (u + j)) (index_blank w (u + 0)), blanks_rowed f w moment n)

  append_rowed : (f : ℕ → Kind) (ss rr : List Slot) → SlotsRowed c rows f ss → SlotsRowed c rows f rr → SlotsRowed c rows f (ss ++ rr)
  append_rowed f [] rr h k = k
  append_rowed f (s ∷ ss) rr h k = (h.0, append_rowed f ss rr h.1 k)

  take_rowed : (f : ℕ → Kind) (n : ℕ) (ss : List Slot) → SlotsRowed c rows f ss → SlotsRowed c rows f (take n ss)
  take_rowed f zero ss h = tt
  take_rowed f (suc n) [] h = tt
  take_rowed f (suc n) (s ∷ ss) h = (h.0, take_rowed f n ss h.1)

  drop_rowed : (f : ℕ → Kind) (n : ℕ) (ss : List Slot) → SlotsRowed c rows f ss → SlotsRowed c rows f (drop n ss)
  drop_rowed f zero ss h = h
  drop_rowed f (suc n) [] h = tt
  drop_rowed f (suc n) (s ∷ ss) h = drop_rowed f n ss h.1

  stamped_rowed : (f : ℕ → Kind) (moment : ℕ) (ss : List Slot) → SlotsRowed c rows f ss → SlotsRowed c rows f (map (stamped moment) ss)
  stamped_rowed f moment [] h = tt
  stamped_rowed f moment (s ∷ ss) h = (h.0, stamped_rowed f moment ss h.1)

  pub resized_rowed : (f : ℕ → Kind) (w moment size since : ℕ) (ss : List Slot) → SlotsRowed c rows f ss → SlotsRowed c rows f (resized_slots w moment size since ss)
  resized_rowed f w moment size since ss h =
      let blanks : List Slot = replicate (size - length ss) (blank_slot w moment) in
      append_rowed f (take since ss) (map (stamped moment) (take (size - since) (drop since ss ++ blanks))) (take_rowed f since ss h)
      (stamped_rowed f moment (take (size - since) (drop since ss ++ blanks))
      (take_rowed f (size - since) (drop since ss ++ blanks)
      (append_rowed f (drop since ss) blanks (drop_rowed f since ss h) (blanks_rowed f w moment (size - length ss)))))

  -- ---- a word that is in no pointer is written

  -- no pointer has the word
  abbrev pub IsApart : (ℕ → Kind) → ℕ → Type 0
  IsApart f u = (i : ℕ) → f u ≡ Pointing i → ⊥

  word_rowed : (f : ℕ → Kind) → AreWhole f → (ws : List ℕ) (u x : ℕ) → IsApart f u → WordsRowed c rows f ws → WordsRowed c rows f (slice_set ws u x)
  word_rowed f whole ws u x apart h v e =
      readable_as (λ j. slice_index ws (v + j)) (λ j. slice_index (slice_set ws u x) (v + j))
      (λ j le. sym (index_other ws u (v + j) x (λ s. apart j (ap f s ∙ whole v j le e))))
      (h v e)

  pub put_rowed : (f : ℕ → Kind) → AreWhole f → (ss : List Slot) (i u x : ℕ) → IsApart f u → SlotsRowed c rows f ss → SlotsRowed c rows f (set_slot ss i (option_map (written u x) (slice_get ss i)))
  put_rowed f whole [] i u x apart h = tt
  put_rowed f whole (s ∷ ss) zero u x apart h = (word_rowed f whole s.words u x apart h.0, h.1)
  put_rowed f whole (s ∷ ss) (suc i) u x apart h = go (option_map (written u x) (slice_get ss i)) (put_rowed f whole ss i u x apart h.1)
    where
      go : (y : Option Slot) → SlotsRowed c rows f (set_slot ss i y) → SlotsRowed c rows f (set_slot (s ∷ ss) (suc i) y)
      go None k = (h.0, k)
      go (Some t) k = (h.0, k)
