-- A pointer is read: what the content has there, and its row.
use Rattle.std.proofs.Common.{◌≡◌, ℕ, zero, suc, ◌+◌, ◌<◌, ◌≤◌, ◌^◌, ◌%◌, List, [], ◌∷◌, take, drop, Option, Some, None, ap, ◌∙◌, arith}
use Rattle.std.proofs.lemmas.List.{get_or-take, get_or-drop}
use Rattle.std.specs.Prelude.{slice_get, slice_index}
use Rattle.life_store.specs.Cells.{at}
use Rattle.life_store.specs.Content.{Slot, Object, Content, word_in, word_at}
use Rattle.life_store.specs.Held.{pointer_in, pointer_of, slots_if, words_at, words_if}
use Rattle.life_store.specs.References.{Rows, object_of}
use Rattle.life_store.specs.declared.object.ObjRef.{ObjRef}
use Rattle.life_seen.specs.Housed.{IsHoused}
use Rattle.life_seen.specs.Kinds.{AreWhole, Kinds}
use Rattle.life_store.specs.Kinds.{Kind, Pointing}
use Rattle.life_seen.specs.Named.{names_of}
use Rattle.life_seen.specs.Rowed.{IsReadable, SlotsRowed, AreRowed}
use Rattle.life_seen.specs.Seen.{pointing_seen, word_seen, object_seen, seen}
use Rattle.life_seen.proofs.References.{found, found_seen}
use Rattle.life_seen.proofs.Views.{object_read}

word_there : (ws : List ℕ) (u j : ℕ) → j < 5 → slice_index (take 5 (drop u ws)) j ≡ slice_index ws (u + j)
word_there ws u j lt = get_or-take 5 (drop u ws) j 0 lt ∙ get_or-drop u ws j 0

none_there : (u j : ℕ) → j < 5 → slice_index (take 5 (drop u (let none : List ℕ = [] in none))) j ≡ 0
none_there u j lt = word_there [] u j lt

slot_word : (ss : List Slot) (i u j : ℕ) → j < 5 → slice_index (take 5 (drop u (words_if (slice_get ss i)))) j ≡ word_in (slice_get ss i) (u + j)
slot_word ss i u j lt = go (slice_get ss i)
  where
    go : (x : Option Slot) → slice_index (take 5 (drop u (words_if x))) j ≡ word_in x (u + j)
    go None = none_there u j lt
    go (Some s) = word_there s.words u j lt

pub object_word : (m : Content) (n i u j : ℕ) (q : Object) → at m.objects n ≡ Some q → j < 5 → slice_index (words_at m n i u 5) j ≡ word_at q i (u + j)
object_word m n i u j q there lt = ap (λ (x : Option Object). slice_index (take 5 (drop u (words_if (slice_get (slots_if x) i)))) j) there ∙ slot_word q.slots i u j lt

module _ (kinds : Kinds) (c : Content) (rows : Rows) (r : ObjRef) (i u : ℕ) (o : Object) (there : object_of c rows r ≡ Some o) (whole : AreWhole (kinds o.ty)) (begins : kinds o.ty u ≡ Pointing 0) where
  one_word : IsHoused kinds c rows → (j : ℕ) → j ≤ 4 → slice_index (words_at (seen kinds c rows) r.birth i u 5) j ≡ pointing_seen j (word_at o i (u + j))
  one_word h j le =
      object_word (seen kinds c rows) r.birth i u j (object_seen kinds (names_of c rows) o) (found_seen kinds c rows h r o there) (omega (arith, le))
      ∙ object_read kinds (names_of c rows) o i (u + j)
      ∙ ap (λ (k : Kind). word_seen (names_of c rows) k (word_at o i (u + j))) (whole u j le begins)

  pub pointer_read : IsHoused kinds c rows
      → pointer_in (words_at (seen kinds c rows) r.birth i u 5) ≡ pointer_of (word_at o i (u + 0)) (word_at o i (u + 1)) (word_at o i (u + 2)) (word_at o i (u + 3) % 2 ^ 32) (word_at o i (u + 4))
  pointer_read h =
      (λ k. pointer_of (one_word h 0 (omega arith) k) (one_word h 1 (omega arith) k) (one_word h 2 (omega arith) k) (one_word h 3 (omega arith) k) (one_word h 4 (omega arith) k))

  slot_rowed : (ss : List Slot) (f : ℕ → Kind) (j : ℕ) → f u ≡ Pointing 0 → SlotsRowed c rows f ss → IsReadable c rows (λ k. word_in (slice_get ss j) (u + k))
  slot_rowed [] f j e h = record { object = λ n moment first last. absurd (omega (arith, first)); characters = λ n first last. absurd (omega (arith, first)) }
  slot_rowed (s ∷ ss) f zero e h = h.0 u e
  slot_rowed (s ∷ ss) f (suc j) e h = slot_rowed ss f j e h.1

  -- what leads to an object has its row above the 32 lower bits of the fourth word
  pub pointer_fits : AreRowed kinds c rows → IsReadable c rows (λ j. word_at o i (u + j))
  pointer_fits rowed = slot_rowed o.slots (kinds o.ty) i begins (rowed r.birth o (found c rows r o there).there)
