-- Five words that are read as a pointer, and a pointer that is written in five words.
use Rattle.std.proofs.Common.{◌≡◌, ℕ, zero, suc, ◌+◌, ◌-◌, ◌<◌, ◌≤◌, ◌^◌, ◌%◌, ◌/◌, Option, Some, None, IfSome, sym, ap, subst, ◌∙◌, arith}
use Rattle.life_store.specs.Content.{Content, Object, with_object, word_at}
use Rattle.life_store.specs.Held.{owned_in, owner_word, pointer_in, pointer_of, pointer_words, with_words, words_at, wrote, wrote_if}
use Rattle.life_store.specs.References.{Rows}
use Rattle.life_store.specs.State.{To, Static}
use Rattle.life_store.specs.declared.object.ObjRef.{ObjRef}
use Rattle.life_seen.specs.Housed.{IsRef, Shows}
use Rattle.life_seen.specs.Kinds.{Kinds}
use Rattle.life_seen.specs.Rowed.{stored_words, AreRowed, IsReadable, IsStorable}
use Rattle.life_seen.specs.Seen.{seen}
use Rattle.life_seen.proofs.Pointers.{pointer_has_row, shows_pointer}
use Rattle.life_seen.proofs.PointerWords.{IsNear}
use Rattle.life_seen.proofs.ReadPointers.{pointer_fits, pointer_read}
use Rattle.life_seen.proofs.References.{found_seen}
use Rattle.life_seen.proofs.Rowed.{readable_as}
use Rattle.life_pointers.specs.Pointers.{pointer_seen, PointerFits}
use Rattle.life_pointers.specs.Words.{five, row_of, HasWholeWords, IsPointer, IsSmall}
use Rattle.life_pointers.specs.declared.pointer.Pointer.{Pointer}
use Rattle.life_pointers.specs.declared.pointer.Pointer.TheVariants as leads

-- ---- what the words say

pub read_static : (first index count fourth last : ℕ) (text : Option ℕ) → 2 ≤ first → last ≡ 0 → text ≡ owned_in (first - 2)
    → Static (record { text = text; index = index; count = count }) ≡ pointer_of first index count fourth last
read_static zero index count fourth last text le e t = absurd (omega arith)
read_static (suc zero) index count fourth last text le e t = absurd (omega arith)
read_static (suc (suc n)) index count fourth (suc m) text le e t = absurd (omega arith)
read_static (suc (suc n)) index count fourth zero text le e t =
    let back : suc (suc n) - 2 ≡ n = omega arith in
    ap (λ (x : Option ℕ). Static (record { text = x; index = index; count = count })) (t ∙ ap owned_in back)

pub read_to : (first index count word last i n w : ℕ) → 2 ≤ first → 1 ≤ last → i ≡ index → n ≡ count → w ≡ word
    → To (record { object = first - 2; index = i; word = w; count = n; moment = last - 1 }) ≡ pointer_of first index count word last
read_to zero index count word last i n w le lt a b c = absurd (omega arith)
read_to (suc zero) index count word last i n w le lt a b c = absurd (omega arith)
read_to (suc (suc k)) index count word zero i n w le lt a b c = absurd (omega arith)
read_to (suc (suc k)) index count word (suc m) i n w le lt a b c =
    let object : suc (suc k) - 2 ≡ k = omega arith in
    let moment : suc m - 1 ≡ m = omega arith in
    λ j. To (record { object = object j; index = a j; word = c j; count = b j; moment = moment j })

module _ (c : Content) (rows : Rows) (first index count fourth last : ℕ) (r : IsReadable c rows (five first index count fourth last)) where
  pub text_fits : 2 ≤ first → last ≡ 0 → (first - 2 ≤ 2 ^ 32) × (count < 2 ^ 63) × (index + count ≤ 2 ^ 63)
  text_fits le e = r.characters (first - 2) (omega arith) e

  pub object_fits : 2 ≤ first → 1 ≤ last → IsRef c rows (record { row = fourth / 2 ^ 32; birth = first - 2 }) × (index < 2 ^ 32) × (count < 2 ^ 32)
  object_fits le lt = r.object (first - 2) (last - 1) (omega arith) (omega arith)

pub all_of : (n low : ℕ) → n < 2 ^ 32 → low ≡ n % 2 ^ 32 → low ≡ n
all_of n low lt e = omega arith

-- ---- the words of a slot

module _ (kinds : Kinds) (c : Content) (rows : Rows) (r : ObjRef) (i u : ℕ) (o : Object) (is : IsPointer kinds c rows r u o) where
  module _ (rowed : AreRowed kinds c rows) (first index count fourth last : ℕ)
      (a : first ≡ word_at o i u) (b : index ≡ word_at o i (u + 1)) (d : count ≡ word_at o i (u + 2)) (e : fourth ≡ word_at o i (u + 3)) (f : last ≡ word_at o i (u + 4)) where
    begins_at : u + 0 ≡ u
    begins_at = omega arith

    same : (j : ℕ) → j ≤ 4 → word_at o i (u + j) ≡ five first index count fourth last j
    same zero le = ap (word_at o i) begins_at ∙ sym a
    same (suc zero) le = sym b
    same (suc (suc zero)) le = sym d
    same (suc (suc (suc zero))) le = sym e
    same (suc (suc (suc (suc zero)))) le = sym f
    same (suc (suc (suc (suc (suc j))))) le = absurd (omega arith)

    pub readable : IsReadable c rows (five first index count fourth last)
    readable = readable_as c rows (λ j. word_at o i (u + j)) (five first index count fourth last) same (pointer_fits kinds c rows r i u o is.there is.whole is.begins rowed)

    pub read : pointer_of first index count (fourth % 2 ^ 32) last ≡ pointer_in (words_at (seen kinds c rows) r.birth i u 5)
    read =
        let zeroth : first ≡ word_at o i (u + 0) = a ∙ ap (word_at o i) (sym begins_at) in
        (λ k. pointer_of (zeroth k) (b k) (d k) (e k % 2 ^ 32) (f k)) ∙ sym (pointer_read kinds c rows r i u o is.there is.whole is.begins is.housed)

  -- ---- a pointer is written

  module _ (p : Pointer) (small : IsSmall p) (d : Content) (new : Rows) (last : d ≡ with_object r.birth (with_words i u (stored_words (row_of p) (pointer_seen p)) o) c) (placed : new ≡ rows) where
    near : (q : Pointer) → IsSmall q → IsNear (pointer_seen q)
    near leads.Null h = tt
    near leads.Wild h = tt
    near (leads.To index count word object moment) h = h.0
    near (leads.Static s) h = tt

    text_small : (text : Option ℕ) → IfSome text (λ n. n < 2 ^ 32) → owner_word text ≤ 2 ^ 32
    text_small None h = omega arith
    text_small (Some n) h = omega (arith, h)

    storable : (q : Pointer) → IsSmall q → PointerFits c rows q → IsStorable c rows (row_of q) (pointer_seen q)
    storable leads.Null h fits = tt
    storable leads.Wild h fits = tt
    storable (leads.To index count word object moment) h fits = (fits.0, h.0, h.1, h.2)
    storable (leads.Static s) h fits = (text_small s.text h, fits.0, fits.1)

    pub shows_written : Shows kinds d new (wrote r.birth i u (pointer_words (pointer_seen p)) (seen kinds c rows))
    shows_written =
        subst (λ (x : Option Object). Shows kinds d new (wrote_if x r.birth i u (pointer_words (pointer_seen p)) (seen kinds c rows))) (sym (found_seen kinds c rows is.housed r o is.there))
        (shows_pointer kinds c rows r i u (row_of p) (pointer_seen p) o is.there is.whole is.begins d new last placed is.housed (near p small))

    pub rowed_written : HasWholeWords i u o → PointerFits c rows p → AreRowed kinds c rows → AreRowed kinds d new
    rowed_written wide fits rowed =
        pointer_has_row kinds c rows r i u (row_of p) (pointer_seen p) o is.there is.whole is.begins d new last placed rowed (storable p small fits) wide
