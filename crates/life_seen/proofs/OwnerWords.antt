-- Words that own: read, taken out and put.
use Rattle.std.proofs.Common.{◌≡◌, ℕ, zero, suc, ◌+◌, ◌<◌, ◌^◌, Some, None, refl, sym, ap, subst, ◌∙◌, arith}
use Rattle.life_store.specs.Cells.{at}
use Rattle.life_store.specs.Content.{Object, Content, with_object, with_word, word_at}
use Rattle.life_store.specs.Held.{owner_word}
use Rattle.life_store.specs.References.{Rows, object_of, IsFreeRow}
use Rattle.life_store.specs.declared.object.ObjRef.{ObjRef}
use Rattle.life_seen.specs.Kinds.{Kinds}
use Rattle.life_store.specs.Kinds.{Owner}
use Rattle.life_seen.specs.Named.{names_of}
use Rattle.life_seen.specs.Seen.{owner_seen, word_seen, object_seen, seen}
use Rattle.life_seen.specs.Housed.{RowLives, WordLives, IsHoused, Shows}
use Rattle.life_seen.proofs.Calls.{shows_put}
use Rattle.life_seen.proofs.References.{found, number_in_row, row_of_number}
use Rattle.life_seen.proofs.Views.{object_read, slot_lives}

module _ (kinds : Kinds) (c : Content) (rows : Rows) (h : IsHoused kinds c rows) (r : ObjRef) (i u : ℕ) (o : Object) (there : object_of c rows r ≡ Some o) (owner : kinds o.ty u ≡ Owner) where
  abbrev seen_object : Object
  seen_object = object_seen kinds (names_of c rows) o

  abbrev held : ℕ
  held = word_at o i u

  is_seen : word_at seen_object i u ≡ owner_seen (names_of c rows) held
  is_seen = object_read kinds (names_of c rows) o i u ∙ ap (λ k. word_seen (names_of c rows) k held) owner

  held_lives : RowLives (names_of c rows) held
  held_lives = subst (λ k. WordLives (names_of c rows) k held) owner (slot_lives (names_of c rows) (kinds o.ty) o.slots i u (h.named.owners r.birth o (found c rows r o there).there))

  -- what is 0 owns nothing
  pub owns_nothing : held ≡ 0 → word_at seen_object i u ≡ owner_word None
  owns_nothing z = is_seen ∙ ap (owner_seen (names_of c rows)) z

  -- what has the row is owned
  pub owns_living : (q : ObjRef) → held ≡ q.row + 1 → at rows q.birth ≡ Some q.row → word_at seen_object i u ≡ owner_word (Some q.birth)
  owns_living q e placed =
      let s : held ≡ suc q.row = omega (arith, e) in
      is_seen ∙ ap (owner_seen (names_of c rows)) s ∙ ap owner_word (number_in_row kinds c rows h q.birth q.row placed)

  -- .. and some object has it
  pub row_lives : (k : ℕ) → held ≡ k + 1 → IsFreeRow rows k → ⊥
  row_lives k e free =
      let s : held ≡ suc k = omega (arith, e) in
      let l : RowLives (names_of c rows) (suc k) = subst (RowLives (names_of c rows)) s held_lives in
      free l.0 (row_of_number kinds c rows h l.0 k l.1)

  -- nothing is owned any more
  pub shows_taken : (d : Content) (new : Rows) → d ≡ with_object r.birth (with_word i u 0 o) c → new ≡ rows → Shows kinds d new (with_object r.birth (with_word i u (owner_word None) seen_object) (seen kinds c rows))
  shows_taken d new last same =
      shows_put kinds c rows h d new r i u 0 (owner_word None) o there (subst (λ k. WordLives (names_of c rows) k 0) (sym owner) tt)
      (ap (λ k. word_seen (names_of c rows) k 0) owner) last same

  -- an object is owned
  pub shows_owned : (d : Content) (new : Rows) (q : ObjRef) (v : ℕ) → v ≡ q.row + 1 → at rows q.birth ≡ Some q.row → d ≡ with_object r.birth (with_word i u v o) c → new ≡ rows
      → Shows kinds d new (with_object r.birth (with_word i u (owner_word (Some q.birth)) seen_object) (seen kinds c rows))
  shows_owned d new q v e placed last same =
      let s : v ≡ suc q.row = omega (arith, e) in
      let named = number_in_row kinds c rows h q.birth q.row placed in
      shows_put kinds c rows h d new r i u v (owner_word (Some q.birth)) o there
      (subst (λ k. WordLives (names_of c rows) k v) (sym owner) (subst (RowLives (names_of c rows)) (sym s) (q.birth, named)))
      (ap (λ k. word_seen (names_of c rows) k v) owner ∙ ap (owner_seen (names_of c rows)) s ∙ ap owner_word named) last same

  -- no row is named
  pub owns_none : ((k : ℕ) → held ≡ k + 1 → k < 2 ^ 32 → IsFreeRow rows k) → word_at seen_object i u ≡ owner_word None
  owns_none free = go held refl held_lives
    where
      go : (w : ℕ) → held ≡ w → RowLives (names_of c rows) w → word_at seen_object i u ≡ owner_word None
      go zero e l = is_seen ∙ ap (owner_seen (names_of c rows)) e
      go (suc k) e l =
          let placed = row_of_number kinds c rows h l.0 k l.1 in
          absurd (free k (omega (arith, e)) (h.small l.0 k placed) l.0 placed)
