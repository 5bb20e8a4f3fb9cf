-- A pointer is written: the content has it, and it can be read again.
use Rattle.std.proofs.Common.{◌≡◌, ℕ, ◌+◌, ◌≤◌, List, length, Some, sym, ap, subst, arith}
use Rattle.std.specs.Prelude.{slice_get}
use Rattle.life_store.specs.Cells.{at}
use Rattle.life_store.specs.Content.{Slot, Object, Content, with_object}
use Rattle.life_store.specs.Held.{pointer_words, with_words}
use Rattle.life_store.specs.References.{Rows, object_of}
use Rattle.life_store.specs.State.{Pointer}
use Rattle.life_store.specs.declared.object.ObjRef.{ObjRef}
use Rattle.life_seen.specs.Housed.{IsHoused, Shows, Later}
use Rattle.life_seen.specs.Kinds.{AreWhole, Kinds}
use Rattle.life_store.specs.Kinds.{Pointing}
use Rattle.life_seen.specs.Named.{names_of}
use Rattle.life_seen.specs.Rowed.{stored_words, IsStorable, SlotsRowed, AreRowed}
use Rattle.life_seen.specs.Seen.{object_seen, seen}
use Rattle.life_seen.proofs.PlainWords.{shows_words}
use Rattle.life_seen.proofs.PointerWords.{point_lives, point_rowed, point_seen, with_words_is, IsNear}
use Rattle.life_seen.proofs.References.{found}
use Rattle.life_seen.proofs.Rowed.{rowed_born, slots_rowed_later}

module _ (kinds : Kinds) (c : Content) (rows : Rows) (r : ObjRef) (i u row : ℕ) (p : Pointer) (o : Object) (there : object_of c rows r ≡ Some o) (whole : AreWhole (kinds o.ty)) (begins : kinds o.ty u ≡ Pointing 0)
    (d : Content) (new : Rows) (last : d ≡ with_object r.birth (with_words i u (stored_words row p) o) c) (placed : new ≡ rows) where
  pub shows_pointer : IsHoused kinds c rows → IsNear p → Shows kinds d new (with_object r.birth (with_words i u (pointer_words p) (object_seen kinds (names_of c rows) o)) (seen kinds c rows))
  shows_pointer h near =
      subst (λ (ws : List ℕ). Shows kinds d new (with_object r.birth (with_words i u ws (object_seen kinds (names_of c rows) o)) (seen kinds c rows))) (point_seen (names_of c rows) (kinds o.ty) whole u row p begins near)
      (shows_words kinds c rows h r i u (stored_words row p) o there (point_lives (names_of c rows) (kinds o.ty) whole u row p begins) d new last placed)

  pub later_pointer : Later c d rows new
  later_pointer = record {
    births = let e = ap (λ (x : Content). x.births) last in omega (arith, e);
    row = λ n k lt t. subst (λ (x : Rows). at x n ≡ Some k) placed t;
  }

  pub pointer_has_row : AreRowed kinds c rows → IsStorable c rows row p → ((s : Slot) → slice_get o.slots i ≡ Some s → u + 5 ≤ length s.words) → AreRowed kinds d new
  pointer_has_row rowed fits wide =
      let changed : Object = with_words i u (stored_words row p) o in
      let ty : o.ty ≡ changed.ty = sym (ap (λ (x : Object). x.ty) (with_words_is i u (stored_words row p) o)) in
      rowed_born c d rows new later_pointer kinds r.birth changed rowed
      (subst (λ t. SlotsRowed d new (kinds t) changed.slots) ty
      (slots_rowed_later c d rows new later_pointer (kinds o.ty) changed.slots
      (point_rowed c rows (kinds o.ty) whole row p fits i u begins o wide (rowed r.birth o (found c rows r o there).there))))
      (ap (λ (x : Content). x.objects) last)
