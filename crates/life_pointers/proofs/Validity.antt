-- What a reference refers to has in the store the slots and stamps that its number has in the meaning.
use Rattle.std.proofs.Common.{◌≡◌, ℕ, Option, Some, None, Result, Ok, Err, length, sym, ap, ◌∙◌}
use Rattle.std.proofs.lemmas.List.{length-map}
use Rattle.std.specs.Prelude.{option_map}
use Rattle.life_store.specs.Cells.{at}
use Rattle.life_store.specs.Content.{Object, Content, is_valid_in}
use Rattle.life_store.specs.Edits.{size_of}
use Rattle.life_store.specs.Held.{slots_if}
use Rattle.life_store.specs.References.{Rows, asked_of, object_of, shape_of}
use Rattle.life_store.specs.declared.object.Dead.{Dead}
use Rattle.life_store.specs.declared.object.ObjRef.{ObjRef}
use Rattle.life_store.specs.declared.object.Shape.{Shape}
use Rattle.life_seen.specs.Housed.{IsHoused, IsRef}
use Rattle.life_seen.specs.Kinds.{Kinds}
use Rattle.life_seen.specs.Named.{names_of}
use Rattle.life_seen.specs.Seen.{slot_seen, object_seen, seen}
use Rattle.life_seen.proofs.References.{seen_by_number}
use Rattle.life_seen.proofs.Resizing.{valid_seen}

same_shape : (s t : Shape) → ◌≡◌ {A = Result Shape Dead} (Ok s) (Ok t) → s ≡ t
same_shape s t e = cc

ok_err : (s : Shape) (d : Dead) → ◌≡◌ {A = Result Shape Dead} (Ok s) (Err d) → ⊥
ok_err s d e = cc

module _ (kinds : Kinds) (c : Content) (rows : Rows) (r : ObjRef) (h : IsHoused kinds c rows) (ref : IsRef c rows r) where
  -- positions stand there as in the store
  pub valid_meant : (first count moment : ℕ) → is_valid_in first count moment (object_of c rows r) ≡ is_valid_in first count moment (at (seen kinds c rows).objects r.birth)
  valid_meant first count moment =
      sym (valid_seen kinds (names_of c rows) first count moment (object_of c rows r)) ∙ ap (is_valid_in first count moment) (seen_by_number kinds c rows h r ref)

  has_slots : length (slots_if (option_map (object_seen kinds (names_of c rows)) (object_of c rows r))) ≡ size_of (seen kinds c rows) r.birth
  has_slots = ap (λ (x : Option Object). length (slots_if x)) (seen_by_number kinds c rows h r ref)

  -- the length that its shape has
  pub size_there : (shape : Shape) → ◌≡◌ {A = Result Shape Dead} (Ok shape) (asked_of (object_of c rows r) shape_of) → shape.length ≡ size_of (seen kinds c rows) r.birth
  size_there shape e = go (object_of c rows r) e ∙ has_slots
    where
      go : (x : Option Object) → ◌≡◌ {A = Result Shape Dead} (Ok shape) (asked_of x shape_of) → shape.length ≡ length (slots_if (option_map (object_seen kinds (names_of c rows)) x))
      go None e = absurd (ok_err shape _ e)
      go (Some o) e = ap (λ (s : Shape). s.length) (same_shape shape (shape_of o) e) ∙ sym (length-map o.slots (slot_seen (names_of c rows) (kinds o.ty)))

  -- .. or 0, where it has none
  pub size_gone : (d : Dead) → ◌≡◌ {A = Result Shape Dead} (Err d) (asked_of (object_of c rows r) shape_of) → 0 ≡ size_of (seen kinds c rows) r.birth
  size_gone d e = go (object_of c rows r) e ∙ has_slots
    where
      go : (x : Option Object) → ◌≡◌ {A = Result Shape Dead} (Err d) (asked_of x shape_of) → 0 ≡ length (slots_if (option_map (object_seen kinds (names_of c rows)) x))
      go None e = λ i. 0
      go (Some o) e = absurd (ok_err (shape_of o) d (sym e))
