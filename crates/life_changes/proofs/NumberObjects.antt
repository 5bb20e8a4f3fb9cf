-- A new object in a store takes a number.
use Rattle.std.proofs.Common.{◌≡◌, ℕ, ◌+◌, ◌*◌, ◌≤◌, [], ◌∷◌, length, Option, Some, IfSome, Ok, refl, sym, ap, subst, ◌∙◌, arith}
use Rattle.life_types.specs.Types.{Types}
use Rattle.life_types.specs.declared.ty.TyId.{TyId}
use Rattle.life_store.specs.Cells.{at}
use Rattle.life_store.specs.Content.{Object, Content, live_words_of, with_object, with_word}
use Rattle.life_store.specs.Effects.{Setting, Got}
use Rattle.life_store.specs.Held.{wrote_if}
use Rattle.life_store.specs.Kinds.{kind_in}
use Rattle.life_store.specs.Owners.{object_with}
use Rattle.life_store.specs.Parts.{Parts, Single, parts_at, width, width_at}
use Rattle.life_store.specs.References.{Rows, object_of, HasWord}
use Rattle.life_store.specs.declared.object.ObjRef.{ObjRef}
use Rattle.life_seen.specs.Housed.{IsRef, Later, Shows}
use Rattle.life_seen.specs.Kinds.{kinds_of}
use Rattle.life_seen.specs.Named.{names_of}
use Rattle.life_seen.specs.Seen.{object_seen, seen}
use Rattle.life_seen.proofs.References.{later_same}
use Rattle.life_seen.proofs.Resizing.{count_seen}
use Rattle.life_words.specs.Numbers.{IsPlain}
use Rattle.life_values.proofs.SeenAs.{seen_as, IsSeenAs}
use Rattle.life_cells.specs.Fits.{meant}
use Rattle.life_changes.specs.NewObjects.{number_value, Bears}
use Rattle.life_changes.proofs.BornObjects.{blank, born, born_there, there, with_born}

module _ (types : Types) (ty : TyId) (single : parts_at types ty ≡ Single) (c : Content) (rows : Rows) (r : ObjRef) (number : r.birth ≡ c.births) (d : Content) (new : Rows) (shows : Shows (kinds_of types) d new (born types ty (width_at types ty) c rows)) (placed : at new r.birth ≡ Some r.row) where
  abbrev begin : Object
  begin = blank types ty (width_at types ty) c rows

  abbrev pub stored : IsSeenAs (kinds_of types) d new r begin
  stored = seen_as (kinds_of types) d new r begin shows.housed placed (there types ty (width_at types ty) c rows r number d new shows)

  pub is_plain : IsPlain (kinds_of types) d new r 0 stored.object
  is_plain = record {
    housed = shows.housed;
    there = stored.found;
    plain = ap (λ (y : Object). kinds_of types y.ty 0) stored.same ∙ ap (λ (p : Parts). kind_in p 0) single;
  }

  pub has_word : IfSome (object_of d new r) (HasWord 0 0)
  has_word =
      let slots : length (object_seen (kinds_of types) (names_of d new) stored.object).slots ≡ 1 = ap (λ (y : Object). length y.slots) stored.same in
      let count = count_seen (kinds_of types) (names_of d new) stored.object in
      let wide = ap (λ (y : Object). y.width) stored.same ∙ ap width single in
      subst (λ y. IfSome y (HasWord 0 0)) (sym stored.found) (record { has_slot = omega (arith, slots, count); has_word = omega (arith, wide) })

  -- no row changes
  pub number_later : (value : ℕ) (e : Content) (after : Rows) → Shows (kinds_of types) e after (with_object r.birth (with_word 0 0 value (object_seen (kinds_of types) (names_of d new) stored.object)) (seen (kinds_of types) d new)) → after ≡ new → Later d e new after
  number_later value e after written same = subst (Later d e new) (sym same) (later_same d e new (let x = ap (λ (y : Content). y.births) written.is in omega (arith, x)))

  pub bears_number : (s : Setting) → live_words_of c + (2 + width_at types ty * 1) ≤ s.given.cells → (value : ℕ) (e : Content) (after : Rows) → IsRef e after r
      → Shows (kinds_of types) e after (with_object r.birth (with_word 0 0 value (object_seen (kinds_of types) (names_of d new) stored.object)) (seen (kinds_of types) d new))
      → Bears (kinds_of types) (object_with s ty (parts_at types ty) (number_value value (parts_at types ty)) (meant types c rows)) (Ok r) e after
  bears_number s room value e after referred written = (
    seen (kinds_of types) e after,
    with_born types c rows s ty (parts_at types ty) (number_value value (parts_at types ty)) room
        ∙ (λ j. Got (sym number j, sym as_meant j)),
    record { housed = written.housed; is = refl },
    referred,
  )
    where
      as_meant : seen (kinds_of types) e after ≡ wrote_if (at (born types ty (width_at types ty) c rows).objects c.births) c.births 0 0 (value ∷ []) (born types ty (width_at types ty) c rows)
      as_meant =
          written.is
          ∙ (λ j. with_object (number j) (with_word 0 0 value (stored.same j)) (shows.is j))
          ∙ ap (λ (x : Option Object). wrote_if x c.births 0 0 (value ∷ []) (born types ty (width_at types ty) c rows)) (sym (born_there types ty (width_at types ty) c rows))
