-- What operands name.
use Rattle.std.proofs.Common.{◌≡◌, ℕ, ◌<◌, ◌≤◌, Option, Some, None, Result, Ok, Err, IfSome, length, refl, sym, ap, ◌∙◌, arith}
use Rattle.std.proofs.lemmas.Bool.{le-ltb, lt-ltb}
use Rattle.std.proofs.lemmas.List.{length-map}
use Rattle.std.proofs.lemmas.Option.{none-some}
use Rattle.std.specs.Prelude.{ℤ, List, option_map}
use Rattle.life_types.specs.Types.{Types}
use Rattle.life_core.specs.Function.{Function}
use Rattle.life_core.specs.Operands.{Operand, Name, Through}
use Rattle.life_store.specs.Content.{Content, Object}
use Rattle.life_store.specs.Places.{Found, Astray, behind_cell, behind_pointer, found_at, found_in, here_if, locate, named_by, on_place, operand_word}
use Rattle.life_store.specs.References.{Rows, asked_of, object_of, shape_of}
use Rattle.life_store.specs.State.{Cell, Empty, Named, Number, Pointer, Points}
use Rattle.life_store.specs.declared.object.Dead.{Dead}
use Rattle.life_store.specs.declared.object.ObjRef.{ObjRef}
use Rattle.life_store.specs.declared.object.Shape.{Shape}
use Rattle.life_seen.specs.Housed.{IsHoused, IsRef}
use Rattle.life_seen.specs.Kinds.{Kinds}
use Rattle.life_seen.specs.Named.{names_of}
use Rattle.life_seen.specs.Seen.{object_seen, seen, slot_seen}
use Rattle.life_seen.proofs.References.{found_seen, seen_by_number}
use Rattle.life_pointers.specs.Places.{IsHere, TellsMiss}
use Rattle.life_pointers.specs.declared.owned.Spot.{Spot}
use Rattle.life_pointers.specs.declared.stop.Stop.{Stop}
use Rattle.life_pointers.specs.declared.stop.Stop.TheVariants as stop
use Rattle.life_cells.specs.Cells.{object_in, pointer_in, state_in, state_of}
use Rattle.life_cells.specs.declared.cell.Cell as held
use Rattle.life_cells.proofs.CellLemmas.{points}

-- ---- the first slot of an object

ok_err : (shape : Shape) (d : Dead) → ◌≡◌ {A = Result Shape Dead} (Ok shape) (Err d) → ⊥
ok_err shape d e = cc

same_shape : (s t : Shape) → ◌≡◌ {A = Result Shape Dead} (Ok s) (Ok t) → s ≡ t
same_shape s t e = cc

err_ok : (shape : Shape) (d : Dead) → ◌≡◌ {A = Result Shape Dead} (Err d) (Ok shape) → ⊥
err_ok shape d e = cc

module _ (kinds : Kinds) (c : Content) (rows : Rows) (r : ObjRef) (h : IsHoused kinds c rows) (fits : IsRef c rows r) where
  abbrev first : Found
  first = found_at (seen kinds c rows) r.birth 0

  abbrev as_seen : Object → Object
  as_seen o = object_seen kinds (names_of c rows) o

  pub first_here : (shape : Shape) → ◌≡◌ {A = Result Shape Dead} (Ok shape) (asked_of (object_of c rows r) shape_of) → IfSome (object_of c rows r) (λ o. 1 ≤ o.width) → 0 < shape.length
      → IsHere kinds c rows first (record { object = r; index = 0; word = 0 })
  first_here shape e wide lt = go (object_of c rows r) refl e wide
    where
      go : (x : Option Object) → object_of c rows r ≡ x → ◌≡◌ {A = Result Shape Dead} (Ok shape) (asked_of x shape_of) → IfSome x (λ o. 1 ≤ o.width) → IsHere kinds c rows first (record { object = r; index = 0; word = 0 })
      go None is e wide = absurd (ok_err shape _ e)
      go (Some o) is e wide =
          let long : shape.length ≡ length o.slots = ap (λ (s : Shape). s.length) (same_shape shape (shape_of o) e) in
          let l = length-map o.slots (slot_seen (names_of c rows) (kinds o.ty)) in
          let within : 0 < length (as_seen o).slots = omega (arith, l, long, lt) in
          record {
            object = o;
            here = ap (λ (x : Option Object). found_in x r.birth 0) (found_seen kinds c rows h r o is) ∙ ap (λ b. here_if b r.birth 0 (as_seen o)) (lt-ltb 0 (length (as_seen o).slots) within);
            lives = is;
            slot = omega (arith, long, lt);
            wide = wide;
            fits = fits;
          }

  pub first_past : (shape : Shape) → ◌≡◌ {A = Result Shape Dead} (Ok shape) (asked_of (object_of c rows r) shape_of) → shape.length ≤ 0 → TellsMiss first stop.Lost
  first_past shape e le = λ go fixed. ap (λ (w : Found). on_place w go fixed) (past (object_of c rows r) refl e)
    where
      past : (x : Option Object) → object_of c rows r ≡ x → ◌≡◌ {A = Result Shape Dead} (Ok shape) (asked_of x shape_of) → first ≡ Astray
      past None is e = absurd (ok_err shape _ e)
      past (Some o) is e =
          let long : shape.length ≡ length o.slots = ap (λ (s : Shape). s.length) (same_shape shape (shape_of o) e) in
          let l = length-map o.slots (slot_seen (names_of c rows) (kinds o.ty)) in
          let none : length (as_seen o).slots ≤ 0 = omega (arith, l, long, le) in
          ap (λ (x : Option Object). found_in x r.birth 0) (found_seen kinds c rows h r o is) ∙ ap (λ b. here_if b r.birth 0 (as_seen o)) (le-ltb 0 (length (as_seen o).slots) none)

  pub first_gone : (d : Dead) → ◌≡◌ {A = Result Shape Dead} (Err d) (asked_of (object_of c rows r) shape_of) → TellsMiss first stop.Lost
  first_gone d e = λ go fixed. ap (λ (w : Found). on_place w go fixed) (gone (object_of c rows r) refl e)
    where
      gone : (x : Option Object) → object_of c rows r ≡ x → ◌≡◌ {A = Result Shape Dead} (Err d) (asked_of x shape_of) → first ≡ Astray
      gone None is e = ap (λ (x : Option Object). found_in x r.birth 0) (sym (seen_by_number kinds c rows h r fits) ∙ ap (option_map as_seen) is)
      gone (Some o) is e = absurd (err_ok (shape_of o) d e)

-- .. at another word
pub here_at : (kinds : Kinds) (c : Content) (rows : Rows) (what : Found) (s : Spot) (w : ℕ) → IsHere kinds c rows what s → IsHere kinds c rows what (record { object = s.object; index = s.index; word = w })
here_at kinds c rows what s w h = record { object = h.object; here = h.here; lives = h.lives; slot = h.slot; wide = h.wide; fits = h.fits }

-- ---- by what is held

module _ (m : Content) where
  pub unnamed : (o : Option Cell) → None ≡ object_in o → named_by m o ≡ Astray
  unnamed None e = refl
  unnamed (Some Empty) e = refl
  unnamed (Some (Named n)) e = absurd (none-some n e)
  unnamed (Some (Number z)) e = refl
  unnamed (Some (Points p)) e = refl

  pub none_behind : (o : Option Cell) → None ≡ pointer_in o → behind_cell m o ≡ Astray
  none_behind None e = refl
  none_behind (Some Empty) e = refl
  none_behind (Some (Named n)) e = refl
  none_behind (Some (Number z)) e = refl
  none_behind (Some (Points p)) e = absurd (none-some p e)

  pub some_behind : (o : Option Cell) (p : Pointer) → Some p ≡ pointer_in o → behind_cell m o ≡ behind_pointer m p
  some_behind o p e = ap (behind_cell m) (points o p e)

pub missed : (what other : Found) (e : Stop) → what ≡ other → TellsMiss other e → TellsMiss what e
missed what other e same h = λ go fixed. ap (λ (w : Found). on_place w go fixed) same ∙ h go fixed

-- ---- whatever was written and is to be read

module _ (types : Types) (f : Function) (m : Content) (cells : List held.Cell) (output : List ℕ) (input : List ℤ) where
  pub same_found : (o : Operand) → locate types f o (state_of m cells output input) ≡ locate types f o (state_in m cells)
  same_found (Name l) = refl
  same_found (Through p members) = refl

  pub same_word : (o : Operand) → operand_word types f o (state_of m cells output input) ≡ operand_word types f o (state_in m cells)
  same_word (Name l) = refl
  same_word (Through p members) = refl
