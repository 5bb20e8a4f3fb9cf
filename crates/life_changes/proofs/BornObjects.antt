-- A new object of one slot in a store, whose words are 0.
use Rattle.std.proofs.Common.{◌≡◌, ℕ, ◌+◌, ◌*◌, ◌≤◌, ◌<◌, Bool, List, cond, Err, Option, Some, refl, sym, ap, subst, ◌∙◌, arith}
use Rattle.std.proofs.lemmas.Bool.{le-ltb, lt-ltb}
use Rattle.std.proofs.lemmas.Option.{same_Some}
use Rattle.life_types.specs.Types.{Types}
use Rattle.life_types.specs.declared.ty.TyId.{TyId}
use Rattle.life_store.specs.Cells.{at, at-set_same}
use Rattle.life_store.specs.Content.{Object, Content, live_words_of, newborn, resized, with_birth}
use Rattle.life_store.specs.Effects.{Setting, Attempt, Got, GotTrap, then_get}
use Rattle.life_store.specs.Held.{resized_at, resized_if, wrote}
use Rattle.life_store.specs.Owners.{Words, object_with, sized_birth}
use Rattle.life_store.specs.Parts.{Parts, width, width_at}
use Rattle.life_store.specs.References.{Rows}
use Rattle.life_store.specs.declared.object.BirthFault.{BirthFault}
use Rattle.life_store.specs.declared.object.BirthFault.TheVariants as birth_fault
use Rattle.life_store.specs.declared.object.ObjRef.{ObjRef}
use Rattle.life_store.specs.declared.run.TrapKind.TheVariants as trap
use Rattle.life_seen.specs.Housed.{IsRef, Later, Shows}
use Rattle.life_seen.specs.Kinds.{kinds_of}
use Rattle.life_seen.specs.Named.{names_of}
use Rattle.life_seen.proofs.LiveWords.{live_words_seen}
use Rattle.life_values.specs.Layouts.{width_at as layout_width, AreLaid}
use Rattle.life_values.specs.declared.layout.Layout.{Layout}
use Rattle.life_values.proofs.Beginning.{width_of_type}
use Rattle.life_cells.specs.Fits.{meant}
use Rattle.life_changes.specs.NewObjects.{Bears}

module _ (types : Types) (ty : TyId) (w : ℕ) (c : Content) (rows : Rows) where
  abbrev m : Content
  m = meant types c rows

  abbrev pub born : Content
  born = resized_at c.births 1 0 (with_birth ty w 1 (meant types c rows))

  -- the object, as it begins
  abbrev pub blank : Object
  blank = resized (c.clock + 1) 1 0 (newborn ty w 1 c.clock)

  -- ---- of the meaning

  pub born_full : (s : Setting) → s.given.cells < live_words_of c + (2 + w * 1) → sized_birth s ty w 1 (meant types c rows) ≡ GotTrap trap.Cells
  born_full s full =
      let live = live_words_seen (kinds_of types) (names_of c rows) c in
      ap (λ (b : Bool). then_get {A = ℕ × Content} {B = ℕ × Content} (cond b (GotTrap trap.Cells) (Got (c.births, with_birth ty w 1 m))) (λ x. Got (x.0, resized_at x.0 1 0 x.1)))
      (lt-ltb s.given.cells (live_words_of m + (2 + w * 1)) (omega (arith, live, full)))

  pub born_got : (s : Setting) → live_words_of c + (2 + w * 1) ≤ s.given.cells → sized_birth s ty w 1 (meant types c rows) ≡ Got (c.births, born)
  born_got s room =
      let live = live_words_seen (kinds_of types) (names_of c rows) c in
      ap (λ (b : Bool). then_get {A = ℕ × Content} {B = ℕ × Content} (cond b (GotTrap trap.Cells) (Got (c.births, with_birth ty w 1 m))) (λ x. Got (x.0, resized_at x.0 1 0 x.1)))
      (le-ltb s.given.cells (live_words_of m + (2 + w * 1)) (omega (arith, live, room)))

  -- ---- in the store behind it

  first : at (with_birth ty w 1 (meant types c rows)).objects c.births ≡ Some (newborn ty w 1 c.clock)
  first = at-set_same m.objects c.births c.births (newborn ty w 1 c.clock) refl

  pub born_there : at born.objects c.births ≡ Some blank
  born_there =
      ap (λ (x : Option Object). at (resized_if x c.births 1 0 (with_birth ty w 1 m)).objects c.births) first
      ∙ at-set_same (with_birth ty w 1 m).objects c.births c.births blank refl

  module _ (r : ObjRef) (number : r.birth ≡ c.births) (d : Content) (new : Rows) (shows : Shows (kinds_of types) d new born) where
    pub there : at (meant types d new).objects r.birth ≡ Some blank
    there = ap (λ (x : Content). at x.objects r.birth) shows.is ∙ ap (at born.objects) number ∙ born_there

    pub counted : (d.births ≡ c.births + 1) × (d.clock ≡ c.clock + 1)
    counted =
        let is = shows.is ∙ ap (λ (x : Option Object). resized_if x c.births 1 0 (with_birth ty w 1 m)) first in
        (ap (λ (x : Content). x.births) is, ap (λ (x : Content). x.clock) is)

-- ---- a value is given to it

-- none was born
pub bears_none : (types : Types) (c : Content) (rows : Rows) (s : Setting) (ty : TyId) (p : Parts) (value : Content → Attempt Words) (fault : BirthFault) (d : Content) (new : Rows)
    → (fault ≡ birth_fault.Cells → s.given.cells < live_words_of c + (2 + width p * 1)) → Bears (kinds_of types) (object_with s ty p value (meant types c rows)) (Err fault) d new
bears_none types c rows s ty p value birth_fault.Cells d new full = ap (λ x. then_get {A = ℕ × Content} {B = ℕ × Content} x (λ b. then_get (value b.1) (λ v. Got (b.0, wrote b.0 0 0 v.0 v.1)))) (born_full types ty (width p) c rows s (full refl))
bears_none types c rows s ty p value birth_fault.NoMemory d new full = tt

-- what is done with the object that was born
pub with_born : (types : Types) (c : Content) (rows : Rows) (s : Setting) (ty : TyId) (p : Parts) (value : Content → Attempt Words) → live_words_of c + (2 + width p * 1) ≤ s.given.cells
    → object_with s ty p value (meant types c rows) ≡ then_get (value (born types ty (width p) c rows)) (λ v. Got (c.births, wrote c.births 0 0 v.0 v.1))
with_born types c rows s ty p value room = ap (λ x. then_get {A = ℕ × Content} {B = ℕ × Content} x (λ b. then_get (value b.1) (λ v. Got (b.0, wrote b.0 0 0 v.0 v.1)))) (born_got types ty (width p) c rows s room)

-- what was born is referred to while more comes
pub born_ref : (d e : Content) (new after : Rows) (r : ObjRef) → Later d e new after → r.birth < d.births → at new r.birth ≡ Some r.row → IsRef e after r
born_ref d e new after r later lt placed = record { born = let b = later.births in omega (arith, b, lt); row = λ k h. same_Some k r.row (sym (later.row r.birth k lt h) ∙ placed) }

-- its width is that of the layout
pub sized_shows : (types : Types) (layouts : List Layout) → AreLaid types layouts → (ty : TyId) (c d : Content) (rows new : Rows) (w : ℕ) → w ≡ layout_width layouts ty → Shows (kinds_of types) d new (resized_at c.births 1 0 (with_birth ty w 1 (meant types c rows))) → Shows (kinds_of types) d new (born types ty (width_at types ty) c rows)
sized_shows types layouts laid ty c d rows new w is shows = subst (λ n. Shows (kinds_of types) d new (resized_at c.births 1 0 (with_birth ty n 1 (meant types c rows)))) (is ∙ width_of_type types layouts laid ty) shows

pub sized_room : (types : Types) (layouts : List Layout) → AreLaid types layouts → (ty : TyId) (w n : ℕ) → w ≡ layout_width layouts ty → n + (2 + w * 1) ≡ n + (2 + width_at types ty * 1)
sized_room types layouts laid ty w n is = ap (λ k. n + (2 + k * 1)) (is ∙ width_of_type types layouts laid ty)
