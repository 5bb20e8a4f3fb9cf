-- The first words of a fresh value, in the store and in the meaning.
use Rattle.std.proofs.Common.{◌≡◌, ℕ, suc, ◌+◌, ◌*◌, ◌<◌, ◌≤◌, true, false, cond, List, Option, Some, None, Result, Ok, Err, refl, sym, ap, subst, ◌∙◌, arith, ⊎_elim}
use Rattle.std.specs.Prelude.{nat_lt, slice_get}
use Rattle.std.proofs.lemmas.Bool.Decides.{leb_tells}
use Rattle.life_types.specs.declared.ty.TyId.{TyId}
use Rattle.life_types.specs.Types.{Types}
use Rattle.life_core.specs.declared.instr.Form.{Form}
use Rattle.life_store.specs.Cells.{at}
use Rattle.life_store.specs.Content.{Content, live_words_of, with_birth}
use Rattle.life_store.specs.Effects.{Setting, Attempt, Got, GotTrap, then_get}
use Rattle.life_store.specs.Held.{owner_word}
use Rattle.life_store.specs.Kinds.{Owner}
use Rattle.life_store.specs.Owners.{birth}
use Rattle.life_store.specs.Parts.{parts_at, width}
use Rattle.life_store.specs.References.{Rows}
use Rattle.life_store.specs.declared.object.ObjRef.{ObjRef}
use Rattle.life_store.specs.declared.object.BirthFault.{BirthFault}
use Rattle.life_store.specs.declared.object.BirthFault.TheVariants as birth_fault
use Rattle.life_store.specs.declared.run.TrapKind.TheVariants as trap
use Rattle.life_seen.specs.Housed.{IsHoused, RowLives, Shows}
use Rattle.life_seen.specs.Kinds.{Kinds}
use Rattle.life_seen.specs.Named.{names_of}
use Rattle.life_seen.specs.Seen.{owner_seen, seen}
use Rattle.life_seen.proofs.LiveWords.{live_words_seen}
use Rattle.life_seen.proofs.References.{number_in_row}
use Rattle.life_values.specs.Fresh.{kind_of, leaf_born, raw_word, AreWide, IsFirst}
use Rattle.life_values.specs.Layouts.{width_at, width_in, AreLaid}
use Rattle.life_values.specs.declared.layout.Holds.{Holds}
use Rattle.life_values.specs.declared.layout.Holds.TheVariants as holds
use Rattle.life_values.specs.declared.layout.Layout.{Layout}
use Rattle.life_values.proofs.Flat.{single_past}

is_less : (a b : ℕ) → a < b → nat_lt a b ≡ true
is_less a b lt = ⊎_elim (λ h. h.0) (λ h. let g = h.1 in absurd (omega (arith, g, lt))) (leb_tells (suc a) b)

isn't_less : (a b : ℕ) → (a < b → ⊥) → nat_lt a b ≡ false
isn't_less a b ge = ⊎_elim (λ h. let l = h.1 in absurd (ge (omega (arith, l)))) (λ h. h.0) (leb_tells (suc a) b)

-- ---- a birth, where there is room for it or not

module _ (kinds : Kinds) (s : Setting) (c : Content) (rows : Rows) (ty : TyId) (w capacity limit : ℕ) (cells : s.given.cells ≡ limit) where
  words_alike : live_words_of (seen kinds c rows) ≡ live_words_of c
  words_alike = live_words_seen kinds (names_of c rows) c

  pub birth_room : (limit < live_words_of c + (2 + w * capacity) → ⊥) → birth s ty w capacity (seen kinds c rows) ≡ Got (c.births, with_birth ty w capacity (seen kinds c rows))
  birth_room room =
      ap (λ b. cond b (GotTrap trap.Cells) (Got (c.births, with_birth ty w capacity (seen kinds c rows))))
      ((λ i. nat_lt (cells i) (words_alike i + (2 + w * capacity))) ∙ isn't_less limit (live_words_of c + (2 + w * capacity)) room)

  pub birth_full : limit < live_words_of c + (2 + w * capacity) → birth s ty w capacity (seen kinds c rows) ≡ GotTrap trap.Cells
  birth_full full =
      ap (λ b. cond b (GotTrap trap.Cells) (Got (c.births, with_birth ty w capacity (seen kinds c rows))))
      ((λ i. nat_lt (cells i) (words_alike i + (2 + w * capacity))) ∙ is_less limit (live_words_of c + (2 + w * capacity)) full)

-- ---- a buffer, by its word

abbrev pub by_word : ℕ × Content → Attempt (ℕ × Content)
by_word b = Got (owner_word (Some b.0), b.1)

pub first_born : (kinds : Kinds) (s : Setting) (c : Content) (rows : Rows) (ty : TyId) (w limit : ℕ) → s.given.cells ≡ limit → (limit < live_words_of c + (2 + w * 0) → ⊥)
    → (d : Content) (new : Rows) (r : ObjRef) → r.birth ≡ c.births → at new r.birth ≡ Some r.row → Shows kinds d new (with_birth ty w 0 (seen kinds c rows)) → (word : ℕ) → word ≡ r.row + 1
    → IsFirst kinds (then_get (birth s ty w 0 (seen kinds c rows)) by_word) Owner (Ok word) d new
first_born kinds s c rows ty w limit cells room d new r number placed shows word is =
    let e : word ≡ suc r.row = omega (arith, is) in
    let named = number_in_row kinds d new shows.housed r.birth r.row placed in (
      suc c.births,
      with_birth ty w 0 (seen kinds c rows),
      ap (λ b. then_get b by_word) (birth_room kinds s c rows ty w 0 limit cells room),
      shows,
      subst (RowLives (names_of d new)) (sym e) (r.birth, named),
      ap (owner_seen (names_of d new)) e ∙ ap owner_word (named ∙ ap Some number),
    )

pub first_fails : (kinds : Kinds) (s : Setting) (c : Content) (rows : Rows) (ty : TyId) (w limit : ℕ) → s.given.cells ≡ limit → (fault : BirthFault) → (fault ≡ birth_fault.Cells → limit < live_words_of c + (2 + w * 0)) → (d : Content) (new : Rows)
    → IsFirst kinds (then_get (birth s ty w 0 (seen kinds c rows)) by_word) Owner (Err fault) d new
first_fails kinds s c rows ty w limit cells birth_fault.Cells full d new = ap (λ b. then_get b by_word) (birth_full kinds s c rows ty w 0 limit cells (full refl))
first_fails kinds s c rows ty w limit cells birth_fault.NoMemory full d new = tt

pub ok_err : {A B C : Type 0} {x : A} {y : B} → ◌≡◌ {A = Result A B} (Ok x) (Err y) → C
ok_err {A = A} {B = B} {x = x} {y = y} e = absurd (clash e)
  where
    clash : ◌≡◌ {A = Result A B} (Ok x) (Err y) → ⊥
    clash h = cc

-- ---- a word by which nothing comes to life

module _ (kinds : Kinds) (s : Setting) (types : Types) (f : Form) (h : Holds) (c : Content) (rows : Rows) (housed : IsHoused kinds c rows) where
  pub raw_first : h ≡ holds.Raw → (w : ℕ) → w ≡ raw_word f → IsFirst kinds (leaf_born s types f h (seen kinds c rows)) (kind_of h) (Ok w) c rows
  raw_first is w e =
      subst (λ k. IsFirst kinds (leaf_born s types f k (seen kinds c rows)) (kind_of k) (Ok w) c rows) (sym is) (raw_word f, seen kinds c rows, refl, record { housed = housed; is = refl }, tt, e)

  pub view_first : h ≡ holds.View → IsFirst kinds (leaf_born s types f h (seen kinds c rows)) (kind_of h) (Ok 2) c rows
  view_first is =
      subst (λ k. IsFirst kinds (leaf_born s types f k (seen kinds c rows)) (kind_of k) (Ok 2) c rows) (sym is) (2, seen kinds c rows, refl, record { housed = housed; is = refl }, tt, refl)

  pub target_first : (ty : TyId) → h ≡ holds.Target ty → IsFirst kinds (leaf_born s types f h (seen kinds c rows)) (kind_of h) (Ok 0) c rows
  target_first ty is =
      subst (λ k. IsFirst kinds (leaf_born s types f k (seen kinds c rows)) (kind_of k) (Ok 0) c rows) (sym is) (0, seen kinds c rows, refl, record { housed = housed; is = refl }, tt, refl)

-- .. or by which a buffer does
pub buffer_first : (kinds : Kinds) (s : Setting) (types : Types) (f : Form) (h k : Holds) (c : Content) → h ≡ k → (result : Result ℕ BirthFault) (d : Content) (new : Rows)
    → IsFirst kinds (leaf_born s types f k c) (kind_of k) result d new → IsFirst kinds (leaf_born s types f h c) (kind_of h) result d new
buffer_first kinds s types f h k c is result d new first = subst (λ l. IsFirst kinds (leaf_born s types f l c) (kind_of l) result d new) (sym is) first

-- ---- widths

pub width_of_type : (types : Types) (layouts : List Layout) → AreLaid types layouts → (ty : TyId) → width_at layouts ty ≡ width (parts_at types ty)
width_of_type types layouts laid ty = go (slice_get layouts ty.0) refl
  where
    go : (o : Option Layout) → slice_get layouts ty.0 ≡ o → width_in o ≡ width (parts_at types ty)
    go None e = ap width (sym (single_past types layouts laid ty e))
    go (Some l) e = (laid.1 ty l e).width

pub wide_enough : (types : Types) (layouts : List Layout) → AreLaid types layouts → AreWide types → (ty : TyId) (w : ℕ) → w ≡ width_at layouts ty → 1 ≤ w
wide_enough types layouts laid wide ty w is = let e = is ∙ width_of_type types layouts laid ty in let h = wide ty in omega (arith, e, h)
