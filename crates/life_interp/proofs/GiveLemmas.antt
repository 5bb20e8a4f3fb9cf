-- A local that is given a value or a pointer.
use Rattle.std.proofs.Common.{◌≡◌, inl, inr, ℕ, suc, ◌+◌, ◌<◌, ◌≤◌, List, Some, None, cond, refl, sym, ap, ◌∙◌, arith, ⊎_elim}
use Rattle.std.proofs.lemmas.Bool.Decides.{leb_tells}
use Rattle.std.specs.Prelude.{ℤ, slice_get}
use Rattle.life_types.specs.Types.{Types}
use Rattle.life_types.specs.declared.ty.TyId.{TyId}
use Rattle.life_core.specs.declared.program.Local.{Local}
use Rattle.life_core.specs.Function.{Function}
use Rattle.life_core.specs.Holdings.{Holding, held_by}
use Rattle.life_store.specs.Doing.{Setting, Effect, Next, Traps, Here, found_at, on_found, on_next, put_cell, saved, with_value_object, word_of_number}
use Rattle.life_store.specs.Calls.{born_with, given, given_if, given_to}
use Rattle.life_store.specs.Cells.{at, set, at-set_same}
use Rattle.life_store.specs.Content.{Content, cost, newborn, with_object, with_word, live_words_of}
use Rattle.life_store.specs.References.{Rows}
use Rattle.life_store.specs.State as state
use Rattle.life_store.specs.State.{State}
use Rattle.life_store.specs.declared.object.ObjRef.{ObjRef}
use Rattle.life_store.specs.declared.run.TrapKind.TheVariants as trap
use Rattle.life_store.proofs.Found.{found_here}
use Rattle.life_store.proofs.Housing.{value_object}
use Rattle.life_store.proofs.MapLemmas.{sum-set, sum-set_fresh}
use Rattle.life_seen.specs.Housed.{IsHoused, Shows}
use Rattle.life_seen.specs.Kinds.{Kinds}
use Rattle.life_seen.specs.Named.{names_of}
use Rattle.life_seen.specs.Seen.{object_seen, seen}
use Rattle.life_seen.proofs.LiveWords.{live_words_seen}
use Rattle.life_cells.specs.Cells.{state_of}
use Rattle.life_interp.specs.Fits.{most_births, CanBear, CanStep, Gives, Grows}
use Rattle.life_cells.specs.Fits.{CellFits, CellsFit}
use Rattle.life_cells.specs.declared.cell.Cell.{Cell}
use Rattle.life_cells.proofs.FitLemmas.{cell_fits}
use Rattle.life_interp.proofs.NumberLemmas.{unborn, IsNewValue}

-- ---- an object with a value

-- the store with it, once it is written
abbrev pub given_content : ℤ → TyId → Content → Content
given_content z ty c = with_object c.births (with_word 0 0 (word_of_number z) (value_object ty c.clock)) (with_value_object ty c)

pub shows_given : (kinds : Kinds) (m d e : Content) (new after : Rows) (r : ObjRef) (ty : TyId) (z : ℤ) (word : ℕ) → r.birth ≡ m.births → seen kinds d new ≡ with_value_object ty m → word ≡ word_of_number z → (v : IsNewValue kinds d new r ty m.clock)
    → Shows kinds e after (with_object r.birth (with_word 0 0 word (object_seen kinds (names_of d new) v.object)) (seen kinds d new)) → Shows kinds e after (given_content z ty m)
shows_given kinds m d e new after r ty z word number born same v shows = record { housed = shows.housed; is = shows.is ∙ (λ i. with_object (number i) (with_word 0 0 (same i) (v.is i)) (born i)) }

value_found : (ty : TyId) (c : Content) → found_at (with_value_object ty c) c.births 0 ≡ Here c.births 0 (value_object ty c.clock)
value_found ty c = found_here (with_value_object ty c) c.births 0 (value_object ty c.clock) (at-set_same (set c.objects c.births (newborn ty 1 1 c.clock)) c.births c.births (value_object ty c.clock) refl) (omega arith)

pub born_with_is : (s : Setting) (ty : TyId) (z : ℤ) (x : ℕ) (c : Content) (cells : List Cell) (output : List ℕ) (input : List ℤ) → (s.given.cells < live_words_of c + 3 → ⊥)
    → born_with s ty z x (state_of c cells output input) ≡ Next (put_cell x (state.Named c.births) (state_of (given_content z ty c) cells output input))
born_with_is s ty z x c cells output input within =
    let st = state_of c cells output input in
    let born = put_cell x (state.Named c.births) (state_of (with_value_object ty c) cells output input) in
    let writes : State → Effect = λ b. on_found (found_at b.world.content c.births 0) (λ n i o. Next (saved z n i 0 o b)) in
    ⊎_elim (λ t. absurd (within t.1)) (λ t. ap (λ b. on_next (cond b (Traps trap.Cells) (Next born)) writes) t.0) (leb_tells (suc s.given.cells) (live_words_of c + 3))
    ∙ ap (λ f. on_found f (λ n i o. Next (saved z n i 0 o born))) (value_found ty c)

-- the words that live are three more
live_more : (z : ℤ) (ty : TyId) (c : Content) → at c.objects c.births ≡ None → live_words_of (given_content z ty c) ≡ live_words_of c + 3
live_more z ty c none =
    let first = newborn ty 1 1 c.clock in
    let second = value_object ty c.clock in
    let third = with_word 0 0 (word_of_number z) second in
    let one = set c.objects c.births first in
    let two = set one c.births second in
    let a : live_words_of (record { objects = one; births = c.births; clock = c.clock }) ≡ 3 + live_words_of c = sum-set_fresh cost c.objects c.births first none in
    let b : 3 + live_words_of (record { objects = two; births = c.births; clock = c.clock }) ≡ 3 + live_words_of (record { objects = one; births = c.births; clock = c.clock }) =
    sum-set cost one c.births first second (at-set_same c.objects c.births c.births first refl) in
    let d : 3 + live_words_of (given_content z ty c) ≡ 3 + live_words_of (record { objects = two; births = c.births; clock = c.clock }) =
    sum-set cost two c.births second third (at-set_same one c.births c.births second refl) in
    omega (arith, a, b, d)

pub given_gives : (kinds : Kinds) (c e : Content) (rows after : Rows) (z : ℤ) (ty : TyId) (limit : ℕ) → IsHoused kinds c rows → live_words_of c + 3 ≤ limit → seen kinds e after ≡ given_content z ty (seen kinds c rows) → Gives limit c e
given_gives kinds c e rows after z ty limit h room is =
    let m = seen kinds c rows in
    let more = live_more z ty m (unborn kinds c rows h) in
    let before = live_words_seen kinds (names_of c rows) c in
    let live : live_words_of (seen kinds e after) ≡ live_words_of (given_content z ty m) = ap live_words_of is in
    let now = live_words_seen kinds (names_of e after) e in
    let births : e.births ≡ c.births + 1 = ap (λ (x : Content). x.births) is in
    let clock : e.clock ≡ c.clock + 1 = ap (λ (x : Content). x.clock) is in
    record { births = omega (arith, more, before, live, now, births); clock = omega (arith, births, clock); within = inr (omega (arith, more, before, live, now, room)) }

pub gives_nothing : (limit : ℕ) (c : Content) → Gives limit c c
gives_nothing limit c = record { births = omega arith; clock = omega arith; within = inl refl }

-- ---- which local

pub given_is : (s : Setting) (types : Types) (f : Function) (v : state.Cell) (x : ℕ) (l : Local) (k : Holding) (st : State) → slice_get f.locals x ≡ Some l → k ≡ held_by types (Some l)
    → given s types f v x st ≡ given_to s types k l.ty v x st
given_is s types f v x l k st there sort =
    ap (λ o. given_if s types f o v x st) there ∙ ap (λ o. given_to s types (held_by types o) l.ty v x st) there ∙ ap (λ h. given_to s types h l.ty v x st) (sym sort)

-- ---- one after the other

pub gives_on : (limit other : ℕ) (a b c : Content) → other ≡ limit → Gives limit a b → Gives other b c → Gives limit a c
gives_on limit other a b c same h k = record {
  births = omega (arith, h.births, k.births);
  clock = omega (arith, h.clock, k.clock);
  within = ⊎_elim (λ e. ⊎_elim (λ d. inl (e ∙ d)) (λ le. inr (omega (arith, le, e))) h.within) (λ le. inr (omega (arith, le, same))) k.within;
}

-- so at most as many as may live were born
pub gives_grows : (limit most : ℕ) (c d : Content) → limit < most → Gives limit c d → Grows most c d
gives_grows limit most c d lt h =
    let few : d.births ≤ c.births + most = ⊎_elim (λ e. omega (arith, e, h.births)) (λ le. omega (arith, le, lt, h.births)) h.within in
    record { births = few; clock = omega (arith, few, h.clock) }

-- .. and another can be
pub gives_bear : (limit : ℕ) (c d : Content) → limit < most_births → CanStep c → Gives limit c d → CanBear d
gives_bear limit c d lt can h =
    let grown = gives_grows limit most_births c d lt h in
    record { births = omega (arith, grown.births, can.births); clock = omega (arith, grown.clock, can.clock) }

-- a value of a list that fits
pub value_fits : (c : Content) (rows : Rows) (values : List Cell) (i : ℕ) (v : Cell) → CellsFit c rows values → slice_get values i ≡ Some v → CellFits c rows v
value_fits c rows values i v h e = cell_fits c rows values i v h e
