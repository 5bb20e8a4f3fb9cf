-- From what an edit comes to in a store, to the step of the frame.
use Rattle.std.proofs.Common.{◌≡◌, ℕ, ◌+◌, ◌*◌, ◌≤◌, ◌^◌, List, [], ◌∷◌, length, Option, Some, None, Result, Ok, Err, refl, sym, ap, subst, ◌∙◌, arith}
use Rattle.std.specs.Prelude.{ℤ}
use Rattle.life_types.specs.Types.{Types}
use Rattle.life_types.specs.declared.ty.TyId.{TyId}
use Rattle.life_core.specs.Function.{Function}
use Rattle.life_store.specs.Cells.{at}
use Rattle.life_store.specs.Content.{Object, Content}
use Rattle.life_store.specs.Doing.{edits}
use Rattle.life_store.specs.Edits.{Edit, Push, buffer_of, edited, owned_at}
use Rattle.life_store.specs.Effects.{Setting, Effect, Next, Attempt, Got, GotTrap, GotFault, GotLost, got_or, on_got, put_content, then_get}
use Rattle.life_store.specs.Owners.{Words}
use Rattle.life_store.specs.Parts.{Parts, Single, Raw, Iterates, Views, Text, Vector, Unique, Member, NoMember, parts_at, width}
use Rattle.life_store.specs.References.{Rows}
use Rattle.life_store.specs.State.{State}
use Rattle.life_store.specs.declared.run.FaultKind.TheVariants as fault
use Rattle.life_store.specs.declared.run.Growth.{Growth}
use Rattle.life_forest.specs.Frames.{named_in}
use Rattle.life_forest.specs.Owned.{times}
use Rattle.life_forest.proofs.Coming.{IfGot}
use Rattle.life_forest.proofs.Stores.{if_such}
use Rattle.life_seen.specs.Housed.{IsHoused, Later}
use Rattle.life_seen.specs.Kinds.{kinds_of, Kinds}
use Rattle.life_seen.specs.Rowed.{AreRowed}
use Rattle.life_seen.specs.Seen.{seen}
use Rattle.life_pointers.specs.Attempts.{itself}
use Rattle.life_pointers.specs.Owned.{spot_seen}
use Rattle.life_pointers.specs.declared.owned.Spot.{Spot}
use Rattle.life_cells.specs.Cells.{cells_seen, state_of}
use Rattle.life_cells.specs.Fits.{meant, CellsFit, IsFit}
use Rattle.life_cells.specs.declared.cell.Cell.{Cell}
use Rattle.life_cells.proofs.FitLemmas.{cells_later}
use Rattle.life_cells.proofs.StepLemmas.{stopped}
use Rattle.life_changes.specs.Bounded.{Grows, IsBounded, IsEarly}
use Rattle.life_changes.specs.Edits.{edit_of, edited_at}
use Rattle.life_changes.specs.Owners.{OwnerAt, IsContainer, StandsAt}
use Rattle.life_changes.specs.Steps.{Gets, Goes, IsGiven}
use Rattle.life_changes.specs.declared.edit.Edit.{Edit as Editing}
use Rattle.life_changes.specs.declared.edit.Edit.TheVariants as editing
use Rattle.life_changes.specs.declared.failure.Failure.{Failure}
use Rattle.life_changes.specs.declared.failure.Failure.TheVariants as failure
use Rattle.life_changes.proofs.Counted.{Counted, counted_more}
use Rattle.life_changes.proofs.CountedEdits.{edit_counts, most_of}
use Rattle.life_changes.proofs.Owned.{OwnsParts, buffer, elements_within, lives, text_parts, vector_parts}

-- ---- effects

on_then : {A B : Type 0} (x : Attempt A) (go : A → Attempt B) (k : B → Effect) → on_got x (λ a. on_got (go a) k) ≡ on_got (then_get x go) k
on_then (Got a) go k = refl
on_then (GotTrap kind) go k = refl
on_then (GotFault kind) go k = refl
on_then GotLost go k = refl

-- an attempt that the store followed, and what is done with the content
pub got_goes : {A : Type 0} (kinds : Kinds) (x : Attempt Content) (effect : State → Effect) (c : Content) (cells new : List Cell) (d : Content) (rows : Rows) (result : Result A Failure)
    → ((output : List ℕ) (input : List ℤ) → effect (state_of c cells output input) ≡ on_got x (λ m. Next (state_of m new output input))) → Gets kinds x result d rows
    → Goes effect c cells (seen kinds d rows) new result
got_goes kinds x effect c cells new d rows (Ok done) is gets = λ output input.
    is output input ∙ ap (λ (y : Attempt Content). on_got y (λ m. Next (state_of m new output input))) gets.1 ∙ ap (λ (m : Content). Next (state_of m new output input)) (sym gets.2.is)
got_goes kinds x effect c cells new d rows (Err (failure.Stopped e)) is gets = λ output input.
    is output input ∙ ap (λ (y : Attempt Content). on_got y (λ m. Next (state_of m new output input))) gets ∙ stopped itself (λ m. Next (state_of m new output input)) e
got_goes kinds x effect c cells new d rows (Err failure.NoMemory) is gets = tt

-- what a run may be given
abbrev pub some_given : Growth → ℕ → List (List ℕ) → Setting
some_given growth limit texts = record { given = record { growth = growth; cells = limit; depth = 0 }; texts = texts }

pub is_given : (growth : Growth) (limit : ℕ) (texts : List (List ℕ)) → IsGiven (some_given growth limit texts) growth limit texts
is_given growth limit texts = record { growth_is = refl; cells_is = refl; texts_is = refl }

-- ---- edits

-- a number that is pushed changes nothing else
plain_value : (e : Editing) (value : Content → Words) → edit_of e ≡ Push value → (d : Content) → (value d).1 ≡ d
plain_value (editing.Push number) value e d = sym (ap (λ (v : Content → Words). (v d).1) (same e))
  where
    same : Push (λ c. (number ∷ [], c)) ≡ Push value → (λ c. (number ∷ [], c)) ≡ value
    same h = cc
plain_value editing.Pop value e d = absurd (unlike e)
  where
    unlike : edit_of editing.Pop ≡ Push value → ⊥
    unlike h = cc
plain_value editing.Clear value e d = absurd (unlike e)
  where
    unlike : edit_of editing.Clear ≡ Push value → ⊥
    unlike h = cc
plain_value (editing.Reserve count) value e d = absurd (unlike e)
  where
    unlike : edit_of (editing.Reserve count) ≡ Push value → ⊥
    unlike h = cc
plain_value (editing.Put words) value e d = absurd (unlike e)
  where
    unlike : edit_of (editing.Put words) ≡ Push value → ⊥
    unlike h = cc
plain_value (editing.Add words) value e d = absurd (unlike e)
  where
    unlike : edit_of (editing.Add words) ≡ Push value → ⊥
    unlike h = cc

-- what holds behind a step, of the content that is shown
pub record IsBehind (limit : ℕ) (c d : Content) : Type 0 where
  pub bounded : IsBounded limit d
  pub grows : Grows c d

module _ (types : Types) (limit depth : ℕ) (hand : ℕ → ℕ) (ty : TyId) (spot : Spot) (c : Content) (rows : Rows) (here : StandsAt types limit depth hand ty spot c rows) where
  abbrev m : Content
  m = meant types c rows

  pub behind : (b : ℕ) (cap n t : ℕ) (d : Content) → n ≤ 2 ^ 32 → t ≤ 2 ^ 32 → Counted limit (meant types c rows) b cap n t d → IsBehind limit (meant types c rows) d
  behind b cap n t d few soon h = record {
    bounded = h.bounded;
    grows = record { births = let x = h.births in omega (arith, x, few); clock = let x = h.clock in omega (arith, x, soon) };
  }

  -- an edit of the buffer
  module _ (s : Setting) (given : s.given.cells ≡ limit) (e : Editing) (b : ℕ) (owned : owned_at (meant types c rows) (spot_seen spot) ≡ Some b) (id : TyId) (element : Parts) (owns : OwnsParts types ty id element) where
    abbrev ob : Object
    ob = buffer types limit depth hand ty spot c rows here id element owns b owned

    there : at (meant types c rows).objects b ≡ Some ob
    there = (lives types limit depth hand ty spot c rows here id element owns b owned).1

    counts : (p : Parts) → most_of (length ob.slots) p ≤ 2 ^ 32 → IfGot (edited s p (spot_seen spot) b (edit_of e) (meant types c rows)) (IsBehind limit (meant types c rows))
    counts p few =
        if_such (edited s p (spot_seen spot) b (edit_of e) m) (Counted limit m b ob.capacity (most_of (length ob.slots) p) 1) (IsBehind limit (meant types c rows))
        (edit_counts limit m b ob there here.bounded (here.store.forest.births b ob there) s given p (spot_seen spot) (edit_of e)
        (λ value is n t d h. subst (Counted limit m b ob.capacity (n + 0) t) (sym (plain_value e value is d)) (counted_more limit m b ob.capacity n t (n + 0) t d (omega arith) (omega arith) h)))
        (λ d h. behind b ob.capacity (most_of (length ob.slots) p) 1 d few (omega arith) h)

    within : 1 + length ob.slots * width element ≤ 2 ^ 32
    within = let l = elements_within types limit depth hand ty spot c rows here id element owns b owned in let f = here.served.few in omega (arith, l, f)

  edit_behind : (s : Setting) → s.given.cells ≡ limit → (e : Editing) (b : ℕ) → owned_at (meant types c rows) (spot_seen spot) ≡ Some b → (p : Parts) → parts_at types ty ≡ p → IsContainer p → IfGot (edited s p (spot_seen spot) b (edit_of e) (meant types c rows)) (IsBehind limit (meant types c rows))
  edit_behind s given e b owned (Text id) is container = counts s given e b owned id Single (text_parts types here.served.ordered ty id is) (Text id) (omega arith)
  edit_behind s given e b owned (Vector id element) is container =
      let owns = vector_parts types here.served.ordered ty id element is in
      counts s given e b owned id element owns (Vector id element) (within s given e b owned id element owns)
  edit_behind s given e b owned Single is container = absurd container
  edit_behind s given e b owned Raw is container = absurd container
  edit_behind s given e b owned Iterates is container = absurd container
  edit_behind s given e b owned Views is container = absurd container
  edit_behind s given e b owned (Unique id target) is container = absurd container
  edit_behind s given e b owned (Member first others) is container = absurd container
  edit_behind s given e b owned NoMember is container = absurd container

  -- .. of what the spot has
  pub edited_behind : (s : Setting) → s.given.cells ≡ limit → IsContainer (parts_at types ty) → (e : Editing) → IfGot (edited_at s (parts_at types ty) (spot_seen spot) (edit_of e) (meant types c rows)) (IsBehind limit (meant types c rows))
  edited_behind s given container e = go (owned_at m (spot_seen spot)) refl
    where
      go : (x : Option ℕ) → owned_at (meant types c rows) (spot_seen spot) ≡ x
          → IfGot (then_get (got_or x (GotFault fault.Moved)) (λ b. edited s (parts_at types ty) (spot_seen spot) b (edit_of e) (meant types c rows))) (IsBehind limit (meant types c rows))
      go None h = tt
      go (Some b) h = edit_behind s given e b h (parts_at types ty) refl container

-- ---- the frame behind it

-- what was got is behind
pub got_behind : {A : Type 0} (kinds : Kinds) (limit : ℕ) (m : Content) (x : Attempt Content) (d : Content) (rows : Rows) (done : A) → IfGot x (IsBehind limit m) → Gets kinds x (Ok done) d rows → IsBehind limit m (seen kinds d rows)
got_behind kinds limit m x d rows done all gets =
    subst (IsBehind limit m) (sym gets.2.is) (subst (λ (y : Attempt Content). IfGot y (IsBehind limit m)) gets.1 all)

pub fits_behind : (types : Types) (c d : Content) (rows new : Rows) (cells : List Cell) → IsEarly c → CellsFit c rows cells → IsHoused (kinds_of types) d new → AreRowed (kinds_of types) d new → Later c d rows new → Grows c d → IsFit types d new cells
fits_behind types c d rows new cells early held housed rowed later grows = record {
  housed = housed;
  rowed = rowed;
  countable = record {
    births = let e = early.births in let g = grows.births in omega (arith, e, g);
    clock = let e = early.clock in let g = grows.clock in omega (arith, e, g);
  };
  held = cells_later c d rows new later cells held;
}

module _ (types : Types) (f : Function) (limit depth : ℕ) (ty : TyId) (spot : Spot) (c : Content) (rows : Rows) (cells : List Cell) (now : OwnerAt types f limit depth ty spot c rows cells) where
  -- what the frame and the others have in the hand
  abbrev pub in_hand : ℕ → ℕ
  in_hand k = times (named_in (cells_seen cells)) k + now.ready.rest k

  pub stands_at : StandsAt types limit depth in_hand ty spot c rows
  stands_at = record {
    served = now.served;
    housed = now.ready.fits.housed;
    rowed = now.ready.fits.rowed;
    bounded = now.ready.bounded;
    early = record { births = let e = now.ready.early.births in omega (arith, e); clock = let e = now.ready.early.clock in omega (arith, e) };
    store = now.ready.stands.store;
    placed = now.placed;
    small = now.small;
    object = now.object;
    place = now.place;
  }

  -- an edit by which no cell changes
  pub edit_goes : {A : Type 0} (s : Setting) (p : Parts) (edit : Edit) (d : Content) (new : Rows) (result : Result A Failure) → Gets (kinds_of types) (edited_at s p (spot_seen spot) edit (meant types c rows)) result d new
      → Goes (edits s p (spot_seen spot) edit) (meant types c rows) cells (meant types d new) cells result
  edit_goes s p edit d new result gets =
      got_goes (kinds_of types) (edited_at s p (spot_seen spot) edit (meant types c rows)) (edits s p (spot_seen spot) edit) (meant types c rows) cells cells d new result
      (λ output input. on_then (buffer_of (meant types c rows) (spot_seen spot)) (λ b. edited s p (spot_seen spot) b edit (meant types c rows)) (λ x. Next (put_content x (state_of (meant types c rows) cells output input)))) gets
