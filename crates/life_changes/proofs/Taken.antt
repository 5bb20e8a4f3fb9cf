-- A vector in a store gains the value of a temporary: what is asked of the store, how far that counts, and what becomes of the frame.
use Rattle.std.proofs.Common.{◌≡◌, ℕ, ◌+◌, ◌*◌, ◌<◌, ◌≤◌, ◌^◌, List, length, Option, Some, Result, Err, refl, sym, ap, subst, ◌∙◌, arith, mul_comm, mul-le-mul_right}
use Rattle.std.specs.Prelude.{slice_get, slice_set}
use Rattle.life_types.specs.Types.{Types}
use Rattle.life_types.specs.declared.ty.TyId.{TyId}
use Rattle.life_core.specs.Function.{Function}
use Rattle.life_store.specs.Cells.{at}
use Rattle.life_store.specs.Content.{Object, Content}
use Rattle.life_store.specs.Doing.{edits, pushes}
use Rattle.life_store.specs.Edits.{Edit, Push, buffer_of, edited, pushed}
use Rattle.life_store.specs.Effects.{Setting, Effect, Next, Attempt, Got, GotTrap, GotFault, GotLost, cell, on_got, on_next, put_cell, put_content}
use Rattle.life_store.specs.Owners.{consumed}
use Rattle.life_store.specs.Parts.{Parts, Vector, local_type, parts_at, parts_if, width}
use Rattle.life_store.specs.References.{Rows}
use Rattle.life_store.specs.State as state
use Rattle.life_store.specs.State.{State}
use Rattle.life_store.specs.declared.object.ObjRef.{ObjRef}
use Rattle.life_forest.proofs.Coming.{IfGot}
use Rattle.life_forest.proofs.Following.{IsOwned}
use Rattle.life_forest.proofs.Placed.{place_owns}
use Rattle.life_forest.proofs.Stores.{if_such}
use Rattle.life_seen.specs.Housed.{IsHoused, Later}
use Rattle.life_seen.specs.Kinds.{kinds_of}
use Rattle.life_seen.specs.Rowed.{AreRowed}
use Rattle.life_values.specs.Layouts.{leaves_at, AreLaid}
use Rattle.life_values.specs.Pushed.{CanPushTaken}
use Rattle.life_values.specs.declared.layout.Layout.{Layout}
use Rattle.life_pointers.specs.Attempts.{tried}
use Rattle.life_pointers.specs.Owned.{spot_seen}
use Rattle.life_pointers.specs.Places.{ended_by}
use Rattle.life_pointers.specs.declared.owned.Spot.{Spot}
use Rattle.life_pointers.specs.declared.stop.Stop.{Stop}
use Rattle.life_pointers.specs.declared.stop.Stop.TheVariants as stop
use Rattle.life_cells.specs.Cells.{cells_seen, state_of}
use Rattle.life_cells.specs.Fits.{meant, IsFit}
use Rattle.life_cells.specs.declared.cell.Cell.{Cell}
use Rattle.life_cells.specs.declared.cell.Cell.TheVariants as held
use Rattle.life_cells.proofs.LocationLemmas.{put_now}
use Rattle.life_cells.proofs.StepLemmas.{stopped}
use Rattle.life_changes.specs.Bounded.{Grows}
use Rattle.life_changes.specs.Owners.{HasBuffer, OwnerAt}
use Rattle.life_changes.specs.Owners.{widened}
use Rattle.life_changes.specs.Steps.{Gets, Goes}
use Rattle.life_changes.specs.declared.failure.Failure.{Failure}
use Rattle.life_changes.specs.declared.failure.Failure.TheVariants as failure
use Rattle.life_changes.proofs.Counted.{Counted, counted_consumed}
use Rattle.life_changes.proofs.CountedEdits.{push_counts}
use Rattle.life_changes.proofs.Behind.{emptied_fits}
use Rattle.life_changes.proofs.Frames.{behind, got_goes, in_hand, IsBehind}
use Rattle.life_changes.proofs.Owned as owned
use Rattle.life_changes.proofs.Owned.{OwnsParts}
use Rattle.life_changes.proofs.Pushed.{parts_short, parts_within}
use Rattle.life_changes.proofs.Temporaries as temporary
use Rattle.life_changes.proofs.Vectors as vectors

-- what goes on behind a content that was got
pub next_got : (x : Attempt Content) (st : State) (go : State → Effect) → on_next (on_got x (λ d. Next (put_content d st))) go ≡ on_got x (λ d. go (put_content d st))
next_got (Got d) st go = refl
next_got (GotTrap kind) st go = refl
next_got (GotFault kind) st go = refl
next_got GotLost st go = refl

next_stopped : (e : Stop) (go : State → Effect) → on_next (ended_by e) go ≡ ended_by e
next_stopped (stop.Trap kind) go = refl
next_stopped (stop.Fault kind) go = refl
next_stopped stop.Lost go = refl

-- a vector that was moved from takes nothing
pub pushed_stops : {A : Type 0} (s : Setting) (types : Types) (f : Function) (p : Parts) (spot : Spot) (m n : Content) (cells after : List Cell) (x k : ℕ) (number : A → ℕ) (e : Stop) → slice_get (cells_seen cells) x ≡ Some (state.Named k) → tried number (Err e) ≡ buffer_of m (spot_seen spot)
    → Goes {A = Unit {0}} (λ st. pushes s types f p (spot_seen spot) x (cell st x) st) m cells n after (Err (failure.Stopped e))
pushed_stops s types f p spot m n cells after x k number e named stops = λ output input.
    let st = state_of m cells output input in
    let empties : State → Effect = λ later. Next (put_cell x state.Empty later) in
    let edit : Edit = Push (consumed (parts_if types (local_type types f x)) k) in
    let goes : ℕ → Effect = λ b. on_got (edited s p (spot_seen spot) b edit m) (λ d. Next (put_content d st)) in
    ap (λ (v : Option state.Cell). pushes s types f p (spot_seen spot) x v st) named
    ∙ ap (λ (y : Attempt ℕ). on_next (on_got y goes) empties) (sym stops)
    ∙ ap (λ (y : Effect). on_next y empties) (stopped number goes e)
    ∙ next_stopped e empties

module _ (types : Types) (f : Function) (limit depth : ℕ) (ty : TyId) (spot : Spot) (c : Content) (rows : Rows) (cells : List Cell) (now : OwnerAt types f limit depth ty spot c rows cells) (x : ℕ) (r : ObjRef) (has : slice_get cells x ≡ Some (held.Object r))
    (b : ObjRef) (own : HasBuffer types limit depth (in_hand types f limit depth ty spot c rows cells now) ty spot b c rows) (id : TyId) (is : parts_at types ty ≡ Vector id (parts_at types id)) (typed : local_type types f x ≡ Some id) where
  abbrev hand : ℕ → ℕ
  hand = in_hand types f limit depth ty spot c rows cells now

  abbrev m : Content
  m = meant types c rows

  abbrev element : Parts
  element = parts_at types id

  abbrev owns : OwnsParts types ty id (parts_at types id)
  owns = owned.vector_parts types own.stands.served.ordered ty id element is

  abbrev ob : Object
  ob = vectors.ob types limit depth hand ty spot b c rows own id element owns

  there : at (meant types c rows).objects b.birth ≡ Some ob
  there = vectors.there types limit depth hand ty spot b c rows own id element owns

  is_owned : IsOwned types (meant types c rows) b.birth
  is_owned = place_owns types own.stands.served.ordered hand m own.stands.store ty spot.object.birth spot.index spot.word own.stands.object own.stands.place owns.owns.one owns.owns.owner b.birth own.owned

  pub can_push_taken : CanPushTaken types (widened spot) b r c rows
  can_push_taken = record {
    push = vectors.can_push types limit depth hand ty spot b c rows own id element owns;
    placed = temporary.placed types f limit depth ty spot c rows cells now x r has;
    held = temporary.handed types f limit depth ty spot c rows cells now x r has;
    temporary = (temporary.variable types f limit depth ty spot c rows cells now x r has).object;
    there = (temporary.variable types f limit depth ty spot c rows cells now x r has).there;
    alone = temporary.one_slot types f limit depth ty spot c rows cells now x r has;
    alike =
        temporary.type_is types f limit depth ty spot c rows cells now x r has id typed
        ∙ sym (owned.type_is types limit depth hand ty spot c rows own.stands id element owns b.birth own.owned);
  }

  -- the buffer has the type of the elements
  pub taken_same : (s : Setting) → pushed s ob.ty (parts_at types ob.ty) (spot_seen spot) b.birth (consumed (parts_at types ob.ty) r.birth) (meant types c rows) ≡ pushed s id (parts_at types id) (spot_seen spot) b.birth (consumed (parts_at types id) r.birth) (meant types c rows)
  taken_same s = ap (λ (t : TyId). pushed s t (parts_at types t) (spot_seen spot) b.birth (consumed (parts_at types t) r.birth) m) (owned.type_is types limit depth hand ty spot c rows own.stands id element owns b.birth own.owned)

  -- the words of its elements and those of the temporary are within the limit
  both_within : 4 + length ob.slots * width element + width element ≤ limit
  both_within =
      let v = temporary.variable types f limit depth ty spot c rows cells now x r has in
      let both = temporary.cost_both m b.birth r.birth ob v.object (temporary.apart types f limit depth ty spot c rows cells now x r has b.birth is_owned) there v.there in
      let all = now.ready.bounded.within in
      let one = temporary.counted types f limit depth ty spot c rows cells now x r has id typed in
      let roomy = owned.roomy types limit depth hand ty spot c rows own.stands id element owns b.birth own.owned in
      let many = mul-le-mul_right {m = length ob.slots} {n = ob.capacity} (width element) roomy in
      let e = ap (λ w. 2 + w * ob.capacity) (owned.width_is types limit depth hand ty spot c rows own.stands id element owns b.birth own.owned) in
      let s = mul_comm (width element) ob.capacity in
      omega (arith, both, all, one, many, e, s)

  module _ (layouts : List Layout) (laid : AreLaid types layouts) where
    pub few_taken : (o : Object) → at (meant types c rows).objects b.birth ≡ Some o → c.births + 1 + length o.slots * length (leaves_at layouts o.ty) + length (leaves_at layouts o.ty) < 2 ^ 63
    few_taken o e =
        subst (λ (y : Object). c.births + 1 + length y.slots * length (leaves_at layouts y.ty) + length (leaves_at layouts y.ty) < 2 ^ 63) (same ob o (sym there ∙ e))
        (let p = parts_within types layouts laid limit depth hand ty spot b c rows own id element owns in
        let l = parts_short types layouts laid limit depth hand ty spot b c rows own id element owns in
        let w = both_within in
        let few = own.stands.served.few in
        let early = own.stands.early.births in
        omega (arith, p, l, w, few, early))
      where
        same : (y z : Object) → Some y ≡ Some z → y ≡ z
        same y z k = cc

  -- ---- behind it

  pub taken_behind : (s : Setting) → s.given.cells ≡ limit → IfGot (pushed s id element (spot_seen spot) b.birth (consumed (parts_at types id) r.birth) (meant types c rows)) (IsBehind limit (meant types c rows))
  taken_behind s given =
      if_such (pushed s id element (spot_seen spot) b.birth (consumed element r.birth) m) (Counted limit m b.birth ob.capacity (1 + length ob.slots * width element + width element) 1) (IsBehind limit m)
      (push_counts limit m b.birth ob there own.stands.bounded (own.stands.store.forest.births b.birth ob there) s given id element (spot_seen spot) (width element) (consumed element r.birth)
      (λ n t d h. counted_consumed limit m b.birth ob.capacity element r.birth n t d h))
      (λ d h. behind types limit depth hand ty spot c rows own.stands b.birth ob.capacity (1 + length ob.slots * width element + width element) 1 d (let w = both_within in let few = own.stands.served.few in omega (arith, w, few)) (omega arith) h)

  -- the frame has it no more
  pub taken_goes : {A : Type 0} (s : Setting) (found : Got b.birth ≡ buffer_of (meant types c rows) (spot_seen spot)) (d : Content) (new : Rows) (after : List Cell) → after ≡ slice_set cells x held.Empty → (result : Result A Failure)
      → Gets (kinds_of types) (pushed s id (parts_at types id) (spot_seen spot) b.birth (consumed (parts_at types id) r.birth) (meant types c rows)) result d new
      → Goes (λ st. pushes s types f (parts_at types ty) (spot_seen spot) x (cell st x) st) (meant types c rows) cells (meant types d new) after result
  taken_goes s found d new after put result gets =
      got_goes (kinds_of types) (pushed s id element (spot_seen spot) b.birth (consumed element r.birth) m) (λ st. pushes s types f (parts_at types ty) (spot_seen spot) x (cell st x) st) m cells after d new result
      (λ output input.
      let st = state_of m cells output input in
      let empties : State → Effect = λ later. Next (put_cell x state.Empty later) in
      ap (λ (v : Option state.Cell). pushes s types f (parts_at types ty) (spot_seen spot) x v st) (temporary.named types f limit depth ty spot c rows cells now x r has)
      ∙ ap (λ (p : Parts). on_next (edits s p (spot_seen spot) (Push (consumed (parts_if types (local_type types f x)) r.birth)) st) empties) is
      ∙ ap (λ (t : Option TyId). on_next (edits s (Vector id element) (spot_seen spot) (Push (consumed (parts_if types t) r.birth)) st) empties) typed
      ∙ ap (λ (y : Attempt ℕ). on_next (on_got y (λ n. on_got (edited s (Vector id element) (spot_seen spot) n (Push (consumed element r.birth)) m) (λ e. Next (put_content e st)))) empties) (sym found)
      ∙ next_got (pushed s id element (spot_seen spot) b.birth (consumed element r.birth) m) st empties
      ∙ ap (λ (go : Content → Effect). on_got (pushed s id element (spot_seen spot) b.birth (consumed element r.birth) m) go) (λ j e. Next (put_now e cells after x held.Empty output input put j)))
      gets

  pub taken_fits : (d : Content) (new : Rows) (after : List Cell) → after ≡ slice_set cells x held.Empty → IsHoused (kinds_of types) d new → AreRowed (kinds_of types) d new → Later c d rows new → Grows c d → IsFit types d new after
  taken_fits d new after put housed rowed later grows = emptied_fits types c d rows new cells now.ready.early now.ready.fits.held housed rowed later grows x after put
