-- How a unique_ptr is given a new object, part by part.
use Rattle.std.proofs.Common.{◌≡◌, ℕ, List, [], ◌∷◌, Option, Some, None, Result, Err, refl, sym, ap, ◌∙◌}
use Rattle.std.specs.Prelude.{ℤ, slice_get, slice_set}
use Rattle.life_types.specs.Types.{Types}
use Rattle.life_types.specs.declared.ty.TyId.{TyId}
use Rattle.life_core.specs.Function.{Function}
use Rattle.life_core.specs.Operands.{Location}
use Rattle.life_core.specs.declared.instr.Made.{Made}
use Rattle.life_core.specs.declared.instr.Made.TheVariants as made
use Rattle.life_store.specs.Content.{Content}
use Rattle.life_store.specs.Doing.{made_fresh, made_of, makes, remade, replaced}
use Rattle.life_store.specs.Effects.{Setting, Effect, Next, Strays, Attempt, Got, GotTrap, GotFault, GotLost, cell, on_got, put_cell, put_content, then_get, word_of_number}
use Rattle.life_store.specs.Held.{owner_word}
use Rattle.life_store.specs.Owners.{consumed, object_with}
use Rattle.life_store.specs.Parts.{Parts, Unique, local_type, location_parts, location_type, parts_at, parts_if}
use Rattle.life_store.specs.Places as places
use Rattle.life_store.specs.Places.{owner_spot_if}
use Rattle.life_store.specs.References.{Rows}
use Rattle.life_store.specs.State as state
use Rattle.life_store.specs.State.{State}
use Rattle.life_seen.specs.Kinds.{kinds_of}
use Rattle.life_values.specs.Layouts.{flat}
use Rattle.life_pointers.specs.Attempts.{tried}
use Rattle.life_pointers.specs.Owned.{spot_seen}
use Rattle.life_pointers.specs.Places.{ended_by}
use Rattle.life_pointers.specs.declared.owned.Spot.{Spot}
use Rattle.life_pointers.specs.declared.stop.Stop.{Stop}
use Rattle.life_pointers.specs.declared.stop.Stop.TheVariants as stop
use Rattle.life_cells.specs.Cells.{cells_seen, number_in, object_in, state_in, state_of}
use Rattle.life_cells.specs.Fits.{meant}
use Rattle.life_cells.specs.declared.cell.Cell.{Cell}
use Rattle.life_cells.specs.declared.cell.Cell.TheVariants as held
use Rattle.life_cells.proofs.LocationLemmas.{put_now}
use Rattle.life_cells.proofs.StepLemmas.{stopped}
use Rattle.life_changes.specs.NewObjects.{fresh_value, made_with, number_value, taken_value}
use Rattle.life_changes.specs.Owners.{first_of, target_in}
use Rattle.life_changes.specs.Steps.{Gets, Goes}
use Rattle.life_changes.specs.declared.failure.Failure.{Failure}
use Rattle.life_changes.specs.declared.failure.Failure.TheVariants as failure
use Rattle.life_changes.proofs.Frames.{got_goes}

-- ---- the owner is found

-- what is made, at the owner's place
abbrev pub made_at : Setting → Types → Function → Made → Parts → places.Spot → State → Effect
made_at s types f made.Null p spot st = Next (put_content (replaced p spot (owner_word None ∷ [], st.world.content)) st)
made_at s types f made.Zero p spot st = made_fresh s p spot st
made_at s types f (made.Of x) p spot st = made_of s types f p spot x (cell st x) st

makes_is : (s : Setting) (types : Types) (f : Function) (u : Location) (m : Made) (st : State) → makes s types f u m st ≡ on_got (owner_spot_if types f u (cell st u.local)) (λ spot. made_at s types f m (location_parts types f u) spot st)
makes_is s types f u made.Null st = refl
makes_is s types f u made.Zero st = refl
makes_is s types f u (made.Of x) st = refl

module _ (s : Setting) (types : Types) (f : Function) (u : Location) (how : Made) (m : Content) (cells : List Cell) where
  pub makes_stops : (e : Stop) → tried {A = Spot} spot_seen (Err e) ≡ owner_spot_if types f u (cell (state_in m cells) u.local) → (output : List ℕ) (input : List ℤ) → makes s types f u how (state_of m cells output input) ≡ ended_by e
  makes_stops e stops output input =
      let go : places.Spot → Effect = λ spot. made_at s types f how (location_parts types f u) spot (state_of m cells output input) in
      makes_is s types f u how (state_of m cells output input) ∙ ap (λ (a : Attempt places.Spot). on_got a go) (sym stops) ∙ stopped spot_seen go e

  pub makes_found : (spot : Spot) → Got (spot_seen spot) ≡ owner_spot_if types f u (cell (state_in m cells) u.local) → (ty : TyId) → Some ty ≡ location_type types f u
      → (output : List ℕ) (input : List ℤ) → makes s types f u how (state_of m cells output input) ≡ made_at s types f how (parts_at types ty) (spot_seen spot) (state_of m cells output input)
  makes_found spot found ty of output input =
      let st = state_of m cells output input in
      makes_is s types f u how st ∙ ap (λ (a : Attempt places.Spot). on_got a (λ x. made_at s types f how (location_parts types f u) x st)) (sym found)
      ∙ ap (λ (t : Option TyId). made_at s types f how (parts_if types t) (spot_seen spot) st) (sym of)

-- its first part tells its target
pub told_target : (types : Types) (ty id : TyId) (x : Option TyId) → parts_at types ty ≡ Unique id (parts_at types id) → x ≡ target_in (first_of (flat 0 (parts_at types ty))) → x ≡ Some id
told_target types ty id x unique told = told ∙ ap (λ (p : Parts). target_in (first_of (flat 0 p))) unique

pub same_target : (a b : TyId) → Some a ≡ Some b → a ≡ b
same_target a b e = cc

-- ---- the object is made and owned

got_then_next : {A : Type 0} (x : Attempt A) (go : A → Content) (k : Content → Effect) → on_got x (λ a. k (go a)) ≡ on_got (then_get x (λ a. Got (go a))) k
got_then_next (Got a) go k = refl
got_then_next (GotTrap kind) go k = refl
got_then_next (GotFault kind) go k = refl
got_then_next GotLost go k = refl

module _ (types : Types) (f : Function) (ty id : TyId) (unique : parts_at types ty ≡ Unique id (parts_at types id)) (spot : Spot) (c : Content) (rows : Rows) (cells : List Cell) (s : Setting) (d : Content) (new : Rows) where
  abbrev m : Content
  m = meant types c rows

  abbrev p : Parts
  p = parts_at types id

  pub fresh_goes : {A : Type 0} (result : Result A Failure) → Gets (kinds_of types) (made_with s (parts_at types ty) (spot_seen spot) (fresh_value s) (meant types c rows)) result d new
      → Goes (made_fresh s (parts_at types ty) (spot_seen spot)) (meant types c rows) cells (meant types d new) cells result
  fresh_goes result gets =
      got_goes (kinds_of types) (made_with s (parts_at types ty) (spot_seen spot) (fresh_value s) m) (made_fresh s (parts_at types ty) (spot_seen spot)) m cells cells d new result
      (λ output input.
      let st = state_of m cells output input in
      ap (λ (q : Parts). made_fresh s q (spot_seen spot) st) unique
      ∙ got_then_next (object_with s id p (fresh_value s p) m) (λ b. replaced (Unique id p) (spot_seen spot) (owner_word (Some b.0) ∷ [], b.1)) (λ e. Next (put_content e st))
      ∙ ap (λ (q : Parts). on_got (made_with s q (spot_seen spot) (fresh_value s) m) (λ e. Next (put_content e st))) (sym unique))
      gets

  -- of a local that holds a number, or names a temporary
  module _ (x : ℕ) where
    pub number_goes : {A : Type 0} (z : ℤ) → slice_get (cells_seen cells) x ≡ Some (state.Number z) → (result : Result A Failure) → Gets (kinds_of types) (made_with s (parts_at types ty) (spot_seen spot) (number_value (word_of_number z)) (meant types c rows)) result d new
        → Goes (λ st. made_of s types f (parts_at types ty) (spot_seen spot) x (cell st x) st) (meant types c rows) cells (meant types d new) cells result
    number_goes z named result gets =
        got_goes (kinds_of types) (made_with s (parts_at types ty) (spot_seen spot) (number_value (word_of_number z)) m) (λ st. made_of s types f (parts_at types ty) (spot_seen spot) x (cell st x) st) m cells cells d new result
        (λ output input.
        let st = state_of m cells output input in
        ap (λ (v : Option state.Cell). made_of s types f (parts_at types ty) (spot_seen spot) x v st) named
        ∙ ap (λ (q : Parts). made_of s types f q (spot_seen spot) x (Some (state.Number z)) st) unique
        ∙ got_then_next (object_with s id p (number_value (word_of_number z) p) m) (λ b. replaced (Unique id p) (spot_seen spot) (owner_word (Some b.0) ∷ [], b.1)) (λ e. Next (put_content e st))
        ∙ ap (λ (q : Parts). on_got (made_with s q (spot_seen spot) (number_value (word_of_number z)) m) (λ e. Next (put_content e st))) (sym unique))
        gets

    pub taken_goes : {A : Type 0} (k : ℕ) → slice_get (cells_seen cells) x ≡ Some (state.Named k) → local_type types f x ≡ Some id → (after : List Cell) → after ≡ slice_set cells x held.Empty → (result : Result A Failure)
        → Gets (kinds_of types) (made_with s (parts_at types ty) (spot_seen spot) (taken_value k) (meant types c rows)) result d new
        → Goes (λ st. made_of s types f (parts_at types ty) (spot_seen spot) x (cell st x) st) (meant types c rows) cells (meant types d new) after result
    taken_goes k named typed after put result gets =
        got_goes (kinds_of types) (made_with s (parts_at types ty) (spot_seen spot) (taken_value k) m) (λ st. made_of s types f (parts_at types ty) (spot_seen spot) x (cell st x) st) m cells after d new result
        (λ output input.
        let st = state_of m cells output input in
        ap (λ (v : Option state.Cell). made_of s types f (parts_at types ty) (spot_seen spot) x v st) named
        ∙ ap (λ (q : Parts). made_of s types f q (spot_seen spot) x (Some (state.Named k)) st) unique
        ∙ ap (λ (t : Option TyId). on_got (object_with s id p (λ e. Got (consumed (parts_if types t) k e)) m) (λ b. Next (put_cell x state.Empty (remade (Unique id p) (spot_seen spot) b st)))) typed
        ∙ got_then_next (object_with s id p (taken_value k p) m) (λ b. replaced (Unique id p) (spot_seen spot) (owner_word (Some b.0) ∷ [], b.1)) (λ e. Next (put_cell x state.Empty (put_content e st)))
        ∙ ap (λ (q : Parts). on_got (made_with s q (spot_seen spot) (taken_value k) m) (λ e. Next (put_cell x state.Empty (put_content e st)))) (sym unique)
        ∙ ap (λ (go : Content → Effect). on_got (made_with s (parts_at types ty) (spot_seen spot) (taken_value k) m) go) (λ j e. Next (put_now e cells after x held.Empty output input put j)))
        gets

    pub made_lost : (v : Option state.Cell) → slice_get (cells_seen cells) x ≡ v → None ≡ number_in v → None ≡ object_in v → (after : List Cell)
        → Goes {A = Unit {0}} (λ st. made_of s types f (parts_at types ty) (spot_seen spot) x (cell st x) st) (meant types c rows) cells (meant types d new) after (Err (failure.Stopped stop.Lost))
    made_lost v there no_number no_object after = λ output input.
        let st = state_of m cells output input in
        ap (λ (w : Option state.Cell). made_of s types f (parts_at types ty) (spot_seen spot) x w st) there
        ∙ ap (λ (q : Parts). made_of s types f q (spot_seen spot) x v st) unique
        ∙ lost output input v no_number no_object
      where
        lost : (output : List ℕ) (input : List ℤ) (w : Option state.Cell) → None ≡ number_in w → None ≡ object_in w → made_of s types f (Unique id (parts_at types id)) (spot_seen spot) x w (state_of (meant types c rows) cells output input) ≡ Strays
        lost output input None a b = refl
        lost output input (Some state.Empty) a b = refl
        lost output input (Some (state.Points q)) a b = refl
        lost output input (Some (state.Number z)) a b = absurd (unlike a)
          where
            unlike : None ≡ Some z → ⊥
            unlike e = cc
        lost output input (Some (state.Named n)) a b = absurd (unlike b)
          where
            unlike : None ≡ Some n → ⊥
            unlike e = cc
