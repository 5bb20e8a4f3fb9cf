-- How an element of a vector is erased, part by part.
use Rattle.std.proofs.Common.{◌≡◌, ⊎_elim, ℕ, ◌<◌, List, Option, Some, None, Ok, Err, refl, sym, ap, subst, ◌∙◌}
use Rattle.std.specs.Prelude.{ℤ}
use Rattle.life_types.specs.Types.{Types}
use Rattle.life_types.specs.declared.ty.TyId.{TyId}
use Rattle.life_core.specs.Function.{Function}
use Rattle.life_core.specs.Operands.{Location}
use Rattle.life_core.specs.Step.{Erase}
use Rattle.life_store.specs.Content.{Content}
use Rattle.life_store.specs.Doing.{changed, erases, pointer_to}
use Rattle.life_store.specs.Edits.{buffer_of, erased, size_of}
use Rattle.life_store.specs.Effects.{Setting, Effect, Strays, Attempt, Got, on_got, put_content}
use Rattle.life_store.specs.Iterators.{erasable, iterator, standing}
use Rattle.life_store.specs.Parts.{parts_at, Parts, Single, Raw, Iterates, Views, Text, Vector, Unique, Member, NoMember}
use Rattle.life_store.specs.Places.{location_cell, pointed}
use Rattle.life_store.specs.State.{Pointer as Meant, Cell as Held, State}
use Rattle.life_forest.proofs.Coming.{IfGot}
use Rattle.life_forest.proofs.FrameChanges.{erasable_below}
use Rattle.life_forest.proofs.StandingSteps.{IsTypedChange}
use Rattle.life_values.specs.Layouts.{flat}
use Rattle.life_pointers.specs.Attempts.{tried}
use Rattle.life_pointers.specs.Owned.{spot_seen}
use Rattle.life_pointers.specs.Places.{ended_by}
use Rattle.life_pointers.specs.Pointers.{pointer_seen}
use Rattle.life_pointers.specs.declared.owned.Spot.{Spot}
use Rattle.life_pointers.specs.declared.pointer.Pointer.{Pointer}
use Rattle.life_pointers.specs.declared.stop.Stop.{Stop}
use Rattle.life_cells.specs.Cells.{pointer_in, state_in, state_of}
use Rattle.life_cells.specs.Steps.{Comes}
use Rattle.life_cells.specs.Typed.{HoldsPointer}
use Rattle.life_cells.specs.declared.cell.Cell.{Cell}
use Rattle.life_cells.proofs.CellLemmas.{no_iterator, points}
use Rattle.life_cells.proofs.StepLemmas.{stopped}
use Rattle.life_changes.specs.Erasing.{erased_into}
use Rattle.life_changes.specs.Owners.{elements_in, first_of}
use Rattle.life_changes.specs.Ready.{TakesIterator, TakesIteratorOf}
use Rattle.life_changes.specs.Steps.{Goes}

-- ---- an element is erased at an iterator

module _ (s : Setting) (types : Types) (f : Function) (p : Parts) (spot : Spot) (from into : Location) (m : Content) (cells : List Cell) where
  pub erases_lost : None ≡ pointer_in (location_cell types f from (state_in m cells)) → (output : List ℕ) (input : List ℤ) → changed s types f p (spot_seen spot) (Erase from into) (state_of m cells output input) ≡ Strays
  erases_lost none output input = ap (λ (a : Attempt Meant). on_got a (λ v. erases types f p (spot_seen spot) v into (state_of m cells output input))) (no_iterator m (location_cell types f from (state_in m cells)) none)

  -- the iterator is used
  module _ (q : Pointer) (is : Some (pointer_seen q) ≡ pointer_in (location_cell types f from (state_in m cells))) where
    used : (output : List ℕ) (input : List ℤ) → changed s types f p (spot_seen spot) (Erase from into) (state_of m cells output input) ≡ on_got (standing m (pointer_seen q)) (λ v. erases types f p (spot_seen spot) v into (state_of m cells output input))
    used output input = ap (λ (v : Option Held). on_got (iterator m v) (λ w. erases types f p (spot_seen spot) w into (state_of m cells output input))) (points (location_cell types f from (state_in m cells)) (pointer_seen q) is)

    pub erases_stops : (e : Stop) → tried {A = Pointer} pointer_seen (Err e) ≡ standing m (pointer_seen q) → (output : List ℕ) (input : List ℤ) → changed s types f p (spot_seen spot) (Erase from into) (state_of m cells output input) ≡ ended_by e
    erases_stops e stops output input =
        let go : Meant → Effect = λ v. erases types f p (spot_seen spot) v into (state_of m cells output input) in
        used output input ∙ ap (λ (a : Attempt Meant). on_got a go) (sym stops) ∙ stopped pointer_seen go e

    pub erases_with : (r : Pointer) → Got (pointer_seen r) ≡ standing m (pointer_seen q) → (output : List ℕ) (input : List ℤ) → changed s types f p (spot_seen spot) (Erase from into) (state_of m cells output input) ≡ erases types f p (spot_seen spot) (pointer_seen r) into (state_of m cells output input)
    erases_with r stands output input =
        let go : Meant → Effect = λ v. erases types f p (spot_seen spot) v into (state_of m cells output input) in
        used output input ∙ ap (λ (a : Attempt Meant). on_got a go) (sym stands)

-- .. of a vector that has the buffer
module _ (types : Types) (f : Function) (id : TyId) (element : Parts) (spot : Spot) (v : Meant) (into : Location) (m : Content) (cells : List Cell) where
  abbrev with_buffer : State → ℕ → Effect
  with_buffer st b = on_got (erasable m b v) (λ i. pointed types f into (pointer_to (erased element b i m) b i 0) (put_content (erased element b i m) st))

  pub moved_stops : {A : Type 0} (number : A → ℕ) (e : Stop) → tried number (Err e) ≡ buffer_of m (spot_seen spot) → (output : List ℕ) (input : List ℤ) → erases types f (Vector id element) (spot_seen spot) v into (state_of m cells output input) ≡ ended_by e
  moved_stops number e stops output input = let st = state_of m cells output input in ap (λ (a : Attempt ℕ). on_got a (with_buffer st)) (sym stops) ∙ stopped number (with_buffer st) e

  module _ (b : ℕ) (found : Got b ≡ buffer_of m (spot_seen spot)) where
    pub foreign_stops : {A : Type 0} (number : A → ℕ) (e : Stop) → tried number (Err e) ≡ erasable m b v → (output : List ℕ) (input : List ℤ) → erases types f (Vector id element) (spot_seen spot) v into (state_of m cells output input) ≡ ended_by e
    foreign_stops number e stops output input =
        let st = state_of m cells output input in
        let go : ℕ → Effect = λ i. pointed types f into (pointer_to (erased element b i m) b i 0) (put_content (erased element b i m) st) in
        ap (λ (a : Attempt ℕ). on_got a (with_buffer st)) (sym found) ∙ ap (λ (a : Attempt ℕ). on_got a go) (sym stops) ∙ stopped number go e

    pub element_erased : (i : ℕ) → Got i ≡ erasable m b v → (output : List ℕ) (input : List ℤ) → erases types f (Vector id element) (spot_seen spot) v into (state_of m cells output input) ≡ erased_into types f element b i into (state_of m cells output input)
    element_erased i is output input =
        let st = state_of m cells output input in
        ap (λ (a : Attempt ℕ). on_got a (with_buffer st)) (sym found)
        ∙ ap (λ (a : Attempt ℕ). on_got a (λ k. pointed types f into (pointer_to (erased element b k m) b k 0) (put_content (erased element b k m) st))) (sym is)

-- an index that was found is that of an element
pub erasable_inside : (m : Content) (b i : ℕ) (v : Meant) → Got i ≡ erasable m b v → i < size_of m b
erasable_inside m b i v is = subst (λ (a : Attempt ℕ). IfGot a (λ k. k < size_of m b)) (sym is) (erasable_below m b v)

-- ---- what came of a part

pub comes_goes : {A B : Type 0} (effect : State → Effect) (c d : Content) (cells new : List Cell) (done : A) (other : B) → Comes {A = A} effect c cells d new (Ok done) → Goes {A = B} effect c cells d new (Ok other)
comes_goes effect c d cells new done other comes = comes

-- what isn't told to have elements is no vector
pub not_vector : (p : Parts) → None ≡ elements_in (first_of (flat 0 p)) → (id : TyId) (element : Parts) → p ≡ Vector id element → ⊥
not_vector p none id element is = unlike id (none ∙ ap (λ (q : Parts). elements_in (first_of (flat 0 q))) is)
  where
    unlike : (k : TyId) → None ≡ Some k → ⊥
    unlike k e = cc

-- no string has such elements
pub no_vector : (types : Types) (f : Function) (p : Parts) (spot : Spot) (v : Meant) (into : Location) (st : State) → ((id : TyId) (element : Parts) → p ≡ Vector id element → ⊥) → erases types f p (spot_seen spot) v into st ≡ Strays
no_vector types f (Vector id element) spot v into st no_one = absurd (no_one id element refl)
no_vector types f Single spot v into st no_one = refl
no_vector types f Raw spot v into st no_one = refl
no_vector types f Iterates spot v into st no_one = refl
no_vector types f Views spot v into st no_one = refl
no_vector types f (Text id) spot v into st no_one = refl
no_vector types f (Unique id target) spot v into st no_one = refl
no_vector types f (Member first others) spot v into st no_one = refl
no_vector types f NoMember spot v into st no_one = refl

-- a change that is typed lets the location take the iterator, where it is of a vector
pub takes_iterator : (types : Types) (f : Function) (ty : TyId) (from into : Location) (st : State) → IsTypedChange types f st ty (Erase from into) → HoldsPointer types f into st → TakesIteratorOf types f ty into st
takes_iterator types f ty from into st typed holds = λ id is.
    ⊎_elim (λ t. absurd (unlike (parts_at types id) t.0 id (sym t.1 ∙ is)))
    (λ t. let same = one t.0 id (parts_at types t.0) (parts_at types id) (sym t.1 ∙ is) in subst (λ i. TakesIterator types f i into st) same (holds, t.2.0, t.2.1, t.2.2)) typed
  where
    unlike : (element : Parts) (k id : TyId) → Text k ≡ Vector id element → ⊥
    unlike element k id e = cc

    one : (k id : TyId) (a b : Parts) → Vector k a ≡ Vector id b → k ≡ id
    one k id a b e = cc

-- a vector has one type of elements
pub one_vector : (types : Types) (ty a b : TyId) → parts_at types ty ≡ Vector a (parts_at types a) → parts_at types ty ≡ Vector b (parts_at types b) → a ≡ b
one_vector types ty a b is other = same (parts_at types a) (parts_at types b) (sym is ∙ other)
  where
    same : (p q : Parts) → Vector a p ≡ Vector b q → a ≡ b
    same p q e = cc
