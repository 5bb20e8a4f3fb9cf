-- The steps by their parts.
use Rattle.std.proofs.Common.{◌≡◌, ℕ, List, [], ◌∷◌, Option, Some, None, Result, Ok, Err, refl, sym, ap, subst, ◌∙◌}
use Rattle.std.specs.Prelude.{ℤ}
use Rattle.life_types.specs.Types.{Types}
use Rattle.life_types.specs.declared.ty.TyId.{TyId}
use Rattle.life_core.specs.Function.{Function}
use Rattle.life_core.specs.Operands.{Operand}
use Rattle.life_store.specs.Content.{Object, Content}
use Rattle.life_store.specs.Doing.{copied_to, copies, moves, moves_from, on_character}
use Rattle.life_store.specs.Effects.{word_of_number, Setting, Effect, Strays, cell}
use Rattle.life_store.specs.Held.{words_at}
use Rattle.life_store.specs.Parts.{Parts, local_parts, operand_parts, operand_type, parts_at, parts_if, width}
use Rattle.life_store.specs.Places.{Found, Fixed, Spot as Place, locate, on_place, on_spot, operand_word}
use Rattle.life_store.specs.References.{Rows}
use Rattle.life_store.specs.State.{Cell as Held, Empty, Named, Number, Points, Characters, State}
use Rattle.life_seen.specs.Kinds.{kinds_of}
use Rattle.life_pointers.specs.Owned.{spot_seen}
use Rattle.life_pointers.specs.Places.{TellsMiss}
use Rattle.life_pointers.specs.declared.owned.Spot.{Spot}
use Rattle.life_pointers.specs.declared.stop.Stop.{Stop}
use Rattle.life_pointers.specs.declared.stop.Stop.TheVariants as stop
use Rattle.life_cells.specs.Cells.{object_in, state_in, state_of}
use Rattle.life_cells.specs.Fits.{meant}
use Rattle.life_cells.specs.Owners.{IsSpot}
use Rattle.life_cells.specs.declared.cell.Cell.{Cell}
use Rattle.life_cells.proofs.CellLemmas.{names}
use Rattle.life_cells.proofs.PlaceLemmas.{same_found, same_word}
use Rattle.life_cells.proofs.StepLemmas.{stopped}
use Rattle.life_changes.specs.Steps.{Gets, Goes}
use Rattle.life_changes.specs.declared.failure.Failure.{Failure}
use Rattle.life_changes.specs.declared.failure.Failure.TheVariants as failure
use Rattle.life_changes.proofs.Frames.{got_goes}
use Rattle.life_moves.specs.CopiedTo.{copied_over}
use Rattle.life_moves.specs.MovedTo.{given_to}
use Rattle.life_moves.proofs.CarriedSteps.{copies_over, moves_given}
use Rattle.life_copies.specs.Values.{copied_from, IsNamed}

-- one effect is another one
goes_as : (effect other : State → Effect) (m : Content) (cells : List Cell) → ((output : List ℕ) (input : List ℤ) → effect (state_of m cells output input) ≡ other (state_of m cells output input))
    → (d : Content) (result : Result (Unit {0}) Failure) → Goes other m cells d cells result → Goes effect m cells d cells result
goes_as effect other m cells same d (Ok done) goes = λ output input. same output input ∙ goes output input
goes_as effect other m cells same d (Err (failure.Stopped e)) goes = λ output input. same output input ∙ goes output input
goes_as effect other m cells same d (Err failure.NoMemory) goes = tt

module _ (types : Types) (f : Function) (m : Content) (cells : List Cell) where
  -- ---- what stands at the operand's place

  -- whatever is done there
  module _ (o : Operand) (effect : State → Effect) (go : State → Place → Effect) (is : (output : List ℕ) (input : List ℤ) → effect (state_of m cells output input) ≡ on_spot types f o (state_of m cells output input) (go (state_of m cells output input))) where
    pub spot_stops : (e : Stop) → IsSpot types f o m cells (Err e) → (d : Content) → Goes {A = Unit {0}} effect m cells d cells (Err (failure.Stopped e))
    spot_stops e spot d = λ output input. is output input ∙ spot output input (go (state_of m cells output input)) ∙ stopped spot_seen (go (state_of m cells output input)) e

    pub spot_goes : (spot : Spot) → IsSpot types f o m cells (Ok spot) → (d : Content) (result : Result (Unit {0}) Failure) → Goes (λ st. go st (spot_seen spot)) m cells d cells result → Goes effect m cells d cells result
    spot_goes spot found d result goes = goes_as effect (λ st. go st (spot_seen spot)) m cells (λ output input. is output input ∙ found output input (go (state_of m cells output input))) d result goes

  -- ---- copies

  module _ (s : Setting) (to from : Operand) where
    abbrev there : State → Place → Effect
    there st spot = copied_from s types f (operand_parts types f to) spot from st

    pub copy_stops : (e : Stop) → IsSpot types f to m cells (Err e) → (d : Content) → Goes {A = Unit {0}} (copies s types f to from) m cells d cells (Err (failure.Stopped e))
    copy_stops e spot d = spot_stops to (copies s types f to from) there (λ output input. refl) e spot d

    pub copy_goes : (spot : Spot) → IsSpot types f to m cells (Ok spot) → (ty : TyId) → Some ty ≡ operand_type types f to → (d : Content) (result : Result (Unit {0}) Failure)
        → Goes (copied_from s types f (parts_at types ty) (spot_seen spot) from) m cells d cells result → Goes (copies s types f to from) m cells d cells result
    copy_goes spot found ty of d result goes =
        spot_goes to (copies s types f to from) there (λ output input. refl) spot found d result
        (subst (λ (id : Option TyId). Goes (copied_from s types f (parts_if types id) (spot_seen spot) from) m cells d cells result) of goes)

  module _ (s : Setting) (p : Parts) (spot : Place) (from : Operand) where
    abbrev value_at : State → ℕ → ℕ → Object → Effect
    value_at st n i object = copied_to s p spot (words_at st.world.content n i (operand_word types f from st) (width p)) st

    abbrev character_at : State → Characters → Effect
    character_at st c = on_character s.texts c (λ z. copied_to s p spot (word_of_number z ∷ []) st)

    pub from_stops : (e : Stop) → TellsMiss (locate types f from (state_in m cells)) e → (d : Content) → Goes {A = Unit {0}} (copied_from s types f p spot from) m cells d cells (Err (failure.Stopped e))
    from_stops e tells d = λ output input.
        ap (λ (w : Found). on_place w (value_at (state_of m cells output input)) (character_at (state_of m cells output input))) (same_found types f m cells output input from)
        ∙ tells (value_at (state_of m cells output input)) (character_at (state_of m cells output input))

    pub from_text : (c : Characters) → locate types f from (state_in m cells) ≡ Fixed c → (d : Content) (result : Result (Unit {0}) Failure)
        → Goes (λ st. on_character s.texts c (λ z. copied_to s p spot (word_of_number z ∷ []) st)) m cells d cells result → Goes (copied_from s types f p spot from) m cells d cells result
    from_text c found d result goes =
        goes_as (copied_from s types f p spot from) (λ st. character_at st c) m cells
        (λ output input.
        ap (λ (w : Found). on_place w (value_at (state_of m cells output input)) (character_at (state_of m cells output input))) (same_found types f m cells output input from ∙ found))
        d result goes

pub from_there : (types : Types) (f : Function) (c : Content) (rows : Rows) (cells : List Cell) (s : Setting) (p : Parts) (spot : Place) (from : Operand) (source : Spot) → IsNamed types f from source c rows cells
    → (d : Content) (new : Rows) (result : Result (Unit {0}) Failure) → Gets (kinds_of types) (copied_over s p (spot_seen source) spot (meant types c rows)) result d new → Goes (copied_from s types f p spot from) (meant types c rows) cells (meant types d new) cells result
from_there types f c rows cells s p spot from source named d new result gets =
    got_goes (kinds_of types) (copied_over s p (spot_seen source) spot (meant types c rows)) (copied_from s types f p spot from) (meant types c rows) cells cells d new result
    (λ output input.
    let st = state_of (meant types c rows) cells output input in
    ap (λ (w : Found). on_place w (value_at types f (meant types c rows) cells s p spot from st) (character_at types f (meant types c rows) cells s p spot from st)) (same_found types f (meant types c rows) cells output input from ∙ named.here.here)
    ∙ ap (λ w. copied_to s p spot (words_at (meant types c rows) source.object.birth source.index w (width p)) st) (same_word types f (meant types c rows) cells output input from ∙ sym named.word)
    ∙ copies_over s p (spot_seen source) spot st)
    gets

-- ---- moves

none_given : (p : Parts) (spot : Place) (v : Option Held) (st : State) → None ≡ object_in v → moves_from p spot v st ≡ Strays
none_given p spot None st e = refl
none_given p spot (Some Empty) st e = refl
none_given p spot (Some (Named n)) st e = absurd (unlike e)
  where
    unlike : None ≡ Some n → ⊥
    unlike h = cc
none_given p spot (Some (Number z)) st e = refl
none_given p spot (Some (Points v)) st e = refl

module _ (types : Types) (f : Function) (c : Content) (rows : Rows) (cells : List Cell) (to : Operand) (y : ℕ) where
  abbrev m : Content
  m = meant types c rows

  abbrev given : State → Place → Effect
  given st spot = moves_from (local_parts types f y) spot (cell st y) st

  pub give_stops : (e : Stop) → IsSpot types f to (meant types c rows) cells (Err e) → (d : Content) → Goes {A = Unit {0}} (moves types f to y) (meant types c rows) cells d cells (Err (failure.Stopped e))
  give_stops e spot d = spot_stops types f m cells to (moves types f to y) given (λ output input. refl) e spot d

  module _ (spot : Spot) (found : IsSpot types f to (meant types c rows) cells (Ok spot)) where
    pub give_strays : None ≡ object_in (cell (state_in (meant types c rows) cells) y) → (d : Content) → Goes {A = Unit {0}} (moves types f to y) (meant types c rows) cells d cells (Err (failure.Stopped stop.Lost))
    give_strays none d =
        spot_goes types f m cells to (moves types f to y) given (λ output input. refl) spot found d (Err (failure.Stopped stop.Lost))
        (λ output input. none_given (local_parts types f y) (spot_seen spot) (cell (state_in m cells) y) (state_of m cells output input) none)

    pub give_goes : (n : ℕ) → Some n ≡ object_in (cell (state_in (meant types c rows) cells) y) → (d : Content) (new : Rows) (result : Result (Unit {0}) Failure)
        → Gets (kinds_of types) (given_to (local_parts types f y) (spot_seen spot) n (meant types c rows)) result d new → Goes (moves types f to y) (meant types c rows) cells (meant types d new) cells result
    give_goes n some d new result gets =
        spot_goes types f m cells to (moves types f to y) given (λ output input. refl) spot found (meant types d new) result
        (got_goes (kinds_of types) (given_to (local_parts types f y) (spot_seen spot) n m) (λ st. given st (spot_seen spot)) m cells cells d new result
        (λ output input.
        ap (λ (v : Option Held). moves_from (local_parts types f y) (spot_seen spot) v (state_of m cells output input)) (names (cell (state_in m cells) y) n some)
        ∙ moves_given (local_parts types f y) (spot_seen spot) n (state_of m cells output input))
        gets)
