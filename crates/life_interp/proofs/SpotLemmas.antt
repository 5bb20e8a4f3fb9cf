-- Spots that were found are those that operands name.
use Rattle.std.proofs.Common.{◌≡◌, ◌<◌, ℕ, List, Option, Some, None, IfSome, ap, cond, subst, sym, ◌∙◌}
use Rattle.std.proofs.lemmas.Bool.{lt-ltb}
use Rattle.std.specs.Int.{cast_unsigned, w64}
use Rattle.std.specs.Prelude.{ℤ}
use Rattle.life_types.specs.Types.{Types}
use Rattle.life_core.specs.Function.{Function}
use Rattle.life_core.specs.Operands.{Operand, object_named}
use Rattle.life_seen.specs.Kinds.{kinds_of}
use Rattle.life_store.specs.Content.{Content, Object}
use Rattle.life_store.specs.Effects.{Effect, Got, GotTrap}
use Rattle.life_store.specs.Iterators.{below}
use Rattle.life_store.specs.Places as places
use Rattle.life_store.specs.Places.{Found, found_at, locate, on_found, on_spot, operand_word}
use Rattle.life_store.specs.References.{Rows}
use Rattle.life_store.specs.declared.run.TrapKind.TheVariants as trap
use Rattle.life_pointers.specs.Choices.{chosen_by}
use Rattle.life_pointers.specs.Owned.{spot_seen}
use Rattle.life_pointers.specs.Places.{IsHere}
use Rattle.life_pointers.specs.declared.choosing.Choice.TheVariants as choice
use Rattle.life_pointers.specs.declared.owned.Spot.{Spot}
use Rattle.life_cells.specs.Cells.{state_in, state_of}
use Rattle.life_cells.specs.Fits.{meant}
use Rattle.life_cells.specs.declared.cell.Cell.{Cell}
use Rattle.life_cells.proofs.PlaceLemmas.{same_found, same_word}
use Rattle.life_interp.specs.Spots.{IsSpotAt}

-- the first slot of the object that a local has
pub spot_named : (types : Types) (f : Function) (x : ℕ) (c : Content) (rows : Rows) (cells : List Cell) (n : ℕ) (s : Option Spot) → locate types f (object_named x) (state_in (meant types c rows) cells) ≡ found_at (meant types c rows) n 0
    → IfSome s (IsHere (kinds_of types) c rows (found_at (meant types c rows) n 0)) → IfSome s (λ spot. spot.word ≡ 0) → IfSome s (IsSpotAt types f (object_named x) (state_in (meant types c rows) cells) c rows)
spot_named types f x c rows cells n None found here word = tt
spot_named types f x c rows cells n (Some s) found here word = record { here = subst (λ (w : Found). IsHere (kinds_of types) c rows w s) (sym found) here; word = word }

-- what is done where an operand's owner is
pub at_spot : (types : Types) (f : Function) (o : Operand) (m : Content) (cells : List Cell) (output : List ℕ) (input : List ℤ) (c : Content) (rows : Rows) (s : Spot) → IsSpotAt types f o (state_in m cells) c rows s → (go : places.Spot → Effect)
    → on_spot types f o (state_of m cells output input) go ≡ go (spot_seen s)
at_spot types f o m cells output input c rows s at go =
    let st = state_of m cells output input in
    let there : ℕ → ℕ → Object → Effect = λ n i object. go (record { object = n; index = i; word = operand_word types f o st }) in
    ap (λ (w : Found). on_found w there) (same_found types f m cells output input o ∙ at.here.here)
    ∙ ap (λ (w : ℕ). go (record { object = s.object.birth; index = s.index; word = w })) (same_word types f m cells output input o ∙ sym at.word)

-- the element with an index that is one
pub chosen_at : (z : ℤ) (index size : ℕ) → index ≡ cast_unsigned w64 z → index < size → Got index ≡ chosen_by (choice.At z) size
chosen_at z index size is lt =
    ap (λ b. cond b (Got index) (GotTrap trap.Bounds)) (sym (lt-ltb index size lt))
    ∙ ap (λ n. below n size) is
