-- The value that an operand names, from what is told of the spot that was found.
use Rattle.std.proofs.Common.{◌≡◌, ℕ, List, sym, ap, subst, ◌∙◌, arith}
use Rattle.life_types.specs.Types.{Types}
use Rattle.life_types.specs.declared.ty.TyId.{TyId}
use Rattle.life_core.specs.Function.{Function}
use Rattle.life_core.specs.Operands.{Operand}
use Rattle.life_store.specs.Content.{Object, Content}
use Rattle.life_store.specs.Kinds.{kind_in}
use Rattle.life_store.specs.Parts.{parts_at, width}
use Rattle.life_store.specs.Places.{locate, operand_word}
use Rattle.life_store.specs.References.{Rows}
use Rattle.life_store.specs.State.{State}
use Rattle.life_forest.specs.Kinds.{owned_type}
use Rattle.life_forest.specs.Within.{LiesWithin}
use Rattle.life_forest.proofs.Operands.{FoundWell, IsPlace, operand_well}
use Rattle.life_forest.proofs.StandingSteps.{IsOperandOf}
use Rattle.life_seen.specs.Kinds.{kinds_of}
use Rattle.life_seen.specs.Named.{names_of}
use Rattle.life_seen.specs.Seen.{object_seen}
use Rattle.life_seen.proofs.References.{found}
use Rattle.life_pointers.specs.Places.{IsHere}
use Rattle.life_pointers.specs.declared.owned.Spot.{Spot}
use Rattle.life_cells.specs.Cells.{state_in}
use Rattle.life_cells.specs.Fits.{meant}
use Rattle.life_cells.specs.Typed.{IsPlaced}
use Rattle.life_cells.specs.declared.cell.Cell.{Cell}
use Rattle.life_changes.specs.Ready.{AreServed, IsReady}
use Rattle.life_copies.specs.Values.{ValueAt}

-- where the parts are the same, so is where they lie
pub within_as : (types : Types) (whole part other : TyId) (w : ℕ) → parts_at types part ≡ parts_at types other → LiesWithin types whole w part → LiesWithin types whole w other
within_as types whole part other w same h =
    let wide : width (parts_at types part) ≡ width (parts_at types other) = ap width same in
    record {
      fits = let f = h.fits in omega (arith, wide, f);
      words = λ u lt. h.words u (omega (arith, wide, lt)) ∙ ap (λ p. kind_in p u) same;
      owners = λ u lt. h.owners u (omega (arith, wide, lt)) ∙ ap (λ p. owned_type p u) same;
    }

module _ (types : Types) (f : Function) (limit depth : ℕ) (c : Content) (rows : Rows) (cells : List Cell) (served : AreServed types limit depth) (ready : IsReady types f limit c rows cells) (o : Operand)
    (placed : IsPlaced types f o (state_in (meant types c rows) cells)) (spot : Spot)
    (here : IsHere (kinds_of types) c rows (locate types f o (state_in (meant types c rows) cells)) spot) (word : spot.word ≡ operand_word types f o (state_in (meant types c rows) cells)) where
  abbrev st : State
  st = state_in (meant types c rows) cells

  abbrev object : Object
  object = object_seen (kinds_of types) (names_of c rows) here.object

  module _ (part : TyId) (typed : IsOperandOf types f (state_in (meant types c rows) cells) o part) (ty : TyId) (same : parts_at types part ≡ parts_at types ty) where
    place : IsPlace types (meant types c rows) part spot.object.birth spot.index spot.word object
    place =
        subst (λ w. IsPlace types (meant types c rows) part spot.object.birth spot.index w object) (sym word)
        (subst (FoundWell types (meant types c rows) part (operand_word types f o st)) here.here (operand_well types served.ordered f st ready.stands.frame o part typed.0 typed.1))

    pub value_at : ValueAt types f limit depth ty spot c rows cells
    value_at =
        let lies = placed.lies spot.object.birth spot.index object here.here in
        let a = lies.within in
        let b = lies.small in
        record {
          owner = record {
            served = served;
            ready = ready;
            placed = (found c rows spot.object here.object here.lives).placed;
            small = omega (arith, a, b, word);
            object = object;
            place = record { there = place.there; slot = place.slot; within = within_as types object.ty part ty spot.word same place.within };
          };
          narrow = b;
        }
