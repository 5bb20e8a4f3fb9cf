-- Ends and sizes of what is seen, by what is read of locations.
use Rattle.std.proofs.Common.{◌≡◌, ℕ, ◌+◌, ◌≤◌, ◌^◌, Option, Some, None, ap}
use Rattle.std.specs.Prelude.{pos}
use Rattle.life_types.specs.Types.{Types}
use Rattle.life_core.specs.declared.operand.RangeEnd.{RangeEnd}
use Rattle.life_core.specs.Function.{Function}
use Rattle.life_core.specs.Operands.{Location}
use Rattle.life_core.specs.Operands as base
use Rattle.life_store.specs.Doing.{cursor, sized}
use Rattle.life_store.specs.Effects.{Attempt, Next, Strays, on_got, put_cell}
use Rattle.life_store.specs.Iterators.{element_of, end_index}
use Rattle.life_store.specs.Places.{location_cell, pointed}
use Rattle.life_store.specs.State as state
use Rattle.life_store.specs.State.{Number, Pointer, State}
use Rattle.life_store.specs.Views.{seen_count}
use Rattle.life_pointers.specs.Pointers.{pointer_seen, starts_at, IsShort}
use Rattle.life_pointers.specs.declared.pointer.Pointer as machine
use Rattle.life_pointers.specs.declared.pointer.Pointer.TheVariants as leads
use Rattle.life_cells.specs.Cells.{pointer_in}
use Rattle.life_cells.proofs.CellLemmas.{no_view}

module _ (types : Types) (f : Function) (st : State) where
  pub cursor_lost : (p l : Location) (end : RangeEnd) → None ≡ pointer_in (location_cell types f l st) → cursor types f p (base.Pointer l) end st ≡ Strays
  cursor_lost p l end none =
      ap (λ (a : Attempt Pointer). on_got a (λ v. pointed types f p (element_of st.world.content.clock (end_index end (seen_count v)) v) st)) (no_view st.world.content (location_cell types f l st) none)

  pub size_lost : (r : ℕ) (l : Location) → None ≡ pointer_in (location_cell types f l st) → sized types f r (base.Pointer l) st ≡ Strays
  size_lost r l none = ap (λ (a : Attempt Pointer). on_got a (λ v. Next (put_cell r (Number (pos (seen_count v))) st))) (no_view st.world.content (location_cell types f l st) none)

-- an iterator at the end of what is seen is short
pub short_end : (p : machine.Pointer) (o : Option state.Cell) → o ≡ Some (state.Points (pointer_seen p)) → ((s : state.Characters) → o ≡ Some (state.Points (state.Static s)) → s.index + s.count + 1 ≤ 2 ^ 63)
    → IsShort (starts_at p + seen_count (pointer_seen p) + 1) p
short_end leads.Null o is h = tt
short_end leads.Wild o is h = tt
short_end (leads.To index count word object moment) o is h = tt
short_end (leads.Static s) o is h = h _ is
