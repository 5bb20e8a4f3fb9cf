-- A target that is given a result: a local as a whole, or a member of one.
use Rattle.std.proofs.Common.{◌≡◌, Bool, true, false, List, [], ◌∷◌, Option, Some, None, cond, refl, sym, ap, ◌∙◌}
use Rattle.std.proofs.lemmas.Bool.{false≢true}
use Rattle.std.proofs.lemmas.Option.{none-some}
use Rattle.std.specs.Prelude.{ℕ, slice_get}
use Rattle.life_types.specs.Types.{Types}
use Rattle.life_core.specs.declared.program.Local.{Local}
use Rattle.life_core.specs.Function.{Function}
use Rattle.life_core.specs.Operands.{Location}
use Rattle.life_store.specs.Calls.{given, result_given}
use Rattle.life_store.specs.Doing.{Setting, Strays, pointed}
use Rattle.life_store.specs.References.{Rows}
use Rattle.life_store.specs.State.{Cell, Empty, Named, Number, Points, Pointer, State}
use Rattle.life_cells.specs.Cells.{cell_seen, pointer_in}
use Rattle.life_cells.specs.Typed.{is_nil}
use Rattle.life_cells.specs.declared.cell.Cell as machine
use Rattle.life_slots.specs.Slots.{referred}
use Rattle.life_interp.specs.CallOperands.{SuitsSlot}
use Rattle.life_interp.specs.Returning.{TakesResult}
use Rattle.life_interp.proofs.CellLemmas.{vacant_is}

module _ (s : Setting) (types : Types) (f : Function) (l : Location) (st : State) where
  -- ---- a member

  pub member_strays : (ms : List ℕ) (v : Cell) → is_nil ms ≡ false → None ≡ pointer_in (Some v) → result_given s types f l ms v st ≡ Strays
  member_strays [] v e k = absurd (false≢true (sym e))
  member_strays (m ∷ ms) Empty e k = refl
  member_strays (m ∷ ms) (Named n) e k = refl
  member_strays (m ∷ ms) (Number z) e k = refl
  member_strays (m ∷ ms) (Points p) e k = absurd (none-some p k)

  pub member_given : (ms : List ℕ) (p : Pointer) → is_nil ms ≡ false → result_given s types f l ms (Points p) st ≡ pointed types f l p st
  member_given [] p e = absurd (false≢true (sym e))
  member_given (m ∷ ms) p e = refl

  -- ---- a whole local

  pub whole_given : (ms : List ℕ) (v : Cell) → is_nil ms ≡ true → result_given s types f l ms v st ≡ given s types f v l.local st
  whole_given [] v e = refl
  whole_given (m ∷ ms) v e = absurd (false≢true e)

-- .. is no slot
pub suits_result : (types : Types) (f : Function) (l : Location) (st : State) (target : Option Location) (rows : Rows) (v : machine.Cell) (lo : Local) → target ≡ Some l → l.members ≡ [] → slice_get f.locals l.local ≡ Some lo → TakesResult types f target (cell_seen v ∷ []) st → SuitsSlot types rows lo.ty v
suits_result types f l st target rows v lo to whole there takes = record {
  nothing = λ e id typed. absurd (takes.some (ap (λ (u : Cell). u ∷ []) (vacant_is (cell_seen v) e)));
  object = λ r is id typed. absurd (none-some id (sym (ap (λ (b : Bool). cond b (referred (slice_get types.types lo.ty.0)) None) (takes.free l lo r.birth to whole there (ap (λ (u : machine.Cell). cell_seen u ∷ []) is))) ∙ typed));
}
