-- What a cell that is looked at holds.
use Rattle.std.proofs.Common.{◌≡◌, zero, suc, true, false, List, [], ◌∷◌, Option, Some, None, refl, sym, ap}
use Rattle.std.proofs.lemmas.Bool.{false≢true}
use Rattle.std.proofs.lemmas.Option.{none-some, same_Some}
use Rattle.std.specs.Prelude.{ℕ, ℤ, option_map, pos, slice_get}
use Rattle.life_types.specs.Types.{Types}
use Rattle.life_types.specs.declared.ty.TyId.{TyId}
use Rattle.life_core.specs.Holdings.{Holding, sort_of}
use Rattle.life_core.specs.declared.instr.Form.{Form}
use Rattle.life_core.specs.declared.program.Local.{Local}
use Rattle.life_core.specs.Function.{Function}
use Rattle.life_store.specs.Calls.{cell_back, given_to, number_handed, object_handed, pointer_handed}
use Rattle.life_store.specs.Doing.{Setting, Next, Strays, cell, end_cell, live_local, live_over, put_cell}
use Rattle.life_store.specs.Meaning.{value_in}
use Rattle.life_store.specs.Parts.{Parts}
use Rattle.life_store.specs.State.{Cell, Empty, Named, Number, Points, State}
use Rattle.life_cells.specs.Cells.{cell_seen, cells_seen, number_in, object_in, pointer_in}
use Rattle.life_cells.specs.declared.cell.Cell as machine
use Rattle.life_interp.specs.Cells.{is_vacant, one_seen}
use Rattle.life_interp.specs.Steps.{is_free}

-- ---- what comes to life

pub free_empty : (o : Option Cell) → is_free o ≡ true → o ≡ Some Empty
free_empty None e = absurd (false≢true e)
free_empty (Some Empty) e = refl
free_empty (Some (Named n)) e = absurd (false≢true e)
free_empty (Some (Number z)) e = absurd (false≢true e)
free_empty (Some (Points p)) e = absurd (false≢true e)

true_false : true ≡ false → ⊥
true_false e = cc

taken_strays : (s : Setting) (types : Types) (o : Option Cell) (sort : Holding) (ty : TyId) (form : Form) (x : ℕ) (st : State) → is_free o ≡ false → live_over s types o sort ty form x st ≡ Strays
taken_strays s types None sort ty form x st e = refl
taken_strays s types (Some Empty) sort ty form x st e = absurd (true_false e)
taken_strays s types (Some (Named n)) sort ty form x st e = refl
taken_strays s types (Some (Number z)) sort ty form x st e = refl
taken_strays s types (Some (Points p)) sort ty form x st e = refl

pub taken_lives : (s : Setting) (types : Types) (f : Function) (l : Option Local) (form : Form) (x : ℕ) (st : State) → is_free (cell st x) ≡ false → live_local s types f l form x st ≡ Strays
taken_lives s types f None form x st e = refl
taken_lives s types f (Some l) form x st e = taken_strays s types (cell st x) (sort_of types f x) l.ty form x st e

-- ---- what ends

module _ (parts : Parts) (x : ℕ) (st : State) where
  pub nothing_ends : (o : Option Cell) → None ≡ object_in o → None ≡ pointer_in o → end_cell parts o x st ≡ Strays
  nothing_ends None e k = refl
  nothing_ends (Some Empty) e k = refl
  nothing_ends (Some (Named n)) e k = absurd (none-some n e)
  nothing_ends (Some (Number z)) e k = refl
  nothing_ends (Some (Points p)) e k = absurd (none-some p k)

-- ---- what is handed over and given

pub number_handed_none : (o : Option Cell) → None ≡ number_in o → None ≡ number_handed o
number_handed_none None e = refl
number_handed_none (Some Empty) e = refl
number_handed_none (Some (Named n)) e = refl
number_handed_none (Some (Number z)) e = absurd (none-some z e)
number_handed_none (Some (Points p)) e = refl

pub pointer_handed_none : (o : Option Cell) → None ≡ pointer_in o → None ≡ pointer_handed o
pointer_handed_none None e = refl
pointer_handed_none (Some Empty) e = refl
pointer_handed_none (Some (Named n)) e = refl
pointer_handed_none (Some (Number z)) e = refl
pointer_handed_none (Some (Points p)) e = absurd (none-some p e)

pub object_handed_none : (o : Option Cell) → None ≡ object_in o → None ≡ object_handed o
object_handed_none None e = refl
object_handed_none (Some Empty) e = refl
object_handed_none (Some (Named n)) e = absurd (none-some n e)
object_handed_none (Some (Number z)) e = refl
object_handed_none (Some (Points p)) e = refl

pub vacant_is : (v : Cell) → is_vacant v ≡ true → v ≡ Empty
vacant_is Empty e = refl
vacant_is (Named n) e = absurd (false≢true e)
vacant_is (Number z) e = absurd (false≢true e)
vacant_is (Points p) e = absurd (false≢true e)

-- a local is given a pointer as it is
pub given_as : (s : Setting) (types : Types) (sort : Holding) (ty : TyId) (x : ℕ) (st : State) (v : Cell) → None ≡ number_in (Some v) → None ≡ object_in (Some v) → is_vacant v ≡ false → given_to s types sort ty v x st ≡ Next (put_cell x v st)
given_as s types sort ty x st Empty e o k = absurd (true_false k)
given_as s types sort ty x st (Named n) e o k = absurd (none-some n o)
given_as s types sort ty x st (Number z) e o k = absurd (none-some z e)
given_as s types sort ty x st (Points p) e o k = refl

-- ---- the value that is told

pub told_none : (v : Cell) → None ≡ number_in (Some v) → pos 0 ≡ value_in (v ∷ [])
told_none Empty e = refl
told_none (Named n) e = refl
told_none (Number z) e = absurd (none-some z e)
told_none (Points p) e = refl

pub told_some : (v : Cell) (z : ℤ) → Some z ≡ number_in (Some v) → z ≡ value_in (v ∷ [])
told_some Empty z e = absurd (none-some z (sym e))
told_some (Named n) z e = absurd (none-some z (sym e))
told_some (Number y) z e = same_Some z y e
told_some (Points p) z e = absurd (none-some z (sym e))

-- ---- what is given back

-- what a local holds is what its cell stands for
pub cells_at : (cells : List machine.Cell) (x : ℕ) (v : machine.Cell) → slice_get cells x ≡ Some v → slice_get (cells_seen cells) x ≡ Some (cell_seen v)
cells_at [] x v e = absurd (none-some v e)
cells_at (w ∷ ws) zero v e = ap (λ (k : machine.Cell). Some (cell_seen k)) (same_Some w v e)
cells_at (w ∷ ws) (suc x) v e = cells_at ws x v e

pub object_back : (o : Option Cell) (v : Cell) → Some v ≡ object_handed o → v ∷ [] ≡ cell_back o
object_back None v e = absurd (none-some v (sym e))
object_back (Some Empty) v e = absurd (none-some v (sym e))
object_back (Some (Named n)) v e = ap (λ c. c ∷ []) (same_Some v (Named n) e)
object_back (Some (Number z)) v e = absurd (none-some v (sym e))
object_back (Some (Points p)) v e = absurd (none-some v (sym e))

pub pointer_alone : (o : Option Cell) (v : Option machine.Cell) → None ≡ object_handed o → option_map cell_seen v ≡ pointer_handed o → one_seen v ≡ cell_back o
pointer_alone None None e k = refl
pointer_alone (Some Empty) None e k = refl
pointer_alone (Some (Named n)) v e k = absurd (none-some (Named n) e)
pointer_alone (Some (Number z)) None e k = refl
pointer_alone (Some (Points p)) None e k = absurd (none-some (Points p) k)
pointer_alone (Some (Points p)) (Some v) e k = ap (λ c. c ∷ []) (same_Some (cell_seen v) (Points p) k)
pointer_alone None (Some v) e k = absurd (none-some (cell_seen v) (sym k))
pointer_alone (Some Empty) (Some v) e k = absurd (none-some (cell_seen v) (sym k))
pointer_alone (Some (Number z)) (Some v) e k = absurd (none-some (cell_seen v) (sym k))
