-- What the machine's functions do is what the steps of the meaning do.
use Rattle.std.proofs.Common.{◌≡◌, ℕ, List, Option, Some, None, Result, Ok, Err, OnErr, OnOk, sym, ap, subst, ◌∙◌}
use Rattle.std.proofs.lemmas.Option.{none-some, same_Some, slice_get-map}
use Rattle.std.specs.Prelude.{ℤ, slice_get, option_map}
use Rattle.life_store.specs.Content.{Content}
use Rattle.life_store.specs.Doing.{Effect, on_number, on_pointer}
use Rattle.life_store.specs.State as state
use Rattle.life_store.specs.State.{State}
use Rattle.life_pointers.specs.declared.stop.Stop.{Stop}
use Rattle.life_pointers.specs.declared.stop.Stop.TheVariants as stop
use Rattle.life_cells.specs.Cells.{cell_seen, cells_seen, number_in, pointer_in}
use Rattle.life_cells.specs.Steps.{Comes}
use Rattle.life_cells.specs.declared.cell.Cell.{Cell}
use Rattle.life_interp.specs.Steps.{TellsEnd, Leaves, LeavesBoth, settled_as}
use Rattle.life_interp.specs.declared.ending.Ending.{Ending}

-- ---- cells

pub seen : (cells : List Cell) (x : ℕ) (o : Option Cell) → o ≡ slice_get cells x → slice_get (cells_seen cells) x ≡ option_map cell_seen o
seen cells x o e = slice_get-map cell_seen cells x ∙ ap (option_map cell_seen) (sym e)

pub a_number : (o : Option state.Cell) (go : ℤ → Effect) (z : ℤ) → Some z ≡ number_in o → on_number o go ≡ go z
a_number None go z e = absurd (none-some z (sym e))
a_number (Some state.Empty) go z e = absurd (none-some z (sym e))
a_number (Some (state.Named n)) go z e = absurd (none-some z (sym e))
a_number (Some (state.Number y)) go z e = ap go (sym (same_Some z y e))
a_number (Some (state.Points p)) go z e = absurd (none-some z (sym e))

pub a_pointer : (o : Option state.Cell) (go : state.Pointer → Effect) (p : state.Pointer) → Some p ≡ pointer_in o → on_pointer o go ≡ go p
a_pointer None go p e = absurd (none-some p (sym e))
a_pointer (Some state.Empty) go p e = absurd (none-some p (sym e))
a_pointer (Some (state.Named n)) go p e = absurd (none-some p (sym e))
a_pointer (Some (state.Number z)) go p e = absurd (none-some p (sym e))
a_pointer (Some (state.Points q)) go p e = ap go (sym (same_Some p q e))

-- ---- steps

-- a step that is another one
pub leaves_as : {A : Type 0} (effect effect' : List ℕ → List ℤ → Effect) (next : List ℕ → List ℤ → State) (r : Result A Ending)
    → ((output : List ℕ) (input : List ℤ) → effect output input ≡ effect' output input) → Leaves effect' next r → Leaves effect next r
leaves_as effect effect' next (Ok a) same h = λ output input. same output input ∙ h output input
leaves_as effect effect' next (Err e) same h = λ output input. subst (λ x. TellsEnd x e) (sym (same output input)) (h output input)

-- a step of the cells is one of the machine
pub comes_leaves : {A : Type 0} (effect : State → Effect) (c d : Content) (cells new : List Cell) (r : Result A Stop) → Comes effect c cells d new r → LeavesBoth effect c cells d new (settled_as r)
comes_leaves effect c d cells new (Ok a) h = h
comes_leaves effect c d cells new (Err (stop.Trap kind)) h = h
comes_leaves effect c d cells new (Err (stop.Fault kind)) h = h
comes_leaves effect c d cells new (Err stop.Lost) h = h

pub ok_settled : {A : Type 0} (r : Result A Stop) (P : Type 0) → OnOk r P → OnOk (settled_as r) P
ok_settled (Ok a) P h = h
ok_settled (Err e) P h = tt

-- what holds anyhow
pub ok_holds : {A E : Type 0} (r : Result A E) (P : Type 0) → P → OnOk r P
ok_holds (Ok a) P h = h
ok_holds (Err e) P h = tt

pub err_holds : {A E : Type 0} (r : Result A E) (P : Type 0) → P → OnErr r P
err_holds (Ok a) P h = tt
err_holds (Err e) P h = h

-- .. and what holds with it
pub ok_so : {A E : Type 0} (r : Result A E) (P Q : Type 0) → (P → Q) → OnOk r P → OnOk r Q
ok_so (Ok a) P Q go h = go h
ok_so (Err e) P Q go h = tt
