-- Frames that wait, and those that begin.
use Rattle.std.proofs.Common.{◌≡◌, ℕ, zero, suc, ◌+◌, ◌<◌, ◌≤◌, List, [], ◌∷◌, ◌++◌, map, drop, length, replicate, Option, Some, None, Result, Ok, Err, OnOk, refl, sym, ap, subst, ◌∙◌, arith, append-nil, append_assoc}
use Rattle.std.proofs.lemmas.List.{reverse-append}
use Rattle.std.proofs.lemmas.Option.{none-some, same_Some}
use Rattle.std.specs.Prelude.{ℤ, slice_get, slice_index_or, option_map, reverse}
use Rattle.life_core.specs.Function.{Function, Program}
use Rattle.life_core.specs.Linked.{enter, no_exits}
use Rattle.life_core.specs.declared.program.Local.{Local}
use Rattle.life_types.specs.Types.{Types}
use Rattle.life_types.specs.declared.place.Place.{Place}
use Rattle.life_store.specs.Calls.{parameters_given, pointer_back, pointer_handed, with_handed}
use Rattle.life_store.specs.Doing.{Setting, Next}
use Rattle.life_store.specs.Content.{Content}
use Rattle.life_store.specs.Meaning.{empty_cell, frame}
use Rattle.life_store.specs.References.{Rows}
use Rattle.life_store.specs.State as state
use Rattle.life_cells.specs.Cells.{cell_seen, cells_seen, state_of}
use Rattle.life_interp.specs.Cells.{one_seen, world_of}
use Rattle.life_cells.specs.Fits.{CellFits, CellsFit, IsFit}
use Rattle.life_interp.specs.Frames.{all_cells, function_at, stack_seen, waiting_cells, waiting_seen, AreThere}
use Rattle.life_interp.specs.Steps.{TellsEnd}
use Rattle.life_interp.specs.Walk as walk
use Rattle.life_interp.specs.Walk.{Go, entered_in, let_in}
use Rattle.life_interp.specs.Walking.{barred_of, Halts}
use Rattle.life_interp.specs.declared.ending.Ending.{Ending}
use Rattle.life_interp.specs.declared.ending.Ending.TheVariants as ending
use Rattle.life_interp.specs.declared.frames.Frames.{Frames}
use Rattle.life_interp.specs.declared.frames.Waiting.{Waiting}
use Rattle.life_cells.specs.declared.cell.Cell.{Cell}
use Rattle.life_cells.specs.declared.cell.Cell.TheVariants as held
use Rattle.life_interp.proofs.CodeLists.{function_there}
use Rattle.life_cells.proofs.FitLemmas.{other_cells}
use Rattle.life_interp.proofs.FitLemmas.{fit_both}

-- ---- the newest frame that waits

pub waiting_push : (ws : List Waiting) (w : Waiting) → waiting_cells (ws ++ w ∷ []) ≡ waiting_cells ws ++ w.cells.items
waiting_push [] w = append-nil w.cells.items
waiting_push (v ∷ vs) w = ap (λ xs. v.cells.items ++ xs) (waiting_push vs w) ∙ sym (append_assoc v.cells.items (waiting_cells vs) w.cells.items)

pub there_push : (fs : List Function) (ws : List Waiting) (w : Waiting) → AreThere fs ws → w.function < length fs → AreThere fs (ws ++ w ∷ [])
there_push fs [] w h lt = (lt, tt)
there_push fs (v ∷ vs) w h lt = (h.0, there_push fs vs w h.1 lt)

pub there_front : (fs : List Function) (ws : List Waiting) (w : Waiting) → AreThere fs (ws ++ w ∷ []) → AreThere fs ws
there_front fs [] w h = tt
there_front fs (v ∷ vs) w h = (h.0, there_front fs vs w h.1)

pub there_last : (fs : List Function) (ws : List Waiting) (w : Waiting) → AreThere fs (ws ++ w ∷ []) → w.function < length fs
there_last fs [] w h = h.0
there_last fs (v ∷ vs) w h = there_last fs vs w h.1

-- ---- values in a list

pub index_fits : (c : Content) (rows : Rows) (values : List Cell) (i : ℕ) → CellsFit c rows values → CellFits c rows (slice_index_or values i held.Empty)
index_fits c rows [] i h = tt
index_fits c rows (v ∷ vs) zero h = h.0
index_fits c rows (v ∷ vs) (suc i) h = index_fits c rows vs i h.1

pub more_seen : (values : List Cell) (i : ℕ) → i < length values → drop i (cells_seen values) ≡ cell_seen (slice_index_or values i held.Empty) ∷ drop (i + 1) (cells_seen values)
more_seen [] i lt = absurd (omega (arith, lt))
more_seen (v ∷ vs) zero lt = refl
more_seen (v ∷ vs) (suc i) lt =
    let e : suc i + 1 ≡ suc (i + 1) = omega arith in
    more_seen vs i (omega (arith, lt)) ∙ ap (λ k. cell_seen (slice_index_or vs i held.Empty) ∷ drop k (cells_seen (v ∷ vs))) (sym e)

pub none_seen : (values : List Cell) (i : ℕ) → length values ≤ i → drop i (cells_seen values) ≡ []
none_seen [] zero le = refl
none_seen [] (suc i) le = refl
none_seen (v ∷ vs) zero le = absurd (omega (arith, le))
none_seen (v ∷ vs) (suc i) le = none_seen vs i (omega (arith, le))

-- ---- what is given back

abbrev one_of : Option state.Cell → List state.Cell
one_of None = []
one_of (Some v) = v ∷ []

one_is : (o : Option Cell) → one_seen o ≡ one_of (option_map cell_seen o)
one_is None = refl
one_is (Some v) = refl

pointer_one : (v : Option state.Cell) → pointer_back v ≡ one_of (pointer_handed v)
pointer_one None = refl
pointer_one (Some state.Empty) = refl
pointer_one (Some (state.Named n)) = refl
pointer_one (Some (state.Number z)) = refl
pointer_one (Some (state.Points p)) = refl

pub pointer_back_is : (o : Option Cell) (v : Option state.Cell) → option_map cell_seen o ≡ pointer_handed v → one_seen o ≡ pointer_back v
pointer_back_is o v e = one_is o ∙ ap one_of e ∙ sym (pointer_one v)

-- ---- a frame that begins

blank_seen : (ls : List Local) → map empty_cell ls ≡ cells_seen (replicate (length ls) held.Empty)
blank_seen [] = refl
blank_seen (l ∷ ls) = ap (λ cs. state.Empty ∷ cs) (blank_seen ls)

pub frame_is : (f : Function) (c : Content) (cells : List Cell) (n : ℕ) (output : List ℕ) (input : List ℤ) → cells ≡ replicate n held.Empty → n ≡ length f.locals
    → frame f (world_of c output input) ≡ state_of c cells output input
frame_is f c cells n output input e k =
    ap (λ (cs : List state.Cell). record { world = world_of c output input; cells = cs })
    (blank_seen f.locals ∙ ap (λ m. cells_seen (replicate m held.Empty)) (sym k) ∙ ap cells_seen (sym e))

-- ---- control enters a function

module _ (s : Setting) (p : Program) (g : ℕ) (f : Function) (values : List state.Cell) (place : Place) (c : Content) (there : slice_get p.functions g ≡ Some f) where
  pub enter_halts : (e : Ending) → ((output : List ℕ) (input : List ℤ) → TellsEnd (parameters_given s p.types f 0 values (frame f (world_of c output input))) e) → (ws : List walk.Waiting) (before : Content) (ins : List ℤ)
      → Halts (λ go n output. entered_in s p go ws place (world_of before output ins) (world_of c output ins) (slice_get p.functions g) values) before ins (barred_of place e)
  enter_halts (ending.Trap kind) h ws before ins = λ go n output.
      ap (λ o. entered_in s p go ws place (world_of before output ins) (world_of c output ins) o values) there ∙ ap (let_in (go ws f (enter f.body 1 no_exits)) place (world_of before output ins)) (h output ins)
  enter_halts (ending.Fault kind) h ws before ins = λ go n output.
      ap (λ o. entered_in s p go ws place (world_of before output ins) (world_of c output ins) o values) there ∙ ap (let_in (go ws f (enter f.body 1 no_exits)) place (world_of before output ins)) (h output ins)
  enter_halts ending.Stray h ws before ins = λ go n output.
      ap (λ o. entered_in s p go ws place (world_of before output ins) (world_of c output ins) o values) there ∙ ap (let_in (go ws f (enter f.body 1 no_exits)) place (world_of before output ins)) (h output ins)
  enter_halts ending.NoMemory h ws before ins = tt
  enter_halts ending.WriteFault h ws before ins = h [] []

  pub enter_goes : (d : Content) (cells : List Cell) → ((output : List ℕ) (input : List ℤ) → parameters_given s p.types f 0 values (frame f (world_of c output input)) ≡ Next (state_of d cells output input))
      → (go : Go) (ws : List walk.Waiting) (before : Content) (output : List ℕ) (ins : List ℤ)
      → entered_in s p go ws place (world_of before output ins) (world_of c output ins) (slice_get p.functions g) values ≡ go ws (function_at p.functions g) (enter (function_at p.functions g).body 1 no_exits) (state_of d cells output ins)
  enter_goes d cells h go ws before output ins =
      ap (λ o. entered_in s p go ws place (world_of before output ins) (world_of c output ins) o values) there
      ∙ ap (let_in (go ws f (enter f.body 1 no_exits)) place (world_of before output ins)) (h output ins)
      ∙ ap (λ (k : Function). go ws k (enter k.body 1 no_exits) (state_of d cells output ins)) (sym (function_there p.functions g f there))

-- ---- arguments one after the other

abbrev pub joined : List state.Cell → Option (List state.Cell) → Option (List state.Cell)
joined xs None = None
joined xs (Some ys) = Some (xs ++ ys)

pub joined_more : (xs : List state.Cell) (v : state.Cell) (o : Option (List state.Cell)) → joined xs (with_handed (Some v) o) ≡ joined (xs ++ v ∷ []) o
joined_more xs v None = refl
joined_more xs v (Some ys) = ap (λ (zs : List state.Cell). Some zs) (sym (append_assoc xs (v ∷ []) ys))

pub seen_push : (values : List Cell) (v : Cell) → cells_seen (values ++ v ∷ []) ≡ cells_seen values ++ cell_seen v ∷ []
seen_push [] v = refl
seen_push (w ∷ ws) v = ap (λ (xs : List state.Cell). cell_seen w ∷ xs) (seen_push ws v)

pub drop_there : {A : Type 0} (xs : List A) (i : ℕ) (x : A) → slice_get xs i ≡ Some x → drop i xs ≡ x ∷ drop (i + 1) xs
drop_there [] i x e = absurd (none-some x e)
drop_there (y ∷ ys) zero x e = ap (λ z. z ∷ ys) (same_Some y x e)
drop_there (y ∷ ys) (suc i) x e =
    let k : suc i + 1 ≡ suc (i + 1) = omega arith in
    drop_there ys i x e ∙ ap (λ n. x ∷ drop n (y ∷ ys)) (sym k)

pub wait_fits : {A E : Type 0} (types : Types) (d : Content) (rows : Rows) (old new : Frames) (cells : List Cell) (result : Result A E) → OnOk result (new.cells.items ≡ cells)
    → OnOk result (waiting_cells new.waiting.items ≡ waiting_cells old.waiting.items ++ old.cells.items) → IsFit types d rows cells → CellsFit d rows (waiting_cells old.waiting.items ++ old.cells.items)
    → OnOk result (IsFit types d rows (all_cells new))
wait_fits types d rows old new cells (Err e) same stacked fit waiting = tt
wait_fits types d rows old new cells (Ok a) same stacked fit waiting =
    other_cells types d rows cells (all_cells new) fit
    (fit_both d rows (waiting_cells new.waiting.items) new.cells.items (subst (CellsFit d rows) (sym stacked) waiting) (subst (CellsFit d rows) (sym same) fit.held))

pub stack_push : (fs : List Function) (ws : List Waiting) (w : Waiting) → stack_seen fs (ws ++ w ∷ []) ≡ waiting_seen fs w ∷ stack_seen fs ws
stack_push fs ws w = ap (λ (vs : List walk.Waiting). reverse vs) (seen_waiting ws) ∙ reverse-append (map (waiting_seen fs) ws) (waiting_seen fs w ∷ [])
  where
    seen_waiting : (vs : List Waiting) → map (waiting_seen fs) (vs ++ w ∷ []) ≡ map (waiting_seen fs) vs ++ waiting_seen fs w ∷ []
    seen_waiting [] = refl
    seen_waiting (v ∷ vs) = ap (λ (us : List walk.Waiting). waiting_seen fs v ∷ us) (seen_waiting vs)
