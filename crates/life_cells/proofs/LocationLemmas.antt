-- Locations that are read and written.
use Rattle.std.proofs.Common.{◌≡◌, ◌≢◌, ℕ, true, false, List, [], ◌∷◌, Option, Some, None, refl, sym, ap, ◌∙◌}
use Rattle.std.proofs.lemmas.List.{map-set}
use Rattle.std.proofs.lemmas.Option.{none-some}
use Rattle.std.specs.Prelude.{ℤ, slice_set}
use Rattle.life_types.specs.Types.{Types}
use Rattle.life_core.specs.Function.{Function}
use Rattle.life_store.specs.Content.{Content, Object}
use Rattle.life_store.specs.Effects.{Next, Strays, put_cell, put_content}
use Rattle.life_store.specs.Held as words
use Rattle.life_store.specs.Parts.{local_type, word_within}
use Rattle.life_store.specs.Places.{member_cell, member_pointed}
use Rattle.life_store.specs.State as state
use Rattle.life_store.specs.State.{State}
use Rattle.life_cells.specs.Cells.{cell_seen, cells_seen, object_in, pointer_in, state_of}
use Rattle.life_cells.specs.Fits.{Keeps}
use Rattle.life_store.specs.References.{Rows}
use Rattle.life_cells.specs.Typed.{is_nil}
use Rattle.life_cells.specs.declared.cell.Cell.{Cell}

-- a cell that is written
pub put_now : (c : Content) (cells new : List Cell) (x : ℕ) (v : Cell) (output : List ℕ) (input : List ℤ) → new ≡ slice_set cells x v
    → put_cell x (cell_seen v) (state_of c cells output input) ≡ state_of c new output input
put_now c cells new x v output input e =
    let with_cells : List state.Cell → State = λ cs. record { world = record { content = c; output = output; input = input }; cells = cs } in
    ap with_cells (sym (map-set cell_seen cells x v) ∙ ap cells_seen (sym e))

-- ---- whether a location is a local itself

true_false : true ≡ false → ⊥
true_false e = cc

pub nil : (ms : List ℕ) → is_nil ms ≡ true → ms ≡ []
nil [] e = refl
nil (m ∷ ms) e = absurd (true_false (sym e))

pub no_nil : (ms : List ℕ) → is_nil ms ≡ false → ms ≢ []
no_nil ms e h = true_false (sym (ap is_nil h) ∙ e)

-- ---- members

module _ (types : Types) (f : Function) (x : ℕ) (c : Content) where
  pub member_there : (ms : List ℕ) (n : ℕ) → ms ≢ [] → member_cell types f x ms (Some (state.Named n)) c ≡ Some (state.Points (words.pointer_in (words.words_at c n 0 (word_within types (local_type types f x) ms) 5)))
  member_there [] n ne = absurd (ne refl)
  member_there (m ∷ ms) n ne = refl

  pub no_member : (ms : List ℕ) (v : Option state.Cell) → ms ≢ [] → None ≡ object_in v → None ≡ pointer_in (member_cell types f x ms v c)
  no_member [] v ne e = absurd (ne refl)
  no_member (m ∷ ms) None ne e = refl
  no_member (m ∷ ms) (Some state.Empty) ne e = refl
  no_member (m ∷ ms) (Some (state.Named n)) ne e = absurd (none-some n e)
  no_member (m ∷ ms) (Some (state.Number z)) ne e = refl
  no_member (m ∷ ms) (Some (state.Points p)) ne e = refl

module _ (types : Types) (f : Function) (x : ℕ) (p : state.Pointer) (st : State) where
  pub member_written : (ms : List ℕ) (n : ℕ) → ms ≢ []
      → member_pointed types f x ms (Some (state.Named n)) p st ≡ Next (put_content (words.wrote n 0 (word_within types (local_type types f x) ms) (words.pointer_words p) st.world.content) st)
  member_written [] n ne = absurd (ne refl)
  member_written (m ∷ ms) n ne = refl

  pub none_written : (ms : List ℕ) (v : Option state.Cell) → ms ≢ [] → None ≡ object_in v → member_pointed types f x ms v p st ≡ Strays
  none_written [] v ne e = absurd (ne refl)
  none_written (m ∷ ms) None ne e = refl
  none_written (m ∷ ms) (Some state.Empty) ne e = refl
  none_written (m ∷ ms) (Some (state.Named n)) ne e = absurd (none-some n e)
  none_written (m ∷ ms) (Some (state.Number z)) ne e = refl
  none_written (m ∷ ms) (Some (state.Points q)) ne e = refl

-- ---- what writing leaves

pub wrote_births : (n i w : ℕ) (vs : List ℕ) (m : Content) (x : Option Object) → (words.wrote_if x n i w vs m).births ≡ m.births
wrote_births n i w vs m None = refl
wrote_births n i w vs m (Some o) = refl

pub wrote_clock : (n i w : ℕ) (vs : List ℕ) (m : Content) (x : Option Object) → (words.wrote_if x n i w vs m).clock ≡ m.clock
wrote_clock n i w vs m None = refl
wrote_clock n i w vs m (Some o) = refl

pub keeps_itself : (c : Content) (rows : Rows) → Keeps c c rows rows
keeps_itself c rows = record { rows = λ i. rows; births = λ i. c.births; clock = λ i. c.clock }
