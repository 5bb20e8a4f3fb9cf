-- A step that is done at once, or that leaves all as it was.
use Rattle.std.proofs.Common.{◌≡◌, ℕ, Bool, true, false, List, ap, refl, subst, sym, ◌∙◌, arith}
use Rattle.std.specs.declared.alloc.Global.{Global}
use Rattle.std.specs.declared.vec.Vec.{Vec}
use Rattle.life_types.specs.Types.{Types}
use Rattle.life_core.specs.Function.{Function}
use Rattle.life_core.specs.Step.{Step}
use Rattle.life_store.specs.Content.{Content}
use Rattle.life_store.specs.Doing.{Setting, does}
use Rattle.life_store.specs.References.{Rows}
use Rattle.life_cells.specs.Fits.{meant, CellsFit, IsFit}
use Rattle.life_cells.specs.declared.cell.Cell.{Cell}
use Rattle.life_cells.proofs.FitLemmas.{later_kept, other_cells}
use Rattle.life_cells.proofs.LocationLemmas.{keeps_itself}
use Rattle.life_interp.specs.Quick.{Attempts, DoesTo, Whether}
use Rattle.life_interp.specs.Steps.{IsSet}

-- what holds where something was done, and where it was not

pub whether_as : (b : Bool) (P Q left : Type 0) → (P → Q) → Whether b P left → Whether b Q left
whether_as true P Q left go h = go h
whether_as false P Q left go h = h

pub left_as : (b : Bool) (P left more : Type 0) → (left → more) → Whether b P left → Whether b P more
left_as true P left more go h = h
left_as false P left more go h = go h

abbrev pub WhereLeft : Bool → Type 0 → Type 0
WhereLeft true left = Unit {0}
WhereLeft false left = left

pub left_so : (b : Bool) (P left : Type 0) → Whether b P left → WhereLeft b left
left_so true P left h = tt
left_so false P left h = h

-- the store is as it was, and so is what it stands for
pub left_meant : (types : Types) (c d : Content) (rows new : Rows) → d ≡ c → new ≡ rows → meant types d new ≡ meant types c rows
left_meant types c d rows new content rows_are = ap (λ (x : Content). meant types x new) content ∙ ap (λ (x : Rows). meant types c x) rows_are

-- nothing was done
pub nothing_done : (types : Types) (f : Function) (limit : ℕ) (stand : List (List ℕ)) (i : Step) (c : Content) (rows : Rows) (cells : Vec Cell Global) → IsFit types c rows cells.items → Attempts types f limit stand i c c rows rows cells cells false
nothing_done types f limit stand i c rows cells fits = record {
  step = λ s set. record { content = refl; rows = refl; cells = refl };
  fits = fits;
  later = later_kept c c rows rows (keeps_itself c rows);
  grows = record { births = omega arith; clock = omega arith };
}

-- cells alone were changed
pub cells_done : (types : Types) (f : Function) (limit : ℕ) (stand : List (List ℕ)) (i : Step) (c : Content) (rows : Rows) (cells new : Vec Cell Global) → IsFit types c rows cells.items → CellsFit c rows new.items
    → ((s : Setting) → IsSet s limit stand → DoesTo (does s types f i) (meant types c rows) cells.items (meant types c rows) new.items) → Attempts types f limit stand i c c rows rows cells new true
cells_done types f limit stand i c rows cells new fits held did = record {
  step = did;
  fits = other_cells types c rows cells.items new.items fits held;
  later = later_kept c c rows rows (keeps_itself c rows);
  grows = record { births = omega arith; clock = omega arith };
}

-- all was left as it was
pub left_attempt : (types : Types) (f : Function) (limit : ℕ) (stand : List (List ℕ)) (i : Step) (c d : Content) (rows after : Rows) (cells new : Vec Cell Global) → IsFit types c rows cells.items → d ≡ c → after ≡ rows → new ≡ cells
    → Attempts types f limit stand i c d rows after cells new false
left_attempt types f limit stand i c d rows after cells new fits content rows_are cells_are =
    subst (λ (v : Vec Cell Global). Attempts types f limit stand i c d rows after cells v false) (sym cells_are)
    (subst (λ (x : Rows). Attempts types f limit stand i c d rows x cells cells false) (sym rows_are)
    (subst (λ (x : Content). Attempts types f limit stand i c x rows rows cells cells false) (sym content) (nothing_done types f limit stand i c rows cells fits)))
