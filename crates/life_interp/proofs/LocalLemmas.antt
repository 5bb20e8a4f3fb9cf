-- Locals come to life and end as the meaning says.
use Rattle.std.proofs.Common.{◌≡◌, ℕ, suc, ◌+◌, ◌<◌, List, Some, None, Result, Ok, Err, cond, sym, ap, subst, ◌∙◌, arith, ⊎_elim}
use Rattle.std.proofs.lemmas.Bool.{lt-ltb}
use Rattle.std.proofs.lemmas.Bool.Decides.{leb_tells}
use Rattle.std.specs.Prelude.{ℤ, slice_get, slice_set, option_map}
use Rattle.life_types.specs.Types.{Types}
use Rattle.life_types.specs.declared.ty.TyId.{TyId}
use Rattle.life_core.specs.declared.instr.Form.{Form}
use Rattle.life_core.specs.declared.program.Local.{Local}
use Rattle.life_core.specs.Function.{Function}
use Rattle.life_core.specs.Holdings.{Holding, held_by, sort_of}
use Rattle.life_store.specs.Content.{Content, live_words_of}
use Rattle.life_store.specs.Doing.{Setting, live_as, live_over, live_local, Effect, Next, Traps, Strays, put_cell, born_object, end_cell, end_object, with_value_object, on_next, cell}
use Rattle.life_store.specs.Parts.{local_parts}
use Rattle.life_store.specs.References.{Rows, object_of}
use Rattle.life_store.specs.State as state
use Rattle.life_store.specs.State.{State}
use Rattle.life_store.specs.declared.object.ObjRef.{ObjRef}
use Rattle.life_store.specs.declared.run.TrapKind.TheVariants as trap
use Rattle.life_seen.specs.Housed.{IsHoused, IsRef}
use Rattle.life_seen.specs.Kinds.{kinds_of}
use Rattle.life_seen.specs.Named.{names_of}
use Rattle.life_seen.specs.Seen.{object_seen}
use Rattle.life_seen.proofs.LiveWords.{live_words_seen}
use Rattle.life_seen.proofs.References.{seen_by_number}
use Rattle.life_cells.specs.Cells.{cells_seen, state_of}
use Rattle.life_cells.specs.Fits.{meant}
use Rattle.life_interp.specs.Steps.{BirthFails, Leaves, TellsEnd}
use Rattle.life_interp.specs.declared.ending.Ending.{Ending}
use Rattle.life_interp.specs.declared.ending.Ending.TheVariants as ending
use Rattle.life_cells.specs.declared.cell.Cell.{Cell}
use Rattle.life_cells.specs.declared.cell.Cell.TheVariants as held
use Rattle.life_cells.proofs.LocationLemmas.{put_now}

pub ok_err : {A B : Type 0} (a : A) (b : B) → ◌≡◌ {A = Result A B} (Ok a) (Err b) → ⊥
ok_err a b e = cc

-- ---- births

pub born_step : (s : Setting) (ty : TyId) (x : ℕ) (c e : Content) (cells new : List Cell) (r : ObjRef) (output : List ℕ) (input : List ℤ) → (s.given.cells < live_words_of c + 3 → ⊥) → r.birth ≡ c.births → e ≡ with_value_object ty c
    → new ≡ slice_set cells x (held.Object r) → born_object s ty x (state_of c cells output input) ≡ Next (state_of e new output input)
born_step s ty x c e cells new r output input within number is put =
    ⊎_elim (λ t. absurd (within t.1)) (λ t. ap (λ b. cond b (Traps trap.Cells) (Next (put_cell x (state.Named c.births) (state_of (with_value_object ty c) cells output input)))) t.0) (leb_tells (suc s.given.cells) (live_words_of c + 3))
    ∙ ap (λ (d : Content). Next (put_cell x (state.Named c.births) (state_of d cells output input))) (sym is)
    ∙ ap (λ n. Next (put_cell x (state.Named n) (state_of e cells output input))) (sym number)
    ∙ ap Next (put_now e cells new x (held.Object r) output input put)

-- no object is born where the limit would be passed
pub birth_fails : (s : Setting) (ty : TyId) (x : ℕ) (c : Content) (types : Types) (rows : Rows) (cells : List Cell) (limit : ℕ) (e : Ending) (output : List ℕ) (input : List ℤ) → BirthFails limit c e → s.given.cells ≡ limit
    → TellsEnd (born_object s ty x (state_of (meant types c rows) cells output input)) e
birth_fails s ty x c types rows cells limit (ending.Trap kind) output input full is =
    let m = meant types c rows in
    let live = live_words_seen (kinds_of types) (names_of c rows) c in
    ap (λ b. cond b (Traps trap.Cells) (Next (put_cell x (state.Named m.births) (state_of (with_value_object ty m) cells output input)))) (lt-ltb s.given.cells (live_words_of m + 3) (omega (arith, full.1, live, is)))
    ∙ ap Traps (sym full.0)
birth_fails s ty x c types rows cells limit (ending.Fault kind) output input full is = absurd full
birth_fails s ty x c types rows cells limit ending.Stray output input full is = absurd full
birth_fails s ty x c types rows cells limit ending.NoMemory output input full is = tt
birth_fails s ty x c types rows cells limit ending.WriteFault output input full is = full

-- ---- which local comes to life

-- what comes to life where nothing is alive
pub live_is : (s : Setting) (types : Types) (f : Function) (x : ℕ) (l : Local) (k : Holding) (form : Form) (st : State) → slice_get f.locals x ≡ Some l → cell st x ≡ Some state.Empty → k ≡ held_by types (Some l)
    → live_local s types f (slice_get f.locals x) form x st ≡ live_as s types k l.ty form x st
live_is s types f x l k form st there empty sort =
    ap (λ o. live_local s types f o form x st) there
    ∙ ap (λ c. live_over s types c (sort_of types f x) l.ty form x st) empty
    ∙ ap (λ o. live_as s types (held_by types o) l.ty form x st) there
    ∙ ap (λ h. live_as s types h l.ty form x st) (sym sort)

pub none_strays : (s : Setting) (types : Types) (f : Function) (x : ℕ) (form : Form) (st : State) → slice_get f.locals x ≡ None → live_local s types f (slice_get f.locals x) form x st ≡ Strays
none_strays s types f x form st gone = ap (λ q. live_local s types f q form x st) gone

-- what holds of a step holds of one that is it
pub leaves_as : {A : Type 0} (effect other : List ℕ → List ℤ → Effect) (next : List ℕ → List ℤ → State) (result : Result A Ending) → ((output : List ℕ) (input : List ℤ) → other output input ≡ effect output input)
    → Leaves effect next result → Leaves other next result
leaves_as effect other next (Ok a) e h = λ output input. e output input ∙ h output input
leaves_as effect other next (Err b) e h = λ output input. subst (λ x. TellsEnd x b) (sym (e output input)) (h output input)

-- ---- ends

-- a local whose object is gone
pub ended_strays : (types : Types) (f : Function) (c : Content) (rows : Rows) (cells : List Cell) (x : ℕ) (r : ObjRef) (output : List ℕ) (input : List ℤ) → IsHoused (kinds_of types) c rows
    → slice_get (cells_seen cells) x ≡ Some (state.Named r.birth) → IsRef c rows r → object_of c rows r ≡ None
    → end_cell (local_parts types f x) (cell (state_of (meant types c rows) cells output input) x) x (state_of (meant types c rows) cells output input) ≡ Strays
ended_strays types f c rows cells x r output input h there ref gone =
    let now = state_of (meant types c rows) cells output input in
    let none = sym (seen_by_number (kinds_of types) c rows h r ref) ∙ ap (option_map (object_seen (kinds_of types) (names_of c rows))) gone in
    ap (λ o. end_cell (local_parts types f x) o x now) there ∙ ap (λ o. end_object (local_parts types f x) o r.birth x now) none

-- one after the other
pub on_next_ends : (e : Effect) (b : Ending) (go : State → Effect) → TellsEnd e b → TellsEnd (on_next e go) b
on_next_ends e (ending.Trap kind) go h = ap (λ x. on_next x go) h
on_next_ends e (ending.Fault kind) go h = ap (λ x. on_next x go) h
on_next_ends e ending.Stray go h = ap (λ x. on_next x go) h
on_next_ends e ending.NoMemory go h = tt
on_next_ends e ending.WriteFault go h = h
