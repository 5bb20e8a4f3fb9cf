-- What each step of writing keeps is kept by each use of an expression of any form: a lemma for each way of writing, one for each form, and one recursion.
use Rattle.std.proofs.Common.{ℕ, Bool, true, false, List, [], ◌∷◌, ◌++◌, Option, Some, None}
use Rattle.std.specs.Prelude.{drop, if◌then◌else◌, length, reverse}
use Rattle.life_types.specs.declared.place.Place.{Place}
use Rattle.life_types.specs.declared.ty.Ty.{Ty}
use Rattle.life_typed.specs.declared.typed_expr.Category.{Category}
use Rattle.life_typed.specs.declared.typed_expr.Category.TheVariants as category
use Rattle.life_core.specs.Operands.{Operand}
use Rattle.life_core.specs.Step.{Step, End, Test}
use Rattle.life_core.specs.Tree.{Tree, Acts}
use Rattle.life_core.specs.declared.instr.Form.{Form}
use Rattle.life_core.specs.declared.program.Local.{Local}
use Rattle.life_core.specs.declared.program.LocalKind.{LocalKind}
use Rattle.life_writer.specs.Building.{Destination, Last, Fill, Saved, built}
use Rattle.life_writer.specs.Conditions.{by_branch, end_tested, tested}
use Rattle.life_writer.specs.Pointers.{Pointing, As, By, located}
use Rattle.life_writer.specs.Registers.{computed, load, new_register, typed_with, wanted, with_local}
use Rattle.life_writer.specs.Temporaries.{consumed, new_nameless, scoped, temporary, with_scope}
use Rattle.life_writer.specs.Uses.{Act, Remaining, Uses, lived}
use Rattle.life_writer.specs.Values as values
use Rattle.life_writer.specs.Variables.{end, end_pending}
use Rattle.life_writer.specs.Writing.{State, Gives, emit, with_code}
use Rattle.life_writer.specs.declared.behind.Behind.{Behind}

-- what is kept from a state to a later one, whatever single step leads there
pub record Steps (Kept : State → State → Type 0) : Type 0 where
  pub stays : (s : State) → Kept s s
  pub goes_on : (s t u : State) → Kept s t → Kept t u → Kept s u
  pub codes : (code : List Tree) (s : State) → Kept s (with_code code s)
  pub locals : (l : Local) (s : State) → Kept s (with_local l s).state
  pub types : (t : Ty) (s : State) → Kept s (typed_with t s)
  pub pends : (xs : List ℕ) (s : State) → Kept s (record s { pending = xs })
  pub scopes : (x : ℕ) (s : State) → Kept s (with_scope x s)

module _ (Kept : State → State → Type 0) (k : Steps Kept) where
  -- ---- what is said of a part

  abbrev pub Does : (State → State) → Type 0
  Does w = (s : State) → Kept s (w s)

  abbrev pub Writes : {A : Type 0} → (State → Gives A) → Type 0
  Writes w = (s : State) → Kept s (w s).state

  abbrev pub WritesIf : {A : Type 0} → Option (State → Gives A) → Type 0
  WritesIf None = Unit {0}
  WritesIf (Some w) = Writes w

  -- .. of what is left to do, and of what is done to an owner
  abbrev pub Finishes : Remaining → Type 0
  Finishes rest = (d : Destination) → Writes d.begins → Writes (rest d)

  abbrev pub DoesTo : Act → Type 0
  DoesTo act = (place : Place) (to : Operand) → Does (act place to)

  abbrev pub WritesRest : (State → Gives Remaining) → Type 0
  WritesRest w = (s : State) → Kept s (w s).state × Finishes (w s).given

  abbrev pub WritesAct : (State → Gives Act) → Type 0
  WritesAct w = (s : State) → Kept s (w s).state × DoesTo (w s).given

  abbrev pub WritesActIf : Option (State → Gives Act) → Type 0
  WritesActIf None = Unit {0}
  WritesActIf (Some w) = WritesAct w

  pub record Keeps (e : Uses) : Type 0 where
    pub made : (behind : Place) (into : Option ℕ) → Writes (e.made behind into)
    pub decision : (b : Behind) → WritesIf (e.decision b)
    pub at : Writes e.at
    pub pointing : Writes e.pointing
    pub object : WritesRest e.object
    pub replacing : WritesActIf e.replacing
    pub call : WritesIf e.call
    pub alone : Does e.alone

  -- ---- single steps

  pub emits : (place : Place) (step : Step) → Does (emit place step)
  emits place step s = k.codes (s.code ++ Acts place step ∷ []) s

  pub new_register_keeps : (place : Place) (t : Ty) → Writes (new_register place t)
  new_register_keeps place t s = k.goes_on _ _ _ (k.types t s) (k.locals _ _)

  pub new_nameless_keeps : (kind : LocalKind) (place : Place) (t : Ty) → Writes (new_nameless kind place t)
  new_nameless_keeps kind place t s = k.goes_on _ _ _ (k.types t s) (k.locals _ _)

  pub wanted_keeps : (place : Place) (into : Option ℕ) (t : Ty) → Writes (wanted place into t).begins
  wanted_keeps place (Some r) t s = k.stays s
  wanted_keeps place None t s = new_register_keeps place t s

  pub consumed_keeps : (place : Place) (t : Ty) → Writes (consumed place t).begins
  consumed_keeps place t s = new_nameless_keeps _ place t s

  pub temporary_keeps : (place : Place) (t : Ty) → Writes (temporary place t).begins
  temporary_keeps place t s = k.goes_on _ _ _ (new_nameless_keeps _ place t s) (k.pends _ _)

  pub scoped_keeps : (place : Place) (t : Ty) → Writes (scoped place t).begins
  scoped_keeps place t s = k.goes_on _ _ _ (new_nameless_keeps _ place t s) (k.scopes _ _)

  -- ---- what is built

  pub built_keeps : (last : Last) (d : Destination) → Writes d.begins → Writes (built last d)
  built_keeps (Fill place step) d begins s = k.goes_on _ _ _ (begins s) (emits place _ _)
  built_keeps (Saved r) d begins s = k.goes_on _ _ _ (begins s) (k.goes_on _ _ _ (emits d.place _ _) (emits d.place _ _))

  pub computed_keeps : (into : Option ℕ) (t : Ty) (place : Place) (step : ℕ → Step) → Writes (computed into t place step)
  computed_keeps into t place step s = built_keeps (Fill place (λ l. step l.local)) (wanted place into t) (wanted_keeps place into t) s

  pub lived_keeps : (form : Form) (act : Act) → DoesTo act → Finishes (lived form act)
  lived_keeps form act does d begins s = k.goes_on _ _ _ (begins s) (k.goes_on _ _ _ (emits d.place _ _) (does d.place _ _))

  pub located_keeps : (place : Place) (t : Ty) (p : Pointing) → Writes (located place t p)
  located_keeps place t (By step) s = built_keeps (Fill place step) (wanted place None t) (wanted_keeps place None t) s
  located_keeps place t (As q) s = k.stays s

  -- ---- what ends

  pub end_keeps : (xs : List ℕ) (place : Place) → Does (end xs place)
  end_keeps [] place s = k.stays s
  end_keeps (x ∷ xs) place s = emits place (End (x ∷ xs)) s

  pub end_pending_keeps : (n : ℕ) (place : Place) → Does (end_pending n place)
  end_pending_keeps n place s = k.goes_on _ _ _ (end_keeps (reverse (drop n s.pending)) place s) (k.pends _ _)

  pub end_tested_keeps : (n : ℕ) (ends : Option Place) → Does (end_tested n ends)
  end_tested_keeps n None s = k.stays s
  end_tested_keeps n (Some place) s = end_pending_keeps n place s

  -- ---- conditions and values

  pub tested_keeps : (place : Place) (ends : Option Place) (asks : State → Gives Test) → Writes asks → Writes (tested place ends asks)
  tested_keeps place ends asks writes s =
      k.goes_on _ _ _ (k.codes [] s)
      (k.goes_on _ _ _ (writes (with_code [] s)) (k.goes_on _ _ _ (end_tested_keeps (length s.pending) ends _) (k.codes s.code _)))

  pub by_branch_keeps : (into : Option ℕ) (t : Ty) (place : Place) (condition : State → Gives Tree) → Writes condition → Writes (by_branch into t place condition)
  by_branch_keeps into t place condition writes s =
      k.goes_on _ _ _ (writes s) (k.goes_on _ _ _ (wanted_keeps place into t _) (k.codes _ _))

  -- one of two
  pub if_keeps : {A : Type 0} (b : Bool) (x y : Gives A) (s : State) → Kept s x.state → Kept s y.state → Kept s (if b then x else y).state
  if_keeps true x y s first second = first
  if_keeps false x y s first second = second

  pub read_keeps : (t : Ty) (place : Place) (c : Category) (at : State → Gives Operand) (made : Option ℕ → State → Gives ℕ)
      → Writes at → ((into : Option ℕ) → Writes (made into)) → (into : Option ℕ) → Writes (values.read_or_made t place c at made into)
  read_keeps t place category.Value at made writes makes into s = makes into s
  read_keeps t place (category.Place id constant) at made writes makes into s = k.goes_on _ _ _ (writes s) (computed_keeps into t place (load (at s).given) _)

  pub value_from_keeps : (t : Ty) (place : Place) (c : Category) (decision : Option (State → Gives Tree)) (at : State → Gives Operand) (made : Option ℕ → State → Gives ℕ)
      → WritesIf decision → Writes at → ((into : Option ℕ) → Writes (made into)) → (into : Option ℕ) → Writes (values.value_from t place c decision at made into)
  value_from_keeps t place c (Some decision) at made decides writes makes into s = by_branch_keeps into t place decision decides s
  value_from_keeps t place c None at made decides writes makes into s = read_keeps t place c at made writes makes into s
