-- The temporaries that end with the full expression that is being written: objects without names, the last one with the highest number.
use Rattle.std.proofs.Common.{◌≡◌, ℕ, false, List, [], Contains, slice_get, Some, None, subst, sym, ◌≤◌, length, arith}
use Rattle.life_types.specs.TypeTests.{is_pointer}
use Rattle.life_types.specs.declared.ty.Ty.{Ty}
use Rattle.life_core.specs.declared.program.Local.{Local}
use Rattle.life_core.specs.declared.program.LocalKind.TheVariants.{Object}
use Rattle.life_writer.specs.Writing.{State}
use Rattle.life_elab_laws.proofs.Among.{Among, Ascend}
use Rattle.life_elab_laws.proofs.Fronts.{IsFront, front_length}

-- one of them, among these locals, where the table has these types
pub record IsTemporary (low : ℕ) (locals : List Local) (table : List Ty) (y : ℕ) : Type 0 where
  -- it is one of the function's own, which begin there
  pub beyond : low ≤ y
  pub local : Local
  pub there : slice_get locals y ≡ Some local
  pub nameless : local.name ≡ None
  pub kind : local.kind ≡ Object
  pub ty : Ty
  pub typed : slice_get table local.ty.0 ≡ Some ty
  pub plain : is_pointer ty ≡ false

pub temporary_later : (low : ℕ) (locals more : List Local) (table wider : List Ty) (y : ℕ) → IsFront locals more → IsFront table wider → IsTemporary low locals table y → IsTemporary low more wider y
temporary_later low locals more table wider y front later is = record {
  beyond = is.beyond;
  local = is.local;
  there = front y is.local is.there;
  nameless = is.nameless;
  kind = is.kind;
  ty = is.ty;
  typed = later is.local.ty.0 is.ty is.typed;
  plain = is.plain;
}

-- all of them; none is a variable
pub record ArePendingIn (low : ℕ) (locals : List Local) (table : List Ty) (living pending : List ℕ) : Type 0 where
  pub past : low ≤ length locals
  pub ascend : Ascend 0 pending
  pub each : (y : ℕ) → Among y pending → IsTemporary low locals table y
  pub beside : (y : ℕ) → Among y pending → Contains living y → ⊥

abbrev pub ArePending : ℕ → State → Type 0
ArePending low s = ArePendingIn low s.locals s.types.types s.living s.pending

pub none_pending : (low : ℕ) (locals : List Local) (table : List Ty) (living pending : List ℕ) → low ≤ length locals → pending ≡ [] → ArePendingIn low locals table living pending
none_pending low locals table living pending past none =
    subst (ArePendingIn low locals table living) (sym none) (record { past = past; ascend = tt; each = λ y m. absurd m; beside = λ y m c. m })

-- where more is written, and nothing more lives
pub pending_later : (low : ℕ) (s s' : State) → IsFront s.locals s'.locals → IsFront s.types.types s'.types.types → s'.living ≡ s.living → s'.pending ≡ s.pending → ArePending low s → ArePending low s'
pending_later low s s' locals table living pending h =
    subst (λ (xs : List ℕ). ArePendingIn low s'.locals s'.types.types xs s'.pending) (sym living)
    (subst (ArePendingIn low s'.locals s'.types.types s.living) (sym pending) (record {
      past = omega (arith, h.past, front_length s.locals s'.locals locals);
      ascend = h.ascend;
      each = λ y m. temporary_later low s.locals s'.locals s.types.types s'.types.types y locals table (h.each y m);
      beside = h.beside;
    }))
