-- How an object is copied with all that it owns: a new one with the same words, of which each that owns gets a copy of what it named.
use Rattle.std.specs.Prelude.{◌≡◌, ◌<◌, ◌≤◌, ◌+◌, ℕ, zero, suc, List, [], ◌∷◌, Option, Some, None, Result, Ok, Err, length, slice_get}
use Rattle.life_types.specs.declared.ty.TyId.{TyId}
use Rattle.life_store.specs.Cells.{at}
use Rattle.life_store.specs.Content.{Object, Content}
use Rattle.life_store.specs.Effects.{Setting, Attempt, Got, GotTrap, GotFault, GotLost, then_get}
use Rattle.life_store.specs.Held.{owner_word, words_at, wrote}
use Rattle.life_store.specs.Kinds.{Owner}
use Rattle.life_store.specs.Owners.{sized_birth}
use Rattle.life_store.specs.References.{Rows}
use Rattle.life_store.specs.declared.object.BirthFault.{BirthFault}
use Rattle.life_store.specs.declared.object.BirthFault.TheVariants as birth_fault
use Rattle.life_store.specs.declared.object.ObjRef.{ObjRef}
use Rattle.life_store.specs.declared.run.FaultKind.TheVariants as fault
use Rattle.life_store.specs.declared.run.TrapKind.TheVariants as trap
use Rattle.life_forest.specs.Kinds.{Kinds}
use Rattle.life_seen.specs.Housed.{IsHoused, Shows}
use Rattle.life_seen.specs.Kinds.{Kinds as Seen}
use Rattle.life_seen.specs.Seen.{seen}
use Rattle.life_values.specs.Good.{AreGood}
use Rattle.life_values.specs.Taken.{owned_if}
use Rattle.life_values.specs.declared.copying.CopyFault.{CopyFault}
use Rattle.life_values.specs.declared.copying.CopyFault.TheVariants as copy_fault

-- a word gets a copy of what it names
abbrev pub recopied : (ℕ → Content → Attempt (ℕ × Content)) → Option ℕ → (n slot word : ℕ) → Content → Attempt Content
recopied copy None n i w c = GotFault fault.Moved
recopied copy (Some m) n i w c = then_get (copy m c) (λ b. Got (wrote n i w (owner_word (Some b.0) ∷ []) b.1))

-- .. and so do these words
abbrev pub recopied_each : (ℕ → Content → Attempt (ℕ × Content)) → (n slot : ℕ) → List ℕ → Content → Attempt Content
recopied_each copy n i [] c = Got c
recopied_each copy n i (u ∷ us) c = then_get (recopied copy (owned_if (at c.objects n) i u) n i u c) (recopied_each copy n i us)

-- the slots of an object, from one on, so many: their words, and then copies of what these own
abbrev pub slots_copied : (ℕ → Content → Attempt (ℕ × Content)) → List ℕ → (width from to slot count : ℕ) → Content → Attempt Content
slots_copied copy owners w n m i zero c = Got c
slots_copied copy owners w n m i (suc k) c = then_get (recopied_each copy m i owners (wrote m i 0 (words_at c n i 0 w) c)) (slots_copied copy owners w n m (i + 1) k)

abbrev pub copied_object : Setting → List ℕ → (ℕ → Content → Attempt (ℕ × Content)) → ℕ → Object → Content → Attempt (ℕ × Content)
copied_object s owners copy n o c =
    then_get (sized_birth s o.ty o.width (length o.slots) c) (λ b. then_get (slots_copied copy owners o.width n b.0 0 (length o.slots) b.1) (λ d. Got (b.0, d)))

abbrev pub copied_if : Setting → (TyId → List ℕ) → (ℕ → Content → Attempt (ℕ × Content)) → ℕ → Option Object → Content → Attempt (ℕ × Content)
copied_if s owners copy n None c = GotLost
copied_if s owners copy n (Some o) c = copied_object s (owners o.ty) copy n o c

-- so many steps of owning deep
abbrev pub copied_number : Setting → (TyId → List ℕ) → (depth : ℕ) → ℕ → Content → Attempt (ℕ × Content)
copied_number s owners zero n c = GotLost
copied_number s owners (suc depth) n c = copied_if s owners (copied_number s owners depth) n (at c.objects n) c

-- ---- in a store

-- so many steps of owning are enough for the object
pub record CanCopy (kinds : Seen) (kind : Kinds) (limit depth : ℕ) (r : ObjRef) (c : Content) (rows : Rows) : Type 0 where
  pub housed : IsHoused kinds c rows
  pub placed : at rows r.birth ≡ Some r.row
  pub good : AreGood kind limit (seen kinds c rows)
  pub deep : (o : Object) → at (seen kinds c rows).objects r.birth ≡ Some o → kind.rank o.ty < depth

-- .. for what these words of its slot own
pub record CanRecopy (kinds : Seen) (kind : Kinds) (limit depth : ℕ) (r : ObjRef) (i : ℕ) (owners : List ℕ) (c : Content) (rows : Rows) : Type 0 where
  pub housed : IsHoused kinds c rows
  pub placed : at rows r.birth ≡ Some r.row
  pub good : AreGood kind limit (seen kinds c rows)
  pub object : Object
  pub there : at (seen kinds c rows).objects r.birth ≡ Some object
  pub slot : i < length object.slots
  pub own : (j u : ℕ) → slice_get owners j ≡ Some u → (kinds object.ty u ≡ Owner) × (u < object.width)
  pub deep : kind.rank object.ty ≤ depth

-- all slots of an object go into those of another of its type, with copies of what these words own
pub record CanCopySlots (kinds : Seen) (kind : Kinds) (limit depth : ℕ) (from to : ObjRef) (size w : ℕ) (owners : List ℕ) (c : Content) (rows : Rows) : Type 0 where
  pub housed : IsHoused kinds c rows
  pub from_placed : at rows from.birth ≡ Some from.row
  pub to_placed : at rows to.birth ≡ Some to.row
  pub apart : from.birth ≡ to.birth → ⊥
  pub good : AreGood kind limit (seen kinds c rows)
  pub source : Object
  pub source_there : at (seen kinds c rows).objects from.birth ≡ Some source
  pub target : Object
  pub target_there : at (seen kinds c rows).objects to.birth ≡ Some target
  pub alike : source.ty ≡ target.ty
  pub source_width : source.width ≡ w
  pub target_width : target.width ≡ w
  pub source_size : length source.slots ≡ size
  pub target_size : length target.slots ≡ size
  pub own : (j u : ℕ) → slice_get owners j ≡ Some u → (kinds source.ty u ≡ Owner) × (u < w)
  pub deep : kind.rank source.ty ≤ depth

abbrev pub copy_fault_of : BirthFault → CopyFault
copy_fault_of birth_fault.Cells = copy_fault.Cells
copy_fault_of birth_fault.NoMemory = copy_fault.NoMemory

-- the store shows what the meaning got, or why it got nothing
abbrev pub ComesCopied : {A : Type 0} → Seen → Attempt Content → Result A CopyFault → Content → Rows → Type 0
ComesCopied kinds meant (Ok done) c rows = (m : Content) × (meant ≡ Got m) × Shows kinds c rows m
ComesCopied kinds meant (Err copy_fault.Moved) c rows = meant ≡ GotFault fault.Moved
ComesCopied kinds meant (Err copy_fault.Cells) c rows = meant ≡ GotTrap trap.Cells
ComesCopied kinds meant (Err copy_fault.NoMemory) c rows = Unit {0}

-- .. and the new object
abbrev pub Copies : Seen → Attempt (ℕ × Content) → Result ObjRef CopyFault → Content → Rows → Type 0
Copies kinds meant (Ok r) c rows = (m : Content) × (meant ≡ Got (r.birth, m)) × Shows kinds c rows m × (at rows r.birth ≡ Some r.row)
Copies kinds meant (Err copy_fault.Moved) c rows = meant ≡ GotFault fault.Moved
Copies kinds meant (Err copy_fault.Cells) c rows = meant ≡ GotTrap trap.Cells
Copies kinds meant (Err copy_fault.NoMemory) c rows = Unit {0}
