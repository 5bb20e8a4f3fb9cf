-- The function with which a run begins.
use Rattle.std.specs.Prelude.{◌≡◌, ◌&&◌, ℕ, ◌+◌, Bool, true, false, nat_le, List, [], ◌∷◌, Option, None, Some, length, slice_get, take, if◌then◌else◌}
use Rattle.std.specs.List.{list_all}
use Rattle.std.specs.Str.{bytes_eq}
use Rattle.life_types.specs.Types.{Types, class_at}
use Rattle.life_types.specs.declared.ty.Class.{Class}
use Rattle.life_types.specs.declared.ty.Class.TheVariants.{Value, Pointer, Owner, Aggregate}
use Rattle.life_core.specs.Function.{Function, Program}
use Rattle.life_core.specs.declared.program.Local.{Local}
use Rattle.life_core.specs.declared.program.LocalKind.{LocalKind}
use Rattle.life_core.specs.declared.program.LocalKind.TheVariants as kind
use Rattle.life_store.specs.Meaning.{is_told}
use Rattle.life_cli.specs.declared.entry.Entry.{Entry as Found}
use Rattle.life_cli.specs.declared.entry.Entry.TheVariants as found

-- ---- the function of a name

abbrev pub has_text : List ℕ → Option (List ℕ) → Bool
has_text text None = false
has_text text (Some name) = bytes_eq name text

abbrev pub is_named : List (List ℕ) → List ℕ → Function → Bool
is_named names text f = has_text text (slice_get names f.name.0)

-- the number of the first of these functions that has the name, where the first of all has number n
abbrev pub number_from : List (List ℕ) → List ℕ → ℕ → List Function → Option ℕ
number_from names text n [] = None
number_from names text n (f ∷ fs) = if is_named names text f then Some n else number_from names text (n + 1) fs

abbrev pub function_number : Program → List ℕ → Option ℕ
function_number p text = number_from p.names text 0 p.functions

-- ---- whether a run may begin with it

abbrev pub is_value : Class → Bool
is_value Value = true
is_value Pointer = false
is_value Owner = false
is_value Aggregate = false

-- a value that is handed over lies in an object
abbrev pub is_object : LocalKind → Bool
is_object kind.Object = true
is_object kind.Register = false
is_object kind.Range = false

abbrev pub holds_value : Types → Local → Bool
holds_value types l = is_value (class_at types l.ty) && is_object l.kind

abbrev pub takes_values : Types → Function → Bool
takes_values types f = list_all (holds_value types) (take f.parameters f.locals)

-- its result is one that is told, and its parameters are locals that hold values
abbrev pub may_begin : Types → Function → Bool
may_begin types f = (is_told (slice_get types.types f.result.0) && nat_le f.parameters (length f.locals)) && takes_values types f

-- ---- the entry of a name

pub data Entry : Type 0 where
  Absent : Entry
  NotValue : Entry
  Begins : ℕ → Function → Entry

abbrev pub entry_at : Types → ℕ → Option Function → Entry
entry_at types n None = Absent
entry_at types n (Some f) = if may_begin types f then Begins n f else NotValue

abbrev pub entry_numbered : Program → Option ℕ → Entry
entry_numbered p None = Absent
entry_numbered p (Some n) = entry_at p.types n (slice_get p.functions n)

abbrev pub entry_of : Program → List ℕ → Entry
entry_of p text = entry_numbered p (function_number p text)

-- ---- what was found

-- .. is the entry at this function
abbrev pub IsEntryAt : Types → ℕ → Function → Found → Type 0
IsEntryAt types n f found.Absent = ⊥
IsEntryAt types n f found.NotValue = may_begin types f ≡ false
IsEntryAt types n f (found.Begins number parameters) = (may_begin types f ≡ true) × ((number.0 ≡ n) × (parameters ≡ f.parameters))

-- .. is this entry
abbrev pub IsEntry : Program → Entry → Found → Type 0
IsEntry p entry found.Absent = entry ≡ Absent
IsEntry p entry found.NotValue = entry ≡ NotValue
IsEntry p entry (found.Begins number parameters) =
    (f : Function) × ((entry ≡ Begins number.0 f) × ((slice_get p.functions number.0 ≡ Some f) × ((f.parameters ≡ parameters) × (may_begin p.types f ≡ true))))
