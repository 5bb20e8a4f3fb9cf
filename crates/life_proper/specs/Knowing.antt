-- What is known of the locals where a point is reached.
use Rattle.std.specs.Prelude.{ℕ, Bool, true, false, ◌&&◌, if◌then◌else◌, List, [], ◌∷◌, Option, Some, None, is_none, map, slice_get}
use Rattle.std.specs.Option.{unwrap_or}
use Rattle.life_core.specs.declared.program.Local.{Local}
use Rattle.life_core.specs.declared.program.LocalKind.{LocalKind}
use Rattle.life_core.specs.declared.program.LocalKind.TheVariants.{Object, Register, Range}
use Rattle.life_core.specs.Function.{Function}
use Rattle.life_core.specs.Kinds.{is_register}
use Rattle.life_core.specs.Ready.{entry_ready}
use Rattle.life_proper.specs.declared.known.Known.{Known}
use Rattle.life_proper.specs.declared.known.Known.TheVariants as known

-- of one local, whether it is there; of all, in the order of their numbers
abbrev pub known_as : Bool → Known
known_as true = known.Ready
known_as false = known.Blank

abbrev pub known_at : List Known → ℕ → Known
known_at k x = unwrap_or (slice_get k x) known.Unknown

-- both are known, and the same
abbrev pub same : Known → Known → Bool
same known.Blank known.Blank = true
same known.Ready known.Ready = true
same _ _ = false

-- where two ways meet, what both know
abbrev pub agreed : Known → Known → Known
agreed a b = if same a b then a else known.Unknown

abbrev pub agreed_all : List Known → List Known → List Known
agreed_all (a ∷ more) (b ∷ others) = agreed a b ∷ agreed_all more others
agreed_all _ _ = []

-- what the first knows, the second knows too
abbrev pub is_implied : Known → Known → Bool
is_implied known.Unknown b = true
is_implied a b = same a b

abbrev pub are_implied : List Known → List Known → Bool
are_implied [] others = true
are_implied (a ∷ more) [] = false
are_implied (a ∷ more) (b ∷ others) = is_implied a b && are_implied more others

-- a register without a name holds an intermediate value
abbrev pub is_intermediate : Local → Bool
is_intermediate l = is_register l.kind && is_none l.name

abbrev pub is_blank : Known → Bool
is_blank known.Blank = true
is_blank _ = false

-- what isn't known at the head of a loop of a local without a name: an intermediate value, and a hidden range or iterator that isn't there, since a turn writes it
-- or doesn't. An object is known: a turn that brings it to life ends it
abbrev pub is_lost : LocalKind → Known → Bool
is_lost Object a = false
is_lost Register a = true
is_lost Range a = is_blank a

abbrev pub is_forgotten : Local → Known → Bool
is_forgotten l a = is_none l.name && is_lost l.kind a

abbrev pub forgotten : List Local → List Known → List Known
forgotten (l ∷ ls) (a ∷ more) = (if is_forgotten l a then known.Unknown else a) ∷ forgotten ls more
forgotten _ more = more

-- at the entry of a function
abbrev pub entry_known : Function → List Known
entry_known f = map known_as (entry_ready f)

-- ---- ways that may not come to a point

-- what is known there, if some way comes there
abbrev pub State : Type 0
State = Option (List Known)

abbrev pub met : State → State → State
met None t = t
met (Some k) None = Some k
met (Some k) (Some j) = Some (agreed_all k j)

-- what is known at the head of a loop is known on the way back
abbrev pub comes_back : (head back : State) → Bool
comes_back head None = true
comes_back None (Some j) = false
comes_back (Some k) (Some j) = are_implied k j

abbrev pub at_head : List Local → State → State
at_head ls None = None
at_head ls (Some k) = Some (forgotten ls k)
