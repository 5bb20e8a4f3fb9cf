-- How many locations, places and elements with causes there are, so that a test of the limits needs no list of them.
use Rattle.std.specs.Prelude.{ℕ, ◌+◌, if◌then◌else◌, List, [], ◌∷◌, Option, Some, None, slice_get}
use Rattle.life_types.specs.Pointees.{ty_of}
use Rattle.life_types.specs.Trees.{TypeTree, Text, View, Vector, Unique, Raw, Reference, Iterator, Span, Member, tree_at}
use Rattle.life_types.specs.Types.{Types}
use Rattle.life_types.specs.declared.ty.TyId.{TyId}
use Rattle.life_core.specs.declared.program.Local.{Local}
use Rattle.life_core.specs.declared.program.LocalKind.{LocalKind}
use Rattle.life_core.specs.declared.program.LocalKind.TheVariants.{Object, Register, Range}
use Rattle.life_core.specs.Function.{Function}
use Rattle.life_core.specs.Step.{Step, Live, End, Copy, Move, Changes, Make, Call}
use Rattle.life_core.specs.Tree.{Tree, Skip, Then, Acts, Asks, Both, Either, Negated, Choice, Turns, Breaks, Continues, Returns, Stops}
use Rattle.life_pset.specs.Elements.{Input, local_inputs}
use Rattle.life_pset.specs.Shapes.{is_variable, shape, target_type, tree_if}

-- ---- locations

abbrev mutual
  -- the pointers and unique_ptrs of an object
  pub pointer_count : TypeTree → ℕ
  pointer_count View = 1
  pointer_count (Unique target) = 1
  pointer_count (Raw target constant) = 1
  pointer_count (Reference target constant) = 1
  pointer_count (Iterator target constant) = 1
  pointer_count (Span target constant) = 1
  pointer_count (Member first others) = pointer_count first + member_pointer_count others
  pointer_count _ = 0

  -- .. of its members
  pub member_pointer_count : TypeTree → ℕ
  member_pointer_count (Member first others) = pointer_count first + member_pointer_count others
  member_pointer_count _ = 0

abbrev pub location_count : Types → LocalKind → TyId → ℕ
location_count types kind id = if is_variable kind (ty_of types id) then 1 else pointer_count (tree_at types id)

-- .. of the locals that are numbered from this number on
abbrev pub location_count_from : Types → (parameters x : ℕ) → List Local → ℕ
location_count_from types n x [] = 0
location_count_from types n x (l ∷ ls) = location_count types l.kind (shape types n x l) + location_count_from types n (x + 1) ls

-- ---- what may be pointed to

abbrev mutual
  -- an object, its members, what it owns, and so on
  pub place_count : TypeTree → ℕ
  place_count Text = 2
  place_count (Vector element) = 1 + place_count element
  place_count (Unique target) = 1 + place_count target
  place_count (Member first others) = 1 + (place_count first + member_place_count others)
  place_count _ = 1

  -- .. its members
  pub member_place_count : TypeTree → ℕ
  member_place_count (Member first others) = place_count first + member_place_count others
  member_place_count _ = 0

abbrev pub object_place_count : LocalKind → TypeTree → ℕ
object_place_count Object t = place_count t
object_place_count Register t = 0
object_place_count Range t = 0

abbrev pub object_place_count_from : Types → (parameters x : ℕ) → List Local → ℕ
object_place_count_from types n x [] = 0
object_place_count_from types n x (l ∷ ls) = object_place_count l.kind (tree_at types (shape types n x l)) + object_place_count_from types n (x + 1) ls

-- .. behind pointers that a caller hands over
abbrev pub input_place_count : Types → List Input → ℕ
input_place_count types [] = 0
input_place_count types (i ∷ is) = place_count (tree_if types (target_type types i.ty)) + input_place_count types is

abbrev pub input_place_count_from : Types → (parameters x : ℕ) → List Local → ℕ
input_place_count_from types n x [] = 0
input_place_count_from types n x (l ∷ ls) = input_place_count types (local_inputs types n x l) + input_place_count_from types n (x + 1) ls

-- ---- elements with causes

-- those of the end of a local: one of an object
abbrev pub end_if_count : LocalKind → ℕ
end_if_count Object = 1
end_if_count Register = 0
end_if_count Range = 0

abbrev pub end_count : Option Local → ℕ
end_count None = 0
end_count (Some l) = end_if_count l.kind

abbrev pub ends_count : Function → List ℕ → ℕ
ends_count f [] = 0
ends_count f (x ∷ xs) = end_count (slice_get f.locals x) + ends_count f xs

-- .. of an instruction
abbrev pub step_count : Function → Step → ℕ
step_count f (Live x form) = 1
step_count f (End xs) = ends_count f xs
step_count f (Copy to from) = 1
step_count f (Move to y) = 3
step_count f (Changes o change) = 1
step_count f (Make u made) = 1
step_count f (Call target g xs) = 1
step_count f _ = 0

-- .. of the points of a tree
abbrev pub caused_count : Function → Tree → ℕ
caused_count f Skip = 0
caused_count f (Then a b) = caused_count f a + caused_count f b
caused_count f (Acts place i) = step_count f i
caused_count f (Asks place t) = 0
caused_count f (Both a b) = caused_count f a + caused_count f b
caused_count f (Either a b) = caused_count f a + caused_count f b
caused_count f (Negated a) = caused_count f a
caused_count f (Choice t a b) = caused_count f t + (caused_count f a + caused_count f b)
caused_count f (Turns t a b) = caused_count f t + (caused_count f a + caused_count f b)
caused_count f Breaks = 0
caused_count f Continues = 0
caused_count f (Returns place) = 0
caused_count f (Stops place) = 0
