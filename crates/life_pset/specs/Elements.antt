-- The locations and the elements of a function, in the order of their numbers.
use Rattle.std.specs.Prelude.{ℕ, ◌+◌, ◌<◌, ◌≤◌, ◌^◌, Bool, true, false, if◌then◌else◌, min, nat_eq, nat_lt, List, [], ◌∷◌, ◌++◌, Option, Some, None, length, map, slice_get}
use Rattle.std.specs.List.{flat_map}
use Rattle.life_types.specs.Pointees.{ty_of}
use Rattle.life_types.specs.Trees.{TypeTree, Text, View, Vector, Unique, Raw, Reference, Iterator, Span, Member, tree_at}
use Rattle.life_types.specs.TypeTests.{is_pointer}
use Rattle.life_types.specs.Types.{Types}
use Rattle.life_types.specs.declared.place.Place.{Place}
use Rattle.life_types.specs.declared.ty.NameId.{NameId}
use Rattle.life_types.specs.declared.ty.TyId.{TyId}
use Rattle.life_core.specs.declared.program.Local.{Local}
use Rattle.life_core.specs.declared.program.LocalKind.{LocalKind}
use Rattle.life_core.specs.declared.program.LocalKind.TheVariants.{Object, Register, Range}
use Rattle.life_core.specs.Function.{Function}
use Rattle.life_core.specs.Linked.{Linked, code_of, points_of}
use Rattle.life_core.specs.Operands as operand
use Rattle.life_core.specs.Operands.{Operand}
use Rattle.life_core.specs.Step.{Step, Live, End, Copy, Move, Changes, Make, Call}
use Rattle.life_core.specs.Tree.{Node, Action, Question, Return, Stop}
use Rattle.life_pset.specs.Places.{path, root_place, member_place, owned_place}
use Rattle.life_pset.specs.Shapes.{is_variable, members_type, shape, target_type, tree_if, ty_if}
use Rattle.life_pset.specs.declared.element.AbsPlace.{AbsPlace}
use Rattle.life_pset.specs.declared.element.Cause.{Cause}
use Rattle.life_pset.specs.declared.element.CauseKind.{CauseKind}
use Rattle.life_pset.specs.declared.element.CauseKind.TheVariants as cause
use Rattle.life_pset.specs.declared.element.Element.{Element}
use Rattle.life_pset.specs.declared.element.Element.TheVariants as element
use Rattle.life_pset.specs.declared.element.Root.{Root}
use Rattle.life_pset.specs.declared.element.Root.TheVariants as root

-- the place of a whole local
abbrev pub local_place : ℕ → AbsPlace
local_place x = root_place (root.Local x)

-- ---- locations

abbrev mutual
  -- the pointers and unique_ptrs of an object at a place, depth first
  pub pointers_in : AbsPlace → TypeTree → List AbsPlace
  pointers_in at View = at ∷ []
  pointers_in at (Unique target) = at ∷ []
  pointers_in at (Raw target constant) = at ∷ []
  pointers_in at (Reference target constant) = at ∷ []
  pointers_in at (Iterator target constant) = at ∷ []
  pointers_in at (Span target constant) = at ∷ []
  pointers_in at (Member first others) = pointers_in (member_place at 0) first ++ pointers_from at 1 others
  pointers_in at _ = []

  -- .. of its members, from this one on
  pub pointers_from : AbsPlace → ℕ → TypeTree → List AbsPlace
  pointers_from at m (Member first others) = pointers_in (member_place at m) first ++ pointers_from at (m + 1) others
  pointers_from at m _ = []

-- a whole vector or string is a location, and so is each pointer and unique_ptr, through members
abbrev pub locations_in : Types → LocalKind → TyId → AbsPlace → List AbsPlace
locations_in types kind id at = if is_variable kind (ty_of types id) then at ∷ [] else pointers_in at (tree_at types id)

-- the locations of a local with this number, in a function with so many parameters
abbrev pub local_locations : Types → (parameters x : ℕ) → Local → List AbsPlace
local_locations types n x l = locations_in types l.kind (shape types n x l) (local_place x)

-- .. of the locals that are numbered from this number on
abbrev pub locations_from : Types → (parameters x : ℕ) → List Local → List AbsPlace
locations_from types n x [] = []
locations_from types n x (l ∷ ls) = local_locations types n x l ++ locations_from types n (x + 1) ls

abbrev pub locations_of : Types → Function → List AbsPlace
locations_of types f = locations_from types f.parameters 0 f.locals

-- ---- what may be pointed to

abbrev mutual
  -- a place, its members, what it owns, and so on, depth first
  pub places_in : AbsPlace → TypeTree → List AbsPlace
  places_in at Text = at ∷ owned_place at ∷ []
  places_in at (Vector element) = at ∷ places_in (owned_place at) element
  places_in at (Unique target) = at ∷ places_in (owned_place at) target
  places_in at (Member first others) = at ∷ (places_in (member_place at 0) first ++ places_from at 1 others)
  places_in at _ = at ∷ []

  -- .. its members from this one on
  pub places_from : AbsPlace → ℕ → TypeTree → List AbsPlace
  places_from at m (Member first others) = places_in (member_place at m) first ++ places_from at (m + 1) others
  places_from at m _ = []

-- the places of an object
abbrev pub object_places : LocalKind → TypeTree → ℕ → List AbsPlace
object_places Object t x = places_in (local_place x) t
object_places Register t x = []
object_places Range t x = []

abbrev pub objects_from : Types → (parameters x : ℕ) → List Local → List AbsPlace
objects_from types n x [] = []
objects_from types n x (l ∷ ls) = object_places l.kind (tree_at types (shape types n x l)) x ++ objects_from types n (x + 1) ls

-- a pointer that a caller hands over, by itself or as a member of a struct, with its type, and what stands for all that it points to
pub record Input : Type 0 where
  pub pointer : AbsPlace
  pub ty : Option TyId
  pub root : Root

-- the root of a parameter that is a pointer, or of the member with this number among a struct's pointers
abbrev pub input_root : (parameter number : ℕ) → AbsPlace → Root
input_root q k l = root.Input q (if nat_eq l.length 0 then None else Some (min k 255))

abbrev pub input_at : (parameter number : ℕ) → AbsPlace → Option TyId → Input
input_at q k l id = record { pointer = l; ty = id; root = input_root q k l }

abbrev pub input_if : (pointer : Bool) → Input → List Input
input_if true i = i ∷ []
input_if false i = []

abbrev pub number_after : (pointer : Bool) → ℕ → ℕ
number_after true k = k + 1
number_after false k = k

-- the pointers among the locations of a parameter of this type, numbered from this number on
abbrev pub inputs_among : Types → (parameter : ℕ) → TyId → (number : ℕ) → List AbsPlace → List Input
inputs_among types q id k [] = []
inputs_among types q id k (l ∷ ls) =
    let here = members_type types (Some id) (path l) in
    let is = is_pointer (ty_if types here) in
    input_if is (input_at q k l here) ++ inputs_among types q id (number_after is k) ls

abbrev pub local_inputs : Types → (parameters x : ℕ) → Local → List Input
local_inputs types n x l = if nat_lt x n then inputs_among types x (shape types n x l) 0 (local_locations types n x l) else []

abbrev pub inputs_from : Types → (parameters x : ℕ) → List Local → List Input
inputs_from types n x [] = []
inputs_from types n x (l ∷ ls) = local_inputs types n x l ++ inputs_from types n (x + 1) ls

-- the inputs of a function, by parameter and then by member
abbrev pub inputs_of : Types → Function → List Input
inputs_of types f = inputs_from types f.parameters 0 f.locals

abbrev pub input_places : Types → Input → List AbsPlace
input_places types i = places_in (root_place i.root) (tree_if types (target_type types i.ty))

-- ---- causes

-- a pointer came to life at a place without a value
abbrev pub uninitialised : Place → ℕ → Cause
uninitialised place x = record { kind = cause.Uninitialised; place = place; root = x }

-- what has a name is a variable, and else a temporary
abbrev pub end_kind : Option NameId → CauseKind
end_kind None = cause.TemporaryEnded
end_kind (Some name) = cause.Ended

abbrev pub ended_local : Place → ℕ → Local → Cause
ended_local place x l = record { kind = end_kind l.name; place = place; root = x }

-- an object ended at a place
abbrev pub end_if : LocalKind → Cause → List Cause
end_if Object c = c ∷ []
end_if Register c = []
end_if Range c = []

abbrev pub end_causes : Place → ℕ → Option Local → List Cause
end_causes place x None = []
end_causes place x (Some l) = end_if l.kind (ended_local place x l)

-- the causes that the end of a local has: one for an object, none for a register
abbrev pub causes_of_end : Function → Place → ℕ → List Cause
causes_of_end f place x = end_causes place x (slice_get f.locals x)

abbrev pub end_elements : Function → Place → ℕ → List Element
end_elements f place x = map element.Invalid (causes_of_end f place x)

-- a variable was changed, by its name or through a pointer
abbrev pub changed : Place → ℕ → Cause
changed place x = record { kind = cause.Changed; place = place; root = x }

abbrev pub owner_changed : Place → Cause
owner_changed place = record { kind = cause.OwnerChanged; place = place; root = 0 }

abbrev pub changed_in : Place → Operand → Cause
changed_in place (operand.Name l) = changed place l.local
changed_in place (operand.Through p members) = owner_changed place

-- a variable was moved from
abbrev pub moved : Place → ℕ → Cause
moved place y = record { kind = cause.Moved; place = place; root = y }

-- a function was called
abbrev pub called : Place → ℕ → Cause
called place g = record { kind = cause.Called; place = place; root = g }

-- the elements with causes that an instruction may give
abbrev pub step_elements : Function → Place → Step → List Element
step_elements f place (Live x form) = element.Invalid (uninitialised place x) ∷ []
step_elements f place (End xs) = flat_map (end_elements f place) xs
step_elements f place (Copy to from) = element.Invalid (changed_in place to) ∷ []
step_elements f place (Move to y) = element.Invalid (moved place y) ∷ element.Moved (moved place y) ∷ element.Invalid (changed_in place to) ∷ []
step_elements f place (Changes o change) = element.Invalid (changed_in place o) ∷ []
step_elements f place (Make u made) = element.Invalid (changed place u.local) ∷ []
step_elements f place (Call target g xs) = element.Invalid (called place g.0) ∷ []
step_elements f place _ = []

abbrev pub node_elements : Function → Place → Node → List Element
node_elements f place (Action i) = step_elements f place i
node_elements f place (Question t) = []
node_elements f place Return = []
node_elements f place Stop = []

abbrev pub caused_at : Function → Linked → List Element
caused_at f l = node_elements f l.spot.place l.spot.node

abbrev pub caused_elements : Function → List Element
caused_elements f = flat_map (caused_at f) (code_of f)

-- ---- elements

-- null, own and static, the places of the objects, those behind the inputs, and what has a cause, in the order of the points
abbrev pub elements_of : Types → Function → List Element
elements_of types f =
    element.Null ∷ element.Own ∷ element.Static
    ∷ (map element.At (objects_from types f.parameters 0 f.locals) ++ (map element.At (flat_map (input_places types) (inputs_of types f)) ++ caused_elements f))

-- a place of a function has at most eight steps
abbrev pub IsShort : Element → Type 0
IsShort (element.At a) = a.length ≤ 8
IsShort _ = Unit {0}

abbrev pub AreShort : List Element → Type 0
AreShort [] = Unit {0}
AreShort (e ∷ es) = IsShort e × AreShort es

-- the numbers that a function may not pass: 1,024 points, 256 locations, 2,048 elements, eight steps of a place, and locals that 32
-- bits can number
pub record IsWithinLimits (types : Types) (f : Function) : Type 0 where
  pub points : points_of f ≤ 1024
  pub locals : length f.locals < 2 ^ 32
  pub locations : length (locations_of types f) ≤ 256
  pub elements : length (elements_of types f) ≤ 2048
  pub steps : AreShort (elements_of types f)
