-- The types of a function's locals, and of their parts.
use Rattle.std.specs.Prelude.{ℕ, Bool, true, false, ◌&&◌, nat_eq, nat_lt, List, [], ◌∷◌, Option, Some, None, slice_get}
use Rattle.life_types.specs.Pointees.{ty_of}
use Rattle.life_types.specs.Trees.{TypeTree, Void as NoType, members_at, tree_at}
use Rattle.life_types.specs.Types.{Types}
use Rattle.life_types.specs.declared.ty.Ty.{Ty}
use Rattle.life_types.specs.declared.ty.Ty.TheVariants as ty
use Rattle.life_types.specs.declared.ty.TyId.{TyId}
use Rattle.life_core.specs.declared.program.Local.{Local}
use Rattle.life_core.specs.declared.program.LocalKind.{LocalKind}
use Rattle.life_core.specs.declared.program.LocalKind.TheVariants.{Object, Register, Range}
use Rattle.life_core.specs.Function.{Function}
use Rattle.life_core.specs.Operands.{Location, Operand, Name, Through}
use Rattle.life_pset.specs.Places.{path}
use Rattle.life_pset.specs.declared.element.AbsPlace.{AbsPlace}
use Rattle.life_pset.specs.declared.element.Root.{Root}
use Rattle.life_pset.specs.declared.element.Root.TheVariants as root

-- ---- types

abbrev pub ty_if : Types → Option TyId → Ty
ty_if types None = ty.Void
ty_if types (Some id) = ty_of types id

abbrev pub tree_if : Types → Option TyId → TypeTree
tree_if types None = NoType
tree_if types (Some id) = tree_at types id

-- a vector or a string: it owns a buffer
abbrev pub has_buffer : Ty → Bool
has_buffer ty.Text = true
has_buffer (ty.Vector item) = true
has_buffer _ = false

-- ---- parts of types

-- what a pointer points to; a view points to characters, which have no type of their own in a table
abbrev pub target_of : Ty → Option TyId
target_of (ty.Raw target constant) = Some target
target_of (ty.Reference target constant) = Some target
target_of (ty.Iterator target constant) = Some target
target_of (ty.Span target constant) = Some target
target_of _ = None

abbrev pub target_type : Types → Option TyId → Option TyId
target_type types id = target_of (ty_if types id)

abbrev pub member_of : Types → Ty → ℕ → Option TyId
member_of types (ty.Struct number) m = slice_get (members_at types number) m
member_of types _ m = None

abbrev pub member_type : Types → Option TyId → ℕ → Option TyId
member_type types id m = member_of types (ty_if types id) m

-- a member of a member, and so on
abbrev pub members_type : Types → Option TyId → List ℕ → Option TyId
members_type types id [] = id
members_type types id (m ∷ ms) = members_type types (member_type types id m) ms

-- ---- locals

-- a reference without const to an iterator, a span, a view or a unique_ptr stands as what it refers to
abbrev pub referred : (slot target : TyId) → Ty → TyId
referred slot target (ty.Iterator item constant) = target
referred slot target (ty.Span item constant) = target
referred slot target ty.View = target
referred slot target (ty.Unique item) = target
referred slot target _ = slot

abbrev pub unslotted : Types → TyId → Ty → TyId
unslotted types id (ty.Reference target false) = referred id target (ty_of types target)
unslotted types id _ = id

abbrev pub shape_if : Types → (parameter : Bool) → TyId → TyId
shape_if types true id = unslotted types id (ty_of types id)
shape_if types false id = id

-- the type of a local with this number, in a function with so many parameters: a parameter that is a slot stands as a variable
abbrev pub shape : Types → (parameters x : ℕ) → Local → TyId
shape types n x l = shape_if types (nat_lt x n) l.ty

abbrev pub shape_of : Types → (parameters x : ℕ) → Option Local → Option TyId
shape_of types n x None = None
shape_of types n x (Some l) = Some (shape types n x l)

abbrev pub local_type : Types → Function → ℕ → Option TyId
local_type types f x = shape_of types f.parameters x (slice_get f.locals x)

-- an object that is a vector or a string
abbrev pub is_variable : LocalKind → Ty → Bool
is_variable Object t = has_buffer t
is_variable Register t = false
is_variable Range t = false

abbrev pub is_variable_of : Types → (parameters x : ℕ) → Option Local → Bool
is_variable_of types n x None = false
is_variable_of types n x (Some l) = is_variable l.kind (ty_of types (shape types n x l))

-- ---- what instructions name

abbrev pub location_type : Types → Function → Location → Option TyId
location_type types f l = members_type types (local_type types f l.local) l.members

abbrev pub operand_type : Types → Function → Operand → Option TyId
operand_type types f (Name l) = location_type types f l
operand_type types f (Through p members) = members_type types (target_type types (location_type types f p)) members

-- ---- places of the function's locals whose steps are members

abbrev pub rooted_type : Types → Function → Root → Option TyId
rooted_type types f (root.Local x) = local_type types f x
rooted_type types f (root.Input parameter member) = None

abbrev pub place_type : Types → Function → AbsPlace → Option TyId
place_type types f a = members_type types (rooted_type types f a.root) (path a)

-- the place is a whole vector or string
abbrev pub is_variable_root : Types → Function → Root → Bool
is_variable_root types f (root.Local x) = is_variable_of types f.parameters x (slice_get f.locals x)
is_variable_root types f (root.Input parameter member) = false

abbrev pub is_variable_place : Types → Function → AbsPlace → Bool
is_variable_place types f a = nat_eq a.length 0 && is_variable_root types f a.root
