-- How a value of a type lies in the words of a slot: the parts of the type, and where each member begins.
use Rattle.std.specs.Prelude.{ℕ, zero, suc, ◌+◌, false, cond, List, [], ◌∷◌, Option, Some, None, length, slice_get, take, sum_by}
use Rattle.life_types.specs.Trees.{members_at}
use Rattle.life_types.specs.Types.{Types, is_slot_target}
use Rattle.life_types.specs.declared.ty.Ty.{Ty}
use Rattle.life_types.specs.declared.ty.Ty.TheVariants as variant
use Rattle.life_types.specs.declared.ty.TyId.{TyId}
use Rattle.life_core.specs.declared.program.Local.{Local}
use Rattle.life_core.specs.Function.{Function}
use Rattle.life_core.specs.Operands.{Location, Operand, Name, Through}

-- a value; a raw pointer or reference, an iterator, a span or a view; an owner with the number of the type of what it owns; a struct as
-- its first member, and the struct of the members behind it
pub data Parts : Type 0 where
  Single : Parts
  Raw : Parts
  Iterates : Parts
  Views : Parts
  Text : TyId → Parts
  Vector : TyId → (element : Parts) → Parts
  Unique : TyId → (target : Parts) → Parts
  Member : (first others : Parts) → Parts
  NoMember : Parts

-- how many words a value has
abbrev pub width : Parts → ℕ
width Single = 1
width Raw = 5
width Iterates = 5
width Views = 5
width (Text ty) = 1
width (Vector ty element) = 1
width (Unique ty target) = 1
width (Member first others) = width first + width others
width NoMember = 0

-- ---- the parts of a type

abbrev pub struct_of : (TyId → Parts) → List TyId → Parts
struct_of part [] = NoMember
struct_of part (id ∷ ids) = Member (part id) (struct_of part ids)

-- the type of the characters of a string: the first number that the table doesn't have, since it need not have a char
abbrev pub characters_type : Types → TyId
characters_type types = record { 0 = length types.types }

-- a type with the parts of its own parts; what the table doesn't have is like a value
abbrev pub parts_of : Types → (TyId → Parts) → Option Ty → Parts
parts_of types part (Some variant.Text) = Text (characters_type types)
parts_of types part (Some variant.View) = Views
parts_of types part (Some (variant.Vector element)) = Vector element (part element)
parts_of types part (Some (variant.Unique target)) = Unique target (part target)
parts_of types part (Some (variant.Raw target constant)) = Raw
parts_of types part (Some (variant.Reference target constant)) = Raw
parts_of types part (Some (variant.Iterator target constant)) = Iterates
parts_of types part (Some (variant.Span target constant)) = Views
parts_of types part (Some (variant.Struct number)) = struct_of part (members_at types number)
parts_of types part _ = Single

-- .. so many steps deep
abbrev pub parts_within : ℕ → Types → TyId → Parts
parts_within zero types id = Single
parts_within (suc n) types id = parts_of types (parts_within n types) (slice_get types.types id.0)

-- the parts of a type have smaller numbers, so its own number is deep enough
abbrev pub parts_at : Types → TyId → Parts
parts_at types id = parts_within (suc id.0) types id

abbrev pub parts_if : Types → Option TyId → Parts
parts_if types None = Single
parts_if types (Some id) = parts_at types id

-- ---- members

abbrev pub members_if : Types → Option Ty → List TyId
members_if types (Some (variant.Struct number)) = members_at types number
members_if types _ = []

-- the types of the members of a struct
abbrev pub members_of : Types → TyId → List TyId
members_of types id = members_if types (slice_get types.types id.0)

abbrev pub width_at : Types → TyId → ℕ
width_at types id = width (parts_at types id)

-- the type of a member, and the word at which it begins: behind the members before it
abbrev pub type_within : Types → Option TyId → List ℕ → Option TyId
type_within types ty [] = ty
type_within types None (m ∷ ms) = None
type_within types (Some id) (m ∷ ms) = type_within types (slice_get (members_of types id) m) ms

abbrev pub word_within : Types → Option TyId → List ℕ → ℕ
word_within types ty [] = 0
word_within types None (m ∷ ms) = 0
word_within types (Some id) (m ∷ ms) = sum_by (width_at types) (take m (members_of types id)) + word_within types (slice_get (members_of types id) m) ms

-- ---- the types of what instructions name

-- a parameter that is a slot is like a variable of the type to which it refers
abbrev pub variable_type : Types → TyId → Option Ty → TyId
variable_type types id (Some (variant.Reference target false)) = cond (is_slot_target (slice_get types.types target.0)) target id
variable_type types id _ = id

abbrev pub held_type : Types → Local → TyId
held_type types l = variable_type types l.ty (slice_get types.types l.ty.0)

abbrev pub held_type_if : Types → Option Local → Option TyId
held_type_if types None = None
held_type_if types (Some l) = Some (held_type types l)

abbrev pub local_type : Types → Function → ℕ → Option TyId
local_type types f x = held_type_if types (slice_get f.locals x)

abbrev pub location_type : Types → Function → Location → Option TyId
location_type types f l = type_within types (local_type types f l.local) l.members

-- what a pointer of the type points to; the characters of a view have no number
abbrev pub target_in : Option Ty → Option TyId
target_in (Some (variant.Raw target constant)) = Some target
target_in (Some (variant.Reference target constant)) = Some target
target_in (Some (variant.Iterator target constant)) = Some target
target_in (Some (variant.Span target constant)) = Some target
target_in _ = None

abbrev pub target_type : Types → Option TyId → Option TyId
target_type types None = None
target_type types (Some id) = target_in (slice_get types.types id.0)

abbrev pub operand_type : Types → Function → Operand → Option TyId
operand_type types f (Name l) = location_type types f l
operand_type types f (Through p members) = type_within types (target_type types (location_type types f p)) members

abbrev pub local_parts : Types → Function → ℕ → Parts
local_parts types f x = parts_if types (local_type types f x)

abbrev pub location_parts : Types → Function → Location → Parts
location_parts types f l = parts_if types (location_type types f l)

abbrev pub operand_parts : Types → Function → Operand → Parts
operand_parts types f o = parts_if types (operand_type types f o)
